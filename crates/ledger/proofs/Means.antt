-- When a book stands in a state of the disk, and what comes back of it.
use Rattle.std.proofs.Common.{◌≡◌, ℕ, ◌≤◌, ◌⊎◌, inl, inr, ⊎_elim, List, length, sym, ap, ◌∙◌, subst}
use Rattle.store.specs.declared.head.Record.{Record}
use Rattle.store.specs.Medium.{Medium}
use Rattle.store.specs.State.{State, state_of, Same, Rested}
use Rattle.store.specs.State as store
use Rattle.pager.specs.Ground.{pairs_by, Grounded}
use Rattle.pager.proofs.Grounds.{ground_same}
use Rattle.ledger.specs.Ledger.{Pairs, after, limit, Fits, lasting, book_pairs, Lasts, Rests, Cut, CutEither}

-- the pairs of a state's tree
abbrev pub tree_of : State → Pairs
tree_of x = pairs_by x.root x.page

-- THE BOOK b STANDS IN THE STATE x of a disk of p pages
pub record Means (p : ℕ) (b : Pairs) (x : State) : Type 0 where
  pub ground : Grounded p x.root x.page
  pub few : length x.queue ≤ 32768
  pub fits : Fits (limit p) (tree_of x) x.queue
  pub book : after (tree_of x) x.queue ≡ b

pub same_tree : (p : ℕ) (x y : State) → Same p x y → Grounded p y.root y.page → tree_of x ≡ tree_of y
same_tree p x y s g = ap (λ r. pairs_by r x.page) s.root ∙ (ground_same p y.root y.page x.page s.page g).pairs

pub means_same : (p : ℕ) (b : Pairs) (x y : State) → Same p x y → Means p b y → Means p b x
means_same p b x y s k =
    let e : tree_of x ≡ tree_of y = same_tree p x y s k.ground in
    record {
      ground = subst (λ r. Grounded p r x.page) (sym s.root) (ground_same p y.root y.page x.page s.page k.ground).ground;
      few = subst (λ (q : List Record). length q ≤ 32768) (sym s.queue) k.few;
      fits = subst (λ t. Fits (limit p) t x.queue) (sym e) (subst (λ q. Fits (limit p) (tree_of y) q) (sym s.queue) k.fits);
      book = ap (λ t. after t x.queue) e ∙ ap (after (tree_of y)) s.queue ∙ k.book;
    }

pub means_lasts : (p : ℕ) (b : Pairs) (m : Medium) → Lasts p m → book_pairs m ≡ b → Means p b (lasting m)
means_lasts p b m l e = record { ground = l.ground; few = l.few; fits = l.fits; book = e }

pub lasts_means : (p : ℕ) (b : Pairs) (m : Medium) → m.pages ≡ p → 1024 ≤ p → p ≤ 4294967296 → Means p b (lasting m) → Lasts p m
lasts_means p b m pages big small k = record { pages = pages; big = big; small = small; ground = k.ground; few = k.few; fits = k.fits }

rests_means : (p : ℕ) (b : Pairs) (m : Medium) → m.pages ≡ p → 1024 ≤ p → p ≤ 4294967296 → Rested m → Means p b (lasting m) → Rests p m b
rests_means p b m pages big small r k = record { rested = r; lasts = lasts_means p b m pages big small k; book = k.book }

-- whatever comes back means what P says
module _ (p n : ℕ) (P : State → Type 0) (e : Medium) (same : n ≡ p) (big : 1024 ≤ p) (small : p ≤ 4294967296) (c : store.Cut n P e) where
  pub cut_means : (b : Pairs) → ((x : State) → P x → Means p b x) → Cut p b e
  cut_means b h = record { off = c.off; back = λ f k. let r = c.back f k in rests_means p b f (k.same ∙ c.pages ∙ same) big small r.0 (h (lasting f) r.1) }

  pub cut_either : (b d : Pairs) → ((x : State) → P x → Means p b x ⊎ Means p d x) → CutEither p b d e
  cut_either b d h = record {
    off = c.off;
    back = λ f k. let r = c.back f k in ⊎_elim
        (λ (y : Means p b (lasting f)). inl (rests_means p b f (k.same ∙ c.pages ∙ same) big small r.0 y))
        (λ (y : Means p d (lasting f)). inr (rests_means p d f (k.same ∙ c.pages ∙ same) big small r.0 y))
        (h (lasting f) r.1);
  }

-- nothing can have changed
pub cut_only : (p : ℕ) (b : Pairs) (e : Medium) → CutEither p b b e → Cut p b e
cut_only p b e c = record { off = c.off; back = λ f k. ⊎_elim (λ (y : Rests p f b). y) (λ (y : Rests p f b). y) (c.back f k) }

pub cut_first : (p : ℕ) (b d : Pairs) (e : Medium) → Cut p b e → CutEither p b d e
cut_first p b d e c = record { off = c.off; back = λ f k. inl (c.back f k) }
