-- A tree and a free list on the data pages: how much room is left, and pages that look the same.
use Rattle.std.proofs.Common.{◌≡◌, ℕ, zero, suc, ◌+◌, ◌-◌, ◌*◌, ◌<◌, ◌≤◌, List, [], ◌++◌, length, sym, refl, ap, ◌∙◌, arith}
use Rattle.std.proofs.lemmas.List.{length-append}
use Rattle.store.specs.declared.head.Root.{Root}
use Rattle.store.specs.State.{empty}
use Rattle.tree.specs.State.{PageState}
use Rattle.tree.specs.Tree.{occ, Sound, pairs_of_tree, pages_of_tree, root_min, keys_end}
use Rattle.tree.proofs.Kids.{occ-++}
use Rattle.tree.proofs.Alike.{alike}
use Rattle.tree.proofs.Below.{all_from}
use Rattle.tree.proofs.Sizes.{few_pages, low_trees}
use Rattle.pager.specs.Ground.{in_use, free_by, taken_by, room_by, Frees, pairs_by, pages_by, still, Grounded}
use Rattle.pager.proofs.Links.{in_use_none, in_use_low, in_use_here, in_use_past}
use Rattle.pager.proofs.Frees.{SameFree, frees_is, frees_same, taken_once, taken_within, taken_range, free_range}

-- a blank disk: no tree, and no page was ever used
pub blank_ground : (p : ℕ) (v : ℕ → List ℕ) → 393 ≤ p → Grounded p empty.root v
unfolding Sound pairs_of_tree pages_of_tree
blank_ground p v h =
    let g = frees_is p empty.root v [] refl (λ q. omega arith) h in
    record { frees = g.1; sound = tt; whole = λ q. omega (arith, in_use_none q); pairs = refl }

-- the pages of the tree and the free ones are those that were ever used
pub counted : (p : ℕ) (r : Root) (v : ℕ → List ℕ) → Grounded p r v → length (pages_by r v) + length (free_by r v) ≡ r.used
counted p r v g =
    let ps = pages_by r v in let fs = free_by r v in
    let each : (q : ℕ) → occ q (ps ++ fs) ≡ in_use r.used q = λ q. omega (arith, occ-++ q ps fs, g.whole q, g.frees.once q) in
    let n = all_from 393 (393 + r.used) (ps ++ fs) (λ q l. each q ∙ in_use_low r.used q l) (λ q l h. each q ∙ in_use_here r.used q l h) (λ q l. each q ∙ in_use_past r.used q l) in
    omega (arith, n, length-append ps fs)

-- all data pages but the tree's can be handed out
pub room_is : (p : ℕ) (r : Root) (v : ℕ → List ℕ) → Grounded p r v → (room_by p r v + length (pages_by r v)) + 393 ≡ p
room_is p r v g = omega (arith, counted p r v g, g.frees.near)

-- a tree of few pairs leaves room for more pages than a put takes
pub room_left : (p : ℕ) (r : Root) (v : ℕ → List ℕ) → Grounded p r v → r.pairs < 84 * (p - 424) → 7 ≤ room_by p r v
room_left p r v g h = omega (arith, h, room_is p r v g, few_pages (still p r v) r.height r.page g.sound, g.pairs)

-- on a disk of at most 2^32 pages
pub ground_low : (p : ℕ) (r : Root) (v : ℕ → List ℕ) → Grounded p r v → p ≤ 4294967296 → r.height ≤ 6
ground_low p r v g h = low_trees (still p r v) r.height r.page p g.sound (taken_once r v) (taken_within p r v g.frees) h

pub record SameTree (d e : PageState) (height root : ℕ) : Type 0 where
  pub sound : Sound e height root
  pub pairs : pairs_of_tree e.page height root ≡ pairs_of_tree d.page height root
  pub pages : pages_of_tree e.page height root ≡ pages_of_tree d.page height root

-- a tree whose pages look the same and are taken is the same tree
pub tree_same : (d e : PageState) (height root : ℕ) → ((q : ℕ) → 1 ≤ occ q (pages_of_tree d.page height root) → e.page q ≡ d.page q) → ((q : ℕ) → d.taken q ≤ e.taken q) → Sound d height root → SameTree d e height root
unfolding Sound pairs_of_tree pages_of_tree
tree_same d e zero root h t s = record { sound = tt; pairs = refl; pages = refl }
tree_same d e (suc l) root h t s =
    let a = alike d.page e.page l root h in
    record { sound = (a.well (root_min l) 0 keys_end s.0, (λ q. omega (arith, s.1 q, t q, ap (λ ps. occ q ps) a.pages))); pairs = a.pairs; pages = a.pages }

pub record SameGround (p : ℕ) (r : Root) (v w : ℕ → List ℕ) : Type 0 where
  pub ground : Grounded p r w
  pub free : SameFree p r v w
  pub pairs : pairs_by r w ≡ pairs_by r v
  pub pages : pages_by r w ≡ pages_by r v

-- only data pages matter
pub ground_same : (p : ℕ) (r : Root) (v w : ℕ → List ℕ) → ((q : ℕ) → 393 ≤ q → q < p → w q ≡ v q) → Grounded p r v → SameGround p r v w
ground_same p r v w h g =
    let f = frees_same p r v w (λ q o. let t = free_range p r v g.frees q o in h q t.0 t.1) g.frees in
    let same : (q : ℕ) → taken_by r w q ≡ taken_by r v q = λ q. ap (λ (t : ℕ → ℕ). t q) f.taken in
    let t = tree_same (still p r v) (still p r w) r.height r.page (λ q o. let t = taken_range p r v g.frees q (omega (arith, g.whole q)) in h q t.0 t.1) (λ q. omega (arith, same q)) g.sound in
    record {
      ground = record { frees = f.frees; sound = t.sound; whole = λ q. omega (arith, ap (λ ps. occ q ps) t.pages, g.whole q, same q); pairs = g.pairs ∙ ap length (sym t.pairs) };
      free = f;
      pairs = t.pairs;
      pages = t.pages;
    }

-- what a put or a drop leaves: the tree took or gave back just the pages by which the taken ones changed
pub ground_step : (p : ℕ) (r s : Root) (d e : PageState) → Grounded p r d.page → Frees p s e.page → ((q : ℕ) → d.taken q ≡ taken_by r d.page q) → ((q : ℕ) → e.taken q ≡ taken_by s e.page q) → Sound e s.height s.page →
    ((q : ℕ) → occ q (pages_by s e.page) + d.taken q ≡ occ q (pages_by r d.page) + e.taken q) → s.pairs ≡ length (pairs_by s e.page) → Grounded p s e.page
ground_step p r s d e g f dt et so pages n =
    let t = tree_same e (still p s e.page) s.height s.page (λ q o. refl) (λ q. omega (arith, et q)) so in
    record { frees = f; sound = t.sound; whole = λ q. omega (arith, pages q, g.whole q, dt q, et q); pairs = n }
