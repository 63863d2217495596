-- The disk after each asking, as the traits say it.
use Rattle.std.proofs.Common.{◌≡◌, ℕ, ◌-◌, ◌/◌, ◌<◌, is_none, Bool, true, false, not, T, ◌⊎◌, List, [], ◌∷◌, length, Some, None, Option, Err, is_ok, sym, refl, ap, ◌∙◌, subst, inl, inr}
use mathlib.Core.List.{Memᴰ}
use Rattle.std.proofs.lemmas.Bool.{cases_eq}
use Rattle.deals.specs.Disk.{Disk, disk, dark, at, Reading, Writing, Syncing, Back, Within}
use Rattle.memdisk.specs.declared.MemDisk.{MemDisk}
use Rattle.memdisk.specs.declared.asking.Outage.TheVariants.{Cut, Dark}
use Rattle.memdisk.specs.declared.keeping.Entry.{Entry}
use Rattle.pages.specs.Pages.{page_at, pages_in}
use Rattle.memdisk.specs.Entries.{entries_of, kept}
use Rattle.memdisk.specs.Dues.{coming}
use Rattle.memdisk.specs.Memory.{room_of, table_in, dues_in, may_of, disk_of, Asked, asked_of, picked, chosen, on_of, choice_of, Asking, Keeping}
use Rattle.memdisk.proofs.Places.{at_same, at_other}
use Rattle.memdisk.proofs.Leaving.{may_here, within_shown, within_kept}
use Rattle.memdisk.proofs.Entries.{get_d_mem}

abbrev made : List ℕ → List Entry → Bool → ℕ → Disk
made ws es o l = record { pages = pages_in ws; shown = page_at ws; may = may_of ws es; on = o; left = l }

made_same : (ws vs : List ℕ) (es fs : List Entry) (o b : Bool) (l k : ℕ) → vs ≡ ws → fs ≡ es → b ≡ o → k ≡ l → made vs fs b k ≡ made ws es o l
made_same ws vs es fs o b l k w e t n = ap (λ vs. made vs fs b k) w ∙ ap (λ fs. made ws fs b k) e ∙ ap (λ b. made ws es b k) t ∙ ap (made ws es o) n

lit_served : (b : Bool) (o : Option ℕ) → is_ok (asked_of b o) ≡ true → b ≡ true
lit_served true o e = refl
lit_served false o e = cc

lit_cut : (b : Bool) (o : Option ℕ) → Err Cut ≡ asked_of b o → T b
lit_cut true o e = tt
lit_cut false o e = cc

off_dark : (b : Bool) (o : Option ℕ) → Err Dark ≡ asked_of b o → T (not b)
off_dark true None e = cc
off_dark true (Some s) e = cc
off_dark false o e = tt

lit : (m n : MemDisk) (r : Asked) → Asking m r n → is_ok r ≡ true → on_of m ≡ true
lit m n r a t = lit_served (on_of m) (coming (dues_in m)) (sym (ap is_ok a.told) ∙ t)

lit_T : (b : Bool) → b ≡ true → T b
lit_T true e = tt
lit_T false e = cc

-- an asking that is served, or not, and does nothing else
served_is : (m n : MemDisk) (r : Asked) → Asking m r n → is_ok r ≡ true → disk_of n ≡ disk (disk_of m).shown (disk_of m).may (disk_of m)
served_is m n r a t = made_same m.shown.now n.shown.now (table_in m) (table_in n) (on_of m) (on_of n) (m.left - 1) n.left a.pages.shown (ap (λ b. b.items) a.pages.saved) (a.counts.on ∙ t ∙ sym (lit m n r a t)) a.left

dark_is : (m n : MemDisk) (r : Asked) → Asking m r n → is_ok r ≡ false → disk_of n ≡ dark (disk_of m)
dark_is m n r a f = made_same m.shown.now n.shown.now (table_in m) (table_in n) false (on_of n) (m.left - 1) n.left a.pages.shown (ap (λ b. b.items) a.pages.saved) (a.counts.on ∙ f) a.left

pub reading_served : (m n : MemDisk) (r : Asked) (p : ℕ) (b : List ℕ) → Asking m r n → is_ok r ≡ true → b ≡ page_at n.shown.now p → Reading (disk_of m) p b true (disk_of n)
reading_served m n r p b a t e =
    let same : b ≡ page_at m.shown.now p = e ∙ ap (λ ws. page_at ws p) a.pages.shown in
    subst (λ b. Reading (disk_of m) p b true (disk_of n)) (sym same) (subst (Reading (disk_of m) p (page_at m.shown.now p) true) (sym (served_is m n r a t)) (Reading.reads (lit_T (on_of m) (lit m n r a t))))

pub reading_goes : (m n : MemDisk) (r : Asked) (p : ℕ) (b : List ℕ) → Asking m r n → is_ok r ≡ false → Reading (disk_of m) p b false (disk_of n)
reading_goes m n r p b a f = subst (Reading (disk_of m) p b false) (sym (dark_is m n r a f)) (Reading.goes b)

-- A WRITE
page_done : (ws vs b : List ℕ) (p : ℕ) → page_at vs ≡ at p b (page_at ws) → (q : ℕ) → (page_at vs q ≡ page_at ws q) ⊎ ((q ≡ p) × (page_at vs q ≡ b))
page_done ws vs b p e q = elim (cases_eq q p) [
  | inl i ↦ inr (i, ap (λ f. f q) e ∙ at_same p q b (page_at ws) i)
  | inr n ↦ inl (ap (λ f. f q) e ∙ at_other p q b (page_at ws) n)
]

abbrev entry : ℕ → List ℕ → Entry
entry p ws = record { page = p; words = ws }

done_made : (ws vs b : List ℕ) (es : List Entry) (r p : ℕ) (o : Bool) (l : ℕ) → T o → page_at vs ≡ at p b (page_at ws) → pages_in vs ≡ pages_in ws → Writing (made ws es o l) p b true (made vs (kept r (entry p (page_at ws p)) es) o (l - 1))
done_made ws vs b es r p o l t e n =
    let may = may_of vs (kept r (entry p (page_at ws p)) es) in
    let is : disk (at p b (page_at ws)) may (made ws es o l) ≡ made vs (kept r (entry p (page_at ws p)) es) o (l - 1) =
    ap (λ f. disk f may (made ws es o l)) (sym e) ∙ ap (λ (n : ℕ). record { pages = n; shown = page_at vs; may = may; on = o; left = l - 1 }) (sym n) in
    subst (Writing (made ws es o l) p b true) is (Writing.done may t (within_kept ws vs b es r p (entry p (page_at ws p)) n refl (inr refl) (page_done ws vs b p e)))

pub writing_done : (m n k : MemDisk) (r : Asked) (p : ℕ) (b vs : List ℕ) → Asking m r n → is_ok r ≡ true → Keeping n (entry p (page_at n.shown.now p)) k → page_at vs ≡ at p b (page_at k.shown.now) → length vs ≡ length k.shown.now →
    Writing (disk_of m) p b true (made vs (table_in k) (on_of k) k.left)
writing_done m n k r p b vs a t g e l =
    let ws = m.shown.now in
    let shown : k.shown.now ≡ ws = g.shown ∙ a.pages.shown in
    let pages : pages_in vs ≡ pages_in ws = ap (λ n. n / 512) (l ∙ ap length shown) in
    let table : table_in k ≡ kept (room_of n) (entry p (page_at ws p)) (table_in m) = g.table ∙ ap (λ ws. kept (room_of n) (entry p (page_at ws p)) (table_in n)) a.pages.shown ∙ ap (kept (room_of n) (entry p (page_at ws p))) (ap (λ b. b.items) a.pages.saved) in
    subst (Writing (disk_of m) p b true)
    (sym (made_same vs vs (kept (room_of n) (entry p (page_at ws p)) (table_in m)) (table_in k) (on_of m) (on_of k) (m.left - 1) k.left refl table (ap is_none g.power.cut ∙ a.counts.on ∙ t ∙ sym (lit m n r a t)) (g.power.left ∙ a.left)))
    (done_made ws vs b (table_in m) (room_of n) p (on_of m) m.left (lit_T (on_of m) (lit m n r a t)) (e ∙ ap (λ ws. at p b (page_at ws)) shown) pages)

pub writing_cut : (m n k : MemDisk) (p l : ℕ) (b : List ℕ) → Asking m (Err Cut) n → Keeping n (entry p b) k → l ≡ k.left - 1 → Writing (disk_of m) p b false (made k.shown.now (table_in k) (on_of k) l)
writing_cut m n k p l b a g e =
    let ws = m.shown.now in let es = kept (room_of n) (entry p b) (table_in m) in
    subst (Writing (disk_of m) p b false)
    (sym (made_same ws k.shown.now es (table_in k) false (on_of k) (m.left - 1 - 1) l (g.shown ∙ a.pages.shown) (g.table ∙ ap (kept (room_of n) (entry p b)) (ap (λ b. b.items) a.pages.saved)) (ap is_none g.power.cut ∙ a.counts.on) (e ∙ ap (λ l. l - 1) (g.power.left ∙ a.left))))
    (Writing.goes (may_of ws es) (lit_cut (on_of m) (coming (dues_in m)) a.told) (within_kept ws ws b (table_in m) (room_of n) p (entry p b) refl refl (inl refl) (λ q. inl refl)))

pub writing_dark : (m n : MemDisk) (p : ℕ) (b : List ℕ) → Asking m (Err Dark) n → Writing (disk_of m) p b false (disk_of n)
writing_dark m n p b a = subst (Writing (disk_of m) p b false) (sym (dark_is m n (Err Dark) a refl)) (Writing.gone (off_dark (on_of m) (coming (dues_in m)) a.told))

-- A SYNC
pub syncing_done : (m n : MemDisk) (r : Asked) (es : List Entry) → Asking m r n → is_ok r ≡ true → es ≡ [] → Syncing (disk_of m) true (made n.shown.now es (on_of n) n.left)
syncing_done m n r es a t z =
    let ws = m.shown.now in
    subst (Syncing (disk_of m) true)
    (sym (made_same ws n.shown.now [] es (on_of m) (on_of n) (m.left - 1) n.left a.pages.shown z (a.counts.on ∙ t ∙ sym (lit m n r a t)) a.left))
    (Syncing.done (may_of ws []) (lit_T (on_of m) (lit m n r a t)) (within_shown ws))

pub syncing_goes : (m n : MemDisk) (r : Asked) (l : ℕ) → Asking m r n → is_ok r ≡ false → l ≡ n.left - 1 → Syncing (disk_of m) false (made n.shown.now (table_in n) (on_of n) l)
syncing_goes m n r l a f e =
    subst (Syncing (disk_of m) false)
    (sym (made_same m.shown.now n.shown.now (table_in m) (table_in n) false (on_of n) (m.left - 1 - 1) l a.pages.shown (ap (λ b. b.items) a.pages.saved) (a.counts.on ∙ f) (e ∙ ap (λ l. l - 1) a.left)))
    (Syncing.goes (disk_of m).may (λ p b h. h))

-- THE POWER COMES BACK
pub backs : (m : MemDisk) (vs : List ℕ) (es : List Entry) (o : Bool) (l : ℕ) → ((p : ℕ) → p < pages_in m.shown.now → page_at vs p ≡ chosen (choice_of m) m.shown.now (table_in m) p) → length vs ≡ length m.shown.now → es ≡ [] → o ≡ true → Back (disk_of m) (made vs es o l)
backs m vs es o l each same z t = record {
  same = ap (λ n. n / 512) same;
  lit = t;
  each = λ p h. subst (Memᴰ (page_at vs p)) (sym (may_here m.shown.now (table_in m) p h)) (subst (λ x. Memᴰ x (page_at m.shown.now p ∷ entries_of p (table_in m))) (sym (each p h)) (get_d_mem (page_at m.shown.now p) (entries_of p (table_in m)) (picked (choice_of m) (table_in m) p)));
  only = subst (λ es. Within (may_of vs es) (λ p. page_at vs p ∷ [])) (sym z) (within_shown vs);
}
