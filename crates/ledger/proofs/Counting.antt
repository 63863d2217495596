-- Lines as records: what they write, how many they are, and how many pairs they make at most.
use Rattle.std.proofs.Common.{◌≡◌, ℕ, ◌+◌, ◌≤◌, List, [], ◌∷◌, ◌++◌, length, take, drop, map, sym, refl, ap, ◌∙◌, inl, inr, arith}
use Rattle.std.proofs.lemmas.List.{length-map, map-append, take-append-drop}
use Rattle.std.proofs.lemmas.Bool.{lt-ltb, le-ltb, eq-eqb, ne_eqb, cases_order}
use Rattle.node.specs.Pairs.{put_in, drop_in}
use Rattle.lines.specs.declared.line.Line.{Line}
use Rattle.lines.specs.declared.line.Line.TheVariants.{Wrote, Cleared}
use Rattle.lines.specs.Lines.{bare}
use Rattle.store.specs.declared.head.Record.{Record}
use Rattle.store.specs.declared.head.Record.TheVariants.{Put, Drop}
use Rattle.view.specs.Adds.{writing}
use Rattle.view.specs.Writes.{with_lines}
use Rattle.ledger.specs.Ledger.{Pairs, line_of, after}
use Rattle.ledger.specs.Commits.{records_by, put_of, puts_in}

length_put : (k x : ℕ) (t : Pairs) → length (put_in k x t) ≤ length t + 1
length_put k x [] = omega arith
length_put k x (e ∷ t) = elim (cases_order e.0 k) [
  | inl z ↦ rw (le-ltb e.0 k (omega arith), eq-eqb e.0 k z) (omega arith)
  | inr (inl l) ↦ rw (lt-ltb e.0 k l) (omega (arith, length_put k x t))
  | inr (inr g) ↦ rw (le-ltb e.0 k (omega arith), ne_eqb e.0 k (λ z. omega (arith, z))) (omega arith)
]

length_dropped : (k : ℕ) (t : Pairs) → length (drop_in k t) ≤ length t
length_dropped k [] = omega arith
length_dropped k (e ∷ t) = elim (cases_order e.0 k) [
  | inl z ↦ rw (eq-eqb e.0 k z) (omega arith)
  | inr (inl l) ↦ rw (ne_eqb e.0 k (λ z. omega (arith, z))) (omega (arith, length_dropped k t))
  | inr (inr g) ↦ rw (ne_eqb e.0 k (λ z. omega (arith, z))) (omega (arith, length_dropped k t))
]

pub length_after : (t : Pairs) (ls : List Line) → length (with_lines t ls) ≤ length t + puts_in ls
length_after t [] = omega arith
length_after t (Wrote k x ∷ ls) = omega (arith, length_after (put_in k x t) ls, length_put k x t)
length_after t (Cleared k s ∷ ls) = omega (arith, length_after (drop_in k t) ls, length_dropped k t)
length_after t (l ∷ ls) = omega (arith, length_after t ls)

pub puts_append : (a b : List Line) → puts_in (a ++ b) ≡ puts_in a + puts_in b
puts_append [] b = omega arith
puts_append (l ∷ a) b = omega (arith, puts_append a b)

put_bare : (l : Line) → put_of (bare l) ≡ put_of l
put_bare (Cleared k s) = refl
put_bare l = refl

pub puts_bare : (ls : List Line) → puts_in (map bare ls) ≡ puts_in ls
puts_bare [] = refl
puts_bare (l ∷ ls) = omega (arith, put_bare l, puts_bare ls)

pub puts_records : (ls : List Line) → puts_in (map line_of (records_by ls)) ≡ puts_in ls
puts_records [] = refl
puts_records (Wrote k x ∷ ls) = ap (λ n. 1 + n) (puts_records ls)
puts_records (Cleared k s ∷ ls) = ap (λ n. 0 + n) (puts_records ls)
puts_records (l ∷ ls) = omega (arith, puts_records ls)

-- the puts of some of the records
pub puts_some : (i : ℕ) (rs : List Record) → puts_in (map line_of (take i rs)) ≤ puts_in (map line_of rs)
puts_some i rs = omega (arith, puts_append (map line_of (take i rs)) (map line_of (drop i rs)), ap puts_in (sym (map-append line_of (take i rs) (drop i rs)) ∙ ap (map line_of) (take-append-drop i rs)))

pub after_records : (b : Pairs) (ls : List Line) → after b (records_by ls) ≡ with_lines b ls
after_records b [] = refl
after_records b (Wrote k x ∷ ls) = after_records (put_in k x b) ls
after_records b (Cleared k s ∷ ls) = after_records (drop_in k b) ls
after_records b (l ∷ ls) = after_records b ls

pub bare_records : (ls : List Line) → map bare (writing ls) ≡ map line_of (records_by ls)
bare_records [] = refl
bare_records (Wrote k x ∷ ls) = ap (λ r. line_of (Put k x) ∷ r) (bare_records ls)
bare_records (Cleared k s ∷ ls) = ap (λ r. line_of (Drop k) ∷ r) (bare_records ls)
bare_records (l ∷ ls) = bare_records ls

pub length_records : (ls : List Line) → length (records_by ls) ≡ length (writing ls)
length_records ls = sym (length-map (records_by ls) line_of) ∙ ap length (sym (bare_records ls)) ∙ length-map (writing ls) bare

pub records_few : (ls : List Line) → length (records_by ls) ≤ length ls
records_few [] = omega arith
records_few (Wrote k x ∷ ls) = omega (arith, records_few ls)
records_few (Cleared k s ∷ ls) = omega (arith, records_few ls)
records_few (l ∷ ls) = omega (arith, records_few ls)
