-- The numbers after a verb.
use Rattle.std.proofs.Common.{◌≡◌, ℕ, suc, ◌+◌, ◌-◌, ◌^◌, ◌<◌, List, [], ◌∷◌, ◌++◌, length, get_or, take, drop, Some, None, decimal, sym, refl, ap, ◌∙◌, append-nil, add-one, arith, length-drop, drop-cons}
use Rattle.std.proofs.lemmas.List.{take_all, drop-drop, take-append-drop}
use Rattle.script.specs.declared.line.Numbers.{Numbers}
use Rattle.script.specs.declared.line.Numbers.TheVariants.{Zero, One, Two}
use Rattle.script.specs.Text.{Reads, spaced}
use Rattle.script.specs.Order.{numbers_text, NumbersFit}
use Rattle.script.specs.Words.{WordEnd}
use Rattle.script.proofs.Reading.{reads_none, reads_some, never_read, only_read}
use Rattle.script.proofs.Words.{word_is, spaceless_number, back_is}

abbrev pub Small : ℕ → Type 0
Small n = n < 2 ^ 64

-- a text that begins with a space, and where the first word behind it ends
pub record Spaces (text : List ℕ) (e : ℕ) : Type 0 where
  pub some : 0 < length text
  pub space : get_or text 0 0 ≡ 32
  pub ends : WordEnd (drop 1 text) e

-- as the text is cut
pub spaces : (text : List ℕ) (e : ℕ) → (length text ≡ 0 → ⊥) → get_or text 0 0 ≡ 32 → WordEnd (take (length text - 1) (drop 1 text)) e → Spaces text e
spaces text e some space h = record { some = omega arith; space = space; ends = rw (back_is text 1) at h }

whole : (text : List ℕ) (e : ℕ) → Spaces text e → text ≡ 32 ∷ drop 1 text
whole text e s = drop-cons text 0 0 s.some ∙ ap (λ x. x ∷ drop 1 text) s.space

-- the words behind the space
abbrev Behind : List ℕ → ℕ → Numbers → Type 0
Behind rest e Zero = ⊥
Behind rest e (One a) = (take e rest ≡ decimal a) × (drop e rest ≡ [])
Behind rest e (Two a b) = (take e rest ≡ decimal a) × (drop e rest ≡ spaced b)

behind_space : (rest : List ℕ) (e : ℕ) (n : Numbers) → WordEnd rest e → NumbersFit n → 32 ∷ rest ≡ numbers_text n → Behind rest e n
behind_space rest e Zero h f p = absurd (omega (arith, ap length p))
behind_space rest e (One a) h f p =
    word_is rest (decimal a) [] e h (ap (drop 1) p ∙ sym (append-nil (decimal a))) (spaceless_number a f) (λ lt. absurd (omega arith))
behind_space rest e (Two a b) h f p =
    word_is rest (decimal a) (spaced b) e h (ap (drop 1) p) (spaceless_number a f.0) (λ lt. refl)

behind : (text : List ℕ) (e : ℕ) (n : Numbers) → Spaces text e → NumbersFit n → text ≡ numbers_text n → Behind (drop 1 text) e n
behind text e n s f p = behind_space (drop 1 text) e n s.ends f (sym (whole text e s) ∙ p)

bad_first : (rest : List ℕ) (e : ℕ) → Reads Small decimal (take e rest) None → (n : Numbers) → NumbersFit n → Behind rest e n → ⊥
bad_first rest e r Zero f h = h
bad_first rest e r (One a) f h = never_read Small decimal _ r a f h.0
bad_first rest e r (Two a b) f h = never_read Small decimal _ r a f.0 h.0

pub no_first : (text : List ℕ) (e : ℕ) → Spaces text e → Reads Small decimal (take e (drop 1 text)) None → Reads NumbersFit numbers_text text None
no_first text e s r = reads_none NumbersFit numbers_text text (λ n f p. bad_first (drop 1 text) e r n f (behind text e n s f p))

only_one : (rest : List ℕ) (e a : ℕ) → e ≡ length rest → Reads Small decimal (take e rest) (Some a) → (n : Numbers) → NumbersFit n → Behind rest e n → One a ≡ n
only_one rest e a all r Zero f h = absurd h
only_one rest e a all r (One b) f h = ap One (only_read Small decimal _ a r b f h.0)
only_one rest e a all r (Two b c) f h = absurd (omega (arith, ap length h.1, length-drop e rest))

pub one_number : (text : List ℕ) (e a : ℕ) → Spaces text e → e ≡ length (drop 1 text) → Reads Small decimal (take e (drop 1 text)) (Some a) → Reads NumbersFit numbers_text text (Some (One a))
one_number text e a s all r =
    let is = r.prints a refl in
    reads_some NumbersFit numbers_text text (One a) is.0
    (whole text e s ∙ ap (λ t. 32 ∷ t) (sym (take_all e (drop 1 text) (omega arith)) ∙ is.1))
    (λ n f p. only_one (drop 1 text) e a all r n f (behind text e n s f p))

bad_second : (rest : List ℕ) (e : ℕ) → e < length rest → Reads Small decimal (drop (e + 1) rest) None → (n : Numbers) → NumbersFit n → Behind rest e n → ⊥
bad_second rest e more r Zero f h = h
bad_second rest e more r (One a) f h = omega (arith, ap length h.1, length-drop e rest)
bad_second rest e more r (Two a b) f h = never_read Small decimal _ r b f.1 (sym (drop-drop 1 e rest) ∙ ap (drop 1) h.1)

pub no_second : (text : List ℕ) (e : ℕ) → Spaces text e → e < length (drop 1 text) → Reads Small decimal (drop (e + 1) (drop 1 text)) None → Reads NumbersFit numbers_text text None
no_second text e s more r = reads_none NumbersFit numbers_text text (λ n f p. bad_second (drop 1 text) e more r n f (behind text e n s f p))

only_two : (rest : List ℕ) (e a b : ℕ) → e < length rest → Reads Small decimal (take e rest) (Some a) → Reads Small decimal (drop (e + 1) rest) (Some b) → (n : Numbers) → NumbersFit n → Behind rest e n → Two a b ≡ n
only_two rest e a b more r q Zero f h = absurd h
only_two rest e a b more r q (One x) f h = absurd (omega (arith, ap length h.1, length-drop e rest))
only_two rest e a b more r q (Two x y) f h =
    let first = only_read Small decimal _ a r x f.0 h.0 in
    let second = only_read Small decimal _ b q y f.1 (sym (drop-drop 1 e rest) ∙ ap (drop 1) h.1) in
    cc

-- a space and what stands on both its sides
pub around : (t : List ℕ) (e : ℕ) (u v : List ℕ) → take e t ≡ u → get_or t e 0 ≡ 32 → e < length t → drop (e + 1) t ≡ v → t ≡ u ++ (32 ∷ v)
around t e u v front space lt back =
    let halves = take-append-drop e t in
    let second = drop-cons t e 0 lt in
    let next : drop (suc e) t ≡ v = rw (← add-one e) back in
    sym halves ∙ (ap (λ x. x ++ drop e t) front ∙ ap (λ x. u ++ x) (second ∙ cc))

pub two_numbers : (text : List ℕ) (e a b : ℕ) → Spaces text e → e < length (drop 1 text) → Reads Small decimal (take e (drop 1 text)) (Some a) → Reads Small decimal (drop (e + 1) (drop 1 text)) (Some b) → Reads NumbersFit numbers_text text (Some (Two a b))
two_numbers text e a b s more r q =
    let rest = drop 1 text in
    let first = r.prints a refl in
    let second = q.prints b refl in
    let words : rest ≡ decimal a ++ spaced b = around rest e (decimal a) (decimal b) first.1 (s.ends.stops more) more second.1 in
    reads_some NumbersFit numbers_text text (Two a b) (first.0, second.0) (whole text e s ∙ ap (λ t. 32 ∷ t) words)
    (λ n f p. only_two rest e a b more r q n f (behind text e n s f p))
