-- What is told in a deal is what look-ups tell, in its own writes and in the book.
use Rattle.std.proofs.Common.{◌≡◌, ℕ, List, [], map, length, sym, ◌∙◌, ap₂}
use Rattle.std.proofs.lemmas.List.{length-map}
use Rattle.deals.specs.declared.Op.{Op}
use Rattle.deals.specs.declared.Answer.{Answer}
use Rattle.deals.specs.Deals.{Book, Said, step, told}
use Rattle.deals.proofs.Books.{Up, find}
use Rattle.deals.proofs.Writes.{sees, onto, up_onto, find_onto, writes_at, effect, leaves_onto, marks_onto}
use Rattle.deals.proofs.Others.{Tells, tells_is, tells_only, tells_by}

-- what is told is what look-ups tell
pub told_is : (o : Op) (ss : List Said) (b : Book) (a : Answer) → Up 0 b → Tells o (sees b (effect ss)) (length (writes_at ss [] [])) a → told o ss b ≡ a
told_is o ss b a u h =
    let f : ℕ → Answer = λ j. find j (onto b (effect ss)) in
    let m = writes_at ss [] [] in
    let is : Tells o f (length m) (step o (onto b (effect ss)) (map (onto b) m)).answer = rw (length-map m (onto b)) at (tells_is o (onto b (effect ss)) (map (onto b) m) (up_onto b (effect ss) u)) in
    let then : Tells o f (length m) a = tells_by o (sees b (effect ss)) f (length m) a (λ j t. sym (find_onto j b (effect ss) u)) h in
    ap₂ (λ x y. (step o x y).answer) (leaves_onto b ss [] []) (marks_onto b ss [] []) ∙ tells_only o f (length m) (step o (onto b (effect ss)) (map (onto b) m)).answer a is then
