use Rattle.std.proofs.Common.{◌≡◌, ℕ, ◌<◌, length, get_or, replicate, ap, ◌∙◌, arith, rules}
use Rattle.std.proofs.lemmas.List.{get_or-replicate}
use Rattle.pagemem.proofs.Marks.{clear_good, clear_empty}
use Rattle.pagemem.proofs.mem_tree.set_up.Goals as goal

pub returns-clause-good : goal.returns-clause-good
returns-clause-good c =
    let ms = c.fill.new.self in
    let n : length ms ≡ length c.args.marks.now = c.fill.ensures.len in
    let e : ms ≡ replicate (length c.args.marks.now) 0 = c.fill.ensures.after (λ y h. search rules) in
    let all : (k : ℕ) → k < length ms → get_or ms k 0 ≡ 0 = λ k h. ap (λ ms. get_or ms k 0) e ∙ get_or-replicate (length c.args.marks.now) k 0 0 (omega arith) in
    clear_good ms (omega (arith, c.requires.0)) all c.args.words.now (omega (arith, c.requires.1.0)) (omega (arith, c.requires.1.1))

pub returns-clause-empty : goal.returns-clause-empty
returns-clause-empty c = clear_empty _
