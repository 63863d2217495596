use Rattle.std.proofs.Common.{◌+◌, ◌-◌, cond, eqb, length, get_or, take, refl, sym, ap, ◌∙◌, arith, length-set}
use Rattle.std.proofs.lemmas.List.{get_or-replicate}
use Rattle.memdisk.specs.Entries.{entries_of, page_of}
use Rattle.memdisk.proofs.Counts.{count_next, count_below, older_next}
use Rattle.memdisk.proofs.keeping.counts_from.Goals.{then-start-i+then-i-start-lt-AT_ONCE, else-start-i, else-start-i-via-then-start-i+else-i-start-lt-AT_ONCE, else-start-i-via-else-start-i}
use Rattle.memdisk.proofs.keeping.counts_from.Goals as goal

pub loop-i-init : goal.loop-i-init
unfolding entries_of
loop-i-init c = record { all = λ k h. get_or-replicate 128 k 0 0 h; long = refl; older = λ k h l. omega arith }

pub count-requires : goal.count-requires
count-requires c = λ k h. omega (arith, c.loop-i.invariant.all k h, count_below (get_or c.pages_from-pages.result k 0) c.args.entries.now c.loop-i.i c.loop-i-test.true)

pub loop-i-preserved : goal.loop-i-preserved
loop-i-preserved c =
    let es = c.args.entries.now in let at = c.loop-i in let ps = c.pages_from-pages.result in
    record {
      all = λ k h. c.count.ensures k h ∙ ap (λ n. n + cond (eqb (page_of es at.i) (get_or ps k 0)) 1 0) (at.invariant.all k h) ∙ sym (count_next (get_or ps k 0) es at.i c.loop-i-test.true);
      long = elim c.if-start-i.branch [
        | then-start-i+then-i-start-lt-AT_ONCE w ↦ rw w.older-is (length-set at.older (at.i - c.args.start) _ ∙ at.invariant.long)
        | else-start-i w ↦ rw w.older-is at.invariant.long
      ];
      older = elim c.if-start-i.branch [
        | then-start-i+then-i-start-lt-AT_ONCE w ↦ rw w.older-is (older_next (λ k m. length (entries_of (get_or ps k 0) (take m es))) at.older at.all c.args.start at.i (omega arith) (omega arith) at.invariant.all at.invariant.older)
        | else-start-i w ↦ rw w.older-is (λ k h l. at.invariant.older k h (elim w.else-start-i.branch [
          | else-start-i-via-then-start-i+else-i-start-lt-AT_ONCE v ↦ omega arith
          | else-start-i-via-else-start-i v ↦ omega arith
        ]))
      ];
    }
