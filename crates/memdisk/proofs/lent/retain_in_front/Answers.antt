use Rattle.std.proofs.Common.{◌<◌, length, arith, of_calls}
use Rattle.std.specs.Fn.{CalledAtMut}
use Rattle.std.proofs.lemmas.List.{get_or_default}
use Rattle.std.proofs.RetainMut.{Called-Mut, retain_mut_end}
use Rattle.memdisk.proofs.Retaining.{retained, retained_there, discarded}
use Rattle.memdisk.proofs.lent.retain_in_front.Goals.{then-keep, else-keep, then-kept-i, else-kept-i}
use Rattle.memdisk.proofs.lent.retain_in_front.Goals as goal

pub loop-i-preserved : goal.loop-i-preserved
loop-i-preserved g c =
    let at = c.loop-i in
    let R = CalledAtMut g.F.FnMut in
    let called = Called-Mut g.F.FnMut c.keep.ensures in
    let within : at.i < length at.items = omega arith in
    elim c.if-keep.branch [
      | then-keep w ↦ (
        omega arith,
        search of_calls,
        elim w.if-kept-i.branch [
          | then-kept-i v ↦ rw (w.items-is, v.items-is, w.kept-is, v.swap.ensures.after)
              (retained R c.args.keep c.args.items.now at.keep _ at.items at.kept at.i _ _ at.invariant.0 within
              (get_or_default at.items at.i _ _ within) at.invariant.2 (rw w.if-keep.true at called))
          | else-kept-i v ↦ rw (w.items-is, v.items-is, w.kept-is)
              (retained_there R c.args.keep c.args.items.now at.keep _ at.items at.kept at.i _ _ at.invariant.0 within
              (get_or_default at.items at.i _ _ within) at.invariant.2 v.if-kept-i.false (rw w.if-keep.true at called))
        ],
      )
      | else-keep w ↦ (
        omega arith,
        search of_calls,
        rw (w.items-is, w.kept-is)
            (discarded R c.args.keep c.args.items.now at.keep _ at.items at.kept at.i _ _ at.invariant.0 within
            (get_or_default at.items at.i _ _ within) at.invariant.2 (rw w.if-keep.false at called)),
      )
    ]

pub returns-clause-kept : goal.returns-clause-kept
returns-clause-kept g c =
    let at = c.loop-i in
    retain_mut_end (CalledAtMut g.F.FnMut) _ _ at.keep at.items at.kept at.i (omega arith) at.invariant.2
