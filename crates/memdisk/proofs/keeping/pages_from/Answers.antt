use Rattle.std.proofs.Common.{length, refl, arith, length-set, ◌∙◌}
use Rattle.memdisk.specs.Entries.{page_of}
use Rattle.memdisk.proofs.Counts.{written_next}
use Rattle.memdisk.proofs.keeping.pages_from.Goals.{then-k-saturating_sub, else-k-saturating_sub}
use Rattle.memdisk.proofs.keeping.pages_from.Goals as goal

pub loop-k-preserved : goal.loop-k-preserved
loop-k-preserved c =
    let es = c.args.entries.now in let at = c.loop-k in
    elim c.if-k-saturating_sub.branch [
      | then-k-saturating_sub w ↦ rw w.pages-is (record {
        long = length-set at.pages at.k _ ∙ at.invariant.long;
        written = written_next (page_of es) at.pages c.args.start (length es) at.k _ (omega arith) refl at.invariant.written;
      })
      | else-k-saturating_sub w ↦ rw w.pages-is (record {
        long = at.invariant.long;
        written = λ j b l. at.invariant.written j (omega (arith, w.if-k-saturating_sub.false, c.saturating_sub.ensures)) l;
      })
    ]
