use Rattle.std.proofs.Common.{refl, ap, ◌∙◌}
use Rattle.memdisk.proofs.Table.{push_is, kept_full, kept_more}
use Rattle.memdisk.proofs.MemDisk.keep.Goals as goal
use Rattle.memdisk.proofs.MemDisk.keep.Goals.{then-is_full, else-is_full}

pub returns : goal.returns
returns c =
    let m = c.args.self.now in let e = c.args.entry in let is = c.is_full.ensures in
    let push = push_is c.try_push.result c.if-is_full.self.saved c.try_push.new.self e c.try_push.ensures.room c.try_push.ensures.pushed c.try_push.ensures.refused in
    elim c.if-is_full.branch [
      | then-is_full w ↦
          let p = rw (w.self-is, w.clear.ensures) at push in
          rw w.self-is (record {
            table = ap (λ b. b.items) p ∙ kept_full m.saved.room e m.saved.items (is.full.0 w.if-is_full.true);
            shown = refl;
            power = record { cut = refl; left = refl; due = refl };
          })
      | else-is_full w ↦
          let p = rw w.self-is at push in
          rw w.self-is (record {
            table = ap (λ b. b.items) p ∙ kept_more m.saved.room e m.saved.items (λ f. let z = is.full.1 f in cc) is.within;
            shown = refl;
            power = record { cut = refl; left = refl; due = refl };
          })
    ]
