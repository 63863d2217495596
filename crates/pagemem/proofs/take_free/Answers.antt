use Rattle.std.proofs.Common.{ap, arith}
use Rattle.std.proofs.lemmas.List.{take_rest}
use Rattle.pagemem.specs.Memory.{free}
use Rattle.pagemem.proofs.Marks.{some_free}
use Rattle.pagemem.proofs.take_free.Goals as goal

pub unwrap-p-requires : goal.unwrap-p-requires
unwrap-p-requires c = some_free _ c.first_free.result _ (omega (arith, c.requires, ap free (take_rest c.args.marks.now 1))) c.first_free.ensures
