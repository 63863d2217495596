use Rattle.std.proofs.Common.{sym}
use Rattle.ledger.proofs.Settling.{along_imaged}
use Rattle.ledger.proofs.part.settle.Goals as goal

pub take_batch-requires-clause-imaged : goal.take_batch-requires-clause-imaged
take_batch-requires-clause-imaged g c = along_imaged c.args.store.now.imaged c.args.store.now.lasted (sym c.if-takes_along.ensures)
