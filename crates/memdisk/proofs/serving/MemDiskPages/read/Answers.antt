use Rattle.std.proofs.Common.{◌≡◌, false, ap, ◌∙◌, is_ok, rules}
use Rattle.memdisk.proofs.Disks.{reading_served, reading_goes}
use Rattle.memdisk.proofs.serving.MemDiskPages.read.Goals as goal

pub returns-in_err-ask-clause-reads : goal.returns-in_err-ask-clause-reads
returns-in_err-ask-clause-reads c =
    let goes : is_ok c.from_residual.result ≡ false = search rules in
    rw goes (reading_goes c.args.self.now c.ask.new.self c.ask.result c.args.p _ c.ask.ensures (ap is_ok c.in_err-ask.was))

pub returns-clause-reads : goal.returns-clause-reads
returns-clause-reads c =
    reading_served c.args.self.now c.ask.new.self c.ask.result c.args.p _ c.ask.ensures (ap is_ok c.in_ok-ask.was) (c.copy_from_slice.ensures.after ∙ c.look.ensures.words)
