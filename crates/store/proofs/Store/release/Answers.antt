use Rattle.store.proofs.Views.{intact_root}
use Rattle.store.proofs.Store.release.Goals as goal

pub returns-clause-staged : goal.returns-clause-staged
returns-clause-staged c = λ m i no' far near. c.write_page.ensures.staged m c.args.self.now i no' far near

pub returns-clause-intact : goal.returns-clause-intact
returns-clause-intact c = λ m i no' far near. intact_root m c.write_page.new.part c.args.self.now _ (c.write_page.ensures.staged m c.args.self.now i no' far near).intact
