use Rattle.std.proofs.Common.{refl}
use Rattle.store.proofs.Views.{given_new, given_old}
use Rattle.store.proofs.Store.alloc.Goals as goal

pub returns-then-free-eq0-clause-allocs : goal.returns-then-free-eq0-clause-allocs
returns-then-free-eq0-clause-allocs g c = given_new _ c.args.part.now c.args.self.now c.requires.intact c.if-free-eq0.true

pub returns-clause-allocs : goal.returns-clause-allocs
returns-clause-allocs g c = given_old _ _ c.args.part.now c.read_page.new.part c.args.self.now c.read_page.new.into _ c.if-free-eq0.false c.in_ok-read_page.ensures.got refl
