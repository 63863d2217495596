use Rattle.std.proofs.Common.{◌^◌, ◌<◌, Some, None, sym, ◌∙◌, arith, rules}
use Rattle.view.specs.Room.{says_of}
use Rattle.view.proofs.Onward.{ahead_less, walk_more, walk_silent, walk_there, walk_ends}
use Rattle.view.proofs.sight.Sight.walk.Goals as goal

pub loop-t-preserved : goal.loop-t-preserved
loop-t-preserved c =
    λ r w. c.loop-t.invariant r (walk_more (says_of c.args.self.now) c.loop-t.t c.in-Some-Away.above c.args.first r c.in-Some.p c.in-Some.is (cc) w)

pub returns-in_default-says-2 : goal.returns-in_default-says-2
returns-in_default-says-2 c = c.loop-t.invariant (Some c.in-Some.p) (walk_silent (says_of c.args.self.now) c.loop-t.t c.in-Some.p c.in-Some.is (sym c.in_default-says.is ∙ c.says.ensures))

pub returns-in_default-says : goal.returns-in_default-says
returns-in_default-says c = c.loop-t.invariant (Some c.in-Some.p) (walk_there (says_of c.args.self.now) c.loop-t.t c.in-Some.p c.in_default-says.field-0 c.in-Some.is (sym c.in_default-says.is ∙ c.says.ensures) (λ n e. search rules))

pub returns : goal.returns
returns c = c.loop-t.invariant None (walk_ends (says_of c.args.self.now) c.loop-t.t c.in_default.is)
