use Rattle.std.proofs.Common.{rules, arith}
use Rattle.player.proofs.PlayingLemmas.{dark_begins, dark_goes_on, opens_at_last, opens_never}
use Rattle.player.proofs.stage.Stage.next_life.Goals as goal

pub loop-before-init : goal.loop-before-init
loop-before-init g c = let dark = dark_begins {E = g.O.Engine} {K = g.S.Sink} c.args.past c.args.self.now.out.now in search rules

pub returns-in-Ok-clause-played : goal.returns-in-Ok-clause-played
returns-in-Ok-clause-played g c = opens_at_last c.loop-before.invariant.1 c.open_office.ensures.out c.in-Ok.ensures.opens

pub loop-before-preserved : goal.loop-before-preserved
loop-before-preserved g c = let dark = dark_goes_on c.loop-before.invariant.1 c.open_office.ensures.out c.come_back.ensures.told in search rules

pub returns-clause-played : goal.returns-clause-played
returns-clause-played g c = opens_never c.loop-before.invariant.1 (λ low. let end = c.loop-before.auto.before-end low in omega arith)
