use Rattle.std.proofs.Common.{rules, not, ◌&&◌, eqb, ltb, sym, ◌∙◌, inl, inr}
use Rattle.std.proofs.lemmas.Bool.{cases_lt, lt-ltb, le-ltb, and_left}
use Rattle.locks.specs.Bars.{some_bars}
use Rattle.deals.specs.Tables.{lines_in}
use Rattle.deals.proofs.tables.Tables.in_ways.Goals as goal

pub returns : goal.returns
returns c k =
    elim (cases_lt k 32) [
      | inl l ↦ rw (lt-ltb k 32 l) (let e = c.those.ensures.each k l in search rules)
      | inr l ↦ c.those.ensures.past k l ∙ sym (and_left (ltb k 32) (not (eqb c.args.c k) && some_bars c.args.want (lines_in c.args.self.now.room.now k)) (le-ltb k 32 l))
    ]
