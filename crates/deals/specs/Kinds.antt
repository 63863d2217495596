-- The kinds of askings by their numbers.
use Rattle.std.specs.Prelude.{ℕ, cond, ◌==◌}
use Rattle.deals.specs.declared.asked.Kind.{Kind}
use Rattle.deals.specs.declared.asked.Kind.TheVariants.{Get, Put, Drop, Next, Mark, Back, Commit, Undo}

abbrev pub kind_of : ℕ → Kind
kind_of n = cond (n == 0) Get (cond (n == 1) Put (cond (n == 2) Drop (cond (n == 3) Next (cond (n == 4) Mark (cond (n == 5) Back (cond (n == 6) Commit Undo))))))
