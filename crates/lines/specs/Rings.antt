-- A ring of lines: the first first.
use Rattle.std.specs.Prelude.{ℕ, ◌+◌, ◌-◌, ◌*◌, ◌<◌, ◌≤◌, cond, List, map, length, nat_lt}
use Rattle.std.specs.List.{range_with_len}
use Rattle.lines.specs.declared.line.Line.{Line}
use Rattle.lines.specs.declared.ring.Ring.{Ring}
use Rattle.lines.specs.Lines.{line_at}

pub record Holds (w : List ℕ) (r : Ring) : Type 0 where
  pub words : 3 * r.cap ≤ length w
  pub start : r.start < r.cap
  pub count : r.count ≤ r.cap
  pub small : r.cap ≤ 65536

-- where the line i of the ring stands in the table
unfoldable pub place : Ring → ℕ → ℕ
place r i = cond (nat_lt (r.start + i) r.cap) (r.start + i) (r.start + i - r.cap)

unfoldable pub lines_of : List ℕ → Ring → List Line
lines_of w r = map (λ i. line_at w (place r i)) (range_with_len 0 r.count)
