use Rattle.std.proofs.Common.{◌≡◌, length}
use Rattle.mg_careful.specs.Rows.{bit, IsSquare, IsClosure, orders_until}
use Rattle.mg_careful.proofs.rows.close_row.Given as goal

-- the orders of the rows above, and those of this row before the index, are closed
abbrev pub invariant-loop-first : goal.invariant-loop-first
invariant-loop-first l =
    IsSquare l.size l.after.items
    × (length l.row ≡ l.size)
    × IsClosure (orders_until l.before.items l.later l.first) (bit l.after.items)
