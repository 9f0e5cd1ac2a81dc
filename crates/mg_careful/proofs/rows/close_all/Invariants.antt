use Rattle.std.proofs.Common.{◌≡◌, length}
use Rattle.mg_careful.specs.Rows.{bit, IsSquare, IsClosure, orders_until}
use Rattle.mg_careful.proofs.rows.close_all.Given as goal

-- the orders of the rows above the index are closed
abbrev pub invariant-loop-later : goal.invariant-loop-later
invariant-loop-later l =
    IsSquare l.size l.after.items
    × (length l.row ≡ l.size)
    × IsClosure (orders_until l.before.items l.later 0) (bit l.after.items)
