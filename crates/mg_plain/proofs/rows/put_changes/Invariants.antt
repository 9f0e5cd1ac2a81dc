-- The changes that are left make the same of the rows so far.
use Rattle.std.proofs.Common.{◌≡◌, length}
use Rattle.mg_model.specs.Changes.{rows_over}
use Rattle.mg_plain.proofs.rows.put_changes.Given as goal

abbrev pub invariant-loop-last : goal.invariant-loop-last
invariant-loop-last l = rows_over l.rest l.table l.rows.items ≡ rows_over l.fn.changes l.table l.fn.rows.items

abbrev pub decreases-loop-last : goal.decreases-loop-last
decreases-loop-last l = length l.rest
