use Rattle.std.proofs.Common.{◌≡◌, length}
use Rattle.mg_rows.specs.NewRows.{put_all}
use Rattle.mg_rows.proofs.new_rows.put_all.Given as goal

-- what is left to put makes what all of it makes
abbrev pub invariant-loop-value : goal.invariant-loop-value
invariant-loop-value l = (length l.places ≡ length l.values.items) × (put_all l.places l.values.items l.row.items ≡ put_all l.fn.places l.fn.values.items l.fn.row.items)

abbrev pub decreases-loop-value : goal.decreases-loop-value
decreases-loop-value l = length l.values.items
