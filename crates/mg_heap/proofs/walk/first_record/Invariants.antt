use Rattle.std.proofs.Common.{◌≡◌, ◌<◌, ◌≤◌, ℕ, false}
use Rattle.mg_slots.specs.DataPage.{cell_of}
use Rattle.mg_heap.specs.Walk.{is_primary}
use Rattle.mg_heap.proofs.walk.first_record.Given as goal

abbrev pub invariant-loop-place : goal.invariant-loop-place
invariant-loop-place l = (k : ℕ) → l.from ≤ k → k < l.place → is_primary (cell_of l.b k) ≡ false
