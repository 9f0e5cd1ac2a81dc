use Rattle.std.proofs.Common.{◌≡◌, ◌<◌, ℕ, false, slice_index_or}
use Rattle.mg_pending.specs.declared.pending.Pending.{Pending}
use Rattle.mg_pending.specs.Statements.{is_released}
use Rattle.mg_pending.proofs.pending.first_released.Given as goal

-- none of the statements before this one is released
abbrev pub invariant-loop-place : goal.invariant-loop-place
invariant-loop-place g l = (k : ℕ) (d : Pending g.row.P.Denot) → k < l.place
    → is_released l.transactions (slice_index_or l.pending.items k d) ≡ false
