use Rattle.std.proofs.Common.{◌≡◌, ◌<◌, ℕ, false, slice_index_or}
use Rattle.mg_pending.specs.declared.pending.Pending.{Pending}
use Rattle.mg_pending.specs.Statements.{is_its}
use Rattle.mg_floor.proofs.begun.begun_by.Given as goal

-- the session holds none of the statements before this one
abbrev pub invariant-loop-place : goal.invariant-loop-place
invariant-loop-place g l = (k : ℕ) (d : Pending g.row.P.Denot) → k < l.place
    → is_its l.session.0 (slice_index_or l.pending.items k d) ≡ false
