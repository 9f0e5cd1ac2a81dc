use Rattle.std.proofs.Common.{◌≡◌, ◌<◌, ℕ, false, slice_index_or}
use Rattle.mg_pending.specs.declared.pending.Pending.{Pending}
use Rattle.mg_pending.specs.Statements.{is_held_by}
use Rattle.mg_pending.proofs.pending.held_by.Given as goal

-- the session holds none of the statements before this one
abbrev pub invariant-loop-place : goal.invariant-loop-place
invariant-loop-place g l = (k : ℕ) (d : Pending g.row.P.Denot) → k < l.place
    → is_held_by l.session.0 (slice_index_or l.pending.items k d) ≡ false
