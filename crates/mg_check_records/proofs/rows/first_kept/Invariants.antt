use Rattle.std.proofs.Common.{◌≡◌, ◌≢◌, ◌<◌, ℕ, get_or}
use Rattle.mg_value.specs.declared.value.Value.TheVariants.{Null}
use Rattle.mg_check_records.proofs.rows.first_kept.Given as goal

-- none before this place has a value but the key
abbrev pub invariant-loop-at : goal.invariant-loop-at
invariant-loop-at l =
    (i : ℕ) → i < l.at → i ≢ l.table.shape.key → get_or l.row i Null ≡ Null
