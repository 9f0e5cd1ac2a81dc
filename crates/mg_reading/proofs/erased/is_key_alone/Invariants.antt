use Rattle.std.proofs.Common.{◌≡◌, ◌≢◌, ◌<◌, ℕ, get_or}
use Rattle.mg_value.specs.declared.value.Value.TheVariants.{Null}
use Rattle.mg_reading.proofs.erased.is_key_alone.Given as goal

abbrev pub invariant-loop-at : goal.invariant-loop-at
invariant-loop-at l = (i : ℕ) → i < l.at → i ≢ l.key → get_or l.values i Null ≡ Null
