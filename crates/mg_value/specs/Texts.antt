-- Why a text is refused.
use Rattle.std.specs.Prelude.{◌≡◌, ℕ, ◌<◌, ◌≤◌}
use Rattle.mg_value.specs.declared.fault.ValueFault.{ValueFault}
use Rattle.mg_value.specs.declared.fault.ValueFault.TheVariants as faults

-- the fault of a text of len bytes where most are allowed: too long exactly where it has more
abbrev pub Explains : ℕ → ℕ → ValueFault → Type 0
Explains most len (faults.TextTooLong named) = (named ≡ len) × (most < len)
Explains most len faults.Memory = len ≤ most
