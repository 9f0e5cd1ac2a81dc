-- Whether a statement waits still.
use Rattle.std.specs.Prelude.{◌≡◌, ℕ, true, List, Option, Some, None, get_or, if◌then◌else◌}
use Rattle.mg_base.specs.declared.numbers.TxNo.{TxNo}
use Rattle.mg_pending.specs.declared.pending.Pending.{Pending}
use Rattle.mg_pending.specs.declared.transactions.Transaction.{Transaction}
use Rattle.mg_pending.specs.Transactions.{has_number}

-- the live transaction that is waited for
abbrev pub still_on : List (Option Transaction) → Option TxNo → Option TxNo
still_on all None = None
still_on all (Some on) = if has_number all on.0 then Some on else None

-- the statement at a place does not wait, or what it waits for is no live transaction
abbrev pub IsReleasedAt : {Run : Type 0} → List (Option Transaction) → List (Pending Run) → ℕ → Type 0
IsReleasedAt {Run = Run} all pending place = (d : Pending Run) → still_on all (get_or pending place d).waits_on ≡ None

-- it waits for this one, which is live
pub record WaitsAt {Run : Type 0} (all : List (Option Transaction)) (pending : List (Pending Run)) (place : ℕ) (on : TxNo)
    : Type 0 where
  pub waits : (d : Pending Run) → (get_or pending place d).waits_on ≡ Some on
  pub live : has_number all on.0 ≡ true
