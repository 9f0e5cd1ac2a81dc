-- The live transactions of sessions, by their places.
use Rattle.std.specs.Prelude.{ℕ, ◌==◌, Bool, true, false, List, get_or, Option, Some, None, replicate}
use Rattle.std.specs.List.{list_any}
use Rattle.mg_base.specs.declared.numbers.TxNo.{TxNo}
use Rattle.mg_pending.specs.declared.transactions.Transaction.{Transaction}
use Rattle.mg_pending.specs.declared.transactions.TheConstants.{PLACES}

-- no session has one
abbrev pub no_transactions : List (Option Transaction)
no_transactions = replicate PLACES None

-- that of a session, and its number
abbrev pub transaction_at : List (Option Transaction) → ℕ → Option Transaction
transaction_at all session = get_or all session None

abbrev pub number_in : Option Transaction → Option TxNo
number_in None = None
number_in (Some transaction) = Some transaction.number

abbrev pub number_at : List (Option Transaction) → ℕ → Option TxNo
number_at all session = number_in (transaction_at all session)

-- one of them has this number
abbrev pub is_number : ℕ → Option Transaction → Bool
is_number number None = false
is_number number (Some transaction) = transaction.number.0 == number

abbrev pub has_number : List (Option Transaction) → ℕ → Bool
has_number all number = list_any (is_number number) all
