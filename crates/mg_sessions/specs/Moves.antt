-- What becomes of a statement that waited and goes on.
use Rattle.std.specs.Prelude.{◌≡◌, ◌⊎◌, List, [], ◌∷◌, ◌++◌, Option, Some}
use Rattle.mg_base.specs.declared.numbers.TxNo.{TxNo}
use Rattle.mg_pending.specs.declared.pending.Pending.{Pending}
use Rattle.mg_pending.specs.declared.transactions.Transaction.{Transaction}

-- a statement waits again, behind the others, and the transactions are as before
pub record WaitsAgain {Run : Type 0} (all all' : List (Option Transaction)) (others ps : List (Pending Run))
    : Type 0 where
  pub again : Pending Run
  pub on : TxNo
  pub waits : again.waits_on ≡ Some on
  pub last : ps ≡ others ++ again ∷ []
  pub same : all' ≡ all

-- it is at its end, or waits again
abbrev pub Moves : {Run : Type 0} → List (Option Transaction) → List (Option Transaction)
    → List (Pending Run) → List (Pending Run) → Type 0
Moves all all' others ps = (ps ≡ others) ⊎ WaitsAgain all all' others ps
