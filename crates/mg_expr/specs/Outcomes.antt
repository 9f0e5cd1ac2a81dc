-- What the calls answer for what an expression says.
use Rattle.std.specs.Prelude.{◌≡◌, Option, Some, None, Result, Ok, Err}
use Rattle.mg_expr.specs.declared.fault.EvalFault.{EvalFault}
use Rattle.mg_expr.specs.declared.fault.EvalFault.TheVariants as faults
use Rattle.mg_expr.specs.declared.outcome.Outcome.{Outcome}
use Rattle.mg_expr.specs.declared.outcome.Outcome.TheVariants as outcomes
use Rattle.mg_expr.specs.Meaning.{Says, Gives, Holds, Faults}

-- an outcome as what is said
abbrev pub said_by : Outcome → Says
said_by (outcomes.Value value) = Gives value
said_by (outcomes.Truth truth) = Holds truth

-- a call answers what is said, and a fault of arithmetic exactly where nothing is
abbrev pub Answers : {A : Type 0} → Option A → Result A EvalFault → Type 0
Answers said (Ok answer) = said ≡ Some answer
Answers said (Err faults.Arithmetic) = said ≡ None
Answers said (Err faults.Memory) = Unit {0}

-- the outcome of an expression is what it says, and a fault of arithmetic where it says nothing
abbrev pub Tells : Says → Result Outcome EvalFault → Type 0
Tells says (Ok outcome) = says ≡ said_by outcome
Tells says (Err faults.Arithmetic) = says ≡ Faults
Tells says (Err faults.Memory) = Unit {0}
