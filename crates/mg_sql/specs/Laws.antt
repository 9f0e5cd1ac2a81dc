-- What follows of statements and faults.
use Rattle.std.specs.Prelude.{◌≡◌, ℕ, List}
use Rattle.mg_statements.specs.declared.fault.SqlFault.{SqlFault}
use Rattle.mg_statements.specs.Plain.{Plain}
use Rattle.mg_sql.specs.Answers.{Parses, FaultIn}

-- a text that is a statement has no fault
abbrev pub StatementsHaveNoFault : Type 0
StatementsHaveNoFault = (text : List ℕ) (s : Plain) (fault : SqlFault) → Parses text s → FaultIn text fault → ⊥

-- a text is one statement
abbrev pub TextsAreOneStatement : Type 0
TextsAreOneStatement = (text : List ℕ) (s t : Plain) → Parses text s → Parses text t → s ≡ t
