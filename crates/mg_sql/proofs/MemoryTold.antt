-- That memory ran out is told of no token.
use Rattle.std.proofs.Common.{◌≡◌, ℕ, List, Result, Ok, Err}
use Rattle.std.specs.Prelude.{IsErrAnd}
use Rattle.mg_statements.specs.declared.fault.SqlFault.{SqlFault}
use Rattle.mg_statements.specs.declared.fault.SqlFault.TheVariants as faults
use Rattle.mg_sql.specs.declared.parser.Parser.{Parser}
use Rattle.mg_sql.specs.Tokens.{Token}
use Rattle.mg_sql.specs.Grammar.{Limits}
use Rattle.mg_sql.specs.Statements.{Rest}
use Rattle.mg_sql.specs.Reading.{Told}
use Rattle.mg_sql.specs.Going.{Goes}

-- no memory for a part that was read
pub memory_told : {A T : Type 0} (u : A → T) (R : Limits → ℕ → T → List Token → List Token → Type 0)
    (level n : ℕ) (old new : Parser) (result : Result A SqlFault)
    → IsErrAnd result (λ fault. fault ≡ faults.Memory) → Told u R level n old new result
memory_told u R level n old new (Ok x) h = absurd h
memory_told u R level n old new (Err fault) h = rw h tt

-- no memory for a part that others follow
pub memory_goes : {A X : Type 0} (view : A → X) (r : Rest) (then_ : X → Rest) (old new : Parser)
    (result : Result A SqlFault)
    → IsErrAnd result (λ fault. fault ≡ faults.Memory) → Goes view r then_ old new result
memory_goes view r then_ old new (Ok x) h = absurd h
memory_goes view r then_ old new (Err fault) h = rw h tt
