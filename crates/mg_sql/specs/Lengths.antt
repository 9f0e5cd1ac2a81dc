-- What a statement that was read has always: each VARCHAR in it has a length that one may have.
use Rattle.std.specs.Prelude.{ℕ, List, All}
use Rattle.mg_value.specs.declared.shape.Kind.{Kind as Type_}
use Rattle.mg_value.specs.declared.shape.Kind.TheVariants as types
use Rattle.mg_sql.specs.Answers.{Parses}
use Rattle.mg_statements.specs.Plain.{Plain, Table}
use Rattle.mg_sql.specs.Reading.{IsSize}

-- a VARCHAR has 1 to 1000 bytes
abbrev pub IsOfSize : Type_ → Type 0
IsOfSize types.Int = Unit {0}
IsOfSize (types.Text most) = IsSize most

-- each column of a new table is so
abbrev pub HasLengths : Plain → Type 0
HasLengths (Table table columns) = All (λ column. IsOfSize column.kind) columns
HasLengths s = Unit {0}

-- a text that is a statement has lawful lengths
abbrev pub StatementsHaveLengths : Type 0
StatementsHaveLengths = (text : List ℕ) (s : Plain) → Parses text s → HasLengths s
