-- What a text is: a statement, or a text with its first fault.
use Rattle.std.specs.Prelude.{◌≡◌, ℕ, List, [], ◌∷◌, ◌++◌, Result, Ok, Err}
use Rattle.mg_statements.specs.declared.fault.SqlFault.{SqlFault}
use Rattle.mg_statements.specs.declared.fault.SqlFault.TheVariants as faults
use Rattle.mg_statements.specs.declared.statement.Statement.{Statement as AnyStatement}
use Rattle.mg_sql.specs.declared.parts.TheConstants.{LEVELS}
use Rattle.mg_sql.specs.declared.token.Kind.{Kind}
use Rattle.mg_sql.specs.declared.token.Kind.TheVariants as kinds
use Rattle.mg_sql.specs.Tokens.{Token, token}
use Rattle.mg_sql.specs.Lexing.{Lexes, Stands, AreBlank, between}
use Rattle.mg_sql.specs.Grammar.{Limits}
use Rattle.mg_sql.specs.Reading.{the_limits, IsOpening, bounded}
use Rattle.mg_statements.specs.Plain.{Plain, plain_of}
use Rattle.mg_sql.specs.Statements.{Spells, statement}

-- these are the tokens of a text up to a place, and blanks behind them
pub record Front (text : List ℕ) (front : List Token) (at : ℕ) : Type 0 where
  pub from : ℕ
  pub blanks : AreBlank text 0 from
  pub lexes : Lexes text from front at

-- the text is a statement
pub record Parses (text : List ℕ) (s : Plain) : Type 0 where
  pub tokens : List Token
  pub end : ℕ
  pub front : Front text tokens end
  pub is : Spells the_limits LEVELS statement s tokens []

-- under some limits a statement begins with these tokens
pub record Begins (most : Limits) (levels : ℕ) (ts : List Token) : Type 0 where
  pub makes : Plain
  pub more : List Token
  pub is : Spells most levels statement makes (ts ++ more) []

-- a statement can go on behind these tokens: with a next one, and others
pub record GoesOn (most : Limits) (levels : ℕ) (ts : List Token) : Type 0 where
  pub makes : Plain
  pub next : Token
  pub more : List Token
  pub is : Spells most levels statement makes (ts ++ next ∷ more) []

-- The first fault of the text: a statement can go on behind the tokens before a place, and not behind
-- the token that stands there.
pub record Stops (text : List ℕ) (at : ℕ) (kind : Kind) (front : List Token) (x : Token) : Type 0 where
  pub end : ℕ
  pub before : Front text front at
  pub stands : Stands text at end kind
  pub token_ : x ≡ token kind (between text at end)
  pub viable : GoesOn the_limits LEVELS front
  pub never : Begins the_limits LEVELS (front ++ x ∷ []) → ⊥

-- under no limits a statement begins so
abbrev pub NeverBegins : List Token → Type 0
NeverBegins ts = (most : Limits) (levels : ℕ) → Begins most levels ts → ⊥

-- under other limits a statement begins so
pub record CouldBegin (ts : List Token) : Type 0 where
  pub most : Limits
  pub levels : ℕ
  pub is : Begins most levels ts

-- what is told of the token where the text stops: that it can't stand there; or that it could, but for its length, its greatness or its depth
abbrev pub Explains : SqlFault → ℕ → Kind → List Token → Type 0
Explains (faults.Syntax at) place kind ts = (at ≡ bounded place) × NeverBegins ts
Explains (faults.NameTooLong at) place kind ts = (at ≡ bounded place) × (kind ≡ kinds.Name) × CouldBegin ts
Explains (faults.NumberTooLarge at) place kind ts = (at ≡ bounded place) × (kind ≡ kinds.Integer) × CouldBegin ts
Explains (faults.TooDeep at) place kind ts = (at ≡ bounded place) × IsOpening kind × CouldBegin ts
Explains faults.Memory place kind ts = ⊥

pub record FaultIn (text : List ℕ) (fault : SqlFault) : Type 0 where
  pub at : ℕ
  pub kind : Kind
  pub front : List Token
  pub x : Token
  pub stops : Stops text at kind front x
  pub explains : Explains fault at kind (front ++ x ∷ [])

-- the answer to a text
abbrev pub Answers : List ℕ → Result AnyStatement SqlFault → Type 0
Answers text (Ok s) = Parses text (plain_of s)
Answers text (Err faults.Memory) = Unit {0}
Answers text (Err fault) = FaultIn text fault
