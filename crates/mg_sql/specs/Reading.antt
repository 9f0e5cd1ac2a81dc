-- What a reading function of the parser says of its part of the text.
use Rattle.std.specs.Prelude.{◌≡◌, ◌≢◌, ℕ, ◌<◌, ◌≤◌, Bool, true, false, List, [], ◌∷◌, ◌++◌, length, ℤ, pos, min, Result, Ok, Err}
use Rattle.mg_statements.specs.declared.fault.SqlFault.{SqlFault}
use Rattle.mg_statements.specs.declared.fault.SqlFault.TheVariants as faults
use Rattle.mg_sql.specs.declared.token.Kind.{Kind}
use Rattle.mg_sql.specs.declared.token.Kind.TheVariants as kinds
use Rattle.mg_sql.specs.declared.parser.Parser.{Parser}
use Rattle.mg_sql.specs.declared.scanning.TheConstants.{MOST_TEXT}
use Rattle.mg_statements.specs.declared.statement.TheConstants.{MOST_SIZE}
use Rattle.mg_sql.specs.Spelling.{number, capitals, quoted}
use Rattle.mg_sql.specs.Tokens.{Token, token, Takes}
use Rattle.mg_sql.specs.Lexing.{Lexes, Stands, between}
use Rattle.mg_sql.specs.Grammar.{Limits}
use Rattle.mg_sql.specs.Ends.{Ends, binds}

-- a name has at most 31 bytes, and a number at most 63 bits
abbrev pub the_limits : Limits
the_limits = record { name = 31; number = 9223372036854775807 }

-- limits allow at least what others do
pub record Allows (most least : Limits) : Type 0 where
  pub name : least.name ≤ most.name
  pub number : least.number ≤ most.number

abbrev pub Rule : Type 0 → Type 1
Rule T = Limits → ℕ → T → List Token → List Token → Type 0

-- tokens spell something of the rule, and it was read up to a place
pub record Reads {T : Type 0} (R : Limits → ℕ → T → List Token → List Token → Type 0) (n : ℕ) (t : T) (text : List ℕ) (from to : ℕ) : Type 0 where
  pub front : List Token
  pub lexes : Lexes text from front to
  pub reads : (most : Limits) (m : ℕ) (more : List Token) → Allows most the_limits → n ≤ m → R most m t (front ++ more) more

-- tokens can go on to something of the rule, whatever follows it
pub record Completes {T : Type 0} (R : Limits → ℕ → T → List Token → List Token → Type 0) (least : Limits) (n : ℕ) (ts : List Token) : Type 0 where
  pub tree : T
  pub more : List Token
  pub reads : (most : Limits) (m : ℕ) (rest : List Token) → Allows most least → n ≤ m → R most m tree (ts ++ (more ++ rest)) rest

-- the same under limits that allow more
pub record CompletesBeyond {T : Type 0} (R : Limits → ℕ → T → List Token → List Token → Type 0) (n : ℕ) (ts : List Token) : Type 0 where
  pub least : Limits
  pub levels : ℕ
  pub allows : Allows least the_limits
  pub deeper : n ≤ levels
  pub completes : Completes R least levels ts

-- These tokens can go on to something of the rule, and not with x behind them: under no limits, where
-- always is true; else under the limits that stand, but under others.
pub record Refuses {T : Type 0} (R : Limits → ℕ → T → List Token → List Token → Type 0) (level n : ℕ) (always : Bool) (x : Token) (text : List ℕ) (from to : ℕ) : Type 0 where
  pub front : List Token
  pub lexes : Lexes text from front to
  pub viable : Completes R the_limits n front
  pub blocked : (most : Limits) (m : ℕ) (t : T) (more rest : List Token)
      → (always ≡ false → Allows the_limits most × (m ≤ n)) → Ends level rest → R most m t (front ++ x ∷ more) rest → ⊥
  pub allowed : always ≡ false → CompletesBeyond R n (front ++ x ∷ [])

-- the token that stands next
abbrev pub ahead : Parser → Token
ahead p = token p.kind (between p.text.now p.at p.end)

-- the token that stands next is known
pub record IsReady (p : Parser) : Type 0 where
  pub stands : Stands p.text.now p.at p.end p.kind
  pub inside : p.at ≤ length p.text.now

-- the parser has gone on in the same text
pub record Keeps (old new : Parser) : Type 0 where
  pub text : new.text.now ≡ old.text.now
  pub ready : IsReady new
  pub forward : old.at ≤ new.at

-- a name too long, a number too large and a level too deep are told of such tokens
abbrev pub IsOpening : Kind → Type 0
IsOpening kinds.Open = Unit {0}
IsOpening kinds.Not = Unit {0}
IsOpening kinds.Minus = Unit {0}
IsOpening _ = ⊥

-- where a fault at a token is told: at its first byte, or at byte 65,536 where it is behind that
abbrev pub bounded : ℕ → ℕ
bounded at = min at MOST_TEXT

-- the next token was refused, for this fault
abbrev pub Fails : {T : Type 0} → (Limits → ℕ → T → List Token → List Token → Type 0) → ℕ → ℕ → Parser → Parser → SqlFault → Type 0
Fails R level n old new faults.Memory = Unit {0}
Fails R level n old new (faults.Syntax at) = (at ≡ bounded new.at) × Refuses R level n true (ahead new) old.text.now old.at new.at
Fails R level n old new (faults.NameTooLong at) = (at ≡ bounded new.at) × (new.kind ≡ kinds.Name) × Refuses R level n false (ahead new) old.text.now old.at new.at
Fails R level n old new (faults.NumberTooLarge at) = (at ≡ bounded new.at) × (new.kind ≡ kinds.Integer) × Refuses R level n false (ahead new) old.text.now old.at new.at
Fails R level n old new (faults.TooDeep at) = (at ≡ bounded new.at) × IsOpening new.kind × Refuses R level n false (ahead new) old.text.now old.at new.at

-- what was read or refused
abbrev pub Told : {A T : Type 0} → (A → T) → (Limits → ℕ → T → List Token → List Token → Type 0) → ℕ → ℕ → Parser → Parser → Result A SqlFault → Type 0
Told view R level n old new (Ok a) = Reads R n (view a) old.text.now old.at new.at × Ends level (ahead new ∷ [])
Told view R level n old new (Err fault) = Fails R level n old new fault

-- one token of a kind
pub record One (kind : Kind) (most : Limits) (n : ℕ) (t : Unit {0}) (ts us : List Token) : Type 0 where
  pub bytes : List ℕ
  pub takes : Takes kind bytes ts us

-- a token of this kind was read, or another one stands there
abbrev pub Expects : Kind → Parser → Parser → Result (Unit {0}) SqlFault → Type 0
Expects kind old new (Ok t) = (old.kind ≡ kind) × Lexes old.text.now old.at (ahead old ∷ []) new.at
Expects kind old new (Err fault) = (fault ≡ faults.Syntax (bounded old.at)) × (old.kind ≢ kind) × (new ≡ old)

-- a test tells whether something holds
abbrev pub Decides : Type 0 → Bool → Type 0
Decides P true = P
Decides P false = P → ⊥

-- the next token was read, and it stands for this; or it is too great
abbrev pub TellsNumber : Parser → Parser → Result ℤ SqlFault → Type 0
TellsNumber old new (Ok z) = (z ≡ pos (number (ahead old).bytes)) × (number (ahead old).bytes ≤ 9223372036854775807) × Lexes old.text.now old.at (ahead old ∷ []) new.at
TellsNumber old new (Err fault) = (fault ≡ faults.NumberTooLarge (bounded old.at)) × (9223372036854775807 < number (ahead old).bytes) × (new ≡ old)

-- .., or it is no length of a text
abbrev pub IsSize : ℕ → Type 0
IsSize n = (1 ≤ n) × (n ≤ MOST_SIZE)

abbrev pub TellsSize : Parser → Parser → Result ℕ SqlFault → Type 0
TellsSize old new (Ok n) = (n ≡ number (ahead old).bytes) × IsSize n × Lexes old.text.now old.at (ahead old ∷ []) new.at
TellsSize old new (Err fault) = (fault ≡ faults.Syntax (bounded old.at)) × (IsSize (number (ahead old).bytes) → ⊥) × (new ≡ old)

abbrev pub TellsName : Parser → Parser → Result (List ℕ) SqlFault → Type 0
TellsName old new (Ok name) = (name ≡ capitals (ahead old).bytes) × (length (ahead old).bytes ≤ 31) × Lexes old.text.now old.at (ahead old ∷ []) new.at
TellsName old new (Err fault) = (fault ≡ faults.NameTooLong (bounded old.at)) × (31 < length (ahead old).bytes) × (new ≡ old)

abbrev pub TellsText : Parser → Parser → Result (List ℕ) SqlFault → Type 0
TellsText old new (Ok text) = ((ahead old).bytes ≡ quoted text) × Lexes old.text.now old.at (ahead old ∷ []) new.at
TellsText old new (Err fault) = (fault ≡ faults.Memory) × (new ≡ old)

-- no token stands next that goes on with a test
abbrev pub EndsTest : Parser → Result (Unit {0}) SqlFault → Type 0
EndsTest p (Ok t) = binds p.kind < 3
EndsTest p (Err fault) = (fault ≡ faults.Syntax (bounded p.at)) × (3 ≤ binds p.kind)

-- whether a token of this kind stood next, and was read
abbrev pub Takes_ : Kind → Parser → Parser → Bool → Type 0
Takes_ kind old new true = (old.kind ≡ kind) × Lexes old.text.now old.at (ahead old ∷ []) new.at × (old.end ≤ new.at)
Takes_ kind old new false = (old.kind ≢ kind) × (new ≡ old)
