-- The lines of a script, and what each asks for.
use Rattle.std.specs.Prelude.{◌≡◌, ◌⊎◌, ◌<◌, ◌≤◌, ◌+◌, ◌^◌, ℕ, ℤ, suc, Bool, true, false, List, [], ◌∷◌, ◌++◌, codes, decimal, take, FitsSigned}
use Rattle.std.specs.Int.{w64}
use Rattle.std.specs.Fmt.{signed_decimal}
use Rattle.std.specs.Str.Lines.{lines}
use Rattle.mg_sql.specs.Answers.{Parses}
use Rattle.mg_statements.specs.Plain.{Plain, Commit, Insert, Update, Delete, Totals, Select}
use Rattle.mg_script.specs.declared.line.Line.{Line}
use Rattle.mg_script.specs.declared.line.LineKind.{LineKind}
use Rattle.mg_script.specs.declared.line.LineKind.TheVariants.{Sql, Held, Step, Go, Write, Collect, Sweep, Prepare, Put, Get, Silent, Bad}
use Rattle.mg_script.specs.declared.line.Session.{Session}
use Rattle.mg_script.specs.declared.line.TheConstants.{MOST_STEPS, SESSIONS}

-- the letter of a session: A for 0
abbrev pub letter : Session → ℕ
letter session = 65 + session.0

-- a statement that takes steps, and so may be held between them
abbrev pub takes_steps : Plain → Bool
takes_steps Commit = true
takes_steps (Insert table columns values) = true
takes_steps (Update table sets filter) = true
takes_steps (Delete table filter) = true
takes_steps (Totals table aggs filter) = true
takes_steps (Select table values filter sorted) = true
takes_steps s = false

-- a text may stand behind `~`: if it is a statement, it is one that takes steps
abbrev pub MayBeHeld : List ℕ → Type 0
MayBeHeld text = (s : Plain) → Parses text s → takes_steps s ≡ true

-- `A: sql`
pub record IsSql (text : List ℕ) (session : Session) (sql : List ℕ) : Type 0 where
  pub lettered : session.0 < SESSIONS
  pub spelled : text ≡ letter session ∷ (codes ": " ++ sql)

-- `A~ sql`
pub record IsHeld (text : List ℕ) (session : Session) (sql : List ℕ) : Type 0 where
  pub lettered : session.0 < SESSIONS
  pub spelled : text ≡ letter session ∷ (codes "~ " ++ sql)
  pub held : MayBeHeld sql

-- a word and a session: `@go A`
pub record NamesSession (text word : List ℕ) (session : Session) : Type 0 where
  pub lettered : session.0 < SESSIONS
  pub spelled : text ≡ word ++ (letter session ∷ [])

-- a word and a number of 32 bits: `@write n`
pub record NamesNumber (text word : List ℕ) (number : ℕ) : Type 0 where
  pub fits : number < 2 ^ 32
  pub spelled : text ≡ word ++ decimal number

-- `@step A n`
pub record IsStep (text : List ℕ) (session : Session) (most : ℕ) : Type 0 where
  pub lettered : session.0 < SESSIONS
  pub some : 1 ≤ most
  pub at_most : most ≤ MOST_STEPS
  pub spelled : text ≡ codes "@step " ++ (letter session ∷ (32 ∷ decimal most))

-- `@put K V`: two numbers of 64 bits, each behind one blank
pub record IsPut (text : List ℕ) (key value : ℤ) : Type 0 where
  pub key_fits : FitsSigned w64 key
  pub value_fits : FitsSigned w64 value
  pub spelled : text ≡ codes "@put " ++ (signed_decimal key ++ (32 ∷ signed_decimal value))

-- `@get K`
pub record IsGet (text : List ℕ) (key : ℤ) : Type 0 where
  pub key_fits : FitsSigned w64 key
  pub spelled : text ≡ codes "@get " ++ signed_decimal key

-- an empty line, or a comment
abbrev pub IsSilent : List ℕ → Type 0
IsSilent text = (text ≡ []) ⊎ (take 2 text ≡ codes "--")

-- what a line asks for, if it is of one of these forms
abbrev pub Asks : List ℕ → LineKind → Type 0
Asks text (Sql session sql) = IsSql text session sql
Asks text (Held session sql) = IsHeld text session sql
Asks text (Step session most) = IsStep text session most
Asks text (Go session) = NamesSession text (codes "@go ") session
Asks text (Write most) = NamesNumber text (codes "@write ") most
Asks text Collect = text ≡ codes "@collect"
Asks text (Sweep most) = NamesNumber text (codes "@sweep ") most
Asks text (Prepare session) = NamesSession text (codes "@prepare ") session
Asks text (Put key value) = IsPut text key value
Asks text (Get key) = IsGet text key
Asks text Silent = IsSilent text
Asks text Bad = ⊥

-- a line of a session with a statement behind it
abbrev pub has_statement : LineKind → Bool
has_statement (Sql session sql) = true
has_statement (Held session sql) = true
has_statement kind = false

-- what a line is: a bad one asks for nothing
abbrev pub IsLine : List ℕ → LineKind → Type 0
IsLine text Bad = (kind : LineKind) → Asks text kind → ⊥
IsLine text kind = Asks text kind

-- lines of a script with their numbers, from one on
abbrev pub AreLines : ℕ → List (List ℕ) → List Line → Type 0
AreLines n [] [] = Unit {0}
AreLines n (text ∷ texts) (line ∷ more) =
    (line.number ≡ n) × IsLine text line.kind × AreLines (suc n) texts more
AreLines n texts more = ⊥

-- what a script asks for: each of its lines, in order
abbrev pub IsScript : List ℕ → List Line → Type 0
IsScript script read = AreLines 1 (lines script) read
