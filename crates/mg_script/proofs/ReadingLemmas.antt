-- What a line says behind a word, and lines one behind the other.
use Rattle.std.proofs.lemmas.Fmt.{decimal_injective}
use Rattle.std.proofs.Common.{◌≡◌, ◌≢◌, ◌⊎◌, inl, inr, ◌<◌, ◌≤◌, ◌^◌, ◌+◌, ℕ, suc, Bool, true, false, List, [], ◌∷◌, ◌++◌, Option, Some, None, MatchOption, refl, sym, ap, ◌∙◌, arith}
use Rattle.std.proofs.lemmas.Bool.{ne_eqb}
use Rattle.std.proofs.lemmas.List.{append-nil}
use Rattle.std.specs.Prelude.{◌==◌, codes, length}
use Rattle.std.specs.Str.Lines.{lines}
use Rattle.mg_sql.specs.Answers.{FaultIn}
use Rattle.mg_sql.specs.Laws.{StatementsHaveNoFault}
use Rattle.mg_statements.specs.declared.fault.SqlFault.{SqlFault}
use Rattle.std.specs.Fmt.{decimal}
use Rattle.mg_script.specs.Lines.{AreLines, Asks, IsScript, IsStep, MayBeHeld, NamesNumber, has_statement, letter}
use Rattle.mg_script.specs.declared.line.Line.{Line}
use Rattle.mg_script.specs.declared.line.LineKind.{LineKind}
use Rattle.mg_script.specs.declared.line.LineKind.TheVariants.{Sql, Held, Step, Go, Write, Collect, Sweep, Prepare, Put, Get, Silent, Bad}
use Rattle.mg_script.specs.declared.line.Session.{Session}
use Rattle.mg_script.specs.declared.line.TheConstants.{MOST_STEPS, SESSIONS}
use Rattle.mg_script.proofs.SplittingLemmas.{same_rest}

-- a number behind a word, as it was read
pub number_named : (text word spelled : List ℕ) (found : Option ℕ) → text ≡ word ++ spelled
    → MatchOption found ((n : ℕ) → n < 2 ^ 32 → decimal n ≢ spelled)
    (λ n. (n < 2 ^ 32) × (decimal n ≡ spelled))
    → MatchOption found ((n : ℕ) → NamesNumber text word n → ⊥) (NamesNumber text word)
number_named text word spelled None is none = λ n names.
    none n names.fits (same_rest word (decimal n) spelled (sym names.spelled ∙ is))
number_named text word spelled (Some n) is found =
    record { fits = found.0; spelled = is ∙ ap (λ (xs : List ℕ). word ++ xs) (sym found.1) }

-- what stands behind the session of a step
pub step_rest : (text named others : List ℕ) (first : ℕ) (session : Session) (most : ℕ)
    → text ≡ codes "@step " ++ named → named ≡ first ∷ others → IsStep text session most
    → (letter session ≡ first) × (others ≡ 32 ∷ decimal most)
step_rest text named others first session most is cut step =
    let rest : letter session ∷ (32 ∷ decimal most) ≡ first ∷ others =
    same_rest (codes "@step ") (letter session ∷ (32 ∷ decimal most)) named
    (sym step.spelled ∙ is) ∙ cut in
    (cc, cc)

-- a line that begins with no session's letter has no statement
pub no_session : (text rest : List ℕ) (first : ℕ) → text ≡ first ∷ rest
    → ((session : Session) → session.0 < SESSIONS → letter session ≢ first)
    → (kind : LineKind) → has_statement kind ≡ true → Asks text kind → ⊥
no_session text rest first is none (Sql session sql) has asks =
    let same : letter session ∷ (codes ": " ++ sql) ≡ first ∷ rest = sym asks.spelled ∙ is in
    none session asks.lettered cc
no_session text rest first is none (Held session sql) has asks =
    let same : letter session ∷ (codes "~ " ++ sql) ≡ first ∷ rest = sym asks.spelled ∙ is in
    none session asks.lettered cc
no_session text rest first is none (Step session most) has asks = absurd cc
no_session text rest first is none (Go session) has asks = absurd cc
no_session text rest first is none (Write most) has asks = absurd cc
no_session text rest first is none Collect has asks = absurd cc
no_session text rest first is none (Sweep most) has asks = absurd cc
no_session text rest first is none (Prepare session) has asks = absurd cc
no_session text rest first is none (Put key value) has asks = absurd cc
no_session text rest first is none (Get key) has asks = absurd cc
no_session text rest first is none Silent has asks = absurd cc
no_session text rest first is none Bad has asks = absurd cc

-- a line says no step where the number in it is none, or too great
pub no_step : (text named others : List ℕ) (first number : ℕ) → text ≡ codes "@step " ++ named
    → named ≡ first ∷ others → NamesNumber others (codes " ") number
    → (number ≡ 0) ⊎ (((number ≡ 0) → ⊥) × (MOST_STEPS < number))
    → (session : Session) (most : ℕ) → IsStep text session most → ⊥
no_step text named others first number is cut names out session most step = by out
  where
    fits : number < 2 ^ 32
    fits = names.fits

    at_most : most ≤ MOST_STEPS
    at_most = step.at_most

    some : 1 ≤ most
    some = step.some

    same : most ≡ number
    same =
        decimal_injective most number (omega arith) (omega arith)
        (same_rest (codes " ") (decimal most) (decimal number)
        (sym (step_rest text named others first session most is cut step).1 ∙ names.spelled))

    by : (number ≡ 0) ⊎ (((number ≡ 0) → ⊥) × (MOST_STEPS < number)) → ⊥
    by (inl none) = absurd (omega (arith, none, same, some))
    by (inr many) = absurd (omega (arith, many.1, same, at_most))

-- a text with a fault may be held: it is no statement
pub faulty_held : (text : List ℕ) (fault : SqlFault) → StatementsHaveNoFault → FaultIn text fault
    → (true ≡ true → MayBeHeld text) × (MayBeHeld text → true ≡ true)
faulty_held text fault law has =
    (λ is s parses. absurd (law text s fault parses has), λ held. refl)

-- a script of which nothing is left has been read
pub all_read : (script : List ℕ) (n : ℕ) (rest : List ℕ) (read : List Line)
    → true ≡ (length rest == 0)
    → ((more : List Line) → AreLines n (lines rest) more → AreLines 1 (lines script) (read ++ more))
    → IsScript script read
all_read script n [] read empty all = rw (append-nil read) at (all [] tt)
all_read script n (x ∷ xs) read empty all =
    let some : (length (x ∷ xs) == 0) ≡ false = ne_eqb (length (x ∷ xs)) 0 (omega arith) in absurd cc
