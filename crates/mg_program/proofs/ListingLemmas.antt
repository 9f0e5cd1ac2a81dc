-- The commands that only look at a file: their statuses, and the words by which they are told from a run.
use Rattle.std.proofs.Common.{◌≡◌, ◌≢◌, ◌<◌, ◌∙◌, ℕ, List, sym, ap, subst, arith}
use Rattle.mg_commands.specs.Program.{AsksFor, IsLimboLine, IsStatLine}
use Rattle.mg_commands.specs.declared.program.ProgramCommand.{ProgramCommand}
use Rattle.mg_commands.specs.declared.program.ProgramCommand.TheVariants.{ListLimbo, Run, Stat}
use Rattle.mg_limbo_report.specs.Report.{status_of}
use Rattle.mg_limbo_report.specs.declared.ending.LookEnd.{LookEnd}
use Rattle.mg_limbo_report.specs.declared.ending.LookEnd.TheVariants.{Told, Stream, Refused}
use Rattle.mg_run_ends.specs.declared.status.Status.{Status}
use Rattle.mg_words.specs.Words.{IsRun}
use Rattle.mg_words.specs.declared.asked.Asked.{Asked}
use Rattle.mg_program.proofs.TopLemmas.{refused_below}

-- ---- statuses

status_below : (end : LookEnd) → ((status_of end).0 < 8) × ((status_of end).0 ≢ 2)
status_below Told = (omega arith, λ is. omega (arith, is))
status_below Stream = (omega arith, λ is. omega (arith, is))
status_below (Refused refusal) = refused_below refusal

pub looked_range : (end : LookEnd) (status : Status) → status ≡ status_of end → status.0 < 8
looked_range end status is = subst (λ (s : Status). s.0 < 8) (sym is) (status_below end).0

-- such a command never ends with the status of words that are no command line
pub looked_no_usage : (end : LookEnd) (status : Status) → status ≡ status_of end → status.0 ≡ 2 → ⊥
looked_no_usage end status is two = (status_below end).1 (ap (λ (s : Status). s.0) (sym is) ∙ two)

-- ---- words

pub asked_one : (words : List (List ℕ)) (command : ProgramCommand) (asked : Asked) → command ≡ Run asked
    → AsksFor words command → IsRun words asked
asked_one words command asked is asks = subst (λ (c : ProgramCommand). AsksFor words c) is asks

pub lists_one : (words : List (List ℕ)) (command : ProgramCommand) → command ≡ ListLimbo → AsksFor words command
    → IsLimboLine words
lists_one words command is asks = subst (λ (c : ProgramCommand). AsksFor words c) is asks

pub tells_one : (words : List (List ℕ)) (command : ProgramCommand) → command ≡ Stat → AsksFor words command
    → IsStatLine words
tells_one words command is asks = subst (λ (c : ProgramCommand). AsksFor words c) is asks
