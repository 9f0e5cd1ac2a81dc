-- Which words ask for no command of the program, and that none ask for two.
use Rattle.std.proofs.Common.{◌∙◌, ℕ, List, [], ◌∷◌, sym}
use Rattle.mg_words.specs.Words.{IsRun}
use Rattle.mg_words.specs.declared.asked.Asked.{Asked}
use Rattle.mg_commands.specs.Program.{AsksFor, IsLimboLine, IsProgramLine, IsStatLine}
use Rattle.mg_commands.specs.SpellingLaws.{command_once}
use Rattle.mg_commands.specs.declared.program.ProgramCommand.{ProgramCommand}
use Rattle.mg_commands.specs.declared.program.ProgramCommand.TheVariants.{Run, ListLimbo, Stat}
use Rattle.mg_commands.specs.declared.word.CommandWord.TheVariants as command_words

-- a line of `run` does not ask for the transactions in limbo
pub run_lists_none : (words : List (List ℕ)) (asked : Asked) → IsRun words asked → IsLimboLine words → ⊥
run_lists_none [] asked run limbo = run
run_lists_none (program ∷ []) asked run limbo = run
run_lists_none (program ∷ command ∷ []) asked run limbo = run
run_lists_none (program ∷ command ∷ path ∷ words) asked run limbo =
    absurd (let same = command_once command_words.Run command_words.Fix (sym run.0 ∙ limbo.1.0) in cc)

-- a line that asks for the figures of a file is none of `run`
pub run_tells_none : (words : List (List ℕ)) (asked : Asked) → IsRun words asked → IsStatLine words → ⊥
run_tells_none [] asked run stat = run
run_tells_none (program ∷ []) asked run stat = run
run_tells_none (program ∷ command ∷ []) asked run stat = run
run_tells_none (program ∷ command ∷ path ∷ words) asked run stat =
    absurd (let same = command_once command_words.Run command_words.Stat (sym run.0 ∙ stat.0) in cc)

-- and does not ask for the transactions in limbo
pub list_tells_none : (words : List (List ℕ)) → IsLimboLine words → IsStatLine words → ⊥
list_tells_none [] limbo stat = stat
list_tells_none (program ∷ []) limbo stat = stat
list_tells_none (program ∷ command ∷ []) limbo stat = stat
list_tells_none (program ∷ command ∷ path ∷ words) limbo stat =
    absurd (let same = command_once command_words.Fix command_words.Stat (sym limbo.1.0 ∙ stat.0) in cc)

-- words that are no line of `run`, and ask neither for the transactions in limbo nor for figures, ask for nothing that the
-- program has
pub none_asked : (words : List (List ℕ)) → ((asked : Asked) → IsRun words asked → ⊥) → (IsLimboLine words → ⊥)
    → (IsStatLine words → ⊥) → IsProgramLine words → ⊥
none_asked words no_run no_limbo no_stat line = at line.0 line.1
  where
    at : (command : ProgramCommand) → AsksFor words command → ⊥
    at (Run asked) asks = no_run asked asks
    at ListLimbo asks = no_limbo asks
    at Stat asks = no_stat asks
