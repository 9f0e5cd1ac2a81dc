-- The commands that the program has, and the words that ask for them.
use Rattle.std.specs.Prelude.{ℕ, List, Option}
use Rattle.mg_words.specs.Words.{IsRun}
use Rattle.mg_commands.specs.CommandLine.{IsCommandLine}
use Rattle.mg_commands.specs.declared.command.Care.TheVariants.{ListLimbo as ListCare}
use Rattle.mg_commands.specs.declared.command.Command.TheVariants.{Fix, Stat as StatCommand}
use Rattle.mg_commands.specs.declared.program.ProgramCommand.{ProgramCommand}
use Rattle.mg_commands.specs.declared.program.ProgramCommand.TheVariants.{Run, ListLimbo, Stat}

-- words ask `gfix` for the transactions in limbo, with `--stop` or without it: nothing is written
abbrev pub IsLimboLine : List (List ℕ) → Type 0
IsLimboLine words = (stop : Option ℕ) × IsCommandLine words (Fix ListCare stop)

-- words ask for the figures of a file
abbrev pub IsStatLine : List (List ℕ) → Type 0
IsStatLine words = IsCommandLine words StatCommand

-- words ask for this command of the program
abbrev pub AsksFor : List (List ℕ) → ProgramCommand → Type 0
AsksFor words (Run asked) = IsRun words asked
AsksFor words ListLimbo = IsLimboLine words
AsksFor words Stat = IsStatLine words

-- words ask for a command that the program has
abbrev pub IsProgramLine : List (List ℕ) → Type 0
IsProgramLine words = (command : ProgramCommand) × AsksFor words command
