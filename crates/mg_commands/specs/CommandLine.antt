-- The grammar of the program's words: which command line asks for which command.
use Rattle.std.specs.Prelude.{◌≡◌, ◌≤◌, ◌&&◌, ℕ, Bool, true, false, not, nat_lt, List, [], ◌∷◌, Option, Some, None, codes}
use Rattle.mg_base.specs.Geometry.{is_page_size}
use Rattle.mg_base.specs.declared.geometry.TheConstants.{GREATEST_LIMIT, LEAST_LIMIT}
use Rattle.mg_words.specs.Words.{IsPath, Spells}
use Rattle.mg_commands.specs.declared.command.Care.{Care}
use Rattle.mg_commands.specs.declared.command.Care.TheVariants.{Validate, ListLimbo, Commit, Rollback, Sweep}
use Rattle.mg_commands.specs.declared.command.Command.{Command}
use Rattle.mg_commands.specs.declared.command.Command.TheVariants.{Run, Storm, Load, Stat, Fix}
use Rattle.mg_commands.specs.declared.command.Options.{Options}
use Rattle.mg_commands.specs.declared.deciding.TheConstants.{MOST_ROWS}
use Rattle.mg_commands.specs.declared.switch.Switch.{Switch}
use Rattle.mg_commands.specs.declared.switch.Switch.TheVariants.{Page, Limit, Stop}
use Rattle.mg_commands.specs.declared.switch.Switches.{Switches}
use Rattle.mg_commands.specs.declared.word.CareWord.{CareWord}
use Rattle.mg_commands.specs.declared.word.CareWord.TheVariants.{Validate as ValidateWord, ListLimbo as ListWord, Commit as CommitWord, Rollback as RollbackWord, Sweep as SweepWord}
use Rattle.mg_commands.specs.declared.word.CommandWord.{CommandWord}
use Rattle.mg_commands.specs.declared.word.CommandWord.TheVariants.{Run as RunWord, Storm as StormWord, Load as LoadWord, Stat as StatWord, Fix as FixWord}

-- ---- one option

-- how an option is spelled
abbrev pub spelled : Switch → List ℕ
spelled Page = codes "--page"
spelled Limit = codes "--limit"
spelled Stop = codes "--stop"

-- whether it may have this number
abbrev pub may_have : Switch → ℕ → Bool
may_have Page n = is_page_size n
may_have Limit n = not (nat_lt n LEAST_LIMIT) && not (nat_lt GREATEST_LIMIT n)
may_have Stop n = true

-- whether it may still come
abbrev pub is_left : Switch → Switches → Bool
is_left Page left = left.page
is_left Limit left = left.limit
is_left Stop left = left.stop

-- the options that may come after it
abbrev pub without : Switch → Switches → Switches
without Page left = record { page = false; limit = left.limit; stop = left.stop }
without Limit left = record { page = left.page; limit = false; stop = left.stop }
without Stop left = record { page = left.page; limit = left.limit; stop = false }

-- the number that is given with it
abbrev pub number_of : Switch → Options → Option ℕ
number_of Page options = options.page
number_of Limit options = options.limit
number_of Stop options = options.stop

-- it is given with this number
abbrev pub with_number : Switch → ℕ → Options → Options
with_number Page n options = record { page = Some n; limit = options.limit; stop = options.stop }
with_number Limit n options = record { page = options.page; limit = Some n; stop = options.stop }
with_number Stop n options = record { page = options.page; limit = options.limit; stop = Some n }

-- A name and a word give an option with a number: one that may still come, and a number that it may have.
pub record Gives (left : Switches) (name word : List ℕ) (switch : Switch) (number : ℕ) : Type 0 where
  pub named : name ≡ spelled switch
  pub fresh : is_left switch left ≡ true
  pub spells : Spells word number
  pub lawful : may_have switch number ≡ true

-- ---- options

-- no option is given
abbrev pub nothing : Options
nothing = record { page = None; limit = None; stop = None }

-- Options follow one another, each as two words, and each at most once.
abbrev pub Follow : Switches → List (List ℕ) → Options → Type 0
Follow left [] options = options ≡ nothing
Follow left (name ∷ []) options = ⊥
Follow left (name ∷ word ∷ words) options = (switch : Switch) × (number : ℕ) × (later : Options)
    × Gives left name word switch number × Follow (without switch left) words later
    × (options ≡ with_number switch number later)

-- the options of `run` and `load`; of `storm`; of `gfix`
abbrev pub every_option : Switches
every_option = record { page = true; limit = true; stop = true }

abbrev pub storm_options : Switches
storm_options = record { page = true; limit = true; stop = false }

abbrev pub stop_alone : Switches
stop_alone = record { page = false; limit = false; stop = true }

-- ---- what `gfix` does

abbrev pub care_spelled : CareWord → List ℕ
care_spelled ValidateWord = codes "validate"
care_spelled ListWord = codes "list"
care_spelled CommitWord = codes "commit"
care_spelled RollbackWord = codes "rollback"
care_spelled SweepWord = codes "sweep"

-- whether a transaction's number comes behind it
abbrev pub is_decision : CareWord → Bool
is_decision ValidateWord = false
is_decision ListWord = false
is_decision CommitWord = true
is_decision RollbackWord = true
is_decision SweepWord = false

abbrev pub care_word : Care → CareWord
care_word Validate = ValidateWord
care_word ListLimbo = ListWord
care_word (Commit t) = CommitWord
care_word (Rollback t) = RollbackWord
care_word Sweep = SweepWord

-- `--stop` is given, or not
abbrev pub FollowStop : List (List ℕ) → Option ℕ → Type 0
FollowStop words stop = Follow stop_alone words (record { page = None; limit = None; stop = stop })

-- the words behind its first one: a decision has its transaction's number
abbrev pub Tends : Care → List (List ℕ) → Option ℕ → Type 0
Tends Validate words stop = FollowStop words stop
Tends ListLimbo words stop = FollowStop words stop
Tends (Commit t) [] stop = ⊥
Tends (Commit t) (number ∷ words) stop = Spells number t.0 × FollowStop words stop
Tends (Rollback t) [] stop = ⊥
Tends (Rollback t) (number ∷ words) stop = Spells number t.0 × FollowStop words stop
Tends Sweep words stop = FollowStop words stop

-- ---- commands

abbrev pub command_spelled : CommandWord → List ℕ
command_spelled RunWord = codes "run"
command_spelled StormWord = codes "storm"
command_spelled LoadWord = codes "load"
command_spelled StatWord = codes "gstat"
command_spelled FixWord = codes "gfix"

abbrev pub command_word : Command → CommandWord
command_word (Run options) = RunWord
command_word (Storm page limit) = StormWord
command_word (Load rows options) = LoadWord
command_word Stat = StatWord
command_word (Fix care stop) = FixWord

-- how many rows `load` may be asked for
abbrev pub AreRows : ℕ → Type 0
AreRows rows = (1 ≤ rows) × (rows ≤ MOST_ROWS)

-- the words behind the path
abbrev pub Asks : Command → List (List ℕ) → Type 0
Asks (Run options) words = Follow every_option words options
Asks (Storm page limit) words = Follow storm_options words (record { page = page; limit = limit; stop = None })
Asks (Load rows options) [] = ⊥
Asks (Load rows options) (number ∷ words) = Spells number rows × AreRows rows
    × Follow every_option words options
Asks Stat words = words ≡ []
Asks (Fix care stop) [] = ⊥
Asks (Fix care stop) (word ∷ words) = (word ≡ care_spelled (care_word care)) × Tends care words stop

-- all words: the program's name, the command, the path, and what is behind it
abbrev pub IsCommandLine : List (List ℕ) → Command → Type 0
IsCommandLine (program ∷ word ∷ path ∷ words) command =
    (word ≡ command_spelled (command_word command)) × IsPath path × Asks command words
IsCommandLine words command = ⊥
