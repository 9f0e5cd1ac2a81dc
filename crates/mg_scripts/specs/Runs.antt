-- What comes of the lines of a script.
use Rattle.std.specs.Prelude.{◌≡◌, ◌≤◌, ℕ, Bool, true, false, List, [], ◌∷◌, ◌++◌, map, Option, Some, if◌then◌else◌}
use Rattle.std.specs.List.{list_all}
use Rattle.mg_base.specs.Streams.{SinkMeaning}
use Rattle.mg_model.specs.declared.opening.Opening.{Opening}
use Rattle.mg_model.specs.declared.refusal.Refusal.{Refusal}
use Rattle.mg_model.specs.History.{Entries}
use Rattle.mg_model.specs.Legal.{durable_count}
use Rattle.mg_records.specs.Meaning.{Means}
use Rattle.mg_script.specs.declared.line.Line.{Line}
use Rattle.mg_script.specs.declared.line.LineKind.{LineKind}
use Rattle.mg_script.specs.declared.line.LineKind.TheVariants as kinds
use Rattle.mg_transcript.specs.declared.turn.Flow.TheVariants.{Stops}
use Rattle.mg_transcript.specs.Lines.{last_reply}
use Rattle.mg_transcript.specs.Scripts.{AreCutShort, AreObeyed, Obeyed}
use Rattle.mg_transcript.specs.Sessions.{Unfinished}
use Rattle.mg_transcript.specs.Transcript.{flow, transcript, turn_fine, turn_of}
use Rattle.mg_courses.specs.Carrying.{Carries}
use Rattle.mg_courses.specs.Running.{RunMeans}
use Rattle.mg_pending.specs.declared.pending.Pending.{Pending}
use Rattle.mg_pending.specs.declared.transactions.Transaction.{Transaction}
use Rattle.mg_pending.specs.Standing.{StandAt}
use Rattle.mg_sessions.specs.Lines.{IsObeyable}
use Rattle.mg_scripts.specs.FaultLines.{fault_said}
use Rattle.mg_scripts.specs.Printing.{PrintsLine, Writes}
use Rattle.mg_scripts.specs.declared.lines.LinesEnd.{LinesEnd}
use Rattle.mg_scripts.specs.declared.lines.LinesEnd.TheVariants.{Whole, Stopped, NoMemory, SinkFailed}

-- ---- lines

-- lines of this form are obeyed
abbrev pub is_known : LineKind → Bool
is_known (kinds.Sweep most) = false
is_known (kinds.Prepare session) = false
is_known kind = true

abbrev pub bad_line : ℕ → Line
bad_line number = record { number = number; kind = kinds.Bad }

-- a line of a form that is not obeyed is a bad line
abbrev pub read_as : Line → Line
read_as line = if is_known line.kind then line else bad_line line.number

-- the line, as it is read, can be obeyed
abbrev pub CanBeObeyed : Line → Type 0
CanBeObeyed line = IsObeyable (read_as line).kind

-- the lines that were obeyed
abbrev pub lines_of : List Obeyed → List Line
lines_of turns = map (λ turn. turn.line) turns

-- none of these lines left more durable events behind it than so many
abbrev pub AreDurable : List Obeyed → ℕ → Type 0
AreDurable [] count = Unit {0}
AreDurable (turn ∷ more) count = (durable_count turn.after ≤ count) × AreDurable more count

-- ---- how they end

-- the last line's last answer is a refusal by which the run stops
pub record StopsBy (refusal : Refusal) (turns : List Obeyed) : Type 0 where
  pub before : List Obeyed
  pub last : Obeyed
  pub are : turns ≡ before ++ last ∷ []
  pub stops : flow (last_reply last.reply last.released) ≡ Stops refusal

-- Lines were obeyed: each to its end; or the run is cut short at the last of them.
abbrev pub AreRun : Opening → ℕ → LinesEnd → List Obeyed → Entries → List Unfinished → Type 0
AreRun o size Whole turns h us = AreObeyed o size turns h us
AreRun o size (Stopped refusal) turns h us = AreCutShort o size turns h us × StopsBy refusal turns
AreRun o size NoMemory turns h us = AreCutShort o size turns h us
AreRun o size SinkFailed turns h us = AreCutShort o size turns h us

-- all lines were obeyed, in their order; or those up to the one at which the run is cut short
abbrev pub AreLinesOf : LinesEnd → List Line → List Obeyed → Type 0
AreLinesOf Whole lines turns = lines_of turns ≡ map read_as lines
AreLinesOf end lines turns = (rest : List Line) × (lines_of turns ++ rest ≡ map read_as lines)

-- ---- what is printed

-- Of the lines up to the one at which the run is cut short, the transcript of all but that one was printed; then that of
-- the last. Where memory was short for it, the line of the fault by which the run stops was printed alone, if it needs
-- no memory; where the sink failed, a part was.
pub record PrintsUpTo {K : Type 0} (n : SinkMeaning K) (old new : K) (end : LinesEnd) (turns : List Obeyed) : Type 0
  where
    pub before : List Obeyed
    pub last : Obeyed
    pub are : turns ≡ before ++ last ∷ []
    pub mid : K
    pub writes : Writes n old mid (transcript before)
    pub failed : Option LinesEnd
    pub prints : PrintsLine n mid new (turn_of last.line last.reply last.released)
        (fault_said last.line last.reply last.released) failed
    pub by_sink : end ≡ SinkFailed → failed ≡ Some SinkFailed

-- the transcript of the lines was printed
abbrev pub PrintsSo : {K : Type 0} → SinkMeaning K → K → K → LinesEnd → List Obeyed → Type 0
PrintsSo n old new Whole turns = Writes n old new (transcript turns)
PrintsSo n old new end turns = PrintsUpTo n old new end turns

-- ---- the whole

-- The keeper stood for a history without entries, and stands for the one of the lines that were obeyed.
pub record LinesDone {R P Run K : Type 0} (m : Means R P) (runs : RunMeans R Run) (n : SinkMeaning K) (old new : R)
    (before after : K) (o : Opening) (size : ℕ) (lines : List Line) (all : List (Option Transaction))
    (ps : List (Pending Run)) (end : LinesEnd) (fine : Bool) : Type 0 where
  pub turns : List Obeyed
  pub entries : Entries
  pub unfinished : List Unfinished
  pub run : AreRun o size end turns entries unfinished
  pub are_lines : AreLinesOf end lines turns
  pub printed : PrintsSo n before after end turns
  pub are_fine : fine ≡ list_all turn_fine turns
  -- no later line takes back what was durable
  pub durable : AreDurable turns (durable_count entries)
  pub stand : StandAt m runs new o entries all ps unfinished
  pub carries : Carries m old new o [] entries
