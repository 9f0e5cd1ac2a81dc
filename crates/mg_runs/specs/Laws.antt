-- What the steps of a run give of its promise.
use Rattle.std.specs.Prelude.{◌≡◌, ◌≤◌, ℕ, Bool, true, false, List, [], ◌∷◌, Option, Some, Result, Ok, Err}
use Rattle.mg_base.specs.Disk.{Meaning}
use Rattle.mg_base.specs.Image.{Image}
use Rattle.mg_base.specs.FaultyDisk.{disk_of, faulty_meaning}
use Rattle.mg_base.specs.MemDisk.{acts_in, mem_meaning}
use Rattle.mg_base.specs.declared.faulty_disk.FaultyDisk.{FaultyDisk}
use Rattle.mg_base.specs.Streams.{SinkMeaning}
use Rattle.mg_base.specs.declared.mem_disk.MemDisk.{MemDisk}
use Rattle.mg_core.specs.Cores.{IsCore}
use Rattle.mg_device.specs.Forced.{forced_meaning}
use Rattle.mg_device.specs.MemDevice.{mem_device_meaning}
use Rattle.mg_device.specs.declared.forced.ForcedWrites.{ForcedWrites}
use Rattle.mg_device.specs.declared.mem_device.MemDevice.{MemDevice}
use Rattle.mg_core.specs.declared.parts.Core.{Core}
use Rattle.mg_engine_meaning_laws.specs.Closings.{ClosesEngine}
use Rattle.mg_engine_meaning_laws.specs.FreePages.{CoreHasFree}
use Rattle.mg_engine_meaning_laws.specs.Openings.{BeginsWith, IsOpenedOver, RefusesOpening, new_history}
use Rattle.mg_engine_meaning_laws.specs.Meaning.{Places, means_with_room}
use Rattle.mg_engine_meaning_laws.specs.Standings.{StandsFor}
use Rattle.mg_model.specs.Answers.{is_active}
use Rattle.mg_model.specs.Machine.{state_of}
use Rattle.mg_model.specs.declared.opening.Opening.{Opening}
use Rattle.mg_model.specs.declared.refusal.Refusal.{Refusal}
use Rattle.mg_new_database_laws.specs.NewRoom.{HasNewRoom}
use Rattle.mg_records.specs.Keeping.{refusal_in}
use Rattle.mg_script.specs.declared.line.Line.{Line}
use Rattle.mg_scripts.specs.declared.lines.LinesEnd.{LinesEnd}
use Rattle.mg_scripts.specs.declared.lines.LinesEnd.TheVariants as lines_ends
use Rattle.mg_scripts.specs.Ending.{ScriptDone, reason_at}
use Rattle.mg_scripts.specs.Steps.{reason}
use Rattle.mg_sessions.specs.Accounts.{Accounts}
use Rattle.mg_survey.specs.Survey.{limit_of}
use Rattle.mg_run_ends.specs.declared.ending.RunEnd.{RunEnd}
use Rattle.mg_run_ends.specs.declared.ending.RunEnd.TheVariants.{Whole, Outside}
use Rattle.mg_run_ends.specs.Ends.{FailsBy, FailsWith, IsOutside, last_line}
use Rattle.mg_runs.specs.Entry.{IsEntry, IsOpeningOf, limit_on, promising}
use Rattle.mg_runs.specs.Headline.{EndsBehind, Headline}
use Rattle.mg_runs.specs.OtherFiles.{HoldsNoDatabase, RefusesFile}
use Rattle.mg_run_ends.specs.Printing.{IsPrinted}

-- ---- the opening

-- A disk that was not opened: its history has no entry.
abbrev pub OpeningsAreJudged : {D K : Type 0} → Meaning D → SinkMeaning K → Type 0
OpeningsAreJudged {D} {K} m n = (disk new : D) (limit : ℕ) (refusal : Refusal) (size : ℕ) (image : Image) (o : Opening)
    (lines : List Line) (end : RunEnd) (before after : K) → IsEntry m disk limit size image o
    → RefusesOpening m disk new limit refusal → IsOutside refusal end → IsPrinted n before after (last_line end)
    → Headline m n size (limit_on limit image) o lines disk new before after end

-- a file that holds no database is refused at the opening, and not written,
abbrev pub OtherFilesAreRefused : {D K : Type 0} → Meaning D → SinkMeaning K → Type 0
OtherFilesAreRefused {D} {K} m n = (disk new : D) (limit : ℕ) (refusal : Refusal) (size : ℕ) (image : Image)
    (end : RunEnd) (before after : K) → HoldsNoDatabase m disk size image → RefusesOpening m disk new limit refusal
    → IsOutside refusal end → IsPrinted n before after (last_line end)
    → RefusesFile m n size image disk new before after end

-- and never opened
abbrev pub OtherFilesAreUnopened : {D : Type 0} → Meaning D → Type 0
OtherFilesAreUnopened {D} m = (disk : D) (limit : ℕ) (core : Core D) (size : ℕ) (image : Image)
    → HoldsNoDatabase m disk size image → IsOpenedOver m disk limit core → ⊥

-- An engine that was opened stands for the history that begins with what its disk held, and has the pages free that are
-- promised.
pub record BeginsRun {D : Type 0} (m : Meaning D) (core : Core D) (size : ℕ) (o : Opening) : Type 0 where
  pub size_is : core.store.geometry.size ≡ size
  pub stands : StandsFor m core o []
  pub room : (count : ℕ) → count ≤ o.free → CoreHasFree m core count
  pub idle : (t : ℕ) → is_active (state_of o [] t) ≡ false

abbrev pub RunsBegin : {D : Type 0} → Meaning D → Type 0
RunsBegin {D} m = (disk : D) (limit : ℕ) (core : Core D) (size : ℕ) (image : Image) (o : Opening)
    → IsOpenedOver m disk limit core → IsEntry m disk limit size image o → BeginsRun m core size o

-- ---- the end

-- the run ends without that the database is closed: its lines were cut short, or a rolling back was refused
abbrev pub IsCutOff : LinesEnd → List Refusal → Type 0
IsCutOff lines_ends.Whole [] = ⊥
IsCutOff lines_ends.Whole (first ∷ more) = Unit {0}
IsCutOff lines_end refusals = Unit {0}

-- Its disk is as the engine left it.
abbrev pub RunsStop : {D P K : Type 0} → Meaning D → Places P → SinkMeaning K → Type 0
RunsStop {D} {P} {K} m places n = (disk : D) (limit : ℕ) (core now : Core D) (size : ℕ) (image : Image) (o : Opening)
    (lines : List Line) (refusals : List Refusal) (lines_end : LinesEnd) (fine : Bool) (end : RunEnd)
    (before mid after : K) → IsEntry m disk limit size image o → IsOpenedOver m disk limit core → IsCore m now
    → Accounts (means_with_room m places) core now (reason_at lines_end refusals)
    → ScriptDone (means_with_room m places) n core now before mid o size lines refusals lines_end fine
    → IsCutOff lines_end refusals → EndsBehind lines_end refusals fine end → IsPrinted n mid after (last_line end)
    → Headline m n size (limit_on limit image) o lines disk now.store.disk before after end

-- the end of a run whose database was closed, or not
abbrev pub closed_end : Bool → Result (Unit {0}) Refusal → RunEnd
closed_end fine (Ok x) = Whole fine
closed_end fine (Err refusal) = Outside refusal

-- All lines were obeyed, nothing was refused at the end, and the engine was closed, or not.
abbrev pub RunsClose : {D P K : Type 0} → Meaning D → Places P → SinkMeaning K → Type 0
RunsClose {D} {P} {K} m places n = (disk new : D) (limit : ℕ) (core now : Core D) (size : ℕ) (image : Image)
    (o : Opening) (lines : List Line) (fine : Bool) (result : Result (Unit {0}) Refusal) (before mid after : K)
    → IsEntry m disk limit size image o → IsOpenedOver m disk limit core → IsCore m now
    → Accounts (means_with_room m places) core now (reason lines_ends.Whole)
    → ScriptDone (means_with_room m places) n core now before mid o size lines [] lines_ends.Whole fine
    → ClosesEngine m now new result → IsPrinted n mid after (last_line (closed_end fine result))
    → Headline m n size (limit_on limit image) o lines disk new before after (closed_end fine result)

-- ---- faults of the disk

-- what the disk refuses comes only where its count of faults rose since the start, and where it does not refuse, that
-- stands: at the opening,
abbrev pub OpeningsFail : {D : Type 0} → Meaning D → Type 0
OpeningsFail {D} m = (disk new : D) (limit : ℕ) (refusal : Refusal) → RefusesOpening m disk new limit refusal
    → FailsWith m disk new refusal

-- within the lines and as what is live is rolled back,
abbrev pub LinesFail : {D P : Type 0} → Meaning D → Places P → Type 0
LinesFail {D} {P} m places = (disk : D) (limit : ℕ) (core now : Core D) (told : Option Refusal)
    → IsOpenedOver m disk limit core → Accounts (means_with_room m places) core now told
    → FailsBy m disk now.store.disk told

-- and as the database is closed, behind lines that were all obeyed
abbrev pub ClosingsFail : {D P : Type 0} → Meaning D → Places P → Type 0
ClosingsFail {D} {P} m places = (disk new : D) (limit : ℕ) (core now : Core D) (result : Result (Unit {0}) Refusal)
    → IsOpenedOver m disk limit core → Accounts (means_with_room m places) core now (reason lines_ends.Whole)
    → ClosesEngine m now new result → FailsBy m disk new (refusal_in result)

-- ---- the premise

-- A disk in memory of which nothing was asked yet is one on which a run has its history, that of a new database. It may
-- promise those that are free in it below the page limit.
abbrev pub BlankIsEntry : Type 0
BlankIsEntry = (disk : MemDisk) (limit free : ℕ) → acts_in disk ≡ []
    → HasNewRoom disk.size (limit_of limit 0) free → IsEntry mem_meaning disk limit disk.size [] (new_history free)

-- One that was settled last, as one that is made of an image, is one on which a run has any history that the image may
-- begin with.
abbrev pub SettledIsEntry : Type 0
SettledIsEntry = (disk : MemDisk) (limit : ℕ) (image : Image) (o : Opening) → disk.settled ≡ true
    → mem_meaning.held disk ≡ Some image → IsOpeningOf disk.size limit image o
    → IsEntry mem_meaning disk limit disk.size image o

-- and so is one whose calls fail where a list says so, over such a disk
abbrev pub FaultyIsEntry : Type 0
FaultyIsEntry = (disk : FaultyDisk) (limit size : ℕ) (image : Image) (o : Opening)
    → IsEntry mem_meaning (disk_of disk) limit size image o → IsEntry faulty_meaning disk limit size image o

-- A device in memory of which nothing was asked yet, with each page write forced, is one on which a run has the history
-- of a new database.
abbrev pub ForcedIsEntry : Type 0
ForcedIsEntry = (disk : ForcedWrites MemDevice) (limit free : ℕ) → acts_in disk.device.disk ≡ []
    → HasNewRoom disk.device.disk.size (limit_of limit 0) free
    → IsEntry (forced_meaning mem_device_meaning) disk limit disk.device.disk.size [] (new_history free)

-- what a history may begin with promises any number of pages that are free
abbrev pub AnyFreeBegins : Type 0
AnyFreeBegins = (size : ℕ) (image : Image) (o : Opening) (free : ℕ) → BeginsWith size image o
    → BeginsWith size image (promising free o)
