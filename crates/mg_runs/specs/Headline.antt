-- What the program promises of a run, in the terms of one history.
use Rattle.std.specs.Prelude.{◌≡◌, ◌⊎◌, ◌≤◌, ◌+◌, ℕ, Bool, List, [], ◌∷◌, length, Some}
use Rattle.mg_base.specs.Disk.{MayLeave, Meaning}
use Rattle.mg_base.specs.Image.{Image, page_at}
use Rattle.mg_base.specs.Moments.{LeavesOnly}
use Rattle.mg_base.specs.Streams.{SinkMeaning}
use Rattle.mg_base.specs.declared.geometry.TheConstants.{GREATEST_LIMIT}
use Rattle.mg_engine_meaning_laws.specs.Closings.{GoesOnFrom, HasLeft}
use Rattle.mg_engine_meaning_laws.specs.Openings.{IsNoJudgement}
use Rattle.mg_image.specs.Form.{packed_form}
use Rattle.mg_lasting_laws.specs.Crashes.{HoldsAcknowledged, HoldsFrom, asked}
use Rattle.mg_model.specs.declared.opening.Opening.{Opening}
use Rattle.mg_model.specs.declared.refusal.Refusal.{Refusal}
use Rattle.mg_model.specs.declared.refusal.Refusal.TheVariants.{DiskRead, DiskWrite, Memory, Offline}
use Rattle.mg_model.specs.History.{Entries}
use Rattle.mg_model.specs.Legal.{IsLegal, durable_count}
use Rattle.mg_model.specs.Machine.{next_number}
use Rattle.mg_records.specs.Needed.{AreFullForCause, pages_needed}
use Rattle.mg_script.specs.declared.line.Line.{Line}
use Rattle.mg_script_ends.specs.Ends.{told_first}
use Rattle.mg_scripts.specs.declared.lines.LinesEnd.{LinesEnd}
use Rattle.mg_scripts.specs.declared.lines.LinesEnd.TheVariants as lines_ends
use Rattle.mg_scripts.specs.Ending.{EndsSo, fine_at}
use Rattle.mg_scripts.specs.Runs.{AreDurable, AreLinesOf, AreRun, PrintsSo}
use Rattle.mg_transcript.specs.Scripts.{Obeyed}
use Rattle.mg_transcript.specs.Sessions.{Unfinished}
use Rattle.mg_run_ends.specs.declared.ending.RunEnd.{RunEnd}
use Rattle.mg_run_ends.specs.declared.ending.RunEnd.TheVariants.{Whole, InLine, Outside, Stream, ScriptTooLong}
use Rattle.mg_run_ends.specs.Ends.{IsOutside, last_line}
use Rattle.mg_space.specs.FreePages.{HasFree}
use Rattle.mg_runs.specs.Entry.{IsEntry, geometry_at, promising}
use Rattle.mg_runs.specs.GoingOn.{GoesOnAt}
use Rattle.mg_run_ends.specs.Printing.{IsPrinted}

-- ---- how a run ends behind its lines

-- a database is not closed only where a page write fails, or has failed
abbrev pub IsClosingRefusal : Refusal → Type 0
IsClosingRefusal (DiskWrite count) = Unit {0}
IsClosingRefusal (Offline count) = Unit {0}
IsClosingRefusal refusal = ⊥

-- All lines were obeyed, and what was live was rolled back: the database was closed, or that was refused; or a
-- rolling back was refused, and the run ends by a fault of the disk, if one is among these refusals, or else by the first.
abbrev pub EndsWhole : List Refusal → Bool → RunEnd → Type 0
EndsWhole [] fine (Whole all) = all ≡ fine
EndsWhole [] fine (Outside refusal) = IsClosingRefusal refusal
EndsWhole [] fine (InLine refusal) = ⊥
EndsWhole [] fine Stream = ⊥
EndsWhole [] fine ScriptTooLong = ⊥
EndsWhole (first ∷ more) fine end = IsOutside (told_first first more) end

-- the end of the run, by how the lines came to theirs
abbrev pub EndsBehind : LinesEnd → List Refusal → Bool → RunEnd → Type 0
EndsBehind lines_ends.Whole refusals fine end = EndsWhole refusals fine end
EndsBehind (lines_ends.Stopped refusal) refusals fine end = end ≡ InLine refusal
EndsBehind lines_ends.NoMemory refusals fine end = end ≡ Outside Memory
EndsBehind lines_ends.SinkFailed refusals fine end = end ≡ Stream

-- ---- the lines

-- Lines were obeyed one after another from an opening on, and what is live was rolled back: the history with its
-- entries, and what was printed. No later entry takes back what was durable behind a line.
pub record AreServed {K : Type 0} (n : SinkMeaning K) (before after : K) (size : ℕ) (o : Opening) (lines : List Line)
    (end : RunEnd) (entries : Entries) : Type 0 where
  pub turns : List Obeyed
  pub obeyed_to : Entries
  pub unfinished : List Unfinished
  pub lines_end : LinesEnd
  pub run : AreRun o size lines_end turns obeyed_to unfinished
  pub are_lines : AreLinesOf lines_end lines turns
  pub refusals : List Refusal
  pub ended : EndsSo o lines_end obeyed_to entries refusals
  pub ends : EndsBehind lines_end refusals (fine_at lines_end turns unfinished) end
  pub durable : AreDurable turns (durable_count entries)
  -- the transcript, and behind it why the run ended
  pub mid : K
  pub transcript : PrintsSo n before mid lines_end turns
  pub last : IsPrinted n mid after (last_line end)

-- the run says neither that the disk holds no database, nor that a page is damaged
abbrev pub IsUnjudged : RunEnd → Type 0
IsUnjudged (InLine refusal) = IsNoJudgement refusal
IsUnjudged (Outside refusal) = IsNoJudgement refusal
IsUnjudged end = Unit {0}

-- a disk on which a history can begin is not opened only where it fails, or memory is short
abbrev pub IsOpeningFault : Refusal → Type 0
IsOpeningFault (DiskRead count) = Unit {0}
IsOpeningFault (DiskWrite count) = Unit {0}
IsOpeningFault Memory = Unit {0}
IsOpeningFault refusal = ⊥

-- No line was obeyed, and nothing has come to the history: the disk was not opened, or memory was short before the
-- first line.
pub record AreUnserved {K : Type 0} (n : SinkMeaning K) (before after : K) (end : RunEnd) (entries : Entries)
    : Type 0 where
  pub refusal : Refusal
  pub cause : IsOpeningFault refusal
  pub ends : end ≡ Outside refusal
  pub none : entries ≡ []
  pub last : IsPrinted n before after (last_line end)

-- ---- what is left

-- A disk has what a run left whose database was closed: nothing is pending, and its image holds the history with all
-- its durable events, and the number that it draws next. A history can begin with it that goes on from there, so a second
-- run has its premises, whatever page limit it asks for, with any number of pages that are free on the image by that
-- limit; and by the greatest limit those are that were promised to the first run and that it has not needed.
pub record HasEnded {D : Type 0} (m : Meaning D) (disk : D) (size : ℕ) (o : Opening) (entries : Entries) : Type 0
  where
    pub left : HasLeft m disk size o entries (durable_count entries)
    pub later : Opening
    pub goes_on : GoesOnFrom o entries (durable_count entries) later
    pub next : later.next.0 ≡ next_number o entries
    pub free : (count : ℕ) → pages_needed o entries + count ≤ o.free
        → HasFree (record { size = size; limit = GREATEST_LIMIT }) (page_at size left.image) count
    pub entry : (limit free : ℕ) → HasFree (geometry_at size limit left.image) (page_at size left.image) free
        → IsEntry m disk limit size left.image (promising free later)

-- where the database was closed, it is settled
abbrev pub IsSettledAt : {D : Type 0} → Meaning D → D → ℕ → Opening → Entries → RunEnd → Type 0
IsSettledAt m new size o entries (Whole fine) = HasEnded m new size o entries
IsSettledAt m new size o entries end = Unit {0}

-- ---- the promise

-- A run over a disk on which a history can begin: there is one legal history of its lines. The sink took its
-- transcript, and the line that says why the run has ended; every image that a crash since the start might have left
-- holds what the history has after some durable event, and each that a crash may leave at the end has all that were
-- acknowledged. With enough free pages for it and for those before it no entry is answered DATABASE FULL, and where one
-- is it names the page limit by which the disk was opened, and the disk never has more pages than that.
pub record Headline {D K : Type 0} (m : Meaning D) (n : SinkMeaning K) (size limit : ℕ) (o : Opening)
    (lines : List Line) (old new : D) (before after : K) (end : RunEnd) : Type 0 where
  pub entries : Entries
  pub served : AreServed n before after size o lines end entries ⊎ AreUnserved n before after end entries
  pub legal : IsLegal o entries
  -- an entry is answered DATABASE FULL only where its event may take pages, and it needs more, with those before it, than
  -- were promised; and it names the page limit
  pub room : AreFullForCause limit o entries
  pub crash : LeavesOnly m old new (HoldsFrom packed_form size o (asked entries) 0)
  pub exit : (c : Image) → MayLeave m new c → HoldsAcknowledged packed_form size o entries c
  -- with each of those images a next history can begin, and it goes on from there
  pub goes_on : (least : ℕ) (c : Image) (from : HoldsFrom packed_form size o (asked entries) least c)
      → GoesOnAt size o (asked entries) from.k c
  pub settled : IsSettledAt m new size o entries end
  -- no page was found damaged, by the opening, a line, a rolling back at the end or the closing
  pub unjudged : IsUnjudged end
  -- the disk tells as before, and has pages of the same size
  pub tells : m.tells new ≡ m.tells old
  pub sized : m.size new ≡ Some size
  -- no image that a crash might have left, at any moment up to the end, has more pages than the page limit
  pub within : (t : ℕ) (c : Image) → m.left new t c → length c ≤ limit
