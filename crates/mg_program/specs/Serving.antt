-- What a run whose script was read promises.
use Rattle.std.specs.Prelude.{◌≡◌, ◌≢◌, ℕ, Bool, List, Option, None, Some}
use Rattle.mg_base.specs.Disk.{Meaning, Rose}
use Rattle.mg_base.specs.Image.{Image}
use Rattle.mg_base.specs.Streams.{SinkMeaning}
use Rattle.mg_core.specs.declared.parts.Core.{Core}
use Rattle.mg_engine_meaning_laws.specs.Openings.{IsOpenedOver}
use Rattle.mg_engine_meaning_laws.specs.Meaning.{Places, means_with_room}
use Rattle.mg_model.specs.declared.opening.Opening.{Opening}
use Rattle.mg_model.specs.declared.refusal.Refusal.{Refusal}
use Rattle.mg_model.specs.declared.refusal.Refusal.TheVariants.{Memory}
use Rattle.mg_script.specs.declared.line.Line.{Line}
use Rattle.mg_script_ends.specs.Ends.{told_of}
use Rattle.mg_scripts.specs.declared.lines.LinesEnd.{LinesEnd}
use Rattle.mg_scripts.specs.declared.lines.LinesEnd.TheVariants as lines_ends
use Rattle.mg_scripts.specs.Ending.{ScriptDone, reason_at}
use Rattle.mg_scripts.specs.Printing.{SinkSays}
use Rattle.mg_sessions.specs.Accounts.{Accounts}
use Rattle.mg_run_ends.specs.declared.ending.RunEnd.{RunEnd}
use Rattle.mg_run_ends.specs.declared.ending.RunEnd.TheVariants.{InLine, Outside, ScriptTooLong, Stream, Whole}
use Rattle.mg_run_ends.specs.Ends.{EndsWith}
use Rattle.mg_runs.specs.Entry.{IsEntry, limit_on}
use Rattle.mg_runs.specs.Headline.{Headline}
use Rattle.mg_runs.specs.OtherFiles.{HoldsNoDatabase, RefusesFile}

-- A run whose script was read has ended, over a disk that was opened with a page limit: where the disk's count of faults
-- has risen, where the sink's has, that as many page writes pass in all as did, and the history of the lines; a file that
-- holds no database is refused.
pub record Serves {D K : Type 0} (m : Meaning D) (n : SinkMeaning K) (limit : ℕ) (lines : List Line) (old new : D)
    (before after : K) (end : RunEnd) : Type 0 where
  pub read : end ≢ ScriptTooLong
  pub disk : EndsWith m old new end
  pub most_writes : m.most_writes new ≡ m.most_writes old
  pub stream : end ≡ Stream → Rose (n.faults before) (n.faults after)
  pub sink_steady : (fine : Bool) → end ≡ Whole fine → n.faults after ≡ n.faults before
  pub headline : (size : ℕ) (image : Image) (o : Opening) → IsEntry m old limit size image o
      → Headline m n size (limit_on limit image) o lines old new before after end
  pub other_files : (size : ℕ) (image : Image) → HoldsNoDatabase m old size image
      → RefusesFile m n size image old new before after end

-- ---- lines on an engine

-- An engine was opened over a disk with a page limit, and the lines of a script were obeyed on it, or as many of them as
-- its end lets: what came of them.
pub record HasObeyed {D P K : Type 0} (m : Meaning D) (places : Places P) (n : SinkMeaning K) (limit : ℕ)
    (lines : List Line) (disk : D) (now : Core D) (before mid : K) (refusals : List Refusal) (lines_end : LinesEnd)
    (fine : Bool) : Type 0 where
  pub core : Core D
  pub opened : IsOpenedOver m disk limit core
  pub accounts : Accounts (means_with_room m places) core now (reason_at lines_end refusals)
  pub sinks : SinkSays n before mid lines_end
  pub done : (size : ℕ) (image : Image) (o : Opening) → IsEntry m disk limit size image o
      → ScriptDone (means_with_room m places) n core now before mid o size lines refusals lines_end fine

-- a run ends by what is told of the rollings back that were refused, if one was
abbrev pub told_end : Option Refusal → Option RunEnd
told_end None = None
told_end (Some refusal) = Some (Outside refusal)

-- how a run ends that doesn't close the database: its lines were cut short, or a rolling back was refused
abbrev pub cut_end : LinesEnd → List Refusal → Option RunEnd
cut_end lines_ends.Whole refusals = told_end (told_of refusals)
cut_end (lines_ends.Stopped refusal) refusals = Some (InLine refusal)
cut_end lines_ends.NoMemory refusals = Some (Outside Memory)
cut_end lines_ends.SinkFailed refusals = Some Stream
