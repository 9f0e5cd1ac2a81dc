-- What the program promises of a command line.
use Rattle.std.specs.Prelude.{◌≡◌, ◌<◌, ◌≤◌, ◌⊎◌, ℕ, List, [], ◌∷◌, ◌++◌, Option, None, Some, codes, unwrap_or}
use Rattle.mg_base.specs.Disk.{FailsNoWrite, Meaning, Rose}
use Rattle.mg_base.specs.Image.{Image}
use Rattle.mg_base.specs.Streams.{SinkMeaning, SourceMeaning}
use Rattle.mg_base.specs.declared.geometry.TheConstants.{GREATEST_LIMIT}
use Rattle.mg_fuse.specs.Counting.{AsksAtMost, AsksExactly}
use Rattle.mg_model.specs.declared.opening.Opening.{Opening}
use Rattle.mg_model.specs.declared.refusal.Refusal.{Refusal}
use Rattle.mg_model.specs.declared.refusal.Refusal.TheVariants as refusals
use Rattle.mg_words.specs.declared.asked.Asked.{Asked}
use Rattle.mg_words.specs.Words.{IsRun}
use Rattle.mg_run_ends.specs.declared.ending.RunEnd.{RunEnd}
use Rattle.mg_run_ends.specs.declared.ending.RunEnd.TheVariants.{InLine, Outside}
use Rattle.mg_run_ends.specs.declared.status.Status.{Status}
use Rattle.mg_run_ends.specs.Ends.{EndsWith, status_of}
use Rattle.mg_runs.specs.Entry.{IsEntry, limit_on}
use Rattle.mg_run_ends.specs.Printing.{IsPrinted}
use Rattle.mg_runs.specs.OtherFiles.{HoldsNoDatabase}
use Rattle.mg_runs.specs.Promise.{LeavesFile, Promise, ScriptCauses, StreamCauses}

-- ---- words that are no command line

-- USAGE was printed, and nothing else was done.
pub record IsUsage {D S K : Type 0} (n : SinkMeaning K) (shelf shelf' : D) (source source' : S) (sink sink' : K)
    : Type 0 where
  pub shelf_stays : shelf' ≡ shelf
  pub source_stays : source' ≡ source
  pub printed : IsPrinted n sink sink' (codes "mgdb: USAGE" ++ 10 ∷ [])

-- ---- a run

-- With `--stop` a read fault is told only as without it: where the count of faults rose, and no page write failed. (A count
-- of failed page writes that falls is no disk's: `never_falls`.) A write fault, and that the disk is offline, is told only
-- where a page write failed, or where all had passed that may; any other refusal only where the count of faults has not
-- risen.
abbrev pub FailsOrStops : {D : Type 0} → Meaning D → Type 0 → D → D → Refusal → Type 0
FailsOrStops m All old new (refusals.DiskRead faults) =
    (Rose (m.faults old) (m.faults new) × FailsNoWrite m old new) ⊎ (m.failed_writes new < m.failed_writes old)
FailsOrStops m All old new (refusals.DiskWrite faults) =
    (Rose (m.faults old) (m.faults new) × Rose (m.failed_writes old) (m.failed_writes new)) ⊎ All
FailsOrStops m All old new (refusals.Offline faults) =
    (Rose (m.faults old) (m.faults new) × Rose (m.failed_writes old) (m.failed_writes new)) ⊎ All
FailsOrStops m All old new refusal = m.faults new ≤ m.faults old

-- so an end by a refusal comes, and any other end
abbrev pub EndsOrStops : {D : Type 0} → Meaning D → Type 0 → D → D → RunEnd → Type 0
EndsOrStops m All old new (InLine refusal) = FailsOrStops m All old new refusal
EndsOrStops m All old new (Outside refusal) = FailsOrStops m All old new refusal
EndsOrStops m All old new end = m.faults new ≤ m.faults old

-- A run has ended so on a disk of which so many page writes may pass: it was asked for no more, as far as it counts page
-- writes, and the run has not ended by the disk where that did not fail and not all of them were asked for.
pub record EndsStopped {D : Type 0} (m : Meaning D) (counts_to most : ℕ) (old new : D) (end : RunEnd) : Type 0 where
  pub at_most : AsksAtMost m counts_to most old new
  pub ends : EndsOrStops m (AsksExactly m counts_to most old new) old new end

-- with `--stop` a run ends so, without it as on the disk alone
abbrev pub EndsOn : {D : Type 0} → Meaning D → ℕ → Option ℕ → D → D → RunEnd → Type 0
EndsOn m counts_to None old new end = EndsWith m old new end
EndsOn m counts_to (Some most) old new end = EndsStopped m counts_to most old new end

-- the page limit that a command line asks for: the one of `--limit`, or else the greatest
abbrev pub limit_asked : Asked → ℕ
limit_asked asked = unwrap_or asked.limit GREATEST_LIMIT

-- A run has ended so on a disk that is opened with a page limit, and of which `--stop` lets so many page writes through,
-- if it is given. The disk counts page writes up to an end.
pub record Runs {D S K : Type 0} (m : Meaning D) (counts_to : ℕ) (s : SourceMeaning S) (n : SinkMeaning K)
    (limit : ℕ) (stop : Option ℕ) (source source' : S) (old new : D) (sink sink' : K) (end : RunEnd) : Type 0 where
  pub disk : EndsOn m counts_to stop old new end
  pub streams : StreamCauses s n source source' sink sink' end
  pub script : ScriptCauses s source old new end
  pub headline : (size : ℕ) (image : Image) (o : Opening) (script : List ℕ) → IsEntry m old limit size image o
      → s.left source ≡ Some script → Promise m n size (limit_on limit image) o script old new sink sink' end
  -- a file that holds no database is not written
  pub other_files : (size : ℕ) (image : Image) → HoldsNoDatabase m old size image
      → LeavesFile m n size image old new sink sink' end

-- The words are a command line; its run has ended, and the status tells how.
pub record HasRun {D S K : Type 0} (m : Meaning D) (counts_to : ℕ) (s : SourceMeaning S) (n : SinkMeaning K)
    (words : List (List ℕ)) (source source' : S) (old new : D) (sink sink' : K) (status : Status) : Type 0 where
  pub asked : Asked
  pub is_run : IsRun words asked
  pub end : RunEnd
  pub status_is : status ≡ status_of end
  pub runs : Runs m counts_to s n (limit_asked asked) asked.stop source source' old new sink sink' end
