-- What the program promises of the words `run DB`.
use Rattle.std.specs.Prelude.{◌≡◌, ◌≢◌, ◌⊎◌, ◌≤◌, ◌<◌, ℕ, Bool, List, length, Some}
use Rattle.mg_base.specs.Disk.{Meaning, Rose}
use Rattle.mg_base.specs.Image.{Image}
use Rattle.mg_base.specs.Streams.{SinkMeaning, SourceMeaning}
use Rattle.mg_model.specs.declared.opening.Opening.{Opening}
use Rattle.mg_model.specs.declared.refusal.Refusal.TheVariants.{Memory}
use Rattle.mg_script.specs.declared.line.Line.{Line}
use Rattle.mg_script.specs.Lines.{IsScript}
use Rattle.mg_run_ends.specs.declared.ending.RunEnd.{RunEnd}
use Rattle.mg_run_ends.specs.declared.ending.RunEnd.TheVariants.{Whole, Outside, Stream, ScriptTooLong}
use Rattle.mg_run_ends.specs.declared.ending.TheConstants.{SCRIPT_MOST}
use Rattle.mg_run_ends.specs.Ends.{last_line}
use Rattle.mg_runs.specs.Headline.{Headline}
use Rattle.mg_runs.specs.OtherFiles.{RefusesFile}
use Rattle.mg_run_ends.specs.Printing.{IsPrinted}

-- ---- the script

-- why a script is not read to its end: the source failed, it is too long, or memory was short
abbrev pub IsReadingEnd : RunEnd → Type 0
IsReadingEnd end = (end ≡ Stream) ⊎ ((end ≡ ScriptTooLong) ⊎ (end ≡ Outside Memory))

-- The script was not read to its end: nothing was asked of the disk.
pub record IsUnread {D K : Type 0} (n : SinkMeaning K) (old new : D) (before after : K) (end : RunEnd) : Type 0
  where
    pub ends : IsReadingEnd end
    pub disk : new ≡ old
    pub last : IsPrinted n before after (last_line end)

-- The script was not read to its end; or it was, and its lines have their history.
abbrev pub Promise : {D K : Type 0} → Meaning D → SinkMeaning K → ℕ → ℕ → Opening → List ℕ → D → D → K → K
    → RunEnd → Type 0
Promise m n size limit o script old new before after end = IsUnread n old new before after end
    ⊎ ((lines : List Line) × IsScript script lines × Headline m n size limit o lines old new before after end)

-- Over a file that holds no database the script was not read to its end; or it was, and the file is refused.
abbrev pub LeavesFile : {D K : Type 0} → Meaning D → SinkMeaning K → ℕ → Image → D → D → K → K → RunEnd → Type 0
LeavesFile m n size image old new before after end = IsUnread n old new before after end
    ⊎ RefusesFile m n size image old new before after end

-- ---- causes, over any disk and any streams

-- The run has ended by a stream exactly where the source's count or the sink's rose before anything else came: the
-- source's rises with no other end, and the sink's stands still where all was printed.
pub record StreamCauses {S K : Type 0} (m : SourceMeaning S) (n : SinkMeaning K) (source source' : S) (sink sink' : K)
    (end : RunEnd) : Type 0 where
  pub failed : end ≡ Stream → Rose (m.faults source) (m.faults source') ⊎ Rose (n.faults sink) (n.faults sink')
  pub source_steady : end ≢ Stream → m.faults source' ≡ m.faults source
  pub sink_steady : (fine : Bool) → end ≡ Whole fine → n.faults sink' ≡ n.faults sink

-- a script is too long exactly where it has more than 1,048,576 bytes
pub record ScriptCauses {S D : Type 0} (m : SourceMeaning S) (source : S) (old new : D) (end : RunEnd) : Type 0 where
  pub too_long : end ≡ ScriptTooLong → (script : List ℕ) → m.left source ≡ Some script → SCRIPT_MOST < length script
  pub not_asked : end ≡ ScriptTooLong → new ≡ old
  pub short : end ≢ ScriptTooLong → end ≢ Stream → end ≢ Outside Memory → (script : List ℕ)
      → m.left source ≡ Some script → length script ≤ SCRIPT_MOST
