-- How a run ends where nothing fails.
use Rattle.std.specs.Prelude.{◌≡◌, ◌≤◌, ◌⊎◌, ℕ, List, length, None, Some}
use Rattle.mg_base.specs.Disk.{Meaning, Rose}
use Rattle.mg_base.specs.Image.{Image}
use Rattle.mg_base.specs.Streams.{SinkMeaning, SourceMeaning}
use Rattle.mg_model.specs.History.{Entries}
use Rattle.mg_model.specs.Legal.{IsLegal}
use Rattle.mg_model.specs.declared.opening.Opening.{Opening}
use Rattle.mg_model.specs.declared.refusal.Refusal.TheVariants.{Memory}
use Rattle.mg_run_ends.specs.declared.ending.RunEnd.{RunEnd}
use Rattle.mg_run_ends.specs.declared.ending.RunEnd.TheVariants.{InLine, Outside}
use Rattle.mg_run_ends.specs.declared.ending.TheConstants.{SCRIPT_MOST}
use Rattle.mg_run_ends.specs.Ends.{status, status_of}
use Rattle.mg_runs.specs.Entry.{IsEntry}
use Rattle.mg_runs.specs.Headline.{AreServed}
use Rattle.mg_script.specs.Lines.{IsScript}
use Rattle.mg_script.specs.declared.line.Line.{Line}
use Rattle.mg_scripts.specs.declared.lines.LinesEnd.TheVariants.{Whole}
use Rattle.mg_program.specs.Top.{Runs}

-- All lines of a script were obeyed, from an opening on, by one legal history; and the sink took their whole transcript.
pub record ObeysAll {K : Type 0} (n : SinkMeaning K) (before after : K) (size : ℕ) (o : Opening) (script : List ℕ)
    (end : RunEnd) : Type 0 where
  pub lines : List Line
  pub is_script : IsScript script lines
  pub entries : Entries
  pub legal : IsLegal o entries
  pub served : AreServed n before after size o lines end entries
  pub whole : served.lines_end ≡ Whole

-- memory was short, in a line or outside the lines, and by that the run has ended, with status 6
abbrev pub IsShort : RunEnd → Type 0
IsShort end = (end ≡ InLine Memory) ⊎ (end ≡ Outside Memory)

-- All lines were obeyed, and the status is 0 or 1; or memory was short.
abbrev pub IsComplete : {K : Type 0} → SinkMeaning K → K → K → ℕ → Opening → List ℕ → RunEnd → Type 0
IsComplete n before after size o script end =
    (ObeysAll n before after size o script end × ((status_of end ≡ status 0) ⊎ (status_of end ≡ status 1)))
    ⊎ IsShort end

-- So ends a run without `--stop` on a disk on which a history can begin, where the script has at most 1,048,576 bytes, and
-- no count of faults rose, of the disk, of the source or of the sink. (Where its entries need no more pages than its
-- opening promises, none of them is answered DATABASE FULL: that is `room` of its headline, and holds whatever fails.)
abbrev pub RunsAreComplete : {D S K : Type 0} → Meaning D → SourceMeaning S → SinkMeaning K → Type 0
RunsAreComplete {D} {S} {K} m s n = (counts_to limit : ℕ) (source source' : S) (old new : D) (sink sink' : K)
    (end : RunEnd) (size : ℕ) (image : Image) (o : Opening) (script : List ℕ)
    → Runs m counts_to s n limit None source source' old new sink sink' end → IsEntry m old limit size image o
    → s.left source ≡ Some script → length script ≤ SCRIPT_MOST
    → (Rose (m.faults old) (m.faults new) → ⊥) → (Rose (s.faults source) (s.faults source') → ⊥)
    → (Rose (n.faults sink) (n.faults sink') → ⊥) → IsComplete n sink sink' size o script end
