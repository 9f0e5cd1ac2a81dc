-- What the reading of a script comes to.
use Rattle.std.specs.Prelude.{◌≡◌, ◌≤◌, ◌<◌, ℕ, List, length, Some, Result, Ok, Err}
use Rattle.mg_base.specs.Disk.{Rose}
use Rattle.mg_base.specs.Streams.{SourceMeaning}
use Rattle.mg_model.specs.declared.refusal.Refusal.TheVariants.{Memory}
use Rattle.mg_script.specs.declared.line.Line.{Line}
use Rattle.mg_script.specs.Lines.{IsScript}
use Rattle.mg_run_ends.specs.declared.ending.RunEnd.{RunEnd}
use Rattle.mg_run_ends.specs.declared.ending.RunEnd.TheVariants.{Outside, ScriptTooLong, Stream}
use Rattle.mg_run_ends.specs.declared.ending.TheConstants.{SCRIPT_MOST}

-- Lines are those of all bytes that a source had, which are at most 1,048,576.
pub record IsWholeScript {S : Type 0} (m : SourceMeaning S) (source : S) (lines : List Line) : Type 0 where
  pub text : List ℕ
  pub is_script : IsScript text lines
  pub short : length text ≤ SCRIPT_MOST
  pub whole : (script : List ℕ) → m.left source ≡ Some script → script ≡ text

-- Why a script was not read to its end: the source failed; or it did not, and the script is too long, or memory was
-- short.
abbrev pub FailsToRead : {S : Type 0} → SourceMeaning S → S → S → RunEnd → Type 0
FailsToRead m old new Stream = Rose (m.faults old) (m.faults new)
FailsToRead m old new ScriptTooLong = (m.faults new ≡ m.faults old)
    × ((script : List ℕ) → m.left old ≡ Some script → SCRIPT_MOST < length script)
FailsToRead m old new (Outside Memory) = m.faults new ≡ m.faults old
FailsToRead m old new end = ⊥

-- the lines of a script were read, and the source did not fail; or it was not read to its end
abbrev pub ReadsScript : {S : Type 0} → SourceMeaning S → S → S → Result (List Line) RunEnd → Type 0
ReadsScript m old new (Ok lines) = IsWholeScript m old lines × (m.faults new ≡ m.faults old)
ReadsScript m old new (Err end) = FailsToRead m old new end
