-- A commit that was acknowledged is on the file, from its line on.
use Rattle.std.specs.Prelude.{◌≡◌, ◌⊎◌, ℕ, List, [], Some}
use Rattle.mg_base.specs.Disk.{MayLeave, Meaning}
use Rattle.mg_base.specs.Image.{Image}
use Rattle.mg_base.specs.Streams.{SinkMeaning, SourceMeaning}
use Rattle.mg_model.specs.History.{Entries}
use Rattle.mg_model.specs.declared.opening.Opening.{Opening}
use Rattle.mg_run_ends.specs.declared.ending.RunEnd.{RunEnd}
use Rattle.mg_runs.specs.Acknowledged.{HoldsEach}
use Rattle.mg_runs.specs.Entry.{IsEntry}
use Rattle.mg_runs.specs.Headline.{AreServed, AreUnserved}
use Rattle.mg_runs.specs.Promise.{IsUnread}
use Rattle.mg_script.specs.Lines.{IsScript}
use Rattle.mg_script.specs.declared.line.Line.{Line}
use Rattle.mg_program.specs.Top.{Runs}

-- Lines were obeyed, and whatever a crash may leave now holds what was durable behind each of them; or none was.
pub record HoldsLines {D K : Type 0} (m : Meaning D) (n : SinkMeaning K) (size : ℕ) (o : Opening) (script : List ℕ)
    (new : D) (before after : K) (end : RunEnd) : Type 0 where
  pub lines : List Line
  pub is_script : IsScript script lines
  pub entries : Entries
  pub served : AreServed n before after size o lines end entries
  pub held : (c : Image) → MayLeave m new c → HoldsEach size o entries served.turns c

-- A run with `--stop N` ends at its N-th page write: no later one passes. So what this says of its end holds at that
-- moment of a run without it, and N is any number. A commit's line is put into the sink before the next line is obeyed:
-- where the sink took it, its line is one of these.
abbrev pub AcknowledgedIsHeld : {D S K : Type 0} → Meaning D → SourceMeaning S → SinkMeaning K → Type 0
AcknowledgedIsHeld {D} {S} {K} m s n = (counts_to limit most : ℕ) (source source' : S) (old new : D) (sink sink' : K)
    (end : RunEnd) (size : ℕ) (image : Image) (o : Opening) (script : List ℕ)
    → Runs m counts_to s n limit (Some most) source source' old new sink sink' end → IsEntry m old limit size image o
    → s.left source ≡ Some script
    → IsUnread n old new sink sink' end
    ⊎ (AreUnserved n sink sink' end [] ⊎ HoldsLines m n size o script new sink sink' end)
