-- What was durable behind a line is on the disk, whatever a crash leaves at the end of a run.
use Rattle.std.specs.Prelude.{ℕ, List, [], ◌∷◌}
use Rattle.mg_base.specs.Disk.{MayLeave, Meaning}
use Rattle.mg_base.specs.Image.{Image}
use Rattle.mg_base.specs.Streams.{SinkMeaning}
use Rattle.mg_image.specs.Form.{packed_form}
use Rattle.mg_lasting_laws.specs.Crashes.{HoldsFrom, asked}
use Rattle.mg_model.specs.declared.opening.Opening.{Opening}
use Rattle.mg_model.specs.History.{Entries}
use Rattle.mg_model.specs.Legal.{durable_count}
use Rattle.mg_run_ends.specs.declared.ending.RunEnd.{RunEnd}
use Rattle.mg_script.specs.declared.line.Line.{Line}
use Rattle.mg_transcript.specs.Scripts.{Obeyed}
use Rattle.mg_runs.specs.Headline.{AreServed, Headline}

-- An image holds what a history has after some durable event, and for each of these lines after no fewer than there
-- were behind it.
abbrev pub HoldsEach : ℕ → Opening → Entries → List Obeyed → Image → Type 0
HoldsEach size o entries [] c = Unit {0}
HoldsEach size o entries (turn ∷ more) c =
    HoldsFrom packed_form size o (asked entries) (durable_count turn.after) c × HoldsEach size o entries more c

-- each image that a crash may leave at the end of a run holds each of its lines
abbrev pub LinesAreHeld : {D K : Type 0} → Meaning D → SinkMeaning K → Type 0
LinesAreHeld {D} {K} m n = (size limit : ℕ) (o : Opening) (lines : List Line) (old new : D) (before after : K) (end : RunEnd)
    (line : Headline m n size limit o lines old new before after end)
    (served : AreServed n before after size o lines end line.entries) (c : Image) → MayLeave m new c
    → HoldsEach size o line.entries served.turns c
