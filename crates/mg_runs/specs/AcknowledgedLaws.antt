-- What holds all durable events of a history holds those that there were behind each of its lines.
use Rattle.std.proofs.Common.{◌≤◌, ℕ, List, [], ◌∷◌, arith}
use Rattle.mg_base.specs.Disk.{Meaning}
use Rattle.mg_base.specs.Image.{Image}
use Rattle.mg_base.specs.Streams.{SinkMeaning}
use Rattle.mg_image.specs.Form.{packed_form}
use Rattle.mg_lasting_laws.specs.Crashes.{HoldsAcknowledged}
use Rattle.mg_model.specs.declared.opening.Opening.{Opening}
use Rattle.mg_model.specs.History.{Entries}
use Rattle.mg_model.specs.Legal.{durable_count}
use Rattle.mg_scripts.specs.Runs.{AreDurable}
use Rattle.mg_transcript.specs.Scripts.{Obeyed}
use Rattle.mg_runs.specs.Acknowledged.{HoldsEach, LinesAreHeld}

holds_each : (size : ℕ) (o : Opening) (entries : Entries) (c : Image) → HoldsAcknowledged packed_form size o entries c
    → (turns : List Obeyed) → AreDurable turns (durable_count entries) → HoldsEach size o entries turns c
holds_each size o entries c holds [] are = tt
holds_each size o entries c holds (turn ∷ more) are = (
  record {
    k = holds.k;
    at_least = let all = holds.at_least in let its = are.0 in omega (arith, all, its);
    at_most = holds.at_most;
    holds = holds.holds;
    legal = holds.legal;
  },
  holds_each size o entries c holds more are.1,
)

pub lines_held : {D K : Type 0} (m : Meaning D) (n : SinkMeaning K) → LinesAreHeld m n
lines_held m n size limit o lines old new before after end line served c may =
    holds_each size o line.entries c (line.exit c may) served.turns served.durable
