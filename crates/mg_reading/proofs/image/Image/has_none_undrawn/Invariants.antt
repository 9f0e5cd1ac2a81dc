use Rattle.mg_reading.specs.ImageView.{pages_in}
use Rattle.mg_reading.proofs.UndrawnLemmas.{PlacesUndrawn}
use Rattle.mg_reading.proofs.image.Image.has_none_undrawn.Given as goal

abbrev pub invariant-loop-place : goal.invariant-loop-place
invariant-loop-place l = PlacesUndrawn l.self.size (pages_in l.self) l.place
