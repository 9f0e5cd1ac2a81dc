use Rattle.std.proofs.Common.{rules}
use Rattle.mg_reading.specs.ImageView.{pages_in}
use Rattle.mg_reading.proofs.UndrawnLemmas.{undrawn_at}
use Rattle.mg_reading.proofs.image.Image.has_none_undrawn.Goals as goal

pub returns-then-not-is_undrawn : goal.returns-then-not-is_undrawn
returns-then-not-is_undrawn c =
    let known = undrawn_at c.args.self.now.size (pages_in c.args.self.now) c.loop-place.place
    (search rules) in
    search rules
