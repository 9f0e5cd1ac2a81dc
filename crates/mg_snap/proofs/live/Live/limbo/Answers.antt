use Rattle.std.proofs.Common.{ap, ◌∙◌}
use Rattle.mg_snap.specs.Live.{numbers_of}
use Rattle.mg_snap.specs.LiveLaws.{numbers_undecided}
use Rattle.mg_snap.proofs.RoomLemmas.{table_changed}
use Rattle.mg_snap.proofs.live.Live.limbo.Goals as goal

pub invariant_of-self : goal.invariant_of-self
invariant_of-self c = table_changed _ _ _ _ c.self.invariant
    (ap numbers_of c.drop_base.ensures.base ∙ numbers_undecided _ _)
    c.drop_base.ensures.count c.drop_base.ensures.wide
