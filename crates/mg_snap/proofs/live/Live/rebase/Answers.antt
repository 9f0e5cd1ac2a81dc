use Rattle.std.proofs.Common.{ap, ◌∙◌}
use Rattle.mg_snap.specs.Live.{numbers_of}
use Rattle.mg_snap.specs.LiveLaws.{numbers_rebased}
use Rattle.mg_snap.proofs.RoomLemmas.{table_changed}
use Rattle.mg_snap.proofs.live.Live.rebase.Goals as goal

pub invariant_of-self : goal.invariant_of-self
invariant_of-self c = table_changed _ _ _ _ c.self.invariant
    (ap numbers_of c.retake.ensures.base ∙ numbers_rebased _ _ _)
    c.retake.ensures.count c.retake.ensures.wide
