use Rattle.std.proofs.Common.{subst, sym}
use Rattle.mg_base.specs.declared.geometry.Geometry.{Geometry}
use Rattle.mg_space.specs.View.{AreWhole}
use Rattle.mg_heap.proofs.reading.hold_data.Goals as goal

pub lent-requires-clause-whole : goal.lent-requires-clause-whole
lent-requires-clause-whole g c = subst (λ (k : Geometry). AreWhole k c.args.batch.now.pages)
    (sym c.in_ok-hold.ensures.keeps.geometry) c.requires.whole
