use Rattle.std.proofs.Common.{subst, sym}
use Rattle.mg_base.specs.declared.geometry.Geometry.{Geometry}
use Rattle.mg_space.specs.View.{AreWhole}
use Rattle.mg_heap.proofs.reading.data_page.Goals as goal

pub lent-bytes-requires-clause-whole : goal.lent-bytes-requires-clause-whole
lent-bytes-requires-clause-whole g c = subst (λ (k : Geometry). AreWhole k c.args.batch.now.pages)
    (sym c.in_ok-hold_data.ensures.keeps.geometry) c.requires.whole
