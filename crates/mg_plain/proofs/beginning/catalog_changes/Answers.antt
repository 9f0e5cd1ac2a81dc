use Rattle.std.proofs.Common.{refl}
use Rattle.mg_model.specs.Machine.{catalog_changes}
use Rattle.mg_plain.proofs.LoopLemmas.{catalog_splits, pieces_end, pieces_more}
use Rattle.mg_plain.proofs.beginning.catalog_changes.Goals as goal

pub loop-placed-preserved : goal.loop-placed-preserved
loop-placed-preserved c = pieces_more catalog_changes catalog_splits c.args.rows.now c.loop-placed.placed-index
    c.placed-item.result c.loop-placed.changes.items c.push_catalog.new.changes.items _
    c.loop-placed-test.true c.placed-item.is c.loop-placed.invariant c.in_ok-push_catalog.ensures

pub returns : goal.returns
returns c = pieces_end catalog_changes refl c.args.rows.now c.loop-placed.placed-index
    c.loop-placed.changes.items _ c.loop-placed-test.false c.loop-placed.invariant
