use Rattle.mg_model.specs.Catalog.{key_of}
use Rattle.mg_records.specs.declared.write.Write.TheVariants as writes
use Rattle.mg_records.specs.Writing.{FitsShape}
use Rattle.mg_exec.proofs.MakingLemmas.{one_more}
use Rattle.mg_exec.proofs.making.erasures.Goals as goal

pub loop-row-preserved : goal.loop-row-preserved
loop-row-preserved c =
    one_more (λ row. writes.Erase (key_of c.args.shape.now row)) (FitsShape c.args.shape.now) c.args.rows.now
    c.loop-row.row-index c.row-item.result _ _ _ c.loop-row-test.true c.row-item.is
    c.in_ok-erasure.ensures.is c.in_ok-erasure.ensures.fits c.loop-row.invariant c.in_ok-push.ensures
