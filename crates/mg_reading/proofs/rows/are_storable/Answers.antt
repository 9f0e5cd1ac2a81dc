use Rattle.std.proofs.Common.{arith, refl}
use Rattle.mg_reading.proofs.RowLemmas.{long_at, storable_take}
use Rattle.mg_reading.proofs.rows.are_storable.Goals as goal

pub loop-value-preserved : goal.loop-value-preserved
loop-value-preserved c = storable_take c.args.values.now c.loop-value.value-index c.value-item.result
    (omega arith) c.value-item.is c.loop-value.invariant
    (c.if-not-is_storable.ensures.storable refl)

pub returns-then-not-is_storable-clause-long : goal.returns-then-not-is_storable-clause-long
returns-then-not-is_storable-clause-long c = λ failed.
    long_at c.args.values.now c.loop-value.value-index c.value-item.result (omega arith)
    c.value-item.is (c.if-not-is_storable.ensures.long refl)
