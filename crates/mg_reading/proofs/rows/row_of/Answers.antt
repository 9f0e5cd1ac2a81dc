use Rattle.std.proofs.Common.{refl}
use Rattle.mg_reading.proofs.RowLemmas.{coded_short}
use Rattle.mg_reading.proofs.rows.row_of.Goals as goal

pub returns-then-not-are_storable-clause-broken : goal.returns-then-not-are_storable-clause-broken
returns-then-not-are_storable-clause-broken c = λ codes. coded_short c.args.coding
    c.args.shape.now.columns c.args.format c.args.body.now c.in_ok-row.row
    (rw c.as_slice.ensures at c.columns_len.ensures.kinds) c.in_ok-row.ensures.row
    (rw c.as_slice-2.ensures at (c.if-not-are_storable.ensures.long refl))
