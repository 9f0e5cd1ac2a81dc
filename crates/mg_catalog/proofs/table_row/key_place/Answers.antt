use Rattle.std.proofs.Common.{arith}
use Rattle.std.proofs.lemmas.Bool.{iff_false}
use Rattle.mg_catalog.specs.ByKey.{by_key}
use Rattle.mg_catalog.proofs.AllowLemmas.{keys_more}
use Rattle.mg_catalog.proofs.table_row.key_place.Goals as goal

pub loop-place-preserved : goal.loop-place-preserved
loop-place-preserved c = keys_more (by_key c.args.rows.now) c.args.name.now c.loop-place.place
    c.loop-place.invariant (iff_false c.is_key_column.ensures c.if-is_key_column.false)

pub returns : goal.returns
returns c = λ place below. c.loop-place.invariant place (omega arith)
