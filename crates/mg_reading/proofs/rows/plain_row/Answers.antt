use Rattle.std.proofs.Common.{arith}
use Rattle.mg_reading.specs.Readable.{CodesRow}
use Rattle.mg_reading.specs.declared.rows.RowCoding.TheVariants.{Plain, Packed}
use Rattle.mg_reading.proofs.RefusalLemmas.{refuses_more}
use Rattle.mg_reading.proofs.RowLemmas.{packed_short, plain_codes, plain_row_is}
use Rattle.mg_reading.proofs.rows.plain_row.Goals as goal

pub packed_row-requires-clause-len : goal.packed_row-requires-clause-len
packed_row-requires-clause-len c = omega (
  arith,
  c.requires.len,
  packed_short
      c.deref.result.now c.args.body.now
      (rw c.deref.ensures.value (rw c.new-packed.ensures.items at c.in_ok-pack.ensures.ok)),
)

pub returns-clause-row : goal.returns-clause-row
returns-clause-row c = plain_row_is c.one_plain_text.ensures c.args.shape.now.columns c.args.format
    c.deref.result.now c.args.body.now
    (rw c.deref.ensures.value (rw c.new-packed.ensures.items at c.in_ok-pack.ensures.ok))
    c.packed_row.result c.packed_row.ensures.row

pub returns-clause-broken : goal.returns-clause-broken
returns-clause-broken c = refuses_more
    (CodesRow Packed c.args.shape.now.columns c.args.format c.deref.result.now)
    (CodesRow Plain c.args.shape.now.columns c.args.format c.args.body.now)
    (plain_codes c.args.shape.now.columns c.args.format c.deref.result.now c.args.body.now
    (rw c.deref.ensures.value (rw c.new-packed.ensures.items at c.in_ok-pack.ensures.ok)))
    c.packed_row.result c.packed_row.ensures.broken
