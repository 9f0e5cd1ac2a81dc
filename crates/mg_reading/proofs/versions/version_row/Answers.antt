use Rattle.std.proofs.Common.{rules}
use Rattle.mg_reading.proofs.OneVersionLemmas.{not_alone}
use Rattle.mg_reading.proofs.versions.version_row.Goals as goal

pub returns-then-not-is_key_alone-clause-broken : goal.returns-then-not-is_key_alone-clause-broken
returns-then-not-is_key_alone-clause-broken c = not_alone c.args.coding
    c.one_reading.ensures.plain_rows c.one_reading.ensures.packed_rows c.args.table.now
    c.args.version.now c.in_ok-row.row (search rules)
    (rw (c.in_ok-shape.ensures.columns, c.as_slice-body.ensures) at c.in_ok-row.ensures.spelled)
    c.in_ok-row.ensures.storable
    (λ alone. absurd (let passed = c.if-not-is_key_alone.ensures.1
    (rw (c.as_slice.ensures, c.from.ensures) alone) in cc))
