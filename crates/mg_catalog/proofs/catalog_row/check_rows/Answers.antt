use Rattle.std.proofs.Common.{arith}
use Rattle.mg_catalog.proofs.CatalogLemmas.{all_lawful, lawful_at, lawful_more, unlawful_at}
use Rattle.mg_catalog.proofs.catalog_row.check_rows.Goals as goal

pub loop-at-preserved : goal.loop-at-preserved
loop-at-preserved c = lawful_more c.args.rows.now c.loop-at.at c.loop-at.invariant
    (lawful_at c.args.rows.now c.loop-at.at c.index-rows-at.result c.loop-at-test.true
    c.index-rows-at.is (c.is_catalog_row.ensures.0 c.if-not-is_catalog_row.false))

pub returns-clause-lawful : goal.returns-clause-lawful
returns-clause-lawful c = all_lawful c.args.rows.now
    (λ at below. c.loop-at.invariant at (omega arith))

pub returns-then-not-is_catalog_row-clause-bad : goal.returns-then-not-is_catalog_row-clause-bad
returns-then-not-is_catalog_row-clause-bad c = (
  c.loop-at-test.true,
  unlawful_at c.args.rows.now c.loop-at.at c.index-rows-at.result c.loop-at-test.true
      c.index-rows-at.is (λ lawful. absurd (let passed = c.is_catalog_row.ensures.1 lawful in
      let failed = c.if-not-is_catalog_row.true in cc)),
  c.loop-at.invariant,
)
