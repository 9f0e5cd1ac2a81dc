use Rattle.mg_catalog.specs.ByKey.{by_key}
use Rattle.mg_catalog.proofs.AllowLemmas.{no_key, one_key}
use Rattle.mg_catalog.proofs.table_row.has_one_key.Goals as goal

pub returns-in-Some : goal.returns-in-Some
returns-in-Some c = one_key c.args.rows.now c.args.name.now c.args.count c.in-Some.place
    c.is_only_key.result c.in-Some.ensures.0 c.in-Some.ensures.1 c.is_only_key.ensures

pub returns-in-None : goal.returns-in-None
returns-in-None c = (
  λ passed. absurd cc,
  λ one. absurd (no_key (by_key c.args.rows.now)
      c.args.name.now c.args.count c.in-None.ensures one),
)
