use Rattle.mg_catalog.specs.ByKey.{by_key}
use Rattle.mg_catalog.proofs.IndexRowLemmas.{index_row_is}
use Rattle.mg_catalog.proofs.index_row.is_index_row.Goals as goal

pub returns : goal.returns
returns c = index_row_is (by_key c.args.rows.now) c.args.name.now c.name_of.result.now c.args.row.now
    c.number_at.result c.has_place.result c.requires
    (c.is_index_spelled.ensures.0 c.if-not-is_index_spelled.false) c.name_of.ensures c.number_at.ensures
    c.has_place.ensures
