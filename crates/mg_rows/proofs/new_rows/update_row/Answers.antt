use Rattle.mg_expr.specs.Trees.{tree_of}
use Rattle.mg_rows.proofs.RowLemmas.{set_length}
use Rattle.mg_rows.proofs.new_rows.update_row.Goals as goal

pub make_row-requires : goal.make_row-requires
make_row-requires c =
    set_length (λ set. tree_of set.value) c.args.sets.now c.args.row.now c.in_ok-values.values c.args.places.now c.in_ok-values.ensures c.requires
