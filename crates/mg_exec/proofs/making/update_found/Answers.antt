use Rattle.std.proofs.Common.{◌≡◌, List, map, Ok, subst}
use Rattle.mg_expr.specs.Trees.{tree_of}
use Rattle.mg_value.specs.declared.shape.Column.{Column}
use Rattle.mg_rows.specs.NewRows.{updated}
use Rattle.mg_exec.proofs.MakingLemmas.{all_made, sets_lengths}
use Rattle.mg_exec.proofs.making.update_found.Goals as goal

pub update_rows-requires : goal.update_rows-requires
update_rows-requires c = sets_lengths c.args.shape.now.columns c.args.places.now c.args.sets.now c.requires.typed

pub changes-requires : goal.changes-requires
changes-requires c =
    all_made c.args.shape.now c.args.places.now (map (λ set. tree_of set.value) c.args.sets.now) c.args.found.now
    c.in_ok-rows.rows.items c.requires.typed c.requires.keys c.requires.rows
    (subst (λ (columns : List Column). updated columns c.args.places.now
    (map (λ set. tree_of set.value) c.args.sets.now) c.args.found.now ≡ Ok c.in_ok-rows.rows.items)
    c.as_slice.ensures c.in_ok-rows.ensures)
