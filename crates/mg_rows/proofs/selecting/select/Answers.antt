use Rattle.mg_statements.specs.Plain.{trees_in}
use Rattle.mg_rows.proofs.SelectLemmas.{selects_sorted}
use Rattle.mg_rows.proofs.selecting.select.Goals as goal

pub returns : goal.returns
returns c =
    rw c.in-Some.is
    (selects_sorted (trees_in c.args.values.now) c.in-Some.by c.args.key c.args.found.now c.sort_by_column.new.rows.items _ (rw c.in_ok-sorted.ensures at c.sort_by_column.ensures) (rw c.deref.ensures.value at c.select_each-2.ensures))
