use Rattle.std.proofs.Common.{sym}
use Rattle.std.specs.Prelude.{nat_eq}
use Rattle.std.specs.Cmp.Lexicographic.{other_text, pointwise}
use Rattle.std.proofs.lemmas.Bool.{not-true}
use Rattle.mg_catalog.specs.ByKey.{by_key, row_key}
use Rattle.mg_catalog.proofs.AllowLemmas.{other_table}
use Rattle.mg_catalog.proofs.column_row.column_in.Goals as goal

pub returns-then-ne : goal.returns-then-ne
returns-then-ne c = other_table (by_key c.args.rows.now) (row_key c.args.row.now)
    c.in-Some.of_table.now c.args.table.now c.in-Some.place c.in-Some.ensures
    (other_text c.in-Some.of_table.now c.args.table.now (sym (not-true
    (pointwise nat_eq c.in-Some.of_table.now c.args.table.now) (sym c.if-ne.ensures))))
