use Rattle.mg_model.specs.Answers.{catalog_of}
use Rattle.mg_plain.specs.Keeping.{told_in}
use Rattle.mg_plain.specs.Kept.{kept}
use Rattle.std.proofs.Common.{◌≡◌, ◌∙◌, ◌+◌, ◌-◌, ◌≤◌, ap, sym, subst, ◌++◌, [], length, List}
use Rattle.mg_value.specs.declared.shape.Column.{Column}
use Rattle.mg_model.specs.Catalog.{CatalogRows, columns_said, column_key, with_column}
use Rattle.mg_plain.proofs.KeyLemmas.{columns_behind, few_behind}
use Rattle.mg_plain.proofs.plain.Plain.columns.Goals as goal

pub loop-place-preserved : goal.loop-place-preserved
loop-place-preserved c =
    let rows : CatalogRows = catalog_of (told_in (kept c.args.self.now)) c.args.t in
    let place = c.loop-place.place in
    let pushed : c.push_column.new.columns.items ≡ c.loop-place.columns.items ++ with_column (rows (column_key c.args.table.now place)) [] = c.in_ok-push_column.ensures in
    record {
      made = ap (λ (cs : List Column). cs ++ columns_said rows c.args.table.now (place + 1) (c.args.count - (place + 1))) pushed
          ∙ (columns_behind rows c.args.table.now place c.args.count c.loop-place.columns.items c.loop-place-test.true
          ∙ c.loop-place.invariant.made);
      few = subst (λ (cs : List Column). length cs ≤ place + 1) (sym pushed)
          (few_behind (rows (column_key c.args.table.now place)) c.loop-place.columns.items place c.loop-place.invariant.few);
    }
