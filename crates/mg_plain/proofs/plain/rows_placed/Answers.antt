-- The rows of an opening under the catalog among them.
use Rattle.std.proofs.Common.{◌≡◌, ◌∙◌, ap, subst, IfOk}
use Rattle.mg_model.specs.Catalog.{CatalogRows, catalog_name}
use Rattle.mg_model.specs.Changes.{row_at}
use Rattle.mg_model.specs.Machine.{placed, catalog_changes}
use Rattle.mg_plain.specs.Beginning.{catalog_of_one}
use Rattle.mg_plain.proofs.plain.rows_placed.Goals as goal

pub returns : goal.returns
returns c =
    let catalog : catalog_of_one c.in_ok-seen.seen ≡ row_at (catalog_changes c.args.rows.now) catalog_name =
    c.in_ok-seen.ensures ∙ ap (λ cs. row_at cs catalog_name) c.in_ok-catalog_changes.ensures in
    subst (λ (rows : CatalogRows). IfOk c.placed_changes.result (λ changes. changes.items ≡ placed rows c.args.rows.now))
    catalog c.placed_changes.ensures
