use Rattle.std.proofs.Common.{[], ℕ, List, ap, length, ◌∙◌, ◌∷◌}
use Rattle.mg_image.specs.NewDatabase.{with_cells}
use Rattle.mg_format.specs.declared.catalog.TheConstants.{KEY_ANCHOR, KEY_VERSION, TABLE_ANCHOR, TABLE_VERSION, VALUE_ANCHOR, VALUE_VERSION}
use Rattle.mg_format.proofs.CatalogLemmas.{catalog_made, cells_are}
use Rattle.mg_format.proofs.catalog.catalog_page.Goals as goal

pub returns : goal.returns
returns c =
    let six : List (List ℕ) = VALUE_VERSION ∷ [] in
    let five : List (List ℕ) = VALUE_ANCHOR ∷ six in
    let four : List (List ℕ) = KEY_VERSION ∷ five in
    let three : List (List ℕ) = KEY_ANCHOR ∷ four in
    let two : List (List ℕ) = TABLE_VERSION ∷ three in
    let one : List (List ℕ) = TABLE_ANCHOR ∷ two in
    catalog_made (length c.args.b.now) c.end_cells.new.b one cells_are
    (c.end_cells.ensures ∙ (c.put_cell-end-6.ensures.page [] ∙ (c.put_cell-end-5.ensures.page six
    ∙ (c.put_cell-end-4.ensures.page five ∙ (c.put_cell-end-3.ensures.page four
    ∙ (c.put_cell-end-2.ensures.page three ∙ (c.put_cell-end.ensures.page two
    ∙ (ap (λ (e : ℕ). with_cells c.new_common.new.b 0 e one) c.new_common.auto.b
    ∙ ap (λ (p : List ℕ). with_cells p 0 (length c.args.b.now) one) c.new_common.ensures))))))))
