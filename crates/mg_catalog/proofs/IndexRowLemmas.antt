-- The row of an index is lawful exactly where it is so by itself and its column is there.
use Rattle.std.proofs.Common.{◌≡◌, ◌∙◌, ap, sym, subst, ℕ, Bool, IsTrue, ◌↔◌, List}
use Rattle.mg_value.specs.declared.value.Value.TheVariants.{Text}
use Rattle.mg_model.specs.Changes.{Cells}
use Rattle.mg_model.specs.Catalog.{CatalogRows, index_key, said_a, said_b, said_d, said_name}
use Rattle.mg_model.specs.CatalogRules.{IsIndexRow, catalog_row}
use Rattle.mg_catalog.specs.ByKey.{row_key}
use Rattle.mg_catalog.specs.RowRules.{HasPlace, IndexSpelled}
use Rattle.mg_catalog.proofs.AllowLemmas.{spelled_as}

pub index_row_is : (rows : CatalogRows) (name found : List ℕ) (row : Cells) (n : ℕ) (t : Bool)
    → row_key row ≡ index_key name → IndexSpelled name row → found ≡ said_name row → n ≡ said_b row
    → IsTrue t ↔ HasPlace rows found n → IsTrue t ↔ IsIndexRow rows name row
index_row_is rows name found row n t of_key spelled named column told =
    let P : List ℕ → Type 0 = λ table. HasPlace rows table n in
    let Q : ℕ → Type 0 = λ place. HasPlace rows (said_name row) place in (
      λ passed. record {
        named = spelled.2;
        spelled = spelled_as row (index_key name) (Text (said_name row)) spelled.0 of_key spelled.1
            ∙ ap (λ (k : ℕ). catalog_row (index_key name) (Text (said_name row)) (said_a row) (said_b row)
            k (said_d row)) spelled.3.2
            ∙ ap (λ (k : ℕ). catalog_row (index_key name) (Text (said_name row)) (said_a row) (said_b row)
            0 k) spelled.3.3;
        root = spelled.3.1;
        rooted = spelled.3.0;
        of_table = subst Q column (subst P named (told.0 passed));
      },
      λ is. told.1 (subst P (sym named) (subst Q (sym column) is.of_table)),
    )
