-- Where the two tables of a new database stand.
use Rattle.std.proofs.Common.{◌≡◌, ◌≢◌, ◌<◌, ℕ, true, false, List, [], ◌∷◌, ◌++◌, sym, ap, subst, lit<}
use Rattle.mg_base.specs.Image.{page_at}
use Rattle.mg_base.specs.declared.geometry.TheConstants.{GREATEST_LIMIT}
use Rattle.mg_image.specs.Form.{Pages}
use Rattle.mg_image.specs.Inventory.{is_used}
use Rattle.mg_image.specs.Sound.{HasTablePages, IsTableData}
use Rattle.mg_image.specs.Tables.{LinkChain, PointerChain, ended, goes}
use Rattle.mg_value.specs.declared.shape.Shape.{Shape}
use Rattle.mg_pointer.specs.PointerPage.{next_in}
use Rattle.mg_new_database_laws.specs.Readable.{PointsTo}
use Rattle.mg_new_database_laws.specs.PointerLaws.{new_have_pointers}
use Rattle.mg_new_database_laws.specs.TransactionLaws.{new_are_used}
use Rattle.mg_new_database_laws.specs.CatalogCellLaws.{new_have_catalog}
use Rattle.mg_new_database_laws.specs.Data.{NewHaveTables, stand_on}
use Rattle.mg_new_database_laws.specs.EmptyLaws.{new_are_empty}

module _ (size : ℕ) (pages : Pages) (p d : ℕ) (some : p ≢ 0) (below : p < GREATEST_LIMIT)
    (used : is_used size pages p ≡ true) (points : PointsTo (pages p) p d)
    (holds : IsTableData false size pages p 0 d) (name : List ℕ) (shape : Shape) where
  chain : PointerChain pages p (p ∷ [])
  chain = goes p [] some (subst (λ (n : ℕ). LinkChain (λ k. next_in (pages k)) n []) (sym points.last) ended)

  stands : HasTablePages false size pages (stand_on name shape p d)
  stands = record {
    first = some;
    chain = chain;
    entries = ap (λ (entries : List ℕ). entries ++ []) (sym points.entries);
    pointers = (record { below = below; used = used; fields = points.fields }, tt);
    data_pages = (holds, tt);
    trees = tt;
  }

pub new_have_tables : NewHaveTables
new_have_tables size image name shape lawful made = (
  stands size (page_at size image) 3 4 (λ same. absurd cc) (lit< tt) (new_are_used size image 3 lawful made (lit< tt))
      (new_have_pointers size image lawful made).0 (new_have_catalog size image lawful made) name shape,
  stands size (page_at size image) 5 6 (λ same. absurd cc) (lit< tt) (new_are_used size image 5 lawful made (lit< tt))
      (new_have_pointers size image lawful made).1 (new_are_empty size image lawful made).page name shape,
)
