-- The data page of KV in a new database.
use Rattle.std.proofs.Common.{◌≡◌, ◌≤◌, ◌+◌, ◌*◌, ℕ, true, List, [], Option, None, Some, sym, ap, ◌∙◌, subst, arith, lit<}
use Rattle.mg_base.specs.Checks.{PassesAll, common_checks}
use Rattle.mg_base.specs.Geometry.{is_page_size}
use Rattle.mg_space.specs.TakingLaws.{page_sizes}
use Rattle.mg_base.specs.Image.{Image, page_at}
use Rattle.mg_format.specs.Format.{IsMade}
use Rattle.mg_image.specs.NewDatabase.{first_data_page}
use Rattle.mg_slots.specs.DataPage.{IsDataPage, cell_of}
use Rattle.mg_slots.specs.declared.page.TheConstants.{DATA_KIND}
use Rattle.mg_new_database_laws.specs.TransactionLaws.{new_are_used}
use Rattle.mg_new_database_laws.specs.Data.{IsEmptyData, NewAreEmpty}
use Rattle.mg_new_database_laws.specs.DataLaws.{none_past}
use Rattle.mg_new_database_laws.specs.FirstLaws.{first_has, first_is_lawful, first_passes, fresh, long_fresh}

module _ (size : ℕ) (smallest : 1024 ≤ size) (greatest : size ≤ 16384) where
  room : 20 + 4 * 0 + 0 ≤ size
  room = omega (arith, smallest)

  no_cell : (slot : ℕ) → cell_of (first_data_page size 6 5 []) slot ≡ None
  no_cell slot = none_past (fresh size 6 5 [] smallest greatest room) [] (first_data_page size 6 5 [])
      (let long = long_fresh size 6 5 [] smallest greatest room in omega (arith, long, smallest))
      (let long = long_fresh size 6 5 [] smallest greatest room in omega (arith, long, greatest)) tt
      (let long = long_fresh size 6 5 [] smallest greatest room in omega (arith, long, smallest))
      (first_has size 6 5 [] smallest greatest room) slot (omega arith)

  empty : (image : Image) → is_page_size size ≡ true → IsMade size image → IsEmptyData size image
  empty image lawful made = record {
    page = record {
      wanted = record {
        below = lit< tt;
        used = new_are_used size image 6 lawful made (lit< tt);
        fields = subst (λ (b : List ℕ). PassesAll (common_checks b 6 DATA_KIND 5 0)) (sym (made 6 (lit< tt)))
            (first_passes size 6 5 [] smallest greatest room (lit< tt) (lit< tt));
      };
      lawful = subst IsDataPage (sym (made 6 (lit< tt))) (first_is_lawful size 6 5 [] smallest greatest room tt);
      cells = λ slot bytes some. absurd (no (cell_of (page_at size image 6) slot) (none slot) bytes some);
    };
    none = none;
  }
    where
      none : (slot : ℕ) → cell_of (page_at size image 6) slot ≡ None
      none slot = ap (λ (b : List ℕ). cell_of b slot) (made 6 (lit< tt)) ∙ no_cell slot

      no : (cell : Option (List ℕ)) → cell ≡ None → (bytes : List ℕ) → cell ≡ Some bytes → ⊥
      no None is bytes some = absurd cc
      no (Some other) is bytes some = absurd cc

pub new_are_empty : NewAreEmpty
new_are_empty size image lawful made = empty size (page_sizes size lawful).0 (page_sizes size lawful).1 image lawful made
