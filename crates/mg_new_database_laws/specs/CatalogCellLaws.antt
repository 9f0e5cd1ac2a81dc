-- The data page of the catalog in a new database.
use Rattle.std.proofs.Common.{◌≡◌, inl, inr, ◌⊎◌, ◌<◌, ◌≤◌, ◌+◌, ◌*◌, ℕ, zero, suc, false, List, [], ◌∷◌, ◌++◌, length, get_or, Option, None, Some, refl, sym, ap, ◌∙◌, subst, arith, lit<, lit≤}
use Rattle.std.proofs.lemmas.Bool.{cases_lt}
use Rattle.mg_base.specs.Checks.{PassesAll, common_checks}
use Rattle.mg_base.specs.Image.{page_at}
use Rattle.mg_space.specs.TakingLaws.{page_sizes}
use Rattle.mg_image.specs.Form.{packed_coding}
use Rattle.mg_image.specs.NewDatabase.{IsNewCatalogPage, first_data_page, record_cells}
use Rattle.mg_image.specs.Sound.{IsCellOf, IsTableData}
use Rattle.mg_slots.specs.DataPage.{IsDataPage, cell_of}
use Rattle.mg_slots.specs.declared.page.TheConstants.{DATA_KIND}
use Rattle.mg_version.specs.Cells.{AreBytes, IsSpelling, cell_bytes}
use Rattle.mg_version.specs.declared.cell.Cell.{Cell}
use Rattle.mg_version.specs.declared.cell.Cell.TheVariants as kinds
use Rattle.mg_new_database_laws.specs.TransactionLaws.{new_are_used}
use Rattle.mg_new_database_laws.specs.CellLaws.{HasCells, total}
use Rattle.mg_new_database_laws.specs.Data.{NewHaveCatalog}
use Rattle.mg_new_database_laws.specs.DataLaws.{AreTall, cell_is, none_past}
use Rattle.mg_new_database_laws.specs.FirstLaws.{first_has, first_is_lawful, first_passes, fresh, long_fresh}
use Rattle.mg_new_database_laws.specs.RowCellLaws.{IsRowBody, key_body_is, table_body_is, value_body_is}

-- the bytes of a slot, none where it has no cell
abbrev bytes_in : Option (List ℕ) → List ℕ
bytes_in None = []
bytes_in (Some bytes) = bytes

no : {bytes : List ℕ} → None ≡ Some bytes → ⊥
no is = absurd cc

-- each of these bytes spells a cell
abbrev AllSpell : List (List ℕ) → Type 0
AllSpell [] = Unit {0}
AllSpell (cell ∷ cells) = ((c : Cell) × IsSpelling cell c) × AllSpell cells

spell_at : (cells : List (List ℕ)) → AllSpell cells → (k : ℕ) → k < length cells
    → (c : Cell) × IsSpelling (get_or cells k []) c
spell_at [] spell k less = absurd (omega (arith, less))
spell_at (cell ∷ cells) (first, rest) zero less = first
spell_at (cell ∷ cells) (first, rest) (suc k) less = spell_at cells rest k (omega (arith, less))

-- What the two cells of a record have.
record AreRecordCells (cells : List (List ℕ)) : Type 0 where
  two : length cells ≡ 2
  tall : AreTall cells
  spell : AllSpell cells
  most : total cells ≤ 235

abbrev anchor_of : ℕ → Cell
anchor_of slot = kinds.Anchor (record {
  rec = record { page = record { 0 = 4 }; slot = slot + 1 };
  tx = record { 0 = 0 };
})

abbrev version_of : List ℕ → Cell
version_of body = kinds.Version (record {
  primary = false;
  deleted = false;
  format = 1;
  tx = record { 0 = 0 };
  back = None;
  body = body;
})

spells_anchor : (slot : ℕ) → slot < 6 → IsSpelling (cell_bytes (anchor_of slot)) (anchor_of slot)
spells_anchor slot low = record {
  is_cell = record { page = lit< tt; slot = omega (arith, low); tx = lit< tt };
  spelled = refl;
}

spells_version : (body : List ℕ) → AreBytes body → IsSpelling (cell_bytes (version_of body)) (version_of body)
spells_version body is = record {
  is_cell = record { moved = refl; stored = lit≤ tt; format = lit< tt; tx = lit< tt; back = tt; body = is };
  spelled = refl;
}

record_is : (slot : ℕ) (body : List ℕ) → slot < 6 → IsRowBody body → AreRecordCells (record_cells slot body)
unfolding cell_bytes
record_is slot body low is = record {
  two = refl;
  tall = (lit≤ tt, (let least = is.least in omega (arith, least), tt));
  spell = ((anchor_of slot, spells_anchor slot low), ((version_of body, spells_version body is.bytes), tt));
  most = let most = is.most in omega (arith, most);
}

-- ---- several records

tall_append : (xs ys : List (List ℕ)) → AreTall xs → AreTall ys → AreTall (xs ++ ys)
tall_append [] ys tall also = also
tall_append (x ∷ xs) ys (first, rest) also = (first, tall_append xs ys rest also)

spell_append : (xs ys : List (List ℕ)) → AllSpell xs → AllSpell ys → AllSpell (xs ++ ys)
spell_append [] ys spell also = also
spell_append (x ∷ xs) ys (first, rest) also = (first, spell_append xs ys rest also)

total_append : (xs ys : List (List ℕ)) → total (xs ++ ys) ≡ total xs + total ys
total_append [] ys = omega arith
total_append (x ∷ xs) ys = let rest = total_append xs ys in omega (arith, rest)

module _ (size : ℕ) (table key value : List ℕ) (smallest : 1024 ≤ size) (greatest : size ≤ 16384)
    (is_table : IsRowBody table) (is_key : IsRowBody key) (is_value : IsRowBody value) where
  abbrev firsts : List (List ℕ)
  firsts = record_cells 0 table ++ record_cells 2 key

  abbrev cells : List (List ℕ)
  cells = record_cells 0 table ++ record_cells 2 key ++ record_cells 4 value

  of_table : AreRecordCells (record_cells 0 table)
  of_table = record_is 0 table (lit< tt) is_table

  of_key : AreRecordCells (record_cells 2 key)
  of_key = record_is 2 key (lit< tt) is_key

  of_value : AreRecordCells (record_cells 4 value)
  of_value = record_is 4 value (lit< tt) is_value

  six : length cells ≡ 6
  six = refl

  tall : AreTall cells
  tall = tall_append firsts (record_cells 4 value) (tall_append (record_cells 0 table) (record_cells 2 key)
      of_table.tall of_key.tall) of_value.tall

  spell : AllSpell cells
  spell = spell_append firsts (record_cells 4 value) (spell_append (record_cells 0 table) (record_cells 2 key)
      of_table.spell of_key.spell) of_value.spell

  room : 20 + 4 * length cells + total cells ≤ size
  room =
      let all : total cells ≡ total firsts + total (record_cells 4 value) =
      total_append firsts (record_cells 4 value) in
      let two : total firsts ≡ total (record_cells 0 table) + total (record_cells 2 key) =
      total_append (record_cells 0 table) (record_cells 2 key) in
      let first = of_table.most in let second = of_key.most in let third = of_value.most in
      omega (arith, all, two, first, second, third, smallest, six)

  abbrev page : List ℕ
  page = first_data_page size 4 3 cells

  long : length (fresh size 4 3 cells smallest greatest room) ≡ size
  long = long_fresh size 4 3 cells smallest greatest room

  has : HasCells (fresh size 4 3 cells smallest greatest room) 0
      (length (fresh size 4 3 cells smallest greatest room)) cells page
  has = first_has size 4 3 cells smallest greatest room

  pub catalog_lawful : IsDataPage page
  catalog_lawful = first_is_lawful size 4 3 cells smallest greatest room tall

  pub catalog_passes : PassesAll (common_checks page 4 DATA_KIND 3 0)
  catalog_passes = first_passes size 4 3 cells smallest greatest room (lit< tt) (lit< tt)

  pub catalog_cell : (slot : ℕ) → slot < 6 → cell_of page slot ≡ Some (get_or cells slot [])
  catalog_cell slot low = cell_is (fresh size 4 3 cells smallest greatest room) cells page
      (omega (arith, long, smallest)) (omega (arith, long, greatest)) tall (omega (arith, long, room)) has slot
      (omega (arith, low, six))

  pub catalog_past : (slot : ℕ) → 6 ≤ slot → cell_of page slot ≡ None
  catalog_past slot from = none_past (fresh size 4 3 cells smallest greatest room) cells page
      (omega (arith, long, smallest)) (omega (arith, long, greatest)) tall (omega (arith, long, room)) has slot
      (omega (arith, from, six))

  pub catalog_spells : (slot : ℕ) (bytes : List ℕ) → cell_of page slot ≡ Some bytes → IsCellOf false bytes
  catalog_spells slot bytes some = at (cases_lt slot 6)
    where
      at : (slot < 6) ⊎ (6 ≤ slot) → IsCellOf false bytes
      at (inl low) = inl (subst (λ (b : List ℕ). (c : Cell) × IsSpelling b c)
          (ap bytes_in (sym (catalog_cell slot low) ∙ some)) (spell_at cells spell slot (omega (arith, low, six))))
      at (inr past) = absurd (no (sym (catalog_past slot past) ∙ some))

pub new_have_catalog : NewHaveCatalog
new_have_catalog size image lawful made = at (made 4 (lit< tt))
  where
    at : IsNewCatalogPage packed_coding size (page_at size image 4) → IsTableData false size (page_at size image) 3 0 4
    at is = record {
      wanted = record {
        below = lit< tt;
        used = new_are_used size image 4 lawful made (lit< tt);
        fields = subst (λ (b : List ℕ). PassesAll (common_checks b 4 DATA_KIND 3 0)) (sym is.bytes)
            (catalog_passes size is.table is.key is.value least most of_table of_key of_value);
      };
      lawful = subst IsDataPage (sym is.bytes)
          (catalog_lawful size is.table is.key is.value least most of_table of_key of_value);
      cells = λ slot bytes some. catalog_spells size is.table is.key is.value least most of_table of_key of_value
          slot bytes (ap (λ (b : List ℕ). cell_of b slot) (sym is.bytes) ∙ some);
    }
      where
        least : 1024 ≤ size
        least = (page_sizes size lawful).0

        most : size ≤ 16384
        most = (page_sizes size lawful).1

        of_table : IsRowBody is.table
        of_table = table_body_is is.table is.codes_table

        of_key : IsRowBody is.key
        of_key = key_body_is is.key is.codes_key

        of_value : IsRowBody is.value
        of_value = value_body_is is.value is.codes_value
