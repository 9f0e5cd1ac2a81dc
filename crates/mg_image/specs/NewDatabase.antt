-- The pages of a new database, byte for byte, for each page size: it has the table KV, which is
-- empty.
--
-- | page | what                          | bytes                               |
-- |------|-------------------------------|-------------------------------------|
-- | 0    | header                        | next transaction 1                  |
-- | 1    | page inventory page           | byte 16 is 7f: pages 0 to 6 are used |
-- | 2    | transaction inventory page    | byte 20 is 03: number 0 is committed |
-- | 3    | pointer page of the catalog   | entry 4                             |
-- | 4    | data page of the catalog      | rows TKV, CKV.00, CKV.01            |
-- | 5    | pointer page of KV            | entry 6                             |
-- | 6    | data page of KV               | no cells                            |
use Rattle.std.specs.Prelude.{◌≡◌, ◌+◌, ◌*◌, ◌-◌, ℕ, zero, suc, false, List, [], ◌∷◌, ◌++◌, length, take, drop, codes, None}
use Rattle.std.proofs.Math.ListN.{set}
use Rattle.mg_base.specs.Fields.{new_page, with_u16, with_u32}
use Rattle.mg_base.specs.Image.{blank}
use Rattle.mg_header.specs.declared.header.TheConstants.{CATALOG_AT, HEADER_KIND, INTERVAL_AT, LAST_TIP_AT, MAGIC, MAGIC_AT, MAJOR, MAJOR_AT, NEXT_AT, OAT_AT, OIT_AT, OST_AT, PAGE_SIZE_AT}
use Rattle.mg_pip.specs.PipPage.{new_pip_page}
use Rattle.mg_pip.specs.declared.page.TheConstants.{BITS_AT}
use Rattle.mg_pointer.specs.declared.page.TheConstants.{COUNT_AT as ENTRY_COUNT_AT, ENTRIES_AT, POINTER_KIND}
use Rattle.mg_slots.specs.declared.page.TheConstants.{COUNT_AT, DATA_KIND, LOW_AT, SLOTS_AT, SLOT_LEN}
use Rattle.mg_tip.specs.TipPage.{new_tip_page}
use Rattle.mg_tip.specs.declared.page.TheConstants.{STATES_AT}
use Rattle.mg_value.specs.declared.value.Value.TheVariants.{Null, Text}
use Rattle.mg_version.specs.Cells.{cell_bytes}
use Rattle.mg_version.specs.declared.cell.Cell.TheVariants as cells
use Rattle.mg_model.specs.Catalog.{catalog_shape, column_key, table_key}
use Rattle.mg_model.specs.CatalogRules.{catalog_row}
use Rattle.mg_model.specs.NewDatabase.{kv_name}
use Rattle.mg_image.specs.Form.{Coding, Row}

-- the header page
abbrev pub new_header_page : ℕ → List ℕ
new_header_page size =
    with_u32 (with_u32 (with_u32 (with_u32 (with_u32 (with_u32 (with_u32 (with_u32
    (with_u16 (with_u32 (new_page size 0 HEADER_KIND 0 0)
    MAGIC_AT MAGIC) MAJOR_AT MAJOR) PAGE_SIZE_AT size) NEXT_AT 1) OIT_AT 1) OAT_AT 1) OST_AT 1)
    LAST_TIP_AT 2) INTERVAL_AT 20000) CATALOG_AT 3

-- the pointer page of a table, with one entry
abbrev pub one_entry_page : ℕ → ℕ → ℕ → List ℕ
one_entry_page size page entry = with_u32
    (with_u16 (new_page size page POINTER_KIND page 0) ENTRY_COUNT_AT 1) ENTRIES_AT entry

-- ---- data pages

-- bytes are put at a place of a page
abbrev pub with_bytes : List ℕ → ℕ → List ℕ → List ℕ
with_bytes page at bytes = take at page ++ bytes ++ drop (at + length bytes) page

-- a slot has its cell's offset and length
abbrev pub with_slot : List ℕ → ℕ → ℕ → ℕ → List ℕ
with_slot page slot offset len = with_u16
    (with_u16 page (SLOTS_AT + SLOT_LEN * slot) offset) (SLOTS_AT + SLOT_LEN * slot + 2) len

-- cells are put into the slots from one on, one below the other from an end downward
abbrev pub with_cells : List ℕ → ℕ → ℕ → List (List ℕ) → List ℕ
with_cells page slot end [] = with_u16 (with_u16 page COUNT_AT slot) LOW_AT end
with_cells page slot end (cell ∷ cells) = with_cells
    (with_bytes (with_slot page slot (end - length cell) (length cell)) (end - length cell) cell)
    (slot + 1) (end - length cell) cells

-- the first data page of a table, with these cells in its slots
abbrev pub first_data_page : ℕ → ℕ → ℕ → List (List ℕ) → List ℕ
first_data_page size page owner cells =
    with_cells (new_page size page DATA_KIND owner 0) 0 size cells

-- ---- the rows of the catalog

-- a record in the catalog's data page, from a slot on: an anchor, and behind it the one version, of
-- transaction 0, with this body
abbrev pub record_cells : ℕ → List ℕ → List (List ℕ)
record_cells slot body = cell_bytes (cells.Anchor (record {
  rec = record { page = record { 0 = 4 }; slot = slot + 1 };
  tx = record { 0 = 0 };
}))
    ∷ cell_bytes (cells.Version (record {
      primary = false;
      deleted = false;
      format = 1;
      tx = record { 0 = 0 };
      back = None;
      body = body;
    }))
    ∷ []

-- the rows of the table KV and of its columns K and V
abbrev pub table_row : Row
table_row = catalog_row (table_key kv_name) Null 5 2 0 0

abbrev pub key_row : Row
key_row = catalog_row (column_key kv_name 0) (Text (codes "K")) 0 3 1 0

abbrev pub value_row : Row
value_row = catalog_row (column_key kv_name 1) (Text (codes "V")) 0 0 1 1

-- a body codes a row of the catalog
abbrev pub IsCatalogBody : Coding → Row → List ℕ → Type 0
IsCatalogBody coding row body = coding.row_spelled catalog_shape.columns 1 body row

-- The catalog's data page.
pub record IsNewCatalogPage (coding : Coding) (size : ℕ) (page : List ℕ) : Type 0 where
  pub table : List ℕ
  pub key : List ℕ
  pub value : List ℕ
  pub codes_table : IsCatalogBody coding table_row table
  pub codes_key : IsCatalogBody coding key_row key
  pub codes_value : IsCatalogBody coding value_row value
  pub bytes : page ≡ first_data_page size 4 3
      (record_cells 0 table ++ record_cells 2 key ++ record_cells 4 value)

-- ---- all pages

-- a page is that of a number in a new database, whose rows stand so
abbrev pub IsNewPage : Coding → ℕ → ℕ → List ℕ → Type 0
IsNewPage coding size zero page = page ≡ new_header_page size
IsNewPage coding size (suc zero) page = page ≡ set (new_pip_page size 1 0) BITS_AT 127
IsNewPage coding size (suc (suc zero)) page = page ≡ set (new_tip_page size 2 0 0) STATES_AT 3
IsNewPage coding size (suc (suc (suc zero))) page = page ≡ one_entry_page size 3 4
IsNewPage coding size (suc (suc (suc (suc zero)))) page = IsNewCatalogPage coding size page
IsNewPage coding size (suc (suc (suc (suc (suc zero))))) page = page ≡ one_entry_page size 5 6
IsNewPage coding size (suc (suc (suc (suc (suc (suc zero)))))) page =
    page ≡ first_data_page size 6 5 []
IsNewPage coding size (suc (suc (suc (suc (suc (suc (suc n))))))) page = page ≡ blank size
