-- Where the tables of sound images stand. The other files prove it.
use Rattle.std.specs.Prelude.{◌≡◌, ℕ, Some}
use Rattle.mg_base.specs.declared.numbers.RecId.{RecId}
use Rattle.mg_base.specs.declared.transaction.TxState.{TxState}
use Rattle.mg_model.specs.declared.table.Table.{Table}
use Rattle.mg_image.specs.Form.{Form, Pages}
use Rattle.mg_image.specs.Records.{Reading, Stands, cells_of, newest_of}
use Rattle.mg_image.specs.Sound.{IsSoundBy}
use Rattle.mg_image.specs.Tables.{Has, Layout, stands_of, table_at}
use Rattle.mg_image_overlay_laws.specs.pages.DataPages.{ChangesData}
use Rattle.mg_image_overlay_laws.specs.tables.Growing.{IsTableOf}
use Rattle.mg_image_overlay_laws.specs.pages.DataKept.{IsDataChanged}
use Rattle.mg_image_overlay_laws.specs.tables.LayoutStays.{LeavesCatalog}

-- tables of one name are one
abbrev pub TablesAreOne : Form → Type 0
TablesAreOne form = (size : ℕ) (state : ℕ → TxState) (pages : Pages) (layout : Layout) (r : Reading)
    (a b : Table) → IsSoundBy form size state pages layout r → IsTableOf layout a → IsTableOf layout b
    → a.name ≡ b.name → a ≡ b

-- the data pages of the stand of a table are the table's, and no others are
abbrev pub DataPagesAreIts : Form → Type 0
DataPagesAreIts form = (size : ℕ) (state : ℕ → TxState) (pages : Pages) (layout : Layout)
    (r : Reading) (table : Table) (its : IsTableOf layout table) (n : ℕ)
    → IsSoundBy form size state pages layout r
    → (table_at (stands_of layout) n ≡ Some table → Has its.stand.data_pages n)
    × (Has its.stand.data_pages n → table_at (stands_of layout) n ≡ Some table)

-- data pages that are changed one after another leave all else of an image
abbrev pub DataPagesLeave : Form → Type 0
DataPagesLeave form = (size : ℕ) (state : ℕ → TxState) (old mid new : Pages) (layout : Layout)
    (r : Reading) (b : ℕ) → IsSoundBy form size state old layout r
    → IsDataChanged form size old old layout
    × (IsDataChanged form size old mid layout → ChangesData form.in_primary mid new b
    → IsDataChanged form size old new layout)

-- two sound images of which the second has data pages changed, none of them the catalog's, have one layout
abbrev pub LayoutsStay : Form → Type 0
LayoutsStay form = (size : ℕ) (state : ℕ → TxState) (old new : Pages) (a c : Layout) (r s : Reading)
    → IsSoundBy form size state old a r → IsSoundBy form size state new c s
    → IsDataChanged form size old new a → LeavesCatalog state old new a → a ≡ c

-- of two images with one layout a record has the same versions, where its slot leads to the same one and
-- their cells are as they were
abbrev pub RecordsStay : Form → Type 0
RecordsStay form = (size : ℕ) (state : ℕ → TxState) (old new : Pages) (layout : Layout)
    (r s : Reading) (q : RecId) → IsSoundBy form size state old layout r
    → IsSoundBy form size state new layout s
    → newest_of q (cells_of new q) ≡ newest_of q (cells_of old q)
    → ((x : RecId) → Stands (r q) x → cells_of new x ≡ cells_of old x) → s q ≡ r q
