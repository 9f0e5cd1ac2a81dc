-- A table grows within a batch: it gets pages, of pointers or of data, one after another.
use Rattle.std.proofs.Common.{◌≡◌, ◌≢◌, ◌⊎◌, ℕ, ◌+◌, ◌<◌, ◌≤◌, Bool, true, List, [], ◌∷◌, ◌++◌, length, Option, None, Some}
use Rattle.std.specs.Prelude.{map}
use Rattle.mg_base.specs.declared.numbers.RecId.{RecId}
use Rattle.mg_base.specs.declared.transaction.TxState.TheVariants.{Committed, Dead}
use Rattle.mg_careful.specs.Precedence.{Orders}
use Rattle.mg_image.specs.declared.entry.Entry.{Entry}
use Rattle.mg_image.specs.Form.{Coding, Pages}
use Rattle.mg_image.specs.RecordRules.{Facts, IsKeyAlone, columns_for, table_in}
use Rattle.mg_image.specs.Records.{Reading, key_of, writer}
use Rattle.mg_image.specs.Tables.{Layout, Stand, stands_of, table_at}
use Rattle.mg_model.specs.declared.table.Table.{Table}
use Rattle.mg_value.specs.declared.value.Value.{Value}
use Rattle.mg_rowcode.specs.Storable.{AreStorable}
use Rattle.mg_image_overlay_laws.specs.pages.EntryPage.{EntersPage}
use Rattle.mg_image_overlay_laws.specs.pages.ExtendEvery.{OrdersPage}
use Rattle.mg_image_overlay_laws.specs.pages.LinkPage.{LinksPage}
use Rattle.mg_image_overlay_laws.specs.pages.TakePart.{OccupiesPage}

-- Where the pages of a table end: how many data pages it has, how many pointer pages stand before the
-- last one, and which that is.
pub record TableEnd : Type 0 where
  pub place : ℕ
  pub pointers : ℕ
  pub last : ℕ

-- one pointer page more, and one data page more
abbrev pub linked_end : TableEnd → ℕ → TableEnd
linked_end end n = record { place = end.place; pointers = end.pointers + 1; last = n }

abbrev pub entered_end : TableEnd → TableEnd
entered_end end = record { place = end.place + 1; pointers = end.pointers; last = end.last }

-- The pages of a table that gets pages more, from one view to another. Each time a page that was free
-- is occupied, and then the last pointer page names it: as the next one, or by an entry. The batch has
-- the page and the page inventory page with its bit, and its orders put both before the pointer page.
pub data Grows (in_primary : Bool) (size owner : ℕ) (orders : Orders)
    (batch : ℕ → Option (List ℕ)) : Pages → TableEnd → Pages → TableEnd → Type 0 where
  stays : (view : Pages) (end : TableEnd) → Grows in_primary size owner orders batch view end view end
  links : (view taken linked last : Pages) (end final : TableEnd) (i n : ℕ)
      → OccupiesPage size view taken i n
      → LinksPage size taken linked owner end.pointers end.last n
      → OrdersPage orders batch i end.last n → batch n ≢ None
      → Grows in_primary size owner orders batch linked (linked_end end n) last final
      → Grows in_primary size owner orders batch view end last final
  enters : (view taken grown last : Pages) (end final : TableEnd) (i n : ℕ)
      → OccupiesPage size view taken i n
      → EntersPage in_primary size taken grown owner end.place end.last n
      → OrdersPage orders batch i end.last n → batch n ≢ None
      → Grows in_primary size owner orders batch grown (entered_end end) last final
      → Grows in_primary size owner orders batch view end last final

-- A table stands in a layout, and its pages end so.
pub record EndsAt (layout : Layout) (table : Table) (end : TableEnd) : Type 0 where
  pub before : List Stand
  pub stand : Stand
  pub after : List Stand
  pub front : List ℕ
  pub is_ : stands_of layout ≡ before ++ (stand ∷ after)
  pub table_is : stand.table ≡ table
  pub pointers_are : stand.pointers ≡ front ++ (end.last ∷ [])
  pub count_is : length front ≡ end.pointers
  pub place_is : length stand.data_pages ≡ end.place

-- a table stands in a layout
pub record IsTableOf (layout : Layout) (table : Table) : Type 0 where
  pub before : List Stand
  pub stand : Stand
  pub after : List Stand
  pub is_ : stands_of layout ≡ before ++ (stand ∷ after)
  pub table_is : stand.table ≡ table

-- Of two layouts the second has the same tables, and each page of a table as its own; of a page that
-- is a table's in the second alone no record is read.
pub record HasGrown (before after : Layout) (r : Reading) : Type 0 where
  pub catalog : after.catalog.table ≡ before.catalog.table
  pub names : map (λ s. s.table) after.tables ≡ map (λ s. s.table) before.tables
  pub stays : (m : ℕ) (table : Table) → table_at (stands_of before) m ≡ Some table
      → table_at (stands_of after) m ≡ Some table
  pub new : (m : ℕ) (table : Table) → table_at (stands_of after) m ≡ Some table
      → (table_at (stands_of before) m ≡ Some table) ⊎ ((p : RecId) → p.page.0 ≡ m → r p ≡ [])

-- A version with a key may be written into a table, wherever its cell comes to stand: its transaction
-- was drawn, and its body codes a row of the table.
pub record MayBeWritten (coding : Coding) (f : Facts) (table : Table) (key : Value) (e : Entry)
    : Type 0 where
  pub drawn : writer e < f.next
  pub dead : f.state (writer e) ≡ Dead → f.oldest ≤ writer e
  pub format : coding.format table.shape.columns e.version.format
  pub spelled : coding.row_spelled (columns_for table e.version.deleted) e.version.format
      e.version.body e.row
  pub storable : AreStorable e.row
  pub erased : e.version.deleted ≡ true → IsKeyAlone table e.row
  pub keyed : key_of table e.row ≡ key

-- A record of a table has a newest version, which is committed.
pub record FindsSettled (f : Facts) (r : Reading) (p : RecId) (table : Table) : Type 0 where
  pub of : table_in f p ≡ Some table
  pub newest : Entry
  pub older : List Entry
  pub first : r p ≡ newest ∷ older
  pub settled : f.state (writer newest) ≡ Committed
