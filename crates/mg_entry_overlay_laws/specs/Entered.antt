-- What an image is after a batch of entries.
use Rattle.std.specs.Prelude.{◌≡◌, ◌≤◌, ℕ, List, [], ◌∷◌, Some}
use Rattle.mg_base.specs.declared.numbers.RecId.{RecId}
use Rattle.mg_base.specs.declared.transaction.TxState.{TxState}
use Rattle.mg_image.specs.Form.{Form, Pages, Row}
use Rattle.mg_image.specs.Indexes.{Finds, IsFoundIn}
use Rattle.mg_image.specs.Inventory.{header_of, last_sequence, tip_page}
use Rattle.mg_image.specs.Records.{Reading, cells_of}
use Rattle.mg_image.specs.Sound.{IsSoundBy, facts_by}
use Rattle.mg_image.specs.Tables.{EachStand, Layout, stands_of, table_at}
use Rattle.mg_image_overlay_laws.specs.pages.DataKept.{KeepsBits}
use Rattle.mg_image_overlay_laws.specs.tables.Growing.{HasGrown}
use Rattle.mg_image_overlay_laws.specs.kept.KeptImages.{AreFrontStands}
use Rattle.mg_model.specs.declared.table.Index.{Index}
use Rattle.mg_model.specs.declared.table.Table.{Table}
use Rattle.mg_node.specs.declared.entry.Entry.{Entry}
use Rattle.mg_entry_overlay_laws.specs.Retreed.{LeavesTables}

-- each of these indexes finds what it found
abbrev pub KeepsRoots : Pages → Pages → List Index → Type 0
KeepsRoots old new [] = Unit {0}
KeepsRoots old new (index ∷ indexes) = ((e : Entry) → Finds old e index.root.0 → Finds new e index.root.0)
    × KeepsRoots old new indexes

-- The image is sound with the same records, by a layout that differs from the one before in its trees alone: all that
-- records show is as it was, and each row that was found in the indexes of its table is found.
pub record ShowsEntries (form : Form) (size : ℕ) (state : ℕ → TxState) (pool changed : Pages) (a : Layout) (r : Reading)
    : Type 0 where
  pub layout : Layout
  pub sound : IsSoundBy form size state changed layout r
  pub leaves : LeavesTables size pool changed a
  pub header : header_of changed ≡ header_of pool
  pub tips : (sequence : ℕ) → sequence ≤ last_sequence size pool
      → (tip_page size changed sequence ≡ tip_page size pool sequence)
      × (changed (tip_page size changed sequence) ≡ pool (tip_page size pool sequence))
  pub bits : KeepsBits size pool changed
  pub owners : (n : ℕ) → table_at (stands_of layout) n ≡ table_at (stands_of a) n
  pub grown : HasGrown a layout r
  pub fronts : AreFrontStands (stands_of a) (stands_of layout)
  pub cells : (p : RecId) (table : Table) → table_at (stands_of a) p.page.0 ≡ Some table
      → cells_of changed p ≡ cells_of pool p
  pub facts : facts_by state changed layout ≡ facts_by state pool a
  pub roots : EachStand (λ s. KeepsRoots pool changed s.table.indexes) (stands_of a)
  pub found : (table : Table) (p : RecId) (row : Row) → table_at (stands_of a) p.page.0 ≡ Some table
      → IsFoundIn pool table.indexes p row → IsFoundIn changed table.indexes p row
