-- The laws of index entries in overlays. The files `..Laws` prove them.
use Rattle.std.specs.Prelude.{◌≡◌, ◌<◌, ℕ, Bool, List, ◌++◌, Option, Some}
use Rattle.std.specs.List.{flat_map}
use Rattle.mg_base.specs.declared.numbers.RecId.{RecId}
use Rattle.mg_base.specs.declared.transaction.TxState.{TxState}
use Rattle.mg_careful.specs.Precedence.{Orders}
use Rattle.mg_model.specs.History.{Entries}
use Rattle.mg_model.specs.declared.opening.Opening.{Opening}
use Rattle.mg_model.specs.declared.table.Table.{Table}
use Rattle.mg_overlay_laws.specs.Overlays.{KeepsLaidAlways, left_state}
use Rattle.mg_pip.specs.PipPage.{bits}
use Rattle.mg_image.specs.Form.{Form, Pages, Row}
use Rattle.mg_image.specs.Indexes.{AreTrees, EachPage, IsFoundIn}
use Rattle.mg_image.specs.Reached.{tips_of}
use Rattle.mg_image.specs.Records.{Reading}
use Rattle.mg_image.specs.Sound.{IsSoundBy}
use Rattle.mg_image.specs.Tables.{EachStand, IsOnce, Layout, pages_of, stands_of, table_at}
use Rattle.mg_image_overlay_laws.specs.kept.KeptImages.{keeping}
use Rattle.mg_entry_overlay_laws.specs.Entered.{ShowsEntries}
use Rattle.mg_entry_overlay_laws.specs.EntryBatches.{LaysEntries}
use Rattle.mg_entry_overlay_laws.specs.Retreed.{LeavesTables, Trees, retreed}

-- A batch that lays entries keeps every overlay, whoever counts as what: it is nobody's work, and the history is as it
-- was. A page of the page inventory has bits for more pages than one.
abbrev pub EntriesKeep : Form → Type 0
EntriesKeep form = (size : ℕ) (o : Opening) (h : Entries) (state : ℕ → TxState) (pool changed : Pages)
    (batch : ℕ → Option (List ℕ)) (orders : Orders) → 1 < bits size
    → ((chosen : ℕ → Bool) → LaysEntries form size (left_state chosen state) pool changed batch orders)
    → KeepsLaidAlways (keeping form size o h) (keeping form size o h) state pool changed batch orders

-- After a batch that lays entries a sound image is sound with other trees, and shows and finds what it did.
abbrev pub EntriesShow : Form → Type 0
EntriesShow form = (size : ℕ) (state : ℕ → TxState) (pool changed : Pages) (batch : ℕ → Option (List ℕ))
    (orders : Orders) → LaysEntries form size state pool changed batch orders → (a : Layout) (r : Reading)
    → IsSoundBy form size state pool a r → ShowsEntries form size state pool changed a r

-- A sound image whose tables stay is sound with other index trees, where these stand in it, find of each record what
-- was found, and no page is linked twice.
abbrev pub OtherTreesAreSound : Form → Type 0
OtherTreesAreSound form = (size : ℕ) (state : ℕ → TxState) (old new : Pages) (layout : Layout) (r : Reading)
    → IsSoundBy form size state old layout r → LeavesTables size old new layout
    → (first : Trees) (more : List Trees)
    → EachStand (λ s. AreTrees size new s.table.pointer.0 s.table.indexes s.trees) (stands_of (retreed layout first more))
    → ((table : Table) (p : RecId) (row : Row) → table_at (stands_of layout) p.page.0 ≡ Some table
    → IsFoundIn old table.indexes p row → IsFoundIn new table.indexes p row)
    → IsOnce (tips_of size old ++ flat_map pages_of (stands_of (retreed layout first more)) ++ layout.sequences)
    → EachPage (λ n. form.sequence_page (new n) n) layout.sequences
    → IsSoundBy form size state new (retreed layout first more) r
