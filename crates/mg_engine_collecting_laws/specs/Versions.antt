-- Which versions an engine keeps of a record, as its pages show them.
use Rattle.std.specs.Prelude.{◌≡◌, ℕ, List, None, Some, map}
use Rattle.mg_base.specs.Disk.{Meaning}
use Rattle.mg_base.specs.Image.{Image}
use Rattle.mg_base.specs.declared.numbers.RecId.{RecId}
use Rattle.mg_base.specs.declared.transaction.TxState.{TxState}
use Rattle.mg_collecting.specs.Leaving.{HasInOrder}
use Rattle.mg_core.specs.declared.parts.Core.{Core}
use Rattle.mg_engine_meaning_laws.specs.Meaning.{Places}
use Rattle.mg_heap.specs.Listed.{IsRecordOf}
use Rattle.mg_image.specs.Catalog.{CatalogNames}
use Rattle.mg_image.specs.Form.{Pages, packed_form}
use Rattle.mg_image.specs.RecordRules.{committed_in}
use Rattle.mg_image.specs.Records.{Reading, cells_of, writer}
use Rattle.mg_image.specs.Sound.{IsSoundBy, facts_by}
use Rattle.mg_image.specs.Tables.{Layout}
use Rattle.mg_image.specs.declared.entry.Entry.{Entry}
use Rattle.mg_image_overlay_laws.specs.tables.TableOwners.{IsOneOf}
use Rattle.mg_model.specs.Openings.{everyone}
use Rattle.mg_model.specs.declared.table.Table.{Table}
use Rattle.mg_overlay_laws.specs.Overlays.{left_state}
use Rattle.mg_pool.specs.Pool.{shown}
use Rattle.mg_seek.specs.Speaking.{IsSpeaker}
use Rattle.mg_space.specs.View.{Tells}
use Rattle.mg_tending.specs.Collecting.{Collecting, Kept}
use Rattle.mg_txlist.specs.TxList.{said}

-- a version as one that is kept
abbrev pub kept_of : Entry → Kept
kept_of e = record { writer = writer e; erases = e.version.deleted }

-- Pages have these versions of a record, the newest first.
pub record HasKept (pages : Pages) (rec : RecId) (versions : List Kept) : Type 0 where
  pub entries : List Entry
  pub its : HasInOrder (cells_of pages) rec entries
  pub are : versions ≡ map kept_of entries

-- a table is among those that the committed rows of the catalog name, wherever pages are sound
abbrev pub IsCommittedIn : ℕ → (ℕ → TxState) → Pages → Table → Type 0
IsCommittedIn size state pages table = (layout : Layout) (r : Reading)
    → IsSoundBy packed_form size (left_state everyone state) pages layout r → (tables : List Table)
    → CatalogNames size (facts_by (left_state everyone state) pages layout)
    (committed_in (facts_by (left_state everyone state) pages layout)) r layout.catalog.table tables
    → IsOneOf tables table

-- What an engine keeps of records, where its disk tells what it holds.
abbrev pub collecting : {D P : Type 0} → Meaning D → Places P → Collecting (Core D) P
collecting m places = record {
  has_record = λ core table place. (image : Image) → Tells m core.store.disk image
      → IsRecordOf (shown core.store.dirty image) table.pointer.0 (places.rec place);
  kept = λ core place versions. (image : Image) → Tells m core.store.disk image
      → HasKept (shown core.store.dirty image) (places.rec place) versions;
  speaks = λ core table key place. (image : Image) → Tells m core.store.disk image
      → IsSpeaker (said core.list) core.live (shown core.store.dirty image) table key (Some (places.rec place));
  silent = λ core table key. (image : Image) → Tells m core.store.disk image
      → IsSpeaker (said core.list) core.live (shown core.store.dirty image) table key None;
  is_committed = λ core table. (image : Image) → Tells m core.store.disk image
      → IsCommittedIn core.store.geometry.size (said core.list) (shown core.store.dirty image) table;
}
