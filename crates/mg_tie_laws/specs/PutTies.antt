-- A version's cell is put on a page that was given to a table, and then a slot is turned to it: what the
-- pages are then to the laws on overlays.
use Rattle.std.proofs.Common.{◌≡◌, ◌≢◌, inl, ap, subst, ◌∙◌, arith, ℕ, Bool, true, false, List, [], Option, None, Some}
use Rattle.mg_base.specs.CheckLaws.{passes_from_verdict}
use Rattle.mg_base.specs.Checks.{common_checks}
use Rattle.mg_base.specs.Fields.{byte}
use Rattle.mg_base.specs.Image.{Image}
use Rattle.mg_base.specs.declared.numbers.PageNo.{PageNo}
use Rattle.mg_base.specs.declared.numbers.RecId.{RecId}
use Rattle.mg_base.specs.declared.transaction.TxState.{TxState}
use Rattle.mg_careful.specs.Precedence.{Orders}
use Rattle.mg_image.specs.Form.{Form, Pages}
use Rattle.mg_image.specs.ReadingLaws.{RowsAreOne}
use Rattle.mg_image.specs.Records.{Changes, Reading, cells_of, slot_cell}
use Rattle.mg_image.specs.Sound.{IsCellOf, IsSoundBy}
use Rattle.mg_image.specs.Tables.{Has, Layout, stands_of, table_at}
use Rattle.mg_image_overlay_laws.specs.pages.DataPages.{ChangesData, all_passes, kind_of}
use Rattle.mg_image_overlay_laws.specs.pages.Kinds.{HasNoSequences}
use Rattle.mg_image_overlay_laws.specs.pages.Trees.{trees_stay}
use Rattle.mg_image_overlay_laws.specs.pages.Reach.{IsEntered}
use Rattle.mg_model.specs.declared.table.Table.{Table}
use Rattle.mg_image_overlay_laws.specs.tables.OneLayout.{sound_once}
use Rattle.mg_pool.specs.Batch.{Changed}
use Rattle.mg_pool.specs.declared.pool.Pool.{Pool}
use Rattle.mg_slots.specs.Changes.{SetsCell}
use Rattle.mg_slots.specs.DataPage.{cell_of}
use Rattle.mg_slots.specs.declared.page.TheConstants.{DATA_KIND}
use Rattle.mg_space.specs.Taking.{IsGeometry}
use Rattle.mg_space.specs.View.{viewed}
use Rattle.mg_version.specs.Cells.{IsSpelling}
use Rattle.mg_version.specs.declared.cell.Cell.{Cell}
use Rattle.mg_version.specs.declared.cell.Cell.TheVariants as cells
use Rattle.mg_version.specs.declared.cell.Link.{Link}
use Rattle.mg_version.specs.declared.cell.Version.{Version}
use Rattle.mg_heap.specs.Changing.{ChangesOne}
use Rattle.mg_heap.specs.Reach.{IsReached}
use Rattle.mg_heap.specs.Reading.{IsSomeData, owner_in, sequence_in}
use Rattle.mg_heap.specs.Room.{GivesRoom}
use Rattle.mg_chain.specs.Writing.{TurnsTo}
use Rattle.mg_image_overlay_laws.specs.tables.Growing.{IsTableOf}
use Rattle.mg_image_overlay_laws.specs.tables.GrowingLaws.{StandsTo, grows_pool, table_of_end}
use Rattle.mg_image_overlay_laws.specs.kept.Knowing.{entered_of, pointers_keep}
use Rattle.mg_tie_laws.specs.Batches.{IsWithin}
use Rattle.mg_tie_laws.specs.CellTies.{HasLawfulCells, cells_still, lawful_cells, sets_cells, sets_page, spelled_is}
use Rattle.mg_tie_laws.specs.RoomTies.{GrowsSome, end_of, ends_there, room_grows}
use Rattle.mg_tie_laws.specs.Rows.{off_header, reached_entered, table_of_page, walk_four, within_put}

-- a data page by what it says of itself
pub some_data_kind : (page : PageNo) (b : List ℕ) → IsSomeData page b → byte b 0 ≡ 5
some_data_kind page b is = kind_of b page.0 DATA_KIND (owner_in b) (sequence_in b) []
    (all_passes (common_checks b page.0 DATA_KIND (owner_in b) (sequence_in b))
    (passes_from_verdict page (common_checks b page.0 DATA_KIND (owner_in b) (sequence_in b)) is.common))

-- bytes that spell a version may stand in a slot, and so may those of an anchor
pub version_may : (in_primary : Bool) (bytes other : List ℕ) (v : Version)
    → IsSpelling bytes (cells.Version v) → Some bytes ≡ Some other → IsCellOf in_primary other
version_may in_primary bytes other v spells is =
    let same : bytes ≡ other = cc in
    subst (IsCellOf in_primary) same (inl (cells.Version v, spells))

pub anchor_may : (in_primary : Bool) (bytes other : List ℕ) (l : Link)
    → IsSpelling bytes (cells.Anchor l) → Some bytes ≡ Some other → IsCellOf in_primary other
anchor_may in_primary bytes other l spells is =
    let same : bytes ≡ other = cc in
    subst (IsCellOf in_primary) same (inl (cells.Anchor l, spells))

-- A cell is put into a free slot of a page that was given.
pub record PutsGiven {D L : Type 0} (store : Pool D L) (image : Image)
    (old given put : Changed) (owner need : ℕ) (at : RecId) (bytes : List ℕ) (pointers : List ℕ) : Type 0 where
  pub gives : GivesRoom store image old given owner need at.page
  pub one : ChangesOne store.geometry.size given put at.page.0
  pub data_page : IsSomeData at.page (viewed store image given at.page.0)
  pub was_free : cell_of (viewed store image given at.page.0) at.slot ≡ None
  pub sets : SetsCell (viewed store image given at.page.0) (viewed store image put at.page.0) at.slot
      (Some bytes)
  pub others : (n : ℕ) → n ≢ at.page.0 → viewed store image put n ≡ viewed store image given n
  pub reached : IsReached (viewed store image put) owner at.page.0 pointers

module _ (form : Form) (one : RowsAreOne form.coding) (none : HasNoSequences form) {D L : Type 0}
    (store : Pool D L) (image : Image) (lawful : IsGeometry store.geometry) (old : Changed)
    (state : ℕ → TxState) (layout : Layout) (r : Reading)
    (sound : IsSoundBy form store.geometry.size state (viewed store image old) layout r) (rec : RecId)
    (table : Table) (of : table_at (stands_of layout) rec.page.0 ≡ Some table) (given put : Changed)
    (need : ℕ) (at : RecId) (bytes : List ℕ) (pointers : List ℕ)
    (puts : PutsGiven store image old given put table.pointer.0 need at bytes pointers) (w : Version)
    (spells : IsSpelling bytes (cells.Version w)) (batch : ℕ → Option (List ℕ)) (orders : Orders)
    (within : IsWithin batch orders put) where
  abbrev size : ℕ
  size = store.geometry.size

  abbrev pool : Pages
  pool = viewed store image old

  abbrev given_view : Pages
  given_view = viewed store image given

  abbrev put_view : Pages
  put_view = viewed store image put

  its : IsTableOf layout table
  its = table_of_page layout rec.page.0 table of

  within_given : IsWithin batch orders given
  within_given = within_put batch orders given put at.page.0 puts.one.bytes puts.one.puts within

  pub grows : GrowsSome form.in_primary size table.pointer.0 orders batch pool
      (end_of puts.gives.pointers puts.gives.data_pages) given_view
  grows = room_grows form store image state layout r old given table need at.page orders batch lawful
      sound its within_given puts.gives

  pub to : StandsTo form size state pool given_view layout r table grows.final
  to = grows_pool form (sound_once form one none) none size (trees_stay form size) state table orders batch
      pool given_view (end_of puts.gives.pointers puts.gives.data_pages) grows.final grows.grows layout r
      sound (ends_there form size state pool layout r sound table its puts.gives.pointers
      puts.gives.data_pages puts.gives.table)

  its_then : IsTableOf to.layout table
  its_then = table_of_end to.layout table grows.final to.ends

  kind_at : byte (given_view at.page.0) 0 ≡ 5
  kind_at = some_data_kind at.page (given_view at.page.0) puts.data_page

  at_table : table_at (stands_of to.layout) at.page.0 ≡ Some table
  at_table = entered_of form size state given_view to.layout r to.sound table its_then (λ k. Unit {0})
      put_view (pointers_keep form size state given_view to.layout r to.sound table its_then put_view
      at.page.0 puts.others kind_at) at.page.0
      (reached_entered (λ k. Unit {0}) put_view table.pointer.0 at.page.0 pointers puts.reached
      (λ k there. tt))

  at_cells : HasLawfulCells form.in_primary given_view at.page.0
  at_cells = lawful_cells form size state given_view to.layout r to.sound at.page.0 table at_table

  rec_cells : HasLawfulCells form.in_primary given_view rec.page.0
  rec_cells = lawful_cells form size state given_view to.layout r to.sound rec.page.0 table
      (to.grown.stays rec.page.0 table of)

  -- ---- the version's cell

  pub put_page : ChangesData form.in_primary given_view put_view at.page.0
  put_page = sets_page form.in_primary given_view put_view at (Some bytes) puts.sets puts.others at_cells
      (λ other is. version_may form.in_primary bytes other w spells is)

  pub put_cells : Changes (cells_of given_view) (cells_of put_view) at (Some (cells.Version w))
  put_cells = subst (λ (c : Option Cell). Changes (cells_of given_view) (cells_of put_view) at c)
      (ap (λ (c : Cell). Some c) (spelled_is bytes (cells.Version w) spells))
      (sets_cells form.in_primary given_view put_view at (Some bytes) puts.sets puts.others)

  pub free : cells_of given_view at ≡ None
  free = ap slot_cell puts.was_free

  pub apart : w.primary ≡ false
  apart = spells.is_cell.moved

  -- the slot has the cell that it had
  pub slot_given : cells_of given_view rec ≡ cells_of pool rec
  slot_given = ap (λ (page : List ℕ). slot_cell (cell_of page rec.slot))
      (to.data_same rec.page.0 table of)

  pub slot_put : rec ≢ at → cells_of put_view rec ≡ cells_of pool rec
  slot_put ne = put_cells.others rec ne ∙ slot_given

  put_rec_cells : HasLawfulCells form.in_primary put_view rec.page.0
  put_rec_cells = cells_still form.in_primary given_view put_view at.page.0 rec.page.0 put_page rec_cells

  -- another data page of the table, as it is then
  pub other_cells : (b : ℕ) → table_at (stands_of layout) b ≡ Some table
      → HasLawfulCells form.in_primary put_view b
  other_cells b is = cells_still form.in_primary given_view put_view at.page.0 b put_page
      (lawful_cells form size state given_view to.layout r to.sound b table (to.grown.stays b table is))

  -- ---- the slot

  module _ (turned : Changed) (link : Link) (turns : TurnsTo store image put turned rec link) where
    abbrev turned_view : Pages
    turned_view = viewed store image turned

    pub turn_page : ChangesData form.in_primary put_view turned_view rec.page.0
    turn_page = sets_page form.in_primary put_view turned_view rec (Some turns.bytes)
        turns.puts.puts.puts.sets turns.puts.puts.others put_rec_cells
        (λ other is. anchor_may form.in_primary turns.bytes other link turns.spells is)

    pub turn_cells : Changes (cells_of put_view) (cells_of turned_view) rec (Some (cells.Anchor link))
    turn_cells = subst (λ (c : Option Cell). Changes (cells_of put_view) (cells_of turned_view) rec c)
        (ap (λ (c : Cell). Some c) (spelled_is turns.bytes (cells.Anchor link) turns.spells))
        (sets_cells form.in_primary put_view turned_view rec (Some turns.bytes) turns.puts.puts.puts.sets
        turns.puts.puts.others)

  -- ---- the orders

  pub header_off : 0 ≢ rec.page.0
  header_off = off_header form size state given_view to.layout r to.sound rec.page.0 rec_cells.kind

  -- a walk over pointer pages, each of which is ordered before the slot's page
  pub walk_ordered : (n : ℕ) (walk : List ℕ) → IsReached put_view table.pointer.0 n walk
      → ((k : ℕ) → Has walk k → k ≢ rec.page.0 → orders k rec.page.0 ≡ true)
      → IsEntered (λ k. orders k rec.page.0 ≡ true) put_view n table.pointer.0
  walk_ordered n walk reached each = reached_entered (λ k. orders k rec.page.0 ≡ true) put_view
      table.pointer.0 n walk reached (λ k there. each k there (off k there))
    where
      off : (k : ℕ) → Has walk k → k ≢ rec.page.0
      off k there same =
          let four : byte (put_view k) 0 ≡ 4 = walk_four put_view table.pointer.0 n walk reached k there in
          let five : byte (put_view k) 0 ≡ 5 = ap (λ (q : ℕ). byte (put_view q) 0) same
          ∙ put_rec_cells.kind in
          omega (arith, four, five)
