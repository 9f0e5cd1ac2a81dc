-- What the core takes out of the catalog in a batch.
use Rattle.std.proofs.Common.{◌≡◌, refl, sym, ap, ◌∙◌, subst, ℕ, Bool, true, false, List, Option, None, Some}
use Rattle.std.proofs.lemmas.Bool.{false≢true}
use Rattle.mg_base.specs.Image.{Image}
use Rattle.mg_base.specs.declared.numbers.RecId.{RecId}
use Rattle.mg_base.specs.declared.transaction.TxState.{TxState}
use Rattle.mg_chain.specs.Chains.{Meets, newest_link}
use Rattle.mg_engine_step_laws.specs.standing.Listed.{page_listed}
use Rattle.mg_engine_step_laws.specs.tables_back.Outs.{TakesRowAway}
use Rattle.mg_engine_step_laws.specs.tables.TablePages.{table_there}
use Rattle.mg_engine_step_laws.specs.tables.SameRecords.{catalog_stands}
use Rattle.mg_heap.specs.Table.{IsTable}
use Rattle.mg_image.specs.Catalog.{catalog_table}
use Rattle.mg_image.specs.Form.{Pages, packed_form}
use Rattle.mg_image.specs.Inventory.{header_of}
use Rattle.mg_image.specs.Records.{Cells, Reading, newest_of, record_key}
use Rattle.mg_image.specs.Sound.{IsSoundBy, facts_by}
use Rattle.mg_image.specs.Tables.{Has, Layout, entries_in, stands_of, table_at}
use Rattle.mg_image_overlay_laws.specs.kept.KeptImages.{IsKept}
use Rattle.mg_model.specs.declared.opening.Opening.{Opening}
use Rattle.mg_model.specs.declared.table.Table.{Table}
use Rattle.mg_model.specs.History.{Entries}
use Rattle.mg_overlay_laws.specs.Overlays.{left_state}
use Rattle.mg_pointer.specs.PointerPage.{next_in}
use Rattle.mg_pool.specs.Batch.{Changed}
use Rattle.mg_pool.specs.Pool.{shown}
use Rattle.mg_pool.specs.declared.pool.Pool.{Pool}
use Rattle.mg_seek.specs.Readings.{SpeakersOfReadings}
use Rattle.mg_seek.specs.TableRecords.{IsAmong}
use Rattle.mg_seek.specs.Versions.{FirstAt, is_it, is_older, placed, stops, wants}
use Rattle.mg_seek.specs.declared.walk.Placed.{Placed}
use Rattle.mg_seek.specs.declared.whose.Wanted.TheVariants.{Any}
use Rattle.mg_snap.specs.Live.{State}
use Rattle.mg_space.specs.View.{viewed}
use Rattle.mg_tie_laws.specs.Changed.{fresh}
use Rattle.mg_image_overlay_laws.specs.tables.Growing.{IsTableOf}
use Rattle.mg_image_overlay_laws.specs.tables.OneChain.{link_once}
use Rattle.mg_image_overlay_laws.specs.tables.OneTable.{its_data}
use Rattle.mg_table_unmaking.specs.Rows.{IsAlone, TakesRow}
use Rattle.mg_value.specs.declared.value.Value.{Value}
use Rattle.mg_version.specs.declared.cell.Cell.TheVariants as cells
use Rattle.mg_version.specs.declared.cell.Link.{Link}
use Rattle.mg_version.specs.declared.cell.Version.{Version}
use Rattle.mg_engine_step_laws.specs.tables_back.Outs.{TakesRowAway}
use Rattle.mg_engine_step_laws.specs.tables_back.RowsTaken.{RowsAreTaken}

-- the first version from a link on is the one that it meets
first_is : (h : Cells) (takes_it : ℕ → Bool) (link : Option Link) (found : Option Placed) (l : Link) (v : Version)
    → FirstAt h takes_it link found → link ≡ Some l → Meets h l v → takes_it v.tx.0 ≡ true
    → found ≡ Some (placed l.rec v)
first_is h takes_it link found l v stops is meets on = absurd cc
first_is h takes_it link found l v (is_it k w met also) is meets on =
    let same : k ≡ l = cc in
    let one : Some (cells.Version w) ≡ Some (cells.Version v) = sym met.cell ∙ (ap (λ (x : Link). h x.rec) same ∙ meets.cell) in
    let version : w ≡ v = cc in λ i. Some (placed ((same i).rec) (version i))
first_is h takes_it link found l v (is_older k w other met off more) is meets on =
    let same : k ≡ l = cc in
    let one : Some (cells.Version w) ≡ Some (cells.Version v) = sym met.cell ∙ (ap (λ (x : Link). h x.rec) same ∙ meets.cell) in
    let version : w ≡ v = cc in
    absurd (false≢true (sym off ∙ (ap (λ (x : Version). takes_it x.tx.0) version ∙ on)))

module _ (speakers : SpeakersOfReadings) {D L : Type 0} (store : Pool D L)
    (image : Image) (o : Opening) (h : Entries) (state : ℕ → TxState) (live : State) (by : ℕ) (table : Table)
    (key : Value) (batch : Changed)
    (its : catalog_table (header_of (shown store.dirty image)).catalog.0 ≡ table)
    (kept : (chosen : ℕ → Bool) → chosen by ≡ false → IsKept packed_form store.geometry.size o h
    (left_state chosen state) (shown store.dirty image) (shown store.dirty image))
    (take : TakesRow store image state live by table key fresh batch) where
  abbrev size : ℕ
  size = store.geometry.size

  abbrev view : Pages
  view = shown store.dirty image

  alone : (take.out.was.tx.0 ≡ by) × (take.out.was.back ≡ None)
  alone = subst (IsAlone by) (first_is _ (wants state live Any) (newest_link (viewed store image fresh) take.rec)
      take.at.newest take.out.newest take.out.was take.at.first
      (ap (newest_of take.rec) take.out.its.head.slot) take.out.its.meets refl) take.at.alone

  module _ (chosen : ℕ → Bool) (off : chosen by ≡ false) (layout : Layout) (r : Reading)
      (sound : IsSoundBy packed_form store.geometry.size (left_state chosen state) (shown store.dirty image) layout r)
    where
      its_table : layout.catalog.table ≡ table
      its_table = sound.catalog ∙ its

      stands : IsTableOf layout table
      stands = subst (IsTableOf layout) its_table (catalog_stands layout)

      there : IsTable (shown store.dirty image) table.pointer.0 stands.stand.pointers stands.stand.data_pages
      there = table_there size (left_state chosen state) (shown store.dirty image) layout r sound table stands

      data_same : take.at.spoken.of_table.data_pages ≡ stands.stand.data_pages
      data_same = take.at.spoken.of_table.table.entries
          ∙ (ap (entries_in (shown store.dirty image)) (link_once (λ n. next_in (shown store.dirty image n))
          table.pointer.0 take.at.spoken.of_table.pointers stands.stand.pointers take.at.spoken.of_table.table.chain
          there.chain) ∙ sym there.entries)

      on_page : Has stands.stand.data_pages take.rec.page.0
      on_page = subst (λ (ns : List ℕ). Has ns take.rec.page.0) data_same
          (page_listed (shown store.dirty image) take.at.spoken.of_table.data_pages take.rec
          (subst (λ (recs : List RecId). IsAmong recs take.rec) take.at.spoken.of_table.are take.at.spoken.speaks.0))

      row_placed : table_at (stands_of layout) take.rec.page.0 ≡ Some table
      row_placed = (its_data packed_form size (left_state chosen state) (shown store.dirty image) layout r sound table
          stands take.rec.page.0).1 on_page

      row_keyed : record_key table (r take.rec) ≡ key
      row_keyed = ((speakers state live (shown store.dirty image) table key take.rec
          (facts_by (left_state chosen state) (shown store.dirty image) layout) r
          (record { lawful = sound.records; of_table = row_placed })).0 take.at.spoken.speaks.1).keyed

  pub row_taken : TakesRowAway packed_form store image state by key batch
  row_taken = record {
    rec = take.rec;
    table = table;
    out = take.out;
    its = alone.0;
    first = alone.1;
    catalog = ap (λ (x : Table). x.name) (sym its);
    placed = λ chosen off layout r sound. row_placed chosen off layout r sound;
    keyed = λ chosen off layout r sound. row_keyed chosen off layout r sound;
  }

pub rows_are_taken : SpeakersOfReadings → (D L : Type 0) → RowsAreTaken D L
rows_are_taken speakers D L store image o h state live by table key batch active its kept take =
    row_taken speakers store image o h state live by table key batch its kept take
