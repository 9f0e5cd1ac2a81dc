-- A number is drawn: what the store is then, and the pages as it shows them.
use Rattle.std.proofs.Common.{◌≡◌, ◌≢◌, ◌/◌, ℕ, false, List, Option, sym, ap, ◌∙◌, subst, arith}
use Rattle.std.proofs.lemmas.Bool.{false≢true}
use Rattle.mg_base.specs.Disk.{Meaning}
use Rattle.mg_base.specs.Fields.{byte}
use Rattle.mg_base.specs.Image.{Image}
use Rattle.mg_base.specs.declared.geometry.Geometry.{Geometry}
use Rattle.mg_base.specs.declared.transaction.TxState.{TxState}
use Rattle.mg_careful.specs.declared.graph.Order.{Order}
use Rattle.mg_header.specs.declared.header.Header.{Header}
use Rattle.mg_image.specs.Form.{Pages, packed_form}
use Rattle.mg_image.specs.Inventory.{header_of, inventory_page, is_used}
use Rattle.mg_image.specs.ReadingLaws.{RowsAreOne}
use Rattle.mg_image.specs.Records.{Reading}
use Rattle.mg_image.specs.Sound.{HasHeader, IsSoundBy}
use Rattle.mg_image.specs.Tables.{Layout}
use Rattle.mg_image_overlay_laws.specs.pages.DataPages.{kind_of}
use Rattle.mg_pool.specs.Dirty.{DirtyPages, is_marked}
use Rattle.mg_pool.specs.Pool.{shown}
use Rattle.mg_pool.specs.Run.{TimeGoesOn}
use Rattle.mg_pool.specs.declared.pool.Pool.{Pool}
use Rattle.mg_slots.specs.declared.page.TheConstants.{DATA_KIND}
use Rattle.mg_space.specs.Taking.{IsGeometry, region_of}
use Rattle.mg_space.specs.View.{viewed}
use Rattle.mg_tip.specs.TipPage.{places}
use Rattle.mg_txlist.specs.Drawing.{DrawsIn, DrawsOn, on_last, on_new}
use Rattle.mg_txlist.specs.TxList.{next_said}
use Rattle.mg_txlist.specs.declared.list.TipPage.{TipPage}
use Rattle.mg_txlist.specs.declared.list.TxList.{TxList}
use Rattle.mg_tie_laws.specs.DrawTies.{DrawsFrom, raised_is, tip_occupied}
use Rattle.mg_engine_step_laws.specs.commits.DrawnPages.{view_is}
use Rattle.mg_engine_meaning_laws.specs.Frames.{StoreGoesOn}
use Rattle.mg_engine_meaning_laws.specs.ReadLaws.{reads_go}
use Rattle.mg_engine_meaning_laws.specs.StepLaws.{run_goes, time_then, unmarked_run}
use Rattle.mg_engine_step_laws.specs.reads.Alike.{DataPagesStay}

-- ---- the store

module _ {D L : Type 0} (m : Meaning D) (old now : TxList) (before after : Pool D L)
    (draws : DrawsIn m old now before after) where
  reads : StoreGoesOn m before draws.ready
  reads = reads_go m before draws.ready draws.keeps

  writes : StoreGoesOn m draws.ready draws.changes.ready
  writes = run_goes m draws.ready draws.changes.ready draws.changes.written

  same_disk : after.disk ≡ draws.changes.ready.disk
  same_disk = draws.changes.enters.disk ∙ draws.changes.puts.disk

  pub drawn_goes : StoreGoesOn m before after
  drawn_goes = record {
    time = subst (TimeGoesOn m before.disk) (sym same_disk) (time_then m before.disk draws.ready.disk
        draws.changes.ready.disk reads.time writes.time);
    geometry = draws.changes.enters.geometry ∙ (draws.changes.puts.geometry ∙ (writes.geometry ∙ reads.geometry));
    size = ap (λ (d : DirtyPages). d.size) draws.changes.enters.dirty
        ∙ (draws.changes.puts.size ∙ (writes.size ∙ reads.size));
  }

  pub drawn_offline : after.offline ≡ before.offline
  drawn_offline = draws.changes.enters.offline ∙ (draws.changes.puts.offline
      ∙ (draws.changes.written.offline ∙ draws.keeps.offline))

  pub drawn_unmarked : (page who : ℕ) → is_marked before.dirty page who ≡ false
      → is_marked after.dirty page who ≡ false
  drawn_unmarked page who none = ap (λ (d : DirtyPages). is_marked d page who) draws.changes.enters.dirty
      ∙ (draws.changes.puts.marks page who ∙ unmarked_run m draws.ready draws.changes.ready page who
      draws.changes.written (ap (λ (d : DirtyPages). is_marked d page who) draws.keeps.dirty ∙ none))

-- ---- the pages

header_kind : (size : ℕ) (pages : Pages) → HasHeader size pages → byte (pages 0) 0 ≡ 1
header_kind size pages header = kind_of (pages 0) 0 1 0 0 _ header.fields

module _ (g : Geometry) (lawful : IsGeometry g) (t : ℕ) (old new : Pages) (header : HasHeader g.size old) where
  off_header : (n : ℕ) → byte (old n) 0 ≡ DATA_KIND → n ≢ 0
  off_header n kind same =
      let one : byte (old n) 0 ≡ 1 = ap (λ (k : ℕ). byte (old k) 0) same ∙ header_kind g.size old header in
      let five : byte (old n) 0 ≡ 5 = kind in omega (arith, one, five)

  data_stay : (page : Option TipPage) (orders : List Order) → DrawsOn g t old new page orders
      → DataPagesStay g.size old new
  data_stay page orders (on_last raises others) n used kind = others n (off_header n kind)
  data_stay page orders (on_new made taken takes bytes_are there raises others) n used kind =
      others n (off_header n kind) off_page ∙ takes.others n off_inventory
    where
      off_page : n ≢ made.page
      off_page same = false≢true (sym takes.free.unused ∙ (ap (is_used g.size old) (sym same) ∙ used))

      off_inventory : n ≢ inventory_page g.size (region_of g.size made.page)
      off_inventory same =
          let few = (tip_occupied g lawful old taken new made.page (header_of old).last_tip.0 (t / places g.size) takes
          (there ∙ bytes_are) takes.free.no_header others header.whole).was_region in
          let five : byte (old (inventory_page g.size (region_of g.size made.page))) 0 ≡ 5 =
          ap (λ (k : ℕ). byte (old k) 0) (sym same) ∙ kind in omega (arith, few, five)

  catalog_stays : (page : Option TipPage) (orders : List Order) → DrawsOn g t old new page orders
      → (header_of new).catalog.0 ≡ (header_of old).catalog.0
  catalog_stays page orders (on_last raises others) = sym (ap (λ (h : Header). h.catalog.0)
      (raised_is g.size (header_of old).last_tip.0 old new raises).2)
  catalog_stays page orders (on_new made taken takes bytes_are there raises others) =
      sym (ap (λ (h : Header). h.catalog.0) (raised_is g.size made.page old new raises).2)

module _ {D L : Type 0} (m : Meaning D) (one : RowsAreOne packed_form.coding) (old now : TxList) (before after : Pool D L)
    (i j : Image) (from : DrawsFrom m old now before after i j) (state : ℕ → TxState) (layout : Layout) (r : Reading)
    (sound : IsSoundBy packed_form before.geometry.size state (shown before.dirty i) layout r) where
  abbrev view : Pages
  view = viewed before i from.draws.batch

  viewed_is : shown after.dirty j ≡ viewed before i from.draws.batch
  viewed_is = view_is packed_form one (λ page n is. is) m old now before after i j from state layout r sound

  draws_on : DrawsOn before.geometry (next_said old) (shown before.dirty i) (viewed before i from.draws.batch)
      from.draws.page from.draws.batch.orders
  draws_on = from.draws.views i from.tells

  -- no data page is changed
  pub drawn_data : DataPagesStay before.geometry.size (shown before.dirty i) (shown after.dirty j)
  drawn_data = subst (DataPagesStay before.geometry.size (shown before.dirty i)) (sym viewed_is)
      (data_stay before.geometry from.geometry (next_said old) (shown before.dirty i)
      (viewed before i from.draws.batch) sound.header from.draws.page from.draws.batch.orders draws_on)

  -- and the catalog begins where it began
  pub drawn_catalog : (header_of (shown after.dirty j)).catalog.0 ≡ (header_of (shown before.dirty i)).catalog.0
  drawn_catalog = ap (λ (pages : Pages). (header_of pages).catalog.0) viewed_is
      ∙ catalog_stays before.geometry from.geometry (next_said old) (shown before.dirty i)
      (viewed before i from.draws.batch) sound.header from.draws.page from.draws.batch.orders draws_on
