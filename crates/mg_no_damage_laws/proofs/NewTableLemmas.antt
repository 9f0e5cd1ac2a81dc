-- A batch is filled with a new table without damage.
use Rattle.std.proofs.Common.{◌≡◌, ◌∙◌, inl, inr, ◌≤◌, ◌+◌, ◌∷◌, [], ℕ, false, List, None, Some, length, refl, sym, ap, subst}
use Rattle.mg_base.specs.Disk.{Meaning}
use Rattle.mg_base.specs.Image.{Image}
use Rattle.mg_base.specs.declared.damage.Damaged.{Damaged}
use Rattle.mg_base.specs.declared.geometry.Geometry.{Geometry}
use Rattle.mg_base.specs.declared.numbers.RecId.{RecId}
use Rattle.mg_base.specs.declared.transaction.TxState.{TxState}
use Rattle.mg_base.specs.declared.transaction.TxState.TheVariants.{Dead}
use Rattle.mg_chain.specs.Chains.{newest_link}
use Rattle.mg_chain.specs.Refusals.{IsCellDamage, RefusesCellAt}
use Rattle.mg_chain.specs.WritingRefusals.{RefusesFirst}
use Rattle.mg_tie_laws.specs.PushTies.{written}
use Rattle.mg_heap.specs.Apart.{HasPlace}
use Rattle.mg_heap.specs.Growth.{orders_to}
use Rattle.mg_image.specs.Form.{Pages, Row, packed_coding, packed_form}
use Rattle.mg_image.specs.Records.{key_of}
use Rattle.mg_image.specs.Sound.{IsCellOf, IsSoundBy, facts_by}
use Rattle.mg_image.specs.Tables.{Has, Layout, stands_of, table_at}
use Rattle.mg_model.specs.Catalog.{catalog_shape}
use Rattle.mg_model.specs.declared.table.Table.{Table}
use Rattle.mg_pool.specs.Batch.{Changed}
use Rattle.mg_pool.specs.declared.pool.Pool.{Pool}
use Rattle.mg_space.specs.Taking.{IsGeometry}
use Rattle.mg_space.specs.TakingLaws.{page_sizes}
use Rattle.mg_space.specs.View.{KeepsStore, Tells, viewed}
use Rattle.mg_space.specs.ViewLaws.{tells_on}
use Rattle.mg_space.specs.declared.fault.SpaceFault.TheVariants as faults
use Rattle.mg_space.specs.declared.links.FireLinks.{FireLinks}
use Rattle.mg_table_batch.specs.Filling.{PutsNaming, PutsRow, StoresRow, page_of_version}
use Rattle.mg_table_batch.specs.Refusals.{RefusesNaming, RefusesRow, RefusesRows, RefusesRowsOf, own_memory, own_row, own_slot, row_unmade, row_unplaced, row_unstored, rows_first, rows_later}
use Rattle.mg_image_overlay_laws.specs.tables.Growing.{IsTableOf, MayBeWritten}
use Rattle.mg_image_overlay_laws.specs.tables.OneTable.{its_data}
use Rattle.mg_version.specs.declared.cell.TheConstants.{ANCHOR_LEN}
use Rattle.mg_version.specs.declared.cell.Version.{Version}
use Rattle.mg_no_damage_laws.specs.NewTables.{EachRow}
use Rattle.mg_no_damage_laws.proofs.CatalogRowLemmas.{IsShortRow, stored_so}
use Rattle.mg_no_damage_laws.specs.FirstLaws.{record_made, spot_room}
use Rattle.mg_no_damage_laws.proofs.MidwayLemmas.{IsMidway, its_catalog, order_step, room_placed, room_step, row_placed, row_step}
use Rattle.mg_no_damage_laws.specs.Reading.{Reads, page_there, views}
use Rattle.mg_no_damage_laws.specs.RoomLaws.{spot_given}
use Rattle.mg_no_damage_laws.specs.WriteStanding.{IsStanding, cells_there, sound_standing}

-- bytes that spell a cell are read as one
no_damage : (page : ℕ) (bytes : List ℕ) (it : Damaged) → IsCellOf false bytes → IsCellDamage page bytes it → ⊥
no_damage page bytes it (inl (cell, spells)) damaged = damaged.refuses.none cell spells
no_damage page bytes it (inr (primary, v)) damaged = absurd cc

-- A row of the catalog is short, and may be written at each place, in a version of t that stores it.
pub record MayPut (size : ℕ) (state : ℕ → TxState) (first : Pages) (layout : Layout) (catalog : Table) (t : ℕ)
    (row : Row) : Type 0 where
  pub short : IsShortRow row
  pub may : (at : RecId) (v : Version) → StoresRow size catalog t row v
      → MayBeWritten packed_coding (facts_by state first layout) catalog (key_of catalog row) (written at v None row)

module _ {D : Type 0} (m : Meaning D) (laws : Reads m) (n : Pool D FireLinks) (image : Image)
    (tells : Tells m n.disk image) (size : ℕ) (state : ℕ → TxState) (catalog : Table)
    (shaped : catalog.shape ≡ catalog_shape) (some : catalog.pointer.0 ≡ 0 → ⊥) (t : ℕ) (dead : state t ≡ Dead)
    (first : Pages) (layout : Layout) where
  -- One who fills a batch over a cache, like that at the end of the call, sees the catalog stand.
  pub record Sees (old : Pool D FireLinks) (batch : Changed) : Type 0 where
    pub like : n.dirty ≡ old.dirty
    pub tells_old : Tells m old.disk image
    pub geometry : IsGeometry old.geometry
    pub sized : old.geometry.size ≡ size
    pub midway : IsMidway old.geometry.size state catalog (first 0) (viewed old image batch)

  -- pages were read
  pub sees_on : (old ready : Pool D FireLinks) (batch : Changed) → KeepsStore m old ready → Sees old batch
      → Sees ready batch
  sees_on old ready batch keeps it = record {
    like = it.like ∙ sym keeps.dirty;
    tells_old = tells_on m old ready image keeps it.tells_old;
    geometry = subst IsGeometry (sym keeps.geometry) it.geometry;
    sized = ap (λ (g : Geometry). g.size) keeps.geometry ∙ it.sized;
    midway = subst (λ (g : Geometry). IsMidway g.size state catalog (first 0) (viewed ready image batch))
        (sym keeps.geometry) (subst (λ (ps : Pages). IsMidway old.geometry.size state catalog (first 0) ps)
        (sym (views m laws old ready image keeps.dirty (tells_on m old ready image keeps it.tells_old)
        old.geometry.size batch)) it.midway);
  }

  module _ (old : Pool D FireLinks) (batch : Changed) (it : Sees old batch) where
    abbrev view : Changed → Pages
    view b = viewed old image b

    abbrev its : IsTableOf it.midway.layout catalog
    its = its_catalog old.geometry.size state catalog (first 0) (view batch) it.midway

    -- a record is made at a place of the catalog, after pages were read
    made_there : (ready : Pool D FireLinks) (given : Changed) → KeepsStore m old ready
        → (there : IsMidway old.geometry.size state catalog (first 0) (view given)) (at : RecId)
        → table_at (stands_of there.layout) at.page.0 ≡ Some catalog → HasPlace (view given at.page.0) at.slot
        → (v : Version) → length v.body + 42 ≤ old.geometry.size → (damage : Damaged)
        → RefusesFirst m ready n image given catalog.pointer.0 at v (faults.Damaged damage) → ⊥
    made_there ready given keeps there at placed place v short damage refused = record_made m laws ready n image
        (it.like ∙ sym keeps.dirty) tells (subst IsGeometry (sym keeps.geometry) it.geometry) given state there.layout
        there.reading sound catalog (its_catalog old.geometry.size state catalog (first 0) (view given) there) at placed
        (subst (λ (ps : Pages). HasPlace (ps at.page.0) at.slot) (sym same_view) place) v
        (subst (λ (g : Geometry). length v.body + 42 ≤ g.size) (sym keeps.geometry) short) damage refused
      where
        same_view : viewed ready image given ≡ view given
        same_view = views m laws old ready image keeps.dirty (tells_on m old ready image keeps it.tells_old)
            old.geometry.size given

        sound : IsSoundBy packed_form ready.geometry.size state (viewed ready image given) there.layout there.reading
        sound = subst (λ (g : Geometry). IsSoundBy packed_form g.size state (viewed ready image given) there.layout
            there.reading) (sym keeps.geometry) (subst (λ (ps : Pages). IsSoundBy packed_form old.geometry.size state ps
            there.layout there.reading) (sym same_view) there.sound)

    -- ---- a row

    module _ (row : Row) (may : MayPut size state first layout catalog t row) where
      may_old : (at : RecId) (v : Version) → StoresRow old.geometry.size catalog t row v
          → MayBeWritten packed_coding (facts_by state first layout) catalog (key_of catalog row) (written at v None row)
      may_old at v stores = may.may at v (subst (λ (k : ℕ). StoresRow k catalog t row v) it.sized stores)

      -- it was put
      module _ (new : Changed) (at : RecId) (puts : PutsRow old image catalog t batch new row at) where
        its_dead : state puts.version.tx.0 ≡ Dead
        its_dead = ap state puts.stores.stored.its ∙ dead

        pub row_seen : Sees old new
        row_seen = record {
          like = it.like;
          tells_old = it.tells_old;
          geometry = it.geometry;
          sized = it.sized;
          midway = row_step m laws old image it.tells_old it.geometry state catalog (first 0) batch new t row at puts first
              layout refl its_dead (may_old at puts.version puts.stores) it.midway;
        }

        -- its slot is read
        its_then : IsTableOf row_seen.midway.layout catalog
        its_then = its_catalog old.geometry.size state catalog (first 0) (view new) row_seen.midway

        standing : IsStanding old.geometry.size (view new) its_then.stand
        standing = sound_standing old.geometry.size state (view new) row_seen.midway.layout row_seen.midway.reading
            row_seen.midway.sound catalog its_then

        listed : Has its_then.stand.data_pages at.page.0
        unfolding row_seen
        listed = (its_data packed_form old.geometry.size state (view new) row_seen.midway.layout
            row_seen.midway.reading row_seen.midway.sound catalog its_then at.page.0).0
            (row_placed m laws old image it.tells_old it.geometry state catalog (first 0) batch new t row at puts first
            layout refl its_dead (may_old at puts.version puts.stores) it.midway)

        pub slot_read : (damage : Damaged)
            → RefusesCellAt m n new.pages (view new) at (faults.Damaged damage) → ⊥
        slot_read damage (inl page) = page_there m laws old n image it.like tells old.geometry.size new its_then.stand
            standing at.page listed damage page
        slot_read damage (inr (bytes, is, damaged)) = no_damage at.page.0 bytes damage
            ((cells_there old.geometry.size (view new) its_then.stand standing at.page.0 listed).cells at.slot bytes
            is) damaged

      -- it is put
      pub row_put : (damage : Damaged) → RefusesRow m old n image catalog t batch row (faults.Damaged damage) → ⊥
      row_put damage (row_unstored refused) = stored_so old.geometry.size catalog t row may.short shaped some
          (page_sizes old.geometry.size it.geometry.size).0 damage refused
      row_put damage (row_unplaced refused) = spot_given m laws old n image it.like tells it.geometry batch state
          it.midway.layout it.midway.reading it.midway.sound catalog its damage refused
      row_put damage (row_unmade at v given ready spot stores keeps refused) =
          let there = room_step m laws old image it.tells_old it.geometry state catalog (first 0) batch given ANCHOR_LEN
          at.page spot.gives it.midway in
          made_there ready given keeps there at
          (room_placed m laws old image it.tells_old it.geometry state catalog (first 0) batch given ANCHOR_LEN at.page
          spot.gives it.midway)
          (spot_room m laws old n image it.like tells it.geometry batch state it.midway.layout it.midway.reading
          it.midway.sound catalog its given at spot) v stores.may.short damage refused

  -- ---- rows

  pub rows_put : (damage : Damaged) (rows : List Row) (old : Pool D FireLinks) (batch : Changed) → Sees old batch
      → EachRow (MayPut size state first layout catalog t) rows
      → RefusesRows m n image catalog t (faults.Damaged damage) rows old batch → ⊥
  rows_put damage rows old batch it may (rows_first row later before b refused) =
      row_put before b it row may.0 damage refused
  rows_put damage rows old batch it may (rows_later row later before ready b mid at puts keeps refused) =
      rows_put damage later ready mid (sees_on before ready mid keeps (row_seen before b it row may.0 mid at puts)) may.1
      refused

  module _ (old : Pool D FireLinks) (batch : Changed) (it : Sees old batch) (row : Row)
      (may : MayPut size state first layout catalog t row) where
    pub naming_put : (damage : Damaged) → RefusesNaming m old n image catalog t batch row (faults.Damaged damage) → ⊥
    naming_put damage (own_memory is) = absurd cc
    naming_put damage (own_row refused) = row_put old batch it row may damage refused
    naming_put damage (own_slot at put puts refused) = slot_read old batch it row may put at puts damage refused

    pub naming_seen : (new : Changed) (page : ℕ) → PutsNaming old image catalog t batch new row page → Sees old new
    naming_seen new page puts =
        let seen = row_seen old batch it row may puts.put puts.at puts.puts in record {
          like = it.like;
          tells_old = it.tells_old;
          geometry = it.geometry;
          sized = it.sized;
          midway = order_step m laws old image it.tells_old it.geometry state catalog (first 0) puts.put new
              (orders_to old.geometry.size page (page_of_version puts.at (newest_link (viewed old image puts.put)
              puts.at))) puts.ordered seen.midway;
        }

  pub table_put : (rows : List Row) (old : Pool D FireLinks) (batch : Changed) → Sees old batch
      → EachRow (MayPut size state first layout catalog t) rows → (damage : Damaged)
      → RefusesRowsOf m old n image catalog t batch rows (faults.Damaged damage) → ⊥
  table_put [] old batch it may damage refused = refused
  table_put (own ∷ columns) old batch it may damage (inl refused) = naming_put old batch it own may.0 damage refused
  table_put (own ∷ columns) old batch it may damage (inr later) = rows_put damage columns later.ready later.named
      (sees_on old later.ready later.named later.keeps
      (naming_seen old batch it own may.0 later.named later.page later.puts)) may.1 later.refused
