-- A row of the catalog is taken out in a batch of its own without damage.
use Rattle.std.proofs.Common.{◌≡◌, ap, refl, sym, subst, ◌∙◌, ℕ, List, [], ◌∷◌, Option, None, Some}
use Rattle.mg_base.specs.Disk.{Meaning}
use Rattle.mg_base.specs.Image.{Image}
use Rattle.mg_base.specs.declared.damage.Damaged.{Damaged}
use Rattle.mg_base.specs.declared.geometry.Geometry.{Geometry}
use Rattle.mg_base.specs.declared.numbers.RecId.{RecId}
use Rattle.mg_base.specs.declared.transaction.TxState.{TxState}
use Rattle.mg_chain.specs.Chains.{newest_link}
use Rattle.mg_chain.specs.Views.{first_entry}
use Rattle.mg_engine_step_laws.specs.standing.Listed.{page_listed}
use Rattle.mg_engine_step_laws.specs.tables.TablePages.{table_there}
use Rattle.mg_engine_step_laws.specs.tables.SameRecords.{catalog_stands}
use Rattle.mg_heap.specs.Table.{IsTable}
use Rattle.mg_image.specs.Catalog.{catalog_table}
use Rattle.mg_image.specs.Form.{Pages, packed_form}
use Rattle.mg_image.specs.Inventory.{header_of}
use Rattle.mg_image.specs.RecordRules.{Facts}
use Rattle.mg_image.specs.Records.{Reading, cells_of}
use Rattle.mg_image.specs.Sound.{IsSoundBy, facts_by}
use Rattle.mg_image.specs.Tables.{Has, Layout, entries_in, stands_of, table_at}
use Rattle.mg_image.specs.declared.entry.Entry.{Entry as Read}
use Rattle.mg_model.specs.declared.table.Table.{Table}
use Rattle.mg_no_damage_laws.specs.Records.{ChainsAreWhole}
use Rattle.mg_no_damage_laws.specs.Sound.{SoundRecordsAreLawful, SoundTablesStand}
use Rattle.mg_no_damage_laws.specs.Tables.{SeesTable, TablesAreRead}
use Rattle.mg_no_damage_laws.specs.Writes.{BackOutsGoOn, IsRecordOf}
use Rattle.mg_pointer.specs.PointerPage.{next_in}
use Rattle.mg_pool.specs.Dirty.{DirtyPages}
use Rattle.mg_pool.specs.Pool.{shown}
use Rattle.mg_pool.specs.declared.pool.Pool.{Pool}
use Rattle.mg_batches.specs.Batches.{not_changed, not_filled, nothing_yet}
use Rattle.mg_seek.specs.Readings.{PlacesOfReadings, placed_if}
use Rattle.mg_seek.specs.Speaking.{IsSpeaker, RefusesTableRows}
use Rattle.mg_seek.specs.TableRecords.{IsAmong}
use Rattle.mg_seek.specs.Versions.{wants}
use Rattle.mg_seek.specs.declared.walk.Placed.{Placed}
use Rattle.mg_seek.specs.declared.whose.Wanted.TheVariants.{Any, Living}
use Rattle.mg_snap.specs.Live.{State as Bases}
use Rattle.mg_chain.specs.Refusals.{RefusesChain}
use Rattle.mg_space.specs.View.{KeepsStore, Tells}
use Rattle.mg_space.specs.ViewLaws.{tells_on}
use Rattle.mg_space.specs.declared.fault.SpaceFault.TheVariants as faults
use Rattle.mg_space.specs.declared.links.FireLinks.{FireLinks}
use Rattle.mg_image_overlay_laws.specs.tables.Growing.{IsTableOf}
use Rattle.mg_image_overlay_laws.specs.tables.OneChain.{link_once}
use Rattle.mg_image_overlay_laws.specs.tables.OneTable.{its_data}
use Rattle.mg_table_unmaking.specs.Rows.{FailsRowOut, IsAlone, IsAloneAt, RefusesAloneAt, RefusesRow, TakesRow, alone_nobody, alone_other, alone_unread, alone_unspoken, row_not_found, row_not_out}
use Rattle.mg_value.specs.declared.value.Value.{Value}
use Rattle.mg_no_damage_laws.specs.BackRows.{RowIsThere, RowsMeetNoDamage}
use Rattle.mg_no_damage_laws.specs.Batches.{ShowsSound, VersionsAreTakenOut}
use Rattle.mg_no_damage_laws.specs.Sees.{no_batch}
use Rattle.mg_chain.specs.Writing.{TakesOut}

module _ {D : Type 0} (m : Meaning D) (places : PlacesOfReadings) (lawful_of : SoundRecordsAreLawful)
    (tables_stand : SoundTablesStand) (read : TablesAreRead m) (chains : ChainsAreWhole m) (go_out : BackOutsGoOn m)
    (out : VersionsAreTakenOut m) (store after : Pool D FireLinks) (image : Image) (sound_by : ℕ → TxState)
    (layout : Layout) (r : Reading) (shows : ShowsSound m store image sound_by layout r) (state : ℕ → TxState)
    (live : Bases) (by : ℕ) (table : Table) (key : Value)
    (its : catalog_table (header_of (shown store.dirty image)).catalog.0 ≡ table)
    (there_is : RowIsThere state live by (shown store.dirty image) table key) where
  its_table : layout.catalog.table ≡ table
  its_table = shows.sound.catalog ∙ its

  stands : IsTableOf layout table
  stands = subst (IsTableOf layout) its_table (catalog_stands layout)

  -- a record that speaks is one of the catalog
  placed : (rec : RecId) → IsSpeaker state live (shown store.dirty image) table key (Some rec)
      → table_at (stands_of layout) rec.page.0 ≡ Some table
  placed rec spoken = (its_data packed_form store.geometry.size sound_by (shown store.dirty image) layout r shows.sound
      table stands rec.page.0).1 on_page
    where
      there : IsTable (shown store.dirty image) table.pointer.0 stands.stand.pointers stands.stand.data_pages
      there = table_there store.geometry.size sound_by (shown store.dirty image) layout r shows.sound table stands

      data_same : spoken.of_table.data_pages ≡ stands.stand.data_pages
      data_same = spoken.of_table.table.entries
          ∙ (ap (entries_in (shown store.dirty image)) (link_once (λ k. next_in (shown store.dirty image k))
          table.pointer.0 spoken.of_table.pointers stands.stand.pointers spoken.of_table.table.chain there.chain)
          ∙ sym there.entries)

      on_page : Has stands.stand.data_pages rec.page.0
      on_page = subst (λ (ns : List ℕ). Has ns rec.page.0) data_same
          (page_listed (shown store.dirty image) spoken.of_table.data_pages rec
          (subst (λ (recs : List RecId). IsAmong recs rec) spoken.of_table.are spoken.speaks.0))

  -- and has a version
  its_record : (rec : RecId) → IsAloneAt state live by (shown store.dirty image) table key rec
      → IsRecordOf layout r rec table
  its_record rec at_key = at at_key.newest refl at_key.alone (r rec) refl
    where
      first : at_key.newest ≡ placed_if (first_entry (wants state live Any) (r rec))
      first = places (cells_of (shown store.dirty image)) (wants state live Any)
          (newest_link (shown store.dirty image) rec) at_key.newest (r rec) at_key.first
          (shows.sound.records.reads rec table (placed rec at_key.spoken))

      at : (x : Option Placed) → at_key.newest ≡ x → IsAlone by x → (es : List Read) → r rec ≡ es
          → IsRecordOf layout r rec table
      at None none alone es are = absurd alone
      at (Some p) some alone [] are =
          let both : Some p ≡ None = sym some
          ∙ (first ∙ ap (λ (xs : List Read). placed_if (first_entry (wants state live Any) xs)) are) in absurd cc
      at (Some p) some alone (d ∷ ds) are =
          record { of = placed rec at_key.spoken; newest = d; older = ds; are = are }

  -- ---- it is found

  module _ (n : Pool D FireLinks) (keeps : KeepsStore m store n) where
    sound_n : IsSoundBy packed_form n.geometry.size sound_by (shown n.dirty image) layout r
    sound_n = subst (λ (d : DirtyPages). IsSoundBy packed_form n.geometry.size sound_by (shown d image) layout r)
        (sym keeps.dirty) (subst (λ (g : Geometry). IsSoundBy packed_form g.size sound_by (shown store.dirty image)
        layout r) (sym keeps.geometry) shows.sound)

    abbrev f : Facts
    f = facts_by sound_by (shown n.dirty image) layout

    sees : SeesTable m n image no_batch f r stands.stand table
    sees = record {
      sees = record {
        tells = tells_on m store n image keeps shows.tells;
        lawful = lawful_of n.geometry.size sound_by (shown n.dirty image) layout r sound_n;
      };
      stands = tables_stand n.geometry.size sound_by (shown n.dirty image) layout r sound_n table table stands
          (record { name = refl; shape = refl; pointer = refl });
    }

    as_now : (P : Pages → Type 0) → P (shown store.dirty image) → P (shown n.dirty image)
    as_now P holds = subst (λ (d : DirtyPages). P (shown d image)) (sym keeps.dirty) holds

    found : (it : Damaged)
        → RefusesAloneAt m n [] (shown store.dirty image) state live by table key (faults.Damaged it) → ⊥
    found it (alone_unspoken refused) = read n image no_batch f r stands.stand table sees (wants state live Living) it
        (as_now (λ (view : Pages). RefusesTableRows m n [] view (wants state live Living) table (faults.Damaged it))
        refused)
    found it (alone_nobody spoken is) = there_is.some spoken
    found it (alone_unread rec spoken refused) = chains n image no_batch f r sees.sees rec table (placed rec spoken) it
        (as_now (λ (view : Pages). RefusesChain m n [] view rec (faults.Damaged it)) refused)
    found it (alone_other rec other spoken is_first not_alone is) = not_alone (there_is.own rec other spoken is_first)

  -- ---- and taken out

  same_image : (other : Image) → Tells m store.disk other → other ≡ image
  same_image other tells = let both : Some other ≡ Some image = sym tells.held ∙ shows.tells.held in cc

  row_read : (it : Damaged) → KeepsStore m store after
      → RefusesRow m store after image state live by table key nothing_yet (faults.Damaged it) → ⊥
  row_read it kept (row_not_found refused) = found after kept it refused
  row_read it kept (row_not_out rec ready at_key keeps refused) =
      go_out ready after image nothing_yet sound_by layout r (record {
        like = kept.dirty ∙ sym keeps.dirty;
        same = kept.geometry ∙ sym keeps.geometry;
        tells = tells_on m store after image kept shows.tells;
        sound = sound_n ready keeps;
      }) rec table (its_record rec at_key) it refused

  pub row_goes : (it : Damaged) → FailsRowOut m store after state live by table key (faults.Damaged it) → ⊥
  row_goes it (not_filled keeps reads told why) = row_read it keeps (why image shows.tells)
  row_goes it (not_changed batch ready keeps online filled fails) =
      let its : TakesRow store image state live by table key nothing_yet batch = filled image shows.tells in
      out store after image sound_by layout r shows its.rec table (its_record its.rec its.at) it
      (not_changed batch ready keeps online (λ other tells. subst (λ (i : Image). TakesOut store i nothing_yet batch its.rec)
      (sym (same_image other tells)) its.out) fails)

pub rows_meet_no_damage : {D : Type 0} (m : Meaning D) → PlacesOfReadings → SoundRecordsAreLawful
    → SoundTablesStand → TablesAreRead m → ChainsAreWhole m → BackOutsGoOn m → VersionsAreTakenOut m
    → RowsMeetNoDamage D m
rows_meet_no_damage m places lawful_of tables_stand read chains go_out out store after image sound_by layout r shows state
    live by table key its there_is it fails = row_goes m places lawful_of tables_stand read chains go_out out store after image
    sound_by layout r shows state live by table key its there_is it fails
