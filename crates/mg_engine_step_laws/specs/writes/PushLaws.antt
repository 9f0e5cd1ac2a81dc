-- A version that is pushed takes the engine on to the longer history.
use Rattle.mg_base.specs.Disk.{Meaning}
use Rattle.mg_base.specs.Image.{Image}
use Rattle.mg_base.specs.declared.numbers.RecId.{RecId}
use Rattle.mg_base.specs.declared.transaction.TxState.{TxState}
use Rattle.mg_base.specs.declared.transaction.TxState.TheVariants.{Active, Committed, Dead, Limbo}
use Rattle.mg_chain.specs.Writing.{Pushes, link_to}
use Rattle.mg_tie_laws.specs.Newest.{settled_found}
use Rattle.mg_tie_laws.specs.PushTies.{push_row, pushes_pages, puts, some_grows, written}
use Rattle.mg_tie_laws.specs.PutTies.{PutsGiven}
use Rattle.mg_tie_laws.specs.Rows.{ForEach}
use Rattle.mg_engine_step_laws.specs.writes.GoesOn.{HasGoneOn, WritesGoOn}
use Rattle.mg_engine_step_laws.specs.writes.GoesOnLaws.{pushes_are_read}
use Rattle.mg_engine_step_laws.specs.writes.Writes.{ReadsAfter, pushed}
use Rattle.mg_engine_step_laws.specs.writes.Caches.{kept_now, pool_later, pool_now, row_changed}
use Rattle.mg_engine_step_laws.specs.writes.Knowing.{CodesRow, EntersWrite, HasEntries, MayWriteInto, WasChanged}
use Rattle.mg_engine_step_laws.specs.writes.Rows.{PushesGoOn}
use Rattle.mg_engine_step_laws.specs.writes.Spoken.{spoken_key, spoken_of, was_drawn}
use Rattle.mg_engine_step_laws.specs.reads.TakenKeys.{none_takes}
use Rattle.mg_engine_step_laws.specs.writes.WriteKnown.{brings, may_each, placed_each, writes_row}
use Rattle.mg_image_overlay_laws.specs.tables.Growing.{FindsSettled, IsTableOf}
use Rattle.mg_tie_laws.specs.RoomTies.{GrowsSome, end_of, ends_there}
use Rattle.mg_image.specs.Form.{Form, Pages, Row}
use Rattle.mg_image.specs.Inventory.{next_of}
use Rattle.mg_image.specs.ReadingLaws.{RowsAreOne}
use Rattle.mg_image.specs.Records.{record_key, writer}
use Rattle.mg_image.specs.Sound.{facts_by}
use Rattle.mg_image.specs.Tables.{stands_of, table_at}
use Rattle.mg_image.specs.declared.entry.Entry.{Entry}
use Rattle.mg_image_overlay_laws.specs.pages.Kinds.{HasNoSequences}
use Rattle.mg_image_overlay_laws.specs.kept.KeptImages.{IsKept}
use Rattle.mg_lasting_laws.specs.Lasting.{LastsOn}
use Rattle.mg_model.specs.Changes.{Cells}
use Rattle.mg_model.specs.History.{Entries, Entry as Event}
use Rattle.mg_model.specs.Laws.{OpeningsBegin}
use Rattle.mg_model.specs.Openings.{everyone}
use Rattle.mg_model.specs.declared.opening.Opening.{Opening}
use Rattle.mg_model.specs.declared.table.Table.{Table}
use Rattle.mg_overlay_laws.specs.Overlays.{left_by, left_state}
use Rattle.mg_pool.specs.Batch.{Changed, content_in, lists}
use Rattle.mg_pool.specs.Pool.{shown}
use Rattle.mg_pool.specs.declared.pool.Pool.{Pool}
use Rattle.mg_pool_overlay_laws.specs.Needs.{Asked, Sessions}
use Rattle.mg_slots.specs.Room.{need_of}
use Rattle.mg_space.specs.View.{viewed}
use Rattle.mg_tie_laws.specs.Changed.{KeptIn, fresh}
use Rattle.mg_engine_step_laws.specs.standing.Standing.{ShowsHistory, Standing, Stands}
use Rattle.mg_image_overlay_laws.specs.pages.DataKept.{KeepsBits}
use Rattle.mg_value.specs.declared.value.Value.{Value}
use Rattle.mg_version.specs.declared.cell.Version.{Version}
use Rattle.std.proofs.Common.{List, Option, Some, ap, inl, refl, subst, true, ℕ, ◌<◌, ◌∙◌, ◌∷◌, ◌≡◌}

-- who is committed where all count is so
pub was_committed : (x : TxState) → left_by true x ≡ Committed → x ≡ Committed
was_committed Active is = absurd cc
was_committed Limbo is = absurd cc
was_committed Dead is = absurd cc
was_committed Committed is = refl

module _ (D L : Type 0) (m : Meaning D) (form : Form) (one : RowsAreOne form.coding)
    (none : HasNoSequences form) (begins : OpeningsBegin) (go : WritesGoOn D L m form) (o : Opening)
    (h : Entries) (e : Event) (s new : Standing) (before after : Pool D L) (i j : Image) (batch : Changed)
    (asked : Asked) (session : Sessions)
    (stands : Stands form before.geometry.size o h s (Some (shown before.dirty i))) (t : ℕ)
    (name : List ℕ) (key : Value) (row : Option Cells) (rec : RecId) (v : Version) (stored : Row)
    (table : Table) (lasts : LastsOn m form o h before asked session)
    (was : WasChanged m before after i j batch) (pushes : Pushes before i fresh batch rec v)
    (enters : EntersWrite o h e s new asked t name key row table)
    (may : MayWriteInto form before.geometry.size s.state (shown before.dirty i) stands.shows.layout
    stands.shows.reading t table)
    (codes : CodesRow form.coding table v stored t key row)
    (laid : HasEntries (shown before.dirty i) table rec v stored)
    (spoken : stands.shows.versions.speaker name key ≡ Some rec)
    (settled : s.state pushes.newest.tx.0 ≡ Committed) where
  abbrev size : ℕ
  size = before.geometry.size

  abbrev pool : Pages
  pool = shown before.dirty i

  abbrev state : ℕ → TxState
  state = left_state everyone s.state

  abbrev shows : ShowsHistory form size o h s pool
  shows = stands.shows

  abbrev n : Entry
  n = written pushes.pushes.at v (Some pushes.newest) stored

  number : t < next_of pool
  number = was_drawn form size o h s pool (begins o stands.opening) stands.legal stands.memory shows t enters.active

  pub of : table_at (stands_of shows.layout) rec.page.0 ≡ Some table
  of = spoken_of form size o h s pool shows name key rec table may.stands enters.named spoken

  keyed : record_key table (shows.reading rec) ≡ key
  keyed = spoken_key form size o h s pool shows name key rec table may.stands enters.named spoken

  placed : ForEach form size s.state pool
      (λ st layout r. IsTableOf layout table → table_at (stands_of layout) rec.page.0 ≡ Some table)
  placed = placed_each form one size o h e s.state pool shows.layout shows.reading shows.sound t
      name key row table v stored enters.writes enters.active number enters.named may codes rec of

  every : KeptIn form size o h s.state asked session before i
  every = kept_now m form o h s before after i j batch asked session stands.memory was lasts

  pub kept : KeptIn form size o (e ∷ h) s.state asked session after j
  kept = push_row form one none m before after i j batch asked session o h t s.state rec v table was.changes
      pushes enters.active may.whose placed settled every e stored codes.its enters.not_asked
      (may_each form one size o h e s.state pool shows.layout shows.reading shows.sound t
      name key row table v stored enters.writes enters.active number enters.named may codes rec of keyed pushes.pushes.at (Some pushes.newest))
      (brings form one size o h e s.state pool shows.layout shows.reading shows.sound t
      name key row table v stored enters.writes enters.active number enters.named may codes)
      (λ chosen is its. writes_row form one size o h e s.state pool shows.layout shows.reading shows.sound t
      name key row table v stored enters.writes enters.active number enters.named may codes chosen is its rec pushes.pushes.at (Some pushes.newest)
      (none_takes form size o h s pool stands.memory shows name key rec table enters.named (inl spoken)) laid)

  now_ : IsKept form size o h state pool pool
  now_ = pool_now m form o h s before after i j batch asked session stands.memory was lasts

  later : IsKept form size o (e ∷ h) state (shown after.dirty j) (shown after.dirty j)
  later = pool_later m form o h s before after i j batch asked session stands.memory was lasts (e ∷ h) kept

  -- what is read then
  pub reads : ReadsAfter form size state pool (shown after.dirty j) shows.layout shows.reading rec
      (n ∷ shows.reading rec) × KeepsBits size pool (shown after.dirty j)
  reads = pushes_are_read form one none size o h state pool (viewed before i pushes.pushes.puts.adds.given)
      (viewed before i pushes.pushes.put) (shown after.dirty j) shows.layout shows.reading table
      (lists batch.orders) (content_in batch.pages) (end_of given.gives.pointers given.gives.data_pages) grown.final
      rec n pushes.newest (link_to pushes.pushes.at v.tx) later.layout later.reading now_ shows.sound grown.grows
      (ends_there form size state pool shows.layout shows.reading shows.sound table may.stands
      given.gives.pointers given.gives.data_pages given.gives.table)
      (pushes_pages form one none m before after i j batch asked session o h t s.state rec v table was.changes
      pushes enters.active may.whose placed settled every)
      of may.no_catalog (record { spelled = codes.spelled; storable = codes.storable }) later.sound
    where
      given : PutsGiven before i fresh pushes.pushes.puts.adds.given pushes.pushes.put table.pointer.0
          (need_of pushes.bytes) pushes.pushes.at pushes.bytes pushes.pushes.pointers
      given = puts form one none m before after i j batch asked session o h t s.state rec v table was.changes
          pushes enters.active may.whose placed settled every

      grown : GrowsSome form.in_primary size table.pointer.0 (lists batch.orders) (content_in batch.pages) pool
          (end_of given.gives.pointers given.gives.data_pages) (viewed before i pushes.pushes.puts.adds.given)
      grown = some_grows form one none m before after i j batch asked session o h t s.state rec v table
          was.changes pushes enters.active may.whose placed settled every

  -- the newest version was committed
  found : FindsSettled (facts_by state pool shows.layout) shows.reading rec table
  found = settled_found form size state pool shows.layout shows.reading shows.sound rec table of pushes.newest
      pushes.head.slot (ap (left_by true) settled)

  pub push_goes_on : HasGoneOn m form size o h e new before after j asked session
  push_goes_on = go o h e s new before after i j batch asked session stands t name key row rec n
      (found.newest ∷ found.older) table lasts
      (row_changed m form o h s before after i j batch asked session stands.memory was lasts (e ∷ h) reads.1 kept)
      enters.lawful enters.passing enters.no_failure enters.follows (record {
        entry = enters.writes;
        active = enters.active;
        reads = subst (λ (es : List Entry). ReadsAfter form size state pool (shown after.dirty j) shows.layout
            shows.reading rec (n ∷ es)) found.first reads.0;
        behind = pushed found.newest found.older spoken found.first
            (was_committed (s.state (writer found.newest)) found.settled);
        of_table = of;
        named = enters.named;
        its = codes.its;
        keyed = codes.keyed;
        given = codes.given;
        next = reads.1.next ∙ shows.next;
        number = enters.number;
        other_numbers = enters.other_numbers;
        seen = enters.seen;
      })

pub pushes_go_on : (form : Form) (D L : Type 0) (m : Meaning D) → RowsAreOne form.coding
    → HasNoSequences form → OpeningsBegin → WritesGoOn D L m form → PushesGoOn form D L m
pushes_go_on form D L m one none begins go o h e s new before after i j batch asked session stands t name key
    row rec v stored table lasts was pushes enters may codes laid spoken settled =
    push_goes_on D L m form one none begins go o h e s new before after i j batch asked session stands t name key
    row rec v stored table lasts was pushes enters may codes laid spoken settled
