-- A record's first version takes the engine on to the longer history.
use Rattle.mg_base.specs.Disk.{Meaning}
use Rattle.mg_base.specs.Image.{Image}
use Rattle.mg_base.specs.declared.numbers.RecId.{RecId}
use Rattle.mg_base.specs.declared.transaction.TxState.{TxState}
use Rattle.mg_chain.specs.Writing.{MakesRecord, leading_to, link_to}
use Rattle.mg_tie_laws.specs.FirstPages.{MakesPages}
use Rattle.mg_tie_laws.specs.FirstTies.{first_row, pages}
use Rattle.mg_tie_laws.specs.PushTies.{written}
use Rattle.mg_tie_laws.specs.Rows.{ForEach}
use Rattle.mg_engine_step_laws.specs.writes.GoesOn.{HasGoneOn, WritesGoOn}
use Rattle.mg_engine_step_laws.specs.writes.GoesOnLaws.{firsts_are_read}
use Rattle.mg_engine_step_laws.specs.writes.Writes.{IsSilentAt, ReadsAfter, made}
use Rattle.mg_engine_step_laws.specs.writes.Caches.{kept_now, pool_later, pool_now, row_changed}
use Rattle.mg_engine_step_laws.specs.writes.Knowing.{CodesRow, EntersWrite, HasEntries, MayWriteInto, WasChanged}
use Rattle.mg_engine_step_laws.specs.writes.Rows.{FirstsGoOn}
use Rattle.mg_engine_step_laws.specs.writes.Spoken.{was_drawn}
use Rattle.mg_engine_step_laws.specs.reads.TakenKeys.{none_takes}
use Rattle.mg_engine_step_laws.specs.writes.WriteKnown.{brings, may_be, placed_each, writes_row}
use Rattle.mg_image_overlay_laws.specs.tables.Growing.{IsTableOf, MayBeWritten}
use Rattle.mg_tie_laws.specs.RoomTies.{end_of, ends_there}
use Rattle.mg_image.specs.Form.{Form, Pages, Row}
use Rattle.mg_image.specs.Inventory.{next_of}
use Rattle.mg_image.specs.ReadingLaws.{RowsAreOne}
use Rattle.mg_image.specs.Records.{cells_of, key_of}
use Rattle.mg_image.specs.Sound.{facts_by}
use Rattle.mg_image.specs.Tables.{stands_of, table_at}
use Rattle.mg_image.specs.declared.entry.Entry.{Entry}
use Rattle.mg_image_overlay_laws.specs.pages.Kinds.{HasNoSequences}
use Rattle.mg_image_overlay_laws.specs.kept.KeptImages.{IsKept}
use Rattle.mg_lasting_laws.specs.Lasting.{LastsOn}
use Rattle.mg_model.specs.Changes.{Cells}
use Rattle.mg_model.specs.History.{Entries, Entry as Event}
use Rattle.mg_model.specs.Laws.{OpeningsBegin}
use Rattle.mg_model.specs.Openings.{everyone}
use Rattle.mg_model.specs.declared.opening.Opening.{Opening}
use Rattle.mg_model.specs.declared.table.Table.{Table}
use Rattle.mg_overlay_laws.specs.Overlays.{left_state}
use Rattle.mg_pool.specs.Batch.{Changed, content_in, lists}
use Rattle.mg_pool.specs.Pool.{shown}
use Rattle.mg_pool.specs.declared.pool.Pool.{Pool}
use Rattle.mg_pool_overlay_laws.specs.Needs.{Asked, Sessions}
use Rattle.mg_image_overlay_laws.specs.records.AddPart.{AddsPages}
use Rattle.mg_space.specs.View.{viewed}
use Rattle.mg_tie_laws.specs.Changed.{KeptIn, changed_fresh, fresh}
use Rattle.mg_engine_step_laws.specs.standing.Standing.{ShowsHistory, Standing, Stands}
use Rattle.mg_image_overlay_laws.specs.pages.DataKept.{KeepsBits}
use Rattle.mg_value.specs.declared.value.Value.{Value}
use Rattle.mg_version.specs.declared.cell.Version.{Version}
use Rattle.std.proofs.Common.{List, None, Option, Some, [], inr, subst, sym, ℕ, ◌<◌, ◌∙◌, ◌∷◌, ◌≡◌}

module _ (D L : Type 0) (m : Meaning D) (form : Form) (one : RowsAreOne form.coding)
    (none : HasNoSequences form) (begins : OpeningsBegin) (go : WritesGoOn D L m form) (o : Opening)
    (h : Entries) (e : Event) (s new : Standing) (before after : Pool D L) (i j : Image) (batch : Changed)
    (asked : Asked) (session : Sessions)
    (stands : Stands form before.geometry.size o h s (Some (shown before.dirty i))) (t : ℕ)
    (name : List ℕ) (key : Value) (row : Option Cells) (rec : RecId) (v : Version) (stored : Row)
    (table : Table) (lasts : LastsOn m form o h before asked session)
    (was : WasChanged m before after i j batch) (makes : MakesRecord before i fresh batch table.pointer.0 rec v)
    (enters : EntersWrite o h e s new asked t name key row table)
    (may : MayWriteInto form before.geometry.size s.state (shown before.dirty i) stands.shows.layout
    stands.shows.reading t table)
    (codes : CodesRow form.coding table v stored t key row)
    (laid : HasEntries (shown before.dirty i) table rec v stored)
    (silent : IsSilentAt form before.geometry.size o h s (shown before.dirty i) stands.shows name key)
    (of : table_at (stands_of stands.shows.layout) rec.page.0 ≡ Some table)
    (blank : cells_of (shown before.dirty i) rec ≡ None) where
  abbrev size : ℕ
  size = before.geometry.size

  abbrev pool : Pages
  pool = shown before.dirty i

  abbrev state : ℕ → TxState
  state = left_state everyone s.state

  abbrev shows : ShowsHistory form size o h s pool
  shows = stands.shows

  number : t < next_of pool
  number = was_drawn form size o h s pool (begins o stands.opening) stands.legal stands.memory shows t enters.active

  abbrev n : Entry
  n = written makes.makes.at v None stored

  placed : ForEach form size s.state pool
      (λ st layout r. IsTableOf layout table → table_at (stands_of layout) rec.page.0 ≡ Some table)
  placed = placed_each form one size o h e s.state pool shows.layout shows.reading shows.sound t
      name key row table v stored enters.writes enters.active number enters.named may codes rec of

  every : KeptIn form size o h s.state asked session before i
  every = kept_now m form o h s before after i j batch asked session stands.memory was lasts

  now_ : IsKept form size o h state pool pool
  now_ = pool_now m form o h s before after i j batch asked session stands.memory was lasts

  may_now : ForEach form size s.state pool (λ st layout r. IsTableOf layout table
      → MayBeWritten form.coding (facts_by st pool layout) table (key_of table stored) n)
  may_now chosen layout r sound its = may_be form one size o h e s.state pool shows.layout shows.reading shows.sound t
      name key row table v stored enters.writes enters.active number enters.named may codes (left_state chosen s.state) layout
      (key_of table stored) codes.keyed makes.makes.at None

  pub kept : KeptIn form size o (e ∷ h) s.state asked session after j
  kept = first_row form one none m before after i j batch asked session o h t s.state rec v stored table
      was.changes makes enters.active may.whose placed blank may_now every e codes.its enters.not_asked
      (brings form one size o h e s.state pool shows.layout shows.reading shows.sound t
      name key row table v stored enters.writes enters.active number enters.named may codes)
      (λ chosen is its. writes_row form one size o h e s.state pool shows.layout shows.reading shows.sound t
      name key row table v stored enters.writes enters.active number enters.named may codes chosen is its rec makes.makes.at None (none_takes form size o h s pool stands.memory shows name key rec table enters.named (inr silent)) laid)

  later : IsKept form size o (e ∷ h) state (shown after.dirty j) (shown after.dirty j)
  later = pool_later m form o h s before after i j batch asked session stands.memory was lasts (e ∷ h) kept

  -- what is read then
  pub reads : ReadsAfter form size state pool (shown after.dirty j) shows.layout shows.reading rec (n ∷ [])
      × KeepsBits size pool (shown after.dirty j) × (shows.reading rec ≡ [])
  reads = firsts_are_read form one none size o h state pool (viewed before i makes.makes.adds.given)
      (viewed before i makes.makes.put) (shown after.dirty j) shows.layout shows.reading table
      (lists batch.orders) (content_in batch.pages)
      (end_of makes.makes.adds.gives.pointers makes.makes.adds.gives.data_pages) made.final rec n
      (link_to makes.makes.at v.tx) later.layout later.reading now_ shows.sound made.grows
      (ends_there form size state pool shows.layout shows.reading shows.sound table may.stands
      makes.makes.adds.gives.pointers makes.makes.adds.gives.data_pages makes.makes.adds.gives.table)
      (subst (λ (last : Pages). AddsPages form.in_primary (viewed before i makes.makes.adds.given)
      (viewed before i makes.makes.put) last makes.makes.at rec (leading_to v None)
      (link_to makes.makes.at v.tx)) (sym (changed_fresh m before after i j batch asked session was.changes).pool)
      made.adds)
      of may.no_catalog (record { spelled = codes.spelled; storable = codes.storable }) later.sound
    where
      made : MakesPages form before i fresh batch rec v table (content_in batch.pages) (lists batch.orders) makes
      made = pages form one none m before after i j batch asked session o h t s.state rec v stored table
          was.changes makes enters.active may.whose placed blank may_now every

  pub first_goes_on : HasGoneOn m form size o h e new before after j asked session
  first_goes_on = go o h e s new before after i j batch asked session stands t name key row rec n [] table lasts
      (row_changed m form o h s before after i j batch asked session stands.memory was lasts (e ∷ h) reads.1
      kept)
      enters.lawful enters.passing enters.no_failure enters.follows (record {
        entry = enters.writes;
        active = enters.active;
        reads = reads.0;
        behind = made silent reads.2;
        of_table = of;
        named = enters.named;
        its = codes.its;
        keyed = codes.keyed;
        given = codes.given;
        next = reads.1.next ∙ shows.next;
        number = enters.number;
        other_numbers = enters.other_numbers;
        seen = enters.seen;
      })

pub firsts_go_on : (form : Form) (D L : Type 0) (m : Meaning D) → RowsAreOne form.coding
    → HasNoSequences form → OpeningsBegin → WritesGoOn D L m form → FirstsGoOn form D L m
firsts_go_on form D L m one none begins go o h e s new before after i j batch asked session stands t name key
    row rec v stored table lasts was makes enters may codes laid silent of blank =
    first_goes_on D L m form one none begins go o h e s new before after i j batch asked session stands t name
    key row rec v stored table lasts was makes enters may codes laid silent of blank
