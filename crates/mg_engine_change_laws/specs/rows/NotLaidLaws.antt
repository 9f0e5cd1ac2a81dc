-- A version was not laid: the engine goes on with the refused event. A first batch may have been changed, which adds
-- nothing; then pages were read, or a page write failed; and what was kept of the change is taken back.
use Rattle.std.proofs.Common.{◌≡◌, ◌⊎◌, inl, inr, ℕ, List, [], ◌∷◌, ◌++◌, Option, None, Some, refl, sym, ap, ◌∙◌, subst}
use Rattle.mg_base.specs.declared.geometry.Geometry.{Geometry}
use Rattle.mg_base.specs.Disk.{Meaning}
use Rattle.mg_base.specs.Image.{Image}
use Rattle.mg_base.specs.declared.numbers.TxNo.{TxNo}
use Rattle.mg_model.specs.declared.answer.Answer.TheVariants.{No}
use Rattle.mg_model.specs.declared.opening.Opening.{Opening}
use Rattle.mg_model.specs.declared.refusal.Refusal.{Refusal}
use Rattle.mg_model.specs.declared.table.Table.{Table}
use Rattle.mg_model.specs.Changes.{KeyedRows}
use Rattle.mg_model.specs.History.{Entries, Entry, entry}
use Rattle.mg_model.specs.Laws.{OpeningsBegin}
use Rattle.mg_model.specs.Machine.{waited_on}
use Rattle.mg_engine_step_laws.specs.writes.Batches.{ReadsLast}
use Rattle.mg_engine_step_laws.specs.standing.Following.{StandsOn}
use Rattle.mg_engine_step_laws.specs.commits.Idle.{IdleGoesOn}
use Rattle.mg_engine_step_laws.specs.commits.PageWrites.{PageWritesFail}
use Rattle.mg_engine_step_laws.specs.standing.Standing.{Standing}
use Rattle.mg_engine_step_laws.specs.reads.Walking.{WalkPlace}
use Rattle.mg_engine_step_laws.specs.commits.Unasked.{UnaskingLasts}
use Rattle.mg_image.specs.Form.{packed_form}
use Rattle.mg_lasting_laws.specs.Changing.{QuietHolds}
use Rattle.mg_lasting_laws.specs.Entries.{idle_state}
use Rattle.mg_pool.specs.Batch.{Changed}
use Rattle.mg_pool.specs.Pool.{shown}
use Rattle.mg_pool.specs.declared.pool.Pool.{Pool}
use Rattle.mg_records.specs.Keeping.{WalksStay}
use Rattle.mg_records.specs.Writing.{FitsShape, event_of}
use Rattle.mg_records.specs.declared.write.Write.{Write}
use Rattle.mg_batches.specs.Batches.{FailsOwn}
use Rattle.mg_entries.specs.Entries.{LaysAll}
use Rattle.mg_image.specs.Form.{Row}
use Rattle.mg_model.specs.declared.table.Index.{Index}
use Rattle.mg_pool.specs.Pool.{IsPool}
use Rattle.mg_engine_change_laws.specs.entries.EnteredAllLaws.{no_more}
use Rattle.mg_base.specs.declared.numbers.RecId.{RecId}
use Rattle.mg_records.specs.declared.write.Write.TheVariants as writes
use Rattle.mg_row_writes.specs.Changing.{FailsFirst, FailsOver, FailsReplacing}
use Rattle.mg_row_writes.specs.Laying.{EntersRow, FailsEntering, FailsLay, FailsThen, no_first, no_place, not_cleared, not_entered, not_pushed, not_put_in}
use Rattle.mg_row_writes.specs.Storing.{written_at}
use Rattle.mg_row_writes.specs.declared.before.Way.{Way}
use Rattle.mg_row_writes.specs.declared.before.Way.TheVariants as ways
use Rattle.mg_space.specs.View.{KeepsStore}
use Rattle.mg_space.specs.ViewLaws.{CountsNow}
use Rattle.mg_space.specs.declared.fault.SpaceFault.{SpaceFault}
use Rattle.mg_space.specs.declared.links.FireLinks.{FireLinks}
use Rattle.mg_undo.specs.Undo.{RetractTakesKeepBack}
use Rattle.mg_waits.specs.Waits.{NowWaits, edges_in}
use Rattle.mg_works.specs.Works.{Working, given_to, work_of}
use Rattle.mg_core.specs.declared.parts.Core.{Core}
use Rattle.mg_core.specs.Cores.{IsCore}
use Rattle.mg_core.specs.Refusing.{CountsFault, NamesLimit}
use Rattle.mg_core.specs.Writing.{HasBegun}
use Rattle.mg_engine_meaning_laws.specs.FrameLaws.{apart_from, commits_of, keeps_of, sessions_of, tables_of}
use Rattle.mg_engine_meaning_laws.specs.Frames.{GivesEvent, MayAnswer}
use Rattle.mg_engine_meaning_laws.specs.LawfulLaws.{quiet_count, quiet_event}
use Rattle.mg_engine_meaning_laws.specs.Meaning.{AreNext, Places, means, place_at}
use Rattle.mg_engine_meaning_laws.specs.MemoryCallLaws.{idle_finds, memory_stands, nothing_follows}
use Rattle.mg_engine_meaning_laws.specs.Standings.{StandsFor, asked_kept, sessions_in, standing_of}
use Rattle.mg_engine_meaning_laws.specs.FrameLaws.{same_sessions}
use Rattle.mg_engine_meaning_laws.specs.StepLaws.{as_standing}
use Rattle.mg_engine_change_laws.specs.rows.Laid.{DeadsStay, EntriesStayOver, HasNoted, PlacesStay, ReadyStays, StaysOver}
use Rattle.mg_engine_change_laws.specs.rows.MadeLaws.{StoreOn, all_on, on_then, own_on, read_on, row_on, stays_on}
use Rattle.mg_engine_change_laws.specs.memory.Notes.{AreCounts, HasRead}
use Rattle.mg_engine_change_laws.specs.rows.RefusalLaws.{begun_read, free_read, passing_event, whose_event}
use Rattle.mg_engine_change_laws.specs.rows.Refusals.{IsNotLaid}
use Rattle.mg_engine_change_laws.specs.rows.StopLaws.{fault_outer, fault_waits, reads_on, risen}
use Rattle.mg_engine_change_laws.specs.memory.Retracted.{works_retracted}
use Rattle.mg_engine_change_laws.specs.memory.RetractedLaws.{retracted_frame, retracted_given, retracted_stands}
use Rattle.mg_engine_change_laws.specs.memory.StageLaws.{fails_so, fault_may, left_geometry, over_so, own_left, own_tells, reads_so, so_then}
use Rattle.mg_engine_change_laws.specs.memory.Stages.{FailsReady, StaysSo, TellsOf}

-- A store to which a call came without adding anything, and then a batch of its own failed.
record FailsFrom {D P : Type 0} (m : Meaning D) (places : Places P) (old : Core D) (after : Pool D FireLinks) (t : ℕ)
    (fault : SpaceFault) : Type 0 where
  before : Pool D FireLinks
  so : StaysSo m places old (record old { store = before }) t
  up : before.offline ≡ None
  left : KeepsStore m before after ⊎ FailsReady m before after fault
  told : TellsOf m before after fault

module _ (retract : RetractTakesKeepBack) {D P : Type 0} (m : Meaning D) (places : Places P)
    (counts_now : CountsNow m) (ready_stays : ReadyStays D P m) (entries_stay : EntriesStayOver D P m) (places_stay : PlacesStay D P m) (deads_stay : DeadsStay D P m)
    (unask : UnaskingLasts packed_form D FireLinks m) (idle_goes : IdleGoesOn D FireLinks m packed_form)
    (on : StandsOn packed_form) (quiet : QuietHolds packed_form) (begin : OpeningsBegin)
    (last : ReadsLast D FireLinks m packed_form) (failing : PageWritesFail D FireLinks m packed_form)
    (old new : Core D) (core : IsCore m old) (counted : AreCounts old) (t : TxNo) (table : Table) (write : Write)
    (given : given_to old.works t.0 table.name ≡ Some table) (kept : HasNoted old.works t.0 table)
    (fits : FitsShape table.shape write) (refusal : Refusal)
    (failed : IsNotLaid m old new t table write refusal) where
  begun : HasBegun old failed.ready.is_free.has_found.has_passed.begun t failed.ready.wait
  begun = failed.ready.is_free.has_found.has_passed.has_begun

  begun_since : HasRead m old failed.ready.is_free.has_found.has_passed.begun t.0
  begun_since = begun_read m counts_now old core t table write failed.ready.is_free.has_found.has_passed.begun
      failed.ready.wait begun

  since : HasRead m old failed.read t.0
  since = reads_on m counts_now old failed.ready.free failed.read t.0
      (free_read m counts_now old core t table write failed.ready.free failed.ready.wait failed.ready.rec
      failed.ready.is_free) failed.ready.has.reads

  online : old.store.offline ≡ None
  online = begun.continues.0

  work_is : work_of old.works t.0 ≡ Some begun.may.work
  work_is = sym (ap (λ (c : Core D). work_of c.works t.0) begun_since.same) ∙ begun.may.its

  -- ---- how the store came to be so

  read_so : StaysSo m places old (record old { store = failed.read.store }) t.0
  read_so = reads_so m places begin last old failed.read.store old.damage old.shortages t.0 since.keeps

  read_up : failed.read.store.offline ≡ None
  read_up = since.keeps.offline ∙ online

  -- the batch failed where pages were only read before
  at_once : (fills : Image → Changed → Type 0) (refuses : Image → SpaceFault → Type 0)
      → FailsOwn m failed.read.store new.store fills refuses failed.fails.fault
      → FailsFrom m places old new.store t.0 failed.fails.fault
  at_once fills refuses own = record {
    before = failed.read.store;
    so = read_so;
    up = read_up;
    left = own_left m failed.read.store new.store fills refuses failed.fails.fault own;
    told = own_tells m failed.read.store new.store fills refuses failed.fails.fault own;
  }

  -- or where a first batch had been changed
  at_second : (first : Pool D FireLinks) → StoreOn m failed.read.store first
      → ((o : Opening) (h : Entries) → StandsFor m old o h → StaysOver m old first o h t.0)
      → (fills : Image → Changed → Type 0) (refuses : Image → SpaceFault → Type 0)
      → FailsOwn m first new.store fills refuses failed.fails.fault
      → FailsFrom m places old new.store t.0 failed.fails.fault
  at_second first goes over fills refuses own = record {
    before = first;
    so = over_so m places old first t.0 online (on_then m old.store failed.read.store first
        (read_on m old.store failed.read.store since.keeps read_up) goes) over;
    up = goes.online;
    left = own_left m first new.store fills refuses failed.fails.fault own;
    told = own_tells m first new.store fills refuses failed.fails.fault own;
  }

  -- some entries had been laid: so they stay
  entered_over : (first b : Pool D FireLinks) → IsPool m first → first.offline ≡ None
      → first.geometry ≡ old.store.geometry
      → ((o : Opening) (h : Entries) → StandsFor m old o h → StaysOver m old first o h t.0)
      → (indexes later : List Index) → table.indexes ≡ indexes ++ later → (rec : RecId) (row : Row)
      → LaysAll m indexes rec row first b → (o : Opening) (h : Entries) → StandsFor m old o h
      → StaysOver m old b o h t.0
  entered_over first b pool up geometry over indexes later parts rec row laid o h stands = entries_stay places old
      failed.read t table write failed.before failed.version first b indexes later rec row o h core given kept fits
      failed.ready stands (over o h stands) pool up geometry parts laid

  row_over : (first b : Pool D FireLinks) → IsPool m first → first.offline ≡ None
      → first.geometry ≡ old.store.geometry
      → ((o : Opening) (h : Entries) → StandsFor m old o h → StaysOver m old first o h t.0) → (rec : RecId) (w : Write)
      → EntersRow m first b table rec w → (o : Opening) (h : Entries) → StandsFor m old o h
      → StaysOver m old b o h t.0
  row_over first b pool up geometry over rec (writes.Insert row) laid o h stands = entered_over first b pool up geometry
      over table.indexes [] (sym (no_more table.indexes)) rec row laid o h stands
  row_over first b pool up geometry over rec (writes.Change key row) laid o h stands = entered_over first b pool up geometry
      over table.indexes [] (sym (no_more table.indexes)) rec row laid o h stands
  row_over first b pool up geometry over rec (writes.Erase key) same o h stands =
      subst (λ (s : Pool D FireLinks). StaysOver m old s o h t.0) (sym same) (over o h stands)

  -- and the next one is not laid
  entry_fails : (first : Pool D FireLinks) → StoreOn m failed.read.store first → IsPool m first
      → first.geometry ≡ old.store.geometry
      → ((o : Opening) (h : Entries) → StandsFor m old o h → StaysOver m old first o h t.0) → (rec : RecId) (w : Write)
      → FailsEntering m first new.store table rec w failed.fails.fault
      → FailsFrom m places old new.store t.0 failed.fails.fault
  entry_fails first goes pool geometry over rec (writes.Insert row) own = at_second own.mid
      (on_then m failed.read.store first own.mid goes (all_on m own.first rec row first own.mid goes.online own.laid))
      (entered_over first own.mid pool goes.online geometry over own.first (own.index ∷ own.later) own.parts rec row
      own.laid) _ _ own.refused
  entry_fails first goes pool geometry over rec (writes.Change key row) own = at_second own.mid
      (on_then m failed.read.store first own.mid goes (all_on m own.first rec row first own.mid goes.online own.laid))
      (entered_over first own.mid pool goes.online geometry over own.first (own.index ∷ own.later) own.parts rec row
      own.laid) _ _ own.refused
  entry_fails first goes pool geometry over rec (writes.Erase key) own = absurd own

  -- or all of them, and the version is not
  from_then : (first : Pool D FireLinks) → StoreOn m failed.read.store first → IsPool m first
      → first.geometry ≡ old.store.geometry
      → ((o : Opening) (h : Entries) → StandsFor m old o h → StaysOver m old first o h t.0) → (rec : RecId)
      (fails : Pool D FireLinks → SpaceFault → Type 0)
      → ((e : Pool D FireLinks) → StoreOn m failed.read.store e
      → ((o : Opening) (h : Entries) → StandsFor m old o h → StaysOver m old e o h t.0)
      → fails e failed.fails.fault → FailsFrom m places old new.store t.0 failed.fails.fault)
      → FailsThen m first new.store table rec write fails failed.fails.fault
      → FailsFrom m places old new.store t.0 failed.fails.fault
  from_then first goes pool geometry over rec fails each (not_entered own) =
      entry_fails first goes pool geometry over rec write own
  from_then first goes pool geometry over rec fails each (not_put_in entered enters own) = each entered
      (on_then m failed.read.store first entered goes (row_on m first entered table rec write goes.online enters))
      (row_over first entered pool goes.online geometry over rec write enters) own

  read_goes : StoreOn m failed.read.store failed.read.store
  read_goes = stays_on m failed.read.store read_up

  read_over : (o : Opening) (h : Entries) → StandsFor m old o h → StaysOver m old failed.read.store o h t.0
  read_over o h stands = ready_stays places old failed.read t table write failed.before failed.version o h core given
      kept fits failed.ready stands

  from_way : (way : Way) → failed.before.way ≡ way
      → FailsLay m failed.read.store new.store table way write failed.version failed.fails.fault
      → FailsFrom m places old new.store t.0 failed.fails.fault
  from_way ways.Make is (no_place own) = at_once _ _ own
  from_way ways.Make is (no_first at placed takes own) = from_then placed
      (own_on m failed.read.store placed _ takes) takes.changed.pool
      (takes.changed.geometry ∙ (takes.keeps.geometry ∙ since.keeps.geometry))
      (λ o h stands. places_stay places old failed.read t table write failed.before failed.version placed at o h core
      given kept fits failed.ready is takes stands) at
      (λ e given_. FailsFirst m e new.store table.pointer.0 at failed.version given_)
      (λ e on_ over first_. at_second e on_ over _ _ first_) own
  from_way (ways.Push rec) is own = from_then failed.read.store read_goes since.keeps.pool
      since.keeps.geometry read_over rec
      (λ e given_. FailsOver m e new.store rec failed.version given_)
      (λ e on_ over push. at_second e on_ over _ _ push) own
  from_way (ways.PushOverDead rec) is (not_cleared own) = at_once _ _ own
  from_way (ways.PushOverDead rec) is (not_pushed cleared takes own) = from_then cleared
      (own_on m failed.read.store cleared _ takes) takes.changed.pool
      (takes.changed.geometry ∙ (takes.keeps.geometry ∙ since.keeps.geometry))
      (λ o h stands. deads_stay places old failed.read t table write failed.before failed.version cleared rec o h core
      given kept fits failed.ready is takes stands) rec
      (λ e given_. FailsOver m e new.store rec failed.version given_)
      (λ e on_ over push. at_second e on_ over _ _ push) own
  from_way (ways.Replace rec) is own = from_then failed.read.store read_goes since.keeps.pool
      since.keeps.geometry read_over rec
      (λ e given_. FailsReplacing m e new.store rec failed.version given_)
      (λ e on_ over own_. at_second e on_ over _ _ own_) own

  from : FailsFrom m places old new.store t.0 failed.fails.fault
  from = from_way failed.before.way refl failed.fails.fails

  -- ---- the store, and counts

  abbrev mid : Core D
  mid = record old { store = new.store; damage = new.damage; shortages = new.shortages }

  mid_so : StaysSo m places old (record old {
    store = new.store;
    damage = new.damage;
    shortages = new.shortages;
  }) t.0
  mid_so = at from.left from.told
    where
      at : KeepsStore m from.before new.store ⊎ FailsReady m from.before new.store failed.fails.fault
          → TellsOf m from.before new.store failed.fails.fault → StaysSo m places old mid t.0
      at (inl keeps) told = so_then m places old (record old { store = from.before }) mid t.0 from.so
          (reads_so m places begin last (record old { store = from.before }) new.store new.damage new.shortages t.0
          keeps)
      at (inr fails) told = so_then m places old (record old {
        store = fails.ready;
        damage = new.damage;
        shortages = new.shortages;
      }) mid t.0
          (so_then m places old (record old { store = from.before }) (record old {
            store = fails.ready;
            damage = new.damage;
            shortages = new.shortages;
          }) t.0 from.so (reads_so m places begin last (record old { store = from.before }) fails.ready new.damage
          new.shortages t.0 fails.keeps))
          (fails_so m places failing (record old {
            store = fails.ready;
            damage = new.damage;
            shortages = new.shortages;
          }) new.store fails.count t.0 (fails.keeps.offline ∙ from.up)
          (subst (TellsOf m from.before new.store) fails.is told).0 fails.fails)

  counts : CountsFault failed.fails.fault old.damage new.damage old.shortages new.shortages
  counts = subst (λ (n : ℕ). CountsFault failed.fails.fault n new.damage old.shortages new.shortages)
      (ap (λ (c : Core D). c.damage) since.same)
      (subst (λ (n : ℕ). CountsFault failed.fails.fault failed.read.damage new.damage n new.shortages)
      (ap (λ (c : Core D). c.shortages) since.same) failed.fails.counts)

  may : MayAnswer m places old new (Some refusal)
  may = fault_may m places old new from.before failed.fails.fault refusal online from.up
      (from.so.goes.time.never_falls, from.so.goes.time.failed_writes) failed.fails.is (subst (λ (g : Geometry). NamesLimit g.limit refusal)
      (left_geometry m from.before new.store failed.fails.fault from.left ∙ from.so.goes.geometry) failed.fails.names)
      from.told counts

  -- ---- memory

  abbrev e : Entry
  e = entry (event_of t table.name write) (No refusal)

  abbrev works_now : List Working
  works_now = works_retracted t.0 table.pointer.0 (written_at table write) failed.before.was old.works

  abbrev waited : Core D
  waited = record old {
    store = new.store;
    waits = failed.read.waits;
    damage = new.damage;
    shortages = new.shortages;
  }

  new_is : new ≡ record old {
    store = new.store;
    waits = failed.read.waits;
    works = works_now;
    damage = new.damage;
    shortages = new.shortages;
  }
  new_is = failed.fails.same ∙ ap (λ (c : Core D). record c {
    store = new.store;
    works = works_retracted t.0 table.pointer.0 (written_at table write) failed.before.was c.works;
    damage = new.damage;
    shortages = new.shortages;
  }) since.same

  pub not_laid_works : new.works
      ≡ works_retracted t.0 table.pointer.0 (written_at table write) failed.before.was old.works
  not_laid_works = ap (λ (c : Core D). c.works) new_is

  noted : NowWaits (edges_in old.waits) (edges_in failed.read.waits) t.0 (waited_on (No refusal))
  noted = subst (λ (who : Option ℕ). NowWaits (edges_in old.waits) (edges_in failed.read.waits) t.0 who)
      (sym (fault_waits failed.fails.fault refusal failed.fails.is)) since.over

  module _ (o : Opening) (h : Entries) (stands : StandsFor m old o h) where
    mid_stands : StandsFor m (record old {
      store = new.store;
      damage = new.damage;
      shortages = new.shortages;
    }) o h
    mid_stands = mid_so.stands o h stands

    waited_stands : StandsFor m (record old {
      store = new.store;
      waits = failed.read.waits;
      damage = new.damage;
      shortages = new.shortages;
    }) o (entry (event_of t table.name write) (No refusal) ∷ h)
    waited_stands = memory_stands m places mid failed.read.waits old.works old.live idle_goes on quiet refl refl o h e
        mid_stands mid_stands.tables mid_stands.given mid_stands.kept mid_stands.bases
        (inr (fault_outer failed.fails.fault refusal failed.fails.is))
        (quiet_count e (passing_event t table.name write)) (quiet_event e (passing_event t table.name write)) refl
        (nothing_follows mid failed.read.waits o h e t.0 refl (whose_event t table.name write) noted
        mid_stands.numbers mid_stands.tables)
        (λ shows. idle_finds new.store.geometry.size o h e (standing_of mid mid_stands.numbers mid_stands.tables)
        (standing_of waited mid_stands.numbers mid_stands.tables) (shown new.store.dirty shows.image) refl (λ u. refl)
        (λ u. refl) (λ u name. refl))

    new_stands : StandsFor m (record old {
      store = new.store;
      waits = failed.read.waits;
      works = works_now;
      damage = new.damage;
      shortages = new.shortages;
    }) o (entry (event_of t table.name write) (No refusal) ∷ h)
    new_stands = retracted_stands retract m unask waited t.0 table.pointer.0 (written_at table write)
        failed.before.was begun.may.work work_is begun.continues.1 o (e ∷ h) waited_stands

  abbrev now : Core D
  now = record old {
    store = new.store;
    waits = failed.read.waits;
    works = works_now;
    damage = new.damage;
    shortages = new.shortages;
  }

  next_on : (s s_now : Standing) (u : ℕ) (its : Table) (after : Option WalkPlace) (rows : KeyedRows) (off : Option ℕ)
      → s.state ≡ s_now.state → s.live ≡ s_now.live → AreNext m mid s u its after rows off
      → AreNext m now s_now u its after rows off
  next_on s s_now u its after rows None state bases (i, held, next) =
      (i, held, as_standing new.store.geometry.size s s_now (shown new.store.dirty i) u its after rows state bases next)
  next_on s s_now u its after rows (Some count) state bases next = tt

  now_walks : WalksStay (means m places) old now (Some t.0)
  now_walks u its after rows not_ was =
      let comes = mid_so.walks u its after rows not_ was in
      let stands_now : StandsFor m now was.opening (e ∷ was.entries) = new_stands was.opening was.entries was.stands in
      record {
        opening = was.opening;
        entries = e ∷ was.entries;
        stands = stands_now;
        active = idle_state was.opening was.entries e refl u ∙ was.active;
        seen = retracted_given t.0 table.pointer.0 (written_at table write) failed.before.was old.works u its.name
            ∙ was.seen;
        next = next_on (standing_of mid comes.stands.numbers comes.stands.tables)
            (standing_of now stands_now.numbers stands_now.tables) u its (place_at places after) rows new.store.offline
            refl refl comes.next;
      }

  -- ---- the event

  abbrev Gives : Core D → Type 0
  Gives c = GivesEvent m places old c (event_of t table.name write) (No refusal) (Some refusal) None (Some t.0) None
      None

  now_gives : Gives now
  now_gives = record {
    adds = λ o h stands. (inr (fault_outer failed.fails.fault refusal failed.fails.is), new_stands o h stands);
    leaves = record {
      keeps = keeps_of m places old now (Some refusal) mid_so.goes
          (risen failed.fails.fault old.damage new.damage old.shortages new.shortages counted.damage counted.shortages
          counts).0
          (risen failed.fails.fault old.damage new.damage old.shortages new.shortages counted.damage counted.shortages
          counts).1
          (subst (λ (c : Core D). MayAnswer m places old c (Some refusal)) new_is may);
      tables_stay = tables_of m places old now None (λ u name not_. retracted_given t.0 table.pointer.0
          (written_at table write) failed.before.was old.works u name);
      walks_stay = now_walks;
      commits = commits_of m places old now (Some t.0)
          (λ u not_. ap asked_kept ((retracted_frame t.0 table.pointer.0 (written_at table write) failed.before.was
          old.works).others u (apart_from u t.0 not_)))
          (λ u not_. ap (λ (f : ℕ → ℕ). f u) (same_sessions old.works works_now t.0 (retracted_frame t.0
          table.pointer.0 (written_at table write) failed.before.was old.works)))
          (λ u page not_ was none. mid_so.unmarked page (sessions_in old.works u) none);
    };
    crash = λ o h stands told. let left = mid_so.quiet o h stands told in
        record { each = left.each; before = left.before };
    sessions = sessions_of m places old now t.0
        (retracted_frame t.0 table.pointer.0 (written_at table write) failed.before.was old.works);
  }

  pub not_laid_gives : GivesEvent m places old new (event_of t table.name write) (No refusal) (Some refusal) None
      (Some t.0) None None
  not_laid_gives = subst Gives (sym new_is) now_gives
