-- A write of a row that is made gives its event: what it leaves of the store and of memory.
use Rattle.std.proofs.Common.{◌≡◌, ℕ, false, List, Option, None, Some, refl, sym, ap, ◌∙◌, subst, arith, ◌≢◌, ◌∷◌}
use Rattle.mg_base.specs.Disk.{Meaning}
use Rattle.mg_base.specs.Image.{Image}
use Rattle.mg_base.specs.declared.numbers.RecId.{RecId}
use Rattle.mg_base.specs.declared.numbers.TxNo.{TxNo}
use Rattle.mg_base.specs.declared.transaction.TxState.TheVariants.{Active}
use Rattle.mg_value.specs.declared.value.Value.{Value}
use Rattle.mg_model.specs.declared.answer.Answer.TheVariants.{Fine}
use Rattle.mg_model.specs.declared.opening.Opening.{Opening}
use Rattle.mg_model.specs.declared.table.Table.{Table}
use Rattle.mg_model.specs.History.{Entries}
use Rattle.mg_pool.specs.Batch.{Changed}
use Rattle.mg_pool.specs.Dirty.{DirtyPages, is_marked}
use Rattle.mg_pool.specs.Run.{TimeGoesOn}
use Rattle.mg_pool.specs.declared.pool.Pool.{Pool}
use Rattle.mg_records.specs.Keeping.{WalksStay}
use Rattle.mg_records.specs.Writing.{event_of}
use Rattle.mg_records.specs.declared.write.Write.{Write}
use Rattle.mg_batches.specs.Batches.{ChangesOwn}
use Rattle.mg_entries.specs.Entries.{LaysAll, no_index, one_more}
use Rattle.mg_image.specs.Form.{Row}
use Rattle.mg_model.specs.declared.table.Index.{Index}
use Rattle.mg_records.specs.declared.write.Write.TheVariants as writes
use Rattle.mg_row_writes.specs.Changing.{MakesFirst, PushesOver, ReplacesNewest}
use Rattle.mg_row_writes.specs.Laying.{EntersRow, EntersThen, Lays}
use Rattle.mg_row_writes.specs.Storing.{written_at}
use Rattle.mg_row_writes.specs.declared.before.Way.{Way}
use Rattle.mg_row_writes.specs.declared.before.Way.TheVariants as ways
use Rattle.mg_space.specs.View.{KeepsStore}
use Rattle.mg_space.specs.ViewLaws.{CountsNow}
use Rattle.mg_space.specs.declared.links.FireLinks.{FireLinks}
use Rattle.mg_undo.specs.declared.changes.Was.{Was}
use Rattle.mg_version.specs.declared.cell.Version.{Version}
use Rattle.mg_works.specs.Works.{Working, given_by, given_to, unasked, with_change, with_work}
use Rattle.mg_core.specs.declared.parts.Core.{Core}
use Rattle.mg_core.specs.Putting.{works_kept}
use Rattle.mg_core.specs.Writing.{Writes}
use Rattle.mg_engine_meaning_laws.specs.FrameLaws.{apart_from, commits_of, keeps_of, kept_all, kept_with, quiet_of, sessions_of, store_stands, tables_of, works_with}
use Rattle.mg_engine_meaning_laws.specs.Frames.{GivesEvent, StoreGoesOn, WorksStay}
use Rattle.mg_engine_meaning_laws.specs.Meaning.{Places, means, AreNext, place_at}
use Rattle.mg_engine_meaning_laws.specs.Standings.{StandsFor, asked_kept, session_kept, sessions_in, Numbers, Tables, standing_of}
use Rattle.mg_engine_meaning_laws.specs.ReadLaws.{reads_go}
use Rattle.mg_engine_meaning_laws.specs.StepLaws.{as_standing, run_goes, time_then, unmarked_run}
use Rattle.mg_engine_step_laws.specs.reads.Walking.{AreToCome, WalkPlace}
use Rattle.mg_model.specs.Changes.{KeyedRows}
use Rattle.mg_pool.specs.Pool.{shown}
use Rattle.mg_txlist.specs.TxList.{said}
use Rattle.mg_txlist.specs.declared.list.TxList.{TxList}
use Rattle.mg_engine_meaning_laws.specs.LawfulLaws.{memory_of}
use Rattle.mg_engine_change_laws.specs.rows.Kept.{made_by}
use Rattle.mg_engine_change_laws.specs.rows.Laid.{GoesOnWith, NewRowsGoOn, OverDeadRowsGoOn, PushedRowsGoOn, ReplacedRowsGoOn, bare_standing}
use Rattle.mg_engine_change_laws.specs.rows.Made.{MadeRowsGive}
use Rattle.mg_engine_change_laws.specs.memory.Notes.{HasRead}
use Rattle.mg_engine_change_laws.specs.rows.RefusalLaws.{free_read}
use Rattle.mg_engine_change_laws.specs.rows.StopLaws.{reads_on}

-- ---- the store

-- A store has gone on, no page write has failed, and what was not marked is not.
pub record StoreOn {D : Type 0} (m : Meaning D) (before after : Pool D FireLinks) : Type 0 where
  pub goes : StoreGoesOn m before after
  pub online : after.offline ≡ None
  pub unmarked : (page who : ℕ) → is_marked before.dirty page who ≡ false → is_marked after.dirty page who ≡ false

goes_then : {D : Type 0} (m : Meaning D) (a b c : Pool D FireLinks) → StoreGoesOn m a b → StoreGoesOn m b c
    → StoreGoesOn m a c
goes_then m a b c first next = record {
  time = time_then m a.disk b.disk c.disk first.time next.time;
  geometry = next.geometry ∙ first.geometry;
  size = next.size ∙ first.size;
}

pub on_then : {D : Type 0} (m : Meaning D) (a b c : Pool D FireLinks) → StoreOn m a b → StoreOn m b c → StoreOn m a c
on_then m a b c first next = record {
  goes = goes_then m a b c first.goes next.goes;
  online = next.online;
  unmarked = λ page who none. next.unmarked page who (first.unmarked page who none);
}

pub read_on : {D : Type 0} (m : Meaning D) (a b : Pool D FireLinks) → KeepsStore m a b → b.offline ≡ None → StoreOn m a b
read_on m a b keeps online = record {
  goes = reads_go m a b keeps;
  online = online;
  unmarked = λ page who none. ap (λ (d : DirtyPages). is_marked d page who) keeps.dirty ∙ none;
}

-- a batch of its own
pub own_on : {D : Type 0} (m : Meaning D) (a b : Pool D FireLinks) (fills : Image → Changed → Type 0)
    → ChangesOwn m a b fills → StoreOn m a b
own_on {D} m a b fills own = record {
  goes = goes_then m a own.ready b (reads_go m a own.ready own.keeps)
      (goes_then m own.ready own.changed.changes.ready b
      (run_goes m own.ready own.changed.changes.ready own.changed.changes.written) (record {
        time = subst (λ (d : D). TimeGoesOn m own.changed.changes.ready.disk d)
            (sym (own.changed.changes.enters.disk ∙ own.changed.changes.puts.disk))
            (store_stands m own.changed.changes.ready).time;
        geometry = own.changed.changes.enters.geometry ∙ own.changed.changes.puts.geometry;
        size = ap (λ (d : DirtyPages). d.size) own.changed.changes.enters.dirty ∙ own.changed.changes.puts.size;
      }));
  online = own.changed.online.1;
  unmarked = λ page who none. ap (λ (d : DirtyPages). is_marked d page who) own.changed.changes.enters.dirty
      ∙ (own.changed.changes.puts.marks page who ∙ unmarked_run m own.ready own.changed.changes.ready page who
      own.changed.changes.written (ap (λ (d : DirtyPages). is_marked d page who) own.keeps.dirty ∙ none));
}

-- a store that has met no failed page write goes on by itself
pub stays_on : {D : Type 0} (m : Meaning D) (a : Pool D FireLinks) → a.offline ≡ None → StoreOn m a a
stays_on m a up = record { goes = store_stands m a; online = up; unmarked = λ page who none. none }

-- entries are laid
pub all_on : {D : Type 0} (m : Meaning D) (indexes : List Index) (p : RecId) (row : Row) (a b : Pool D FireLinks)
    → a.offline ≡ None → LaysAll m indexes p row a b → StoreOn m a b
all_on m indexes p row a b up (no_index p_ row_ store) = stays_on m store up
all_on m indexes p row a b up (one_more first index p_ row_ before mid after laid lays) = on_then m before mid after
    (all_on m first p_ row_ before mid up laid) (own_on m mid after _ lays)

pub row_on : {D : Type 0} (m : Meaning D) (a b : Pool D FireLinks) (table : Table) (rec : RecId) (write : Write)
    → a.offline ≡ None → EntersRow m a b table rec write → StoreOn m a b
row_on m a b table rec (writes.Insert row) up laid = all_on m table.indexes rec row a b up laid
row_on m a b table rec (writes.Change key row) up laid = all_on m table.indexes rec row a b up laid
row_on {D} m a b table rec (writes.Erase key) up same = subst (λ (s : Pool D FireLinks). StoreOn m a s) (sym same)
    (stays_on m a up)

-- and then a version is
then_on : {D : Type 0} (m : Meaning D) (a b : Pool D FireLinks) (table : Table) (rec : RecId) (write : Write)
    (puts : Pool D FireLinks → Type 0) → a.offline ≡ None → ((e : Pool D FireLinks) → puts e → StoreOn m e b)
    → EntersThen m a table rec write puts → StoreOn m a b
then_on m a b table rec write puts up each it = on_then m a it.entered b
    (row_on m a it.entered table rec write up it.enters) (each it.entered it.lays)

lay_on : {D : Type 0} (m : Meaning D) (a b : Pool D FireLinks) (table : Table) (way : Way) (write : Write) (v : Version)
    → a.offline ≡ None → Lays m a b table way write v → StoreOn m a b
lay_on {D} m a b table ways.Make write v up lays = on_then m a lays.placed b placed
    (then_on m lays.placed b table lays.at write (λ e. MakesFirst m e b table.pointer.0 lays.at v) placed.online
    (λ e own. own_on m e b _ own) lays.makes)
  where
    placed : StoreOn m a lays.placed
    placed = own_on m a lays.placed _ lays.takes
lay_on m a b table (ways.Push rec) write v up lays = then_on m a b table rec write (λ e. PushesOver m e b rec v) up
    (λ e own. own_on m e b _ own) lays
lay_on {D} m a b table (ways.PushOverDead rec) write v up lays = on_then m a lays.cleared b cleared
    (then_on m lays.cleared b table rec write (λ e. PushesOver m e b rec v) cleared.online
    (λ e own. own_on m e b _ own) lays.pushes)
  where
    cleared : StoreOn m a lays.cleared
    cleared = own_on m a lays.cleared _ lays.takes
lay_on m a b table (ways.Replace rec) write v up lays = then_on m a b table rec write
    (λ e. ReplacesNewest m e b rec v) up (λ e own. own_on m e b _ own) lays

-- ---- memory

pub stays_then : (a b c : List Working) (t : ℕ) → WorksStay a b t → WorksStay b c t → WorksStay a c t
stays_then a b c t first next = record {
  others = λ u ne. next.others u ne ∙ first.others u ne;
  sessions = λ session. next.sessions session ∙ first.sessions session;
  active = next.active ∙ first.active;
  session = next.session ∙ first.session;
  mode = next.mode ∙ first.mode;
}

module _ (t owner : ℕ) (key : Value) (was : Was) (works : List Working) where
  abbrev changed_works : List Working
  changed_works = with_work t (with_change owner key was) works

  pub works_stay : WorksStay works (works_kept t owner key was works) t
  works_stay = stays_then works changed_works (works_kept t owner key was works) t
      (works_with t (with_change owner key was) (λ w. refl) (λ w. refl) works (λ w. refl))
      (works_with t unasked (λ w. refl) (λ w. refl) changed_works (λ w. refl))

  pub given_stays : (u : ℕ) (name : List ℕ) → given_to (works_kept t owner key was works) u name ≡ given_to works u name
  given_stays u name = kept_all works (works_kept t owner key was works) t works_stay
      (λ (w : Option Working). given_by w name)
      (kept_with t unasked (λ w. refl) (λ w. refl) changed_works (λ (w : Option Working). given_by w name) (λ w. refl)
      ∙ kept_with t (with_change owner key was) (λ w. refl) (λ w. refl) works
      (λ (w : Option Working). given_by w name) (λ w. refl)) u

-- ---- the event

module _ {D P : Type 0} (m : Meaning D) (places : Places P) (old new : Core D) (t : TxNo) (table : Table)
    (write : Write) (written : Writes m old new t table write) (since : HasRead m old written.puts.read t.0)
    (online : old.store.offline ≡ None)
    (goes_on : (o : Opening) (h : Entries) → StandsFor m old o h → GoesOnWith m old new o h (made_by t table write) t.0) where
  laid_is : new ≡ record old {
    store = new.store;
    waits = written.puts.read.waits;
    works = works_kept t.0 table.pointer.0 (written_at table write) written.puts.before.was old.works;
    directories = new.directories;
  }
  laid_is = ap (λ (c : Core D). record c { directories = new.directories }) written.puts.laid.same
      ∙ ap (λ (c : Core D). record c {
        store = new.store;
        works = works_kept t.0 table.pointer.0 (written_at table write) written.puts.before.was c.works;
        directories = new.directories;
      }) since.same

  works_is : new.works ≡ works_kept t.0 table.pointer.0 (written_at table write) written.puts.before.was old.works
  works_is = ap (λ (c : Core D). c.works) laid_is

  damage_is : new.damage ≡ old.damage
  damage_is = ap (λ (c : Core D). c.damage) laid_is

  shortages_is : new.shortages ≡ old.shortages
  shortages_is = ap (λ (c : Core D). c.shortages) laid_is

  store_on : StoreOn m old.store new.store
  store_on = on_then m old.store written.puts.read.store new.store
      (read_on m old.store written.puts.read.store since.keeps (since.keeps.offline ∙ online))
      (lay_on m written.puts.read.store new.store table written.puts.before.way write written.puts.version
      (since.keeps.offline ∙ online) written.puts.laid.lays)

  stay : WorksStay old.works new.works t.0
  stay = subst (λ (ws : List Working). WorksStay old.works ws t.0) (sym works_is)
      (works_stay t.0 table.pointer.0 (written_at table write) written.puts.before.was old.works)

  given_same : (u : ℕ) (name : List ℕ) → given_to new.works u name ≡ given_to old.works u name
  given_same u name = ap (λ (ws : List Working). given_to ws u name) works_is
      ∙ given_stays t.0 table.pointer.0 (written_at table write) written.puts.before.was old.works u name

  list_is : new.list ≡ old.list
  list_is = ap (λ (c : Core D). c.list) laid_is

  next_on : (i : Image) → m.held old.store.disk ≡ Some i → (o : Opening) (h : Entries)
      (its : GoesOnWith m old new o h (made_by t table write) t.0) (n : Numbers) (x : Tables) (u : ℕ) → u ≢ t.0
      → said old.list u ≡ Active → (its_table : Table) (from : Option WalkPlace) (rows : KeyedRows)
      → AreToCome old.store.geometry.size (standing_of old n x) (shown old.store.dirty i) u its_table from rows
      → AreNext m new (standing_of new its.stands.numbers its.stands.tables) u its_table from rows None
  next_on i held o h its n x u ne also its_table from rows next =
      let (k, held_now, then_) = its.walks i held u ne also its_table from rows (as_standing old.store.geometry.size
      (standing_of old n x) (bare_standing old) (shown old.store.dirty i) u its_table from rows refl refl next) in (
        k,
        held_now,
        as_standing new.store.geometry.size (bare_standing new)
            (standing_of new its.stands.numbers its.stands.tables) (shown new.store.dirty k) u its_table from rows
            refl refl then_,
      )

  walks_on : WalksStay (means m places) old new (Some t.0)
  walks_on u its_table from rows not_ comes =
      let its : GoesOnWith m old new comes.opening comes.entries (made_by t table write) t.0 =
      goes_on comes.opening comes.entries comes.stands in
      let next : AreNext m old (standing_of old comes.stands.numbers comes.stands.tables) u its_table
      (place_at places from) rows None = subst (λ (off : Option ℕ). AreNext m old
      (standing_of old comes.stands.numbers comes.stands.tables) u its_table (place_at places from) rows off) online
      comes.next in record {
        opening = comes.opening;
        entries = made_by t table write ∷ comes.entries;
        stands = its.stands;
        active = sym ((memory_of m new comes.opening (made_by t table write ∷ comes.entries) its.stands).state u)
            ∙ (ap (λ (l : TxList). said l u) list_is
            ∙ ((memory_of m old comes.opening comes.entries comes.stands).state u ∙ comes.active));
        seen = given_same u its_table.name ∙ comes.seen;
        next = subst (λ (off : Option ℕ). AreNext m new (standing_of new its.stands.numbers its.stands.tables) u
            its_table (place_at places from) rows off) (sym store_on.online)
            (next_on next.0 next.1 comes.opening comes.entries its comes.stands.numbers comes.stands.tables u
            (apart_from u t.0 not_)
            ((memory_of m old comes.opening comes.entries comes.stands).state u ∙ comes.active) its_table (place_at places from) rows next.2);
      }

  pub made_gives : GivesEvent m places old new (event_of t table.name write) Fine None None (Some t.0) None None
  made_gives = record {
    adds = λ o h stands. let its = goes_on o h stands in (its.lawful, its.stands);
    leaves = record {
      keeps = keeps_of m places old new None store_on.goes (let same = damage_is in omega (arith, same))
          (let same = shortages_is in omega (arith, same)) (record {
            cause = tt;
            offline = rw online tt;
            down = store_on.online ∙ sym online;
          });
      tables_stay = tables_of m places old new None (λ u name not_. given_same u name);
      walks_stay = walks_on;
      commits = commits_of m places old new (Some t.0)
          (λ u not_. ap asked_kept (stay.others u (apart_from u t.0 not_)))
          (λ u not_. kept_all old.works new.works t.0 stay session_kept stay.session u)
          (λ u page not_ was none. store_on.unmarked page (sessions_in old.works u) none);
    };
    crash = quiet_of m places old new (λ o h stands told. (goes_on o h stands).leaves) store_on.goes.size;
    sessions = sessions_of m places old new t.0 stay;
  }

-- ---- on each way

pub made_rows_give : {D P : Type 0} (m : Meaning D) → CountsNow m → PushedRowsGoOn D P m → ReplacedRowsGoOn D P m
    → NewRowsGoOn D P m → OverDeadRowsGoOn D P m → MadeRowsGive D P m
made_rows_give {D} {P} m counts_now pushed replaced new_rows over_dead places old new t table write core given noted fits written = made_gives m places old new t table write written since online goes_on
  where
    online : old.store.offline ≡ None
    online = written.is_free.has_found.has_passed.has_begun.continues.0

    since : HasRead m old written.puts.read t.0
    since = reads_on m counts_now old written.free written.puts.read t.0 (free_read m counts_now old core t table write
        written.free written.wait written.rec written.is_free) written.puts.has.reads

    no_record : RecId
    no_record = record { page = record { 0 = 0 }; slot = 0 }

    goes_on : (o : Opening) (h : Entries) → StandsFor m old o h → GoesOnWith m old new o h (made_by t table write) t.0
    goes_on o h stands = at written.puts.before.way refl
      where
        at : (way : Way) → written.puts.before.way ≡ way → GoesOnWith m old new o h (made_by t table write) t.0
        at ways.Make is = new_rows places old new t table write no_record o h core given noted fits written is stands
        at (ways.Push rec) is = pushed places old new t table write rec o h core given noted fits written is stands
        at (ways.PushOverDead rec) is =
            over_dead places old new t table write rec o h core given noted fits written is stands
        at (ways.Replace rec) is =
            replaced places old new t table write rec o h core given noted fits written is stands
