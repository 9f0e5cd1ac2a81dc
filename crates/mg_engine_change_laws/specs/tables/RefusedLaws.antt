-- A table that is not made: what was kept of its keys is taken back, and the event of its own row is given with the
-- refusal. The catalog may have got pages, which add nothing.
use Rattle.std.proofs.Common.{◌≡◌, ◌⊎◌, inl, inr, refl, sym, ap, ◌∙◌, subst, ◌≤◌, arith, ℕ, true, false, List, ◌∷◌, length, Option, None, Some}
use Rattle.mg_base.specs.declared.geometry.Geometry.{Geometry}
use Rattle.mg_base.specs.Disk.{Meaning}
use Rattle.mg_base.specs.declared.numbers.TxNo.{TxNo}
use Rattle.mg_base.specs.declared.transaction.TxState.TheVariants.{Active}
use Rattle.mg_value.specs.declared.shape.Shape.{Shape}
use Rattle.mg_value.specs.declared.value.Value.{Value}
use Rattle.mg_model.specs.declared.answer.Answer.TheVariants.{No}
use Rattle.mg_model.specs.declared.opening.Opening.{Opening}
use Rattle.mg_model.specs.declared.refusal.Refusal.{Refusal}
use Rattle.mg_model.specs.declared.table.Table.{Table}
use Rattle.mg_model.specs.Changes.{KeyedRows}
use Rattle.mg_model.specs.History.{Entries, Entry, entry}
use Rattle.mg_model.specs.Legal.{is_outer}
use Rattle.mg_model.specs.Machine.{waited_on}
use Rattle.mg_records.specs.Keeping.{WalksStay}
use Rattle.mg_image.specs.Form.{packed_form}
use Rattle.mg_lasting_laws.specs.Changing.{QuietHolds}
use Rattle.mg_lasting_laws.specs.Entries.{idle_state}
use Rattle.mg_pool.specs.Pool.{shown}
use Rattle.mg_pool.specs.declared.pool.Pool.{Pool}
use Rattle.mg_space.specs.View.{KeepsStore}
use Rattle.mg_space.specs.ViewLaws.{keeps_itself}
use Rattle.mg_space.specs.declared.fault.SpaceFault.{SpaceFault}
use Rattle.mg_space.specs.declared.links.FireLinks.{FireLinks}
use Rattle.mg_table_batch.specs.Making.{FailsTable, FailsTry, at_try, no_page, not_at_once, wants_more}
use Rattle.mg_table_making.specs.Creating.{FailsKeeping, FailsMaking, MayBeMade}
use Rattle.mg_table_making.specs.Keeping.{kept_each, retracted}
use Rattle.mg_table_making.specs.Keys.{keys_made}
use Rattle.mg_txlist.specs.TxList.{said}
use Rattle.mg_undo.specs.Undo.{RetractTakesKeepBack}
use Rattle.mg_waits.specs.Waits.{NowWaits, edges_in}
use Rattle.mg_works.specs.Works.{Working, given_by, given_to, unasked, with_work, work_of}
use Rattle.mg_works.specs.WorksLaws.{with_its, with_none}
use Rattle.mg_core.specs.Cores.{IsCore}
use Rattle.mg_core.specs.Refusing.{CountsFault, NamesLimit}
use Rattle.mg_core.specs.declared.parts.Core.{Core}
use Rattle.mg_engine_change_laws.specs.tables.MakingRefusals.{own_event}
use Rattle.mg_engine_step_laws.specs.standing.Following.{StandsOn}
use Rattle.mg_engine_step_laws.specs.commits.Idle.{IdleGoesOn}
use Rattle.mg_engine_step_laws.specs.commits.PageWrites.{PageWritesFail}
use Rattle.mg_engine_step_laws.specs.standing.Standing.{Standing}
use Rattle.mg_engine_step_laws.specs.reads.Walking.{WalkPlace}
use Rattle.mg_engine_step_laws.specs.commits.Unasked.{UnaskingLasts}
use Rattle.mg_engine_meaning_laws.specs.FrameLaws.{apart_from, commits_of, kept_all, keeps_of, kept_with, same_sessions, sessions_of, tables_of, works_with}
use Rattle.mg_engine_meaning_laws.specs.Frames.{GivesEvent, MayAnswer}
use Rattle.mg_engine_meaning_laws.specs.LawfulLaws.{quiet_count, quiet_event}
use Rattle.mg_engine_meaning_laws.specs.Meaning.{AreNext, Places, means, place_at}
use Rattle.mg_engine_meaning_laws.specs.MemoryCallLaws.{idle_finds, memory_stands, nothing_follows}
use Rattle.mg_engine_meaning_laws.specs.Standings.{StandsFor, asked_kept, sessions_in, standing_of, written_kept}
use Rattle.mg_engine_meaning_laws.specs.StepLaws.{as_standing}
use Rattle.mg_engine_change_laws.specs.memory.StageLaws.{fails_so, fault_may, left_geometry, own_left, own_tells, reads_so, so_then}
use Rattle.mg_engine_change_laws.specs.memory.Stages.{FailsReady, StaysSo, TellsOf}
use Rattle.mg_engine_change_laws.specs.rows.MadeLaws.{stays_then}
use Rattle.mg_engine_change_laws.specs.memory.Notes.{AreCounts, HasRead}
use Rattle.mg_engine_change_laws.specs.rows.StopLaws.{fault_outer, fault_waits, risen}
use Rattle.mg_engine_change_laws.specs.tables.MakingLaws.{KnownOfTables}
use Rattle.mg_engine_change_laws.specs.tables.MakingStageLaws.{all_come, come_self, online, read_come, since}
use Rattle.mg_engine_change_laws.specs.tables.MakingStages.{HasCome}
use Rattle.mg_engine_change_laws.specs.memory.WorksBack.{TakesBack, back_stands, back_stays, back_undo, back_with, its_kept, taken_back}
use Rattle.mg_engine_change_laws.specs.memory.WorksMade.{each_stays, each_with}

-- ---- what was kept is taken back

-- some keys were kept
pub kept_back : (t owner : ℕ) (keys : List Value) (works : List Working)
    → TakesBack t owner works (retracted t (length keys) (kept_each t owner keys works))
kept_back t owner keys works = record {
  stay = stays_then works (kept_each t owner keys works) (retracted t (length keys) (kept_each t owner keys works)) t
      (each_stays t owner keys works) (back_stays t (length keys) (kept_each t owner keys works));
  written = back_with t written_kept (λ w. refl) (length keys) (kept_each t owner keys works)
      ∙ each_with t owner written_kept (λ key w. refl) keys works;
  given = λ name. back_with t (λ (w : Option Working). given_by w name) (λ w. refl) (length keys)
      (kept_each t owner keys works) ∙ each_with t owner (λ (w : Option Working). given_by w name) (λ key w. refl) keys
      works;
  asks = inr (back_with t asked_kept (λ w. refl) (length keys) (kept_each t owner keys works)
      ∙ each_with t owner asked_kept (λ key w. refl) keys works);
  keys = keys;
  back = λ work its. let (w, is, undo) = its_kept t owner keys works work its in
      back_undo t (length keys) (kept_each t owner keys works) w is ∙ ap (taken_back (length keys)) undo;
}

-- all of them were, and the commit is no longer asked for
pub unasked_back : (t owner : ℕ) (keys : List Value) (works : List Working)
    → TakesBack t owner works (retracted t (length keys) (with_work t unasked (kept_each t owner keys works)))
unasked_back t owner keys works = record {
  stay = stays_then works (with_work t unasked (kept_each t owner keys works)) (retracted t (length keys) (with_work t unasked (kept_each t owner keys works))) t
      (stays_then works (kept_each t owner keys works) (with_work t unasked (kept_each t owner keys works)) t (each_stays t owner keys works)
      (works_with t unasked (λ w. refl) (λ w. refl) (kept_each t owner keys works) (λ w. refl))) (back_stays t (length keys) (with_work t unasked (kept_each t owner keys works)));
  written = back_with t written_kept (λ w. refl) (length keys) (with_work t unasked (kept_each t owner keys works))
      ∙ (kept_with t unasked (λ w. refl) (λ w. refl) (kept_each t owner keys works) written_kept (λ w. refl)
      ∙ each_with t owner written_kept (λ key w. refl) keys works);
  given = λ name. back_with t (λ (w : Option Working). given_by w name) (λ w. refl) (length keys) (with_work t unasked (kept_each t owner keys works))
      ∙ (kept_with t unasked (λ w. refl) (λ w. refl) (kept_each t owner keys works) (λ (w : Option Working). given_by w name) (λ w. refl)
      ∙ each_with t owner (λ (w : Option Working). given_by w name) (λ key w. refl) keys works);
  asks = inl (back_with t asked_kept (λ w. refl) (length keys) (with_work t unasked (kept_each t owner keys works)) ∙ none_asked (work_of (kept_each t owner keys works) t) refl);
  keys = keys;
  back = λ work its. let (w, is, undo) = its_kept t owner keys works work its in
      back_undo t (length keys) (with_work t unasked (kept_each t owner keys works)) (unasked w) (with_its t unasked (λ x. refl) (λ x. refl) (kept_each t owner keys works) w is)
      ∙ ap (taken_back (length keys)) undo;
}
  where
    none_asked : (w : Option Working) → work_of (kept_each t owner keys works) t ≡ w
        → asked_kept (work_of (with_work t unasked (kept_each t owner keys works)) t) ≡ false
    none_asked None none = ap asked_kept (with_none t unasked (λ x. refl) (λ x. refl) (kept_each t owner keys works) t
        none)
    none_asked (Some w) is = ap asked_kept (with_its t unasked (λ x. refl) (λ x. refl) (kept_each t owner keys works) w is)

-- ---- a refusal, as a keeper of records owes it

-- Since a call of a transaction began the store may be another one that adds nothing, its wait was noted, what was kept
-- is taken back, counts have not fallen, and a refusal from outside the machine has its cause.
record IsRefusedSo {D P : Type 0} (m : Meaning D) (places : Places P) (old new : Core D) (t : TxNo) (refusal : Refusal)
    : Type 0 where
  store : Pool D FireLinks
  waits : List (ℕ × ℕ)
  works : List Working
  damage : ℕ
  shortages : ℕ
  same : new ≡ record old {
    store = store;
    waits = waits;
    works = works;
    damage = damage;
    shortages = shortages;
  }
  so : StaysSo m places old (record old { store = store; damage = damage; shortages = shortages }) t.0
  outer : is_outer (No refusal) ≡ true
  noted : NowWaits (edges_in old.waits) (edges_in waits) t.0 (waited_on (No refusal))
  damaged : old.damage ≤ damage
  short : old.shortages ≤ shortages
  may : MayAnswer m places old new (Some refusal)
  takes : TakesBack t.0 old.catalog.pointer.0 old.works works
  work : Working
  its : work_of old.works t.0 ≡ Some work
  active : said old.list t.0 ≡ Active

module _ (retract : RetractTakesKeepBack) {D P : Type 0} (m : Meaning D) (places : Places P)
    (unask : UnaskingLasts packed_form D FireLinks m) (idle_goes : IdleGoesOn D FireLinks m packed_form)
    (on : StandsOn packed_form) (quiet : QuietHolds packed_form) (old new : Core D) (t : TxNo) (name : List ℕ)
    (shape : Shape) (refusal : Refusal) (refused : IsRefusedSo m places old new t refusal) where
  abbrev e : Entry
  e = entry (own_event t name shape) (No refusal)

  abbrev mid : Core D
  mid = record old { store = refused.store; damage = refused.damage; shortages = refused.shortages }

  abbrev waited : Core D
  waited = record old {
    store = refused.store;
    waits = refused.waits;
    damage = refused.damage;
    shortages = refused.shortages;
  }

  abbrev now : Core D
  now = record old {
    store = refused.store;
    waits = refused.waits;
    works = refused.works;
    damage = refused.damage;
    shortages = refused.shortages;
  }

  module _ (o : Opening) (h : Entries) (stands : StandsFor m old o h) where
    mid_stands : StandsFor m (record old {
      store = refused.store;
      damage = refused.damage;
      shortages = refused.shortages;
    }) o h
    mid_stands = refused.so.stands o h stands

    waited_stands : StandsFor m (record old {
      store = refused.store;
      waits = refused.waits;
      damage = refused.damage;
      shortages = refused.shortages;
    }) o (entry (own_event t name shape) (No refusal) ∷ h)
    waited_stands = memory_stands m places mid refused.waits old.works old.live idle_goes on quiet refl refl o h e
        mid_stands mid_stands.tables mid_stands.given mid_stands.kept mid_stands.bases (inr refused.outer)
        (quiet_count e refl) (quiet_event e refl) refl
        (nothing_follows mid refused.waits o h e t.0 refl refl refused.noted mid_stands.numbers mid_stands.tables)
        (λ shows. idle_finds refused.store.geometry.size o h e
        (standing_of mid mid_stands.numbers mid_stands.tables)
        (standing_of waited mid_stands.numbers mid_stands.tables) (shown refused.store.dirty shows.image) refl (λ u. refl)
        (λ u. refl) (λ u n. refl))

    new_stands : StandsFor m (record old {
      store = refused.store;
      waits = refused.waits;
      works = refused.works;
      damage = refused.damage;
      shortages = refused.shortages;
    }) o (entry (own_event t name shape) (No refusal) ∷ h)
    new_stands = back_stands retract m unask waited t.0 old.catalog.pointer.0 refused.works refused.takes refused.work
        refused.its refused.active o (e ∷ h) waited_stands

  given_same : (u : ℕ) (n : List ℕ) → given_to refused.works u n ≡ given_to old.works u n
  given_same u n = kept_all old.works refused.works t.0 refused.takes.stay (λ (w : Option Working). given_by w n)
      (refused.takes.given n) u

  next_on : (s s_now : Standing) (u : ℕ) (its : Table) (after : Option WalkPlace) (rows : KeyedRows) (off : Option ℕ)
      → s.state ≡ s_now.state → s.live ≡ s_now.live → AreNext m mid s u its after rows off
      → AreNext m now s_now u its after rows off
  next_on s s_now u its after rows None state bases (i, held, next) = (
    i,
    held,
    as_standing refused.store.geometry.size s s_now (shown refused.store.dirty i) u its after rows state bases
        next,
  )
  next_on s s_now u its after rows (Some count) state bases next = tt

  now_walks : WalksStay (means m places) old now (Some t.0)
  now_walks u its after rows not_ was =
      let comes = refused.so.walks u its after rows not_ was in
      let stands_now : StandsFor m now was.opening (e ∷ was.entries) = new_stands was.opening was.entries was.stands in
      record {
        opening = was.opening;
        entries = e ∷ was.entries;
        stands = stands_now;
        active = idle_state was.opening was.entries e refl u ∙ was.active;
        seen = given_same u its.name ∙ was.seen;
        next = next_on (standing_of mid comes.stands.numbers comes.stands.tables)
            (standing_of now stands_now.numbers stands_now.tables) u its (place_at places after) rows refused.store.offline
            refl refl comes.next;
      }

  abbrev Gives : Core D → Type 0
  Gives c = GivesEvent m places old c (own_event t name shape) (No refusal) (Some refusal) (Some t.0) (Some t.0) None None

  now_gives : Gives now
  now_gives = record {
    adds = λ o h stands. (inr refused.outer, new_stands o h stands);
    leaves = record {
      keeps = keeps_of m places old now (Some refusal) refused.so.goes refused.damaged refused.short
          (subst (λ (c : Core D). MayAnswer m places old c (Some refusal)) refused.same refused.may);
      tables_stay = tables_of m places old now (Some t.0) (λ u n not_. given_same u n);
      walks_stay = now_walks;
      commits = commits_of m places old now (Some t.0)
          (λ u not_. ap asked_kept (refused.takes.stay.others u (apart_from u t.0 not_)))
          (λ u not_. ap (λ (f : ℕ → ℕ). f u) (same_sessions old.works refused.works t.0 refused.takes.stay))
          (λ u page not_ was none. refused.so.unmarked page (sessions_in old.works u) none);
    };
    crash = λ o h stands told. let left = refused.so.quiet o h stands told in
        record { each = left.each; before = left.before };
    sessions = sessions_of m places old now t.0 refused.takes.stay;
  }

  refused_gives : GivesEvent m places old new (own_event t name shape) (No refusal) (Some refusal) (Some t.0) (Some t.0)
      None None
  refused_gives = subst Gives (sym refused.same) now_gives

-- So many changes were taken back, after keys were kept, and maybe the commit is no longer asked for.
pub record AreBack (t owner : ℕ) (old new : List Working) : Type 0 where
  pub count : ℕ
  pub keys : List Value
  pub works : List Working
  pub is : new ≡ retracted t count works
  pub are : (works ≡ kept_each t owner keys old) ⊎ (works ≡ with_work t unasked (kept_each t owner keys old))

-- ---- the calls

-- A store to which a call came without adding anything, and then a batch of its own failed.
record FailsFrom {D P : Type 0} (m : Meaning D) (places : Places P) (old : Core D) (after : Pool D FireLinks) (t : ℕ)
    (fault : SpaceFault) : Type 0 where
  before : Pool D FireLinks
  come : HasCome m places old before t
  left : KeepsStore m before after ⊎ FailsReady m before after fault
  told : TellsOf m before after fault

module _ (retract : RetractTakesKeepBack) {D P : Type 0} (m : Meaning D) (known : KnownOfTables D m) (places : Places P)
    (idle_goes : IdleGoesOn D FireLinks m packed_form) (on : StandsOn packed_form)
    (failing : PageWritesFail D FireLinks m packed_form) (old new : Core D) (core : IsCore m old)
    (counted : AreCounts old) (t : TxNo) (name : List ℕ) (shape : Shape) (refusal : Refusal) (free : Core D)
    (may_be : MayBeMade m old free t name shape) where
  abbrev keys : List Value
  keys = keys_made old.catalog.shape name shape

  up : old.store.offline ≡ None
  up = online known.one known.speakers m known.counts_now old core t name shape free may_be

  read : HasRead m old free t.0
  read = since known.one known.speakers m known.counts_now old core t name shape free may_be

  active : said old.list t.0 ≡ Active
  active = may_be.has_begun.continues.1

  work_is : work_of old.works t.0 ≡ Some may_be.has_begun.may.work
  work_is = sym (ap (λ (c : Core D). work_of c.works t.0) may_be.has_begun.ended.same) ∙ may_be.has_begun.may.its

  catalog_same : free.catalog ≡ old.catalog
  catalog_same = ap (λ (c : Core D). c.catalog) read.same

  free_come : HasCome m places old free.store t.0
  free_come = read_come m places known.begins known.reads known.grow old t active old.store free.store
      (come_self m places known.begins known.reads known.grow old t active core.pool core.geometry up) read.keeps

  -- it was not kept
  module _ (failed : FailsKeeping free new t keys refusal) where
    works_kept : List Working
    works_kept = retracted t.0 (length failed.done) (kept_each t.0 old.catalog.pointer.0 failed.done old.works)

    kept_is : new ≡ record old {
      store = free.store;
      waits = free.waits;
      works = retracted t.0 (length failed.done) (kept_each t.0 old.catalog.pointer.0 failed.done old.works);
      damage = old.damage;
      shortages = old.shortages;
    }
    kept_is = failed.same ∙ (ap (λ (n : ℕ). record free {
      works = retracted t.0 (length failed.done) (kept_each t.0 n failed.done free.works);
    }) (ap (λ (c : Table). c.pointer.0) catalog_same) ∙ ap (λ (c : Core D). record c {
      works = retracted t.0 (length failed.done) (kept_each t.0 old.catalog.pointer.0 failed.done c.works);
    }) read.same)

    not_kept_so : IsRefusedSo m places old new t refusal
    not_kept_so = record {
      store = free.store;
      waits = free.waits;
      works = retracted t.0 (length failed.done) (kept_each t.0 old.catalog.pointer.0 failed.done old.works);
      damage = old.damage;
      shortages = old.shortages;
      same = kept_is;
      so = reads_so m places known.begins known.reads old free.store old.damage old.shortages t.0 read.keeps;
      outer = ap (λ (r : Refusal). is_outer (No r)) failed.is;
      noted = subst (λ (who : Option ℕ). NowWaits (edges_in old.waits) (edges_in free.waits) t.0 who)
          (sym (ap (λ (r : Refusal). waited_on (No r)) failed.is)) read.over;
      damaged = omega arith;
      short = omega arith;
      may = subst (λ (c : Core D). MayAnswer m places old c (Some refusal)) (sym kept_is)
          (subst (λ (r : Refusal). MayAnswer m places old (record old {
            store = free.store;
            waits = free.waits;
            works = retracted t.0 (length failed.done) (kept_each t.0 old.catalog.pointer.0 failed.done old.works);
            damage = old.damage;
            shortages = old.shortages;
          }) (Some r)) (sym failed.is) (record { cause = tt; offline = rw up tt; down = read.keeps.offline }));
      takes = kept_back t.0 old.catalog.pointer.0 failed.done old.works;
      work = may_be.has_begun.may.work;
      its = work_is;
      active = active;
    }

  -- its rows were not put
  module _ (failed : FailsMaking m free new t name shape keys refusal) where
    from_try : (grown : Pool D FireLinks) → HasCome m places old grown t.0
        → FailsTry m old.catalog t.0 name shape grown new.store failed.fault
        → FailsFrom m places old new.store t.0 failed.fault
    from_try grown come (not_at_once own) = record {
      before = grown;
      come = come;
      left = own_left m grown new.store _ _ failed.fault own;
      told = own_tells m grown new.store _ _ failed.fault own;
    }
    from_try grown come (no_page ready wants own) = record {
      before = ready;
      come = read_come m places known.begins known.reads known.grow old t active grown ready come wants.keeps;
      left = own_left m ready new.store _ _ failed.fault own;
      told = own_tells m ready new.store _ _ failed.fault own;
    }

    from_table : FailsTable m old.catalog t.0 name shape free.store new.store failed.fault
        → FailsFrom m places old new.store t.0 failed.fault
    from_table (at_try grown count grows try) = from_try grown
        (all_come m places known.begins known.reads known.grow old t active name shape count free.store grown free_come
        grows) try
    from_table (wants_more grows is) =
        let come : HasCome m places old new.store t.0 = all_come m places known.begins known.reads known.grow old t active
        name shape _ free.store new.store free_come grows in record {
          before = new.store;
          come = come;
          left = inl (keeps_itself m new.store come.pool);
          told = subst (TellsOf m new.store new.store) (sym is) come.up;
        }

    from : FailsFrom m places old new.store t.0 failed.fault
    from = from_table (subst (λ (c : Table). FailsTable m c t.0 name shape free.store new.store failed.fault)
        catalog_same failed.fails)

    abbrev last_ : Core D
    last_ = record old { store = new.store; damage = new.damage; shortages = new.shortages }

    made_so : StaysSo m places old (record old {
      store = new.store;
      damage = new.damage;
      shortages = new.shortages;
    }) t.0
    made_so = at from.left from.told
      where
        at : KeepsStore m from.before new.store ⊎ FailsReady m from.before new.store failed.fault
            → TellsOf m from.before new.store failed.fault → StaysSo m places old last_ t.0
        at (inl keeps) told = so_then m places old (record old { store = from.before }) last_ t.0 from.come.so
            (reads_so m places known.begins known.reads (record old { store = from.before }) new.store new.damage
            new.shortages t.0 keeps)
        at (inr fails) told = so_then m places old (record old {
          store = fails.ready;
          damage = new.damage;
          shortages = new.shortages;
        }) last_ t.0
            (so_then m places old (record old { store = from.before }) (record old {
              store = fails.ready;
              damage = new.damage;
              shortages = new.shortages;
            }) t.0 from.come.so (reads_so m places known.begins known.reads (record old { store = from.before })
            fails.ready new.damage new.shortages t.0 fails.keeps))
            (fails_so m places failing (record old {
              store = fails.ready;
              damage = new.damage;
              shortages = new.shortages;
            }) new.store fails.count t.0 (fails.keeps.offline ∙ from.come.up)
            (subst (TellsOf m from.before new.store) fails.is told).0 fails.fails)

    counts : CountsFault failed.fault old.damage new.damage old.shortages new.shortages
    counts = subst (λ (n : ℕ). CountsFault failed.fault n new.damage old.shortages new.shortages)
        (ap (λ (c : Core D). c.damage) read.same)
        (subst (λ (n : ℕ). CountsFault failed.fault free.damage new.damage n new.shortages)
        (ap (λ (c : Core D). c.shortages) read.same) failed.counts)

    made_is : new ≡ record old {
      store = new.store;
      waits = free.waits;
      works = retracted t.0 (length keys)
          (with_work t.0 unasked (kept_each t.0 old.catalog.pointer.0 keys old.works));
      damage = new.damage;
      shortages = new.shortages;
    }
    made_is = failed.same ∙ (ap (λ (n : ℕ). record free {
      store = new.store;
      works = retracted t.0 (length keys) (with_work t.0 unasked (kept_each t.0 n keys free.works));
      damage = new.damage;
      shortages = new.shortages;
    }) (ap (λ (c : Table). c.pointer.0) catalog_same) ∙ ap (λ (c : Core D). record c {
      store = new.store;
      works = retracted t.0 (length keys) (with_work t.0 unasked (kept_each t.0 old.catalog.pointer.0 keys c.works));
      damage = new.damage;
      shortages = new.shortages;
    }) read.same)

    not_made_so : IsRefusedSo m places old new t refusal
    not_made_so = record {
      store = new.store;
      waits = free.waits;
      works = retracted t.0 (length keys) (with_work t.0 unasked (kept_each t.0 old.catalog.pointer.0 keys old.works));
      damage = new.damage;
      shortages = new.shortages;
      same = made_is;
      so = made_so;
      outer = fault_outer failed.fault refusal failed.is;
      noted = subst (λ (who : Option ℕ). NowWaits (edges_in old.waits) (edges_in free.waits) t.0 who)
          (sym (fault_waits failed.fault refusal failed.is)) read.over;
      damaged = (risen failed.fault old.damage new.damage old.shortages new.shortages counted.damage counted.shortages
          counts).0;
      short = (risen failed.fault old.damage new.damage old.shortages new.shortages counted.damage counted.shortages
          counts).1;
      may = fault_may m places old new from.before failed.fault refusal up from.come.up
          (from.come.so.goes.time.never_falls, from.come.so.goes.time.failed_writes) failed.is (subst (λ (g : Geometry). NamesLimit g.limit refusal)
          (left_geometry m from.before new.store failed.fault from.left ∙ from.come.so.goes.geometry) failed.names)
          from.told counts;
      takes = unasked_back t.0 old.catalog.pointer.0 keys old.works;
      work = may_be.has_begun.may.work;
      its = work_is;
      active = active;
    }

  pub not_put_gives : FailsKeeping free new t (keys_made old.catalog.shape name shape) refusal
      ⊎ FailsMaking m free new t name shape (keys_made old.catalog.shape name shape) refusal
      → GivesEvent m places old new (own_event t name shape) (No refusal) (Some refusal) (Some t.0) (Some t.0) None None
  not_put_gives (inl failed) = refused_gives retract m places known.unask idle_goes on known.quiet old new t name shape
      refusal (not_kept_so failed)
  not_put_gives (inr failed) = refused_gives retract m places known.unask idle_goes on known.quiet old new t name shape
      refusal (not_made_so failed)

  pub not_put_works : FailsKeeping free new t (keys_made old.catalog.shape name shape) refusal
      ⊎ FailsMaking m free new t name shape (keys_made old.catalog.shape name shape) refusal
      → AreBack t.0 old.catalog.pointer.0 old.works new.works
  not_put_works (inl failed) = record {
    count = length failed.done;
    keys = failed.done;
    works = kept_each t.0 old.catalog.pointer.0 failed.done old.works;
    is = ap (λ (c : Core D). c.works) (kept_is failed);
    are = inl refl;
  }
  not_put_works (inr failed) = record {
    count = length keys;
    keys = keys;
    works = with_work t.0 unasked (kept_each t.0 old.catalog.pointer.0 keys old.works);
    is = ap (λ (c : Core D). c.works) (made_is failed);
    are = inr refl;
  }
