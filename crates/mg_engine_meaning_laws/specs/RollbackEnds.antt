-- A transaction is rolled back.
use Rattle.std.proofs.Common.{◌≡◌, ◌≢◌, ◌⊎◌, inl, inr, ◌==◌, ◌&&◌, ℕ, Bool, true, false, not, List, ◌∷◌, Option, None, Some, Result, Ok, Err, refl, sym, ap, ◌∙◌, subst, arith}
use Rattle.std.specs.Prelude.{MatchResult}
use Rattle.std.proofs.Math.Path.{fun_ext}
use Rattle.std.proofs.lemmas.Bool.{cases_eq, eq-eqb, ne_eqb}
use Rattle.mg_base.specs.Disk.{Meaning}
use Rattle.mg_base.specs.Moments.{started}
use Rattle.mg_base.specs.declared.numbers.PageNo.{PageNo}
use Rattle.mg_base.specs.declared.numbers.RecId.{RecId}
use Rattle.mg_base.specs.declared.numbers.TxNo.{TxNo}
use Rattle.mg_base.specs.declared.transaction.TxState.{TxState}
use Rattle.mg_base.specs.declared.transaction.TxState.TheVariants.{Active, Dead}
use Rattle.mg_chain.specs.Chains.{takes_version}
use Rattle.mg_engine_step_laws.specs.standing.Known.{IsShown, seen_is_shown}
use Rattle.mg_engine_step_laws.specs.commits.ListShows.{lists_stay}
use Rattle.mg_engine_meaning_laws.specs.KnownRecords.{KnowsIts}
use Rattle.mg_engine_meaning_laws.specs.LoneRowsLaws.{lone_beside}
use Rattle.mg_engine_meaning_laws.specs.Falling.{Falls, read_alike}
use Rattle.mg_engine_meaning_laws.specs.Rollbacks.{RollbacksGoOn}
use Rattle.mg_engine_step_laws.specs.commits.Idle.{IdleGoesOn}
use Rattle.mg_engine_step_laws.specs.reads.Alike.{GoesAlike, OthersTakeAlike, TakesAlike, WalksGoAlike}
use Rattle.mg_image_overlay_laws.specs.kept.Knowing.{its_pages}
use Rattle.mg_image.specs.Form.{Pages, packed_coding, packed_form}
use Rattle.mg_image.specs.ReadingLaws.{RowsAreOne}
use Rattle.mg_image.specs.Records.{Reading, shown as row_shown}
use Rattle.mg_image.specs.Sound.{HasTablePages, IsSoundBy}
use Rattle.mg_image.specs.Tables.{Has, Layout, PointerChain, Stand, entries_in}
use Rattle.mg_lasting_laws.specs.Changing.{QuietHolds}
use Rattle.mg_lasting_laws.specs.Crashes.{HoldsAcknowledged}
use Rattle.mg_model.specs.declared.answer.Answer.TheVariants.{Fine}
use Rattle.mg_model.specs.declared.event.Event.TheVariants.{Rollback}
use Rattle.mg_model.specs.declared.opening.Opening.{Opening}
use Rattle.mg_model.specs.declared.refusal.Refusal.{Refusal}
use Rattle.mg_model.specs.declared.table.Table.{Table}
use Rattle.mg_model.specs.Changes.{KeyedRows}
use Rattle.mg_model.specs.History.{Entries, Entry, entry}
use Rattle.mg_model.specs.Laws.{OpeningsBegin}
use Rattle.mg_model.specs.Legal.{IsLawful}
use Rattle.mg_model.specs.Machine.{is_of, state_of}
use Rattle.mg_model.specs.Openings.{everyone}
use Rattle.mg_image_overlay_laws.specs.tables.OneChain.{link_once}
use Rattle.mg_overlay_laws.specs.Overlays.{left_by as counts_by, left_state, without}
use Rattle.mg_pointer.specs.PointerPage.{next_in}
use Rattle.mg_pool.specs.Pool.{shown}
use Rattle.mg_records.specs.Adding.{fine_or}
use Rattle.mg_records.specs.Keeping.{WalksStay, refusal_in}
use Rattle.mg_records.specs.Sessions.{ended_in}
use Rattle.mg_space.specs.declared.links.FireLinks.{FireLinks}
use Rattle.mg_engine_step_laws.specs.standing.Following.{FollowsEntry, StandsOn}
use Rattle.mg_engine_step_laws.specs.standing.Standing.{Standing}
use Rattle.mg_engine_step_laws.specs.reads.Walking.{WalkPlace}
use Rattle.mg_image_overlay_laws.specs.tables.OneTable.{its_data}
use Rattle.mg_directory.specs.Candidates.{Kept, by_table}
use Rattle.mg_image_overlay_laws.specs.tables.OneLayout.{StandsOneWay}
use Rattle.mg_noted_laws.specs.ChoiceTables.{table_in_first}
use Rattle.mg_noted_laws.specs.EndedLaws.{chosen_has}
use Rattle.mg_noted_laws.specs.Noted.{HasDirectories, HasNoted}
use Rattle.mg_txlist.specs.TxList.{EndsIn, said}
use Rattle.mg_txlist.specs.declared.list.TxList.{TxList}
use Rattle.mg_waits.specs.Waits.{NowWaits, edges_in}
use Rattle.mg_works.specs.Works.{AreApart, without_work}
use Rattle.mg_core.specs.declared.parts.Core.{Core}
use Rattle.mg_core.specs.Cores.{Continues, IsCore}
use Rattle.mg_core.specs.Events.{IsRefused, RollsBack}
use Rattle.mg_engine_meaning_laws.specs.EventLaws.{refused_gives}
use Rattle.mg_engine_meaning_laws.specs.FrameLaws.{keeps_of, quiet_of, store_stands}
use Rattle.mg_engine_meaning_laws.specs.Frames.{GivesEvent}
use Rattle.mg_engine_meaning_laws.specs.PlainTables.{HasPlainTables}
use Rattle.mg_engine_meaning_laws.specs.PlainLaws.{plain_tables_by}
use Rattle.mg_engine_meaning_laws.specs.KeptLaws.{kept_without_work}
use Rattle.mg_engine_meaning_laws.specs.LawfulLaws.{left_of, legal_of, memory_of, opening_of}
use Rattle.mg_engine_meaning_laws.specs.Meaning.{AreNext, Places, means, place_at}
use Rattle.mg_engine_meaning_laws.specs.MemoryCallLaws.{active_answer}
use Rattle.mg_engine_meaning_laws.specs.Standings.{ShowsIt, StandsFor, StandsWhile, asked_in, sessions_in, standing_of}
use Rattle.mg_engine_meaning_laws.specs.Freeing.{sessions_end}
use Rattle.mg_engine_meaning_laws.specs.Leaving.{commits_left, follows_end, given_same, keep_asking, left_by, seen_still, still_active, tables_left}

-- ---- a table that stands before and afterwards

-- two stands whose tables begin at one page have the same data pages
same_data : (in_primary : Bool) (size : ℕ) (pages : Pages) (p q : Stand) → HasTablePages in_primary size pages p
    → HasTablePages in_primary size pages q → p.table.pointer ≡ q.table.pointer → p.data_pages ≡ q.data_pages
same_data in_primary size pages p q has_p has_q same =
    has_p.entries ∙ (ap (entries_in pages) chains ∙ sym has_q.entries)
  where
    chains : p.pointers ≡ q.pointers
    chains = link_once (λ n. next_in (pages n)) p.table.pointer.0 p.pointers q.pointers has_p.chain
        (subst (λ (x : PageNo). PointerChain pages x.0 q.pointers) (sym same) has_q.chain)

-- A transaction's versions no longer count, and no page has changed: a table that is shown still stands as it did.
module _ (one : RowsAreOne packed_coding) (size : ℕ) (s new : Standing) (pages : Pages) (t u : ℕ) (table : Table)
    (falls : Falls (left_state everyone s.state) (left_state everyone new.state) t) (takes : TakesAlike s new u)
    (b : Layout) (q : Reading) (second : IsSoundBy packed_form size (left_state everyone new.state) pages b q)
    (is_ : IsShown b table) where
  pub falls_alike : (a : Layout) (r : Reading) → IsSoundBy packed_form size (left_state everyone s.state) pages a r
      → (was : IsShown a table) → GoesAlike size s new pages pages u table a r was
  falls_alike a r first was = record {
    layout = b;
    reading = q;
    sound = second;
    is_ = is_;
    alike = record {
      data_pages = data_same;
      contents = λ n has. refl;
      rows = λ p has. ap (row_shown (takes_version new.state new.live u)) (read_same p has)
          ∙ ap (λ (counts : ℕ → Bool). row_shown counts (r p)) (fun_ext takes);
    };
  }
    where
      -- by their first pages
      pointers : is_.stands.stand.table.pointer ≡ was.stands.stand.table.pointer
      pointers = ap (λ (x : Table). x.pointer) is_.stands.table_is ∙ (is_.same.pointer ∙ (sym was.same.pointer
          ∙ sym (ap (λ (x : Table). x.pointer) was.stands.table_is)))

      data_same : is_.stands.stand.data_pages ≡ was.stands.stand.data_pages
      data_same = same_data packed_form.in_primary size pages is_.stands.stand was.stands.stand
          (its_pages packed_form size (left_state everyone new.state) pages b q second is_.its is_.stands)
          (its_pages packed_form size (left_state everyone s.state) pages a r first was.its was.stands) pointers

      read_same : (p : RecId) → Has was.stands.stand.data_pages p.page.0 → q p ≡ r p
      read_same p has = read_alike packed_form one size (left_state everyone s.state)
          (left_state everyone new.state) t falls pages a b r q first second p is_.its
          ((its_data packed_form size (left_state everyone new.state) pages b q second is_.its is_.stands p.page.0).1
          (subst (λ (ns : List ℕ). Has ns p.page.0) (sym data_same) has))

-- ---- its tables are plain still

-- one that is dead counts as one that is active and not chosen
dead_same : (state now : ℕ → TxState) (t : ℕ) → state t ≡ Active → now t ≡ Dead
    → ((u : ℕ) → u ≢ t → now u ≡ state u) → (chosen : ℕ → Bool)
    → left_state chosen now ≡ left_state (without t chosen) state
dead_same state now t active dead others chosen = fun_ext (λ u. at u (cases_eq u t))
  where
    by_dead : (b : Bool) → counts_by b Dead ≡ Dead
    by_dead true = refl
    by_dead false = refl

    at : (u : ℕ) → (u ≡ t) ⊎ (u ≢ t)
        → counts_by (chosen u) (now u) ≡ counts_by (not (u == t) && chosen u) (state u)
    at u (inl same) =
        let here : now u ≡ Dead = ap now same ∙ dead in
        let was : state u ≡ Active = ap state same ∙ active in
        ap (counts_by (chosen u)) here ∙ (by_dead (chosen u)
        ∙ sym (ap (λ (b : Bool). counts_by (not b && chosen u) (state u)) (eq-eqb u t same)
        ∙ ap (counts_by false) was))
    at u (inr ne) = ap (counts_by (chosen u)) (others u ne)
        ∙ sym (ap (λ (b : Bool). counts_by (not b && chosen u) (state u)) (ne_eqb u t ne))

pub none_by_dead : (size : ℕ) (state now : ℕ → TxState) (pages : Pages) (t : ℕ) → state t ≡ Active
    → now t ≡ Dead → ((u : ℕ) → u ≢ t → now u ≡ state u) → HasPlainTables size state pages
    → HasPlainTables size now pages
none_by_dead size state now pages t active dead others none = plain_tables_by size state now pages pages none
    (λ chosen layout r sound. record {
      chosen = without t chosen;
      before = layout;
      reading = r;
      sound = subst (λ (x : ℕ → TxState). IsSoundBy packed_form size x pages layout r)
          (dead_same state now t active dead others chosen) sound;
      tables = λ its there. there;
    })

-- directories are complete still
pub noted_by_dead : RowsAreOne packed_coding → StandsOneWay packed_form → (size : ℕ) (state now : ℕ → TxState)
    (pages : Pages) (t : ℕ) → state t ≡ Active → now t ≡ Dead → ((u : ℕ) → u ≢ t → now u ≡ state u)
    → HasPlainTables size state pages → (a : Layout) (r : Reading)
    → IsSoundBy packed_form size (left_state everyone state) pages a r → (kept : Kept)
    → HasDirectories size state pages kept → HasDirectories size now pages kept
noted_by_dead one ways size state now pages t active dead others plain a r first kept noted =
    subst (λ (x : ℕ → TxState). HasNoted packed_form size x pages (by_table kept.dirs))
    (sym (dead_same state now t active dead others everyone))
    (λ b s second. chosen_has packed_form one ways size state pages a r first (without t everyone) b s second
    (table_in_first one size state pages a r first (without t everyone) b s second
    (plain.agree everyone (without t everyone) a b r s first second))
    (by_table kept.dirs) (by_table kept.dirs) noted (λ first_ dir is. is) b s second)

-- and rows of the catalog stand alone
pub known_by_dead : RowsAreOne packed_coding → StandsOneWay packed_form → (from size : ℕ) (state now : ℕ → TxState)
    (pages : Pages) (t : ℕ) → state t ≡ Active → now t ≡ Dead → ((u : ℕ) → u ≢ t → now u ≡ state u)
    → HasPlainTables size state pages → (a : Layout) (r : Reading)
    → IsSoundBy packed_form size (left_state everyone state) pages a r → (kept : Kept)
    → KnowsIts from size state pages kept → KnowsIts from size now pages kept
known_by_dead one ways from size state now pages t active dead others plain a r first kept known = record {
  noted = noted_by_dead one ways size state now pages t active dead others plain a r first kept known.noted;
  lone = λ b s second. lone_beside one from size (left_state everyone state) (left_state everyone now) pages a b r s
      first second (known.lone a r first);
}

-- ---- the engine

module _ {D P : Type 0} (m : Meaning D) (places : Places P) (one : RowsAreOne packed_coding)
    (ways : StandsOneWay packed_form)
    (begins : OpeningsBegin) (rolls : RollbacksGoOn D FireLinks m) (take : OthersTakeAlike) (go : WalksGoAlike)
    (old : Core D) (core : IsCore m old) (waits : List (ℕ × ℕ)) (list : TxList) (t : TxNo)
    (continues : Continues old t.0) (over : NowWaits (edges_in old.waits) (edges_in waits) t.0 None)
    (ends : EndsIn old.list list t.0 Dead) (same_pages : list.pages ≡ old.list.pages) where
  abbrev e : Entry
  e = entry (Rollback t) Fine

  abbrev now : Core D
  now = left_by old waits list old.store t.0

  not_active : Dead ≢ Active
  not_active same = absurd cc

  lawful : (o : Opening) (h : Entries) → StandsFor m old o h → IsLawful o h (entry (Rollback t) Fine)
  lawful o h stands = inl (sym (active_answer (state_of o h t.0) Fine
      (sym ((memory_of m old o h stands).state t.0) ∙ continues.1)))

  follows : (o : Opening) (h : Entries) (stands : StandsFor m old o h)
      → FollowsEntry o h (entry (Rollback t) Fine) (standing_of old stands.numbers stands.tables)
      (standing_of (left_by old waits list old.store t.0) stands.numbers stands.tables)
  follows o h stands = follows_end m places old waits list old.store t.0 Dead ends not_active o h
      (entry (Rollback t) Fine) refl (λ keeps. refl) refl refl over stands.numbers stands.tables

  shows_now : (o : Opening) (h : Entries) (stands : StandsFor m old o h)
      → ShowsIt m old o h (standing_of old stands.numbers stands.tables)
      → ShowsIt m (left_by old waits list old.store t.0) o (entry (Rollback t) Fine ∷ h)
      (standing_of (left_by old waits list old.store t.0) stands.numbers stands.tables)
  shows_now o h stands shows =
      let both = rolls o h (entry (Rollback t) Fine) t.0 (standing_of old stands.numbers stands.tables)
      (standing_of (left_by old waits list old.store t.0) stands.numbers stands.tables) old.store shows.image
      (asked_in old.works) (asked_in (without_work t.0 old.works)) (sessions_in old.works)
      (sessions_in (without_work t.0 old.works)) shows.stands shows.lasts core.pool shows.held stands.grows
      shows.plain_tables (lawful o h stands) refl refl refl continues.1
      (keep_asking m places old waits list old.store t.0 Dead ends not_active o h (entry (Rollback t) Fine) refl)
      (follows o h stands) in record {
        image = shows.image;
        held = shows.held;
        stands = both.0;
        lasts = both.1;
        tips = lists_stay old.list list old.store.geometry.size (shown old.store.dirty shows.image)
            (shown old.store.dirty shows.image) ends.size same_pages refl (λ sequence below. (refl, refl))
            shows.tips;
        catalog = shows.catalog;
        plain_tables = none_by_dead old.store.geometry.size (said old.list) (said list)
            (shown old.store.dirty shows.image) t.0 continues.1 ends.here ends.others shows.plain_tables;
        no_directory = shows.no_directory;
        known = known_by_dead one ways o.next.0 old.store.geometry.size (said old.list) (said list)
            (shown old.store.dirty shows.image) t.0 continues.1 ends.here ends.others shows.plain_tables
            shows.stands.shows.layout shows.stands.shows.reading shows.stands.shows.sound old.directories shows.known;
      }

  shows_of : (o : Opening) (h : Entries) (stands : StandsFor m old o h)
      → ShowsIt m old o h (standing_of old stands.numbers stands.tables)
  shows_of o h stands = subst (λ (off : Option ℕ). StandsWhile m old o h
      (standing_of old stands.numbers stands.tables) off) continues.0 stands.stands

  abbrev stands_now : (o : Opening) (h : Entries) (stands : StandsFor m old o h)
      → StandsFor m (left_by old waits list old.store t.0) o (entry (Rollback t) Fine ∷ h)
  stands_now o h stands = record {
    tells = stands.tells;
    grows = record { limbo = stands.grows.limbo; entries = (refl, stands.grows.entries) };
    bases = stands.bases;
    numbers = stands.numbers;
    tables = stands.tables;
    given = seen_still m places old waits list old.store t.0 stands.tables stands.given;
    kept = kept_without_work t.0 old.catalog.pointer.0 old.works stands.tables stands.kept;
    stands = subst (λ (off : Option ℕ). StandsWhile m (left_by old waits list old.store t.0) o
        (entry (Rollback t) Fine ∷ h)
        (standing_of (left_by old waits list old.store t.0) stands.numbers stands.tables) off)
        (sym continues.0) (shows_now o h stands (shows_of o h stands));
  }

  -- ---- walks

  module _ (o : Opening) (h : Entries) (stands : StandsFor m old o h) (u : ℕ)
      (not_ : is_of u (Some t.0) ≡ false) (active : state_of o h u ≡ Active) (table : Table)
      (seen : stands.tables u table.name ≡ Some table) where
    falls : Falls (left_state everyone (said old.list)) (left_state everyone (said list)) t.0
    falls = record {
      limbo = ap (counts_by true) continues.1;
      dead = ap (counts_by true) ends.here;
      others = λ v ne. ap (counts_by true) (ends.others v ne);
    }

    still : said list u ≡ Active
    still = ends.others u (λ same. absurd (apart_by same)) ∙ ((memory_of m old o h stands).state u ∙ active)
      where
        apart_by : u ≡ t.0 → ⊥
        apart_by same =
            let its : (t.0 == u) ≡ true = eq-eqb t.0 u (sym same) in
            let both : true ≡ false = sym its ∙ not_ in absurd cc

    next_on : (after : Option WalkPlace) (rows : KeyedRows) → (shows : ShowsIt m old o h
        (standing_of old stands.numbers stands.tables))
        → ShowsIt m (left_by old waits list old.store t.0) o (entry (Rollback t) Fine ∷ h)
        (standing_of (left_by old waits list old.store t.0) stands.numbers stands.tables)
        → AreNext m old (standing_of old stands.numbers stands.tables) u table after rows None
        → AreNext m (left_by old waits list old.store t.0)
        (standing_of (left_by old waits list old.store t.0) stands.numbers stands.tables) u table after rows
        None
    next_on after rows shows shows_then (i, held, next) = (
      i,
      held,
      go old.store.geometry.size (standing_of old stands.numbers stands.tables)
          (standing_of (left_by old waits list old.store t.0) stands.numbers stands.tables)
          (shown old.store.dirty i) (shown old.store.dirty i) u table after rows
          (falls_alike one old.store.geometry.size (standing_of old stands.numbers stands.tables)
          (standing_of (left_by old waits list old.store t.0) stands.numbers stands.tables)
          (shown old.store.dirty i) t.0 u table falls
          (take o h (entry (Rollback t) Fine) (standing_of old stands.numbers stands.tables)
          (standing_of (left_by old waits list old.store t.0) stands.numbers stands.tables) u
          (begins o (opening_of m old o h stands)) (lawful o h stands, legal_of m old o h stands)
          (memory_of m old o h stands) (follows o h stands) not_)
          shows_then.stands.shows.layout shows_then.stands.shows.reading
          (subst (λ (pages : Pages). IsSoundBy packed_form old.store.geometry.size
          (left_state everyone (said list)) pages shows_then.stands.shows.layout
          shows_then.stands.shows.reading) same_images shows_then.stands.shows.sound)
          (seen_is_shown shows_then.stands.shows.layout table
          ((shows_then.stands.shows.tables u still).seen table.name table seen))) next,
    )
      where
        same_images : shown old.store.dirty shows_then.image ≡ shown old.store.dirty i
        same_images =
            let both : Some shows_then.image ≡ Some i = sym shows_then.held ∙ held in
            let is : shows_then.image ≡ i = cc in ap (shown old.store.dirty) is

  walks_left : WalksStay (means m places) old (left_by old waits list old.store t.0) (Some t.0)
  walks_left u table after rows not_ comes = record {
    opening = comes.opening;
    entries = entry (Rollback t) Fine ∷ comes.entries;
    stands = stands_now comes.opening comes.entries comes.stands;
    active = still_active m places old waits list old.store t.0 Dead ends not_active comes.opening comes.entries
        (entry (Rollback t) Fine) refl u not_ comes.active;
    seen = given_same m places old waits list old.store t.0 u table.name not_ ∙ comes.seen;
    next = subst (λ (off : Option ℕ). AreNext m (left_by old waits list old.store t.0)
        (standing_of (left_by old waits list old.store t.0) comes.stands.numbers comes.stands.tables) u table
        (place_at places after) rows off) (sym continues.0)
        (next_on comes.opening comes.entries comes.stands u not_ comes.active table
        (comes.stands.given u table.name table comes.seen) (place_at places after) rows
        (shows_of comes.opening comes.entries comes.stands)
        (shows_now comes.opening comes.entries comes.stands (shows_of comes.opening comes.entries comes.stands))
        (subst (λ (off : Option ℕ). AreNext m old
        (standing_of old comes.stands.numbers comes.stands.tables) u table (place_at places after) rows off)
        continues.0 comes.next));
  }

  -- ---- the whole

  pub rollback_gives : AreApart old.works
      → GivesEvent m places old (left_by old waits list old.store t.0) (Rollback t) Fine None (Some t.0) (Some t.0)
      None (Some t.0)
  rollback_gives apart = record {
    adds = λ o h stands. (lawful o h stands, stands_now o h stands);
    leaves = record {
      keeps = keeps_of m places old (left_by old waits list old.store t.0) None (store_stands m old.store)
          (omega arith) (omega arith) (record { cause = tt; offline = rw continues.0 tt; down = refl });
      tables_stay = tables_left m places old waits list old.store t.0;
      walks_stay = walks_left;
      commits = commits_left m places old waits list old.store t.0 (λ page who none. none);
    };
    crash = quiet_of m places old (left_by old waits list old.store t.0) (λ o h stands told. record {
      since = started m old.store.disk (HoldsAcknowledged packed_form old.store.dirty.size o h)
          (left_of m old o h stands);
      left = left_of m old o h stands;
    }) refl;
    sessions = sessions_end m places old (left_by old waits list old.store t.0) t.0 apart refl;
  }

-- ---- the call

pub rollbacks_give : {D P : Type 0} (m : Meaning D) (places : Places P)
    → IdleGoesOn D FireLinks m packed_form → StandsOn packed_form → QuietHolds packed_form
    → RowsAreOne packed_coding → StandsOneWay packed_form → OpeningsBegin → RollbacksGoOn D FireLinks m
    → OthersTakeAlike → WalksGoAlike
    → (old new : Core D) (t : TxNo) (result : Result (Unit {0}) Refusal) → IsCore m old → AreApart old.works
    → MatchResult result (λ _. RollsBack old new t.0) (IsRefused old new t.0)
    → GivesEvent m places old new (Rollback t) (fine_or result) (refusal_in result) (Some t.0) (Some t.0) None
    (ended_in t.0 result)
rollbacks_give m places idle_goes on quiet one ways begins rolls take go old new t (Err refusal) core apart refused =
    refused_gives m places idle_goes on quiet old new t.0 (Rollback t) (λ o h. Fine) refusal (Some t.0) (Some t.0)
    refl (λ o h. refl) refused
rollbacks_give {D} m places idle_goes on quiet one ways begins rolls take go old new t (Ok x) core apart gives =
    subst (λ (c : Core D). GivesEvent m places old c (Rollback t) Fine None (Some t.0) (Some t.0) None (Some t.0))
    (sym gives.same) (rollback_gives m places one ways begins rolls take go old core new.waits new.list t gives.continues
    gives.over gives.ends gives.pages apart)
