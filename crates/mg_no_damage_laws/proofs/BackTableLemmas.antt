-- A transaction is taken back to a point over tables that it has made: the engine finds no page damaged.
use Rattle.std.proofs.Common.{◌≡◌, ◌≢◌, ◌==◌, ◌++◌, ap, refl, sym, subst, ◌∙◌, ℕ, Bool, true, false, List, [], ◌∷◌, Some, Ok, Err}
use Rattle.std.proofs.lemmas.Bool.{ne_eqb}
use Rattle.std.specs.Prelude.{if◌then◌else◌, map}
use Rattle.mg_engine_change_laws.specs.entries.BackEntries.{KeysEnterMidway}
use Rattle.mg_no_damage_laws.specs.BackTrees.{StandAll}
use Rattle.mg_no_damage_laws.specs.EntryBacks.{OthersStandBack}
use Rattle.mg_model.specs.declared.refusal.Refusal.TheVariants as refusals
use Rattle.mg_base.specs.Disk.{Meaning}
use Rattle.mg_base.specs.Image.{Image}
use Rattle.mg_base.specs.declared.damage.Damaged.{Damaged}
use Rattle.mg_base.specs.declared.numbers.TxNo.{TxNo}
use Rattle.mg_core.specs.Cores.{IsCatalog, IsCore}
use Rattle.mg_core.specs.Refusing.{CountsFault}
use Rattle.mg_core.specs.declared.parts.Core.{Core}
use Rattle.mg_engine_change_laws.specs.backs.BackBegun.{goes, knows}
use Rattle.mg_engine_change_laws.specs.backs.Events.{may_go, takes_back}
use Rattle.mg_engine_change_laws.specs.tables_back.CoreRows.{HasTakenRows}
use Rattle.mg_engine_change_laws.specs.keys.Found.{HasNewest}
use Rattle.mg_engine_change_laws.specs.keys.FoundLaws.{changes_are_there}
use Rattle.mg_engine_change_laws.specs.keys.Keys.{HasTakenKeys, IsOfTable}
use Rattle.mg_engine_change_laws.specs.backs.Known.{KnownOfBacks}
use Rattle.mg_engine_change_laws.specs.backs.Memory.{MayGoTo}
use Rattle.mg_engine_change_laws.specs.backs.Outcomes.{back_event}
use Rattle.mg_engine_change_laws.specs.tables_back.OverRows.{StopsAmong, gone_at, has_taken, lost_at, rows_at, stops_among, stops_parts}
use Rattle.mg_engine_change_laws.specs.tables_back.RowsLost.{HasLost}
use Rattle.mg_engine_step_laws.specs.tables_back.TablesBack.{RowsGoOn}
use Rattle.mg_engine_step_laws.specs.backs.DeadMidway.{dead_pool, every_from}
use Rattle.mg_image_overlay_laws.specs.kept.KeptImages.{IsKept}
use Rattle.mg_overlay_laws.specs.Overlays.{left_state, nobody}
use Rattle.mg_engine_change_laws.specs.tables_back.OverGiven.{each_of_table, each_own, keys_are, others_are}
use Rattle.mg_engine_change_laws.specs.tables_back.RowsGiven.{GivenApart, of_catalog, of_others}
use Rattle.mg_engine_change_laws.specs.given_up.StopsAfter.{begun_as}
use Rattle.mg_engine_change_laws.specs.backs.ToTake.{AreKeysOf, EachChange, since_point}
use Rattle.mg_engine_meaning_laws.specs.Standings.{ShowsIt, StandsFor, asked_in, sessions_in, standing_of, undo_kept}
use Rattle.mg_engine_meaning_laws.specs.StepLaws.{shows_of}
use Rattle.mg_engine_step_laws.specs.standing.Standing.{Standing}
use Rattle.mg_engine_step_laws.specs.backs.Again.{again, rolling}
use Rattle.mg_engine_step_laws.specs.tables_back.CatalogPages.{ChangesCatalogPages}
use Rattle.mg_engine_step_laws.specs.writes.GoesOnLaws.{pool_is_kept}
use Rattle.mg_engine_step_laws.specs.tables_back.Outs.{ReadsWithout, RowsGone, is_among}
use Rattle.mg_engine_step_laws.specs.tables.SameRecords.{catalog_stands}
use Rattle.mg_image.specs.Catalog.{catalog_table}
use Rattle.mg_image.specs.Form.{packed_form}
use Rattle.mg_image.specs.Histories.{row_change}
use Rattle.mg_image.specs.Inventory.{header_of}
use Rattle.mg_image.specs.Sound.{IsSoundBy}
use Rattle.mg_image.specs.Tables.{Layout}
use Rattle.mg_image_overlay_laws.specs.tables.Growing.{IsTableOf}
use Rattle.mg_model.specs.Catalog.{catalog_name}
use Rattle.mg_model.specs.Changes.{has_change}
use Rattle.mg_model.specs.History.{Entries, Entry, entry}
use Rattle.mg_model.specs.Machine.{deeds_by, own, steps}
use Rattle.mg_model.specs.declared.answer.Answer.TheVariants.{Fine}
use Rattle.mg_model.specs.declared.change.Change.{Change}
use Rattle.mg_model.specs.declared.change.Point.{Point}
use Rattle.mg_model.specs.declared.change.Point.TheVariants.{LastMark, SavepointNamed}
use Rattle.mg_model.specs.declared.opening.Opening.{Opening}
use Rattle.mg_model.specs.declared.refusal.Refusal.{Refusal}
use Rattle.mg_model.specs.declared.table.Table.{Table}
use Rattle.mg_pool.specs.Pool.{shown}
use Rattle.mg_pool.specs.declared.fault.PoolFault.TheVariants as pool_faults
use Rattle.mg_pool.specs.declared.pool.Pool.{Pool}
use Rattle.mg_space.specs.declared.fault.SpaceFault.{SpaceFault}
use Rattle.mg_space.specs.declared.fault.SpaceFault.TheVariants as faults
use Rattle.mg_space.specs.declared.links.FireLinks.{FireLinks}
use Rattle.mg_seek.specs.Readings.{PlacesOfReadings, SpeakersOfReadings}
use Rattle.mg_table_takings.specs.Keys.{AreKeysGiven, others_of}
use Rattle.mg_table_takings.specs.Takings.{FailsTablesTo, FailsTheRow, StopsBoth, StopsOthers, TakesOthers, TakesRows, TakesTablesTo, no_row, one_row, rows_unknown, stops_at_other, stops_at_rows, tables_not_begun, tables_not_copied, tables_not_taken, tables_stopped}
use Rattle.mg_table_unmaking.specs.Rows.{FailsRowOut}
use Rattle.mg_taking_back.specs.Taking.{HasBegun, MayReach, TakesChanges, not_asking}
use Rattle.mg_txlist.specs.TxList.{said}
use Rattle.mg_undo.specs.Machine.{first_of, given_from, going_to}
use Rattle.mg_undo.specs.Undo.{State as Undo, TakesBack as GivesAll}
use Rattle.mg_undo.specs.declared.changes.Change.{Change as Kept}
use Rattle.mg_value.specs.declared.value.Value.{Value}
use Rattle.mg_works.specs.Works.{unasked, with_work}
use Rattle.mg_no_damage_laws.proofs.BackLemmas.{given_up_stays, taken_stays}
use Rattle.mg_no_damage_laws.proofs.BackKeyLemmas.{own_missing}
use Rattle.mg_no_damage_laws.proofs.NextLemmas.{change_stands, change_stays, given_next}
use Rattle.mg_no_damage_laws.specs.Stands.{DamageStands}
use Rattle.mg_no_damage_laws.specs.BackKeys.{KeysMeetNoDamage, KeysMissNoPage}
use Rattle.mg_no_damage_laws.proofs.RowGivenLemmas.{each_both, each_named, each_of_catalog, key_there, not_before}
use Rattle.mg_no_damage_laws.proofs.RowSpokenLemmas.{active_since, reads_row}
use Rattle.mg_no_damage_laws.proofs.RowThereLemmas.{ReadsRow, row_is_there}
use Rattle.mg_no_damage_laws.specs.BackRows.{RowIsThere, RowsMeetNoDamage}
use Rattle.mg_no_damage_laws.specs.Batches.{ShowsSound}
use Rattle.mg_no_damage_laws.specs.BackTables.{MarksOverMeetNoDamage, SavepointsOverMeetNoDamage}

-- ---- lists

others_on : (page : ℕ) (given rest : List Kept) → others_of page (given ++ rest) ≡ others_of page given ++ others_of page rest
others_on page [] rest = refl
others_on page (c ∷ given) rest = at (c.table == page) (others_on page given rest)
  where
    at : (b : Bool) → others_of page (given ++ rest) ≡ others_of page given ++ others_of page rest
        → (if b then others_of page (given ++ rest) else c ∷ others_of page (given ++ rest))
        ≡ (if b then others_of page given else c ∷ others_of page given) ++ others_of page rest
    at true more = more
    at false more = ap (λ (cs : List Kept). c ∷ cs) more

other_first : (page : ℕ) (c : Kept) (rest : List Kept) → c.table ≢ page
    → others_of page (c ∷ rest) ≡ c ∷ others_of page rest
other_first page c rest ne = rw (ne_eqb c.table page ne) refl

-- ---- the rows

-- the catalog of the core is the one that the header says
catalog_is : (table : Table) (page : ℕ) → IsCatalog table → table.pointer.0 ≡ page → catalog_table page ≡ table
catalog_is table page is at = λ i. record {
  name = sym is.named i;
  shape = sym is.shape i;
  pointer = record { 0 = sym at i };
  indexes = sym is.none i;
}

-- the rows, one after another
rows_stay : {D : Type 0} {m : Meaning D} (t : ℕ) (keys : List Value) (old new : Core D) → TakesRows m t keys old new
    → new.damage ≡ old.damage
rows_stay {D} t keys old new (no_row core) = refl
rows_stay {D} t all old new (one_row key keys begun mid end takes more) =
    rows_stay t keys mid end more ∙ ap (λ (c : Core D). c.damage) takes.same

module _ {D P : Type 0} (m : Meaning D) (known : KnownOfBacks D P m) (apart : GivenApart)
    (go_on : RowsGoOn D FireLinks m) (law : KeysMeetNoDamage D m)
    (missing : KeysMissNoPage D m) (rows_law : RowsMeetNoDamage D m) (speakers : SpeakersOfReadings)
    (places : PlacesOfReadings) (old new : Core D) (t : TxNo) (core : IsCore m old) where
  module _ (point : Point) (begun : Core D) (undo : Undo) (has_begun : HasBegun old begun t.0 undo)
      (reaches : MayReach undo point) (stopped : Core D) (refusal : Refusal) (o : Opening) (h : Entries)
      (stands : StandsFor m old o h) where
    abbrev e : Entry
    e = entry (back_event t point) Fine

    abbrev s : Standing
    s = standing_of old stands.numbers stands.tables

    abbrev whole : List Change
    whole = since_point point (deeds_by t.0 (steps o h))

    abbrev firsts : List Change
    firsts = first_of (since_point point (deeds_by t.0 (steps o h)))

    abbrev told : Change → Kept
    told = given_from (stands.numbers t.0) (own o (entry (back_event t point) Fine ∷ h) t.0)

    shows : ShowsIt m old o h (standing_of old stands.numbers stands.tables)
    shows = shows_of m old o h stands has_begun.continues.0

    begun_is : not_asking t.0 begun ≡ begun_as old begun t.0
    begun_is = ap (λ (c : Core D). not_asking t.0 c) has_begun.ended.same

    may : MayGoTo point (deeds_by t.0 (steps o h))
    may = may_go m old t point undo has_begun.continues has_begun.its o h stands known.notes point reaches

    left_rows : AreKeysOf (of_others firsts ++ of_catalog firsts) (since_point point (deeds_by t.0 (steps o h)))
    left_rows = apart.all firsts whole (known.keys.first whole)

    -- ---- what is given

    module _ (given : List Kept) (end : Undo) (all : GivesAll (going_to undo point) given end) where
      gave : GivesAll (going_to (s.undo t.0) point) given end
      gave = subst (λ (u : Undo). GivesAll (going_to u point) given end)
          (sym has_begun.its.2 ∙ sym (ap undo_kept has_begun.its.1)) all

      others : others_of old.catalog.pointer.0 given
          ≡ map (given_from (stands.numbers t.0) (own o (entry (back_event t point) Fine ∷ h) t.0)) (of_others firsts)
      others = others_are m known.what_was known.keys apart old t.0 point o h e stands shows has_begun.continues.1
          (takes_back t point) may given end gave

      of_tables : EachChange (IsOfTable o h t.0) (of_others firsts)
      of_tables = each_of_table m known.what_was known.keys apart old t.0 point o h e stands shows
          has_begun.continues.1 (takes_back t point) may given end gave

    -- the trees stand at each of the changes of other tables
    pub others_stand : KeysEnterMidway D m → (given : List Kept) (end : Undo) → GivesAll (going_to undo point) given end
        → StandAll m t.0 (not_asking t.0 begun) (others_of (not_asking t.0 begun).catalog.pointer.0 given)
    others_stand enter given end all = subst
        (λ (x : Core D). StandAll m t.0 x (others_of x.catalog.pointer.0 given)) (sym begun_is)
        (λ front later c mid parts takes. change_stands m known law missing old begun mid t point undo core has_begun o h
        stands shows (of_others firsts) (of_catalog firsts) (of_tables given end all) left_rows mid front later c
        (sym parts ∙ others given end all) takes enter)

    -- ---- it stops at a change of another table

    other_stays : StopsOthers m (not_asking t.0 begun) stopped t.0 (going_to undo point) refusal
        → stopped.damage ≡ old.damage
    other_stays stops = change_stays m known law missing old begun stopped t point undo core has_begun o h stands shows
        (of_others firsts) (of_catalog firsts) (of_tables (stops.given ++ rest.0) rest.1 all) left_rows stops.at
        (others_of page stops.given) (others_of page next.0) stops.change told_is takes refusal stops.fails
      where
        page : ℕ
        page = old.catalog.pointer.0

        rest : (given : List Kept) × (end : Undo) × GivesAll stops.left given end
        rest = known.to_end stops.left

        next : (more : List Kept) × (rest.0 ≡ stops.change ∷ more)
        next = given_next stops.left rest.1 rest.0 stops.change stops.next rest.2

        all : GivesAll (going_to undo point) (stops.given ++ rest.0) rest.1
        all = known.gives_on (going_to undo point) stops.left rest.1 stops.given rest.0 stops.steps rest.2

        apart_page : stops.change.table ≢ old.catalog.pointer.0
        apart_page = subst (λ (c : Core D). stops.change.table ≢ c.catalog.pointer.0) begun_is stops.other

        told_is : others_of old.catalog.pointer.0 stops.given
            ++ (stops.change ∷ others_of old.catalog.pointer.0 next.0)
            ≡ map (given_from (stands.numbers t.0) (own o (entry (back_event t point) Fine ∷ h) t.0)) (of_others firsts)
        told_is = ap (λ (ks : List Kept). others_of old.catalog.pointer.0 stops.given ++ ks)
            (sym (other_first old.catalog.pointer.0 stops.change next.0 apart_page))
            ∙ (ap (λ (ks : List Kept). others_of old.catalog.pointer.0 stops.given
            ++ others_of old.catalog.pointer.0 ks) (sym next.1)
            ∙ (sym (others_on old.catalog.pointer.0 stops.given rest.0) ∙ others (stops.given ++ rest.0) rest.1 all))

        takes : TakesChanges m t.0 (begun_as old begun t.0) (others_of old.catalog.pointer.0 stops.given) stops.at
        takes = subst (λ (c : Core D). TakesChanges m t.0 c (others_of c.catalog.pointer.0 stops.given) stops.at)
            begun_is stops.takes

    -- ---- it stops at a row of the catalog

    module _ (mid : Core D) (end : Undo) (taken : TakesOthers m (not_asking t.0 begun) mid t.0 (going_to undo point) end)
        (among : StopsAmong m t.0 refusal mid stopped) (keys more : List Value)
        (rows : AreKeysGiven old.catalog.pointer.0 (going_to undo point) keys)
        (parts : keys ≡ among.done ++ (among.key ∷ more)) where
      abbrev has_others : HasTakenKeys m old.store.geometry.size o h e t.0 whole whole (of_others firsts) (of_catalog firsts) s
          old.store old.store (shown old.store.dirty shows.image) shows.stands.shows shows.image
          (asked_in (with_work t.0 unasked old.works)) (sessions_in old.works) (begun_as old begun t.0) mid
      has_others = has_taken m known apart go_on old begun stopped t point undo refusal core has_begun reaches mid end taken
          o h stands shows

      -- what had gone of the first rows
      has_lost : (j : Image) × HasLost m mid.store.geometry.size o h t.0 s old.store mid among.at has_others.image j
          (asked_in (with_work t.0 unasked old.works)) (sessions_in old.works)
      has_lost = lost_at m known apart go_on old begun stopped t point undo refusal core has_begun reaches mid end taken
          o h stands shows among.done among.at among.first

      abbrev lost : HasLost m mid.store.geometry.size o h t.0 s old.store mid among.at has_others.image has_lost.0
          (asked_in (with_work t.0 unasked old.works)) (sessions_in old.works)
      lost = has_lost.1

      -- with the transaction dead the pages are sound
      dead_now : IsKept packed_form among.at.store.geometry.size o (e ∷ h) (left_state nobody s.state)
          (shown among.at.store.dirty has_lost.0) (shown among.at.store.dirty has_lost.0)
      dead_now = dead_pool o h e point s (asked_in (with_work t.0 unasked old.works)) t.0 shows.stands.memory
          (goes m known old begun t point undo core has_begun o h stands shows) packed_form among.at.store.geometry.size
          among.at.store has_lost.0 (sessions_in old.works) []
          (every_from m packed_form o (rolling t.0 ∷ h) among.at.store has_lost.0
          (asked_in (with_work t.0 unasked old.works)) (sessions_in old.works) lost.knows.pool_is lost.knows.tells.held
          lost.cache.lasts) nobody refl

      shows_now : ShowsSound m among.at.store has_lost.0 (left_state nobody s.state) dead_now.of_pool dead_now.in_pool
      shows_now = record {
        tells = lost.knows.tells;
        geometry = lost.knows.geometry;
        sound = dead_now.pool_sound;
      }

      same_at : among.at ≡ record old {
        waits = begun.waits;
        works = with_work t.0 unasked old.works;
        store = among.at.store;
      }
      same_at = lost.same ∙ ap (λ (c : Core D). record c { store = among.at.store }) has_others.same

      -- ---- the row is there

      abbrev size : ℕ
      size = old.store.geometry.size

      -- its key is that of a change of the catalog, which is not taken back yet
      keys_are_its : map (λ c. c.key) (of_catalog firsts) ≡ among.done ++ (among.key ∷ more)
      keys_are_its = sym (rows taken.given end taken.steps ∙ keys_are m known.what_was known.keys apart old t.0 point o h e
          stands shows has_begun.continues.1 (takes_back t point) may taken.given end
          (gave taken.given end taken.steps)) ∙ parts

      its_change : (c : Change) × ((c.table ≡ catalog_name) × ((has_change has_others.rest c.table c.key ≡ true)
          × (has_change (own o h t.0) c.table c.key ≡ true))) × (c.key ≡ among.key)
      its_change = key_there (λ c. (c.table ≡ catalog_name) × ((has_change has_others.rest c.table c.key ≡ true)
          × (has_change (own o h t.0) c.table c.key ≡ true))) (of_catalog firsts) among.done more among.key
          (each_both (λ c. c.table ≡ catalog_name) (λ c. (has_change has_others.rest c.table c.key ≡ true)
          × (has_change (own o h t.0) c.table c.key ≡ true)) (of_catalog firsts) (each_named firsts)
          (each_both (λ c. has_change has_others.rest c.table c.key ≡ true)
          (λ c. has_change (own o h t.0) c.table c.key ≡ true) (of_catalog firsts) has_others.to_come.each
          (each_of_catalog (λ c. has_change (own o h t.0) c.table c.key ≡ true) firsts
          (each_own m known.what_was known.keys apart old t.0 point o h e stands shows has_begun.continues.1
          (takes_back t point) may taken.given end (gave taken.given end taken.steps))))) keys_are_its

      to_catalog : (changes : List Change) → has_change changes its_change.0.table its_change.0.key ≡ true
          → has_change changes catalog_name among.key ≡ true
      to_catalog changes is = sym (ap (λ (n : List ℕ). has_change changes n its_change.0.key) its_change.1.0
          ∙ ap (has_change changes catalog_name) its_change.2) ∙ is

      newest : HasNewest has_others.rest catalog_name among.key
      newest = changes_are_there has_others.rest catalog_name among.key (to_catalog has_others.rest its_change.1.1.0)

      not_done : is_among among.done among.key ≡ false
      not_done = not_before (of_catalog firsts) among.done more among.key (each_named firsts) has_others.to_come.apart
          keys_are_its

      -- between the rows, with the transaction dead
      mid_dead : IsKept packed_form old.store.geometry.size o (again t.0 has_others.rest (e ∷ h))
          (left_state nobody s.state) (shown mid.store.dirty has_others.image) (shown mid.store.dirty has_others.image)
      mid_dead = pool_is_kept packed_form D FireLinks size o (again t.0 has_others.rest (e ∷ h)) s.state
          (asked_in (with_work t.0 unasked old.works)) (sessions_in old.works) mid.store has_others.image nobody
          has_others.midway.cache.kept

      abbrev has_rows : HasTakenRows m s t.0 among.done mid among.at has_others.image
      has_rows = rows_at m known apart go_on old begun stopped t point undo refusal core has_begun reaches mid end taken
          o h stands shows among.done among.at among.first

      same_image : has_rows.image ≡ has_lost.0
      same_image = let both : Some has_rows.image ≡ Some has_lost.0 =
          sym has_rows.knows.tells.held ∙ lost.knows.tells.held in cc

      gone : RowsGone packed_form old.store.geometry.size o (again t.0 has_others.rest (e ∷ h)) s.state t.0 among.done
          (shown mid.store.dirty has_others.image) (shown among.at.store.dirty has_lost.0)
      gone = subst (λ (n : ℕ). RowsGone packed_form n o (again t.0 has_others.rest (e ∷ h)) s.state t.0 among.done
          (shown mid.store.dirty has_others.image) (shown among.at.store.dirty has_lost.0)) has_others.knows.size_is
          (subst (λ (i : Image). RowsGone packed_form mid.store.geometry.size o (again t.0 has_others.rest (e ∷ h)) s.state
          t.0 among.done (shown mid.store.dirty has_others.image) (shown among.at.store.dirty i)) same_image
          (gone_at m known apart go_on old begun stopped t point undo refusal core has_begun reaches mid end taken o h
          stands shows among.done among.at among.first))

      sound_at : IsSoundBy packed_form old.store.geometry.size (left_state nobody s.state)
          (shown among.at.store.dirty has_lost.0) dead_now.of_pool dead_now.in_pool
      sound_at = subst (λ (n : ℕ). IsSoundBy packed_form n (left_state nobody s.state)
          (shown among.at.store.dirty has_lost.0) dead_now.of_pool dead_now.in_pool)
          (lost.size_is ∙ has_others.knows.size_is) dead_now.pool_sound

      without_these : (mid_dead.of_pool ≡ dead_now.of_pool)
          × ReadsWithout t.0 among.done mid_dead.of_pool mid_dead.in_pool dead_now.in_pool
          × ChangesCatalogPages old.store.geometry.size (shown mid.store.dirty has_others.image)
          (shown among.at.store.dirty has_lost.0) mid_dead.of_pool
      without_these = gone nobody refl mid_dead dead_now.of_pool dead_now.in_pool sound_at

      reads : ReadsRow s.state s.live t.0 mid_dead.of_pool dead_now.in_pool has_others.midway.pages.layout.catalog.table
          among.key
      reads = reads_row known.rows_one size o h e t.0 whole has_others.rest s (shown old.store.dirty shows.image)
          (shown mid.store.dirty has_others.image) shows.stands.shows has_others.midway.pages shows.stands.memory
          has_begun.continues.1 among.key (row_change newest.row) newest.is_
          (to_catalog (own o h t.0) its_change.1.1.1) o.next.0
          (shows.known.lone shows.stands.shows.layout shows.stands.shows.reading shows.stands.shows.sound)
          (active_since o h shows.stands.opening.ended shows.stands.legal t.0
          (sym (shows.stands.memory.state t.0) ∙ has_begun.continues.1)) mid_dead.of_pool mid_dead.in_pool
          mid_dead.pool_sound dead_now.in_pool among.done without_these.1 not_done

      -- by the catalog of the core
      mid_catalog_is : has_others.midway.pages.layout.catalog.table ≡ old.catalog
      mid_catalog_is = has_others.midway.pages.sound.catalog
          ∙ catalog_is old.catalog (header_of (shown mid.store.dirty has_others.image)).catalog.0 core.catalog
          has_others.catalog

      catalog_at : catalog_table (header_of (shown among.at.store.dirty has_lost.0)).catalog.0 ≡ old.catalog
      catalog_at = catalog_is old.catalog (header_of (shown among.at.store.dirty has_lost.0)).catalog.0 core.catalog
          (has_others.catalog ∙ sym lost.tips.catalog)

      row_there : RowIsThere (said old.list) old.live t.0 (shown among.at.store.dirty has_lost.0) old.catalog among.key
      row_there = row_is_there speakers places size (left_state nobody s.state) (shown among.at.store.dirty has_lost.0)
          dead_now.of_pool dead_now.in_pool sound_at s.state s.live t.0 has_begun.continues.1 old.catalog
          (subst (IsTableOf dead_now.of_pool) (sound_at.catalog ∙ catalog_at) (catalog_stands dead_now.of_pool)) among.key
          (subst (λ (x : Table). ReadsRow s.state s.live t.0 dead_now.of_pool dead_now.in_pool x among.key) mid_catalog_is
          (subst (λ (l : Layout). ReadsRow s.state s.live t.0 l dead_now.in_pool
          has_others.midway.pages.layout.catalog.table among.key) without_these.0 reads))

      fault_stays : (fault : SpaceFault) → FailsRowOut m among.at.store stopped.store (said old.list)
          old.live t.0 old.catalog among.key fault → (shortages : ℕ)
          → CountsFault fault old.damage stopped.damage old.shortages shortages → stopped.damage ≡ old.damage
      fault_stays (faults.Full limit) fails shortages counts = counts.0
      fault_stays (faults.Damaged it) fails shortages counts = absurd (rows_law among.at.store stopped.store has_lost.0
          (left_state nobody s.state) dead_now.of_pool dead_now.in_pool shows_now (said old.list) old.live t.0 old.catalog
          among.key catalog_at row_there it fails)
      fault_stays (faults.Pool (pool_faults.DiskRead n)) fails shortages counts = counts.0
      fault_stays (faults.Pool (pool_faults.DiskWrite n)) fails shortages counts = counts.0
      fault_stays (faults.Pool (pool_faults.Offline n)) fails shortages counts = counts.0
      fault_stays (faults.Pool (pool_faults.Absent n)) fails shortages counts =
          absurd (own_missing m among.at.store stopped.store _ _ n fails)
      fault_stays (faults.Pool pool_faults.Memory) fails shortages counts = counts.0

      row_stays : stopped.damage ≡ old.damage
      row_stays =
          let there = subst (λ (c : Core D). FailsTheRow m c stopped t.0 among.key refusal) same_at among.fails in
          fault_stays there.fault there.fails stopped.shortages there.counts

    both_stay : (keys : List Value) → AreKeysGiven begun.catalog.pointer.0 (going_to undo point) keys
        → StopsBoth m (not_asking t.0 begun) stopped t.0 (going_to undo point) keys refusal
        → stopped.damage ≡ old.damage
    both_stay keys rows (stops_at_other stops) = other_stays stops
    both_stay keys rows (stops_at_rows mid end taken fails) =
        let (more, parts) = stops_parts m t.0 refusal keys mid stopped fails in
        row_stays mid end taken (stops_among m t.0 refusal keys mid stopped fails) keys more
        (subst (λ (c : Core D). AreKeysGiven c.catalog.pointer.0 (going_to undo point) keys) begun_is rows) parts

  -- ---- each outcome

  pub over_fails : (point : Point) (refusal : Refusal) → FailsTablesTo m old new t.0 point refusal
      → DamageStands m old new
  over_fails point refusal (tables_not_begun refused) o h stands told = ap (λ (c : Core D). c.damage) refused.wait.same
  over_fails point refusal (tables_not_copied begun continues ended is gives) o h stands told =
      given_up_stays begun new t.0 refusal gives ∙ ap (λ (c : Core D). c.damage) ended.same
  over_fails point refusal (tables_not_taken begun undo has_begun reaches (rows_unknown is gives)) o h stands told =
      given_up_stays begun new t.0 refusal gives ∙ ap (λ (c : Core D). c.damage) has_begun.ended.same
  over_fails point refusal (tables_not_taken begun undo has_begun reaches (tables_stopped keys stopped rows stops gives))
      o h stands told = given_up_stays stopped new t.0 refusal gives
      ∙ both_stay point begun undo has_begun reaches stopped refusal o h stands keys rows stops

  pub over_takes : (point : Point) → TakesTablesTo m old new t.0 point → new.damage ≡ old.damage
  over_takes point takes = ap (λ (c : Core D). c.damage) takes.takes.same
      ∙ (rows_stay t.0 takes.takes.keys takes.takes.takes.mid takes.takes.taken takes.takes.takes.rows
      ∙ (taken_stays m t.0 (not_asking t.0 takes.begun) takes.takes.takes.mid
      (others_of takes.begun.catalog.pointer.0 takes.takes.takes.others.given) takes.takes.takes.others.takes
      ∙ ap (λ (c : Core D). c.damage) takes.has_begun.ended.same))

pub marks_over_meet_no_damage : {D P : Type 0} (m : Meaning D) → KnownOfBacks D P m → GivenApart
    → RowsGoOn D FireLinks m → KeysMeetNoDamage D m → KeysMissNoPage D m → RowsMeetNoDamage D m → SpeakersOfReadings
    → PlacesOfReadings → MarksOverMeetNoDamage D m
marks_over_meet_no_damage m known apart go_on law missing rows_law speakers places old new t (Ok x) core takes o h stands
    told = over_takes m known apart go_on law missing rows_law speakers places old new t core LastMark takes
marks_over_meet_no_damage m known apart go_on law missing rows_law speakers places old new t (Err refusal) core fails o h
    stands told =
    over_fails m known apart go_on law missing rows_law speakers places old new t core LastMark refusal fails o h stands told

pub savepoints_over_meet_no_damage : {D P : Type 0} (m : Meaning D) → KnownOfBacks D P m → GivenApart
    → RowsGoOn D FireLinks m → KeysMeetNoDamage D m → KeysMissNoPage D m → RowsMeetNoDamage D m → SpeakersOfReadings
    → PlacesOfReadings → SavepointsOverMeetNoDamage D m
savepoints_over_meet_no_damage m known apart go_on law missing rows_law speakers places old new t name (Ok true) core gone o
    h stands told =
    over_takes m known apart go_on law missing rows_law speakers places old new t core (SavepointNamed name) gone.1
savepoints_over_meet_no_damage {D} m known apart go_on law missing rows_law speakers places old new t name (Ok false) core
    gone o h stands told = ap (λ (c : Core D). c.damage) gone.2
savepoints_over_meet_no_damage m known apart go_on law missing rows_law speakers places old new t name (Err refusal) core
    fails o h stands told = over_fails m known apart go_on law missing rows_law speakers places old new t core
    (SavepointNamed name) refusal fails o h stands told

-- the trees stand at each change of another table than the catalog
pub others_stand_back : {D P : Type 0} (m : Meaning D) → KnownOfBacks D P m → GivenApart → RowsGoOn D FireLinks m
    → KeysMeetNoDamage D m → KeysMissNoPage D m → RowsMeetNoDamage D m → SpeakersOfReadings → PlacesOfReadings
    → KeysEnterMidway D m → OthersStandBack D m
others_stand_back m known apart go_on law missing rows_law speakers places enter old begun t point undo core has_begun
    reaches o h stands given end all = others_stand m known apart go_on law missing rows_law speakers places old old t core
    point begun undo has_begun reaches old refusals.Memory o h stands enter given end all
