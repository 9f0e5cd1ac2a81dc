-- A table is made: its batch takes the engine to the history with an entry for each row, and with all that came before
-- the batch this is what a keeper of records owes.
use Rattle.std.proofs.Common.{◌≡◌, ◌≢◌, ◌⊎◌, inl, inr, refl, sym, ap, ◌∙◌, subst, ◌≤◌, arith, ℕ, true, false, List, [], ◌∷◌, Option, None, Some}
use Rattle.std.specs.Prelude.{All}
use Rattle.std.proofs.lemmas.Bool.{eqb-true}
use Rattle.mg_base.specs.Disk.{Meaning}
use Rattle.mg_base.specs.Image.{Image}
use Rattle.mg_base.specs.declared.geometry.Geometry.{Geometry}
use Rattle.mg_base.specs.declared.numbers.TxNo.{TxNo}
use Rattle.mg_base.specs.declared.transaction.TxState.TheVariants.{Active}
use Rattle.mg_value.specs.Names.{IsName}
use Rattle.mg_value.specs.declared.shape.Column.{Column}
use Rattle.mg_value.specs.declared.shape.Shape.{Shape}
use Rattle.mg_value.specs.declared.value.Value.{Value}
use Rattle.mg_model.specs.declared.event.Mode.{Mode}
use Rattle.mg_model.specs.declared.opening.Opening.{Opening}
use Rattle.mg_model.specs.declared.table.Table.{Table}
use Rattle.mg_model.specs.Catalog.{catalog_name, catalog_shape, key_of}
use Rattle.mg_model.specs.Changes.{Cells, KeyedRows}
use Rattle.mg_model.specs.History.{Entries}
use Rattle.mg_model.specs.Laws.{OpeningsBegin}
use Rattle.mg_model.specs.Legal.{durable_count}
use Rattle.mg_model.specs.Machine.{state_of}
use Rattle.mg_records.specs.Crashing.{LeavesOnly, LeavesQuietly}
use Rattle.mg_records.specs.Keeping.{WalksStay}
use Rattle.mg_records.specs.Writing.{FitsPage, InsertsEach, IsNewShape, rows_made}
use Rattle.mg_image.specs.Form.{packed_coding, packed_form}
use Rattle.mg_image.specs.ReadingLaws.{RowsAreOne}
use Rattle.mg_lasting_laws.specs.Changing.{QuietHolds}
use Rattle.mg_lasting_laws.specs.Crashes.{HoldsAcknowledged, HoldsFrom, LeavesSince, asked}
use Rattle.mg_lasting_laws.specs.Lasting.{LastsOn}
use Rattle.mg_lasting_laws.specs.PoolLaws.{HoldsOne}
use Rattle.mg_pool.specs.Pool.{IsPool, shown}
use Rattle.mg_pool.specs.declared.pool.Pool.{Pool}
use Rattle.mg_space.specs.Taking.{IsGeometry}
use Rattle.mg_space.specs.View.{Tells}
use Rattle.mg_space.specs.ViewLaws.{CountsNow}
use Rattle.mg_space.specs.declared.links.FireLinks.{FireLinks}
use Rattle.mg_tie_laws.specs.Changed.{fresh}
use Rattle.mg_image_overlay_laws.specs.tables.StandOwners.{OwnersKeepStandsApart}
use Rattle.mg_tie_laws.specs.Filled.{catalog_of}
use Rattle.mg_table_batch.specs.Filling.{FillsTable, rows_at}
use Rattle.mg_table_batch.specs.Making.{MakesAtOnce, MakesTable}
use Rattle.mg_table_making.specs.Creating.{CreatesTable}
use Rattle.mg_table_making.specs.Keeping.{works_made}
use Rattle.mg_table_making.specs.Keys.{keys_made}
use Rattle.mg_tie_laws.specs.Ties.{IsOneOf}
use Rattle.mg_txlist.specs.TxList.{said}
use Rattle.mg_waits.specs.Waits.{NowWaits, edges_in}
use Rattle.mg_works.specs.Works.{Working, given_by, given_to, work_of}
use Rattle.mg_core.specs.Cores.{IsCatalog, IsCore}
use Rattle.mg_core.specs.declared.parts.Core.{Core}
use Rattle.mg_engine_change_laws.specs.tables.JoinedBatch.{MadeTableKeeps}
use Rattle.mg_engine_change_laws.specs.tables.NewTable.{RowsSayTable}
use Rattle.mg_engine_change_laws.specs.tables.Remembering.{RowsAreRemembered}
use Rattle.mg_engine_change_laws.specs.tables.Rows.{AreLawful, MayMake, RowsFollow, row_entry, with_rows}
use Rattle.mg_engine_change_laws.specs.tables.Seen.{MadeAreSeen}
use Rattle.mg_engine_step_laws.specs.reads.AnswersLaws.{SpeakersAreTold}
use Rattle.mg_engine_step_laws.specs.writes.Batches.{BatchesLast, ReadsLast}
use Rattle.mg_engine_step_laws.specs.commits.ListShows.{BehindKeepsTips, ListsStay}
use Rattle.mg_engine_step_laws.specs.standing.Standing.{Standing}
use Rattle.mg_engine_step_laws.specs.reads.Walking.{AreToCome, WalkPlace}
use Rattle.mg_engine_step_laws.specs.writes.Writes.{IsSilentAt}
use Rattle.mg_engine_step_laws.specs.writes.Knowing.{WasChanged}
use Rattle.mg_engine_step_laws.specs.commits.Unasked.{UnaskingLasts}
use Rattle.mg_engine_meaning_laws.specs.FrameLaws.{apart_from, commits_of, kept_all, keeps_of, sessions_of, tables_of}
use Rattle.mg_engine_meaning_laws.specs.Frames.{WorksStay}
use Rattle.mg_engine_meaning_laws.specs.LawfulLaws.{memory_of}
use Rattle.mg_engine_meaning_laws.specs.Meaning.{AreNext, Places, means, place_at}
use Rattle.mg_engine_meaning_laws.specs.Standings.{Numbers, ShowsIt, StandsFor, Tables, asked_in, asked_kept, mode_kept, session_kept, sessions_in, standing_of}
use Rattle.mg_engine_meaning_laws.specs.StepLaws.{as_standing, shows_of}
use Rattle.mg_engine_change_laws.specs.rows.Laid.{bare_standing}
use Rattle.mg_engine_change_laws.specs.rows.MadeLaws.{StoreOn, on_then, own_on}
use Rattle.mg_engine_change_laws.specs.memory.Notes.{HasRead}
use Rattle.mg_engine_change_laws.specs.tables.Growth.{GrowthsStay}
use Rattle.mg_engine_change_laws.specs.tables.MadePages.{MadePages}
use Rattle.mg_engine_change_laws.specs.tables.MadeShown.{made_pages}
use Rattle.mg_image_overlay_laws.specs.tables.OneLayout.{StandsOneWay}
use Rattle.mg_engine_change_laws.specs.tables.MadeStands.{made_stands}
use Rattle.mg_engine_change_laws.specs.tables.Silent.{IsSilentIn}
use Rattle.mg_engine_change_laws.specs.tables.MakingStageLaws.{EachKey, all_come, all_silent, come_self, key_of_row, online, read_come, since}
use Rattle.mg_engine_change_laws.specs.tables.MakingStages.{GoesOnRows, HasCome}
use Rattle.mg_engine_change_laws.specs.tables.MakingSteps.{GivesTable, MayHave, TablesAreMade}
use Rattle.mg_engine_change_laws.specs.memory.WorksMade.{made_asked, made_stay}

-- ---- the batch

-- the laws that a batch with a table stands on
pub record KnownOfTables (D : Type 0) (m : Meaning D) : Type 0 where
  pub one : RowsAreOne packed_coding
  pub one_way : StandsOneWay packed_form
  pub begins : OpeningsBegin
  pub behind : BehindKeepsTips
  pub apart : OwnersKeepStandsApart packed_form
  pub say : RowsSayTable
  pub follow : RowsFollow
  pub seen : MadeAreSeen
  pub remembered : RowsAreRemembered
  pub lists : ListsStay
  pub keep : MadeTableKeeps packed_form D FireLinks m
  pub batches : BatchesLast D FireLinks m packed_form
  pub quiet : QuietHolds packed_form
  pub unask : UnaskingLasts packed_form D FireLinks m
  pub holds : HoldsOne D m
  pub counts_now : CountsNow m
  pub speakers : SpeakersAreTold
  pub reads : ReadsLast D FireLinks m packed_form
  pub grow : GrowthsStay D m

module _ {D : Type 0} (m : Meaning D) (known : KnownOfTables D m) (core : Core D) (pool : IsPool m core.store)
    (geometry : IsGeometry core.store.geometry) (cat_ok : IsCatalog core.catalog) (up : core.store.offline ≡ None)
    (t : TxNo) (counts : said core.list t.0 ≡ Active) (work : Working) (work_is : work_of core.works t.0 ≡ Some work)
    (writes : work.mode.read_only ≡ false) (name : List ℕ) (shape : Shape) (named : IsName name)
    (other : name ≢ catalog_name) (new_shape : IsNewShape shape)
    (columns : All (λ (c : Column). IsName c.name) shape.columns) (fits : FitsPage core.store.geometry.size shape)
    (after : Pool D FireLinks) (waits : List (ℕ × ℕ)) (over : NowWaits (edges_in core.waits) (edges_in waits) t.0 None)
    (makes : MakesAtOnce m core.catalog t.0 name shape core.store after) where
  abbrev works_now : List Working
  works_now = works_made t.0 core.catalog.pointer.0 (keys_made core.catalog.shape name shape) core.works

  abbrev pub made_core : Core D
  made_core = record core {
    store = after;
    waits = waits;
    works = works_made t.0 core.catalog.pointer.0 (keys_made core.catalog.shape name shape) core.works;
  }

  told_after : m.tells core.store.disk ≡ true → m.tells after.disk ≡ true
  told_after told = ap m.tells (makes.changed.changes.enters.disk ∙ makes.changed.changes.puts.disk)
      ∙ (makes.changed.changes.written.tells ∙ (makes.keeps.disk.tells ∙ told))

  after_geometry : after.geometry ≡ core.store.geometry
  after_geometry = makes.changed.geometry ∙ makes.keeps.geometry

  module _ (o : Opening) (h : Entries) (stands : StandsFor m core o h)
      (silent : EachKey (IsSilentIn m core o h) (keys_made core.catalog.shape name shape)) where
    shows : ShowsIt m core o h (standing_of core stands.numbers stands.tables)
    shows = shows_of m core o h stands up

    abbrev s : Standing
    s = standing_of core stands.numbers stands.tables

    told_now : Tells m core.store.disk shows.image
    told_now = record { told = stands.tells; held = shows.held }

    is_active : state_of o h t.0 ≡ Active
    is_active = sym (shows.stands.memory.state t.0) ∙ counts

    may_make : MayMake o h t
    may_make = record {
      active = is_active;
      writes = ap (λ (x : Mode). x.read_only) (sym (shows.stands.memory.active t.0 is_active).mode
          ∙ ap mode_kept work_is) ∙ writes;
    }

    catalog_is : core.catalog ≡ catalog_of (shown core.store.dirty shows.image)
    catalog_is i = record {
      name = cat_ok.named i;
      shape = cat_ok.shape i;
      pointer = record { 0 = shows.catalog i };
      indexes = cat_ok.none i;
    }

    lasts_now : LastsOn m packed_form o h core.store (asked_in works_now) (sessions_in core.works)
    lasts_now = known.unask o h core.store (asked_in core.works) (asked_in works_now) (sessions_in core.works) t.0
        (made_asked t.0 core.catalog.pointer.0 (keys_made core.catalog.shape name shape) core.works)
        (λ u ne. ap asked_kept ((made_stay t.0 core.catalog.pointer.0 (keys_made core.catalog.shape name shape)
        core.works).others u ne)) shows.lasts

    row_silent : (row : Cells) → IsOneOf (rows_at name shape 0) row → IsSilentAt packed_form core.store.geometry.size o h
        (standing_of core stands.numbers stands.tables) (shown core.store.dirty shows.image) shows.stands.shows
        catalog_name (key_of catalog_shape row)
    row_silent row is chain of = key_of_row (IsSilentIn m core o h) (key_of catalog_shape) (rows_at name shape 0)
        (subst (λ (x : Shape). EachKey (IsSilentIn m core o h) (keys_made x name shape)) cat_ok.shape silent) row is
        shows.image shows.held shows.stands.shows.layout shows.stands.shows.reading shows.stands.shows.sound
        shows.stands.shows.versions chain of

    module _ (j : Image) (held : m.held after.disk ≡ Some j) where
      was : WasChanged m core.store after shows.image j makes.batch
      was = record {
        pool = pool;
        changes = record {
          ready = makes.ready;
          geometry = geometry;
          keeps = makes.keeps;
          frame = makes.changed.frame;
          tells = told_now;
          held = held;
        };
        crash = makes.changed.crash;
        tells = told_after stands.tells;
      }

      fills : FillsTable core.store shows.image (catalog_of (shown core.store.dirty shows.image)) t.0 name shape fresh
          makes.batch
      fills = subst (λ (x : Table). FillsTable core.store shows.image x t.0 name shape fresh makes.batch) catalog_is
          (makes.filled shows.image told_now)

      made : MadePages m o h (standing_of core stands.numbers stands.tables) core.store after shows.image j
          (asked_in (works_made t.0 core.catalog.pointer.0 (keys_made core.catalog.shape name shape) core.works))
          (sessions_in core.works) shows.stands t name shape fills.page
      made = made_pages known.one known.begins known.behind known.apart known.say known.follow m known.keep known.batches
          known.quiet o h s core.store after shows.image j makes.batch (asked_in works_now) (sessions_in core.works)
          shows.stands t lasts_now was counts (made_asked t.0 core.catalog.pointer.0
          (keys_made core.catalog.shape name shape) core.works) may_make shows.plain_tables name shape named other
          new_shape columns fits fills row_silent

      stands_now : StandsFor m made_core o (with_rows t (rows_made name shape) h)
      stands_now = made_stands known.one_way known.begins known.seen known.remembered known.lists m core cat_ok o h stands shows t counts
          work work_is may_make name shape other new_shape fills.page after j waits over made (told_after stands.tells)
          held makes.changed.online.1 after_geometry

      goes : GoesOnRows m core made_core o h t name shape
      goes = record {
        lawful = made.lawful;
        stands = stands_now;
        leaves = made.leaves;
        walks = λ i is u ne also x from rows next. (
          j,
          held,
          as_standing after.geometry.size s (bare_standing made_core) (shown after.dirty j) u x from rows refl refl
              (subst (λ (g : Geometry). AreToCome g.size s (shown after.dirty j) u x from rows) (sym after_geometry)
              (made.walks u ne also x from rows (as_standing core.store.geometry.size (bare_standing core) s
              (shown core.store.dirty shows.image) u x from rows refl refl
              (subst (λ (k : Image). AreToCome core.store.geometry.size (bare_standing core) (shown core.store.dirty k)
              u x from rows) (let both : Some i ≡ Some shows.image = sym is ∙ shows.held in same i shows.image both)
              next)))),
        );
      }
        where
          same : (a b : Image) → Some a ≡ Some b → a ≡ b
          same a b both = cc

    pub goes_on : GoesOnRows m core (record core {
      store = after;
      waits = waits;
      works = works_made t.0 core.catalog.pointer.0 (keys_made core.catalog.shape name shape) core.works;
    }) o h t name shape
    goes_on = let (j, held, left) = known.holds after.disk (told_after stands.tells) in goes j held

-- ---- the call

-- a row each of which comes
inserts : {D P : Type 0} (m : Meaning D) (places : Places P) (new : Core D) (o : Opening) (t : TxNo) (rows : List Cells)
    (h : Entries) → AreLawful o t rows h → StandsFor m new o (with_rows t rows h)
    → InsertsEach (means m places) new o t rows h None
inserts m places new o t [] h lawful stands = stands
inserts m places new o t (row ∷ rows) h lawful stands =
    inl (lawful.0, inserts m places new o t rows (row_entry t row ∷ h) lawful.1 stands)

module _ {D P : Type 0} (m : Meaning D) (known : KnownOfTables D m) (places : Places P) (old new : Core D) (t : TxNo)
    (name : List ℕ) (shape : Shape) (core : IsCore m old) (may : MayHave m places old name shape)
    (created : CreatesTable m old new t name shape) where
  abbrev free : Core D
  free = created.free

  up : old.store.offline ≡ None
  up = online known.one known.speakers m known.counts_now old core t name shape created.free created.may

  read : HasRead m old created.free t.0
  read = since known.one known.speakers m known.counts_now old core t name shape created.free created.may

  active : said old.list t.0 ≡ Active
  active = created.may.has_begun.continues.1

  catalog_same : created.free.catalog ≡ old.catalog
  catalog_same = ap (λ (c : Core D). c.catalog) read.same

  table_made : MakesTable m old.catalog t.0 name shape created.free.store new.store
  table_made = subst (λ (c : Table). MakesTable m c t.0 name shape created.free.store new.store) catalog_same
      created.puts.makes

  come : HasCome m places old table_made.grown t.0
  come = all_come m places known.begins known.reads known.grow old t active name shape table_made.count
      created.free.store table_made.grown (read_come m places known.begins known.reads known.grow old t active old.store
      created.free.store (come_self m places known.begins known.reads known.grow old t active core.pool core.geometry up)
      read.keeps) table_made.grows

  abbrev mid : Core D
  mid = record old { store = table_made.grown }

  abbrev keys : List Value
  keys = keys_made old.catalog.shape name shape

  abbrev now : Core D
  now = record old {
    store = new.store;
    waits = created.free.waits;
    works = works_made t.0 old.catalog.pointer.0 (keys_made old.catalog.shape name shape) old.works;
  }

  new_is : new ≡ record old {
    store = new.store;
    waits = created.free.waits;
    works = works_made t.0 old.catalog.pointer.0 (keys_made old.catalog.shape name shape) old.works;
  }
  new_is = created.puts.same ∙ (ap (λ (n : ℕ). record created.free {
    store = new.store;
    works = works_made t.0 n (keys_made old.catalog.shape name shape) created.free.works;
  }) (ap (λ (c : Table). c.pointer.0) catalog_same) ∙ ap (λ (c : Core D). record c {
    store = new.store;
    works = works_made t.0 old.catalog.pointer.0 (keys_made old.catalog.shape name shape) c.works;
  }) read.same)

  work_is : work_of old.works t.0 ≡ Some created.may.has_begun.may.work
  work_is = sym (ap (λ (c : Core D). work_of c.works t.0) created.may.has_begun.ended.same)
      ∙ created.may.has_begun.may.its

  fits_now : FitsPage table_made.grown.geometry.size shape
  fits_now = subst (λ (g : Geometry). FitsPage g.size shape) (sym come.so.goes.geometry)
      (subst (λ (n : ℕ). FitsPage n shape) (sym (eqb-true old.store.geometry.size may.fits.0 may.fits.1)) may.fits.2)

  all_goes : (o : Opening) (h : Entries) → StandsFor m old o h → GoesOnRows m mid now o h t name shape
  all_goes o h stands = goes_on m known mid come.pool come.geometry core.catalog come.up t active
      created.may.has_begun.may.work work_is created.may.has_begun.may.writes name shape may.named may.other may.new
      may.new.named fits_now new.store created.free.waits read.over table_made.makes o h (come.so.stands o h stands)
      (each_come keys (all_silent known.one known.speakers m known.counts_now old core t name shape created.free
      created.may o h stands))
    where
      each_come : (ks : List Value) → EachKey (IsSilentIn m old o h) ks → EachKey (IsSilentIn m mid o h) ks
      each_come [] each = tt
      each_come (k ∷ ks) each = (come.silent o h stands k each.0, each_come ks each.1)

  -- ---- the store, and what is kept

  pub made_works : new.works ≡ works_made t.0 old.catalog.pointer.0 (keys_made old.catalog.shape name shape) old.works
  made_works = ap (λ (c : Core D). c.works) new_is

  store_on : StoreOn m old.store new.store
  store_on = on_then m old.store table_made.grown new.store
      (record { goes = come.so.goes; online = come.up; unmarked = come.so.unmarked })
      (own_on m table_made.grown new.store _ table_made.makes)

  second_on : StoreOn m table_made.grown new.store
  second_on = own_on m table_made.grown new.store _ table_made.makes

  stay : WorksStay old.works now.works t.0
  stay = made_stay t.0 old.catalog.pointer.0 keys old.works

  given_same : (u : ℕ) (n : List ℕ) → u ≢ t.0 → given_to now.works u n ≡ given_to old.works u n
  given_same u n ne = ap (λ (w : Option Working). given_by w n) (stay.others u ne)

  -- ---- walks

  next_on : (i : Image) → m.held table_made.grown.disk ≡ Some i → (o : Opening) (h : Entries)
      (its : GoesOnRows m mid now o h t name shape) (n : Numbers) (x : Tables) (u : ℕ) → u ≢ t.0
      → said old.list u ≡ Active → (its_table : Table) (from : Option WalkPlace) (rows : KeyedRows)
      → AreToCome table_made.grown.geometry.size (standing_of mid n x) (shown table_made.grown.dirty i) u its_table from
      rows → AreNext m now (standing_of now its.stands.numbers its.stands.tables) u its_table from rows None
  next_on i held o h its n x u ne also its_table from rows next =
      let (k, held_now, then_) = its.walks i held u ne also its_table from rows
      (as_standing table_made.grown.geometry.size (standing_of mid n x) (bare_standing mid)
      (shown table_made.grown.dirty i) u its_table from rows refl refl next) in (
        k,
        held_now,
        as_standing new.store.geometry.size (bare_standing now) (standing_of now its.stands.numbers its.stands.tables)
            (shown new.store.dirty k) u its_table from rows refl refl then_,
      )

  walks_on : WalksStay (means m places) old now (Some t.0)
  walks_on u its_table from rows not_ comes =
      let passed = come.so.walks u its_table from rows not_ comes in
      let its : GoesOnRows m mid now comes.opening comes.entries t name shape =
      all_goes comes.opening comes.entries comes.stands in
      let next : AreNext m mid (standing_of mid passed.stands.numbers passed.stands.tables) u its_table
      (place_at places from) rows None = subst (λ (off : Option ℕ). AreNext m mid
      (standing_of mid passed.stands.numbers passed.stands.tables) u its_table (place_at places from) rows off) come.up
      passed.next in record {
        opening = comes.opening;
        entries = with_rows t (rows_made name shape) comes.entries;
        stands = its.stands;
        active = sym ((memory_of m now comes.opening (with_rows t (rows_made name shape) comes.entries) its.stands).state
            u) ∙ ((memory_of m old comes.opening comes.entries comes.stands).state u ∙ comes.active);
        seen = given_same u its_table.name (apart_from u t.0 not_) ∙ comes.seen;
        next = subst (λ (off : Option ℕ). AreNext m now (standing_of now its.stands.numbers its.stands.tables) u
            its_table (place_at places from) rows off) (sym store_on.online)
            (next_on next.0 next.1 comes.opening comes.entries its passed.stands.numbers passed.stands.tables u
            (apart_from u t.0 not_) ((memory_of m old comes.opening comes.entries comes.stands).state u ∙ comes.active)
            its_table (place_at places from) rows next.2);
      }

  -- ---- the whole

  -- each crash leaves the history before
  crash_now : LeavesQuietly (means m places) old now
  crash_now o h stands told = record {
    each = λ c left. at c (rest.before (m.moment old.store.disk) c (come.so.goes.time.later told) left);
    before = λ u c early left. earlier u c early
        (rest.before u c (let more = come.so.goes.time.later told in omega (arith, early, more)) left);
  }
    where
      front : LeavesOnly (means m places) old (record old { store = table_made.grown })
          ((means m places).holds (record old { store = table_made.grown }) o h (durable_count h))
      front = come.so.quiet o h stands told

      its : LeavesSince m table_made.grown.disk new.store.disk
          (HoldsAcknowledged packed_form table_made.grown.dirty.size o h)
      its = (all_goes o h stands).leaves

      turn : (c : Image) → HoldsAcknowledged packed_form table_made.grown.dirty.size o h c
          → HoldsFrom packed_form new.store.dirty.size o (asked h) (durable_count h) c
      turn c holds = subst (λ (n : ℕ). HoldsFrom packed_form n o (asked h) (durable_count h) c) (sym second_on.goes.size)
          holds

      either : (u : ℕ) (c : Image) → m.left table_made.grown.disk u c
          ⊎ HoldsAcknowledged packed_form table_made.grown.dirty.size o h c
          → m.left table_made.grown.disk u c
          ⊎ HoldsFrom packed_form new.store.dirty.size o (asked h) (durable_count h) c
      either u c (inl was) = inl was
      either u c (inr holds) = inr (turn c holds)

      rest : LeavesOnly (means m places) (record old { store = table_made.grown }) now
          ((means m places).holds now o h (durable_count h))
      rest = record {
        each = λ c left. turn c (its.since.each c left);
        before = λ u c early left. either u c (its.since.before u c early left);
      }

      sized : (c : Image) → HoldsFrom packed_form table_made.grown.dirty.size o (asked h) (durable_count h) c
          → HoldsFrom packed_form new.store.dirty.size o (asked h) (durable_count h) c
      sized c holds = subst (λ (n : ℕ). HoldsFrom packed_form n o (asked h) (durable_count h) c)
          (sym second_on.goes.size) holds

      at : (c : Image) → m.left table_made.grown.disk (m.moment old.store.disk) c
          ⊎ HoldsFrom packed_form new.store.dirty.size o (asked h) (durable_count h) c
          → HoldsFrom packed_form new.store.dirty.size o (asked h) (durable_count h) c
      at c (inr holds) = holds
      at c (inl was) = sized c (front.each c was)

      earlier : (u : ℕ) (c : Image) → u ≤ m.moment old.store.disk → m.left table_made.grown.disk u c
          ⊎ HoldsFrom packed_form new.store.dirty.size o (asked h) (durable_count h) c
          → m.left old.store.disk u c ⊎ HoldsFrom packed_form new.store.dirty.size o (asked h) (durable_count h) c
      earlier u c early (inr holds) = inr holds
      earlier u c early (inl was) = on (front.before u c early was)
        where
          on : m.left old.store.disk u c
              ⊎ HoldsFrom packed_form table_made.grown.dirty.size o (asked h) (durable_count h) c
              → m.left old.store.disk u c ⊎ HoldsFrom packed_form new.store.dirty.size o (asked h) (durable_count h) c
          on (inl before_) = inl before_
          on (inr holds) = inr (sized c holds)

  now_gives : GivesTable m places old now t name shape None
  now_gives = record {
    makes = λ o h stands. let its = all_goes o h stands in
        inserts m places now o t (rows_made name shape) h its.lawful its.stands;
    leaves = record {
      keeps = keeps_of m places old now None store_on.goes (omega arith) (omega arith) (record {
        cause = tt;
        offline = rw up tt;
        down = store_on.online ∙ sym up;
      });
      tables_stay = tables_of m places old now (Some t.0) (λ u n not_. given_same u n (apart_from u t.0 not_));
      walks_stay = walks_on;
      commits = commits_of m places old now (Some t.0)
          (λ u not_. ap asked_kept (stay.others u (apart_from u t.0 not_)))
          (λ u not_. kept_all old.works now.works t.0 stay session_kept stay.session u)
          (λ u page not_ was none. store_on.unmarked page (sessions_in old.works u) none);
    };
    crash = crash_now;
    sessions = sessions_of m places old now t.0 stay;
  }

  pub made_gives : GivesTable m places old new t name shape None
  made_gives = subst (λ (c : Core D). GivesTable m places old c t name shape None) (sym new_is) now_gives

pub tables_are_made : {D P : Type 0} (m : Meaning D) → KnownOfTables D m → TablesAreMade D P m
tables_are_made m known places old new t name shape core may created =
    made_gives m known places old new t name shape core may created
