-- The same keys are taken back once entries of a row were laid, of the table of a further change.
use Rattle.std.proofs.Common.{◌≡◌, ◌==◌, ◌∙◌, ◌++◌, inl, inr, ap, refl, sym, subst, ℕ, Bool, true, false, List, [], ◌∷◌, Option, None, Some}
use Rattle.std.specs.Prelude.{if◌then◌else◌}
use Rattle.mg_base.specs.Disk.{Meaning}
use Rattle.mg_base.specs.Image.{Image}
use Rattle.mg_base.specs.declared.transaction.TxState.{TxState}
use Rattle.mg_core.specs.declared.parts.Core.{Core}
use Rattle.mg_engine_change_laws.specs.entries.BackEntries.{EntersMidway}
use Rattle.mg_engine_change_laws.specs.entries.BackEntryLaws.{all_midway, page_size, ready_is, ready_knows, ready_midway}
use Rattle.mg_engine_change_laws.specs.keys.BackTables.{ItsTablesMayBeWritten}
use Rattle.mg_engine_change_laws.specs.keys.Found.{ItsRecordIsFound}
use Rattle.mg_engine_change_laws.specs.keys.Keys.{CoresEnterSome, HasTakenKeys}
use Rattle.mg_engine_change_laws.specs.given_up.Stopping.{EntersBack, LaysKey}
use Rattle.mg_engine_change_laws.specs.keys.TakingSteps.{TakesKeysOf, keys_then, some_read}
use Rattle.mg_engine_change_laws.specs.keys.Takings.{KnowsCache}
use Rattle.mg_engine_meaning_laws.specs.Standings.{KeepsWritten}
use Rattle.mg_engine_step_laws.specs.writes.Batches.{ReadsLast}
use Rattle.mg_engine_step_laws.specs.backs.Midway.{GoesBack}
use Rattle.mg_engine_step_laws.specs.standing.Standing.{Remembers, ShowsHistory, Standing}
use Rattle.mg_entry_step_laws.specs.EntryMidway.{EntriesStayMidway}
use Rattle.mg_image.specs.Form.{Pages, packed_coding, packed_form}
use Rattle.mg_image.specs.Inventory.{header_of}
use Rattle.mg_image.specs.ReadingLaws.{RowsAreOne}
use Rattle.mg_image_overlay_laws.specs.tables.OneLayout.{StandsOneWay}
use Rattle.mg_lasting_laws.specs.PoolLaws.{HoldsOne}
use Rattle.mg_model.specs.History.{Entries, Entry}
use Rattle.mg_model.specs.Legal.{IsLegal, MayBegin}
use Rattle.mg_model.specs.declared.change.Change.{Change}
use Rattle.mg_model.specs.declared.change.Point.{Point}
use Rattle.mg_model.specs.declared.opening.Opening.{Opening}
use Rattle.mg_model.specs.declared.table.Index.{Index}
use Rattle.mg_model.specs.declared.table.Table.{Table}
use Rattle.mg_pool.specs.Dirty.{DirtyPages}
use Rattle.mg_pool.specs.Pool.{shown}
use Rattle.mg_pool.specs.declared.pool.Pool.{Pool}
use Rattle.mg_pool_overlay_laws.specs.Needs.{Asked, Sessions}
use Rattle.mg_row_writes.specs.BareLaws.{all_of_none}
use Rattle.mg_snap.specs.Live.{State as Bases}
use Rattle.mg_space.specs.View.{KeepsStore}
use Rattle.mg_space.specs.declared.links.FireLinks.{FireLinks}
use Rattle.mg_taking_back.specs.Changes.{table_back}
use Rattle.mg_taking_back.specs.Keys.{IsOwnAt}
use Rattle.mg_txlist.specs.TxList.{said}
use Rattle.mg_works.specs.Works.{written_to}
use Rattle.std.proofs.Common.{◌⊎◌}
use Rattle.mg_base.specs.declared.geometry.Geometry.{Geometry}
use Rattle.mg_engine_change_laws.specs.keys.TakingStepLaws.{read_midway}
use Rattle.mg_engine_change_laws.specs.keys.TakingSteps.{StandsMidway, no_keys}
use Rattle.mg_engine_meaning_laws.specs.PlainTables.{HasPlainTables}
use Rattle.mg_space.specs.Taking.{IsGeometry}
use Rattle.mg_value.specs.declared.value.Value.{Value}

-- ---- lists

nothing_behind : (xs : List Change) → xs ++ [] ≡ xs
nothing_behind [] = refl
nothing_behind (x ∷ xs) = ap (λ (rest : List Change). x ∷ rest) (nothing_behind xs)

none_first : (first later : List Index) → [] ≡ first ++ later → first ≡ []
none_first [] later is = refl
none_first (x ∷ xs) later is = absurd cc

-- ---- a table is the catalog, or one that is kept

by_page : (b : Bool) (catalog table : Table) (kept : Option Table) → (if b then Some catalog else kept) ≡ Some table
    → (catalog ≡ table) ⊎ (kept ≡ Some table)
by_page true catalog table kept is = inl cc
by_page false catalog table kept is = inr is

module _ {D : Type 0} (m : Meaning D) (holds : HoldsOne D m) (one : RowsAreOne packed_coding)
    (one_way : StandsOneWay packed_form) (reads : ReadsLast D FireLinks m packed_form)
    (stay : EntriesStayMidway packed_form D FireLinks m) (found : ItsRecordIsFound) (may_write : ItsTablesMayBeWritten)
    (core at : Core D) (entered : Pool D FireLinks) (s : Standing) (size : ℕ) (o : Opening) (h : Entries) (e : Entry)
    (point : Point) (t : ℕ) (whole left keys more : List Change) (start before : Pool D FireLinks) (begun : Pages)
    (first : ShowsHistory packed_form size o h s begun) (i : Image) (asked : Asked) (session : Sessions)
    (state_is : s.state ≡ said core.list) (live_is : s.live ≡ core.live) (opening : MayBegin o) (legal : IsLegal o h)
    (memory : Remembers o h s) (goes : GoesBack o h e point s asked t)
    (kept : KeepsWritten core.catalog.pointer.0 core.works s.table) (bare : core.catalog.indexes ≡ [])
    (has : HasTakenKeys m size o h e t whole left keys more s start before begun first i asked session core at) where
  -- the store is another one
  same_now : record at { store = entered } ≡ record core { store = entered }
  same_now = ap (λ (c : Core D). record c { store = entered }) has.same

  -- what the steps come to over the store that there is then
  taken_on : (image : Image) (then_ : StandsMidway m size o h e t whole has.rest s start entered begun first image asked
      session) → KnowsCache m size s entered image
      → (header_of (shown entered.dirty image)).catalog.0 ≡ (header_of (shown at.store.dirty has.image)).catalog.0
      → TakesKeysOf m size o h e t s first.versions.speaker [] has.rest has.rest at.store entered has.image image
      → HasTakenKeys m size o h e t whole left keys more s start before begun first i asked session core
      (record at { store = entered })
  taken_on image then_ knows catalog steps = record {
    rest = has.rest;
    image = image;
    steps = subst (λ (ks : List Change). TakesKeysOf m size o h e t s first.versions.speaker ks left has.rest before
        entered i image) (nothing_behind keys) (keys_then m size o h e t s first.versions.speaker keys [] left has.rest
        has.rest before at.store entered i has.image image has.steps steps);
    midway = then_;
    knows = knows;
    catalog = has.catalog ∙ sym catalog;
    to_come = has.to_come;
    same = same_now;
  }

  -- ---- in a table that is kept

  module _ (number : ℕ) (table : Table) (is_kept : written_to core.works t number ≡ Some table) (key : Value)
      (laid : LaysKey m at.store entered s.state s.live t table key) where
    abbrev ready : Pool D FireLinks
    ready = laid.ready

    own_at : IsOwnAt s.state s.live t (shown at.store.dirty has.image) table key laid.rec
    own_at = laid.own has.image has.knows.tells

    all : EntersMidway m size o h e t whole has.rest s start laid.ready entered begun first has.image asked session
        (ready_midway m one one_way holds stay may_write size o h e point t whole has.rest s start begun first asked
        session opening legal memory goes core.catalog.pointer.0 core.works kept number table is_kept reads found at.store
        has.image has.midway has.knows key laid.rec own_at laid.ready laid.keeps laid.online.1) laid.first laid.rec
        laid.row
    all = all_midway m one one_way holds stay may_write size o h e point t whole has.rest s start begun first asked session
        opening legal memory goes core.catalog.pointer.0 core.works kept number table is_kept laid.ready has.image
        (ready_midway m one one_way holds stay may_write size o h e point t whole has.rest s start begun first asked
        session opening legal memory goes core.catalog.pointer.0 core.works kept number table is_kept reads found at.store
        has.image has.midway has.knows key laid.rec own_at laid.ready laid.keeps laid.online.1)
        (ready_knows m one one_way holds stay may_write size o h e point t whole has.rest s start begun first asked
        session opening legal memory goes core.catalog.pointer.0 core.works kept number table is_kept reads found at.store
        has.image has.midway has.knows key laid.rec own_at laid.ready laid.keeps laid.online.1) key laid.rec
        (ready_is m one one_way holds stay may_write size o h e point t whole has.rest s start begun first asked session
        opening legal memory goes core.catalog.pointer.0 core.works kept number table is_kept reads found at.store
        has.image has.midway has.knows key laid.rec own_at laid.ready laid.keeps laid.online.1) laid.first laid.later
        laid.parts laid.row entered laid.laid

    in_table : HasTakenKeys m size o h e t whole left keys more s start before begun first i asked session core
        (record at { store = entered })
    in_table = taken_on all.image all.then_ all.knows (all.catalog
        ∙ ap (λ (d : DirtyPages). (header_of (shown d has.image)).catalog.0) laid.keeps.dirty)
        (some_read laid.ready laid.keeps has.knows.tells.told (has.knows.pool_is.page_size ∙ has.knows.size_is) all.steps)

  -- ---- in the catalog, which has no index: pages were only read

  module _ (entered_is : KeepsStore m at.store entered) (up : entered.offline ≡ None) where
    read_only : HasTakenKeys m size o h e t whole left keys more s start before begun first i asked session core
        (record at { store = entered })
    read_only = taken_on has.image
        (read_midway m reads size o h e point s start at.store entered begun first has.image asked session t whole has.rest
        opening legal goes entered_is has.knows.tells.told (has.knows.pool_is.page_size ∙ has.knows.size_is) has.midway)
        (record {
          pool_is = entered_is.pool;
          size_is = ap (λ (g : Geometry). g.size) entered_is.geometry ∙ has.knows.size_is;
          geometry = subst IsGeometry (sym entered_is.geometry) has.knows.geometry;
          online = up;
          tells = record {
            told = entered_is.disk.tells ∙ has.knows.tells.told;
            held = entered_is.disk.held ∙ has.knows.tells.held;
          };
          plain = subst (λ (d : DirtyPages). HasPlainTables size s.state (shown d has.image)) (sym entered_is.dirty)
              has.knows.plain;
        }) (ap (λ (d : DirtyPages). (header_of (shown d has.image)).catalog.0) entered_is.dirty)
        (some_read entered entered_is has.knows.tells.told (has.knows.pool_is.page_size ∙ has.knows.size_is) no_keys)

  in_catalog : (table : Table) (key : Value) → core.catalog ≡ table
      → LaysKey m at.store entered s.state s.live t table key
      → HasTakenKeys m size o h e t whole left keys more s start before begun first i asked session core
      (record at { store = entered })
  in_catalog table key is laid =
      let none : laid.first ≡ [] = none_first laid.first laid.later
      (sym (ap (λ (x : Table). x.indexes) (sym is) ∙ bare) ∙ laid.parts) in
      let same : entered ≡ laid.ready = all_of_none m laid.first laid.rec laid.row laid.ready entered laid.laid none in
      read_only (subst (λ (p : Pool D FireLinks). KeepsStore m at.store p) (sym same) laid.keeps)
      (ap (λ (p : Pool D FireLinks). p.offline) same ∙ laid.online.1)

  -- ---- so

  -- states and bases are those of the core
  laid_so : (table : Table) (key : Value) → LaysKey m at.store entered (said at.list) at.live t table key
      → LaysKey m at.store entered s.state s.live t table key
  laid_so table key laid = subst (λ (state : ℕ → TxState). LaysKey m at.store entered state s.live t table key)
      (sym state_is) (subst (λ (live : Bases). LaysKey m at.store entered (said core.list) live t table key)
      (sym live_is) (subst (λ (c : Core D). LaysKey m at.store entered (said c.list) c.live t table key) has.same laid))

  pub entered_some : EntersBack m at entered t
      → HasTakenKeys m size o h e t whole left keys more s start before begun first i asked session core
      (record at { store = entered })
  entered_some (inl same) = subst (λ (p : Pool D FireLinks). HasTakenKeys m size o h e t whole left keys more s start before
      begun first i asked session core (record at { store = p })) (sym same) has
  entered_some (inr some) = by (by_page (core.catalog.pointer.0 == some.number) core.catalog some.table
      (written_to core.works t some.number)
      (subst (λ (c : Core D). table_back c.catalog c.works t some.number ≡ Some some.table) has.same some.found))
    where
      by : (core.catalog ≡ some.table) ⊎ (written_to core.works t some.number ≡ Some some.table)
          → HasTakenKeys m size o h e t whole left keys more s start before begun first i asked session core
          (record at { store = entered })
      by (inl is) = in_catalog some.table some.key is (laid_so some.table some.key some.laid)
      by (inr is) = in_table some.number some.table is some.key (laid_so some.table some.key some.laid)

pub cores_enter_some : {D : Type 0} (m : Meaning D) → HoldsOne D m → RowsAreOne packed_coding → StandsOneWay packed_form
    → ReadsLast D FireLinks m packed_form → EntriesStayMidway packed_form D FireLinks m → ItsRecordIsFound
    → ItsTablesMayBeWritten → CoresEnterSome D m
cores_enter_some m holds one one_way reads stay found may_write core at entered s size o h e point t whole left keys more
    start before begun first i asked session state_is live_is opening legal memory goes kept bare has back = entered_some m
    holds one one_way reads stay found may_write core at entered s size o h e point t whole left keys more start before
    begun first i asked session state_is live_is opening legal memory goes kept bare has back
