-- What the core takes out of the catalog is what the laws take.
use Rattle.std.proofs.Common.{◌≡◌, ◌∙◌, ◌∷◌, [], ℕ, List, Some, ap, refl, subst, sym, true}
use Rattle.mg_base.specs.Disk.{Meaning}
use Rattle.mg_base.specs.Image.{Image}
use Rattle.mg_base.specs.declared.geometry.Geometry.{Geometry}
use Rattle.mg_base.specs.declared.transaction.TxState.{TxState}
use Rattle.mg_value.specs.declared.value.Value.{Value}
use Rattle.mg_image.specs.Catalog.{catalog_table}
use Rattle.mg_header.specs.HeaderPage.{header_in}
use Rattle.mg_image.specs.Inventory.{header_of}
use Rattle.mg_lasting_laws.specs.PoolLaws.{HoldsOne}
use Rattle.mg_model.specs.declared.table.Table.{Table}
use Rattle.mg_pool.specs.Pool.{shown}
use Rattle.mg_batches.specs.Batches.{ChangesOwn, nothing_yet}
use Rattle.mg_snap.specs.Live.{State as Bases}
use Rattle.mg_table_unmaking.specs.Rows.{TakesRow}
use Rattle.mg_txlist.specs.TxList.{said}
use Rattle.mg_core.specs.Cores.{IsCatalog}
use Rattle.mg_core.specs.declared.parts.Core.{Core}
use Rattle.mg_engine_step_laws.specs.backs.Midway.{GoesBack, LastsDead}
use Rattle.mg_engine_step_laws.specs.tables_back.Outs.{RowsGone}
use Rattle.mg_engine_step_laws.specs.standing.Standing.{Remembers, Standing}
use Rattle.mg_engine_step_laws.specs.tables_back.TablesBack.{RowsGoOn, StoodBeside}
use Rattle.mg_engine_step_laws.specs.tables_back.TablesBack as laws
use Rattle.mg_image.specs.Form.{packed_form}
use Rattle.mg_model.specs.History.{Entries, Entry}
use Rattle.mg_model.specs.Legal.{IsLegal, MayBegin}
use Rattle.mg_model.specs.declared.change.Point.{Point}
use Rattle.mg_model.specs.declared.opening.Opening.{Opening}
use Rattle.mg_pool.specs.declared.pool.Pool.{Pool}
use Rattle.mg_pool_overlay_laws.specs.Needs.{Asked, Sessions}
use Rattle.mg_space.specs.Taking.{IsGeometry}
use Rattle.mg_space.specs.declared.links.FireLinks.{FireLinks}
use Rattle.mg_engine_step_laws.specs.writes.Knowing.{WasChanged}
use Rattle.mg_engine_change_laws.specs.keys.Keys.{HasCatalog}
use Rattle.mg_table_takings.specs.Takings.{TakesRows, TakesTheRow, no_row, one_row}
use Rattle.mg_engine_change_laws.specs.tables_back.CoreRows.{CoresTakeRows, HasTakenRow, HasTakenRows, KnowsStore}

-- the catalog of the core is the one that the header says
catalog_is : (table : Table) (page : ℕ) → IsCatalog table → table.pointer.0 ≡ page → catalog_table page ≡ table
catalog_is table page is at = λ i. record {
  name = sym is.named i;
  shape = sym is.shape i;
  pointer = record { 0 = sym at i };
  indexes = sym is.none i;
}

module _ {D : Type 0} (m : Meaning D) (holds : HoldsOne D m) (s : Standing) (t : ℕ) (key : Value)
    (old new : Core D) (i : Image) (core : IsCatalog old.catalog) (state : s.state ≡ said old.list) (live : s.live ≡ old.live)
    (knows : KnowsStore m old.store i) (catalog : HasCatalog old old.store i)
    (takes : TakesTheRow m old new t key) where
  changes : ChangesOwn m old.store new.store
      (λ image batch. TakesRow old.store image s.state s.live t old.catalog key nothing_yet batch)
  changes = subst (λ (x : ℕ → TxState). ChangesOwn m old.store new.store
      (λ image batch. TakesRow old.store image x s.live t old.catalog key nothing_yet batch)) (sym state)
      (subst (λ (x : Bases). ChangesOwn m old.store new.store
      (λ image batch. TakesRow old.store image (said old.list) x t old.catalog key nothing_yet batch)) (sym live)
      takes.takes)

  told : m.tells new.store.disk ≡ true
  told = ap m.tells (changes.changed.changes.enters.disk ∙ changes.changed.changes.puts.disk)
      ∙ (changes.changed.changes.written.tells ∙ (changes.keeps.disk.tells ∙ knows.tells.told))

  geometry_is : new.store.geometry ≡ old.store.geometry
  geometry_is = changes.changed.geometry ∙ changes.keeps.geometry

  was : (j : Image) → m.held new.store.disk ≡ Some j → WasChanged m old.store new.store i j changes.batch
  was j held = record {
    pool = knows.pool_is;
    changes = record {
      ready = changes.ready;
      geometry = knows.geometry;
      keeps = changes.keeps;
      frame = changes.changed.frame;
      tells = knows.tells;
      held = held;
    };
    crash = changes.changed.crash;
    tells = told;
  }

  pub has_taken : HasTakenRow m s t key old new i
  has_taken =
      let (j, held, left) = holds new.store.disk told in record {
        image = j;
        step = record {
          table = old.catalog;
          catalog = catalog_is old.catalog (header_of (shown old.store.dirty i)).catalog.0 core catalog;
          batch = changes.batch;
          takes = changes.filled i knows.tells;
          was = was j held;
          pool = changes.changed.pool;
          held = held;
          size_is = ap (λ (g : Geometry). g.size) geometry_is;
        };
        knows = record {
          pool_is = changes.changed.pool;
          geometry = subst IsGeometry (sym geometry_is) knows.geometry;
          online = changes.changed.online.1;
          tells = record { told = told; held = held };
        };
      }

-- ---- row by row

module _ {D : Type 0} (m : Meaning D) (holds : HoldsOne D m) (go_on : RowsGoOn D FireLinks m) (o : Opening) (h : Entries)
    (e : Entry) (point : Point) (s : Standing) (start : Pool D FireLinks) (asked : Asked) (session : Sessions) (t : ℕ)
    (opening : MayBegin o) (legal : IsLegal o h) (memory : Remembers o h s) (goes : GoesBack o h e point s asked t) where
  -- one row
  module _ (key : Value) (begun mid : Core D) (i : Image)
      (lasts : LastsDead m packed_form begun.store.geometry.size o h t start begun.store asked session)
      (core : IsCatalog begun.catalog) (state : s.state ≡ said begun.list) (live : s.live ≡ begun.live)
      (knows : KnowsStore m begun.store i) (catalog : HasCatalog begun begun.store i)
      (takes : TakesTheRow m begun mid t key) where
    pub first : HasTakenRow m s t key begun mid i
    first = has_taken m holds s t key begun mid i core state live knows catalog takes

    pub turn : LastsDead m packed_form begun.store.geometry.size o h t start mid.store asked session
        × RowsGone packed_form begun.store.geometry.size o (e ∷ h) s.state t (key ∷ [])
        (shown begun.store.dirty i) (shown mid.store.dirty first.image)
        × (shown mid.store.dirty first.image 0 ≡ shown begun.store.dirty i 0)
        × StoodBeside begun.store.geometry.size s.state t (shown begun.store.dirty i) (shown mid.store.dirty first.image)
    turn = go_on o h e point s start begun.store mid.store i first.image asked session t [] key opening legal memory goes
        lasts first.step

    pub lasts_mid : LastsDead m packed_form mid.store.geometry.size o h t start mid.store asked session
    lasts_mid = subst (λ (n : ℕ). LastsDead m packed_form n o h t start mid.store asked session)
        (sym first.step.size_is) turn.0

    pub core_mid : IsCatalog mid.catalog
    core_mid = subst IsCatalog (sym (ap (λ (c : Core D). c.catalog) takes.same)) core

    pub state_mid : s.state ≡ said mid.list
    state_mid = state ∙ sym (ap (λ (c : Core D). said c.list) takes.same)

    pub live_mid : s.live ≡ mid.live
    live_mid = live ∙ sym (ap (λ (c : Core D). c.live) takes.same)

    pub catalog_mid : HasCatalog mid mid.store first.image
    catalog_mid = ap (λ (c : Core D). c.catalog.pointer.0) takes.same
        ∙ (catalog ∙ sym (ap (λ (bytes : List ℕ). (header_in bytes).catalog.0) turn.2))

    pub and_others : (keys : List Value) (end : Core D) → HasTakenRows m s t keys mid end first.image
        → HasTakenRows m s t (key ∷ keys) begun end i
    and_others keys end rest = record {
      image = rest.image;
      steps = laws.one_row key keys begun.store mid.store end.store i first.image rest.image first.step rest.steps;
      knows = rest.knows;
      size_is = rest.size_is ∙ first.step.size_is;
      same = rest.same ∙ ap (λ (c : Core D). record c { store = end.store }) takes.same;
    }

  pub rows_taken : (keys : List Value) (old new : Core D) (i : Image)
      → LastsDead m packed_form old.store.geometry.size o h t start old.store asked session
      → IsCatalog old.catalog → s.state ≡ said old.list → s.live ≡ old.live → KnowsStore m old.store i
      → HasCatalog old old.store i → TakesRows m t keys old new → HasTakenRows m s t keys old new i
  rows_taken keys old new i lasts core state live knows catalog (no_row it) = record {
    image = i;
    steps = laws.no_row it.store i;
    knows = knows;
    size_is = refl;
    same = refl;
  }
  rows_taken all old new i lasts core state live knows catalog (one_row key keys begun mid end takes more) =
      and_others key begun mid i lasts core state live knows catalog takes keys end
      (rows_taken keys mid end (first key begun mid i lasts core state live knows catalog takes).image
      (lasts_mid key begun mid i lasts core state live knows catalog takes)
      (core_mid key begun mid i lasts core state live knows catalog takes)
      (state_mid key begun mid i lasts core state live knows catalog takes)
      (live_mid key begun mid i lasts core state live knows catalog takes)
      (first key begun mid i lasts core state live knows catalog takes).knows
      (catalog_mid key begun mid i lasts core state live knows catalog takes) more)

pub cores_take_rows : {D : Type 0} (m : Meaning D) → HoldsOne D m → RowsGoOn D FireLinks m → CoresTakeRows D m
cores_take_rows m holds go_on o h e point s start asked session t keys old new i opening legal memory goes lasts core state
    live knows catalog takes = rows_taken m holds go_on o h e point s start asked session t opening legal memory goes keys old
    new i lasts core state live knows catalog takes
