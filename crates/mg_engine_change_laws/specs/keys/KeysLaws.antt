-- The core's steps, one key after another.
use Rattle.std.proofs.Common.{◌≡◌, ◌==◌, ◌++◌, ap, refl, sym, subst, ◌∙◌, ℕ, Bool, true, false, List, [], ◌∷◌, Option, Some}
use Rattle.std.specs.Prelude.{if◌then◌else◌, map}
use Rattle.std.proofs.lemmas.Bool.{eqb-true}
use Rattle.mg_base.specs.Disk.{Meaning}
use Rattle.mg_base.specs.Image.{Image}
use Rattle.mg_base.specs.declared.geometry.Geometry.{Geometry}
use Rattle.mg_base.specs.declared.transaction.TxState.{TxState}
use Rattle.mg_core.specs.declared.parts.Core.{Core}
use Rattle.mg_engine_meaning_laws.specs.Standings.{KeepsWritten}
use Rattle.mg_engine_step_laws.specs.standing.Known.{catalog_is_shown}
use Rattle.mg_engine_step_laws.specs.standing.Standing.{Remembers, ShowsHistory, Standing}
use Rattle.mg_engine_change_laws.specs.keys.Keys.{CoresTakeAll, HasCatalog, HasTakenKeys, IsOfTable}
use Rattle.mg_engine_change_laws.specs.keys.Takings.{CoresTakeKeys, HasTakenKey, KnowsCache}
use Rattle.mg_engine_change_laws.specs.keys.BackLists.{KeepsLists, KeysKeepLists}
use Rattle.mg_engine_change_laws.specs.keys.TakingSteps.{KeysGoOn, StandsMidway, TakesKeysOf, keys_then, no_keys}
use Rattle.mg_engine_change_laws.specs.backs.ToTake.{AreKeysOf, EachChange, KeysAreTaken}
use Rattle.mg_engine_change_laws.specs.keys.WrittenLaws.{first_named}
use Rattle.mg_engine_step_laws.specs.backs.Again.{without_key}
use Rattle.mg_engine_step_laws.specs.backs.Midway.{GoesBack}
use Rattle.mg_image.specs.Form.{Pages, packed_form}
use Rattle.mg_model.specs.Changes.{has_change}
use Rattle.mg_model.specs.History.{Entries, Entry}
use Rattle.mg_model.specs.Legal.{IsLegal, MayBegin}
use Rattle.mg_model.specs.Machine.{own}
use Rattle.mg_model.specs.Openings.{everyone}
use Rattle.mg_model.specs.declared.change.Change.{Change}
use Rattle.mg_model.specs.declared.change.Point.{Point}
use Rattle.mg_model.specs.declared.opening.Opening.{Opening}
use Rattle.mg_model.specs.declared.table.Table.{Table}
use Rattle.mg_overlay_laws.specs.Overlays.{left_state}
use Rattle.mg_pool.specs.Pool.{shown}
use Rattle.mg_pool.specs.declared.pool.Pool.{Pool}
use Rattle.mg_pool_overlay_laws.specs.Needs.{Asked, Sessions}
use Rattle.mg_space.specs.Taking.{IsGeometry}
use Rattle.mg_space.specs.declared.links.FireLinks.{FireLinks}
use Rattle.mg_taking_back.specs.Changes.{TakesChange}
use Rattle.mg_taking_back.specs.Taking.{TakesChanges, takes_none, takes_one}
use Rattle.mg_snap.specs.Live.{State as Bases}
use Rattle.mg_taking_back.specs.Keys.{TakesKey}
use Rattle.mg_txlist.specs.TxList.{said}
use Rattle.mg_undo.specs.Machine.{given_from, was_in}
use Rattle.mg_undo.specs.declared.changes.Change.{Change as Kept}
use Rattle.mg_works.specs.Works.{written_to}

-- ---- the table

-- where the catalog does not begin at a page, the table is one that the transaction keeps
kept_back : (first number : ℕ) (catalog table : Table) (kept : Option Table) → (first ≡ number → ⊥)
    → (if first == number then Some catalog else kept) ≡ Some table → kept ≡ Some table
kept_back first number catalog table kept apart is = at (first == number) refl is
  where
    at : (b : Bool) → (first == number) ≡ b → (if b then Some catalog else kept) ≡ Some table → kept ≡ Some table
    at true same is_ = absurd (apart (eqb-true first number same))
    at false off is_ = is_

module _ {D : Type 0} (m : Meaning D) (one : CoresTakeKeys D m) (taken : KeysAreTaken)
    (goes_on : KeysGoOn D FireLinks m) (keep : KeysKeepLists D FireLinks m) (core : Core D) (s : Standing) (size : ℕ) (o : Opening) (h : Entries) (e : Entry) (point : Point) (t : ℕ)
    (whole : List Change) (start : Pool D FireLinks) (begun : Pages)
    (first : ShowsHistory packed_form size o h s begun) (asked : Asked)
    (session : Sessions) (state_is : s.state ≡ said core.list) (live_is : s.live ≡ core.live) (opening : MayBegin o)
    (legal : IsLegal o h) (memory : Remembers o h s)
    (goes : GoesBack o h e point s asked t)
    (kept : KeepsWritten core.catalog.pointer.0 core.works s.table) where
  abbrev given_for : Change → Kept
  given_for = given_from (s.number t) (own o (e ∷ h) t)

  -- ---- one key

  module _ (left : List Change) (before : Pool D FireLinks) (i : Image) (mid : Core D) (c : Change)
      (of : IsOfTable o h t c) (to_take : has_change left c.table c.key ≡ true)
      (step : TakesChange m (record core { store = before }) mid t (given_from (s.number t) (own o (e ∷ h) t) c))
      (midway : StandsMidway m size o h e t whole left s start before begun first i
      asked session) (knows : KnowsCache m size s before i)
      (catalog : HasCatalog core before i) where
    not_catalog : core.catalog.pointer.0 ≡ s.number t c.table → ⊥
    not_catalog same = of.other (sym (first_named size (left_state everyone s.state)
        (shown before.dirty i) midway.pages.layout midway.pages.reading midway.pages.sound c.table
        (s.number t c.table) midway.pages.layout.catalog.table
        ((midway.pages.tables t goes.active).changed c.table c.key of.made)
        (catalog_is_shown midway.pages.layout)
        (ap (λ (x : Table). x.pointer.0) midway.pages.sound.catalog ∙ (sym catalog ∙ same)))
        ∙ ap (λ (x : Table). x.name) midway.pages.sound.catalog)

    its_table : written_to core.works t (s.number t c.table) ≡ Some step.table
    its_table = kept_back core.catalog.pointer.0 (s.number t c.table) core.catalog step.table
        (written_to core.works t (s.number t c.table)) not_catalog step.found

    its_takes : TakesKey m before mid.store s.state s.live t step.table c.key (was_in (own o (e ∷ h) t) c.table c.key)
    its_takes = subst (λ (state : ℕ → TxState). TakesKey m before mid.store state s.live t step.table c.key
        (was_in (own o (e ∷ h) t) c.table c.key)) (sym state_is) (subst (λ (live : Bases). TakesKey m before mid.store
        (said core.list) live t step.table c.key (was_in (own o (e ∷ h) t) c.table c.key)) (sym live_is) step.takes)

    has_taken : HasTakenKey m size o h e t whole left s start before mid.store i asked
        session first.versions.speaker c
    has_taken = one size o h e point t whole left s start before mid.store begun first i
        asked session midway opening legal memory goes core.catalog.pointer.0 core.works kept knows c of.other
        to_take of.made step.table its_table its_takes

    one_step : TakesKeysOf m size o h e t s first.versions.speaker (c ∷ []) left
        (without_key c.table c.key left) before mid.store i has_taken.image
    one_step = has_taken.steps

    midway_then : StandsMidway m size o h e t whole (without_key c.table c.key left) s
        start mid.store begun first has_taken.image asked session
    midway_then = goes_on size o h e point s start before mid.store begun first i
        has_taken.image asked session t whole left (without_key c.table c.key left) (c ∷ []) opening legal memory
        goes one_step midway

    keeps_lists : KeepsLists size s (shown before.dirty i)
        (shown mid.store.dirty has_taken.image)
    keeps_lists = keep size o h e point s start before mid.store begun first i
        has_taken.image asked session t whole left (without_key c.table c.key left) (c ∷ []) opening legal memory
        goes one_step midway

    knows_then : KnowsCache m size s mid.store has_taken.image
    knows_then = record {
      pool_is = has_taken.pool_is;
      size_is = ap (λ (g : Geometry). g.size) has_taken.geometry ∙ knows.size_is;
      geometry = subst IsGeometry (sym has_taken.geometry) knows.geometry;
      online = has_taken.online;
      tells = has_taken.tells;
      plain = keeps_lists.plain knows.plain;
    }

    catalog_then : HasCatalog core mid.store has_taken.image
    catalog_then = catalog ∙ sym keeps_lists.tips.catalog

  -- ---- one after another

  takes_all : (old new : Core D) (given : List Kept) (left keys more : List Change) (before : Pool D FireLinks)
      (i : Image) → EachChange (IsOfTable o h t) keys → AreKeysOf (keys ++ more) left
      → given ≡ map (given_from (s.number t) (own o (e ∷ h) t)) keys → old ≡ record core { store = before }
      → TakesChanges m t old given new
      → StandsMidway m size o h e t whole left s start before begun first i asked
      session
      → KnowsCache m size s before i → HasCatalog core before i
      → HasTakenKeys m size o h e t whole left keys more s start before begun first i
      asked session core new
  takes_all old new given left [] more before i each are is old_is takes_none midway knows catalog =
      subst (λ (c : Core D). HasTakenKeys m size o h e t whole left [] more s start
      before begun first i asked session core c) (sym old_is) (record {
        rest = left;
        image = i;
        steps = no_keys;
        midway = midway;
        knows = knows;
        catalog = catalog;
        to_come = are;
        same = refl;
      })
  takes_all old new given left (c ∷ keys) more before i each are is old_is takes_none midway knows catalog = absurd cc
  takes_all old new given left [] more before i each are is old_is (takes_one mid d step later) midway knows catalog =
      absurd cc
  takes_all old new given left (c ∷ keys) more before i each are is old_is (takes_one {given = after_it} mid d step later)
      midway knows catalog =
      let d_is : d ≡ given_from (s.number t) (own o (e ∷ h) t) c = cc in
      let more_is : after_it ≡ map (given_from (s.number t) (own o (e ∷ h) t)) keys = cc in
      let its_step : TakesChange m (record core { store = before }) mid t
      (given_from (s.number t) (own o (e ∷ h) t) c) =
      subst (λ (x : Kept). TakesChange m (record core { store = before }) mid t x) d_is
      (subst (λ (x : Core D). TakesChange m x mid t d) old_is step) in
      let rest_of = takes_all mid new after_it (without_key c.table c.key left) keys more mid.store
      (has_taken left before i mid c each.0 are.each.0 its_step midway knows catalog).image each.1
      (taken.next c (keys ++ more) left are) more_is its_step.same later
      (midway_then left before i mid c each.0 are.each.0 its_step midway knows catalog)
      (knows_then left before i mid c each.0 are.each.0 its_step midway knows catalog)
      (catalog_then left before i mid c each.0 are.each.0 its_step midway knows catalog) in record {
        rest = rest_of.rest;
        image = rest_of.image;
        steps = keys_then m size o h e t s first.versions.speaker (c ∷ []) keys left (without_key c.table c.key left)
            rest_of.rest before mid.store new.store i
            (has_taken left before i mid c each.0 are.each.0 its_step midway knows catalog).image rest_of.image
            (has_taken left before i mid c each.0 are.each.0 its_step midway knows catalog).steps rest_of.steps;
        midway = rest_of.midway;
        knows = rest_of.knows;
        catalog = rest_of.catalog;
        to_come = rest_of.to_come;
        same = rest_of.same;
      }

pub cores_take_all : {D : Type 0} (m : Meaning D) → CoresTakeKeys D m → KeysAreTaken → KeysGoOn D FireLinks m
    → KeysKeepLists D FireLinks m → CoresTakeAll D m
cores_take_all m one taken goes_on keep core old new s size o h e point t whole left keys more start
    before begun first i asked session state_is live_is opening legal memory goes kept each are old_is takes midway knows
    catalog =
    takes_all m one taken goes_on keep core s size o h e point t whole start begun first asked session
    state_is live_is opening legal memory goes kept old new (map (given_from (s.number t) (own o (e ∷ h) t)) keys) left keys more before
    i each are refl old_is takes midway knows catalog
