-- The stages of a write.
use Rattle.std.proofs.Common.{◌≡◌, ◌⊎◌, inl, inr, ℕ, Bool, List, Option, Some, None, Result, Ok, Err, ap, refl, subst, sym, ◌∙◌}
use Rattle.std.specs.Prelude.{MatchResult, is_some}
use Rattle.mg_base.specs.Disk.{Meaning}
use Rattle.mg_base.specs.Image.{Image}
use Rattle.mg_base.specs.declared.geometry.Geometry.{Geometry}
use Rattle.mg_base.specs.declared.transaction.TxState.{TxState}
use Rattle.mg_heap.specs.Reading.{ReadsData}
use Rattle.mg_image.specs.Form.{Pages}
use Rattle.mg_model.specs.declared.refusal.Refusal.{Refusal}
use Rattle.mg_model.specs.declared.table.Table.{Table}
use Rattle.mg_pool.specs.Fault.{StaysOnline, TellsFault}
use Rattle.mg_pool.specs.Pool.{IsPool, shown}
use Rattle.mg_pool.specs.declared.pool.Pool.{Pool}
use Rattle.mg_row_writes.specs.Finding.{IsFoundAt, IsObstacleAt}
use Rattle.mg_row_writes.specs.declared.finding.ObstacleAt.{ObstacleAt}
use Rattle.mg_seek.specs.declared.views.Obstacle.{Obstacle}
use Rattle.mg_snap.specs.Live.{State as Bases}
use Rattle.mg_space.specs.Taking.{IsGeometry}
use Rattle.mg_space.specs.View.{KeepsStore, Tells, pool_answer}
use Rattle.mg_space.specs.declared.fault.SpaceFault.{SpaceFault}
use Rattle.mg_space.specs.declared.fault.SpaceFault.TheVariants as faults
use Rattle.mg_space.specs.declared.links.FireLinks.{FireLinks}
use Rattle.mg_waits.specs.Waits.{edges_in}
use Rattle.mg_undo.specs.declared.changes.Was.{Was}
use Rattle.mg_value.specs.declared.value.Value.{Value}
use Rattle.mg_works.specs.Works.{Working, unasked, with_change, with_work, without_change, work_of}
use Rattle.mg_core.proofs.CoreLemmas.{with_same}
use Rattle.mg_core.specs.declared.parts.Core.{Core}
use Rattle.mg_core.specs.Cores.{IsCore}
use Rattle.mg_core.specs.Obstacles.{HindersBy, IsPassed, Passes, Stops, hindered, unread}
use Rattle.mg_core.specs.Reading.{FailsReading, OnlyReads}
use Rattle.mg_core.specs.Refusing.{CountsFault, IsRefusal}
use Rattle.mg_txlist.specs.TipLaws.{tips_by}

-- another cache over the same geometry, works of the same transactions, other waits and counts
pub core_on : {D : Type 0} (m : Meaning D) (old new : Core D) (store : Pool D FireLinks) (waits : List (ℕ × ℕ))
    (works : List Working) (damage shortages : ℕ) → IsCore m old → IsPool m store
    → store.geometry ≡ old.store.geometry
    → ((u : ℕ) → is_some (work_of works u) ≡ is_some (work_of old.works u))
    → new ≡ record old {
      store = store;
      waits = waits;
      works = works;
      damage = damage;
      shortages = shortages;
    } → IsCore m new
core_on {D} m old new store waits works damage shortages is pool geometry active same = subst (λ (c : Core D). IsCore m c)
    (sym same) (record {
      pool = pool;
      geometry = subst IsGeometry (sym geometry) is.geometry;
      list = is.list;
      size = is.size ∙ ap (λ (g : Geometry). g.size) (sym geometry);
      tips = tips_by old.store.geometry store.geometry old.list geometry is.tips;
      catalog = is.catalog;
      next = is.next;
      drawn = is.drawn;
      active = record {
        has_work = λ t told. active t ∙ is.active.has_work t told;
        is_active = λ t some. is.active.is_active t (sym (active t) ∙ some);
      };
    })

-- pages were only read
pub core_read : {D : Type 0} (m : Meaning D) (old : Core D) (store : Pool D FireLinks) → IsCore m old
    → KeepsStore m old.store store → IsCore m (record old { store = store })
core_read m old store is keeps = core_on m old (record old { store = store }) store old.waits old.works old.damage
    old.shortages is keeps.pool keeps.geometry (λ u. refl) refl

pub core_read_counted : {D : Type 0} (m : Meaning D) (old final : Core D) (store : Pool D FireLinks) → IsCore m old
    → KeepsStore m old.store store
    → final ≡ record old { store = store; damage = final.damage; shortages = final.shortages } → IsCore m final
core_read_counted m old final store is keeps same = core_on m old final store old.waits old.works final.damage
    final.shortages is keeps.pool keeps.geometry (λ u. refl) same

-- only counts have changed
pub core_counted : {D : Type 0} (m : Meaning D) (old final : Core D) → IsCore m old
    → final ≡ record old { damage = final.damage; shortages = final.shortages } → IsCore m final
core_counted m old final is same = core_on m old final old.store old.waits old.works final.damage final.shortages is
    is.pool refl (λ u. refl) same

-- a reading is refused
pub fails_reading : {D : Type 0} (T : Type 0) (m : Meaning D) (old final : Core D) (store : Pool D FireLinks)
    (why : Pool D FireLinks → Pages → SpaceFault → Type 0) (fault : SpaceFault) (refusal : Refusal)
    → KeepsStore m old.store store → TellsFault m old.store store (pool_answer {T = T} (Err fault))
    → ReadsData {T = T} (Err fault)
    → ((image : Image) → Tells m old.store.disk image → why store (shown old.store.dirty image) fault)
    → IsRefusal fault refusal → CountsFault fault old.damage final.damage old.shortages final.shortages
    → final ≡ record old { store = store; damage = final.damage; shortages = final.shortages }
    → FailsReading m old final why refusal
fails_reading {D} T m old final store why fault refusal keeps told own caused is counts same = record {
  fault = fault;
  is = is;
  own = as_own fault own;
  told = subst (λ (s : Pool D FireLinks). TellsFault m old.store s (pool_answer {T = Unit {0}} (Err fault))) (sym now)
      (as_told fault told);
  keeps = subst (λ (s : Pool D FireLinks). KeepsStore m old.store s) (sym now) keeps;
  caused = λ image tells. subst (λ (s : Pool D FireLinks). why s (shown old.store.dirty image) fault) (sym now)
      (caused image tells);
  counts = counts;
  same = same ∙ ap (λ (s : Pool D FireLinks). record old {
    store = s;
    damage = final.damage;
    shortages = final.shortages;
  }) (sym now);
}
  where
    now : final.store ≡ store
    now = ap (λ (c : Core D). c.store) same

    as_own : (f : SpaceFault) → ReadsData {T = T} (Err f) → ReadsData {T = Unit {0}} (Err f)
    as_own (faults.Full limit) given = given
    as_own (faults.Damaged it) given = given
    as_own (faults.Pool it) given = given

    as_told : (f : SpaceFault) → TellsFault m old.store store (pool_answer {T = T} (Err f))
        → TellsFault m old.store store (pool_answer {T = Unit {0}} (Err f))
    as_told (faults.Full limit) given = given
    as_told (faults.Damaged it) given = given
    as_told (faults.Pool it) given = given

-- who may be in the way was read
pub passed_by : {D : Type 0} (m : Meaning D) (old new : Core D) (store : Pool D FireLinks) (t : ℕ) (wait : Bool)
    (is : Pages → Option Obstacle → Type 0) (why : Pool D FireLinks → Pages → SpaceFault → Type 0)
    (found : Option Obstacle) (result : Result (Unit {0}) Refusal) → KeepsStore m old.store store
    → StaysOnline m old.store store
    → ((image : Image) → Tells m old.store.disk image → is (shown old.store.dirty image) found)
    → MatchResult result
    (λ _. (new ≡ record old { store = store }) × IsPassed (edges_in old.waits) t wait found)
    (HindersBy (record old { store = store }) new t wait found)
    → MatchResult result (λ _. Passes m old new t wait is) (Stops m old new t wait is why)
passed_by {D} m old new store t wait is why found (Ok x) keeps online told passed = record {
  found = found;
  reads = record {
    keeps = subst (λ (s : Pool D FireLinks). KeepsStore m old.store s) (sym now) keeps;
    online = subst (λ (s : Pool D FireLinks). StaysOnline m old.store s) (sym now) online;
    same = passed.0 ∙ ap (λ (s : Pool D FireLinks). record old { store = s }) (sym now);
  };
  told = told;
  passed = passed.1;
}
  where
    now : new.store ≡ store
    now = ap (λ (c : Core D). c.store) passed.0
passed_by m old new store t wait is why found (Err refusal) keeps online told hinders =
    hindered (record old { store = store }) found (record { keeps = keeps; online = online; same = refl }) told hinders

-- so it was, where something was remembered since that no clause tells of
pub passed_noting : {D : Type 0} (m : Meaning D) (old noted new : Core D) (store : Pool D FireLinks) (t : ℕ)
    (wait : Bool) (is : Pages → Option Obstacle → Type 0) (why : Pool D FireLinks → Pages → SpaceFault → Type 0)
    (found : Option Obstacle) (result : Result (Unit {0}) Refusal) → KeepsStore m old.store store
    → StaysOnline m old.store store
    → ((image : Image) → Tells m old.store.disk image → is (shown old.store.dirty image) found)
    → noted ≡ record old { store = store }
    → MatchResult result (λ _. (new ≡ noted) × IsPassed (edges_in noted.waits) t wait found)
    (HindersBy noted new t wait found)
    → MatchResult result (λ _. Passes m old new t wait is) (Stops m old new t wait is why)
passed_noting {D} m old noted new store t wait is why found result keeps online told same passed =
    passed_by m old new store t wait is why found result keeps online told (subst (λ (c : Core D). MatchResult result
    (λ _. (new ≡ c) × IsPassed (edges_in c.waits) t wait found) (HindersBy c new t wait found)) same passed)

-- an obstacle that was found with the record that speaks for its key
pub obstacle_found : {state : ℕ → TxState} {live : Bases} {t : ℕ} {view : Pages} {table : Table} {key : Value}
    (found : ObstacleAt) → IsFoundAt state live t view table key found
    → IsObstacleAt state live t view table key found.obstacle
obstacle_found found is = record { speaks = found.rec; spoken = is.spoken; in_way = is.in_way }

-- a table's obstacle is met by a cause of its own beside
pub at_table : (A : Refusal → Type 0) (P : Type 0) (Q : Refusal → Type 0) (result : Result (Unit {0}) Refusal)
    → MatchResult result (λ _. P) Q → MatchResult result (λ _. P) (λ r. A r ⊎ Q r)
at_table A P Q (Ok x) given = given
at_table A P Q (Err refusal) given = inr given

-- the same transactions have works where a change was kept and the commit is no longer asked for
pub kept_active : (works kept unasked_works : List Working) (t owner : ℕ) (key : Value) (was : Was)
    → kept ≡ with_work t (with_change owner key was) works → unasked_works ≡ with_work t unasked kept
    → (u : ℕ) → is_some (work_of unasked_works u) ≡ is_some (work_of works u)
kept_active works kept unasked_works t owner key was keeps unasks u =
    ap (λ (ws : List Working). is_some (work_of ws u)) unasks
    ∙ (with_same kept t unasked (λ w. refl) (λ w. refl) u
    ∙ (ap (λ (ws : List Working). is_some (work_of ws u)) keeps
    ∙ with_same works t (with_change owner key was) (λ w. refl) (λ w. refl) u))

pub retracted_active : (works kept unasked_works retracted : List Working) (t owner : ℕ) (key : Value) (was : Was)
    → kept ≡ with_work t (with_change owner key was) works → unasked_works ≡ with_work t unasked kept
    → retracted ≡ with_work t without_change unasked_works
    → (u : ℕ) → is_some (work_of retracted u) ≡ is_some (work_of works u)
retracted_active works kept unasked_works retracted t owner key was keeps unasks retracts u =
    ap (λ (ws : List Working). is_some (work_of ws u)) retracts
    ∙ (with_same unasked_works t without_change (λ w. refl) (λ w. refl) u
    ∙ kept_active works kept unasked_works t owner key was keeps unasks u)
