-- What an engine always has stays so, where pages are read, counts rise, or works of the same transactions come.
use Rattle.std.proofs.Common.{◌≡◌, ◌≢◌, ◌⊎◌, inl, inr, ℕ, List, Option, Some, None, Result, Ok, Err, ap, refl, subst, sym, ◌∙◌}
use Rattle.std.proofs.lemmas.Bool.{cases_eq}
use Rattle.std.specs.Prelude.{IsErr, IsErrAnd, MatchResult, is_some}
use Rattle.mg_base.specs.Disk.{Meaning}
use Rattle.mg_base.specs.Image.{Image}
use Rattle.mg_base.specs.declared.geometry.Geometry.{Geometry}
use Rattle.mg_core.specs.Cores.{IsCore}
use Rattle.mg_core.specs.Reading.{FailsReading}
use Rattle.mg_core.specs.Refusing.{CountsFault, IsRefusal}
use Rattle.mg_core.specs.declared.parts.Core.{Core}
use Rattle.mg_heap.specs.Reading.{ReadsData}
use Rattle.mg_image.specs.Form.{Pages}
use Rattle.mg_model.specs.declared.refusal.Refusal.{Refusal}
use Rattle.mg_pool.specs.Fault.{TellsFault}
use Rattle.mg_pool.specs.Pool.{IsPool, shown}
use Rattle.mg_pool.specs.declared.pool.Pool.{Pool}
use Rattle.mg_space.specs.Taking.{IsGeometry}
use Rattle.mg_space.specs.View.{KeepsStore, Tells, pool_answer}
use Rattle.mg_space.specs.declared.fault.SpaceFault.{SpaceFault}
use Rattle.mg_space.specs.declared.fault.SpaceFault.TheVariants as faults
use Rattle.mg_space.specs.declared.links.FireLinks.{FireLinks}
use Rattle.mg_works.specs.Works.{Working, with_work, work_of}
use Rattle.mg_works.specs.WorksLaws.{with_its, with_none, with_others}
use Rattle.mg_txlist.specs.TipLaws.{tips_by}

-- a refusal that a call met is handed on
pub refused_on : {T : Type 0} (result : Result T Refusal) (refusal : Refusal) (P : T → Type 0)
    (Q : Refusal → Type 0) → IsErr result → IsErrAnd result (λ given. given ≡ refusal) → Q refusal
    → MatchResult result P Q
refused_on (Ok x) refusal P Q err is holds = absurd cc
refused_on (Err e) refusal P Q err is holds = subst Q (sym is) holds

-- another work in place of one: the same transactions have works
pub with_same : (works : List Working) (t : ℕ) (made : Working → Working)
    → ((w : Working) → (made w).number ≡ w.number) → ((w : Working) → (made w).session ≡ w.session)
    → (u : ℕ) → is_some (work_of (with_work t made works) u) ≡ is_some (work_of works u)
with_same works t made number session u = at (cases_eq u t) (work_of works t) refl
  where
    at : (u ≡ t) ⊎ (u ≢ t) → (found : Option Working) → work_of works t ≡ found
        → is_some (work_of (with_work t made works) u) ≡ is_some (work_of works u)
    at (inr apart) found is = ap is_some (with_others t made number session works u apart)
    at (inl same) None is = ap is_some (ap (work_of (with_work t made works)) same ∙ with_none t made number session works t is)
        ∙ sym (ap is_some (ap (work_of works) same ∙ is))
    at (inl same) (Some w) is = ap is_some (ap (work_of (with_work t made works)) same ∙ with_its t made number session works w is)
        ∙ sym (ap is_some (ap (work_of works) same ∙ is))

-- another cache over the same geometry, works of the same transactions, other waits and counts
pub core_on : {D : Type 0} (m : Meaning D) (old new : Core D) (store : Pool D FireLinks) (waits : List (ℕ × ℕ))
    (works : List Working) (damage shortages : ℕ) → IsCore m old → IsPool m store
    → store.geometry ≡ old.store.geometry
    → ((u : ℕ) → is_some (work_of works u) ≡ is_some (work_of old.works u))
    → new ≡ record old {
      store = store;
      waits = waits;
      works = works;
      damage = damage;
      shortages = shortages;
    } → IsCore m new
core_on {D} m old new store waits works damage shortages is pool geometry active same = subst (λ (c : Core D). IsCore m c)
    (sym same) (record {
      pool = pool;
      geometry = subst IsGeometry (sym geometry) is.geometry;
      list = is.list;
      size = is.size ∙ ap (λ (g : Geometry). g.size) (sym geometry);
      tips = tips_by old.store.geometry store.geometry old.list geometry is.tips;
      catalog = is.catalog;
      next = is.next;
      drawn = is.drawn;
      active = record {
        has_work = λ t told. active t ∙ is.active.has_work t told;
        is_active = λ t some. is.active.is_active t (sym (active t) ∙ some);
      };
    })

-- pages were only read
pub core_read : {D : Type 0} (m : Meaning D) (old : Core D) (store : Pool D FireLinks) → IsCore m old
    → KeepsStore m old.store store → IsCore m (record old { store = store })
core_read m old store is keeps = core_on m old (record old { store = store }) store old.waits old.works old.damage
    old.shortages is keeps.pool keeps.geometry (λ u. refl) refl

pub core_read_counted : {D : Type 0} (m : Meaning D) (old final : Core D) (store : Pool D FireLinks) → IsCore m old
    → KeepsStore m old.store store
    → final ≡ record old { store = store; damage = final.damage; shortages = final.shortages } → IsCore m final
core_read_counted m old final store is keeps same = core_on m old final store old.waits old.works final.damage
    final.shortages is keeps.pool keeps.geometry (λ u. refl) same

-- only counts have changed
pub core_counted : {D : Type 0} (m : Meaning D) (old final : Core D) → IsCore m old
    → final ≡ record old { damage = final.damage; shortages = final.shortages } → IsCore m final
core_counted m old final is same = core_on m old final old.store old.waits old.works final.damage final.shortages is
    is.pool refl (λ u. refl) same

-- a reading is refused
pub fails_reading : {D : Type 0} (T : Type 0) (m : Meaning D) (old final : Core D) (store : Pool D FireLinks)
    (why : Pool D FireLinks → Pages → SpaceFault → Type 0) (fault : SpaceFault) (refusal : Refusal)
    → KeepsStore m old.store store → TellsFault m old.store store (pool_answer {T = T} (Err fault))
    → ReadsData {T = T} (Err fault)
    → ((image : Image) → Tells m old.store.disk image → why store (shown old.store.dirty image) fault)
    → IsRefusal fault refusal → CountsFault fault old.damage final.damage old.shortages final.shortages
    → final ≡ record old { store = store; damage = final.damage; shortages = final.shortages }
    → FailsReading m old final why refusal
fails_reading {D} T m old final store why fault refusal keeps told own caused is counts same = record {
  fault = fault;
  is = is;
  own = as_own fault own;
  told = subst (λ (s : Pool D FireLinks). TellsFault m old.store s (pool_answer {T = Unit {0}} (Err fault))) (sym now)
      (as_told fault told);
  keeps = subst (λ (s : Pool D FireLinks). KeepsStore m old.store s) (sym now) keeps;
  caused = λ image tells. subst (λ (s : Pool D FireLinks). why s (shown old.store.dirty image) fault) (sym now)
      (caused image tells);
  counts = counts;
  same = same ∙ ap (λ (s : Pool D FireLinks). record old {
    store = s;
    damage = final.damage;
    shortages = final.shortages;
  }) (sym now);
}
  where
    now : final.store ≡ store
    now = ap (λ (c : Core D). c.store) same

    as_own : (f : SpaceFault) → ReadsData {T = T} (Err f) → ReadsData {T = Unit {0}} (Err f)
    as_own (faults.Full limit) given = given
    as_own (faults.Damaged it) given = given
    as_own (faults.Pool it) given = given

    as_told : (f : SpaceFault) → TellsFault m old.store store (pool_answer {T = T} (Err f))
        → TellsFault m old.store store (pool_answer {T = Unit {0}} (Err f))
    as_told (faults.Full limit) given = given
    as_told (faults.Damaged it) given = given
    as_told (faults.Pool it) given = given
