-- What an engine always has stays so, where some of its parts become others.
use Rattle.std.proofs.Common.{◌≡◌, ◌≢◌, ◌⊎◌, inl, inr, ℕ, Bool, true, false, List, Option, None, Some, ap, arith, refl, subst, sym, ◌∙◌}
use Rattle.std.specs.Prelude.{is_some}
use Rattle.std.proofs.lemmas.Bool.{cases_eq}
use Rattle.mg_base.specs.Disk.{Meaning}
use Rattle.mg_base.specs.declared.geometry.Geometry.{Geometry}
use Rattle.mg_base.specs.declared.transaction.TxState.TheVariants.{Active, Dead}
use Rattle.mg_model.specs.declared.table.Table.{Table}
use Rattle.mg_pool.specs.Pool.{IsPool}
use Rattle.mg_pool.specs.declared.pool.Pool.{Pool}
use Rattle.mg_snap.specs.Live.{State as Bases, after_leave, without}
use Rattle.mg_snap.specs.LiveLaws.{drawn_after_drop}
use Rattle.mg_space.specs.Taking.{IsGeometry}
use Rattle.mg_space.specs.declared.links.FireLinks.{FireLinks}
use Rattle.mg_txlist.specs.TxList.{EndsIn, IsTxList, TipsAreBelow, said}
use Rattle.mg_txlist.specs.declared.list.TxList.{TxList}
use Rattle.mg_undo.specs.Undo.{State as Undo}
use Rattle.mg_works.specs.Works.{MayBeGiven, Working, unasked, with_undo, with_work, with_written, without_tables, without_work, work_of}
use Rattle.mg_works.specs.WorksLaws.{with_its, with_none, with_others, without_its, without_others}
use Rattle.mg_core.specs.declared.parts.Core.{Core}
use Rattle.mg_core.specs.Cores.{IsCatalog, IsCore}
use Rattle.mg_taking_back.specs.Noting.{noted, noted_if}
use Rattle.mg_txlist.specs.TipLaws.{tips_by}

-- another cache over the same geometry, works of the same transactions, and other counts
pub core_on : {D : Type 0} (m : Meaning D) (old new : Core D) (store : Pool D FireLinks) (works : List Working)
    (damage shortages : ℕ) → IsCore m old → IsPool m store → store.geometry ≡ old.store.geometry
    → ((u : ℕ) → is_some (work_of works u) ≡ is_some (work_of old.works u))
    → new ≡ record old { store = store; works = works; damage = damage; shortages = shortages } → IsCore m new
core_on {D} m old new store works damage shortages is pool geometry active same = subst (λ (c : Core D). IsCore m c)
    (sym same) (record {
      pool = pool;
      geometry = subst IsGeometry (sym geometry) is.geometry;
      list = is.list;
      size = is.size ∙ ap (λ (g : Geometry). g.size) (sym geometry);
      tips = tips_by old.store.geometry store.geometry old.list geometry is.tips;
      catalog = is.catalog;
      next = is.next;
      drawn = is.drawn;
      active = record {
        has_work = λ t told. active t ∙ is.active.has_work t told;
        is_active = λ t some. is.active.is_active t (sym (active t) ∙ some);
      };
    })

-- other works of the same transactions
pub core_works : {D : Type 0} (m : Meaning D) (old : Core D) (works : List Working) → IsCore m old
    → ((u : ℕ) → is_some (work_of works u) ≡ is_some (work_of old.works u)) → IsCore m (record old { works = works })
core_works m old works is active = core_on m old (record old { works = works }) old.store works old.damage
    old.shortages is is.pool refl active refl

-- another cache
pub core_store : {D : Type 0} (m : Meaning D) (old : Core D) (store : Pool D FireLinks) → IsCore m old
    → IsPool m store → store.geometry ≡ old.store.geometry → IsCore m (record old { store = store })
core_store m old store is pool geometry = core_on m old (record old { store = store }) store old.works old.damage
    old.shortages is pool geometry (λ u. refl) refl

-- other counts
pub core_counted : {D : Type 0} (m : Meaning D) (old new : Core D) → IsCore m old
    → new ≡ record old { damage = new.damage; shortages = new.shortages } → IsCore m new
core_counted m old new is same = core_on m old new old.store old.works new.damage new.shortages is is.pool refl
    (λ u. refl) same

-- another work in place of one: the same transactions have works
pub with_same : (works : List Working) (t : ℕ) (made : Working → Working)
    → ((w : Working) → (made w).number ≡ w.number) → ((w : Working) → (made w).session ≡ w.session)
    → (u : ℕ) → is_some (work_of (with_work t made works) u) ≡ is_some (work_of works u)
with_same works t made number session u = at (cases_eq u t) (work_of works t) refl
  where
    at : (u ≡ t) ⊎ (u ≢ t) → (found : Option Working) → work_of works t ≡ found
        → is_some (work_of (with_work t made works) u) ≡ is_some (work_of works u)
    at (inr apart) found is = ap is_some (with_others t made number session works u apart)
    at (inl same) None is = ap is_some (ap (work_of (with_work t made works)) same ∙ with_none t made number session works t is)
        ∙ sym (ap is_some (ap (work_of works) same ∙ is))
    at (inl same) (Some w) is = ap is_some (ap (work_of (with_work t made works)) same ∙ with_its t made number session works w is)
        ∙ sym (ap is_some (ap (work_of works) same ∙ is))

pub noted_same : (t : ℕ) (table : Table) (works : List Working) (u : ℕ)
    → is_some (work_of (noted t table works) u) ≡ is_some (work_of works u)
noted_same t table works u = at _
  where
    at : (b : Bool) → is_some (work_of (noted_if b t table works) u) ≡ is_some (work_of works u)
    at true = refl
    at false = with_same works t (with_written table) (λ w. refl) (λ w. refl) u

pub unasked_same : (works now : List Working) (t : ℕ) → now ≡ with_work t unasked works → (u : ℕ)
    → is_some (work_of now u) ≡ is_some (work_of works u)
unasked_same works now t is u = ap (λ (ws : List Working). is_some (work_of ws u)) is
    ∙ with_same works t unasked (λ w. refl) (λ w. refl) u

pub back_same : (works set now : List Working) (t : ℕ) (end : Undo) → set ≡ with_work t (with_undo end) works
    → now ≡ with_work t without_tables set
    → (u : ℕ) → is_some (work_of now u) ≡ is_some (work_of works u)
back_same works set now t end sets forgets u = ap (λ (ws : List Working). is_some (work_of ws u)) forgets
    ∙ (with_same set t without_tables (λ w. refl) (λ w. refl) u
    ∙ (ap (λ (ws : List Working). is_some (work_of ws u)) sets
    ∙ with_same works t (with_undo end) (λ w. refl) (λ w. refl) u))

-- a table is kept among those that are written into
pub core_noted : {D : Type 0} (m : Meaning D) (core : Core D) (t : ℕ) (table : Table) (works : List Working)
    → IsCore m core → works ≡ noted t table core.works → IsCore m (record core { works = works })
core_noted m core t table works is made = core_works m core works is
    (λ u. ap (λ (ws : List Working). is_some (work_of ws u)) made ∙ noted_same t table core.works u)

-- the catalog may be given
pub catalog_given : (table : Table) → IsCatalog table → MayBeGiven table
catalog_given table is = record {
  columns = rw is.shape (omega arith);
  pointer = is.below;
}

-- a transaction has ended, and its work and its base are gone
module _ {D : Type 0} (m : Meaning D) (core : Core D) (t : ℕ) (list : TxList) (works : List Working) (bases : Bases)
    (is : IsCore m core) (list_is : IsTxList list) (tips : TipsAreBelow core.store.geometry.limit list)
    (ends : EndsIn core.list list t Dead) where
  not_active : Dead ≢ Active
  not_active same = absurd cc

  by : {u : ℕ} → (u ≡ t) ⊎ (u ≢ t) → said list u ≡ Active
      → is_some (work_of (without_work t core.works) u) ≡ true
  by {u} (inl e) active = absurd (not_active (sym ends.here ∙ (ap (said list) (sym e) ∙ active)))
  by {u} (inr apart) active = ap is_some (without_others core.works t u apart)
      ∙ is.active.has_work u (sym (ends.others u apart) ∙ active)

  only : {u : ℕ} → (u ≡ t) ⊎ (u ≢ t) → is_some (work_of (without_work t core.works) u) ≡ true
      → said list u ≡ Active
  only {u} (inl e) some = absurd (let h : false ≡ true = sym (ap is_some (ap (work_of (without_work t core.works)) e
      ∙ without_its core.works t)) ∙ some in cc)
  only {u} (inr apart) some = ends.others u apart
      ∙ is.active.is_active u (ap is_some (sym (without_others core.works t u apart)) ∙ some)

  gone : IsCore m (record core { list = list; works = without_work t core.works; live = after_leave core.live t })
  gone = record {
    pool = is.pool;
    geometry = is.geometry;
    list = list_is;
    size = ends.size ∙ is.size;
    tips = tips;
    catalog = is.catalog;
    next = is.next ∙ sym ends.next;
    drawn = drawn_after_drop core.live.next t core.live.entered (without t core.live.entered) refl is.drawn;
    active = record {
      has_work = λ u active. by (cases_eq u t) active;
      is_active = λ u some. only (cases_eq u t) some;
    };
  }

  pub core_rolled : works ≡ without_work t core.works → bases ≡ after_leave core.live t
      → IsCore m (record core { list = list; works = works; live = bases })
  core_rolled works_is bases_is = rw (works_is, bases_is) gone
