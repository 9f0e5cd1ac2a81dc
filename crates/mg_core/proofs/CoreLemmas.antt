-- What an engine always has stays so, where some of its parts become others.
use Rattle.std.proofs.Common.{◌≡◌, ◌≢◌, ◌<◌, ◌≤◌, ◌-◌, ◌==◌, nat_lt, ℕ, zero, suc, Bool, true, false, ◌⊎◌, inl, inr, List, length, Option, Some, None, sym, ◌∙◌, ap, refl, subst, arith, cond}
use Rattle.std.specs.Prelude.{is_some}
use Rattle.std.proofs.lemmas.Bool.{cases_eq, cases_lt, ltb-true, ltb-false}
use Rattle.std.proofs.lemmas.List.{get_or_past}
use Rattle.mg_image.specs.Inventory.{settled}
use Rattle.mg_base.specs.Disk.{Meaning}
use Rattle.mg_base.specs.declared.geometry.Geometry.{Geometry}
use Rattle.mg_pool.specs.DirtyPage.{DirtyPage}
use Rattle.mg_pool.specs.declared.pool.Pool.{Pool}
use Rattle.mg_pool.specs.Dirty.{DirtyPages, bytes_of, content_of, entry_in, is_dirty, is_marked, marked_by}
use Rattle.mg_pool.specs.Pool.{IsPool}
use Rattle.mg_space.specs.declared.links.FireLinks.{FireLinks}
use Rattle.mg_space.specs.Taking.{IsGeometry}
use Rattle.mg_base.specs.declared.transaction.TxState.{TxState}
use Rattle.mg_base.specs.declared.transaction.TxState.TheVariants.{Active, Committed, Dead}
use Rattle.mg_snap.specs.Live.{AreDrawn, State as Bases, after_leave, after_rebase, base_now, is_among, without}
use Rattle.mg_snap.specs.LiveLaws.{drawn_after_drop, numbers_rebased}
use Rattle.mg_txlist.specs.declared.list.TxList.{TxList}
use Rattle.mg_txlist.specs.TxList.{EndsIn, IsTxList, TipsAreBelow, bits_said, next_said, own_said, said}
use Rattle.mg_works.specs.Works.{Working, has_asked, with_point, with_work, without_tables, without_work, work_of}
use Rattle.mg_works.specs.WorksLaws.{with_its, with_none, with_others, without_its, without_others}
use Rattle.mg_core.specs.declared.parts.Core.{Core}
use Rattle.mg_core.specs.Cores.{IsCore}
use Rattle.mg_core.specs.Events.{EndsWait, keeps_base, with_base, with_base_if}
use Rattle.mg_txlist.specs.TipLaws.{tips_by}

-- other waits, works of the same transactions, and bases with the same next number
pub core_with : {D : Type 0} (m : Meaning D) (old new : Core D) (works : List Working) (bases : Bases)
    → IsCore m old → new ≡ record old { waits = new.waits; works = works; live = bases }
    → bases.next ≡ old.live.next → AreDrawn bases
    → ((u : ℕ) → is_some (work_of works u) ≡ is_some (work_of old.works u)) → IsCore m new
core_with {D} m old new works bases core same next drawn active = subst (λ (c : Core D). IsCore m c) (sym same) (record {
  pool = core.pool;
  geometry = core.geometry;
  list = core.list;
  size = core.size;
  tips = core.tips;
  catalog = core.catalog;
  next = next ∙ core.next;
  drawn = drawn;
  active = record {
    has_work = λ t is. active t ∙ core.active.has_work t is;
    is_active = λ t is. core.active.is_active t (sym (active t) ∙ is);
  };
})

-- a new base draws no number
pub rebased_drawn : (live : Bases) (t : ℕ) → AreDrawn live → AreDrawn (after_rebase live t)
rebased_drawn live t drawn u there = drawn u (ap (λ (ns : List ℕ). is_among ns u)
    (sym (numbers_rebased live.entered t (base_now live))) ∙ there)

-- another work in place of one: the same transactions have works
pub with_same : (works : List Working) (t : ℕ) (made : Working → Working)
    → ((w : Working) → (made w).number ≡ w.number) → ((w : Working) → (made w).session ≡ w.session)
    → (u : ℕ) → is_some (work_of (with_work t made works) u) ≡ is_some (work_of works u)
with_same works t made number session u = at (cases_eq u t) (work_of works t) refl
  where
    at : (u ≡ t) ⊎ (u ≢ t) → (found : Option Working) → work_of works t ≡ found
        → is_some (work_of (with_work t made works) u) ≡ is_some (work_of works u)
    at (inr apart) found is = ap is_some (with_others t made number session works u apart)
    at (inl same) None is = ap is_some (ap (work_of (with_work t made works)) same ∙ with_none t made number session works t is)
        ∙ sym (ap is_some (ap (work_of works) same ∙ is))
    at (inl same) (Some w) is = ap is_some (ap (work_of (with_work t made works)) same ∙ with_its t made number session works w is)
        ∙ sym (ap is_some (ap (work_of works) same ∙ is))

-- a new base
pub core_based : {D : Type 0} (m : Meaning D) (core : Core D) (t : ℕ) → IsCore m core
    → IsCore m (with_base_if false t core)
core_based m core t is = core_with m core (with_base_if false t core) (with_work t without_tables core.works)
    (after_rebase core.live t) is refl refl (rebased_drawn core.live t is.drawn)
    (with_same core.works t without_tables (λ w. refl) (λ w. refl))

pub kept_base : {D : Type 0} (core : Core D) (t : ℕ) (b : Bool) → b ≡ true → keeps_base core.works t ≡ b
    → core ≡ with_base t core
kept_base core t b is same = rw (same ∙ is) refl

pub new_base : {D : Type 0} (core : Core D) (t : ℕ) (b : Bool) → b ≡ false → keeps_base core.works t ≡ b
    → with_base_if false t core ≡ with_base t core
new_base core t b is same = rw (same ∙ is) refl

-- works and bases are as a call made them
pub core_made : {D : Type 0} (m : Meaning D) (core : Core D) (works : List Working) → IsCore m core
    → ((u : ℕ) → is_some (work_of works u) ≡ is_some (work_of core.works u))
    → IsCore m (record core { works = works })
core_made m core works is active = core_with m core (record core { works = works }) works core.live is refl refl
    is.drawn active

pub core_based_by : {D : Type 0} (m : Meaning D) (core : Core D) (t : ℕ) (works : List Working) (bases : Bases)
    → IsCore m core → works ≡ with_work t without_tables core.works → bases ≡ after_rebase core.live t
    → IsCore m (record core { works = works; live = bases })
core_based_by m core t works bases is works_is bases_is = rw (works_is, bases_is) (core_based m core t is)

pub new_base_by : {D : Type 0} (core : Core D) (t : ℕ) (works : List Working) (bases : Bases) (b : Bool)
    → b ≡ false → keeps_base core.works t ≡ b → works ≡ with_work t without_tables core.works
    → bases ≡ after_rebase core.live t → record core { works = works; live = bases } ≡ with_base t core
new_base_by core t works bases b is same works_is bases_is = rw (works_is, bases_is) (new_base core t b is same)

-- a point is set
pub core_pointed : {D : Type 0} (m : Meaning D) (core : Core D) (t : ℕ) (name : Option (List ℕ))
    (works : List Working) → IsCore m core → works ≡ with_work t (with_point name) core.works
    → IsCore m (record core { works = works })
core_pointed m core t name works is works_is = rw works_is (core_made m core (with_work t (with_point name) core.works) is
    (with_same core.works t (with_point name) (λ w. refl) (λ w. refl)))

-- a transaction has ended, and its work and its base are gone
module _ {D : Type 0} (m : Meaning D) (core : Core D) (t : ℕ) (end : TxState) (store : Pool D FireLinks)
    (list : TxList) (works : List Working) (bases : Bases) (is : IsCore m core) (not_active : end ≢ Active)
    (pool : IsPool m store) (geometry : store.geometry ≡ core.store.geometry) (list_is : IsTxList list)
    (tips : TipsAreBelow core.store.geometry.limit list) (ends : EndsIn core.list list t end) where
  by : {u : ℕ} → (u ≡ t) ⊎ (u ≢ t) → said list u ≡ Active
      → is_some (work_of (without_work t core.works) u) ≡ true
  by {u} (inl e) active = absurd (not_active (sym ends.here ∙ (ap (said list) (sym e) ∙ active)))
  by {u} (inr apart) active = ap is_some (without_others core.works t u apart)
      ∙ is.active.has_work u (sym (ends.others u apart) ∙ active)

  only : {u : ℕ} → (u ≡ t) ⊎ (u ≢ t) → is_some (work_of (without_work t core.works) u) ≡ true
      → said list u ≡ Active
  only {u} (inl e) some = absurd (let h : false ≡ true = sym (ap is_some (ap (work_of (without_work t core.works)) e
      ∙ without_its core.works t)) ∙ some in cc)
  only {u} (inr apart) some = ends.others u apart
      ∙ is.active.is_active u (ap is_some (sym (without_others core.works t u apart)) ∙ some)

  gone : IsCore m (record core {
    store = store;
    list = list;
    works = without_work t core.works;
    live = after_leave core.live t;
  })
  gone = record {
    pool = pool;
    geometry = subst IsGeometry (sym geometry) is.geometry;
    list = list_is;
    size = ends.size ∙ (is.size ∙ ap (λ (g : Geometry). g.size) (sym geometry));
    tips = tips_by core.store.geometry store.geometry list geometry tips;
    catalog = is.catalog;
    next = is.next ∙ sym ends.next;
    drawn = drawn_after_drop core.live.next t core.live.entered (without t core.live.entered) refl is.drawn;
    active = record {
      has_work = λ u active. by (cases_eq u t) active;
      is_active = λ u some. only (cases_eq u t) some;
    };
  }

  pub core_ended : works ≡ without_work t core.works → bases ≡ after_leave core.live t
      → IsCore m (record core { store = store; list = list; works = works; live = bases })
  core_ended works_is bases_is = rw (works_is, bases_is) gone

-- pages are marked, and a commit was asked for
pub core_asked : {D : Type 0} (m : Meaning D) (core : Core D) (t : ℕ) (store : Pool D FireLinks)
    (works : List Working) → IsCore m core → IsPool m store → store ≡ record core.store { dirty = store.dirty }
    → works ≡ with_work t has_asked core.works → IsCore m (record core { store = store; works = works })
core_asked {D} m core t store works is pool same works_is =
    rw works_is (on (core_made m core (with_work t has_asked core.works) is
    (with_same core.works t has_asked (λ w. refl) (λ w. refl))))
  where
    geometry : store.geometry ≡ core.store.geometry
    geometry = ap (λ (s : Pool D FireLinks). s.geometry) same

    on : IsCore m (record core { works = with_work t has_asked core.works })
        → IsCore m (record core { store = store; works = with_work t has_asked core.works })
    on made = record {
      pool = pool;
      geometry = subst IsGeometry (sym geometry) made.geometry;
      list = made.list;
      size = made.size ∙ ap (λ (g : Geometry). g.size) (sym geometry);
      tips = tips_by core.store.geometry store.geometry core.list geometry made.tips;
      catalog = made.catalog;
      next = made.next;
      drawn = made.drawn;
      active = made.active;
    }

-- a marked page is dirty
pub marked_dirty : (dirty : DirtyPages) (page who : ℕ) → is_marked dirty page who ≡ true
    → is_dirty dirty page ≡ true
unfolding is_marked content_of
marked_dirty dirty page who marked = at (entry_in dirty.pages page) marked
  where
    at : (entry : Option DirtyPage) → marked_by entry who ≡ true → is_some (bytes_of entry) ≡ true
    at None marked = absurd cc
    at (Some d) marked = refl

-- an active transaction is one of those that were drawn, and not the system's
pub active_drawn : (list : TxList) (t : ℕ) → said list t ≡ Active → t < next_said list
unfolding said
active_drawn list t is = at (t == 0) refl (nat_lt t list.first) refl is
  where
    at : (z : Bool) → (t == 0) ≡ z → (b : Bool) → nat_lt t list.first ≡ b
        → cond z Committed (cond b (settled (bits_said list t)) (own_said list (t - list.first))) ≡ Active
        → t < next_said list
    at true nought b below is = absurd cc
    at false nought true below is = let low = ltb-true t list.first below in omega (arith, low)
    at false nought false below is = elim (cases_lt (t - list.first) (length list.own.items)) [
      | inl inside ↦ let high = ltb-false t list.first below in omega (arith, inside, high)
      | inr past ↦ absurd (let h : Dead ≡ Active = sym (get_or_past list.own.items (t - list.first) Dead past) ∙ is in cc)
    ]

pub active_some : (list : TxList) (t : ℕ) → said list t ≡ Active → 1 ≤ t
unfolding said
active_some list zero is = absurd cc
active_some list (suc t) is = omega arith

pub dead_ended : Dead ≢ Active
dead_ended same = absurd cc

pub committed_ended : Committed ≢ Active
committed_ended same = absurd cc

-- the list is as before an event began
pub same_list : {D : Type 0} (old ended : Core D) (t : ℕ) → EndsWait old ended t → old.list ≡ ended.list
same_list {D} old ended t wait = sym (ap (λ (c : Core D). c.list) wait.same)

-- the next number has no work
pub next_none : {D : Type 0} (m : Meaning D) (core : Core D) (t : ℕ) → IsCore m core → t ≡ next_said core.list
    → work_of core.works t ≡ None
next_none m core t is next = at (work_of core.works t) refl
  where
    at : (found : Option Working) → work_of core.works t ≡ found → work_of core.works t ≡ None
    at None found = found
    at (Some w) found = absurd (let low = active_drawn core.list t (is.active.is_active t (ap is_some found)) in
        omega (arith, low, next))
