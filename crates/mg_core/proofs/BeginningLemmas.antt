-- A transaction enters, and is taken back where its number was not drawn.
use Rattle.std.proofs.Common.{◌≡◌, ◌≢◌, ◌<◌, ◌≤◌, ◌+◌, ◌++◌, ◌∷◌, ◌==◌, ℕ, true, ◌⊎◌, inl, inr, List, [], Some, None, Err, max, sym, ◌∙◌, ap, refl, subst, arith}
use Rattle.std.specs.Prelude.{is_some}
use Rattle.std.proofs.lemmas.Bool.{cases_eq, eqb-true, or_cases}
use Rattle.mg_base.specs.Disk.{Meaning}
use Rattle.mg_base.specs.Image.{Image}
use Rattle.mg_base.specs.declared.geometry.Geometry.{Geometry}
use Rattle.mg_base.specs.declared.transaction.TxState.TheVariants.{Active}
use Rattle.mg_base.specs.declared.numbers.TxNo.{TxNo}
use Rattle.mg_header.specs.declared.header.TheConstants.{GREATEST_NEXT}
use Rattle.mg_model.specs.declared.event.Mode.{Mode}
use Rattle.mg_model.specs.declared.refusal.Refusal.{Refusal}
use Rattle.mg_pool.specs.Fault.{TellsFault}
use Rattle.mg_space.specs.View.{Tells, pool_answer}
use Rattle.mg_space.specs.declared.fault.SpaceFault.{SpaceFault}
use Rattle.mg_core.specs.Beginning.{FailsBegin, WhyNotDrawn}
use Rattle.mg_core.specs.Refusing.{CountsFault, IsRefusal, NamesLimit}
use Rattle.mg_pool.specs.Pool.{IsPool, shown}
use Rattle.mg_pool.specs.declared.pool.Pool.{Pool}
use Rattle.mg_snap.specs.Live.{AreDrawn, State as Bases, after_enter, after_retract, is_among, unended_in}
use Rattle.mg_snap.specs.LiveLaws.{among_more, numbers_more, retracts_entering}
use Rattle.mg_space.specs.Taking.{IsGeometry}
use Rattle.mg_space.specs.declared.links.FireLinks.{FireLinks}
use Rattle.mg_txlist.specs.Drawing.{AddsNumber, FailsDraw, SaysSame}
use Rattle.mg_txlist.specs.Refusals.{RefusesDraw}
use Rattle.mg_txlist.specs.TxList.{IsTxList, TipsAreBelow, next_said, said}
use Rattle.mg_txlist.specs.declared.list.TxList.{TxList}
use Rattle.mg_works.specs.Works.{Working, begun, without_work, work_of}
use Rattle.mg_works.specs.WorksLaws.{begun_and_gone, more_its, more_others}
use Rattle.mg_core.specs.declared.parts.Core.{Core}
use Rattle.mg_core.specs.Cores.{IsCore}
use Rattle.mg_core.proofs.CoreLemmas.{next_none}
use Rattle.mg_txlist.specs.TipLaws.{tips_by, tips_same}

-- those that have not ended are no greater than the one that has just entered
pub entered_last : (live : Bases) (t : ℕ) → AreDrawn live → live.next ≡ t → (u : ℕ)
    → is_among (unended_in (after_enter live t)) u ≡ true → u ≤ t
entered_last live t drawn next u there = at (or_cases (is_among (unended_in live) u) (t == u)
    (sym (among_more (unended_in live) t u) ∙ (ap (λ (ns : List ℕ). is_among ns u)
    (sym (numbers_more live.entered (record {
      number = t;
      base = Some record { drawn = max live.next (t + 1); unended = unended_in live ++ t ∷ [] };
    }))) ∙ there)))
  where
    at : (is_among (unended_in live) u ≡ true) ⊎ ((t == u) ≡ true) → u ≤ t
    at (inl among) = let low = drawn u among in omega (arith, low, next)
    at (inr same) = let e = eqb-true t u same in omega (arith, e)

-- the next number after one has entered
entered_next : (live : Bases) (t : ℕ) → live.next ≡ t → (after_enter live t).next ≡ t + 1
entered_next live t next = rw next (most t)
  where
    most : (n : ℕ) → max n (n + 1) ≡ n + 1
    most n = omega arith

entered_drawn : (live : Bases) (t : ℕ) → AreDrawn live → live.next ≡ t → AreDrawn (after_enter live t)
entered_drawn live t drawn next u there =
    let most = entered_last live t drawn next u there in
    let later = entered_next live t next in omega (arith, most, later)

-- ---- it was drawn

module _ {D : Type 0} (m : Meaning D) (old : Core D) (t session : ℕ) (mode : Mode) (store : Pool D FireLinks)
    (list : TxList) (is : IsCore m old) (number : t ≡ next_said old.list) (pool : IsPool m store)
    (geometry : store.geometry ≡ old.store.geometry) (list_is : IsTxList list)
    (tips : TipsAreBelow old.store.geometry.limit list) (adds : AddsNumber old.list list) where
  next : old.live.next ≡ t
  next = is.next ∙ sym number

  none : work_of old.works t ≡ None
  none = next_none m old t is number

  has : (u : ℕ) → (u ≡ t) ⊎ (u ≢ t) → said list u ≡ Active
      → is_some (work_of (old.works ++ begun t session mode ∷ []) u) ≡ true
  has u (inl e) active = ap (λ (n : ℕ). is_some (work_of (old.works ++ begun t session mode ∷ []) n)) e
      ∙ ap is_some (more_its old.works (begun t session mode) none)
  has u (inr apart) active = ap is_some (more_others old.works (begun t session mode) u apart)
      ∙ is.active.has_work u (sym (adds.others u (λ e. apart (e ∙ sym number))) ∙ active)

  only : (u : ℕ) → (u ≡ t) ⊎ (u ≢ t) → is_some (work_of (old.works ++ begun t session mode ∷ []) u) ≡ true
      → said list u ≡ Active
  only u (inl e) some = ap (said list) (e ∙ number) ∙ adds.here
  only u (inr apart) some = adds.others u (λ e. apart (e ∙ sym number))
      ∙ is.active.is_active u (ap is_some (sym (more_others old.works (begun t session mode) u apart)) ∙ some)

  pub core_begun : IsCore m (record old {
    store = store;
    list = list;
    works = old.works ++ begun t session mode ∷ [];
    live = after_enter old.live t;
  })
  core_begun = record {
    pool = pool;
    geometry = subst IsGeometry (sym geometry) is.geometry;
    list = list_is;
    size = adds.size ∙ (is.size ∙ ap (λ (g : Geometry). g.size) (sym geometry));
    tips = tips_by old.store.geometry store.geometry list geometry tips;
    catalog = is.catalog;
    next = entered_next old.live t next ∙ (ap (λ (n : ℕ). n + 1) number ∙ sym adds.next);
    drawn = entered_drawn old.live t is.drawn next;
    active = record {
      has_work = λ u active. has u (cases_eq u t) active;
      is_active = λ u some. only u (cases_eq u t) some;
    };
  }

-- ---- it was not

-- a list that says what it said
said_same : (old list : TxList) → SaysSame old list → (u : ℕ) → said list u ≡ said old u
unfolding said
said_same old list same u = rw (same.pages, same.own, same.first, same.size) refl

next_same : (old list : TxList) → SaysSame old list → next_said list ≡ next_said old
next_same old list same = rw (same.own, same.first) refl

-- memory is as before the entering
pub works_back : (works entered gone : List Working) (t session : ℕ) (mode : Mode) → work_of works t ≡ None
    → entered ≡ works ++ begun t session mode ∷ [] → gone ≡ without_work t entered → gone ≡ works
works_back works entered gone t session mode none is went = went ∙ (ap (without_work t) is
    ∙ begun_and_gone works (begun t session mode) none)

pub live_back : (live entered back : Bases) (t : ℕ) → AreDrawn live → live.next ≡ t
    → entered ≡ after_enter live t → back ≡ after_retract entered t → back ≡ live
live_back live entered back t drawn next is went = went ∙ (ap (λ (b : Bases). after_retract b t) is
    ∙ subst (λ (n : ℕ). after_retract (after_enter live n) n ≡ live) next (retracts_entering live drawn))

pub entered_back : {D : Type 0} (core : Core D) (works : List Working) (bases : Bases) → works ≡ core.works
    → bases ≡ core.live → record core { works = works; live = bases } ≡ core
entered_back core works bases works_is bases_is = rw (works_is, bases_is) refl

pub core_failed : {D : Type 0} (m : Meaning D) (old : Core D) (store : Pool D FireLinks) (list : TxList)
    (damage shortages : ℕ) → IsCore m old → IsPool m store → store.geometry ≡ old.store.geometry
    → IsTxList list → SaysSame old.list list
    → IsCore m (record old { store = store; list = list; damage = damage; shortages = shortages })
core_failed m old store list damage shortages is pool geometry list_is same = record {
  pool = pool;
  geometry = subst IsGeometry (sym geometry) is.geometry;
  list = list_is;
  size = same.size ∙ (is.size ∙ ap (λ (g : Geometry). g.size) (sym geometry));
  tips = tips_by old.store.geometry store.geometry list geometry
      (tips_same old.store.geometry.limit old.list list same.pages is.tips);
  catalog = is.catalog;
  next = is.next ∙ sym (next_same old.list list same);
  drawn = is.drawn;
  active = record {
    has_work = λ u active. is.active.has_work u (sym (said_same old.list list same u) ∙ active);
    is_active = λ u some. said_same old.list list same u ∙ is.active.is_active u some;
  };
}

-- ---- over the engine that was entered

module _ {D : Type 0} (m : Meaning D) (old entered : Core D) (t session : ℕ) (mode : Mode)
    (store : Pool D FireLinks) (list : TxList) (is : IsCore m old) (number : t ≡ next_said old.list)
    (ok : entered ≡ record old {
      works = old.works ++ begun t session mode ∷ [];
      live = after_enter old.live t;
    })
    (pool : IsPool m store) (geometry : store.geometry ≡ entered.store.geometry) (list_is : IsTxList list) where
  old_next : old.live.next ≡ t
  old_next = is.next ∙ sym number

  geometry_is : store.geometry ≡ old.store.geometry
  geometry_is = geometry ∙ ap (λ (c : Core D). c.store.geometry) ok

  pub retract_may : (u : ℕ) → is_among (unended_in entered.live) u ≡ true → u ≤ t
  retract_may u there = entered_last old.live t is.drawn old_next u
      (ap (λ (c : Core D). is_among (unended_in c.live) u) (sym ok) ∙ there)

  pub begun_core : (TipsAreBelow entered.store.geometry.limit entered.list
      → TipsAreBelow entered.store.geometry.limit list) → AddsNumber entered.list list
      → IsCore m (record entered { store = store; list = list })
  begun_core tips adds = subst (λ (c : Core D). IsCore m (record c { store = store; list = list })) (sym ok)
      (core_begun m old t session mode store list is number pool geometry_is list_is
      (subst (λ (c : Core D). TipsAreBelow c.store.geometry.limit c.list
      → TipsAreBelow c.store.geometry.limit list) ok tips is.tips)
      (subst (λ (l : TxList). AddsNumber l list) (ap (λ (c : Core D). c.list) ok) adds))

  module _ (works : List Working) (bases : Bases) (final : Core D) (same : SaysSame entered.list list)
      (went : works ≡ without_work t entered.works) (back : bases ≡ after_retract entered.live t)
      (final_same : final ≡ record entered {
        store = store;
        list = list;
        works = works;
        live = bases;
        damage = final.damage;
        shortages = final.shortages;
      }) where
    works_is : works ≡ old.works
    works_is = works_back old.works entered.works works t session mode (next_none m old t is number)
        (ap (λ (c : Core D). c.works) ok) went

    bases_are : bases ≡ old.live
    bases_are = live_back old.live entered.live bases t is.drawn old_next (ap (λ (c : Core D). c.live) ok) back

    pub final_is : final ≡ record old {
      store = store;
      list = list;
      damage = final.damage;
      shortages = final.shortages;
    }
    final_is = final_same
        ∙ (ap (λ (c : Core D). record c {
          store = store;
          list = list;
          works = works;
          live = bases;
          damage = final.damage;
          shortages = final.shortages;
        }) ok
        ∙ (ap (λ (ws : List Working). record old {
          store = store;
          list = list;
          works = ws;
          live = bases;
          damage = final.damage;
          shortages = final.shortages;
        }) works_is
        ∙ ap (λ (b : Bases). record old {
          store = store;
          list = list;
          live = b;
          damage = final.damage;
          shortages = final.shortages;
        }) bases_are))

    pub failed_core : IsCore m final
    failed_core = subst (λ (c : Core D). IsCore m c) (sym final_is)
        (core_failed m old store list final.damage final.shortages is pool geometry_is list_is
        (subst (λ (l : TxList). SaysSame l list) (ap (λ (c : Core D). c.list) ok) same))

    store_was : entered.store ≡ old.store
    store_was = ap (λ (c : Core D). c.store) ok

    store_now : final.store ≡ store
    store_now = ap (λ (c : Core D). c.store) final_is

    list_now : final.list ≡ list
    list_now = ap (λ (c : Core D). c.list) final_is

    -- why no number is drawn over the engine that was entered is why over the one before
    why_not : (fault : SpaceFault) → ((image : Image) → Tells m entered.store.disk image
        → RefusesDraw m store entered.store.geometry (next_said entered.list) (shown entered.store.dirty image)
        fault) → WhyNotDrawn m old final fault
    why_not fault refused = subst (λ (s : Pool D FireLinks). (image : Image) → Tells m old.store.disk image
        → RefusesDraw m s old.store.geometry (next_said old.list) (shown old.store.dirty image) fault)
        (sym store_now) (subst (λ (s : Pool D FireLinks). (image : Image) → Tells m s.disk image
        → RefusesDraw m store s.geometry (next_said old.list) (shown s.dirty image) fault) store_was
        (subst (λ (l : TxList). (image : Image) → Tells m entered.store.disk image
        → RefusesDraw m store entered.store.geometry (next_said l) (shown entered.store.dirty image) fault)
        (ap (λ (c : Core D). c.list) ok) refused))

    pub fails_begin : (fault : SpaceFault) (refusal : Refusal) → old.store.offline ≡ None
        → t < GREATEST_NEXT → IsRefusal fault refusal → NamesLimit final.store.geometry.limit refusal
        → FailsDraw m entered.store store fault
        → TellsFault m entered.store store (pool_answer {T = TxNo} (Err fault))
        → ((image : Image) → Tells m entered.store.disk image
        → RefusesDraw m store entered.store.geometry (next_said entered.list) (shown entered.store.dirty image)
        fault)
        → CountsFault fault entered.damage final.damage entered.shortages final.shortages
        → FailsBegin m old final refusal
    fails_begin fault refusal online below refuses names left told refused counts = record {
      online = online;
      below = subst (λ (n : ℕ). n < GREATEST_NEXT) number below;
      fault = fault;
      is = refuses;
      names = names;
      says = subst (λ (l : TxList). SaysSame old.list l) (sym list_now)
          (subst (λ (l : TxList). SaysSame l list) (ap (λ (c : Core D). c.list) ok) same);
      left = subst (λ (s : Pool D FireLinks). FailsDraw m old.store s fault) (sym store_now)
          (subst (λ (s : Pool D FireLinks). FailsDraw m s store fault) store_was left);
      told = subst (λ (s : Pool D FireLinks). TellsFault m old.store s (pool_answer {T = TxNo} (Err fault))) (sym store_now)
          (subst (λ (s : Pool D FireLinks). TellsFault m s store (pool_answer {T = TxNo} (Err fault))) store_was told);
      why = why_not fault refused;
      counts = subst (λ (n : ℕ). CountsFault fault old.damage final.damage n final.shortages)
          (ap (λ (c : Core D). c.shortages) ok)
          (subst (λ (n : ℕ). CountsFault fault n final.damage entered.shortages final.shortages)
          (ap (λ (c : Core D). c.damage) ok) counts);
      same = final_is
          ∙ (ap (λ (s : Pool D FireLinks). record old {
            store = s;
            list = list;
            damage = final.damage;
            shortages = final.shortages;
          }) (sym store_now)
          ∙ ap (λ (l : TxList). record old {
            store = final.store;
            list = l;
            damage = final.damage;
            shortages = final.shortages;
          }) (sym list_now));
    }
