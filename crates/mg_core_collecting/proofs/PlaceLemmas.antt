-- A settled record is collected, and a core has collected what stands at a place.
use Rattle.std.specs.Prelude.{◌≡◌, ℕ, Bool, MatchResult, Result, Ok, Err}
use Rattle.std.proofs.Common.{◌∙◌, ap, refl, subst, sym}
use Rattle.mg_base.specs.Disk.{Meaning}
use Rattle.mg_base.specs.Image.{Image}
use Rattle.mg_base.specs.declared.geometry.Geometry.{Geometry}
use Rattle.mg_base.specs.declared.numbers.RecId.{RecId}
use Rattle.mg_base.specs.declared.numbers.TxNo.{TxNo}
use Rattle.mg_base.specs.declared.transaction.TxState.{TxState}
use Rattle.mg_collecting.specs.Collecting.{Collects, FailsCollecting}
use Rattle.mg_core.specs.Cores.{Continues, IsCore}
use Rattle.mg_core.specs.Refusing.{CountsFault, IsRefusal, NamesLimit}
use Rattle.mg_core.specs.declared.parts.Core.{Core}
use Rattle.mg_core_collecting.specs.Places.{CollectsOn, CollectsSettled, FailsPlace, FailsSettled, IsSettled, collects, not_collected}
use Rattle.mg_heap.specs.Listed.{IsRecordOf}
use Rattle.mg_model.specs.declared.refusal.Refusal.{Refusal}
use Rattle.mg_model.specs.declared.table.Table.{Table}
use Rattle.mg_pool.specs.Fault.{StaysOnline}
use Rattle.mg_pool.specs.Pool.{IsPool, shown}
use Rattle.mg_pool.specs.declared.pool.Pool.{Pool}
use Rattle.mg_snap.specs.Live.{State}
use Rattle.mg_space.specs.Taking.{IsGeometry}
use Rattle.mg_space.specs.View.{KeepsStore, Tells}
use Rattle.mg_space.specs.declared.fault.SpaceFault.{SpaceFault}
use Rattle.mg_space.specs.declared.links.FireLinks.{FireLinks}
use Rattle.mg_txlist.specs.TipLaws.{tips_by}
use Rattle.mg_txlist.specs.TxList.{said}
use Rattle.mg_txlist.specs.declared.list.TxList.{TxList}

-- a settled record of a table is collected, or not to the end
pub collected_so : {D : Type 0} (m : Meaning D) (before ready after : Pool D FireLinks) (state : ℕ → TxState)
    (live : State) (table : Table) (rec : RecId) → KeepsStore m before ready → StaysOnline m before ready
    → ((image : Image) → Tells m before.disk image → IsRecordOf (shown before.dirty image) table.pointer.0 rec)
    → ((image : Image) → Tells m before.disk image → IsSettled (shown before.dirty image) state rec)
    → (result : Result Bool SpaceFault)
    → MatchResult result (Collects m ready after state live rec) (FailsCollecting m ready after state live rec)
    → MatchResult result (CollectsSettled m before after state live table rec)
    (FailsSettled m before after state live table rec)
collected_so m before ready after state live table rec keeps online its settled (Ok gone) given =
    collects ready keeps online its settled given
collected_so m before ready after state live table rec keeps online its settled (Err fault) given =
    not_collected ready keeps online its settled given

-- ---- the core

-- a core over another store of the same geometry
pub core_over : {D : Type 0} (m : Meaning D) (old : Core D) (store : Pool D FireLinks) → IsCore m old → IsPool m store
    → store.geometry ≡ old.store.geometry → IsCore m (record old { store = store })
core_over m old store is pool same = record {
  pool = pool;
  geometry = subst IsGeometry (sym same) is.geometry;
  list = is.list;
  size = is.size ∙ ap (λ (g : Geometry). g.size) (sym same);
  tips = tips_by old.store.geometry store.geometry old.list same is.tips;
  next = is.next;
  drawn = is.drawn;
  active = is.active;
  catalog = is.catalog;
}

-- and with a fault counted
pub core_counted : {D : Type 0} (m : Meaning D) (mid new : Core D) → IsCore m mid
    → new ≡ record mid { damage = new.damage; shortages = new.shortages } → IsCore m new
core_counted m mid new is same = subst (IsCore m) (sym same) (record {
  pool = is.pool;
  geometry = is.geometry;
  list = is.list;
  size = is.size;
  tips = is.tips;
  next = is.next;
  drawn = is.drawn;
  active = is.active;
  catalog = is.catalog;
})

module _ {D : Type 0} (m : Meaning D) (old : Core D) (store : Pool D FireLinks) (list : TxList) (t : TxNo) (table : Table)
    (rec : RecId) (same_list : list ≡ old.list) (continues : Continues old t.0) where
  pub place_collected : (gone : Bool) → CollectsSettled m old.store store (said list) old.live table rec gone
      → CollectsOn m old (record old { store = store }) t table rec gone
  place_collected gone given = record {
    continues = continues;
    collected = subst (λ (l : TxList). CollectsSettled m old.store store (said l) old.live table rec gone) same_list
        given;
    same = refl;
  }

  pub place_failed : (new : Core D) (fault : SpaceFault) (refusal : Refusal)
      → FailsSettled m old.store store (said list) old.live table rec fault → IsRefusal fault refusal
      → NamesLimit new.store.geometry.limit refusal
      → CountsFault fault old.damage new.damage old.shortages new.shortages
      → new ≡ record old { store = store; damage = new.damage; shortages = new.shortages }
      → FailsPlace m old new t table rec refusal
  place_failed new fault refusal given is names counts same = record {
    continues = continues;
    fault = fault;
    is = is;
    names = names;
    fails = subst (λ (s : Pool D FireLinks). FailsSettled m old.store s (said old.list) old.live table rec fault)
        (sym same_store)
        (subst (λ (l : TxList). FailsSettled m old.store store (said l) old.live table rec fault) same_list given);
    counts = counts;
    same = same ∙ ap (λ (s : Pool D FireLinks). record old {
      store = s;
      damage = new.damage;
      shortages = new.shortages;
    }) (sym same_store);
  }
    where
      same_store : new.store ≡ store
      same_store = ap (λ (c : Core D). c.store) same
