-- How some are collected one after another, and what is told of the committed tables.
use Rattle.std.proofs.Common.{◌≡◌, ◌∙◌, ◌++◌, None, inl, inr, ℕ, zero, suc, Bool, List, [], ◌∷◌, length, Result, Ok, Err, ap, refl, sym, subst, arith}
use Rattle.std.specs.Prelude.{MatchResult}
use Rattle.std.specs.declared.alloc.Global.{Global}
use Rattle.std.specs.declared.vec.Vec.{Vec}
use Rattle.std.proofs.lemmas.List.{append_assoc}
use Rattle.mg_base.specs.Disk.{Meaning}
use Rattle.mg_base.specs.Image.{Image}
use Rattle.mg_base.specs.declared.numbers.RecId.{RecId}
use Rattle.mg_base.specs.declared.transaction.TxState.{TxState}
use Rattle.mg_catalog.specs.ByKey.{by_key}
use Rattle.mg_collecting.specs.Collecting.{Collects, FailsCollecting}
use Rattle.mg_core.specs.Refusing.{CountsFault, IsRefusal, NamesLimit}
use Rattle.mg_core.specs.declared.parts.Core.{Core}
use Rattle.mg_heap.specs.Reading.{ReadsData}
use Rattle.mg_image.specs.Form.{Pages, Row}
use Rattle.mg_model.specs.CatalogRules.{AreTables}
use Rattle.mg_model.specs.declared.refusal.Refusal.{Refusal}
use Rattle.mg_model.specs.declared.table.Table.{Table}
use Rattle.mg_pool.specs.Fault.{StaysOnline, TellsFault}
use Rattle.mg_pool.specs.Pool.{shown}
use Rattle.mg_pool.specs.declared.fault.PoolFault.{PoolFault}
use Rattle.mg_pool.specs.declared.pool.Pool.{Pool}
use Rattle.mg_seek.specs.Speaking.{RefusesTableRows}
use Rattle.mg_seek.specs.TableRecords.{AreTableRecords}
use Rattle.mg_seek.specs.TableRows.{AreRowsSeen, RefusesTable, RefusesTables}
use Rattle.mg_seek.specs.Versions.{wants}
use Rattle.mg_seek.specs.declared.whose.Wanted.TheVariants.{SeenBy}
use Rattle.mg_snap.specs.Live.{MayEnter, State}
use Rattle.mg_space.specs.View.{KeepsStore, Tells, pool_answer}
use Rattle.mg_space.specs.declared.fault.SpaceFault.{SpaceFault}
use Rattle.mg_space.specs.declared.fault.SpaceFault.TheVariants as faults
use Rattle.mg_space.specs.declared.links.FireLinks.{FireLinks}
use Rattle.mg_txlist.specs.TxList.{next_said, said}
use Rattle.mg_txlist.specs.declared.list.TxList.{TxList}
use Rattle.mg_core_collecting.specs.Every.{CollectsAll, CollectsCommitted, CollectsListed, CollectsTable, FailsAll, FailsCommitted, FailsListed, FailsTable, FindsCommitted, GoesThrough, IsAmidst, StopsAt, UnnamedTables, CollectsOne, is_collected, none_yet, one_more, stops_in, system_base, the_system, uncollected}
use Rattle.mg_core_collecting.specs.Places.{IsSettled}
use Rattle.mg_core_collecting.proofs.LookLemmas.{reading_as}

-- ---- one after another

append_none : {A : Type 0} (xs : List A) → xs ++ [] ≡ xs
append_none [] = refl
append_none (x ∷ xs) = ap (λ ys. x ∷ ys) (append_none xs)

none_left : {A : Type 0} (xs : List A) → length xs ≡ 0 → xs ≡ []
none_left [] is = refl
none_left (x ∷ xs) is = absurd (omega (arith, is))

module _ {A D : Type 0} (one : A → Pool D FireLinks → Pool D FireLinks → Type 0) (all : List A)
    (start : Pool D FireLinks) where
  pub amidst_starts : IsAmidst one all all start start
  amidst_starts = record { done = []; parts = refl; goes = none_yet }

  pub amidst_goes_on : (rest : List A) (next : A) (later : List A) (now after : Pool D FireLinks)
      → IsAmidst one all rest start now → rest ≡ next ∷ later → one next now after
      → IsAmidst one all later start after
  amidst_goes_on rest next later now after amidst is made = record {
    done = amidst.done ++ next ∷ [];
    parts = amidst.parts ∙ (ap (λ (more : List A). amidst.done ++ more) is
        ∙ sym (append_assoc amidst.done (next ∷ []) later));
    goes = one_more amidst.done next now after amidst.goes made;
  }

  pub amidst_ends : (rest : List A) (now : Pool D FireLinks) → IsAmidst one all rest start now → length rest ≡ 0
      → GoesThrough one start all now
  amidst_ends rest now amidst is = subst (λ (xs : List A). GoesThrough one start xs now)
      (sym (amidst.parts ∙ (ap (λ (more : List A). amidst.done ++ more) (none_left rest is)
      ∙ append_none amidst.done))) amidst.goes

  pub amidst_stops : (fails : A → Pool D FireLinks → Pool D FireLinks → SpaceFault → Type 0) (rest : List A) (next : A)
      (later : List A) (now after : Pool D FireLinks) (fault : SpaceFault) → IsAmidst one all rest start now
      → rest ≡ next ∷ later → fails next now after fault → StopsAt one fails start all after fault
  amidst_stops fails rest next later now after fault amidst is failed = record {
    done = amidst.done;
    next = next;
    later = later;
    parts = amidst.parts ∙ ap (λ (more : List A). amidst.done ++ more) is;
    mid = now;
    goes = amidst.goes;
    stops = failed;
  }

-- ---- the committed tables

-- the system's transaction may enter where nobody has
pub system_enters : (next : ℕ) → MayEnter (record { next = next; entered = [] }) 0
system_enters zero = inl refl
system_enters (suc n) = inr (omega arith, refl)

rows_unread : {D : Type 0} (m : Meaning D) (store : Pool D FireLinks) (state : ℕ → TxState) (view : State) (pages : Pages)
    (catalog : Table) (fault : SpaceFault)
    → RefusesTableRows m store [] pages (wants state view (SeenBy the_system)) catalog fault
    → RefusesTable m store [] state view the_system pages catalog fault
rows_unread m store state view pages catalog (faults.Full most) refused = refused
rows_unread m store state view pages catalog (faults.Damaged it) refused = inl refused
rows_unread m store state view pages catalog (faults.Pool fault) refused = tt

rows_unnamed : {D : Type 0} (m : Meaning D) (store : Pool D FireLinks) (state : ℕ → TxState) (view : State) (pages : Pages)
    (catalog : Table) (rows : List Row) (fault : SpaceFault) → AreRowsSeen state view the_system pages catalog rows
    → RefusesTables catalog.pointer.0 rows fault → RefusesTable m store [] state view the_system pages catalog fault
rows_unnamed m store state view pages catalog rows (faults.Full most) seen refused = refused
rows_unnamed m store state view pages catalog rows (faults.Damaged it) seen refused =
    inr (record { rows = rows; seen = seen; refused = refused })
rows_unnamed m store state view pages catalog rows (faults.Pool fault) seen refused = tt

-- rows that name no tables, or want of memory, are no fault of the cache
unnamed_own : (page : ℕ) (rows : List Row) (fault : SpaceFault) → RefusesTables page rows fault
    → ReadsData {T = Unit {0}} (Err fault)
unnamed_own page rows (faults.Full most) refused = refused
unnamed_own page rows (faults.Damaged it) refused = tt
unnamed_own page rows (faults.Pool fault) refused =
    subst (λ (f : PoolFault). ReadsData {T = Unit {0}} (Err (faults.Pool f))) (sym refused) tt

unnamed_told : {D : Type 0} (m : Meaning D) (a b : Pool D FireLinks) (page : ℕ) (rows : List Row) (fault : SpaceFault)
    → RefusesTables page rows fault → StaysOnline m a b
    → TellsFault m a b (pool_answer {T = Unit {0}} (Err fault))
unnamed_told m a b page rows (faults.Full most) refused online = absurd refused
unnamed_told m a b page rows (faults.Damaged it) refused online = online
unnamed_told m a b page rows (faults.Pool fault) refused online =
    subst (λ (f : PoolFault). TellsFault m a b (pool_answer {T = Unit {0}} (Err (faults.Pool f)))) (sym refused) online

module _ {D : Type 0} (m : Meaning D) (before after : Pool D FireLinks) (state : ℕ → TxState) (view : State)
    (catalog : Table) where
  pub rows_fail : (fault : SpaceFault) → KeepsStore m before after → ReadsData {T = Vec Row Global} (Err fault)
      → TellsFault m before after (pool_answer {T = Vec Row Global} (Err fault))
      → ((image : Image) → Tells m before.disk image → RefusesTableRows m after [] (shown before.dirty image)
      (wants state view (SeenBy the_system)) catalog fault) → UnnamedTables m before after state view catalog fault
  rows_fail fault keeps own told why = reading_as (Vec Row Global) m before after
      (λ (image : Image). λ (f : SpaceFault). RefusesTable m after [] state view the_system (shown before.dirty image)
      catalog f) fault keeps own told
      (λ image tells. rows_unread m after state view (shown before.dirty image) catalog fault (why image tells))

  pub tables_so : (rows : List Row) → KeepsStore m before after → StaysOnline m before after
      → ((image : Image) → Tells m before.disk image
      → AreRowsSeen state view the_system (shown before.dirty image) catalog rows)
      → (result : Result (Vec Table Global) SpaceFault)
      → MatchResult result (λ tables. AreTables (by_key rows) tables.items) (RefusesTables catalog.pointer.0 rows)
      → MatchResult result (λ tables. FindsCommitted m before after state view catalog tables.items)
      (UnnamedTables m before after state view catalog)
  tables_so rows keeps online seen (Ok tables) names = record {
    keeps = keeps;
    online = online;
    named = λ image tells. record { rows = rows; seen = seen image tells; names = names };
  }
  tables_so rows keeps online seen (Err fault) refused = record {
    keeps = keeps;
    own = unnamed_own catalog.pointer.0 rows fault refused;
    told = unnamed_told m before after catalog.pointer.0 rows fault refused online;
    why = λ image tells. rows_unnamed m after state view (shown before.dirty image) catalog rows fault
        (seen image tells) refused;
  }

-- ---- one record

pub listed_so : {D : Type 0} (m : Meaning D) (before ready after : Pool D FireLinks) (state : ℕ → TxState) (live : State)
    (rec : RecId) → KeepsStore m before ready → StaysOnline m before ready
    → ((image : Image) → Tells m before.disk image → IsSettled (shown before.dirty image) state rec)
    → (result : Result Bool SpaceFault)
    → MatchResult result (Collects m ready after state live rec) (FailsCollecting m ready after state live rec)
    → MatchResult result (λ gone. CollectsListed m state live rec gone before after)
    (FailsListed m state live rec before after)
listed_so m before ready after state live rec keeps online settled (Ok gone) given =
    is_collected ready keeps online settled given
listed_so m before ready after state live rec keeps online settled (Err fault) given =
    uncollected ready keeps online settled given

-- ---- one table, and all

module _ {D : Type 0} (m : Meaning D) (before ready after : Pool D FireLinks) (state : ℕ → TxState) (live : State)
    (keeps : KeepsStore m before ready) (online : StaysOnline m before ready) where
  pub table_so : (catalog : ℕ) (table : Table) (records : List RecId)
      → ((image : Image) → Tells m before.disk image
      → AreTableRecords (shown before.dirty image) table.pointer.0 records) → (result : Result (Unit {0}) SpaceFault)
      → MatchResult result (λ done. GoesThrough (CollectsOne m state live) ready records after)
      (StopsAt (CollectsOne m state live) (FailsListed m state live) ready records after)
      → MatchResult result (λ done. CollectsTable m state live table before after)
      (FailsTable m state live catalog table before after)
  table_so catalog table records are (Ok done) goes = record {
    ready = ready;
    keeps = keeps;
    online = online;
    records = records;
    are = are;
    goes = goes;
  }
  table_so catalog table records are (Err fault) stops = stops_in (record {
    ready = ready;
    keeps = keeps;
    online = online;
    records = records;
    are = are;
    stops = stops;
  })

pub committed_so : {D : Type 0} (m : Meaning D) (before ready after : Pool D FireLinks) (state : ℕ → TxState)
    (live view : State) (catalog : Table) (tables : List Table) → FindsCommitted m before ready state view catalog tables
    → (result : Result (Unit {0}) SpaceFault)
    → MatchResult result (λ done. GoesThrough (CollectsTable m state live) ready tables after)
    (StopsAt (CollectsTable m state live) (FailsTable m state live catalog.pointer.0) ready tables after)
    → MatchResult result (λ done. CollectsCommitted m before after state live view catalog)
    (FailsCommitted m before after state live view catalog)
committed_so m before ready after state live view catalog tables finds (Ok done) goes =
    record { tables = tables; ready = ready; finds = finds; goes = goes }
committed_so m before ready after state live view catalog tables finds (Err fault) stops =
    inr (record { tables = tables; ready = ready; finds = finds; stops = stops })

-- ---- the core

module _ {D : Type 0} (m : Meaning D) (old : Core D) (store : Pool D FireLinks) (list : TxList) (view : State) (next : ℕ)
    (same_list : list ≡ old.list) (view_is : view ≡ system_base next) (next_is : next ≡ next_said old.list)
    (up : old.store.offline ≡ None) where
  view_so : view ≡ system_base (next_said old.list)
  view_so = view_is ∙ ap system_base next_is

  pub every_collected : CollectsCommitted m old.store store (said list) old.live view old.catalog
      → CollectsAll m old (record old { store = store })
  every_collected given = record {
    up = up;
    collected = subst (λ (v : State). CollectsCommitted m old.store store (said old.list) old.live v old.catalog) view_so
        (subst (λ (l : TxList). CollectsCommitted m old.store store (said l) old.live view old.catalog) same_list given);
    same = refl;
  }

  pub every_failed : (new : Core D) (fault : SpaceFault) (refusal : Refusal)
      → FailsCommitted m old.store store (said list) old.live view old.catalog fault → IsRefusal fault refusal
      → NamesLimit new.store.geometry.limit refusal
      → CountsFault fault old.damage new.damage old.shortages new.shortages
      → new ≡ record old { store = store; damage = new.damage; shortages = new.shortages } → FailsAll m old new refusal
  every_failed new fault refusal given is names counts same = record {
    up = up;
    fault = fault;
    is = is;
    names = names;
    fails = subst (λ (s : Pool D FireLinks). FailsCommitted m old.store s (said old.list) old.live
        (system_base (next_said old.list)) old.catalog fault) (sym same_store)
        (subst (λ (v : State). FailsCommitted m old.store store (said old.list) old.live v old.catalog fault) view_so
        (subst (λ (l : TxList). FailsCommitted m old.store store (said l) old.live view old.catalog fault) same_list
        given));
    counts = counts;
    same = same ∙ ap (λ (s : Pool D FireLinks). record old {
      store = s;
      damage = new.damage;
      shortages = new.shortages;
    }) (sym same_store);
  }
    where
      same_store : new.store ≡ store
      same_store = ap (λ (c : Core D). c.store) same
