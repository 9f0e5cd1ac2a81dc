-- Lemmas of what a call leaves at each of its exits.
use Rattle.std.proofs.Common.{◌≡◌, ◌≢◌, sym, subst, ap, ◌<◌, ◌≤◌, ◌+◌, ℕ, Bool, true, false, List, length, Result, Ok, Err, arith}
use Rattle.std.proofs.Math.Nat.{lt_of_not-le}
use Rattle.std.specs.Prelude.{IsErrAnd, OnErr}
use Rattle.mg_base.specs.declared.geometry.Geometry.{Geometry}
use Rattle.mg_node.specs.declared.entry.Entry.{Entry}
use Rattle.mg_image.specs.Form.{Pages}
use Rattle.mg_pool.specs.Batch.{Changed}
use Rattle.mg_pool.specs.declared.fault.PoolFault.TheVariants.{Memory}
use Rattle.mg_space.specs.declared.fault.SpaceFault.{SpaceFault}
use Rattle.mg_space.specs.declared.fault.SpaceFault.TheVariants.{Full, Pool as OfPool, Damaged as OfPage}
use Rattle.mg_btree.specs.Changing.{PutsOrStays, ReadsLeaf, Removes}
use Rattle.mg_btree.specs.Inserting.{Inserts}
use Rattle.mg_btree.specs.Rooms.{MakesRoomIn}
use Rattle.mg_btree.specs.Roots.{IsRootOf}
use Rattle.mg_btree.specs.declared.halves.PageBytes.{PageBytes}
use Rattle.mg_btree.specs.declared.node.ReadNode.{ReadNode}

-- what holds at any rate holds after an error
pub on_err : {T E : Type 0} {P : Type 0} (result : Result T E) → P → OnErr result P
on_err (Ok x) is = tt
on_err (Err e) is = is

pub few_same : (old new : Changed) → new ≡ old → length new.pages ≤ length old.pages + 1
few_same old new same =
    let pages : length new.pages ≡ length old.pages = ap (λ (b : Changed). length b.pages) same in
    omega (arith, pages)

-- a root that was not read gives no leaf
pub leaf_refused : (size : ℕ) (pages : Pages) (owner root : ℕ) (levels : List (List ℕ)) (e : Entry)
    (fault : SpaceFault) (result : Result ReadNode SpaceFault) → IsErrAnd result (λ f. f ≡ fault)
    → IsRootOf pages owner root (Err fault) → ReadsLeaf size pages owner levels e result
leaf_refused size pages owner root levels e fault (Ok read) none is = absurd none
leaf_refused size pages owner root levels e fault (Err f) same is =
    subst (λ (x : SpaceFault). ReadsLeaf size pages owner levels e (Err x)) (sym same) (by fault is)
  where
    by : (fault : SpaceFault) → IsRootOf pages owner root (Err fault)
        → ReadsLeaf size pages owner levels e (Err fault)
    by (Full limit) none = none
    by (OfPage damage) none = none
    by (OfPool f) is = tt

-- a leaf that was not read stays as it is
pub remove_refused : (size : ℕ) (old new : Pages) (batch : Changed) (owner root : ℕ)
    (levels : List (List ℕ)) (e : Entry) (fault : SpaceFault) (result : Result Bool SpaceFault)
    → IsErrAnd result (λ f. f ≡ fault) → ReadsLeaf size old owner levels e (Err fault)
    → Removes size old new batch owner root levels e result
remove_refused size old new batch owner root levels e fault (Ok was) none is = absurd none
remove_refused size old new batch owner root levels e fault (Err f) same is =
    subst (λ (x : SpaceFault). Removes size old new batch owner root levels e (Err x)) (sym same) (by fault is)
  where
    by : (fault : SpaceFault) → ReadsLeaf size old owner levels e (Err fault)
        → Removes size old new batch owner root levels e (Err fault)
    by (Full limit) none = none
    by (OfPage damage) none = none
    by (OfPool f) is = tt

pub remove_wants : (size : ℕ) (old new : Pages) (batch : Changed) (owner root : ℕ)
    (levels : List (List ℕ)) (e : Entry) (result : Result Bool SpaceFault)
    → IsErrAnd result (λ f. f ≡ OfPool Memory) → Removes size old new batch owner root levels e result
remove_wants size old new batch owner root levels e (Ok was) none = absurd none
remove_wants size old new batch owner root levels e (Err f) same =
    subst (λ (x : SpaceFault). Removes size old new batch owner root levels e (Err x)) (sym same) tt

-- where the answer is that it was not there, it stays
pub absent_stays : (old new : Changed) (read : ReadNode) (e : Entry) (was : Bool)
    → PutsOrStays old new read e was → ◌≡◌ {A = Result Bool SpaceFault} (Ok was) (Ok false) → new ≡ old
absent_stays old new read e true is no_ = absurd cc
absent_stays old new read e false is no_ = is.1

-- no room is made for want of memory
pub room_wants : (g : Geometry) (old new : Pages) (before batch : Changed) (owner root : ℕ)
    (levels : List (List ℕ)) (level : ℕ) (e : Entry) (result : Result PageBytes SpaceFault)
    → IsErrAnd result (λ f. f ≡ OfPool Memory)
    → MakesRoomIn g old new before batch owner root levels level e result
room_wants g old new before batch owner root levels level e (Ok page) none = absurd none
room_wants g old new before batch owner root levels level e (Err f) same =
    subst (λ (x : SpaceFault). MakesRoomIn g old new before batch owner root levels level e (Err x))
    (sym same) tt

pub insert_wants : (g : Geometry) (old new : Pages) (before batch : Changed) (owner root : ℕ)
    (levels : List (List ℕ)) (e : Entry) (result : Result (Unit {0}) SpaceFault)
    → IsErrAnd result (λ f. f ≡ OfPool Memory) → Inserts g old new before batch owner root levels e result
insert_wants g old new before batch owner root levels e (Ok done_) none = absurd none
insert_wants g old new before batch owner root levels e (Err f) same =
    subst (λ (x : SpaceFault). Inserts g old new before batch owner root levels e (Err x)) (sym same) tt

-- a level that is not another one lies below it
pub below_other : (a b : ℕ) → a ≤ b → a ≢ b → a < b
below_other a b most other = lt_of_not-le (λ least. other (omega (arith, most, least)))

pub some_above : (from level : ℕ) → level ≤ from → from ≢ level → 0 < from
some_above from level most other = lt_of_not-le (λ none. other (omega (arith, most, none)))
