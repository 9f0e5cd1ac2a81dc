-- A transaction takes back all that it has changed since a point, key by key.
use Rattle.std.specs.Prelude.{◌≡◌, ℕ, Bool, true, false, List, [], ◌∷◌, ◌++◌, Some, Result, Ok, Err}
use Rattle.mg_base.specs.Disk.{Meaning}
use Rattle.mg_base.specs.declared.transaction.TxState.TheVariants.{Dead}
use Rattle.mg_model.specs.declared.change.Point.{Point}
use Rattle.mg_model.specs.declared.change.Point.TheVariants.{LastMark, SavepointNamed}
use Rattle.mg_model.specs.declared.refusal.Refusal.{Refusal}
use Rattle.mg_model.specs.declared.refusal.Refusal.TheVariants.{Memory}
use Rattle.mg_records.specs.TakingBack.{is_given_up}
use Rattle.mg_snap.specs.Live.{after_leave}
use Rattle.mg_txlist.specs.TxList.{EndsIn}
use Rattle.mg_undo.specs.Machine.{going_to}
use Rattle.mg_undo.specs.Undo.{State as Undo, TakesBack, has_point, take_back}
use Rattle.mg_undo.specs.declared.changes.Change.{Change}
use Rattle.mg_works.specs.Works.{Working, has_savepoint, unasked, with_undo, with_work, without_tables, without_work, work_of}
use Rattle.mg_core.specs.declared.parts.Core.{Core}
use Rattle.mg_core.specs.Cores.{Continues}
use Rattle.mg_core.specs.Events.{EndsWait, IsRefused}
use Rattle.mg_taking_back.specs.Changes.{FailsChange, TakesChange}

-- ---- key by key

-- steps of taking back have given these changes so far, in turn
pub data Gives : Undo → List Change → Undo → Type 0 where
  gives_none : {undo : Undo} → Gives undo [] undo
  gives_one : {old new : Undo} {given : List Change} (c : Change) → (take_back old).given ≡ Some c
      → Gives (take_back old).after given new → Gives old (c ∷ given) new

-- these changes are taken back, one after another
pub data TakesChanges {D : Type 0} (m : Meaning D) (t : ℕ) : Core D → List Change → Core D → Type 0 where
  takes_none : {core : Core D} → TakesChanges m t core [] core
  takes_one : {old new : Core D} {given : List Change} (mid : Core D) (c : Change) → TakesChange m old mid t c
      → TakesChanges m t mid given new → TakesChanges m t old (c ∷ given) new

-- All is taken back that is given from here on.
pub record TakesAll {D : Type 0} (m : Meaning D) (old new : Core D) (t : ℕ) (start end : Undo) : Type 0 where
  pub given : List Change
  pub steps : TakesBack start given end
  pub takes : TakesChanges m t old given new

-- Some changes are taken back, and the next one that is given is not.
pub record StopsTaking {D : Type 0} (m : Meaning D) (old new : Core D) (t : ℕ) (start : Undo) (refusal : Refusal)
    : Type 0 where
  pub given : List Change
  pub left : Undo
  pub steps : Gives start given left
  pub at : Core D
  pub takes : TakesChanges m t old given at
  pub change : Change
  pub next : (take_back left).given ≡ Some change
  pub fails : FailsChange m at new t change refusal

-- the changes that were given so far, and all that are given from there on, are all
abbrev pub GivesOn : Type 0
GivesOn = (start left end : Undo) (given rest : List Change) → Gives start given left → TakesBack left rest end
    → TakesBack start (given ++ rest) end

-- whatever is left to take back, taking back comes to its end
abbrev pub ComesToEnd : Type 0
ComesToEnd = (start : Undo) → (given : List Change) × (end : Undo) × TakesBack start given end

-- ---- the transaction is given up

-- A transaction is dead: its work and its base are gone, and no page has changed.
pub record IsRolledBack {D : Type 0} (old new : Core D) (t : ℕ) : Type 0 where
  pub ends : EndsIn old.list new.list t Dead
  pub pages : new.list.pages ≡ old.list.pages
  pub same : new ≡ record old {
    list = new.list;
    works = without_work t old.works;
    live = after_leave old.live t;
  }

-- by a refusal after which it can't go on a transaction is rolled back; by another one nothing has changed
abbrev pub GivesUpIf : {D : Type 0} → Bool → Core D → Core D → ℕ → Type 0
GivesUpIf true old new t = IsRolledBack old new t
GivesUpIf false old new t = new ≡ old

abbrev pub GivesUpBy : {D : Type 0} → Core D → Core D → ℕ → Refusal → Type 0
GivesUpBy old new t refusal = GivesUpIf (is_given_up refusal) old new t

-- ---- to a point

-- the engine whose transaction no longer asks for its commit: what comes back has no mark of it
abbrev pub not_asking : {D : Type 0} → ℕ → Core D → Core D
not_asking t core = record core { works = with_work t unasked core.works }

-- the works where all is taken back: this is what is left to take back, and no table is known as given, since one that
-- the transaction has made may be gone
abbrev pub works_back : ℕ → Undo → List Working → List Working
works_back t end works = with_work t without_tables (with_work t (with_undo end) works)

-- what a transaction has to take back
abbrev pub IsUndoOf : List Working → ℕ → Undo → Type 0
IsUndoOf works t undo = (work : Working) × (work_of works t ≡ Some work) × (work.undo ≡ undo)

-- Once the event has begun: all is taken back that is given from some list on, and what is left of it is kept.
pub record TakesBackFrom {D : Type 0} (m : Meaning D) (begun new : Core D) (t : ℕ) (start : Undo) : Type 0 where
  pub taken : Core D
  pub end : Undo
  pub takes : TakesAll m (not_asking t begun) taken t start end
  pub same : new ≡ record taken { works = works_back t end taken.works }

-- Or a change is not taken back. What there is to take back is then as it was, or the transaction is given up.
pub record FailsFrom {D : Type 0} (m : Meaning D) (begun new : Core D) (t : ℕ) (start : Undo) (refusal : Refusal)
    : Type 0 where
  pub stopped : Core D
  pub stops : StopsTaking m (not_asking t begun) stopped t start refusal
  pub gives_up : GivesUpBy stopped new t refusal

-- The event of a transaction has begun, which has this to take back.
pub record HasBegun {D : Type 0} (old begun : Core D) (t : ℕ) (undo : Undo) : Type 0 where
  pub continues : Continues old t
  pub ended : EndsWait old begun t
  pub its : IsUndoOf old.works t undo

-- a savepoint stands; a mark may stand or not
abbrev pub MayReach : Undo → Point → Type 0
MayReach undo LastMark = Unit {0}
MayReach undo (SavepointNamed name) = has_point undo (Some name) ≡ true

-- A transaction is taken back to a point.
pub record TakesBackTo {D : Type 0} (m : Meaning D) (old new : Core D) (t : ℕ) (point : Point) : Type 0 where
  pub begun : Core D
  pub undo : Undo
  pub has_begun : HasBegun old begun t undo
  pub reaches : MayReach undo point
  pub takes : TakesBackFrom m begun new t (going_to undo point)

-- Why it is not: the event is refused; what it has to take back is not copied, for want of memory, and it is given up;
-- or a change is not taken back.
pub data FailsBackTo {D : Type 0} (m : Meaning D) (old new : Core D) (t : ℕ) (point : Point) (refusal : Refusal)
    : Type 0 where
  back_not_begun : IsRefused old new t refusal → FailsBackTo m old new t point refusal
  back_not_copied : (begun : Core D) → Continues old t → EndsWait old begun t → refusal ≡ Memory
      → GivesUpBy begun new t refusal → FailsBackTo m old new t point refusal
  back_stopped : (begun : Core D) (undo : Undo) → HasBegun old begun t undo → MayReach undo point
      → FailsFrom m begun new t (going_to undo point) refusal → FailsBackTo m old new t point refusal

-- a transaction is taken back to its last savepoint of a name; without one nothing has changed
abbrev pub GoesBackTo : {D : Type 0} → Meaning D → Core D → Core D → ℕ → List ℕ → Result Bool Refusal → Type 0
GoesBackTo m old new t name (Ok true) = (has_savepoint (work_of old.works t) name ≡ true)
    × TakesBackTo m old new t (SavepointNamed name)
GoesBackTo m old new t name (Ok false) = (has_savepoint (work_of old.works t) name ≡ false)
    × Continues old t × (new ≡ old)
GoesBackTo m old new t name (Err refusal) = FailsBackTo m old new t (SavepointNamed name) refusal
