-- What events do that change what is in memory alone.
use Rattle.std.specs.Prelude.{◌≡◌, ℕ, Bool, true, false, List, Option, None, Some, Result, Ok, Err}
use Rattle.mg_base.specs.declared.transaction.TxState.TheVariants.{Dead}
use Rattle.mg_model.specs.declared.refusal.Refusal.{Refusal}
use Rattle.mg_model.specs.declared.refusal.Refusal.TheVariants.{Memory}
use Rattle.mg_snap.specs.Live.{State as Bases, after_leave, after_rebase}
use Rattle.mg_txlist.specs.TxList.{EndsIn}
use Rattle.mg_waits.specs.Waits.{NowWaits, edges_in}
use Rattle.mg_works.specs.Works.{Working, with_point, with_work, without_tables, without_work, work_of}
use Rattle.mg_core.specs.declared.parts.Core.{Core}
use Rattle.mg_core.specs.Cores.{Continues, RefusesCall}

-- the wait of a transaction is over, and nothing else has changed but these works and bases
pub record BecomesIn {D : Type 0} (old new : Core D) (t : ℕ) (works : List Working) (bases : Bases)
    : Type 0 where
  pub over : NowWaits (edges_in old.waits) (edges_in new.waits) t None
  pub same : new ≡ record old { waits = new.waits; works = works; live = bases }

-- nothing has changed but that the wait is over
abbrev pub EndsWait : {D : Type 0} → Core D → Core D → ℕ → Type 0
EndsWait old new t = BecomesIn old new t old.works old.live

-- an event is refused: nothing has changed but that the wait of its transaction is over
pub record IsRefused {D : Type 0} (old new : Core D) (t : ℕ) (refusal : Refusal) : Type 0 where
  pub refuses : RefusesCall old t refusal
  pub wait : EndsWait old new t

-- a transaction keeps the base that it took when it began; one that is not active has none to change
abbrev pub keeps_base_of : Option Working → Bool
keeps_base_of None = true
keeps_base_of (Some work) = work.mode.snapshot

abbrev pub keeps_base : List Working → ℕ → Bool
keeps_base works t = keeps_base_of (work_of works t)

-- the engine where a transaction has a new base, and the tables that were given to it are no longer
-- known, unless it keeps the base that it has
abbrev pub with_base_if : {D : Type 0} → Bool → ℕ → Core D → Core D
with_base_if true t core = core
with_base_if false t core = record core {
  works = with_work t without_tables core.works;
  live = after_rebase core.live t;
}

abbrev pub with_base : {D : Type 0} → ℕ → Core D → Core D
with_base t core = with_base_if (keeps_base core.works t) t core

-- A statement begins: the wait is over, and under READ COMMITTED the transaction has a new base.
pub record Looks {D : Type 0} (old new : Core D) (t : ℕ) : Type 0 where
  pub continues : Continues old t
  pub ended : Core D
  pub wait : EndsWait old ended t
  pub base : new ≡ with_base t ended

-- a mark is set where no name is given, else a savepoint; for want of memory it is not
abbrev pub SetsPoint : {D : Type 0} → Core D → Core D → ℕ → Option (List ℕ)
    → Result (Unit {0}) Refusal → Type 0
SetsPoint old new t name (Ok x) = Continues old t
    × BecomesIn old new t (with_work t (with_point name) old.works) old.live
SetsPoint old new t name (Err Memory) = Continues old t × EndsWait old new t
SetsPoint old new t name (Err refusal) = IsRefused old new t refusal

-- A transaction is dead: its work and its base are gone, and no page has changed.
pub record RollsBack {D : Type 0} (old new : Core D) (t : ℕ) : Type 0 where
  pub continues : Continues old t
  pub over : NowWaits (edges_in old.waits) (edges_in new.waits) t None
  pub ends : EndsIn old.list new.list t Dead
  pub pages : new.list.pages ≡ old.list.pages
  pub same : new ≡ record old {
    waits = new.waits;
    list = new.list;
    works = without_work t old.works;
    live = after_leave old.live t;
  }
