-- The beginning of a transaction.
use Rattle.std.specs.Prelude.{◌≡◌, ◌<◌, ◌≤◌, ◌⊎◌, ◌++◌, ◌∷◌, ℕ, [], None, Some, Result, Ok, Err}
use Rattle.mg_base.specs.Disk.{Meaning}
use Rattle.mg_base.specs.Image.{Image}
use Rattle.mg_base.specs.declared.numbers.TxNo.{TxNo}
use Rattle.mg_header.specs.declared.header.TheConstants.{GREATEST_NEXT}
use Rattle.mg_model.specs.declared.event.Mode.{Mode}
use Rattle.mg_model.specs.declared.refusal.Refusal.{Refusal}
use Rattle.mg_model.specs.declared.refusal.Refusal.TheVariants.{Memory, Offline, TransactionLimit}
use Rattle.mg_pool.specs.Fault.{StaysOnline, TellsFault}
use Rattle.mg_pool.specs.Pool.{shown}
use Rattle.mg_snap.specs.Live.{after_enter}
use Rattle.mg_space.specs.View.{Tells, pool_answer}
use Rattle.mg_space.specs.declared.fault.SpaceFault.{SpaceFault}
use Rattle.mg_txlist.specs.Drawing.{AddsNumber, DrawsIn, FailsDraw, SaysSame}
use Rattle.mg_txlist.specs.Refusals.{RefusesDraw}
use Rattle.mg_txlist.specs.TxList.{next_said}
use Rattle.mg_works.specs.Works.{begun}
use Rattle.mg_core.specs.declared.parts.Core.{Core}
use Rattle.mg_core.specs.Refusing.{CountsFault, IsRefusal, NamesLimit}

-- The next number is drawn on the pages; its transaction is active, with a new base, and has nothing to take
-- back.
pub record Begins {D : Type 0} (m : Meaning D) (old new : Core D) (session : ℕ) (mode : Mode) (t : ℕ)
    : Type 0 where
  pub online : StaysOnline m old.store new.store
  pub number : t ≡ next_said old.list
  pub below : t < GREATEST_NEXT
  pub adds : AddsNumber old.list new.list
  pub draws : DrawsIn m old.list new.list old.store new.store
  pub same : new ≡ record old {
    store = new.store;
    list = new.list;
    works = old.works ++ begun t session mode ∷ [];
    live = after_enter old.live t;
  }

-- why the number was not drawn, where the pages are told
abbrev pub WhyNotDrawn : {D : Type 0} → Meaning D → Core D → Core D → SpaceFault → Type 0
WhyNotDrawn m old new fault = (image : Image) → Tells m old.store.disk image
    → RefusesDraw m new.store old.store.geometry (next_said old.list) (shown old.store.dirty image) fault

-- The number was not drawn: the list says what it said, pages were read, or written out for want of room in
-- the cache, and the fault is counted.
pub record FailsBegin {D : Type 0} (m : Meaning D) (old new : Core D) (refusal : Refusal) : Type 0 where
  pub online : old.store.offline ≡ None
  pub below : next_said old.list < GREATEST_NEXT
  pub fault : SpaceFault
  pub is : IsRefusal fault refusal
  pub names : NamesLimit new.store.geometry.limit refusal
  pub says : SaysSame old.list new.list
  pub left : FailsDraw m old.store new.store fault
  pub told : TellsFault m old.store new.store (pool_answer {T = TxNo} (Err fault))
  pub why : WhyNotDrawn m old new fault
  pub counts : CountsFault fault old.damage new.damage old.shortages new.shortages
  pub same : new ≡ record old {
    store = new.store;
    list = new.list;
    damage = new.damage;
    shortages = new.shortages;
  }

-- a transaction begins, or is refused: all is as before then, but for what was read, written out and counted
abbrev pub BeginsFor : {D : Type 0} → Meaning D → Core D → Core D → ℕ → Mode → Result TxNo Refusal → Type 0
BeginsFor m old new session mode (Ok t) = Begins m old new session mode t.0
BeginsFor m old new session mode (Err (Offline faults)) =
    (old.store.offline ≡ Some faults) × (new ≡ old)
BeginsFor m old new session mode (Err TransactionLimit) = (old.store.offline ≡ None)
    × (GREATEST_NEXT ≤ next_said old.list) × (new ≡ old)
BeginsFor m old new session mode (Err refusal) = FailsBegin m old new refusal
    ⊎ ((refusal ≡ Memory) × (old.store.offline ≡ None) × (new ≡ old))
