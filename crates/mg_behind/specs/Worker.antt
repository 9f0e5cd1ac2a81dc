-- What one step of a worker says.
use Rattle.std.specs.Prelude.{◌≡◌, ℕ, Bool, true, false, [], ◌++◌, length}
use Rattle.rtrb.specs.Ring.{sent, received, known_items}
use Rattle.rtrb.specs.Ring.{SameConsumer}
use Rattle.rtrb.specs.declared.consumer.Consumer.{Consumer}
use Rattle.rtrb.specs.declared.producer.Producer.{Producer}
use mathlib.Core.List.{IsPrefix}
use Rattle.mg_behind.specs.declared.worker.State.{State}
use Rattle.mg_behind.specs.declared.worker.State.TheVariants.{Works, Failed}

module _ {T A P : Type 0} where
  -- some items were taken, each in its turn; those that were known come first
  pub record Takes (old new : Consumer T A P) : Type 0 where
    pub ring : SameConsumer old new
    pub all : IsPrefix (received old ++ known_items old) (received new ++ known_items new)
    pub grows : IsPrefix (received old) (received new)

  -- the device can be given no further job, or nothing was there
  abbrev pub StopsOrStays : Consumer T A P → Consumer T A P → State → Type 0
  StopsOrStays old new state = (state ≡ Works → (received new ≡ received old) × (known_items new ≡ []))

-- the device worked at the job, or failed
abbrev pub Answers : Bool → State → Type 0
Answers true state = state ≡ Failed
Answers false state = state ≡ Works

-- as long as the device works, each job that it was given has its receipt
abbrev pub IsInStep : {T A P : Type 0} → State → Producer T A P → ℕ → Type 0
IsInStep state receipts given = state ≡ Works → length (sent receipts) ≡ given
