-- What is told of the disk's faults as an engine reads, waits and is hindered.
use Rattle.std.proofs.Common.{inl, inr, ℕ, Bool, Option, None, Some, ap, ◌∙◌}
use Rattle.mg_base.specs.Disk.{Meaning}
use Rattle.mg_base.specs.declared.numbers.TxNo.{TxNo}
use Rattle.mg_model.specs.declared.refusal.Refusal.{Refusal}
use Rattle.mg_pool.specs.declared.pool.Pool.{Pool}
use Rattle.mg_space.specs.declared.fault.SpaceFault.{SpaceFault}
use Rattle.mg_space.specs.declared.links.FireLinks.{FireLinks}
use Rattle.mg_waits.specs.declared.verdict.Verdict.{Verdict}
use Rattle.mg_waits.specs.declared.verdict.Verdict.TheVariants as verdicts
use Rattle.mg_seek.specs.declared.views.Obstacle.{Obstacle}
use Rattle.mg_image.specs.Form.{Pages}
use Rattle.mg_core.specs.declared.parts.Core.{Core}
use Rattle.mg_core.specs.Events.{EndsWait, IsRefused}
use Rattle.mg_core.specs.Obstacles.{HindersBy, Passes, Stops, TellsVerdict, hindered, unread}
use Rattle.mg_core.specs.Putting.{CountsOne}
use Rattle.mg_core.specs.Reading.{FailsReading, OnlyReads}
use Rattle.mg_engine_change_laws.specs.faults.FaultPageLaws.{is_none, met, told}
use Rattle.mg_faults.specs.Faults.{FaultCount}
use Rattle.mg_engine_change_laws.specs.faults.Told.{Stands, TellsRise, disk_count}

module _ {D : Type 0} (m : Meaning D) (k : FaultCount) where
  -- an engine has the store that it had
  abbrev pub count : Core D → ℕ
  count core = disk_count m k core.store.disk

  pub ended : (old new : Core D) (t : ℕ) → EndsWait old new t → Stands m k old.store new.store
  ended old new t wait = ap count wait.same

  pub refused : (old new : Core D) (t : ℕ) (refusal : Refusal) → IsRefused old new t refusal
      → Stands m k old.store new.store
  refused old new t refusal is = ended old new t is.wait

  pub counted : (old new : Core D) (fault : SpaceFault) (refusal : Refusal) → CountsOne old new fault refusal
      → Stands m k old.store new.store
  counted old new fault refusal is = ap count is.same

  -- ---- pages are read

  pub only_read : (old new : Core D) → OnlyReads m old new → Stands m k old.store new.store
  only_read old new reads = met m k old.store new.store reads.online

  pub not_read : (old new : Core D) (why : Pool D FireLinks → Pages → SpaceFault → Type 0) (refusal : Refusal)
      → FailsReading m old new why refusal → TellsRise m k old new (Some refusal)
  not_read old new why refusal fails quiet =
      told m k (Unit {0}) old.store new.store fails.fault fails.told (is_none k fails.fault refusal fails.is quiet)

  -- ---- who is in the way

  verdict_stands : (old new : Core D) (t : ℕ) (by : TxNo) (verdict : Verdict) (refusal : Refusal)
      → TellsVerdict old new t by verdict refusal → Stands m k old.store new.store
  verdict_stands old new t by verdicts.Update refusal tells = ap count tells.1
  verdict_stands old new t by verdicts.Lock refusal tells = ap count tells.1
  verdict_stands old new t by verdicts.Wait refusal (inl notes) = ap count notes.same
  verdict_stands old new t by verdicts.Wait refusal (inr tells) = ap count tells.1
  verdict_stands old new t by verdicts.Deadlock refusal tells = ap count tells.1
  verdict_stands old new t by verdicts.Limbo refusal tells = ap count tells.1

  hinders_stand : (old new : Core D) (t : ℕ) (wait : Bool) (found : Option Obstacle) (refusal : Refusal)
      → HindersBy old new t wait found refusal → Stands m k old.store new.store
  hinders_stand old new t wait None refusal hinders = absurd hinders
  hinders_stand old new t wait (Some obstacle) refusal hinders =
      verdict_stands old new t obstacle.by hinders.verdict refusal hinders.told

  pub passes_stand : (old new : Core D) (t : ℕ) (wait : Bool) (is : Pages → Option Obstacle → Type 0)
      → Passes m old new t wait is → Stands m k old.store new.store
  passes_stand old new t wait is passes = only_read old new passes.reads

  pub stops_told : (old new : Core D) (t : ℕ) (wait : Bool) (is : Pages → Option Obstacle → Type 0)
      (why : Pool D FireLinks → Pages → SpaceFault → Type 0) (refusal : Refusal)
      → Stops m old new t wait is why refusal → TellsRise m k old new (Some refusal)
  stops_told old new t wait is why refusal (unread fails) quiet = not_read old new why refusal fails quiet
  stops_told old new t wait is why refusal (hindered read found reads who hinders) quiet =
      hinders_stand read new t wait found refusal hinders ∙ only_read old read reads
