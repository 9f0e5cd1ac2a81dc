-- The count of damage rises by a refusal that tells damage alone.
use Rattle.std.proofs.Common.{◌≡◌, inl, inr, ℕ, Bool, true, false, None, Some, Ok, Err, refl, ap, ◌∙◌}
use Rattle.mg_base.specs.Disk.{Meaning}
use Rattle.mg_base.specs.declared.damage.Field.TheVariants.{Presence}
use Rattle.mg_model.specs.declared.refusal.Refusal.{Refusal}
use Rattle.mg_model.specs.declared.refusal.Refusal.TheVariants as refusals
use Rattle.mg_pool.specs.declared.fault.PoolFault.TheVariants as faults
use Rattle.mg_space.specs.declared.fault.SpaceFault.{SpaceFault}
use Rattle.mg_space.specs.declared.fault.SpaceFault.TheVariants as space
use Rattle.mg_core.specs.declared.parts.Core.{Core}
use Rattle.mg_core.specs.Events.{EndsWait, IsRefused, keeps_base, with_base_if}
use Rattle.mg_core.specs.Refusing.{CountsFault, IsRefusal}
use Rattle.mg_no_damage_laws.specs.Stands.{TellsNone}
use Rattle.mg_no_damage_laws.specs.Calls.{AsksMeetNone, CommitsMeetNone, LooksMeetNone, PageWritesMeetNone, PointsMeetNone, RollbacksMeetNone, StepsMeetNone, WaitsMeetNone}

-- ---- refusals

-- by one that tells no damage the count stands
pub count_stands : (fault : SpaceFault) (refusal : Refusal) (damage now shortages later : ℕ) → IsRefusal fault refusal
    → CountsFault fault damage now shortages later → TellsNone refusal → now ≡ damage
count_stands (space.Full limit) refusal damage now shortages later is counts none = counts.0
count_stands (space.Damaged d) refusal damage now shortages later is counts none =
    absurd (none d.page d.field d.found d.wanted is)
count_stands (space.Pool (faults.DiskRead n)) refusal damage now shortages later is counts none = counts.0
count_stands (space.Pool (faults.DiskWrite n)) refusal damage now shortages later is counts none = counts.0
count_stands (space.Pool (faults.Offline n)) refusal damage now shortages later is counts none = counts.0
count_stands (space.Pool (faults.Absent n)) refusal damage now shortages later is counts none =
    absurd (none (record { 0 = 0 }) Presence n n is)
count_stands (space.Pool faults.Memory) refusal damage now shortages later is counts none = counts.0

-- ---- engines

-- how often damage was found
abbrev pub count : {D : Type 0} → Core D → ℕ
count core = core.damage

pub ended : {D : Type 0} (old new : Core D) (t : ℕ) → EndsWait old new t → new.damage ≡ old.damage
ended old new t wait = ap count wait.same

pub refused : {D : Type 0} (old new : Core D) (t : ℕ) (refusal : Refusal) → IsRefused old new t refusal
    → new.damage ≡ old.damage
refused old new t refusal is = ended old new t is.wait

-- ---- calls that read no page

based : {D : Type 0} (b : Bool) (t : ℕ) (core : Core D) → count (with_base_if b t core) ≡ count core
based true t core = refl
based false t core = refl

module _ {D : Type 0} (m : Meaning D) where
  pub looks : LooksMeetNone D m
  looks old new t (Ok x) looks_ o h stands told = ap count looks_.base
      ∙ (based (keeps_base looks_.ended.works t) t looks_.ended ∙ ended old looks_.ended t looks_.wait)
  looks old new t (Err refusal) is o h stands told = refused old new t refusal is

  pub waits : WaitsMeetNone D m
  waits old new t wait o h stands told = ended old new t wait

  pub points : PointsMeetNone D m
  points old new t name (Ok x) sets o h stands told = ap count sets.1.same
  points old new t name (Err refusals.Memory) sets o h stands told = ended old new t sets.1
  points old new t name (Err refusal) is o h stands told = refused old new t refusal is

  pub rollbacks : RollbacksMeetNone D m
  rollbacks old new t (Ok x) rolls o h stands told = ap count rolls.same
  rollbacks old new t (Err refusal) is o h stands told = refused old new t refusal is

  pub asks : AsksMeetNone D m
  asks old new t (Ok x) asks_ o h stands told = ap count asks_.same
  asks old new t (Err refusal) both o h stands told = ap count both.1

  pub steps : StepsMeetNone D m
  steps old new t (Ok true) (session, has, (same, least)) o h stands told = ap count same
  steps old new t (Ok false) (session, has, (goal, page, least, wrote)) o h stands told = ap count wrote.others
  steps old new t (Err (refusals.DiskWrite n)) fails o h stands told = ap count fails.others
  steps old new t (Err refusal) both o h stands told = ap count both.1

  pub commits : CommitsMeetNone D m
  commits old new t (Ok x) commits_ o h stands told = ap count commits_.same
  commits old new t (Err refusal) (inl is) o h stands told = refused old new t refusal is
  commits old new t (Err refusal) (inr fails) o h stands told = ap count fails.same

  pub page_writes : PageWritesMeetNone D m
  page_writes old new (Ok None) (same, online, least) o h stands told = ap count same
  page_writes old new (Ok (Some page)) (goal, online, least, wrote) o h stands told = ap count wrote.others
  page_writes old new (Err (refusals.DiskWrite n)) fails o h stands told = ap count fails.others
  page_writes old new (Err (refusals.Offline n)) (same, off) o h stands told = ap count same
  page_writes old new (Err refusal) never o h stands told = absurd never
