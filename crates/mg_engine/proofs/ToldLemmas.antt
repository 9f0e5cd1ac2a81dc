-- A call of the engine tells each fault of the disk, meets no damage, and takes few of the free pages.
use Rattle.std.proofs.Common.{◌≡◌, ◌*◌, ℕ, Option, Some, ap, subst}
use Rattle.mg_base.specs.Disk.{Meaning}
use Rattle.mg_core.specs.declared.parts.Core.{Core}
use Rattle.mg_engine_change_laws.specs.faults.Told.{TellsFaults, disk_count}
use Rattle.mg_faults.specs.Faults.{each_fault, failed_writes}
use Rattle.mg_no_damage_laws.specs.Stands.{DamageStands}
use Rattle.mg_no_damage_laws.specs.FewPages.{CoreTakes, RoomStands, RoomStandsBack}
use Rattle.mg_engine_meaning_laws.specs.Meaning.{Places, means}
use Rattle.mg_model.specs.Machine.{steps}
use Rattle.mg_model.specs.declared.change.Point.{Point}
use Rattle.mg_model.specs.declared.refusal.Refusal.{Refusal}
use Rattle.mg_records.specs.Keeping.{FaultsAreTold, MeetsNoDamage}
use Rattle.mg_records.specs.Room.{TakesAtMost, TakesFew, TakesFewBack, pages_of_row, records_back}

-- ---- faults, and damage

pub told_as : {D P : Type 0} (m : Meaning D) (places : Places P) (inside old new : Core D) → inside ≡ old
    → (refusal : Option Refusal) → TellsFaults m inside new refusal → FaultsAreTold (means m places) old new refusal
told_as {D} m places inside old new same refusal tells =
    subst (λ (c : Core D). FaultsAreTold (means m places) c new refusal) same (tells each_fault, tells failed_writes)

pub undamaged_as : {D P : Type 0} (m : Meaning D) (places : Places P) (inside old new : Core D) → inside ≡ old
    → DamageStands m inside new → MeetsNoDamage (means m places) old new
undamaged_as {D} m places inside old new same stands =
    subst (λ (c : Core D). MeetsNoDamage (means m places) c new) same stands

-- ---- free pages

module _ {D P : Type 0} (m : Meaning D) (places : Places P) (old new : Core D) (refusal : Option Refusal) where
  taken : (most : ℕ) → CoreTakes m old new refusal most → TakesAtMost (means m places) old new refusal most
  taken most takes = record { left = takes.left; enough = takes.enough }

  few_taken : (most : ℕ) → RoomStands m old new refusal most → TakesFew (means m places) old new refusal most
  few_taken most room o h stands told = taken most (room o h stands told)

  back_taken : (t : ℕ) (point : Point) → RoomStandsBack m old new refusal t point
      → TakesFewBack (means m places) old new refusal t point
  back_taken t point room o h stands told = taken (pages_of_row * records_back t point (steps o h))
      (room o h stands told)

pub room_as : {D P : Type 0} (m : Meaning D) (places : Places P) (inside old new : Core D) → inside ≡ old
    → (refusal : Option Refusal) (most : ℕ) → RoomStands m inside new refusal most
    → TakesFew (means m places) old new refusal most
room_as {D} m places inside old new same refusal most room = few_taken m places old new refusal most
    (subst (λ (c : Core D). RoomStands m c new refusal most) same room)

pub room_back_as : {D P : Type 0} (m : Meaning D) (places : Places P) (inside old new : Core D) → inside ≡ old
    → (refusal : Option Refusal) (t : ℕ) (point : Point) → RoomStandsBack m inside new refusal t point
    → TakesFewBack (means m places) old new refusal t point
room_back_as {D} m places inside old new same refusal t point room = back_taken m places old new refusal t point
    (subst (λ (c : Core D). RoomStandsBack m c new refusal t point) same room)
