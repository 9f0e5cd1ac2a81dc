-- The two fields of a slot.
use Rattle.std.specs.Prelude.{ℕ, List}
use Rattle.mg_slots.specs.declared.check.SlotField.{SlotField}
use Rattle.mg_slots.specs.declared.check.SlotField.TheVariants.{AtOffset, AtLength}
use Rattle.mg_slots.specs.DataPage.{MayHaveLength}
use Rattle.mg_slots.specs.Damage.{MayHaveOffset}

-- what a field of a slot may be, by the fields before it
abbrev pub MayHave : List ℕ → ℕ → SlotField → ℕ → Type 0
MayHave b slot AtOffset value = MayHaveOffset b slot value
MayHave b slot AtLength value = MayHaveLength b slot value
