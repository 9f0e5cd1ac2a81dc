-- When a data page is damaged, in which field, and what is wanted there.
use Rattle.std.specs.Prelude.{◌≡◌, ◌≢◌, ℕ, ◌+◌, ◌-◌, ◌/◌, ◌<◌, ◌≤◌, ◌&&◌, ◌==◌, Bool, not, List, length, Ok, Err, nat_lt, if◌then◌else◌}
use Rattle.mg_base.specs.declared.damage.Damaged.{Damaged}
use Rattle.mg_base.specs.declared.damage.Field.TheVariants.{Count, Offset}
use Rattle.mg_base.specs.declared.numbers.PageNo.{PageNo}
use Rattle.mg_slots.specs.declared.page.TheConstants.{DATA_KIND, SLOTS_AT, SLOT_LEN, LEAST_TAKEN}
use Rattle.mg_slots.specs.DataPage.{slot_count, low_of, offset_at, length_at, least_offset, HasPlace, MayHaveLength, IsSlot}
use Rattle.mg_slots.specs.Room.{last_end}
use Rattle.mg_slots.specs.Verdict.{common_verdict, damage}

-- both fields of a free slot are 0
abbrev pub is_free : List ℕ → ℕ → Bool
is_free b slot = offset_at b slot == 0 && length_at b slot == 0

-- the most slots that fit a page
abbrev pub most_slots : List ℕ → ℕ
most_slots b = (length b - SLOTS_AT) / SLOT_LEN

-- the number of slots that is wanted: the most that fit, or those up to the last one that isn't
-- free
unfoldable pub lawful_count : List ℕ → ℕ
lawful_count b = if nat_lt (most_slots b) (slot_count b) then most_slots b
    else last_end (λ slot. not (is_free b slot)) (slot_count b)

-- a slot may have this offset, by the fields before it: 0, or a place for the least cell
abbrev pub MayHaveOffset : List ℕ → ℕ → ℕ → Type 0
MayHaveOffset b slot at = 0 < at → HasPlace b slot at LEAST_TAKEN

-- how far one number is from another
abbrev pub distance : ℕ → ℕ → ℕ
distance a b = (a - b) + (b - a)

-- the nearest number that is lawful, the lower one of two
pub record IsNearest (IsLawful : ℕ → Type 0) (found wanted : ℕ) : Type 0 where
  pub lawful : IsLawful wanted
  pub nearest : (other : ℕ) → IsLawful other → distance found wanted ≤ distance found other
  pub lower : (other : ℕ) → IsLawful other → distance found other ≡ distance found wanted
      → wanted ≤ other

-- the first field of a slot that isn't lawful, its offset before its length
pub data IsSlotDamage (b : List ℕ) (page : PageNo) (slot : ℕ) : Damaged → Type 0 where
  offset : (wanted : ℕ) → (MayHaveOffset b slot (offset_at b slot) → ⊥)
      → IsNearest (MayHaveOffset b slot) (offset_at b slot) wanted
      → IsSlotDamage b page slot (damage page Offset (offset_at b slot) wanted)
  len : (wanted : ℕ) → MayHaveOffset b slot (offset_at b slot) → (IsSlot b slot → ⊥)
      → IsNearest (MayHaveLength b slot) (length_at b slot) wanted
      → IsSlotDamage b page slot (damage page Offset (length_at b slot) wanted)

-- the fields before the slots are as wanted
pub record HasFront (b : List ℕ) (page : PageNo) (owner seq : ℕ) : Type 0 where
  pub common : common_verdict b page DATA_KIND owner seq ≡ Ok tt
  pub count : slot_count b ≡ lawful_count b
  pub low : low_of b ≡ least_offset b (slot_count b)

-- the first field of a data page that differs, in page order
pub data IsFirstDamage (b : List ℕ) (page : PageNo) (owner seq : ℕ) : Damaged → Type 0 where
  common : (e : Damaged) → common_verdict b page DATA_KIND owner seq ≡ Err e
      → IsFirstDamage b page owner seq e
  count : common_verdict b page DATA_KIND owner seq ≡ Ok tt → slot_count b ≢ lawful_count b
      → IsFirstDamage b page owner seq (damage page Count (slot_count b) (lawful_count b))
  low : common_verdict b page DATA_KIND owner seq ≡ Ok tt → slot_count b ≡ lawful_count b
      → low_of b ≢ least_offset b (slot_count b)
      → IsFirstDamage b page owner seq
      (damage page Offset (low_of b) (least_offset b (slot_count b)))
  slot : (e : Damaged) (at : ℕ) → HasFront b page owner seq → at < slot_count b
      → ((earlier : ℕ) → earlier < at → IsSlot b earlier) → IsSlotDamage b page at e
      → IsFirstDamage b page owner seq e
