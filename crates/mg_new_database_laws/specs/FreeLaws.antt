-- Which pages of a new database are free.
use Rattle.std.proofs.Common.{◌≡◌, ◌≢◌, ◌∙◌, ◌⊎◌, inl, inr, ◌<◌, ◌≤◌, ◌+◌, ◌-◌, ◌*◌, ◌/◌, ◌%◌, min, ℕ, zero, suc, true, false, List, length, refl, sym, ap, subst, arith, lit<, mul-suc}
use Rattle.std.proofs.Math.Nat.{mod-add-div', zero-mul}
use Rattle.std.proofs.Math.ListN.{set}
use Rattle.std.proofs.lemmas.Bool.{cases_lt}
use Rattle.std.proofs.lemmas.List.{get_or-replicate, get_or-set_other, get_or-set_same, get_or_past, length-replicate}
use Rattle.std.proofs.lemmas.Nat.{div_below, mod_below}
use Rattle.mg_base.specs.CheckLaws.{new_page_zero}
use Rattle.mg_base.specs.Fields.{byte, length-new_page}
use Rattle.mg_base.specs.Geometry.{is_page_size}
use Rattle.mg_base.specs.Image.{Image, blank, page_at}
use Rattle.mg_base.specs.declared.geometry.TheConstants.{GREATEST_LIMIT}
use Rattle.mg_format.specs.Format.{IsMade}
use Rattle.mg_image.specs.Inventory.{inventory_page, is_used}
use Rattle.mg_pip.specs.PipPage.{bits, new_pip_page, used_in}
use Rattle.mg_pip.specs.PipPageLaws.{zero_unused}
use Rattle.mg_new_database_laws.specs.InventoryLaws.{blank_behind, le-mul_suc}
use Rattle.mg_new_database_laws.specs.NewRoom.{HasNewRoom}
use Rattle.mg_pip.specs.declared.page.TheConstants.{BITS_AT, PIP_KIND}
use Rattle.mg_space.specs.FreePages.{HasFree}
use Rattle.mg_space.specs.Taking.{IsFree}
use Rattle.mg_space.specs.TakingLaws.{bit_is, bits_some, no_inventory_page, page_sizes, region_is}

-- ---- pages that are not used

module _ (size : ℕ) (least : 1024 ≤ size) where
  abbrev pip : List ℕ
  pip = set (new_pip_page size 1 0) 16 127

  long_pip : length (new_pip_page size 1 0) ≡ size
  unfolding new_pip_page
  long_pip = length-new_page size 1 PIP_KIND 0 0

  -- the first byte of bits has those of seven pages, and each byte behind it has none
  first_byte : byte pip 16 ≡ 127
  first_byte = get_or-set_same (new_pip_page size 1 0) 16 127 0 (omega (arith, long_pip, least))

  other_byte : (n : ℕ) → 8 ≤ n → byte pip (16 + n / 8) ≡ 0
  unfolding new_pip_page
  other_byte n from =
      get_or-set_other (new_pip_page size 1 0) 16 (16 + n / 8) 127 0 (λ same. omega (arith, from, same))
      ∙ new_page_zero size 1 PIP_KIND 0 0 (16 + n / 8) (omega arith)

  eighth_unused : used_in pip (suc (suc (suc (suc (suc (suc (suc zero))))))) ≡ false
  unfolding used_in
  eighth_unused = rw first_byte refl

  -- behind the seven pages of a new database none is used
  rest_unused : (n : ℕ) → 7 ≤ n → used_in pip n ≡ false
  rest_unused n from = at (cases_lt n 8)
    where
      at : (n < 8) ⊎ (8 ≤ n) → used_in pip n ≡ false
      at (inl before) =
          let eighth : suc (suc (suc (suc (suc (suc (suc zero)))))) ≡ n = omega (arith, from, before) in
          subst (λ (k : ℕ). used_in pip k ≡ false) eighth eighth_unused
      at (inr behind) = zero_unused pip n (other_byte n behind)

-- ---- free pages

-- of the bits of a region the one at a place among those that are not the inventory page's
abbrev bit_at : ℕ → ℕ
bit_at zero = zero
bit_at (suc place) = suc (suc place)

bit_below : (place per : ℕ) → place < per → bit_at place < suc per
bit_below zero per below = omega (arith, below)
bit_below (suc place) per below = omega (arith, below)

no_inventory_bit : (place : ℕ) → bit_at place ≢ 1
no_inventory_bit zero same = omega (arith, same)
no_inventory_bit (suc place) same = omega (arith, same)

bit_near : (place : ℕ) → bit_at place ≤ suc place
bit_near zero = omega arith
bit_near (suc place) = omega arith

-- in the first region the seventh place is that of the page behind the seven of a new database
bit_from : (place : ℕ) → 6 ≤ place → 7 ≤ bit_at place
bit_from zero from = absurd (omega (arith, from))
bit_from (suc place) from = omega (arith, from)

bits_apart : (a b : ℕ) → bit_at a ≡ bit_at b → a ≡ b
bits_apart zero zero same = refl
bits_apart zero (suc b) same = absurd (omega (arith, same))
bits_apart (suc a) zero same = absurd (omega (arith, same))
bits_apart (suc a) (suc b) same = omega (arith, same)

blank_byte : (size at : ℕ) → byte (blank size) at ≡ 0
blank_byte size at = elim (cases_lt at size) [
  | inl inside ↦ get_or-replicate size at 0 0 inside
  | inr past_ ↦ get_or_past (blank size) at 0 (omega (arith, length-replicate {A = ℕ} size 0))
]

blank_unused : (size bit : ℕ) → used_in (blank size) bit ≡ false
blank_unused size bit = zero_unused (blank size) bit (blank_byte size (BITS_AT + bit / 8))

module _ (size limit count : ℕ) (image : Image) (lawful : is_page_size size ≡ true) (made : IsMade size image)
    (room : HasNewRoom size limit count) where
  -- the pages of a region but its inventory page
  abbrev per : ℕ
  per = bits size - 1

  per_is : bits size ≡ suc per
  per_is = let some = bits_some size lawful in omega (arith, some)

  some_per : 0 < per
  some_per = let some = bits_some size lawful in omega (arith, some)

  -- the region of the i-th free page, its place there, and its number
  abbrev region : ℕ → ℕ
  region i = (6 + i) / per

  abbrev place : ℕ → ℕ
  place i = (6 + i) % per

  abbrev page : ℕ → ℕ
  page i = region i * bits size + bit_at (place i)

  whole : (i : ℕ) → region i * per + place i ≡ 6 + i
  whole i = let it = mod-add-div' (6 + i) per in omega (arith, it)

  wide : (r : ℕ) → r * bits size ≡ r * per + r
  wide r = ap (λ (k : ℕ). r * k) per_is ∙ mul-suc r per

  region_below : (i : ℕ) → i < count → region i ≤ room.regions
  region_below i few =
      let all : suc room.regions * bits size ≡ suc room.regions * per + suc room.regions = wide (suc room.regions) in
      let inside : 7 + count + room.regions ≤ suc room.regions * bits size = room.inside in
      let before : 6 + i < suc room.regions * per = omega (arith, few, inside, all) in
      let below : region i < suc room.regions = div_below (6 + i) per (suc room.regions) some_per before in
      omega (arith, below)

  bit_inside : (i : ℕ) → bit_at (place i) < bits size
  bit_inside i = subst (λ (k : ℕ). bit_at (place i) < k) (sym per_is)
      (bit_below (place i) per (mod_below (6 + i) per some_per))

  its_region : (i : ℕ) → page i / bits size ≡ region i
  its_region i = region_is size (region i) (bit_at (place i)) (bit_inside i)

  its_bit : (i : ℕ) → page i % bits size ≡ bit_at (place i)
  its_bit i = bit_is size (region i) (bit_at (place i)) (bit_inside i)

  -- it lies below the limit, and so does the inventory page of its region
  below_limit : (i n : ℕ) → i < count → n ≤ region i * bits size + suc (place i) → n < min limit GREATEST_LIMIT
  below_limit i n few most =
      let its = whole i in
      let far = wide (region i) in
      let low = region_below i few in
      let within = room.within in
      let least = room.least in
      let number : region i * bits size + suc (place i) ≡ 7 + i + region i = omega (arith, its, far) in
      omega (arith, few, most, number, low, within, least)

  -- the page of the first region marks seven pages, and the others are zero
  unused_in : (i : ℕ) (r : ℕ) → i < count → region i ≡ r
      → used_in (page_at size image (inventory_page size r)) (bit_at (place i)) ≡ false
  unused_in i zero few is =
      let its : 0 * per + place i ≡ 6 + i = subst (λ (k : ℕ). k * per + place i ≡ 6 + i) is (whole i) in
      let none : 0 * per ≡ 0 = zero-mul per in
      let from : 6 ≤ place i = omega (arith, its, none) in
      subst (λ (page : List ℕ). used_in page (bit_at (place i)) ≡ false)
      (sym (ap (λ (k : ℕ). page_at size image (k + 1)) (zero-mul (bits size)) ∙ made 1 (lit< tt)))
      (rest_unused size (page_sizes size lawful).0 (bit_at (place i)) (bit_from (place i) from))
  unused_in i (suc r) few is =
      let below : inventory_page size (suc r) < min limit GREATEST_LIMIT =
      below_limit i (inventory_page size (suc r)) few (let same = is in
      subst (λ (k : ℕ). inventory_page size k ≤ region i * bits size + suc (place i)) is (omega arith)) in
      let many : bits size ≤ suc r * bits size = le-mul_suc (bits size) r in
      let some = bits_some size lawful in
      subst (λ (page : List ℕ). used_in page (bit_at (place i)) ≡ false)
      (sym (blank_behind size image made (inventory_page size (suc r)) (omega (arith, many, some))
      (omega (arith, below)))) (blank_unused size (bit_at (place i)))

  unused : (i : ℕ) → i < count → is_used size (page_at size image) (page i) ≡ false
  unfolding is_used
  unused i few = rw (its_region i, its_bit i) (unused_in i (region i) few refl)

  is_free : (i : ℕ) → i < count → IsFree (record { size = size; limit = limit }) (page_at size image) (page i)
  is_free i few = record {
    below = below_limit i (page i) few (let near = bit_near (place i) in omega (arith, near));
    region = subst (λ (k : ℕ). inventory_page size k < min limit GREATEST_LIMIT) (sym (its_region i))
        (below_limit i (inventory_page size (region i)) few (omega arith));
    no_header = λ none. no_header_at i (region i) (place i) refl refl none;
    no_inventory = no_inventory_page size (page i) lawful (λ one. no_inventory_bit (place i) (sym (its_bit i) ∙ one));
    unused = unused i few;
  }
    where
      no_header_at : (i r p : ℕ) → region i ≡ r → place i ≡ p → page i ≢ 0
      no_header_at i zero p first at none =
          let its : 0 * per + place i ≡ 6 + i = subst (λ (k : ℕ). k * per + place i ≡ 6 + i) first (whole i) in
          let no : 0 * per ≡ 0 = zero-mul per in
          let from : 7 ≤ bit_at (place i) = bit_from (place i) (omega (arith, its, no)) in
          omega (arith, from, none)
      no_header_at i (suc r) p first at none =
          let many : bits size ≤ suc r * bits size = le-mul_suc (bits size) r in
          let some = bits_some size lawful in
          let its : region i * bits size ≡ suc r * bits size = ap (λ (k : ℕ). k * bits size) first in
          omega (arith, many, some, its, none)

  pages_apart : (i j : ℕ) → page i ≡ page j → i ≡ j
  pages_apart i j same =
      let regions : region i ≡ region j = sym (its_region i) ∙ (ap (λ (n : ℕ). n / bits size) same ∙ its_region j) in
      let places : place i ≡ place j = bits_apart (place i) (place j)
      (sym (its_bit i) ∙ (ap (λ (n : ℕ). n % bits size) same ∙ its_bit j)) in
      let products : region i * per ≡ region j * per = ap (λ (k : ℕ). k * per) regions in
      let one = whole i in
      let other = whole j in
      omega (arith, places, products, one, other)

-- In a new database so many pages are free.
pub new_has_free : (size limit free : ℕ) (image : Image) → is_page_size size ≡ true → IsMade size image
    → HasNewRoom size limit free
    → HasFree (record { size = size; limit = limit }) (page_at size image) free
new_has_free size limit count image lawful made room = record {
  page = page size limit count image lawful made room;
  free = is_free size limit count image lawful made room;
  apart = λ i j one other same. pages_apart size limit count image lawful made room i j same;
}
