-- One bit is set by one byte, and the first clear bit is found by the first byte that has one.
use Rattle.std.proofs.Common.{◌≡◌, ◌≢◌, ℕ, zero, suc, ◌+◌, ◌-◌, ◌*◌, ◌/◌, ◌%◌, ◌<◌, ◌≤◌, Bool, true, false, List, length, refl, arith, inl, inr}
use Rattle.std.specs.Prelude.{◌==◌}
use mir.Val.{bool_byte}
use Rattle.std.proofs.Math.ListN.{set}
use Rattle.std.proofs.lemmas.Bool.{cases_eq, cases_lt}
use Rattle.std.proofs.lemmas.List.{get_or-set_same, get_or-set_other, length-set, take-set-le}
use Rattle.mg_base.specs.Fields.{byte}
use Rattle.mg_pip.specs.PipPage.{bits, bit_of, used_in, AllUsed, IsFirstFree, IsFirstOpenByte, SetsUsed}

-- a byte is exchanged for one that differs at one bit alone
pub sets_used : (old : List ℕ) (bit new_byte : ℕ) (used : Bool) (one : ℕ) → bit < bits (length old)
    → (one == 1) ≡ used
    → bit_of new_byte (bit % 8) ≡ one
    → ((other : ℕ) → other < 8 → other ≢ bit % 8
    → bit_of new_byte other ≡ bit_of (byte old (16 + bit / 8)) other)
    → SetsUsed old (set old (16 + bit / 8) new_byte) bit used
unfolding used_in
sets_used old bit new_byte used one in_page is_used set_here others_stay =
    let at : ℕ = 16 + bit / 8 in
    let in_list : at < length old = omega arith in
    let byte_set : byte (set old at new_byte) at ≡ new_byte =
    get_or-set_same old at new_byte 0 in_list in
    let elsewhere : (k : ℕ) → k ≢ at → byte (set old at new_byte) k ≡ byte old k =
    λ k apart. get_or-set_other old at k new_byte 0 apart in
    record {
      len = length-set old at new_byte;
      front = take-set-le 16 old at new_byte (omega arith);
      set = rw (byte_set, set_here) is_used;
      others = λ other apart.
          elim (cases_eq (other / 8) (bit / 8)) [
            | inl same_byte ↦
                (let bit_apart : other % 8 ≢ bit % 8 = omega arith in
                rw (same_byte, byte_set, others_stay (other % 8) (omega arith) bit_apart) refl)
            | inr other_byte ↦
                (let byte_apart : 16 + other / 8 ≢ at = omega arith in
                rw (elsewhere (16 + other / 8) byte_apart) refl)
          ];
      outside = elsewhere;
    }

full_bit : (place : ℕ) → bit_of 255 place ≡ 1
full_bit zero = refl
full_bit (suc zero) = refl
full_bit (suc (suc zero)) = refl
full_bit (suc (suc (suc zero))) = refl
full_bit (suc (suc (suc (suc zero)))) = refl
full_bit (suc (suc (suc (suc (suc zero))))) = refl
full_bit (suc (suc (suc (suc (suc (suc zero)))))) = refl
full_bit (suc (suc (suc (suc (suc (suc (suc place))))))) = refl

-- in a full byte each bit is used
full_used : (page : List ℕ) (bit : ℕ) → byte page (16 + bit / 8) ≡ 255 → used_in page bit ≡ true
unfolding used_in
full_used page bit full = rw (full, full_bit (bit % 8)) refl

-- bytes that are all full: each bit of them is used
pub all_used : (page : List ℕ) (below end : ℕ) → below ≤ 8 * (end - 16)
    → ((at : ℕ) → 16 ≤ at → at < end → byte page at ≡ 255) → AllUsed page below
all_used page below end covers full = λ bit inside. full_used page bit (full (16
    + bit / 8) (omega arith) (omega arith))

-- before the lowest clear bit of the first open byte each bit is used
pub least_used : (page : List ℕ) (end at place : ℕ) → IsFirstOpenByte page end at
    → ((other : ℕ) → other < place → bit_of (byte page at) other ≡ 1)
    → place < 8 → AllUsed page ((at - 16) * 8 + place)
unfolding used_in
least_used page end at place open_byte low small = λ bit inside.
    elim (cases_lt (16 + bit / 8) at) [
      | inl before ↦ full_used page bit (open_byte.full (16 + bit / 8) (omega arith) before)
      | inr same ↦
          (let behind = open_byte.behind in
          let here : 16 + bit / 8 ≡ at = omega arith in
          rw (here, low (bit % 8) (omega arith)) refl)
    ]

-- the lowest clear bit of the first open byte is not used
pub clear_unused : (page : List ℕ) (end at place : ℕ) → IsFirstOpenByte page end at → place < 8
    → bit_of (byte page at) place ≡ 0 → used_in page ((at - 16) * 8 + place) ≡ false
unfolding used_in
clear_unused page end at place open_byte small clear =
    let behind = open_byte.behind in
    let here : 16 + ((at - 16) * 8 + place) / 8 ≡ at = omega arith in
    let there : ((at - 16) * 8 + place) % 8 ≡ place = omega arith in
    rw (here, there, clear) refl

-- the byte of a bool is 1 exactly where it is true
pub one_if_used : (used : Bool) → (bool_byte used == 1) ≡ used
one_if_used true = refl
one_if_used false = refl

-- the first clear bit, by the first open byte and its lowest clear bit
pub first_free_is : (page : List ℕ) (below end at place : ℕ) → IsFirstOpenByte page end at
    → place < 8 → bit_of (byte page at) place ≡ 0
    → ((other : ℕ) → other < place → bit_of (byte page at) other ≡ 1)
    → (at - 16) * 8 + place < below → IsFirstFree page below ((at - 16) * 8 + place)
first_free_is page below end at place open_byte small clear low inside = record {
  inside = inside;
  free = clear_unused page end at place open_byte small clear;
  least = least_used page end at place open_byte low small;
}
