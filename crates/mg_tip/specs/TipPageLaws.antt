-- Laws of a transaction inventory page, for those who stand above it.
use Rattle.std.specs.Prelude.{◌≡◌, ◌<◌, ◌≤◌, ℕ, zero, suc, ◌+◌, ◌*◌, ◌/◌, ◌%◌, ◌^◌, List, [], ◌∷◌, length, take, replicate, ◌==◌, if◌then◌else◌}
use Rattle.std.proofs.Common.{refl, sym, ap, ◌∙◌, arith, inl, inr}
use Rattle.std.proofs.Math.ListN.{set}
use Rattle.std.proofs.lemmas.Bool.{cases_eq, cases_lt, eq-eqb, ne_eqb}
use Rattle.std.proofs.lemmas.List.{take-take, get_or-set_other, get_or-replicate, get_or_past, length-replicate}
use Rattle.mg_base.specs.Fields.{byte, with_u32, new_page, byte_apart, u32_again, take-with_u32, length-new_page, length-with_u32}
use Rattle.mg_base.specs.declared.transaction.TxState.TheVariants.{Active}
use Rattle.mg_base.specs.declared.damage.Field.TheVariants.{Link}
use Rattle.mg_tip.specs.declared.page.TheConstants.{TIP_KIND, PREV_AT, STATES_AT}
use Rattle.mg_base.specs.Checks.{PassesAll, common_checks}
use Rattle.mg_base.specs.CheckLaws.{byte_front, front_checks, new_passes, passes-append}
use Rattle.mg_tip.specs.TipPage.{bits_of, state_of, two_bits, state_in, prev_in, tip_checks, new_tip_page}

zero_bits : (k : ℕ) → two_bits 0 k ≡ 0
zero_bits zero = refl
zero_bits (suc zero) = refl
zero_bits (suc (suc zero)) = refl
zero_bits (suc (suc (suc k))) = refl

zero_behind : (size page kind seq prev at : ℕ) → 20 ≤ at
    → byte (with_u32 (new_page size page kind 0 seq) 16 prev) at ≡ 0
zero_behind size page kind seq prev at behind =
    let blank : List ℕ = replicate size 0 in
    let kinded : List ℕ = set blank 0 kind in
    let named : List ℕ = with_u32 kinded 4 page in
    let owned : List ℕ = with_u32 named 8 0 in
    let made : List ℕ = with_u32 owned 12 seq in
    let blank_at : byte blank at ≡ 0 = elim (cases_lt at size) [
      | inl inside ↦ get_or-replicate size at 0 0 inside
      | inr past ↦ get_or_past blank at 0 (omega (arith, length-replicate {A = ℕ} size 0))
    ] in
    byte_apart made 16 prev at (omega arith) ∙
    (byte_apart owned 12 seq at (omega arith) ∙
    (byte_apart named 8 0 at (omega arith) ∙
    (byte_apart kinded 4 page at (omega arith) ∙
    (get_or-set_other blank 0 at kind 0 (omega arith) ∙ blank_at))))

-- on a new page every state is Active
pub new_page_active : (size page seq prev place : ℕ)
    → state_in (new_tip_page size page seq prev) place ≡ Active
unfolding state_in new_tip_page
new_page_active size page seq prev place = rw (
  zero_behind size page TIP_KIND seq prev (STATES_AT
      + place / 4) (omega arith),
  zero_bits (place % 4),
) refl

-- a new page names the page before it
pub new_page_prev : (size page seq prev : ℕ) → STATES_AT ≤ size → prev < 2 ^ 32
    → prev_in (new_tip_page size page seq prev) ≡ prev
unfolding new_tip_page
new_page_prev size page seq prev fits small =
    u32_again (new_page size page TIP_KIND 0 seq) PREV_AT prev (omega (
      arith,
      length-new_page size page TIP_KIND 0 seq,
    )) small

-- a new page passes its tests, if the first of the chain is said to have none before it
pub new_page_passes : (size page seq prev : ℕ) → STATES_AT ≤ size → page < 2 ^ 32 → seq < 2 ^ 32
    → prev < 2 ^ 32 → (seq ≡ 0 → prev ≡ 0)
    → PassesAll (tip_checks (new_tip_page size page seq prev) page seq)
unfolding new_tip_page tip_checks
new_page_passes size page seq prev fits small_page small_seq small_prev first =
    let made : List ℕ = new_page size page TIP_KIND 0 seq in
    let front : take 16 (with_u32 made 16 prev) ≡ take 16 made =
    take-with_u32 made 16 prev 16 (omega arith) in
    let common : PassesAll (common_checks (with_u32 made 16 prev) page TIP_KIND 0 seq) =
    rw (front_checks (with_u32 made 16 prev) made page TIP_KIND 0 seq front) (new_passes size page TIP_KIND 0 seq (omega arith) small_page (omega arith) small_seq) in
    passes-append (common_checks (with_u32 made 16 prev) page TIP_KIND 0 seq) _ common
    (first_link seq (prev_in (with_u32 made 16 prev)) (λ is_first. new_page_prev size page seq prev fits small_prev ∙ first is_first))
  where
    first_link : (seq prev : ℕ) → (seq ≡ 0 → prev ≡ 0)
        → PassesAll (if seq == 0 then (Link, prev, 0) ∷ [] else [])
    first_link seq prev none = elim (cases_eq seq 0) [
      | inl is_first ↦ rw (eq-eqb seq 0 is_first) (none is_first, tt)
      | inr later ↦ rw (ne_eqb seq 0 later) tt
    ]

-- a new page has the size that was asked for
pub length-new_tip_page : (size page seq prev : ℕ) → length (new_tip_page size page seq prev) ≡ size
unfolding new_tip_page
length-new_tip_page size page seq prev =
    length-with_u32 (new_page size page TIP_KIND 0 seq) PREV_AT prev ∙
    length-new_page size page TIP_KIND 0 seq

bits_of-state_of : (bits : ℕ) → bits < 4 → bits_of (state_of bits) ≡ bits
bits_of-state_of zero below = refl
bits_of-state_of (suc zero) below = refl
bits_of-state_of (suc (suc zero)) below = refl
bits_of-state_of (suc (suc (suc zero))) below = refl
bits_of-state_of (suc (suc (suc (suc bits)))) below = absurd (omega arith)

-- a byte is told by its four states
pub byte_of_states : (page : List ℕ) (at : ℕ) → byte page (STATES_AT + at) < 2 ^ 8
    → byte page (STATES_AT + at) ≡ bits_of (state_in page (4 * at))
    + 4 * bits_of (state_in page (4 * at + 1)) + 16 * bits_of (state_in page (4 * at + 2))
    + 64 * bits_of (state_in page (4 * at + 3))
unfolding state_in
byte_of_states page at small =
    let place : (k : ℕ) → k < 4 → (4 * at + k) / 4 ≡ at = λ k below. omega arith in
    let bits : (k : ℕ) → k < 4 → (4 * at + k) % 4 ≡ k = λ k below. omega arith in
    let first_place : 4 * at / 4 ≡ at = omega arith in
    let first_bits : 4 * at % 4 ≡ 0 = omega arith in
    rw (
      first_place,
      first_bits,
      place 1 (omega arith),
      bits 1 (omega arith),
      place 2 (omega arith),
      bits 2 (omega arith),
      place 3 (omega arith),
      bits 3 (omega arith),
    )
    (quarters (byte page (20 + at)) small)
  where
    quarters : (b : ℕ) → b < 2 ^ 8 → b ≡ bits_of (state_of (two_bits b 0))
        + 4 * bits_of (state_of (two_bits b 1)) + 16 * bits_of (state_of (two_bits b 2))
        + 64 * bits_of (state_of (two_bits b 3))
    quarters b below = rw (
      bits_of-state_of (b % 4) (omega arith),
      bits_of-state_of (b / 4 % 4) (omega arith),
      bits_of-state_of (b / 16 % 4) (omega arith),
      bits_of-state_of (b / 64 % 4) (omega arith),
    ) (omega arith)

-- what stands before the states tells the page before, and the tests
pub same_prev : (old new : List ℕ) → take STATES_AT new ≡ take STATES_AT old → prev_in new
    ≡ prev_in old
same_prev old new same = rw (
  byte_front new old 20 16 same (omega arith),
  byte_front new old 20 17 same (omega arith),
  byte_front new old 20 18 same (omega arith),
  byte_front new old 20 19 same (omega arith),
) refl

pub same_tests : (old new : List ℕ) (page seq : ℕ) → take STATES_AT new ≡ take STATES_AT old
    → tip_checks new page seq ≡ tip_checks old page seq
unfolding tip_checks
same_tests old new page seq same =
    let front : take 16 new ≡ take 16 old = sym (take-take 16 20 new (omega arith)) ∙
    (ap (λ (x : List ℕ). take 16 x) same ∙ take-take 16 20 old (omega arith)) in
    rw (front_checks new old page TIP_KIND 0 seq front, same_prev old new same) refl
