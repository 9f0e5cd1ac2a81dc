-- Used pages are counted one after another.
use Rattle.std.specs.Prelude.{◌≡◌, ◌↔◌, ◌⊎◌, ◌<◌, ◌≤◌, ◌+◌, ◌-◌, ◌==◌, ◌||◌, nat_lt, ℕ, zero, suc, Bool, true, false, Result, Ok, Err, length, get_or, List}
use Rattle.std.proofs.Common.{refl, sym, ap, ◌∙◌, arith, add-one, inl, inr, subst}
use Rattle.std.proofs.lemmas.Bool.{eqb-true, lt-ltb, ltb-true, or_cases}
use Rattle.std.proofs.lemmas.List.{get_or_read}
use Rattle.mg_base.specs.Checks.{verdict}
use Rattle.mg_base.specs.CheckLaws.{passes_from_verdict, verdict_from_passes}
use Rattle.mg_base.specs.Geometry.{is_page_size}
use Rattle.mg_base.specs.Image.{Image, blank, page_at}
use Rattle.mg_base.specs.declared.damage.Damaged.{Damaged}
use Rattle.mg_check_inventory.specs.ImagePages.{IsWholeImage, bit_checks, bit_number, numbered}
use Rattle.mg_check_inventory.specs.TestLaws.{set_is_one}
use Rattle.mg_image.specs.Form.{Pages}
use Rattle.mg_image.specs.Inventory.{is_used}
use Rattle.mg_stat.specs.Figures.{used_below}

-- ---- one bit

pub bit_passed : (size : ℕ) (pages : Pages) (n : ℕ) (test : Result (Unit {0}) Damaged)
    → test ≡ verdict (numbered n) (bit_checks size pages n) → test ≡ Ok tt
    → 1 ≡ bit_number (is_used size pages n)
bit_passed size pages n test is passed =
    sym (passes_from_verdict (numbered n) (bit_checks size pages n) (sym is ∙ passed)).0

unset : (size : ℕ) (pages : Pages) (n : ℕ) (damage : Damaged) (bit : Bool)
    → is_used size pages n ≡ bit
    → verdict (numbered n) (bit_checks size pages n) ≡ Err damage → 0 ≡ bit_number bit
unset size pages n damage true used is = absurd
    (let passed = verdict_from_passes (numbered n) (bit_checks size pages n)
    (set_is_one (is_used size pages n) used, tt) in cc)
unset size pages n damage false used is = refl

pub bit_failed : (size : ℕ) (pages : Pages) (n : ℕ) (test : Result (Unit {0}) Damaged)
    (damage : Damaged) → test ≡ verdict (numbered n) (bit_checks size pages n) → test ≡ Err damage
    → 0 ≡ bit_number (is_used size pages n)
bit_failed size pages n test damage is failed =
    unset size pages n damage (is_used size pages n) refl (sym is ∙ failed)

-- ---- all bits

pub used_more : (size : ℕ) (pages : Pages) (n used bit : ℕ) → used ≡ used_below size pages n
    → bit ≡ bit_number (is_used size pages n) → used + bit ≡ used_below size pages (n + 1)
used_more size pages n used bit before here = rw (add-one n) (omega (arith, before, here))

-- no more than there are numbers
pub used_few : (size : ℕ) (pages : Pages) (n : ℕ) → used_below size pages n ≤ n
used_few size pages zero = omega arith
used_few size pages (suc n) =
    let before = used_few size pages n in
    let here = one (is_used size pages n) in omega (arith, before, here)
  where
    one : (bit : Bool) → bit_number bit ≤ 1
    one true = omega arith
    one false = omega arith

-- those below the limit are all
pub used_all : (size : ℕ) (pages : Pages) (n limit used : ℕ) → n ≤ limit → limit ≤ n
    → used ≡ used_below size pages n → used ≡ used_below size pages limit
used_all size pages n limit used most least is =
    subst (λ (k : ℕ). used ≡ used_below size pages k) (equal n limit most least) is
  where
    equal : (a b : ℕ) → a ≤ b → b ≤ a → a ≡ b
    equal a b most least = omega arith

-- ---- the header page

-- a page of a lawful size is not short
pub least_size : (size : ℕ) → is_page_size size ≡ true → 1024 ≤ size
least_size size is = five (or_cases _ _ is)
  where
    one : ((size == 1024) ≡ true) ⊎ ((size == 2048) ≡ true) → 1024 ≤ size
    one (inl is) = omega (arith, eqb-true size 1024 is)
    one (inr is) = omega (arith, eqb-true size 2048 is)

    two : ((size == 1024 || size == 2048) ≡ true) ⊎ ((size == 4096) ≡ true) → 1024 ≤ size
    two (inl is) = one (or_cases _ _ is)
    two (inr is) = omega (arith, eqb-true size 4096 is)

    three : ((size == 1024 || size == 2048 || size == 4096) ≡ true) ⊎ ((size == 8192) ≡ true)
        → 1024 ≤ size
    three (inl is) = two (or_cases _ _ is)
    three (inr is) = omega (arith, eqb-true size 8192 is)

    five : ((size == 1024 || size == 2048 || size == 4096 || size == 8192) ≡ true)
        ⊎ ((size == 16384) ≡ true) → 1024 ≤ size
    five (inl is) = three (or_cases _ _ is)
    five (inr is) = omega (arith, eqb-true size 16384 is)

-- the header page, by its index
pub header_is : (size : ℕ) (image : Image) (page bytes : List ℕ) → 0 < length image
    → page ≡ get_or image 0 page → bytes ≡ page → bytes ≡ page_at size image 0
header_is size image page bytes some at is = is ∙ get_or_read image 0 page some at (blank size)

-- it has room for its fields
pub header_long : (size : ℕ) (image : Image) (bytes : List ℕ) → IsWholeImage size image
    → bytes ≡ page_at size image 0 → 1024 ≤ length bytes
header_long size image bytes whole is =
    let long = ap length is ∙ whole.whole 0 in
    let least = least_size size whole.lawful in
    omega (arith, long, least)

-- whether a sweep is due
pub due_is : (interval ost oit apart x y z : ℕ) → interval ≡ x → ost ≡ y → oit ≡ z
    → apart ≡ ost - oit → (nat_lt interval apart ≡ true) ↔ (x < y - z)
due_is interval ost oit apart x y z first second third is = (
  λ due. let less = ltb-true interval apart due in omega (arith, less, first, second, third, is),
  λ less. lt-ltb interval apart (omega (arith, less, first, second, third, is)),
)
