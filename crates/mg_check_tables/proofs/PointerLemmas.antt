-- One pointer page: what its tests tell, and what it is where they pass.
use Rattle.std.specs.Prelude.{◌≡◌, ◌≢◌, ◌⊎◌, ◌<◌, ◌≤◌, ◌+◌, ◌*◌, ◌-◌, ◌==◌, ◌||◌, ◌^◌, ℕ, zero, suc, true, List, Result, Ok, Err, OnOk, length, min}
use Rattle.std.proofs.Common.{refl, sym, ap, inl, inr, arith, subst}
use Rattle.std.proofs.lemmas.Bool.{cases_lt, eqb-true, ne_eqb, or_cases}
use Rattle.std.proofs.lemmas.List.{get_or_past}
use Rattle.mg_base.specs.Checks.{PassesAll, common_checks, verdict}
use Rattle.mg_base.specs.CheckLaws.{passes-append, passes_from_verdict}
use Rattle.mg_base.specs.Fields.{byte, u32_at}
use Rattle.mg_base.specs.Geometry.{is_page_size}
use Rattle.mg_base.specs.Image.{Image, blank, page_at}
use Rattle.mg_base.specs.declared.damage.Damaged.{Damaged}
use Rattle.mg_base.specs.declared.fields.TheConstants.{SEQUENCE_AT}
use Rattle.mg_base.specs.declared.geometry.TheConstants.{GREATEST_LIMIT}
use Rattle.mg_check_inventory.specs.ImagePages.{IsWholeImage, bit_checks, lawful_link, link_checks, numbered, presence_checks}
use Rattle.mg_check_inventory.specs.TestLaws.{bit_is_set, none_where_passes, passes_parts, set_is_one}
use Rattle.mg_check_tables.specs.TableRung.{IsPointerFinding, IsThereFinding, pointer_tests}
use Rattle.mg_findings.specs.Findings.{HasNone, Tells}
use Rattle.mg_findings.specs.RungLaws.{none_of_rungs}
use Rattle.mg_image.specs.Form.{Pages}
use Rattle.mg_image.specs.Inventory.{is_used}
use Rattle.mg_image.specs.Sound.{IsTablePointer}
use Rattle.mg_pointer.specs.declared.page.TheConstants.{POINTER_KIND}
use Rattle.mg_pointer.specs.PointerPage.{IsPointerPage, count_in, pointer_checks, rest_checks}

-- a page whose tests pass is as wanted
pub wanted_passed : (size : ℕ) (pages : Pages) (n owner at : ℕ) (test : Result (Unit {0}) Damaged)
    → n < GREATEST_LIMIT → test ≡ verdict (numbered n) (pointer_tests size pages n owner at)
    → OnOk test (IsTablePointer size pages owner at n)
wanted_passed size pages n owner at (Ok _) below is =
    let both = passes_parts (pointer_checks (pages n) n owner at) (bit_checks size pages n)
    (passes_from_verdict (numbered n) (pointer_tests size pages n owner at) (sym is)) in
    record {
      below = below;
      used = bit_is_set (is_used size pages n) both.1.0;
      fields = both.0;
    }
wanted_passed size pages n owner at (Err damage) below is = tt

-- the parts of its tests
common_part : (b : List ℕ) (n owner at : ℕ) → PassesAll (pointer_checks b n owner at)
    → PassesAll (common_checks b n POINTER_KIND owner at) × PassesAll (rest_checks b)
unfolding pointer_checks
common_part b n owner at passes =
    passes_parts (common_checks b n POINTER_KIND owner at) (rest_checks b) passes

-- a page of a lawful size is neither too short nor too long
sizes : (size : ℕ) → is_page_size size ≡ true → (1024 ≤ size) × (size ≤ 16384)
sizes size is = five (or_cases _ _ is)
  where
    one : ((size == 1024) ≡ true) ⊎ ((size == 2048) ≡ true) → (1024 ≤ size) × (size ≤ 16384)
    one (inl is) = let e = eqb-true size 1024 is in (omega (arith, e), omega (arith, e))
    one (inr is) = let e = eqb-true size 2048 is in (omega (arith, e), omega (arith, e))

    two : ((size == 1024 || size == 2048) ≡ true) ⊎ ((size == 4096) ≡ true)
        → (1024 ≤ size) × (size ≤ 16384)
    two (inl is) = one (or_cases _ _ is)
    two (inr is) = let e = eqb-true size 4096 is in (omega (arith, e), omega (arith, e))

    three : ((size == 1024 || size == 2048 || size == 4096) ≡ true) ⊎ ((size == 8192) ≡ true)
        → (1024 ≤ size) × (size ≤ 16384)
    three (inl is) = two (or_cases _ _ is)
    three (inr is) = let e = eqb-true size 8192 is in (omega (arith, e), omega (arith, e))

    five : ((size == 1024 || size == 2048 || size == 4096 || size == 8192) ≡ true)
        ⊎ ((size == 16384) ≡ true) → (1024 ≤ size) × (size ≤ 16384)
    five (inl is) = three (or_cases _ _ is)
    five (inr is) = let e = eqb-true size 16384 is in (omega (arith, e), omega (arith, e))

-- its entries may be read
pub lawful_pointer : (size : ℕ) (image : Image) (owner at n : ℕ) (b : List ℕ)
    → IsWholeImage size image → b ≡ page_at size image n
    → IsTablePointer size (page_at size image) owner at n → IsPointerPage b
lawful_pointer size image owner at n b whole same is =
    subst (λ (p : List ℕ). IsPointerPage p) (sym same) here
  where
    here : IsPointerPage (page_at size image n)
    here =
        let long = whole.whole n in
        let both = sizes size whole.lawful in
        let few = (common_part (page_at size image n) n owner at is.fields).1.0 in
        record {
          least = omega (arith, long, both.0);
          most = omega (arith, long, both.1);
          count = omega (arith, few);
        }

-- it has no more of them than fit a page
pub few_entries : (b : List ℕ) → IsPointerPage b → count_in b ≤ 16378
few_entries b page = omega (arith, page.count, page.most)

-- so their places are numbers of 32 bits
pub room_left : (place at many : ℕ) → place ≤ 16378 * at → at ≤ GREATEST_LIMIT → many ≤ 16378
    → place + many < 2 ^ 32
room_left place at many room few most = omega (arith, room, few, most)

-- its sequence is its place in the chain
sequence_part : (b : List ℕ) (n kind owner at : ℕ) → PassesAll (common_checks b n kind owner at)
    → u32_at b SEQUENCE_AT ≡ at
unfolding common_checks
sequence_part b n kind owner at passes = passes.1.1.1.1.1.0

pub sequence_of : (size : ℕ) (pages : Pages) (owner at n : ℕ)
    → IsTablePointer size pages owner at n → u32_at (pages n) SEQUENCE_AT ≡ at
sequence_of size pages owner at n is =
    sequence_part (pages n) n POINTER_KIND owner at (common_part (pages n) n owner at is.fields).0

-- ---- where it is as wanted, nothing is found of it

pointer_kind : (b : List ℕ) (n owner at : ℕ) → PassesAll (common_checks b n POINTER_KIND owner at)
    → byte b 0 ≡ POINTER_KIND
unfolding common_checks
pointer_kind b n owner at passes = passes.0

blank_kind : (size : ℕ) → byte (blank size) 0 ≡ 0
blank_kind zero = refl
blank_kind (suc size) = refl

-- it is there
pointer_there : (size : ℕ) (image : Image) (n owner at : ℕ)
    → PassesAll (pointer_checks (page_at size image n) n owner at) → n < length image
pointer_there size image n owner at passes = within (cases_lt n (length image))
  where
    none : page_at size image n ≡ blank size → ⊥
    none is =
        let four = pointer_kind (page_at size image n) n owner at
        (common_part (page_at size image n) n owner at passes).0 in
        let same : byte (page_at size image n) 0 ≡ byte (blank size) 0 =
        ap (λ (b : List ℕ). byte b 0) is in
        let nothing = blank_kind size in
        omega (arith, four, same, nothing)

    within : (n < length image) ⊎ (length image ≤ n) → n < length image
    within (inl inside) = inside
    within (inr past) = absurd (none (get_or_past image n (blank size) past))

lawful_some : (n : ℕ) → n ≢ 0 → n < GREATEST_LIMIT → n ≡ lawful_link n
lawful_some n some below =
    let at : lawful_link n ≡ min n (GREATEST_LIMIT - 1) = rw (ne_eqb n 0 some) refl in
    omega (arith, at, below)

pub pointer_none : (size : ℕ) (image : Image) (holder n owner at : ℕ) → n ≢ 0
    → IsTablePointer size (page_at size image) owner at n
    → HasNone (IsPointerFinding size (page_at size image) (length image) holder n owner at)
pointer_none size image holder n owner at some is =
    let pages = page_at size image in
    let there = pointer_there size image n owner at is.fields in
    (none_of_rungs (Tells (verdict (numbered holder) (link_checks n)))
    (IsThereFinding size pages (length image) n owner at)).1 (
      none_where_passes (numbered holder) (link_checks n)
          (lawful_some n some is.below, tt),
      (none_of_rungs (Tells (verdict (numbered n) (presence_checks (length image) n)))
          (Tells (verdict (numbered n) (pointer_tests size pages n owner at)))).1 (
            none_where_passes (numbered n) (presence_checks (length image) n)
                (omega (arith, there), tt),
            none_where_passes (numbered n) (pointer_tests size pages n owner at)
                (passes-append (pointer_checks (pages n) n owner at) (bit_checks size pages n) is.fields
                (set_is_one (is_used size pages n) is.used, tt)),
          ),
    )
