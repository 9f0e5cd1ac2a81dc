-- How the least free page of a region is found.
use Rattle.std.proofs.Common.{◌≡◌, ◌≢◌, ◌<◌, ◌≤◌, ◌⊎◌, ◌↔◌, ◌+◌, ◌*◌, ◌/◌, ◌%◌, ◌-◌, ◌==◌, ◌||◌, ◌&&◌, ℕ, Bool, true, false, List, length, refl, sym, ap, subst, ◌∙◌, arith, inl, inr, min, Result, Ok, Err, OnOk}
use Rattle.std.proofs.Math.Nat.{le-div_iff_mul-le, mul-le-mul_right}
use Rattle.std.proofs.lemmas.Bool.{both_ways, cases_eq, cases_lt, eq-eqb, ne_eqb, eqb-true, or_cases, or_left, or_right, and_parts}
use Rattle.std.proofs.lemmas.List.{get_or-replicate, get_or_past, length-replicate}
use Rattle.mg_base.specs.CheckLaws.{passes_from_verdict}
use Rattle.mg_base.specs.Checks.{PassesAll, verdict}
use Rattle.mg_base.specs.declared.damage.Damaged.{Damaged}
use Rattle.mg_base.specs.declared.numbers.PageNo.{PageNo}
use Rattle.mg_base.specs.Geometry.{is_page_size}
use Rattle.mg_base.specs.Fields.{byte}
use Rattle.mg_base.specs.Image.{blank}
use Rattle.mg_base.specs.declared.geometry.Geometry.{Geometry}
use Rattle.mg_image.specs.Form.{Pages}
use Rattle.mg_image.specs.Inventory.{inventory_page, is_used}
use Rattle.mg_pip.specs.PipPage.{AllUsed, IsFirstFree, SetsUsed, bits, pip_checks, used_in}
use Rattle.mg_pip.specs.PipPageLaws.{same_tests, zero_unused}
use Rattle.mg_pip.specs.declared.page.TheConstants.{BITS_AT}
use Rattle.mg_pool.specs.Batch.{Changed, PutsPage}
use Rattle.mg_space.specs.Taking.{IsFree, IsGeometry, IsLawfulRegion, IsMarked, IsReady, MarksFixed, PutsInventory, SetsFixed, TakesPage, is_fixed, region_of, taking_limit}
use Rattle.mg_space.specs.TakingLaws.{bit_is, bits_some, no_inventory_page, page_is, region_is}

-- ---- the fixed bits

fixed_of : (region bit : ℕ) → is_fixed region bit ≡ true → (bit ≡ 1) ⊎ ((bit ≡ 0) × (region ≡ 0))
fixed_of region bit is = at (or_cases (bit == 1) (bit == 0 && region == 0) is)
  where
    at : ((bit == 1) ≡ true) ⊎ ((bit == 0 && region == 0) ≡ true)
        → (bit ≡ 1) ⊎ ((bit ≡ 0) × (region ≡ 0))
    at (inl one) = inl (eqb-true bit 1 one)
    at (inr none) = let both = and_parts (bit == 0) (region == 0) none in
        inr (eqb-true bit 0 both.0, eqb-true region 0 both.1)

-- the bit of the inventory page itself is set, and no other
one_fixed : (region : ℕ) (old new : List ℕ) → region ≢ 0 → SetsUsed old new 1 true
    → SetsFixed region old new
one_fixed region old new later set = record {
  len = set.len;
  front = set.front;
  bits_are = λ bit. at bit (cases_eq bit 1);
}
  where
    none : (region == 0) ≡ false
    none = ne_eqb region 0 later

    off : (b used : Bool) → used ≡ (used || (false || (b && false)))
    off true true = refl
    off true false = refl
    off false true = refl
    off false false = refl

    at : (bit : ℕ) → (bit ≡ 1) ⊎ (bit ≢ 1)
        → used_in new bit ≡ (used_in old bit || is_fixed region bit)
    at bit (inl same) = ap (used_in new) same ∙ (set.set ∙ sym (or_right (used_in old bit)
        (is_fixed region bit) (or_left (bit == 1) _ (eq-eqb bit 1 same))))
    at bit (inr ne) = rw (ne_eqb bit 1 ne, none) (set.others bit ne
        ∙ off (bit == 0) (used_in old bit))

-- in the first region that of the header page is set, too
two_fixed : (old mid new : List ℕ) → SetsUsed old mid 1 true → SetsUsed mid new 0 true
    → SetsFixed 0 old new
two_fixed old mid new first second = record {
  len = second.len ∙ first.len;
  front = second.front ∙ first.front;
  bits_are = λ bit. at bit (cases_eq bit 0) (cases_eq bit 1);
}
  where
    off : (used : Bool) → used ≡ (used || (false || (false && true)))
    off true = refl
    off false = refl

    at : (bit : ℕ) → (bit ≡ 0) ⊎ (bit ≢ 0) → (bit ≡ 1) ⊎ (bit ≢ 1)
        → used_in new bit ≡ (used_in old bit || is_fixed 0 bit)
    at bit (inl zero_) one = rw zero_ (second.set ∙ sym (or_right (used_in old 0) true refl))
    at bit (inr ne) (inl one) = rw one (second.others 1 (λ e. ne (one ∙ e))
        ∙ (first.set ∙ sym (or_right (used_in old 1) true refl)))
    at bit (inr ne) (inr other) = rw (ne_eqb bit 1 other, ne_eqb bit 0 ne)
        (second.others bit ne ∙ (first.others bit other ∙ off (used_in old bit)))

pub set_one : (region : ℕ) (old new : List ℕ) → region ≢ 0 → SetsUsed old new 1 true
    → SetsFixed region old new
set_one region old new later set = one_fixed region old new later set

pub set_two : (region : ℕ) (old mid new : List ℕ) → region ≡ 0 → SetsUsed old mid 1 true
    → SetsUsed mid new 0 true → SetsFixed region old new
set_two region old mid new first one two =
    subst (λ (r : ℕ). SetsFixed r old new) (sym first) (two_fixed old mid new one two)

-- a page of zeros marks nothing
blank_unused : (page : List ℕ) (bit : ℕ) → page ≡ blank (length page) → used_in page bit ≡ false
blank_unused page bit is = zero_unused page bit (ap (λ (p : List ℕ). byte p (BITS_AT + bit / 8)) is
    ∙ zeros (length page) (BITS_AT + bit / 8))
  where
    zeros : (size at : ℕ) → byte (blank size) at ≡ 0
    zeros size at = on (cases_lt at size)
      where
        on : (at < size) ⊎ (size ≤ at) → byte (blank size) at ≡ 0
        on (inl inside) = get_or-replicate size at 0 0 inside
        on (inr past) = get_or_past (blank size) at 0 (omega (arith, length-replicate {A = ℕ} size 0))

-- a blank page that was made is ready
pub made_ready : (at region : ℕ) (old new : List ℕ) → old ≡ blank (length old)
    → length new ≡ length old → ((bit : ℕ) → used_in new bit ≡ false)
    → PassesAll (pip_checks new at region) → IsReady at region old new
made_ready at region old new was len unused tests = record {
  was = inl was;
  len = len;
  tests = tests;
  same = λ bit. unused bit ∙ sym (blank_unused old bit was);
}

-- a ready page with the fixed bits set marks the fixed pages
pub ready_marked : (at region : ℕ) (old mid new : List ℕ) → IsReady at region old mid
    → SetsFixed region mid new → MarksFixed at region old new
ready_marked at region old mid new ready sets = record {
  was = ready.was;
  len = sets.len ∙ ready.len;
  tests = subst PassesAll (sym (same_tests mid new at region sets.front)) ready.tests;
  bits_are = λ bit. sets.bits_are bit
      ∙ ap (λ (used : Bool). used || is_fixed region bit) (ready.same bit);
}

pub marked : (at region : ℕ) (old new : List ℕ) → MarksFixed at region old new
    → IsMarked region new
marked at region old new marks bit is =
    marks.bits_are bit ∙ or_right (used_in old bit) (is_fixed region bit) is

-- a page that passes its tests is ready as it is
pub check_ready : (at : PageNo) (region : ℕ) (page : List ℕ) (result : Result (Unit {0}) Damaged)
    → result ≡ verdict at (pip_checks page at.0 region)
    → OnOk result (IsReady at.0 region page page)
check_ready at region page (Ok u) is =
    let passes = passes_from_verdict at (pip_checks page at.0 region) (sym is) in record {
      was = inr passes;
      len = refl;
      tests = passes;
      same = λ bit. refl;
    }
check_ready at region page (Err damage) is = tt

-- ---- the regions below the limit

pub no_regions : (size limit region : ℕ) → limit < 2
    → (region < 0) ↔ (inventory_page size region < limit)
no_regions size limit region few = (λ less. absurd (omega arith), λ less. absurd (omega arith))

pub some_regions : (size limit region : ℕ) → is_page_size size ≡ true → 2 ≤ limit
    → (region < (limit - 2) / bits size + 1) ↔ (inventory_page size region < limit)
some_regions size limit region lawful some =
    let bits_ = bits_some size lawful in
    let divides = le-div_iff_mul-le {k = bits size} {x = region} {y = limit - 2} (omega arith) in (
      λ less. let le : region ≤ (limit - 2) / bits size = omega arith in
          let fits = divides.0 le in omega arith,
      λ less. let fits : region * bits size ≤ limit - 2 = omega arith in
          let le = divides.1 fits in omega arith,
    )

-- ---- the pages of a region

module _ (g : Geometry) (region : ℕ) (old : Pages) (page : List ℕ) (lawful : IsGeometry g) where
  abbrev at : ℕ
  at = inventory_page g.size region

  zero_times : (k : ℕ) → 0 * k + 0 ≡ 0
  zero_times k = omega arith

  -- a page that is marked as used is not free
  used_is_taken : MarksFixed at region (old at) page → (n : ℕ) → region_of g.size n ≡ region
      → used_in page (n % bits g.size) ≡ true → IsFree g old n → ⊥
  unfolding is_used
  used_is_taken marks n of is free =
      on (or_cases _ _ (sym (marks.bits_are (n % bits g.size)) ∙ is))
    where
      on : (used_in (old at) (n % bits g.size) ≡ true) ⊎ (is_fixed region (n % bits g.size) ≡ true)
          → ⊥
      on (inl used) = both_ways (used_in (old at) (n % bits g.size))
          (ap (λ (r : ℕ). used_in (old (inventory_page g.size r)) (n % bits g.size)) (sym of)
          ∙ free.unused) used
      on (inr fixed) = on_fixed (fixed_of region (n % bits g.size) fixed)
        where
          on_fixed : (n % bits g.size ≡ 1) ⊎ ((n % bits g.size ≡ 0) × (region ≡ 0)) → ⊥
          on_fixed (inl one) = free.no_inventory region
              (ap (λ (b : ℕ). region * bits g.size + b) (sym one)
              ∙ (ap (λ (r : ℕ). r * bits g.size + n % bits g.size) (sym of) ∙ page_is g.size n))
          on_fixed (inr none) = free.no_header (sym (page_is g.size n)
              ∙ (ap (λ (r : ℕ). r * bits g.size + n % bits g.size) (of ∙ none.1)
              ∙ (ap (λ (b : ℕ). 0 * bits g.size + b) none.0 ∙ zero_times (bits g.size))))

  -- where all bits below the limit are set, no page of the region is free
  pub none_free : MarksFixed at region (old at) page
      → AllUsed page (min (bits g.size) (taking_limit g - region * bits g.size))
      → (n : ℕ) → region_of g.size n ≡ region → IsFree g old n → ⊥
  none_free marks all n of free =
      used_is_taken marks n of (all (n % bits g.size) inside) free
    where
      inside : n % bits g.size < min (bits g.size) (taking_limit g - region * bits g.size)
      inside =
          let some = bits_some g.size lawful.size in
          let whole : region * bits g.size + n % bits g.size ≡ n =
          ap (λ (r : ℕ). r * bits g.size + n % bits g.size) (sym of) ∙ page_is g.size n in
          let below = free.below in
          let bit : n % bits g.size < bits g.size = omega arith in
          omega arith

  module _ (bit : ℕ)
      (first : IsFirstFree page (min (bits g.size) (taking_limit g - region * bits g.size)) bit) where
    abbrev taken : ℕ
    taken = region * bits g.size + bit

    bit_inside : bit < bits g.size
    bit_inside = let inside = first.inside in omega arith

    pub below_limit : taken < taking_limit g
    below_limit = let inside = first.inside in omega arith

    pub of_region : region_of g.size taken ≡ region
    of_region = region_is g.size region bit bit_inside

    of_bit : taken % bits g.size ≡ bit
    of_bit = bit_is g.size region bit bit_inside

    not_fixed : IsMarked region page → is_fixed region bit ≡ true → ⊥
    not_fixed marked fixed = both_ways (used_in page bit) first.free (marked bit fixed)

    pub no_header_page : IsMarked region page → taken ≢ 0
    no_header_page marked none =
        let some = bits_some g.size lawful.size in
        let no_bit : bit ≡ 0 = omega arith in
        let product : region * bits g.size ≡ 0 = omega arith in
        not_fixed marked (or_right (bit == 1) (bit == 0 && region == 0)
        (rw (no_bit, no_region region (bits g.size) product (omega arith)) refl))
      where
        no_region : (r b : ℕ) → r * b ≡ 0 → 0 < b → r ≡ 0
        no_region r b none some = of (cases_eq r 0)
          where
            of : (r ≡ 0) ⊎ (r ≢ 0) → r ≡ 0
            of (inl is) = is
            of (inr ne) =
                let one : 1 * b ≤ r * b = mul-le-mul_right b (omega arith) in
                absurd (omega (arith, one))

    pub no_inventory : IsMarked region page → (r : ℕ) → inventory_page g.size r ≢ taken
    no_inventory marked = no_inventory_page g.size taken lawful.size
        (λ one. not_fixed marked (or_left (bit == 1) _ (eq-eqb bit 1 (sym of_bit ∙ one))))

    pub puts : (made : List ℕ) (batch after : Changed) → IsMarked region page → at < taking_limit g
        → length made ≡ g.size → PutsPage batch after at made
        → PutsInventory g batch after taken
    puts made batch after marked below len put = record {
      below = below_limit;
      region = subst (λ (r : ℕ). inventory_page g.size r < taking_limit g) (sym of_region) below;
      no_header = no_header_page marked;
      no_inventory = no_inventory marked;
      bytes = made;
      len = len;
      puts = subst (λ (r : ℕ). PutsPage batch after (inventory_page g.size r) made) (sym of_region)
          put;
    }

    is_free : MarksFixed at region (old at) page → IsMarked region page → at < taking_limit g
        → IsFree g old taken
    unfolding is_used
    is_free marks marked below = record {
      below = below_limit;
      region = subst (λ (r : ℕ). inventory_page g.size r < taking_limit g) (sym of_region) below;
      no_header = no_header_page marked;
      no_inventory = no_inventory marked;
      unused = subst (λ (r : ℕ). used_in (old (inventory_page g.size r)) (taken % bits g.size) ≡ false)
          (sym of_region) (subst (λ (b : ℕ). used_in (old at) b ≡ false) (sym of_bit)
          (first_false (used_in (old at) bit) (is_fixed region bit)
          (sym (marks.bits_are bit) ∙ first.free)));
    }
      where
        first_false : (p q : Bool) → (p || q) ≡ false → p ≡ false
        first_false true q is = absurd cc
        first_false false q is = refl

    least : MarksFixed at region (old at) page
        → ((m : ℕ) → m < region * bits g.size → IsFree g old m → ⊥)
        → (m : ℕ) → m < taken → IsFree g old m → ⊥
    least marks before m less = of (cases_lt m (region * bits g.size))
      where
        of : (m < region * bits g.size) ⊎ (region * bits g.size ≤ m) → IsFree g old m → ⊥
        of (inl early) = before m early
        of (inr late) =
            let inside : m - region * bits g.size < bits g.size =
            let b = bit_inside in omega arith in
            let same : region * bits g.size + (m - region * bits g.size) ≡ m = omega arith in
            let region_same : region_of g.size m ≡ region =
            ap (λ (k : ℕ). k / bits g.size) (sym same) ∙ region_is g.size region
            (m - region * bits g.size) inside in
            let bit_same : m % bits g.size ≡ m - region * bits g.size =
            ap (λ (k : ℕ). k % bits g.size) (sym same) ∙ bit_is g.size region
            (m - region * bits g.size) inside in
            used_is_taken marks m region_same (ap (used_in page) bit_same
            ∙ first.least (m - region * bits g.size) (omega arith))

    pub takes : (new : Pages) (made : List ℕ) → MarksFixed at region (old at) page → at < taking_limit g
        → length page ≡ g.size → SetsUsed page made bit true → new at ≡ made
        → ((m : ℕ) → m ≢ at → new m ≡ old m)
        → ((m : ℕ) → m < region * bits g.size → IsFree g old m → ⊥)
        → TakesPage g old new taken
    takes new made marks below len set here others before = record {
      free = is_free marks (marked at region (old at) page marks) below;
      least = least marks before;
      others = λ m ne. others m (λ e. ne (e ∙ ap (inventory_page g.size) (sym of_region)));
      was = subst (λ (r : ℕ). IsLawfulRegion (inventory_page g.size r) r
          (old (inventory_page g.size r))) (sym of_region) marks.was;
      len = subst (λ (r : ℕ). length (new (inventory_page g.size r)) ≡ g.size) (sym of_region)
          (ap (λ (p : List ℕ). length p) here ∙ (set.len ∙ len));
      tests = subst (λ (r : ℕ). PassesAll (pip_checks (new (inventory_page g.size r))
          (inventory_page g.size r) r)) (sym of_region)
          (subst (λ (p : List ℕ). PassesAll (pip_checks p at region)) (sym here)
          (subst PassesAll (sym (same_tests page made at region set.front)) marks.tests));
      bits_are = λ b. subst (λ (r : ℕ). used_in (new (inventory_page g.size r)) b
          ≡ (used_in (old (inventory_page g.size r)) b
          || (b == taken % bits g.size || is_fixed r b))) (sym of_region)
          (subst (λ (k : ℕ). used_in (new at) b
          ≡ (used_in (old at) b || (b == k || is_fixed region b))) (sym of_bit)
          (ap (λ (p : List ℕ). used_in p b) here ∙ bits_after b (cases_eq b bit)));
    }
      where
        bits_after : (b : ℕ) → (b ≡ bit) ⊎ (b ≢ bit)
            → used_in made b ≡ (used_in (old at) b || (b == bit || is_fixed region b))
        bits_after b (inl same) = ap (used_in made) same ∙ (set.set
            ∙ sym (or_right (used_in (old at) b) _ (or_left (b == bit) _ (eq-eqb b bit same))))
        bits_after b (inr ne) = rw (ne_eqb b bit ne) (set.others b ne ∙ marks.bits_are b)
