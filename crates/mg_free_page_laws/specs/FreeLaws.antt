-- Free pages are counted: those that are left after one was taken, and after pages changed that have no bits.
use Rattle.std.proofs.Common.{◌≡◌, ◌≢◌, ◌∙◌, ◌⊎◌, inl, inr, ◌<◌, ◌≤◌, ◌+◌, ◌%◌, ◌/◌, ◌*◌, ◌==◌, ◌&&◌, ℕ, List, false, sym, ap, subst, arith}
use Rattle.std.proofs.lemmas.Bool.{and_left, and_right, cases_eq, ne_eqb, or_from}
use Rattle.mg_base.specs.declared.geometry.Geometry.{Geometry}
use Rattle.mg_image.specs.Form.{Pages}
use Rattle.mg_image.specs.Inventory.{inventory_page, is_used}
use Rattle.mg_pip.specs.PipPage.{bits, used_in}
use Rattle.mg_space.specs.Taking.{IsFree, IsFull, IsGeometry, IsLawfulRegion, TakesPage, is_fixed, region_of, taking_limit}
use Rattle.mg_space.specs.TakingLaws.{one_region, page_is}
use Rattle.mg_space.specs.FreePages.{TakingKeepsRegions}
use Rattle.mg_space.specs.FreePages.{HasFree}
use Rattle.mg_free_page_laws.specs.FreePages.{TakesAtMost}

-- fewer are free, too
pub fewer : (g : Geometry) (pages : Pages) (many few : ℕ) → few ≤ many → HasFree g pages many → HasFree g pages few
fewer g pages many few less has = record {
  page = has.page;
  free = λ i inside. has.free i (omega (arith, inside, less));
  apart = λ i j a b same. has.apart i j (omega (arith, a, less)) (omega (arith, b, less)) same;
}

-- where one is free, not all are taken
pub not_full : (g : Geometry) (pages : Pages) → HasFree g pages 1 → IsFull g pages → ⊥
not_full g pages has full = full (has.page 0) (has.free 0 (omega arith))

-- ---- pages that have no bits

-- no inventory page below the limit has changed
abbrev pub SameBits : Geometry → Pages → Pages → Type 0
SameBits g old new = (region : ℕ) → inventory_page g.size region < taking_limit g
    → new (inventory_page g.size region) ≡ old (inventory_page g.size region)

still_free : (g : Geometry) (old new : Pages) → SameBits g old new → (n : ℕ) → IsFree g old n → IsFree g new n
unfolding is_used
still_free g old new same n free = record {
  below = free.below;
  region = free.region;
  no_header = free.no_header;
  no_inventory = free.no_inventory;
  unused = ap (λ page. used_in page (n % bits g.size)) (same (region_of g.size n) free.region) ∙ free.unused;
}

-- then as many are free as were, and the regions are lawful as they were
pub none_taken : (g : Geometry) (old new : Pages) → SameBits g old new → TakesAtMost g old new 0
none_taken g old new same = record {
  regions = λ regions region below. subst (IsLawfulRegion (inventory_page g.size region) region)
      (sym (same region below)) (regions region below);
  left = λ regions count has. still g old new same count has;
}
  where
    still : (g : Geometry) (old new : Pages) → SameBits g old new → (count : ℕ) → HasFree g old (count + 0)
        → HasFree g new count
    still g old new same count has = record {
      page = has.page;
      free = λ i inside. still_free g old new same (has.page i) (has.free i (omega (arith, inside)));
      apart = λ i j a b. has.apart i j (omega (arith, a)) (omega (arith, b));
    }

-- ---- a page is taken

module _ (g : Geometry) (old new : Pages) (n : ℕ) (lawful : IsGeometry g) (takes : TakesPage g old new n) where
  abbrev at : ℕ
  at = inventory_page g.size (region_of g.size n)

  -- a free page has no fixed bit
  not_fixed : (m : ℕ) → IsFree g old m → is_fixed (region_of g.size m) (m % bits g.size) ≡ false
  not_fixed m free = or_from (m % bits g.size == 1) (m % bits g.size == 0 && region_of g.size m == 0)
      (ne_eqb (m % bits g.size) 1 no_own) (no_first (cases_eq (m % bits g.size) 0))
    where
      no_own : m % bits g.size ≢ 1
      no_own one = free.no_inventory (region_of g.size m)
          (sym (sym (page_is g.size m) ∙ ap (λ (bit : ℕ). m / bits g.size * bits g.size + bit) one))

      no_first : (m % bits g.size ≡ 0) ⊎ (m % bits g.size ≢ 0)
          → (m % bits g.size == 0 && region_of g.size m == 0) ≡ false
      no_first (inr some) = and_left (m % bits g.size == 0) (region_of g.size m == 0)
          (ne_eqb (m % bits g.size) 0 some)
      no_first (inl zero_) = and_right (m % bits g.size == 0) (region_of g.size m == 0)
          (ne_eqb (region_of g.size m) 0 (λ first. free.no_header (
          let whole = page_is g.size m in
          let low : m / bits g.size * bits g.size + m % bits g.size ≡ 0 * bits g.size + m % bits g.size =
          ap (λ (region : ℕ). region * bits g.size + m % bits g.size) first in omega (arith, whole, low, zero_))))

  other_free : (m : ℕ) → m ≢ n → IsFree g old m → IsFree g new m
  unfolding is_used
  other_free m other free = record {
    below = free.below;
    region = free.region;
    no_header = free.no_header;
    no_inventory = free.no_inventory;
    unused = on (cases_eq (inventory_page g.size (region_of g.size m)) at);
  }
    where
      on : (inventory_page g.size (region_of g.size m) ≡ at) ⊎ (inventory_page g.size (region_of g.size m) ≢ at)
          → used_in (new (inventory_page g.size (region_of g.size m))) (m % bits g.size) ≡ false
      on (inr elsewhere) = ap (λ (page : List ℕ). used_in page (m % bits g.size))
          (takes.others (inventory_page g.size (region_of g.size m)) elsewhere) ∙ free.unused
      on (inl same) = ap (λ (k : ℕ). used_in (new k) (m % bits g.size)) same
          ∙ (takes.bits_are (m % bits g.size) ∙ or_from (used_in (old at) (m % bits g.size)) _
          (ap (λ (k : ℕ). used_in (old k) (m % bits g.size)) (sym same) ∙ free.unused)
          (or_from (m % bits g.size == n % bits g.size) _ (ne_eqb (m % bits g.size) (n % bits g.size) apart)
          (ap (λ (region : ℕ). is_fixed region (m % bits g.size)) (sym one) ∙ not_fixed m free)))
        where
          one : region_of g.size m ≡ region_of g.size n
          one = one_region g.size (region_of g.size m) (region_of g.size n) lawful.size same

          apart : m % bits g.size ≢ n % bits g.size
          apart bit = other (sym (page_is g.size m)
              ∙ (ap (λ (region : ℕ). region * bits g.size + m % bits g.size) one
              ∙ (ap (λ (b : ℕ). region_of g.size n * bits g.size + b) bit ∙ page_is g.size n)))

  -- the last free page comes in the place of the one that was taken
  module _ (count : ℕ) (has : HasFree g old (count + 1)) where
    instead : (i : ℕ) → (has.page i ≡ n) ⊎ (has.page i ≢ n) → ℕ
    instead i (inl taken) = has.page count
    instead i (inr stays) = has.page i

    instead_free : (i : ℕ) → i < count → (which : (has.page i ≡ n) ⊎ (has.page i ≢ n))
        → IsFree g new (instead i which)
    unfolding instead
    instead_free i inside (inl taken) = other_free (has.page count) last (has.free count (omega arith))
      where
        last : has.page count ≢ n
        last too = let one : i ≡ count = has.apart i count (omega (arith, inside)) (omega arith) (taken ∙ sym too) in
            omega (arith, one, inside)
    instead_free i inside (inr stays) = other_free (has.page i) stays (has.free i (omega (arith, inside)))

    instead_apart : (i j : ℕ) → i < count → j < count → (of : (has.page i ≡ n) ⊎ (has.page i ≢ n))
        → (by : (has.page j ≡ n) ⊎ (has.page j ≢ n)) → instead i of ≡ instead j by → i ≡ j
    unfolding instead
    instead_apart i j a b (inl x) (inl y) same =
        has.apart i j (omega (arith, a)) (omega (arith, b)) (x ∙ sym y)
    instead_apart i j a b (inr x) (inr y) same = has.apart i j (omega (arith, a)) (omega (arith, b)) same
    instead_apart i j a b (inl x) (inr y) same =
        let last : count ≡ j = has.apart count j (omega arith) (omega (arith, b)) same in omega (arith, last, b)
    instead_apart i j a b (inr x) (inl y) same =
        let last : i ≡ count = has.apart i count (omega (arith, a)) (omega arith) same in omega (arith, last, a)

    one_less : HasFree g new count
    one_less = record {
      page = λ i. instead i (cases_eq (has.page i) n);
      free = λ i inside. instead_free i inside (cases_eq (has.page i) n);
      apart = λ i j a b. instead_apart i j a b (cases_eq (has.page i) n) (cases_eq (has.page j) n);
    }

pub one_taken : TakingKeepsRegions → (g : Geometry) (old new : Pages) (n : ℕ) → IsGeometry g → TakesPage g old new n
    → TakesAtMost g old new 1
one_taken keeps g old new n lawful takes = record {
  regions = λ regions. keeps g old new n lawful regions takes;
  left = λ regions count has. one_less g old new n lawful takes count has;
}

-- ---- one change after another

pub takes_more : (g : Geometry) (old new : Pages) (few many : ℕ) → few ≤ many → TakesAtMost g old new few
    → TakesAtMost g old new many
takes_more g old new few many less takes = record {
  regions = takes.regions;
  left = λ regions count has. takes.left regions count
      (fewer g old (count + many) (count + few) (omega (arith, less)) has);
}

pub both_taken : (g : Geometry) (a b c : Pages) (first second : ℕ) → TakesAtMost g a b first
    → TakesAtMost g b c second → TakesAtMost g a c (first + second)
both_taken g a b c first second one two = record {
  regions = λ regions. two.regions (one.regions regions);
  left = λ regions count has. two.left (one.regions regions) count
      (one.left regions (count + second) (fewer g a (count + (first + second)) (count + second + first)
      (omega arith) has));
}

-- the pages are the same
pub same_taken : (g : Geometry) (old new : Pages) → ((n : ℕ) → new n ≡ old n) → TakesAtMost g old new 0
same_taken g old new same = none_taken g old new (λ region below. same (inventory_page g.size region))
