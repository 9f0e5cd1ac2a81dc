-- Laws of page numbers and their bits, and what the taking of a page gives a batch that uses it.
use Rattle.std.specs.Prelude.{◌≡◌, ◌≢◌, ◌<◌, ◌≤◌, ◌⊎◌, ◌+◌, ◌*◌, ◌/◌, ◌%◌, ◌==◌, ◌||◌, ℕ, true, List}
use Rattle.std.proofs.Common.{refl, sym, ap, subst, ◌∙◌, arith, inl, inr}
use Rattle.std.proofs.Math.Nat.{mod-add-div'}
use Rattle.std.proofs.lemmas.Bool.{cases_eq, eq-eqb, eqb-true, or_cases, or_left, or_right}
use Rattle.std.proofs.lemmas.Nat.{div-mul-add, mod-mul-add}
use Rattle.mg_base.specs.Checks.{PassesAll}
use Rattle.mg_base.specs.Geometry.{is_page_size}
use Rattle.mg_base.specs.declared.geometry.Geometry.{Geometry}
use Rattle.mg_image.specs.Form.{Pages}
use Rattle.mg_image.specs.Inventory.{inventory_page, is_used}
use Rattle.mg_image.specs.Sound.{HasRegion}
use Rattle.mg_pip.specs.PipPage.{bits, pip_checks, used_in}
use Rattle.mg_space.specs.Taking.{IsGeometry, TakesPage, is_fixed, region_of}

-- the five sizes lie between the least and the greatest
pub page_sizes : (size : ℕ) → is_page_size size ≡ true → (1024 ≤ size) × (size ≤ 16384)
page_sizes size is = four (or_cases _ _ is)
  where
    at : (n : ℕ) → 1024 ≤ n → n ≤ 16384 → size ≡ n → (1024 ≤ size) × (size ≤ 16384)
    at n least most same = (omega arith, omega arith)

    one : ((size == 1024) ≡ true) ⊎ ((size == 2048) ≡ true) → (1024 ≤ size) × (size ≤ 16384)
    one (inl is) = at 1024 (omega arith) (omega arith) (eqb-true size 1024 is)
    one (inr is) = at 2048 (omega arith) (omega arith) (eqb-true size 2048 is)

    two : ((size == 1024 || size == 2048) ≡ true) ⊎ ((size == 4096) ≡ true)
        → (1024 ≤ size) × (size ≤ 16384)
    two (inl is) = one (or_cases _ _ is)
    two (inr is) = at 4096 (omega arith) (omega arith) (eqb-true size 4096 is)

    three : ((size == 1024 || size == 2048 || size == 4096) ≡ true) ⊎ ((size == 8192) ≡ true)
        → (1024 ≤ size) × (size ≤ 16384)
    three (inl is) = two (or_cases _ _ is)
    three (inr is) = at 8192 (omega arith) (omega arith) (eqb-true size 8192 is)

    four : ((size == 1024 || size == 2048 || size == 4096 || size == 8192) ≡ true)
        ⊎ ((size == 16384) ≡ true) → (1024 ≤ size) × (size ≤ 16384)
    four (inl is) = three (or_cases _ _ is)
    four (inr is) = at 16384 (omega arith) (omega arith) (eqb-true size 16384 is)

-- an inventory page has a few thousand bits
pub bits_some : (size : ℕ) → is_page_size size ≡ true → 8064 ≤ bits size
bits_some size is = let sizes = page_sizes size is in let least = sizes.0 in omega arith

pub bits_few : (size : ℕ) → is_page_size size ≡ true → bits size ≤ 130944
bits_few size is = let sizes = page_sizes size is in let most = sizes.1 in omega arith

-- a page is told by its region and its bit
pub page_is : (size n : ℕ) → n / bits size * bits size + n % bits size ≡ n
page_is size n = let whole = mod-add-div' n (bits size) in omega (arith, whole)

pub region_is : (size region bit : ℕ) → bit < bits size → (region * bits size + bit) / bits size ≡ region
region_is size region bit inside = div-mul-add region (bits size) bit inside

pub bit_is : (size region bit : ℕ) → bit < bits size → (region * bits size + bit) % bits size ≡ bit
bit_is size region bit inside = mod-mul-add region (bits size) bit inside

-- an inventory page belongs to its own region, and has the bit 1 there
pub own_region : (size region : ℕ) → is_page_size size ≡ true
    → inventory_page size region / bits size ≡ region
own_region size region is = let some = bits_some size is in region_is size region 1 (omega arith)

pub own_bit : (size region : ℕ) → is_page_size size ≡ true
    → inventory_page size region % bits size ≡ 1
own_bit size region is = let some = bits_some size is in bit_is size region 1 (omega arith)

-- inventory pages of two regions are two pages
pub one_region : (size a b : ℕ) → is_page_size size ≡ true
    → inventory_page size a ≡ inventory_page size b → a ≡ b
one_region size a b is same =
    sym (own_region size a is) ∙ (ap (λ (n : ℕ). n / bits size) same ∙ own_region size b is)

-- a page that is no inventory page of its own region is none at all
pub no_inventory_page : (size n : ℕ) → is_page_size size ≡ true → n % bits size ≢ 1
    → (region : ℕ) → inventory_page size region ≢ n
no_inventory_page size n is ne region same =
    ne (ap (λ (m : ℕ). m % bits size) (sym same) ∙ own_bit size region is)

module _ (g : Geometry) (old new : Pages) (n : ℕ) (lawful : IsGeometry g)
    (takes : TakesPage g old new n) where
  abbrev region : ℕ
  region = region_of g.size n

  abbrev at : ℕ
  at = inventory_page g.size region

  -- what was used is used still
  pub takes_keeps : (m : ℕ) → is_used g.size old m ≡ true → is_used g.size new m ≡ true
  unfolding is_used
  takes_keeps m is = on (cases_eq (inventory_page g.size (m / bits g.size)) at)
    where
      on : (inventory_page g.size (m / bits g.size) ≡ at)
          ⊎ (inventory_page g.size (m / bits g.size) ≢ at)
          → used_in (new (inventory_page g.size (m / bits g.size))) (m % bits g.size) ≡ true
      on (inl same) =
          let was : used_in (old at) (m % bits g.size) ≡ true =
          ap (λ (p : ℕ). used_in (old p) (m % bits g.size)) (sym same) ∙ is in
          ap (λ (p : ℕ). used_in (new p) (m % bits g.size)) same
          ∙ (takes.bits_are (m % bits g.size) ∙ or_left _ _ was)
      on (inr ne) = ap (λ (p : List ℕ). used_in p (m % bits g.size))
          (takes.others (inventory_page g.size (m / bits g.size)) ne) ∙ is

  -- the page is used now
  pub takes_bit : is_used g.size new n ≡ true
  unfolding is_used
  takes_bit = takes.bits_are (n % bits g.size)
      ∙ or_right (used_in (old at) (n % bits g.size)) _
      (or_left _ (is_fixed region (n % bits g.size)) (eq-eqb (n % bits g.size) (n % bits g.size) refl))

  -- so is its inventory page
  pub takes_own : is_used g.size new at ≡ true
  unfolding is_used
  takes_own = subst (λ (r : ℕ). used_in (new (inventory_page g.size r)) (at % bits g.size) ≡ true)
      (sym (own_region g.size region lawful.size))
      (subst (λ (b : ℕ). used_in (new at) b ≡ true) (sym (own_bit g.size region lawful.size))
      (takes.bits_are 1 ∙ or_right (used_in (old at) 1) _
      (or_right (1 == n % bits g.size) (is_fixed region 1) refl)))

  -- the inventory page is lawful
  pub takes_region : (k : ℕ) → inventory_page g.size k ≡ at → HasRegion g.size new at k
  takes_region k same = inr (record {
    below = let below = takes.free.region in omega (arith, below);
    used = takes_own;
    fields = subst (λ (r : ℕ). PassesAll (pip_checks (new at) at r)) (sym (one_region g.size k region lawful.size same))
        takes.tests;
  })
