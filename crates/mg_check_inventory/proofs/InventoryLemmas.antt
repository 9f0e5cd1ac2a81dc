-- The page inventory page of a region, and those of all regions.
use Rattle.std.specs.Prelude.{◌≡◌, ◌≢◌, ◌↔◌, ◌<◌, ◌≤◌, ◌⊎◌, ◌+◌, ◌*◌, ◌-◌, ◌/◌, ℕ, zero, suc, List, [], ◌∷◌, Result, Ok, length, replicate}
use Rattle.std.proofs.Common.{refl, sym, ap, ◌∙◌, inl, inr, arith, subst}
use Rattle.std.proofs.lemmas.Bool.{cases_eq, cases_lt}
use Rattle.std.proofs.lemmas.List.{get_or_past}
use Rattle.std.proofs.lemmas.Nat.{le-div, mul-le}
use Rattle.mg_base.specs.Checks.{verdict}
use Rattle.mg_base.specs.CheckLaws.{passes-append}
use Rattle.mg_base.specs.Image.{Image, blank, page_at}
use Rattle.mg_base.specs.declared.damage.Damaged.{Damaged}
use Rattle.mg_base.specs.declared.geometry.TheConstants.{GREATEST_LIMIT}
use Rattle.mg_findings.specs.declared.finding.Finding.{Finding}
use Rattle.mg_findings.specs.Findings.{Adds, Has, HasNone, Tells}
use Rattle.mg_image.specs.Form.{Pages}
use Rattle.mg_image.specs.Inventory.{inventory_page, is_used}
use Rattle.mg_image.specs.Reached.{IsAsWanted}
use Rattle.mg_image.specs.Sound.{HasRegion}
use Rattle.mg_pip.specs.PipPage.{bits, pip_checks}
use Rattle.mg_check_inventory.specs.ImagePages.{IsWholeImage, bit_checks, numbered}
use Rattle.mg_check_inventory.specs.InventoryRung.{InventoryLaw, IsFoundBelow, IsInventoryFinding, IsRegionFinding, region_checks}
use Rattle.mg_check_inventory.specs.TestLaws.{bit_is_set, none_where_passes, passes_parts, passes_where_none, set_is_one}

-- ---- a region

-- a page past the end is blank
pub region_absent : (size : ℕ) (image : Image) (region n : ℕ) → n ≡ inventory_page size region
    → length image ≤ n → (f : Finding)
    → Tells (Ok tt) f ↔ IsRegionFinding size (page_at size image) region f
region_absent size image region n at past f = (
  λ none. absurd none,
  λ found. absurd (found.filled
      (ap (page_at size image) (sym at) ∙ get_or_past image n (blank size) past)),
)

-- a page of zeros is blank
zeros_blank : (size : ℕ) (image : Image) (n : ℕ) (page : List ℕ) → IsWholeImage size image
    → page ≡ page_at size image n → page ≡ replicate (length page) 0
    → page_at size image n ≡ blank size
zeros_blank size image n page whole is zeros =
    sym is ∙ (zeros ∙ ap (λ (k : ℕ). replicate k 0) (ap length is ∙ whole.whole n))

pub region_blank : (size : ℕ) (image : Image) (region n : ℕ) (page : List ℕ)
    → IsWholeImage size image → n ≡ inventory_page size region → page ≡ page_at size image n
    → page ≡ replicate (length page) 0 → (f : Finding)
    → Tells (Ok tt) f ↔ IsRegionFinding size (page_at size image) region f
region_blank size image region n page whole at is zeros f = (
  λ none. absurd none,
  λ found. absurd (found.filled
      (ap (page_at size image) (sym at) ∙ zeros_blank size image n page whole is zeros)),
)

-- what the tests of a page tell, which is that of a region
abbrev TellsOf : ℕ → Image → ℕ → Finding → ℕ → Type 0
TellsOf size image region f n =
    Tells (verdict (numbered n) (region_checks size (page_at size image) n region)) f

-- any other is tested
pub region_filled : (size : ℕ) (image : Image) (region n : ℕ) (page : List ℕ)
    (test : Result (Unit {0}) Damaged) → IsWholeImage size image → n ≡ inventory_page size region
    → page ≡ page_at size image n → (page ≡ replicate (length page) 0 → ⊥)
    → inventory_page size region < GREATEST_LIMIT
    → test ≡ verdict (numbered n) (region_checks size (page_at size image) n region)
    → (f : Finding) → Tells test f ↔ IsRegionFinding size (page_at size image) region f
region_filled size image region n page test whole at is some within tested f = (
  λ told. record {
    within = within;
    filled = λ empty. some (zeros empty);
    told = subst (TellsOf size image region f) at (subst (λ (t : Result (Unit {0}) Damaged). Tells t f) tested told);
  },
  λ found. subst (λ (t : Result (Unit {0}) Damaged). Tells t f) (sym tested)
      (subst (TellsOf size image region f) (sym at) found.told),
)
  where
    zeros : page_at size image (inventory_page size region) ≡ blank size
        → page ≡ replicate (length page) 0
    zeros empty =
        is ∙ (ap (page_at size image) at ∙ (empty ∙ ap (λ (k : ℕ). replicate k 0)
        (sym (ap length is ∙ whole.whole n))))

-- ---- all regions

-- below no region is none
pub none_below : (size : ℕ) (pages : Pages) (f : Finding)
    → Has [] f ↔ IsFoundBelow size pages 0 f
none_below size pages f = (
  λ has. absurd has,
  λ found. absurd (omega (arith, found.1)),
)

-- one region more
pub below_more : (size : ℕ) (pages : Pages) (count : ℕ) (old new : List Finding)
    (test : Result (Unit {0}) Damaged)
    → ((f : Finding) → Has old f ↔ IsFoundBelow size pages count f)
    → Adds old new (Tells test)
    → ((f : Finding) → Tells test f ↔ IsRegionFinding size pages count f) → (f : Finding)
    → Has new f ↔ IsFoundBelow size pages (count + 1) f
below_more size pages count old new test before adds here f = (
  λ has. elim ((adds f).0 has) [
    | inl there ↦ let found = (before f).0 there in
        (found.0, omega (arith, found.1), found.2)
    | inr told ↦ (count, omega arith, (here f).0 told)
  ],
  λ found. (adds f).1 (at found (cases_lt found.0 count)),
)
  where
    last : (k count : ℕ) → k < count + 1 → count ≤ k → k ≡ count
    last k count below past = omega arith

    at : (found : IsFoundBelow size pages (count + 1) f) → (found.0 < count) ⊎ (count ≤ found.0)
        → Has old f ⊎ Tells test f
    at found (inl less) = inl ((before f).1 (found.0, less, found.2))
    at found (inr past) = inr ((here f).1
        (subst (λ (k : ℕ). IsRegionFinding size pages k f) (last found.0 count found.1 past) found.2))

-- the regions whose page is part of the image are those below this number
pub region_below : (size region : ℕ) → 0 < bits size → inventory_page size region < GREATEST_LIMIT
    → region < (GREATEST_LIMIT - 2) / bits size + 1
region_below size region some within =
    let most = le-div region (GREATEST_LIMIT - 2) (bits size) some (omega (arith, within)) in
    omega (arith, most)

pub region_within : (size region : ℕ) → 0 < bits size
    → region < (GREATEST_LIMIT - 2) / bits size + 1 → inventory_page size region < GREATEST_LIMIT
region_within size region some below =
    let whole : (GREATEST_LIMIT - 2) / bits size * bits size ≤ GREATEST_LIMIT - 2 = omega arith in
    let least = mul-le region (bits size) ((GREATEST_LIMIT - 2) / bits size) (bits size)
    (omega (arith, below)) (omega arith) in
    omega (arith, whole, least)

-- what is found below the last region is what is found
pub all_below : (size : ℕ) (pages : Pages) (count b : ℕ) → 0 < bits size → b ≡ bits size
    → (GREATEST_LIMIT - 2) / b + 1 ≤ count → (f : Finding)
    → IsFoundBelow size pages count f ↔ IsInventoryFinding size pages f
all_below size pages count b some is end f = (
  λ found. (found.0, found.2),
  λ found. (
    found.0,
    omega (arith, region_below size found.0 some found.1.within, last),
    found.1,
  ),
)
  where
    last : (GREATEST_LIMIT - 2) / bits size + 1 ≤ count
    last = subst (λ (k : ℕ). (GREATEST_LIMIT - 2) / k + 1 ≤ count) is end

-- ---- the law

-- a page is blank, or it is not
blank_or_not : (page : List ℕ) (size : ℕ) → (page ≡ blank size) ⊎ (page ≢ blank size)
blank_or_not [] zero = inl refl
blank_or_not [] (suc size) = inr (λ is. absurd cc)
blank_or_not (x ∷ page) zero = inr (λ is. absurd cc)
blank_or_not (x ∷ page) (suc size) = elim (cases_eq x 0) [
  | inl is_zero ↦ elim (blank_or_not page size) [
    | inl rest ↦ inl (λ i. is_zero i ∷ rest i)
    | inr other ↦ inr (λ is. other cc)
  ]
  | inr some ↦ inr (λ is. some cc)
]

pub inventory_law : InventoryLaw
inventory_law size pages = (
  λ none. λ region within. here none region within
      (blank_or_not (pages (inventory_page size region)) size),
  λ has. λ f found. there f found.0 found.1 (has found.0 found.1.within),
)
  where
    wanted : (n region : ℕ) → n < GREATEST_LIMIT
        → HasNone (Tells (verdict (numbered n) (region_checks size pages n region)))
        → IsAsWanted size pages n (pip_checks (pages n) n region)
    wanted n region below none =
        let both = passes_parts (pip_checks (pages n) n region) (bit_checks size pages n)
        (passes_where_none (numbered n) (region_checks size pages n region) none) in
        record {
          below = below;
          used = bit_is_set (is_used size pages n) both.1.0;
          fields = both.0;
        }

    here : HasNone (IsInventoryFinding size pages) → (region : ℕ)
        → inventory_page size region < GREATEST_LIMIT
        → (pages (inventory_page size region) ≡ blank size)
        ⊎ (pages (inventory_page size region) ≢ blank size)
        → HasRegion size pages (inventory_page size region) region
    here none region within (inl empty) = inl empty
    here none region within (inr some) = inr (wanted (inventory_page size region) region within
        (λ f told. none f (region, record { within = within; filled = some; told = told })))

    there : (f : Finding) (region : ℕ) → IsRegionFinding size pages region f
        → HasRegion size pages (inventory_page size region) region → ⊥
    there f region found (inl empty) = found.filled empty
    there f region found (inr is) = none_where_passes (numbered (inventory_page size region))
        (region_checks size pages (inventory_page size region) region)
        (passes-append (pip_checks (pages (inventory_page size region)) (inventory_page size region) region)
        (bit_checks size pages (inventory_page size region)) is.fields
        (set_is_one (is_used size pages (inventory_page size region)) is.used, tt))
        f found.told
