-- The list of orphan pages, one number after another.
use Rattle.std.specs.Prelude.{get_or, ◌≡◌, ◌↔◌, ◌⊎◌, ◌<◌, ◌≤◌, ◌+◌, ◌++◌, ℕ, Bool, true, false, List, [], ◌∷◌, Result, Ok, Err}
use Rattle.std.proofs.Common.{refl, sym, ap, ◌∙◌, inl, inr, arith, subst}
use Rattle.std.proofs.lemmas.Bool.{cases_lt}
use Rattle.mg_base.specs.Checks.{verdict}
use Rattle.mg_base.specs.CheckLaws.{passes_from_verdict, verdict_from_passes}
use Rattle.mg_base.specs.declared.damage.Damaged.{Damaged}
use Rattle.mg_check_inventory.specs.ImagePages.{bit_checks, numbered}
use Rattle.mg_check_inventory.specs.TestLaws.{bit_is_set, set_is_one}
use Rattle.mg_findings.specs.declared.finding.Finding.{Finding}
use Rattle.mg_findings.specs.FindingLaws.{has_append}
use Rattle.mg_findings.specs.Findings.{Adds, Has, HasNone}
use Rattle.mg_image.specs.Form.{Pages}
use Rattle.mg_image.specs.Inventory.{is_used}
use Rattle.mg_orphans.specs.Orphans.{IsOrphanBelow, IsPageFinding, IsUnreached, orphan_finding}

-- ---- whether a page is one

pub used_by_bit : (size : ℕ) (pages : Pages) (n : ℕ) (test : Result (Unit {0}) Damaged)
    → test ≡ verdict (numbered n) (bit_checks size pages n) → test ≡ Ok tt
    → is_used size pages n ≡ true
used_by_bit size pages n test is passed = bit_is_set (is_used size pages n)
    (passes_from_verdict (numbered n) (bit_checks size pages n) (sym is ∙ passed)).0

pub bit_by_used : (size : ℕ) (pages : Pages) (n : ℕ) (test : Result (Unit {0}) Damaged)
    → test ≡ verdict (numbered n) (bit_checks size pages n) → is_used size pages n ≡ true
    → test ≡ Ok tt
bit_by_used size pages n test is used = is ∙ verdict_from_passes (numbered n)
    (bit_checks size pages n) (set_is_one (is_used size pages n) used, tt)

-- a page that is reached is none
pub reached_none : (size : ℕ) (pages : Pages) (reached : List Bool) (n : ℕ) (is : Bool)
    → is ≡ get_or reached n false → is ≡ true
    → (false ≡ true) ↔ IsUnreached size pages reached n
reached_none size pages reached n is told yes_ = (
  λ other. absurd cc,
  λ orphan. absurd (let same = sym yes_ ∙ (told ∙ orphan.1) in cc),
)

-- one that is not is one exactly where its bit is set
pub used_one : (size : ℕ) (pages : Pages) (reached : List Bool) (n : ℕ) (is : Bool)
    (test : Result (Unit {0}) Damaged) → is ≡ get_or reached n false → is ≡ false
    → test ≡ verdict (numbered n) (bit_checks size pages n) → test ≡ Ok tt
    → (true ≡ true) ↔ IsUnreached size pages reached n
used_one size pages reached n is test told other bit passed = (
  λ same. (used_by_bit size pages n test bit passed, sym told ∙ other),
  λ orphan. refl,
)

pub unused_none : (size : ℕ) (pages : Pages) (reached : List Bool) (n : ℕ)
    (test : Result (Unit {0}) Damaged) (damage : Damaged)
    → test ≡ verdict (numbered n) (bit_checks size pages n) → test ≡ Err damage
    → (false ≡ true) ↔ IsUnreached size pages reached n
unused_none size pages reached n test damage bit failed = (
  λ other. absurd cc,
  λ orphan. absurd (let passed = bit_by_used size pages n test bit orphan.0 in cc),
)

-- ---- the list

-- a page that is none
pub adds_none : (size : ℕ) (pages : Pages) (reached : List Bool) (n : ℕ) (fs : List Finding)
    → (IsUnreached size pages reached n → ⊥)
    → Adds fs fs (IsPageFinding size pages reached n)
adds_none size pages reached n fs other f = (
  λ has. inl has,
  λ has. elim has [ inl old ↦ old | inr found ↦ absurd (other found.0) ],
)

-- one that is one
pub adds_pushed : (size : ℕ) (pages : Pages) (reached : List Bool) (n : ℕ) (old new : List Finding)
    (g : Finding) → IsUnreached size pages reached n → new ≡ old ++ g ∷ [] → g ≡ orphan_finding n
    → Adds old new (IsPageFinding size pages reached n)
adds_pushed size pages reached n old new g orphan pushed is f = (
  λ has. elim ((has_append old (g ∷ []) f).0 (subst (λ (fs : List Finding). Has fs f) pushed has)) [
    | inl there ↦ inl there
    | inr here ↦ elim here [
      | inl same ↦ inr (orphan, same ∙ is)
      | inr none ↦ absurd none
    ]
  ],
  λ has. subst (λ (fs : List Finding). Has fs f) (sym pushed) ((has_append old (g ∷ []) f).1 (elim has [
    | inl there ↦ inl there
    | inr found ↦ inr (inl (found.1 ∙ sym is))
  ])),
)

-- one number more
pub below_more : (size : ℕ) (pages : Pages) (reached : List Bool) (n : ℕ) (old new : List Finding)
    → ((f : Finding) → Has old f ↔ IsOrphanBelow size pages reached n f)
    → Adds old new (IsPageFinding size pages reached n) → (f : Finding)
    → Has new f ↔ IsOrphanBelow size pages reached (n + 1) f
below_more size pages reached n old new before adds f = (
  λ has. elim ((adds f).0 has) [
    | inl there ↦ let found = (before f).0 there in
        (found.0, omega (arith, found.1), found.2)
    | inr here ↦ (n, omega arith, here)
  ],
  λ found. (adds f).1 (at found (cases_lt found.0 n)),
)
  where
    last : (k : ℕ) → k < n + 1 → n ≤ k → k ≡ n
    last k below past = omega arith

    at : (found : IsOrphanBelow size pages reached (n + 1) f) → (found.0 < n) ⊎ (n ≤ found.0)
        → Has old f ⊎ IsPageFinding size pages reached n f
    at found (inl less) = inl ((before f).1 (found.0, less, found.2))
    at found (inr past) = inr
        (subst (λ (k : ℕ). IsPageFinding size pages reached k f) (last found.0 found.1 past) found.2)

pub none_below : (size : ℕ) (pages : Pages) (reached : List Bool) (f : Finding)
    → Has [] f ↔ IsOrphanBelow size pages reached 0 f
none_below size pages reached f = (
  λ has. absurd has,
  λ found. absurd (omega (arith, found.1)),
)

-- those below the limit are all
pub all_below : (size : ℕ) (pages : Pages) (reached : List Bool) (count limit : ℕ)
    (fs : List Finding) → count ≤ limit → limit ≤ count
    → ((f : Finding) → Has fs f ↔ IsOrphanBelow size pages reached count f) → (f : Finding)
    → Has fs f ↔ IsOrphanBelow size pages reached limit f
all_below size pages reached count limit fs most least same f =
    subst (λ (k : ℕ). Has fs f ↔ IsOrphanBelow size pages reached k f) (equal count limit most least) (same f)
  where
    equal : (a b : ℕ) → a ≤ b → b ≤ a → a ≡ b
    equal a b most least = omega arith

-- one that is found is found of all
pub cause_of : (size : ℕ) (pages : Pages) (reached : List Bool) (n limit : ℕ) → n < limit
    → IsUnreached size pages reached n → HasNone (IsOrphanBelow size pages reached limit) → ⊥
cause_of size pages reached n limit below orphan none =
    none (orphan_finding n) (n, below, (orphan, refl))
