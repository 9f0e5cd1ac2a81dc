-- Numbers that are all told by the places below another one are no more than these.
use Rattle.std.specs.Prelude.{◌≡◌, ◌≢◌, ◌<◌, ◌≤◌, ◌⊎◌, ◌+◌, ◌-◌, ℕ, zero, suc, nat_lt, if◌then◌else◌}
use Rattle.std.proofs.Common.{refl, ap, inl, inr, arith}
use Rattle.std.proofs.lemmas.Bool.{cases_eq, cases_lt, le-ltb, lt-ltb}

-- a number is told by one of the places below another
abbrev pub IsToldBelow : (ℕ → ℕ) → ℕ → ℕ → Type 0
IsToldBelow tells most k = (n : ℕ) × (n < most) × (tells n ≡ k)

-- what is told without a number: those above it are one less
abbrev without : ℕ → ℕ → ℕ
without v k = if nat_lt v k then k - 1 else k

told_without : (tells : ℕ → ℕ) (most k v : ℕ) → v ≡ tells most → k < v
    → IsToldBelow tells (suc most) k → IsToldBelow (λ n. without v (tells n)) most k
told_without tells most k v is below told = (
  told.0,
  within (cases_eq told.0 most),
  rw (told.2, le-ltb v k (omega (arith, below))) refl,
)
  where
    within : (told.0 ≡ most) ⊎ (told.0 ≢ most) → told.0 < most
    within (inl same) =
        let here : tells told.0 ≡ tells most = ap tells same in
        absurd (omega (arith, here, is, told.2, below))
    within (inr other) = omega (arith, told.1, other)

told_above : (tells : ℕ → ℕ) (most k v : ℕ) → v ≡ tells most → v ≤ k
    → IsToldBelow tells (suc most) (k + 1) → IsToldBelow (λ n. without v (tells n)) most k
told_above tells most k v is past told = (
  told.0,
  within (cases_eq told.0 most),
  less,
)
  where
    less : without v (tells told.0) ≡ k
    less = rw (told.2, lt-ltb v (k + 1) (omega (arith, past))) (omega arith)

    within : (told.0 ≡ most) ⊎ (told.0 ≢ most) → told.0 < most
    within (inl same) =
        let here : tells told.0 ≡ tells most = ap tells same in
        absurd (omega (arith, here, is, told.2, past))
    within (inr other) = omega (arith, told.1, other)

-- a number that the last place does not tell is told by one of the others
told_kept : (tells : ℕ → ℕ) (most count k : ℕ) → count ≤ tells most → k < count
    → IsToldBelow tells (suc most) k → IsToldBelow tells most k
told_kept tells most count k past below told =
    (told.0, within (cases_eq told.0 most), told.2)
  where
    within : (told.0 ≡ most) ⊎ (told.0 ≢ most) → told.0 < most
    within (inl same) =
        let here : tells told.0 ≡ tells most = ap tells same in
        absurd (omega (arith, here, told.2, past, below))
    within (inr other) = omega (arith, told.1, other)

-- all but one of them, by all but the last place
told_others : (tells : ℕ → ℕ) (most count : ℕ) → tells most < count
    → ((k : ℕ) → k < count → IsToldBelow tells (suc most) k) → (k : ℕ) → k < count - 1
    → IsToldBelow (λ n. without (tells most) (tells n)) most k
told_others tells most count some all k below = elim (cases_lt k (tells most)) [
  | inl less ↦ told_without tells most k (tells most) refl less (all k (omega (arith, below)))
  | inr past ↦ told_above tells most k (tells most) refl past (all (k + 1) (omega (arith, below)))
]

pub places_few : (most count : ℕ) (tells : ℕ → ℕ)
    → ((k : ℕ) → k < count → IsToldBelow tells most k) → count ≤ most
places_few zero zero tells all = omega arith
places_few zero (suc count) tells all =
    let first = all 0 (omega arith) in absurd (omega (arith, first.1))
places_few (suc most) count tells all = elim (cases_lt (tells most) count) [
  | inl some ↦ (
      let few = places_few most (count - 1) (λ n. without (tells most) (tells n))
      (told_others tells most count some all) in
      omega (arith, few, some)
      )
  | inr past ↦ (
      let few = places_few most count tells (λ k below. told_kept tells most count k past below (all k below)) in
      omega (arith, few)
      )
]
