-- What holds of each number below one, and of that one.
use Rattle.std.proofs.Common.{◌≡◌, ◌+◌, ◌<◌, ◌≤◌, ◌⊎◌, inl, inr, ℕ, arith, subst}
use Rattle.std.proofs.lemmas.Bool.{cases_lt}

pub each_more : (P : ℕ → Type 0) (count : ℕ) → ((k : ℕ) → k < count → P k) → P count
    → (k : ℕ) → k < count + 1 → P k
each_more P count each here k below = found (cases_lt k count)
  where
    last : (k count : ℕ) → k < count + 1 → count ≤ k → count ≡ k
    last k count below past = omega arith

    found : (k < count) ⊎ (count ≤ k) → P k
    found (inl less) = each k less
    found (inr past) = subst P (last k count below past) here
