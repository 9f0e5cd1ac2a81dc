-- Intervals that lie in a range and don't meet are together no longer than the range.
use Rattle.std.proofs.Common.{◌≡◌, ℕ, zero, suc, ◌+◌, ◌-◌, ◌<◌, ◌≤◌, min, ◌⊎◌, inl, inr, refl, arith, add-one}
use Rattle.std.proofs.lemmas.Bool.{cases_lt}

-- how much of the first n intervals lies below x
abbrev pub part_below : (ℕ → ℕ) → (ℕ → ℕ) → ℕ → ℕ → ℕ
part_below lo size zero x = 0
part_below lo size (suc n) x = part_below lo size n x + min (x - lo n) (size n)

-- how long the first n intervals are together
abbrev pub sum_below : (ℕ → ℕ) → ℕ → ℕ
sum_below size zero = 0
sum_below size (suc n) = sum_below size n + size n

pub record AreApart (lo size : ℕ → ℕ) (n bottom top : ℕ) : Type 0 where
  pub above : (s : ℕ) → s < n → 0 < size s → bottom ≤ lo s
  pub within : (s : ℕ) → s < n → lo s + size s ≤ top
  pub apart : (s t : ℕ) → s < t → t < n → lo t < lo s + size s → lo t + size t ≤ lo s

-- one of the first n intervals has the number x, and no other one has
record HasOne (lo size : ℕ → ℕ) (n x : ℕ) : Type 0 where
  pub at : ℕ
  pub below : at < n
  pub from : lo at ≤ x
  pub to : x < lo at + size at
  pub more : part_below lo size n (x + 1) ≡ part_below lo size n x + 1

part_step : (lo size : ℕ → ℕ) (n x : ℕ) → ((s t : ℕ) → s < t → t < n → lo t < lo s + size s
    → lo t + size t ≤ lo s)
    → (part_below lo size n (x + 1) ≡ part_below lo size n x) ⊎ HasOne lo size n x
part_step lo size zero x apart = inl refl
part_step lo size (suc n) x apart = at (part_step lo size n x (λ s t lt in_n. apart s t lt
    (omega arith))) (cases_lt x (lo n)) (cases_lt x (lo n + size n))
  where
    at : (part_below lo size n (x + 1) ≡ part_below lo size n x) ⊎ HasOne lo size n x
        → (x < lo n) ⊎ (lo n ≤ x) → (x < lo n + size n) ⊎ (lo n + size n ≤ x)
        → (part_below lo size n (x + 1) + min (x + 1 - lo n)
        (size n) ≡ part_below lo size n x + min (x - lo n) (size n)) ⊎ HasOne lo size (suc n) x
    at (inl same) (inl before) within = inl (omega arith)
    at (inl same) (inr from) (inl to) = inr (record {
      at = n;
      below = omega arith;
      from =
          from;
      to = to;
      more = omega arith;
    })
    at (inl same) (inr from) (inr past) = inl (omega arith)
    at (inr one) (inl before) within = inr (record {
      at = one.at;
      below = omega arith;
      from =
          one.from;
      to = one.to;
      more = omega arith;
    })
    at (inr one) (inr from) (inl to) = absurd (omega (
      arith,
      apart one.at n one.below
          (omega arith),
    ))
    at (inr one) (inr from) (inr past) = inr (record {
      at = one.at;
      below = omega arith;
      from =
          one.from;
      to = one.to;
      more = omega arith;
    })

part_zero : (lo size : ℕ → ℕ) (n : ℕ) → part_below lo size n 0 ≡ 0
part_zero lo size zero = refl
part_zero lo size (suc n) = omega (arith, part_zero lo size n)

part_bound : (lo size : ℕ → ℕ) (n bottom top x : ℕ) → AreApart lo size n bottom top
    → part_below lo size n x ≤ x - bottom
part_bound lo size n bottom top zero a = rw (part_zero lo size n) (omega arith)
part_bound lo size n bottom top (suc x) a = rw (← add-one x) (at (part_step lo size n x a.apart)
    (part_bound lo size n bottom top x a))
  where
    at : (part_below lo size n (x + 1) ≡ part_below lo size n x) ⊎ HasOne lo size n x
        → part_below lo size n x ≤ x - bottom → part_below lo size n (x + 1) ≤ x + 1 - bottom
    at (inl same) ih = omega arith
    at (inr one) ih =
        let long : 0 < size one.at = omega (arith, one.from, one.to) in
        let from_bottom : bottom ≤ lo one.at = a.above one.at one.below long in
        omega (arith, one.from, one.more)

part_whole : (lo size : ℕ → ℕ) (n top : ℕ) → ((s : ℕ) → s < n → lo s + size s ≤ top)
    → part_below lo size n top ≡ sum_below size n
part_whole lo size zero top within = refl
part_whole lo size (suc n) top within =
    let here : lo n + size n ≤ top = within n (omega arith) in
    let rest : part_below lo size n top ≡ sum_below size n =
    part_whole lo size n top (λ s lt. within s (omega arith)) in
    omega arith

pub sum_bound : (lo size : ℕ → ℕ) (n bottom top : ℕ) → AreApart lo size n bottom top
    → sum_below size n ≤ top - bottom
sum_bound lo size n bottom top a = rw (← part_whole lo size n top a.within)
    (part_bound lo size n bottom top top a)
