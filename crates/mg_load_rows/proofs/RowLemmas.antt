-- Keys differ, and rows are counted one after another.
use Rattle.std.specs.Prelude.{◌≡◌, ◌<◌, ◌≤◌, ◌+◌, ◌*◌, ◌==◌, ℕ, zero, suc, Bool, true, false, if◌then◌else◌}
use Rattle.std.proofs.Common.{arith, add-one, refl, subst, ◌∙◌}
use Rattle.std.proofs.lemmas.Nat.{div-add-mod', mod_below}
use Rattle.mg_load_rows.specs.LoadRows.{KeyLaw, group_in, is_seven, sevens_below, sum_below}
use Rattle.mg_load_rows.specs.declared.row.TheConstants.{GROUPS, KEYS, STEP}

-- 40503 is odd: two products that leave the same rest are of numbers that differ by a multiple of 131072
pub key_law : KeyLaw
key_law i j below under same =
    let one = div-add-mod' (i * STEP) KEYS in
    let other = div-add-mod' (j * STEP) KEYS in
    omega (arith, below, under, same, one, other)

equal : (a b : ℕ) → a ≤ b → b ≤ a → a ≡ b
equal a b most least = omega arith

-- ---- sums

pub sum_more : (n sum group : ℕ) → sum ≡ sum_below n → group ≡ group_in (n + 1)
    → sum + group ≡ sum_below (n + 1)
sum_more n sum group before here = rw (add-one n) (omega (arith, before, here))

pub sum_few : (n : ℕ) → sum_below n ≤ 99 * n
sum_few zero = omega arith
sum_few (suc n) =
    let before = sum_few n in
    let here = mod_below (n + 1) GROUPS (omega arith) in omega (arith, before, here)

pub sum_all : (n rows sum : ℕ) → n ≤ rows → rows ≤ n → sum ≡ sum_below n → sum ≡ sum_below rows
sum_all n rows sum most least is =
    subst (λ (k : ℕ). sum ≡ sum_below k) (equal n rows most least) is

pub sevens_more : (n sevens one : ℕ) → sevens ≡ sevens_below n → one ≡ is_seven (n + 1)
    → sevens + one ≡ sevens_below (n + 1)
sevens_more n sevens one before here = rw (add-one n) (omega (arith, before, here))

pub sevens_few : (n : ℕ) → sevens_below n ≤ n
sevens_few zero = omega arith
sevens_few (suc n) =
    let before = sevens_few n in
    let here = one (group_in (n + 1) == 7) in omega (arith, before, here)
  where
    one : (test : Bool) → (if test then 1 else 0) ≤ 1
    one true = omega arith
    one false = omega arith

pub sevens_all : (n rows sevens : ℕ) → n ≤ rows → rows ≤ n → sevens ≡ sevens_below n
    → sevens ≡ sevens_below rows
sevens_all n rows sevens most least is =
    subst (λ (k : ℕ). sevens ≡ sevens_below k) (equal n rows most least) is
