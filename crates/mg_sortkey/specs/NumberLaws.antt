-- Laws of the key bytes of numbers: they order as the numbers.
use Rattle.std.specs.Prelude.{◌≡◌, ◌≢◌, ℕ, ◌+◌, ◌/◌, ◌%◌, ◌^◌, ◌<◌, ◌≤◌, ◌⊎◌, ℤ, pos, negsuc, ◌<ℤ◌, FitsSigned}
use Rattle.std.specs.Int.{w64, cast_unsigned, to_be_bytes, bytes_high_first}
use Rattle.std.specs.Ordering.{nat_cmp, int_cmp, ordering_then}
use Rattle.std.specs.Cmp.Lexicographic.{slice_cmp}
use Rattle.std.specs.declared.cmp.Ordering.{Ordering}
use Rattle.std.specs.declared.cmp.Ordering.TheVariants.{Less, Equal, Greater}
use Rattle.std.proofs.Common.{refl, sym, ap, ◌∙◌, arith, inl, inr, lit<}
use Rattle.std.proofs.lemmas.Int.{ints}
use Rattle.std.proofs.lemmas.Nat.{mod_below}
use Rattle.std.proofs.lemmas.Bool.{cases_eq, cases_lt}
use Rattle.std.proofs.lemmas.Cmp.{ranked, int_ranked}

-- The order of two numbers.

pub nat_less : (m n : ℕ) → m < n → nat_cmp m n ≡ Less
nat_less m n below = by (nat_cmp m n) refl
  where
    by : (o : Ordering) → nat_cmp m n ≡ o → nat_cmp m n ≡ Less
    by Less is = is
    by Equal is = let r = ranked m n Equal (sym is) in absurd (omega arith)
    by Greater is = let r = ranked m n Greater (sym is) in absurd (omega arith)

nat_equal : (m n : ℕ) → m ≡ n → nat_cmp m n ≡ Equal
nat_equal m n same = by (nat_cmp m n) refl
  where
    by : (o : Ordering) → nat_cmp m n ≡ o → nat_cmp m n ≡ Equal
    by Less is = let r = ranked m n Less (sym is) in absurd (omega arith)
    by Equal is = is
    by Greater is = let r = ranked m n Greater (sym is) in absurd (omega arith)

pub nat_greater : (m n : ℕ) → n < m → nat_cmp m n ≡ Greater
nat_greater m n above = by (nat_cmp m n) refl
  where
    by : (o : Ordering) → nat_cmp m n ≡ o → nat_cmp m n ≡ Greater
    by Less is = let r = ranked m n Less (sym is) in absurd (omega arith)
    by Equal is = let r = ranked m n Equal (sym is) in absurd (omega arith)
    by Greater is = is

-- two pairs of numbers that stand alike have one order
same_order : (m n x y : ℕ) → (m < n → x < y) → (m ≡ n → x ≡ y) → (n < m → y < x)
    → nat_cmp m n ≡ nat_cmp x y
same_order m n x y less equal greater = by (cases_lt m n) (cases_eq m n)
  where
    by : (m < n) ⊎ (n ≤ m) → (m ≡ n) ⊎ (m ≢ n) → nat_cmp m n ≡ nat_cmp x y
    by (inl below) other = nat_less m n below ∙ sym (nat_less x y (less below))
    by (inr up) (inl same) = nat_equal m n same ∙ sym (nat_equal x y (equal same))
    by (inr up) (inr apart) =
        let above : n < m = omega arith in
        nat_greater m n above ∙ sym (nat_greater x y (greater above))

-- Bytes of a number, the highest first.

-- the highest byte decides, and where it is the same the rest
digit : (a b x y : ℕ) (rest : Ordering) → a / 256 ≡ b / 256 → (a ≡ b → rest ≡ nat_cmp x y)
    → (a < b → x < y) → (b < a → y < x)
    → ordering_then (nat_cmp (a % 256) (b % 256)) rest ≡ nat_cmp x y
digit a b x y rest high same less greater = by (cases_lt a b) (cases_eq a b)
  where
    by : (a < b) ⊎ (b ≤ a) → (a ≡ b) ⊎ (a ≢ b)
        → ordering_then (nat_cmp (a % 256) (b % 256)) rest ≡ nat_cmp x y
    by (inl below) other =
        rw (nat_less (a % 256) (b % 256) (omega arith), nat_less x y (less below)) refl
    by (inr up) (inl equal) =
        let bytes : a % 256 ≡ b % 256 = ap (λ n. n % 256) equal in
        rw (nat_equal (a % 256) (b % 256) bytes) (same equal)
    by (inr up) (inr apart) =
        let above : b < a = omega arith in
        rw (nat_greater (a % 256) (b % 256) (omega arith), nat_greater x y (greater above)) refl

bytes_1 : (m n : ℕ) → m / 256 ≡ n / 256
    → slice_cmp nat_cmp (bytes_high_first 1 m) (bytes_high_first 1 n) ≡ nat_cmp m n
bytes_1 m n high = digit m n m n Equal high (λ same. sym (nat_equal m n same)) (λ h. h) (λ h. h)

bytes_2 : (m n : ℕ) → m / 256 ^ 2 ≡ n / 256 ^ 2
    → slice_cmp nat_cmp (bytes_high_first 2 m) (bytes_high_first 2 n) ≡ nat_cmp m n
bytes_2 m n high = digit (m / 256) (n / 256) m n _ (omega arith) (λ same. bytes_1 m n same)
    (λ h. omega arith) (λ h. omega arith)

bytes_3 : (m n : ℕ) → m / 256 ^ 3 ≡ n / 256 ^ 3
    → slice_cmp nat_cmp (bytes_high_first 3 m) (bytes_high_first 3 n) ≡ nat_cmp m n
bytes_3 m n high = digit (m / 256 ^ 2) (n / 256 ^ 2) m n _ (omega arith)
    (λ same. bytes_2 m n same) (λ h. omega arith) (λ h. omega arith)

bytes_4 : (m n : ℕ) → m / 256 ^ 4 ≡ n / 256 ^ 4
    → slice_cmp nat_cmp (bytes_high_first 4 m) (bytes_high_first 4 n) ≡ nat_cmp m n
bytes_4 m n high = digit (m / 256 ^ 3) (n / 256 ^ 3) m n _ (omega arith)
    (λ same. bytes_3 m n same) (λ h. omega arith) (λ h. omega arith)

bytes_5 : (m n : ℕ) → m / 256 ^ 5 ≡ n / 256 ^ 5
    → slice_cmp nat_cmp (bytes_high_first 5 m) (bytes_high_first 5 n) ≡ nat_cmp m n
bytes_5 m n high = digit (m / 256 ^ 4) (n / 256 ^ 4) m n _ (omega arith)
    (λ same. bytes_4 m n same) (λ h. omega arith) (λ h. omega arith)

bytes_6 : (m n : ℕ) → m / 256 ^ 6 ≡ n / 256 ^ 6
    → slice_cmp nat_cmp (bytes_high_first 6 m) (bytes_high_first 6 n) ≡ nat_cmp m n
bytes_6 m n high = digit (m / 256 ^ 5) (n / 256 ^ 5) m n _ (omega arith)
    (λ same. bytes_5 m n same) (λ h. omega arith) (λ h. omega arith)

bytes_7 : (m n : ℕ) → m / 256 ^ 7 ≡ n / 256 ^ 7
    → slice_cmp nat_cmp (bytes_high_first 7 m) (bytes_high_first 7 n) ≡ nat_cmp m n
bytes_7 m n high = digit (m / 256 ^ 6) (n / 256 ^ 6) m n _ (omega arith)
    (λ same. bytes_6 m n same) (λ h. omega arith) (λ h. omega arith)

bytes_8 : (m n : ℕ) → m < 2 ^ 64 → n < 2 ^ 64
    → slice_cmp nat_cmp (bytes_high_first 8 m) (bytes_high_first 8 n) ≡ nat_cmp m n
bytes_8 m n small also = digit (m / 256 ^ 7) (n / 256 ^ 7) m n _ (omega arith)
    (λ same. bytes_7 m n same) (λ h. omega arith) (λ h. omega arith)

-- Numbers with their sign bit turned over.

abbrev pub turned : ℤ → ℕ
turned z = (cast_unsigned w64 z + 2 ^ 63) % 2 ^ 64

turned_less : (a b : ℤ) → FitsSigned w64 a → FitsSigned w64 b → a <ℤ b → turned a < turned b
turned_less (pos m) (pos n) fits also less =
    let f = fits.sfits in let g = also.sfits in omega (arith, ints)
turned_less (pos m) (negsuc n) fits also less =
    let f = fits.sfits in let g = also.sfits in omega (arith, ints)
turned_less (negsuc m) (pos n) fits also less =
    let f = fits.sfits in let g = also.sfits in omega (arith, ints)
turned_less (negsuc m) (negsuc n) fits also less =
    let f = fits.sfits in let g = also.sfits in omega (arith, ints)

turned_order : (a b : ℤ) → FitsSigned w64 a → FitsSigned w64 b
    → nat_cmp (turned a) (turned b) ≡ int_cmp a b
turned_order a b fits also = by (int_cmp a b) refl
  where
    by : (o : Ordering) → int_cmp a b ≡ o → nat_cmp (turned a) (turned b) ≡ o
    by Less is = nat_less (turned a) (turned b)
        (turned_less a b fits also (int_ranked a b Less (sym is)))
    by Equal is = nat_equal (turned a) (turned b) (ap turned (int_ranked a b Equal (sym is)))
    by Greater is = nat_greater (turned a) (turned b)
        (turned_less b a also fits (int_ranked a b Greater (sym is)))

turned_small : (a : ℤ) → turned a < 2 ^ 64
turned_small a = mod_below (cast_unsigned w64 a + 2 ^ 63) (2 ^ 64) (lit< tt)

pub number_order : (a b : ℤ) → FitsSigned w64 a → FitsSigned w64 b
    → slice_cmp nat_cmp (to_be_bytes w64 (turned a)) (to_be_bytes w64 (turned b)) ≡ int_cmp a b
number_order a b fits also =
    bytes_8 (turned a) (turned b) (turned_small a) (turned_small b) ∙ turned_order a b fits also
