-- Lemmas on data pages as they are tested.
use Rattle.std.proofs.Common.{subst, suc, zero, [], ◌∷◌, ◌≡◌, ◌+◌, ◌<◌, ◌≤◌, ◌^◌, ℕ, ap, List, length, take, get_or, Some, arith, length-take-le}
use Rattle.std.proofs.lemmas.List.{take_more}
use Rattle.mg_slots.specs.DataPage.{IsDataPage, cell_of, taken_by}
use Rattle.mg_slots.specs.DataPageLaws.{taken_by_fits}
use Rattle.mg_reading.specs.ChainLaws.{each_push}
use Rattle.mg_image.specs.Tables.{EachFrom}

-- a cell is short
pub cell_short : (b : List ℕ) (slot : ℕ) (bytes : List ℕ) → IsDataPage b
    → cell_of b slot ≡ Some bytes → length bytes < 2 ^ 30
cell_short b slot bytes page is =
    let fits : taken_by (cell_of b slot) ≤ length b = taken_by_fits b slot page in
    let same : taken_by (cell_of b slot) ≡ taken_by (Some bytes) = ap taken_by is in
    let most : length b ≤ 16384 = page.greatest_size in
    omega arith

-- one element more of a list has the property
pub each_take : (P : ℕ → ℕ → Type 0) (ns : List ℕ) (i : ℕ) → i < length ns
    → EachFrom P 0 (take i ns) → P i (get_or ns i 0) → EachFrom P 0 (take (i + 1) ns)
each_take P ns i below each here =
    rw (take_more ns i 0 below) (each_push P 0 (take i ns) (get_or ns i 0) each (rw place here))
  where
    place : 0 + length (take i ns) ≡ i
    place = omega (arith, length-take-le i ns (omega arith))

-- each element of a list has the property at its place
each_there_from : (P : ℕ → ℕ → Type 0) (at : ℕ) (ns : List ℕ) (i : ℕ) → i < length ns
    → EachFrom P at ns → P (at + i) (get_or ns i 0)
each_there_from P at [] i below each = absurd (omega arith)
each_there_from P at (n ∷ ns) zero below each = rw (same at) each.0
  where
    same : (at : ℕ) → at + 0 ≡ at
    same at = omega arith
each_there_from P at (n ∷ ns) (suc i) below each =
    rw (further at i) (each_there_from P (suc at) ns i (omega arith) each.1)
  where
    further : (at k : ℕ) → at + suc k ≡ suc at + k
    further at k = omega arith

pub each_there : (P : ℕ → ℕ → Type 0) (ns : List ℕ) (i : ℕ) → i < length ns → EachFrom P 0 ns
    → P i (get_or ns i 0)
each_there P ns i below each = subst (λ (k : ℕ). P k (get_or ns i 0)) (from_zero i)
    (each_there_from P 0 ns i below each)
  where
    from_zero : (i : ℕ) → 0 + i ≡ i
    from_zero i = omega arith
