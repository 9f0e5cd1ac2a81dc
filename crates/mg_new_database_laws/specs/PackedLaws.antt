-- A packed text has bytes where the plain one has, and is at most twice as long.
use Rattle.std.proofs.Common.{◌≡◌, ◌≢◌, ◌<◌, ◌≤◌, ◌+◌, ◌*◌, ◌&&◌, ℕ, zero, suc, Bool, true, List, [], ◌∷◌, ◌++◌, length, refl, sym, ap, subst, arith, lit<, nat_lt}
use Rattle.std.specs.Prelude.{replicate}
use Rattle.std.proofs.lemmas.Bool.{and_parts, ltb-true}
use Rattle.std.proofs.lemmas.List.{length-append, length-replicate}
use Rattle.mg_base.specs.Fields.{byte}
use Rattle.mg_rle.specs.Runs.{AreInOrder, IsSized, Literal, Repeat, Run, StandsFor, bytes_of_run, packed_text, plain_of_run, plain_text}
use Rattle.mg_version.specs.Cells.{AreBytes}

-- each number is that of a byte
abbrev pub AreSmall : List ℕ → Type 0
AreSmall [] = Unit {0}
AreSmall (x ∷ xs) = (x < 256) × AreSmall xs

pub small_bytes : (xs : List ℕ) → AreSmall xs → AreBytes xs
small_bytes [] small i = lit< tt
small_bytes (x ∷ xs) (first, rest) zero = first
small_bytes (x ∷ xs) (first, rest) (suc i) = small_bytes xs rest i

small_append : (xs ys : List ℕ) → AreSmall xs → AreSmall ys → AreSmall (xs ++ ys)
small_append [] ys small also = also
small_append (x ∷ xs) ys (first, rest) also = (first, small_append xs ys rest also)

small_front : (xs ys : List ℕ) → AreSmall (xs ++ ys) → AreSmall xs
small_front [] ys small = tt
small_front (x ∷ xs) ys (first, rest) = (first, small_front xs ys rest)

small_rest : (xs ys : List ℕ) → AreSmall (xs ++ ys) → AreSmall ys
small_rest [] ys small = small
small_rest (x ∷ xs) ys (first, rest) = small_rest xs ys rest

-- whether they are, for bytes that are known
abbrev pub all_small : List ℕ → Bool
all_small [] = true
all_small (x ∷ xs) = nat_lt x 256 && all_small xs

pub small_from : (xs : List ℕ) → all_small xs ≡ true → AreSmall xs
small_from [] is = tt
small_from (x ∷ xs) is =
    let parts = and_parts (nat_lt x 256) (all_small xs) is in
    (ltb-true x 256 parts.0, small_from xs parts.1)

small_repeated : (count x : ℕ) → 1 ≤ count → AreSmall (replicate count x) → x < 256
small_repeated zero x some small = absurd (omega (arith, some))
small_repeated (suc count) x some small = small.0

-- ---- one run

small_run : (run : Run) → IsSized run → AreSmall (plain_of_run run) → AreSmall (bytes_of_run run)
small_run (Literal bytes) sized small = (omega (arith, sized.1), small)
small_run (Repeat count x) sized small =
    (omega (arith, sized.0), (small_repeated count x (omega (arith, sized.0)) small, tt))

few_of_run : (run : Run) → IsSized run → length (bytes_of_run run) ≤ 2 * length (plain_of_run run)
few_of_run (Literal bytes) sized = let some = sized.0 in omega (arith, some)
few_of_run (Repeat count x) sized =
    let some = sized.0 in let long : length (replicate count x) ≡ count = length-replicate count x in
    omega (arith, some, long)

some_of_run : (run : Run) → IsSized run → 2 ≤ length (bytes_of_run run)
some_of_run (Literal bytes) sized = let some = sized.0 in omega (arith, some)
some_of_run (Repeat count x) sized = omega arith

-- ---- all

small_packed : (runs : List Run) → AreInOrder runs → AreSmall (plain_text runs) → AreSmall (packed_text runs)
small_packed [] order small = tt
small_packed (run ∷ later) (sized, may, rest) small =
    small_append (bytes_of_run run) (packed_text later)
    (small_run run sized (small_front (plain_of_run run) (plain_text later) small))
    (small_packed later rest (small_rest (plain_of_run run) (plain_text later) small))

few_packed : (runs : List Run) → AreInOrder runs → length (packed_text runs) ≤ 2 * length (plain_text runs)
few_packed [] order = omega arith
few_packed (run ∷ later) (sized, may, rest) =
    let first = few_of_run run sized in let others = few_packed later rest in
    let long : length (bytes_of_run run ++ packed_text later) ≡ length (bytes_of_run run) + length (packed_text later) =
    length-append (bytes_of_run run) (packed_text later) in
    let plain : length (plain_of_run run ++ plain_text later) ≡ length (plain_of_run run) + length (plain_text later) =
    length-append (plain_of_run run) (plain_text later) in
    omega (arith, first, others, long, plain)

-- one of two different bytes has three bytes at least
three_repeated : (count x : ℕ) → 2 ≤ length (replicate count x ++ [])
    → byte (replicate count x ++ []) 0 ≢ byte (replicate count x ++ []) 1 → ⊥
three_repeated zero x some differ = absurd (omega (arith, some))
three_repeated (suc zero) x some differ = absurd (omega (arith, some))
three_repeated (suc (suc count)) x some differ = differ refl

three_packed : (runs : List Run) → AreInOrder runs → 2 ≤ length (plain_text runs)
    → byte (plain_text runs) 0 ≢ byte (plain_text runs) 1 → 3 ≤ length (packed_text runs)
three_packed [] order some differ = absurd (omega (arith, some))
three_packed (Literal bytes ∷ []) order some differ =
    let plain : length (bytes ++ []) ≡ length bytes + 0 = length-append bytes [] in omega (arith, plain, some)
three_packed (Repeat count x ∷ []) order some differ = absurd (three_repeated count x some differ)
three_packed (run ∷ next ∷ later) (sized, may, (other, can, rest)) some differ =
    let first = some_of_run run sized in let second = some_of_run next other in
    let long : length (bytes_of_run run ++ packed_text (next ∷ later))
    ≡ length (bytes_of_run run) + length (packed_text (next ∷ later)) =
    length-append (bytes_of_run run) (packed_text (next ∷ later)) in
    let behind : length (bytes_of_run next ++ packed_text later)
    ≡ length (bytes_of_run next) + length (packed_text later) =
    length-append (bytes_of_run next) (packed_text later) in
    omega (arith, first, second, long, behind)

-- What a packed text of a plain one has.
pub record IsBody (plain body : List ℕ) : Type 0 where
  pub bytes : AreBytes body
  pub least : 3 ≤ length body
  pub most : length body ≤ 2 * length plain

pub body_is : (plain body : List ℕ) → StandsFor body plain → AreSmall plain → 2 ≤ length plain
    → byte plain 0 ≢ byte plain 1 → IsBody plain body
body_is plain body stands small some differ = record {
  bytes = subst AreBytes (sym stands.spelled) (small_bytes (packed_text stands.runs)
      (small_packed stands.runs order (subst AreSmall stands.means small)));
  least = let its = three_packed stands.runs order (subst (λ (p : List ℕ). 2 ≤ length p) stands.means some)
      (subst (λ (p : List ℕ). byte p 0 ≢ byte p 1) stands.means differ) in
      subst (λ (p : List ℕ). 3 ≤ length p) (sym stands.spelled) its;
  most = let its : length (packed_text stands.runs) ≤ 2 * length (plain_text stands.runs) =
      few_packed stands.runs order in
      let long : length body ≡ length (packed_text stands.runs) = ap length stands.spelled in
      let plain_long : length plain ≡ length (plain_text stands.runs) = ap length stands.means in
      omega (arith, its, long, plain_long);
}
  where
    order : AreInOrder stands.runs
    order = stands.accepted.in_order
