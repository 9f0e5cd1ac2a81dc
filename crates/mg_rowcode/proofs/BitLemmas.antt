-- Bits as bytes, eight at a time.
use Rattle.std.proofs.Common.{◌≡◌, ℕ, zero, suc, ◌^◌, ◌<◌, ◌≤◌, Bool, true, false, List, [], ◌∷◌, ◌++◌, length, map, take, drop, min, eqb, append_assoc, refl, sym, ap, ◌∙◌, arith}
use Rattle.std.proofs.lemmas.Bool.{eqb-false}
use Rattle.std.proofs.Math.Nat.{pow-succ'}
use Rattle.std.proofs.lemmas.List.{take-map, drop-map, take_min, drop_min, length-map}
use Rattle.mg_value.specs.declared.value.Value.{Value}
use Rattle.mg_value.specs.Rows.{number_of_bits, bytes_of_bits, is_null}

-- so many bits are a number below that power of two
pub bits_bound : (k : ℕ) (bits : List Bool) → length bits ≤ k → number_of_bits bits < 2 ^ k
bits_bound zero [] le = omega arith
bits_bound zero (bit ∷ bits) le = absurd (omega arith)
bits_bound (suc k) [] le =
    let more : number_of_bits [] < 2 ^ k = bits_bound k [] (omega arith) in
    omega (arith, pow-succ' 2 k)
bits_bound (suc k) (true ∷ bits) le =
    let more : number_of_bits bits < 2 ^ k = bits_bound k bits (omega arith) in
    omega (arith, pow-succ' 2 k)
bits_bound (suc k) (false ∷ bits) le =
    let more : number_of_bits bits < 2 ^ k = bits_bound k bits (omega arith) in
    omega (arith, pow-succ' 2 k)

-- seven bits leave room for one more in a byte
pub seven_bits : (bits : List Bool) → length bits ≤ 7 → number_of_bits bits < 128
seven_bits bits le = bits_bound 7 bits le

-- the first eight bits are the first byte
pub first_byte : (bits : List Bool) → 0 < length bits → bytes_of_bits bits ≡ number_of_bits (take 8 bits) ∷ bytes_of_bits (drop 8 bits)
first_byte [] some = absurd (omega arith)
first_byte (a ∷ []) some = refl
first_byte (a ∷ b ∷ []) some = refl
first_byte (a ∷ b ∷ c ∷ []) some = refl
first_byte (a ∷ b ∷ c ∷ d ∷ []) some = refl
first_byte (a ∷ b ∷ c ∷ d ∷ e ∷ []) some = refl
first_byte (a ∷ b ∷ c ∷ d ∷ e ∷ f ∷ []) some = refl
first_byte (a ∷ b ∷ c ∷ d ∷ e ∷ f ∷ g ∷ []) some = refl
first_byte (a ∷ b ∷ c ∷ d ∷ e ∷ f ∷ g ∷ h ∷ bits) some = refl

-- the bits of values, where the first eight of them, or all, are taken
pub nulls_more : (values eight later : List Value) (n : ℕ) → 0 < length values → n ≡ min 8 (length values) → eight ≡ take n values → later ≡ drop n values
    → bytes_of_bits (map is_null values) ≡ number_of_bits (map is_null eight) ∷ bytes_of_bits (map is_null later)
nulls_more values eight later n some is front back =
    let eight_is : eight ≡ take 8 values = front ∙ ap (λ (m : ℕ). take m values) is ∙ take_min 8 values in
    let later_is : later ≡ drop 8 values = back ∙ ap (λ (m : ℕ). drop m values) is ∙ drop_min 8 values in
    let first : number_of_bits (map is_null eight) ≡ number_of_bits (take 8 (map is_null values)) = ap (λ (vs : List Value). number_of_bits (map is_null vs)) eight_is ∙ ap number_of_bits (sym (take-map is_null 8 values)) in
    let rest : bytes_of_bits (map is_null later) ≡ bytes_of_bits (drop 8 (map is_null values)) = ap (λ (vs : List Value). bytes_of_bits (map is_null vs)) later_is ∙ ap bytes_of_bits (sym (drop-map is_null 8 values)) in
    let whole : bytes_of_bits (map is_null values) ≡ number_of_bits (take 8 (map is_null values)) ∷ bytes_of_bits (drop 8 (map is_null values)) = first_byte (map is_null values) (omega (arith, length-map values is_null)) in
    cc

pub rest_below : (rest : List Value) → length rest ≤ 7 → number_of_bits (map is_null rest) < 128
rest_below rest le = seven_bits (map is_null rest) (omega (arith, length-map rest is_null))

pub some_left : (n : ℕ) (empty : Bool) → empty ≡ eqb n 0 → empty ≡ false → 0 < n
some_left n empty is some =
    let not : n ≡ 0 → ⊥ = eqb-false n 0 (sym is ∙ some) in
    grind arith

pub nulls_step : (out new total : List ℕ) (values eight later : List Value) (n byte : ℕ) → out ++ bytes_of_bits (map is_null values) ≡ total → 0 < length values → n ≡ min 8 (length values) → eight ≡ take n values → later ≡ drop n values
    → byte ≡ number_of_bits (map is_null eight) → new ≡ out ++ byte ∷ [] → new ++ bytes_of_bits (map is_null later) ≡ total
nulls_step out new total values eight later n byte so_far some is front back byte_is new_is =
    let more : bytes_of_bits (map is_null values) ≡ number_of_bits (map is_null eight) ∷ bytes_of_bits (map is_null later) = nulls_more values eight later n some is front back in
    ap (λ (t : List ℕ). t ++ bytes_of_bits (map is_null later)) new_is
    ∙ append_assoc out (byte ∷ []) (bytes_of_bits (map is_null later))
    ∙ ap (λ (b : ℕ). out ++ b ∷ bytes_of_bits (map is_null later)) byte_is
    ∙ ap (λ (t : List ℕ). out ++ t) (sym more)
    ∙ so_far
