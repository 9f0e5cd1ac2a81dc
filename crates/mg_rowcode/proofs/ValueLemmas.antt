-- The value nearest to some bytes has all that they have of any value.
use Rattle.std.proofs.Common.{◌≡◌, ℕ, zero, suc, ◌+◌, ◌-◌, ◌*◌, ◌/◌, ◌%◌, ◌^◌, ◌<◌, ◌≤◌, Bool, true, false, cond, leb, List, [], ◌∷◌, ◌++◌, length, take, replicate, get_or, refl, sym, ap, ◌∙◌, arith, inl, inr}
use Rattle.std.specs.Int.{w16, w64, cast_signed, cast_unsigned, to_le_bytes, from_le_bytes}
use Rattle.std.proofs.lemmas.Bool.{cases_lt, le-leb, lt-leb}
use Rattle.std.proofs.lemmas.Int.{of_z-to_z}
use Rattle.std.proofs.lemmas.Nat.{le_bytes_8}
use Rattle.std.proofs.lemmas.List.{length-append, length-replicate, length-take-le, length-take, take_all, take-append-le, take-take, take_at}
use Rattle.mg_base.specs.Fields.{byte}
use Rattle.mg_value.specs.declared.shape.Kind.{Kind}
use Rattle.mg_value.specs.declared.shape.Kind.TheVariants as kinds
use Rattle.mg_value.specs.declared.value.Value.{Value}
use Rattle.mg_value.specs.declared.value.Value.TheVariants.{Null, Int, Text}
use Rattle.mg_value.specs.Rows.{width_of, value_bytes, is_null, FitsKind}
use Rattle.mg_rowcode.specs.Reading.{text_len, value_in}

abbrev pub IsBytes : List ℕ → Type 0
IsBytes bytes = (i : ℕ) → get_or bytes i 0 < 256

-- the greatest length of a text is a number of two bytes
abbrev pub IsKind : Kind → Type 0
IsKind kinds.Int = Unit {0}
IsKind (kinds.Text most) = most < 2 ^ 16

le16 : (n : ℕ) → n < 2 ^ 16 → to_le_bytes w16 n ≡ n % 256 ∷ n / 256 ∷ []
le16 n lt = grind arith

from16 : (a b : ℕ) → from_le_bytes w16 (a ∷ b ∷ []) ≡ a + 256 * b
from16 a b = grind arith

from64 : (bytes : List ℕ) → IsBytes bytes → from_le_bytes w64 bytes < 2 ^ 64
from64 bytes fits = omega (arith, fits 0, fits 1, fits 2, fits 3, fits 4, fits 5, fits 6, fits 7)

pub length-value_bytes : (kind : Kind) (value : Value) → FitsKind kind value → length (value_bytes kind value) ≡ width_of kind
length-value_bytes kind Null fits = length-replicate (width_of kind) 0
length-value_bytes kinds.Int (Int number) fits = refl
length-value_bytes kinds.Int (Text text) fits = absurd fits
length-value_bytes (kinds.Text most) (Int number) fits = absurd fits
length-value_bytes (kinds.Text most) (Text text) fits =
    omega (arith, length-append (to_le_bytes w16 (length text) ++ text) (replicate (2 + most - 2 - length text) 0), length-append (to_le_bytes w16 (length text)) text, length-replicate {A = ℕ} (2 + most - 2 - length text) 0)

-- ---- the length of a text

text_len_full : (most a b : ℕ) (more : List ℕ) → a + 256 * b ≤ most → text_len most (a ∷ b ∷ more) ≡ a + 256 * b
text_len_full most a b more le =
    let full : from_le_bytes w16 (a ∷ b ∷ []) ≡ a + 256 * b = from16 a b in
    let test : leb (from_le_bytes w16 (a ∷ b ∷ [])) most ≡ true = le-leb (from_le_bytes w16 (a ∷ b ∷ [])) most (omega arith) in
    ap (λ (t : Bool). cond t (from_le_bytes w16 (a ∷ b ∷ [])) (cond (leb a most) a 0)) test ∙ full

text_len_low : (most a b : ℕ) (more : List ℕ) → most < a + 256 * b → a ≤ most → text_len most (a ∷ b ∷ more) ≡ a
text_len_low most a b more lt le =
    let full : from_le_bytes w16 (a ∷ b ∷ []) ≡ a + 256 * b = from16 a b in
    let test : leb (from_le_bytes w16 (a ∷ b ∷ [])) most ≡ false = lt-leb (from_le_bytes w16 (a ∷ b ∷ [])) most (omega arith) in
    ap (λ (t : Bool). cond t (from_le_bytes w16 (a ∷ b ∷ [])) (cond (leb a most) a 0)) test ∙ ap (λ (t : Bool). cond t a 0) (le-leb a most le)

text_len_none : (most a b : ℕ) (more : List ℕ) → most < a + 256 * b → most < a → text_len most (a ∷ b ∷ more) ≡ 0
text_len_none most a b more lt high =
    let full : from_le_bytes w16 (a ∷ b ∷ []) ≡ a + 256 * b = from16 a b in
    let test : leb (from_le_bytes w16 (a ∷ b ∷ [])) most ≡ false = lt-leb (from_le_bytes w16 (a ∷ b ∷ [])) most (omega arith) in
    ap (λ (t : Bool). cond t (from_le_bytes w16 (a ∷ b ∷ [])) (cond (leb a most) a 0)) test ∙ ap (λ (t : Bool). cond t a 0) (lt-leb a most high)

pub text_len_most : (most a b : ℕ) (more : List ℕ) → text_len most (a ∷ b ∷ more) ≤ most
text_len_most most a b more =
    elim (cases_lt most (a + 256 * b)) [
      | inl lt ↦ elim (cases_lt most a) [
        | inl high ↦ omega (arith, text_len_none most a b more lt high)
        | inr le ↦ omega (arith, text_len_low most a b more lt le)
      ]
      | inr le ↦ omega (arith, text_len_full most a b more le)
    ]

-- the low byte of a lawful length stays
low_byte_stays : (most a b len : ℕ) (more : List ℕ) → a < 256 → a ≡ len % 256 → len ≤ most → text_len most (a ∷ b ∷ more) % 256 ≡ a
low_byte_stays most a b len more byte is fits =
    elim (cases_lt most (a + 256 * b)) [
      | inl lt ↦ (let low : text_len most (a ∷ b ∷ more) ≡ a = text_len_low most a b more lt (omega arith) in omega arith)
      | inr le ↦ (let full : text_len most (a ∷ b ∷ more) ≡ a + 256 * b = text_len_full most a b more le in omega arith)
    ]

-- ---- one value

-- what agrees with a text and the zeros behind it agrees with the text that it holds, and zeros
filled : (text more zeros : List ℕ) (k : ℕ) → length text ≤ length more → take k more ≡ take k (text ++ zeros) → take k (take (length text) more ++ zeros) ≡ take k more
filled text more zeros k fits e =
    let len : length (take (length text) more) ≡ length text = length-take-le (length text) more fits in
    elim (cases_lt (length text) k) [
      | inl lt ↦ (
          let same : take (length text) more ≡ text =
          sym (take-take (length text) k more (omega arith)) ∙ ap (take (length text)) e ∙ take-take (length text) k (text ++ zeros) (omega arith) ∙ take_at text zeros (length text) refl in
          ap (λ (t : List ℕ). take k (t ++ zeros)) same ∙ sym e)
      | inr le ↦ take-append-le k (take (length text) more) zeros (omega arith) ∙ take-take k (length text) more le
    ]

text_near : (most : ℕ) (text : List ℕ) (a b : ℕ) (more : List ℕ) (k : ℕ) → most < 2 ^ 16 → length text ≤ most → a < 256 → length more ≡ most
    → take k (a ∷ b ∷ more) ≡ take k (value_bytes (kinds.Text most) (Text text))
    → take k (value_bytes (kinds.Text most) (Text (take (text_len most (a ∷ b ∷ more)) more))) ≡ take k (a ∷ b ∷ more)
text_near most text a b more zero small fits byte long e = refl
text_near most text a b more (suc zero) small fits byte long e =
    let m : ℕ = text_len most (a ∷ b ∷ more) in
    let m_fits : m ≤ most = text_len_most most a b more in
    let len : length (take m more) ≡ m = length-take-le m more (omega arith) in
    let first : a ∷ [] ≡ length text % 256 ∷ [] = e ∙ ap (λ (t : List ℕ). take 1 (t ++ text ++ replicate (2 + most - 2 - length text) 0)) (le16 (length text) (omega arith)) in
    let low : a ≡ length text % 256 = cc in
    let stays : m % 256 ≡ a = low_byte_stays most a b (length text) more byte low fits in
    ap (λ (n : ℕ). take 1 (to_le_bytes w16 n ++ take m more ++ replicate (2 + most - 2 - length (take m more)) 0)) len
    ∙ ap (λ (t : List ℕ). take 1 (t ++ take m more ++ replicate (2 + most - 2 - length (take m more)) 0)) (le16 m (omega arith))
    ∙ ap (λ (n : ℕ). n ∷ []) stays
text_near most text a b more (suc (suc k)) small fits byte long e =
    let zeros : List ℕ = replicate (2 + most - 2 - length text) 0 in
    let both : a ∷ b ∷ take k more ≡ length text % 256 ∷ length text / 256 ∷ take k (text ++ zeros) = e ∙ ap (λ (t : List ℕ). take (suc (suc k)) (t ++ text ++ zeros)) (le16 (length text) (omega arith)) in
    let low : a ≡ length text % 256 = cc in
    let high : b ≡ length text / 256 = cc in
    let rest : take k more ≡ take k (text ++ zeros) = cc in
    let m_is : text_len most (a ∷ b ∷ more) ≡ length text = text_len_full most a b more (omega arith) ∙ omega arith in
    let len : length (take (length text) more) ≡ length text = length-take-le (length text) more (omega arith) in
    ap (λ (n : ℕ). take (suc (suc k)) (value_bytes (kinds.Text most) (Text (take n more)))) m_is
    ∙ ap (λ (n : ℕ). take (suc (suc k)) (to_le_bytes w16 n ++ take (length text) more ++ replicate (2 + most - 2 - n) 0)) len
    ∙ ap (λ (t : List ℕ). take (suc (suc k)) (t ++ take (length text) more ++ zeros)) (le16 (length text) (omega arith))
    ∙ ap (λ (t : List ℕ). length text % 256 ∷ length text / 256 ∷ t) (filled text more zeros k (omega arith) rest)
    ∙ ap (λ (n : ℕ). n ∷ length text / 256 ∷ take k more) (sym low)
    ∙ ap (λ (n : ℕ). a ∷ n ∷ take k more) (sym high)

number_near : (bytes : List ℕ) → length bytes ≡ 8 → IsBytes bytes → value_bytes kinds.Int (Int (cast_signed w64 (from_le_bytes w64 (take 8 bytes)))) ≡ bytes
number_near bytes len fits =
    let all : take 8 bytes ≡ bytes = take_all 8 bytes (omega arith) in
    ap (λ (t : List ℕ). to_le_bytes w64 (cast_unsigned w64 (cast_signed w64 (from_le_bytes w64 t)))) all
    ∙ ap (to_le_bytes w64) (of_z-to_z w64 (from_le_bytes w64 bytes) (from64 bytes fits))
    ∙ le_bytes_8 bytes (from_le_bytes w64 bytes) len fits refl

pub value_near : (kind : Kind) (value : Value) (bytes : List ℕ) (k : ℕ) → IsKind kind → FitsKind kind value → IsBytes bytes → length bytes ≡ width_of kind → take k bytes ≡ take k (value_bytes kind value)
    → take k (value_bytes kind (value_in kind (is_null value) bytes)) ≡ take k bytes
value_near kind Null bytes k small fits are len e = sym e
value_near kinds.Int (Int number) bytes k small fits are len e = ap (take k) (number_near bytes len are)
value_near kinds.Int (Text text) bytes k small fits are len e = absurd fits
value_near (kinds.Text most) (Int number) bytes k small fits are len e = absurd fits
value_near (kinds.Text most) (Text text) [] k small fits are len e = absurd (omega arith)
value_near (kinds.Text most) (Text text) (a ∷ []) k small fits are len e = absurd (omega arith)
value_near (kinds.Text most) (Text text) (a ∷ b ∷ more) k small fits are len e = text_near most text a b more k small fits (are 0) (omega arith) e

pub fits_near : (kind : Kind) (flag : Bool) (bytes : List ℕ) → length bytes ≡ width_of kind → FitsKind kind (value_in kind flag bytes)
fits_near kind true bytes len = tt
fits_near kinds.Int false bytes len = tt
fits_near (kinds.Text most) false [] len = absurd (omega arith)
fits_near (kinds.Text most) false (a ∷ []) len = absurd (omega arith)
fits_near (kinds.Text most) false (a ∷ b ∷ more) len = omega (arith, text_len_most most a b more, length-take (text_len most (a ∷ b ∷ more)) more)

pub null_near : (kind : Kind) (flag : Bool) (bytes : List ℕ) → is_null (value_in kind flag bytes) ≡ flag
null_near kind true bytes = refl
null_near kinds.Int false bytes = refl
null_near (kinds.Text most) false bytes = refl
