-- Two rows of the same columns have different bytes.
use Rattle.std.proofs.Common.{◌≡◌, ℕ, ℤ, ◌+◌, ◌-◌, ◌^◌, ◌<◌, Bool, List, [], ◌∷◌, ◌++◌, length, map, take, drop, replicate, refl, sym, ap, ◌∙◌, arith}
use Rattle.std.specs.Prelude.{FitsSigned}
use Rattle.std.specs.Int.{w16, w64, cast_signed, cast_unsigned, to_le_bytes, from_le_bytes}
use Rattle.std.proofs.Math.Facts.{Fits-of_z}
use Rattle.std.proofs.lemmas.Int.{to_z-of_z}
use Rattle.std.proofs.lemmas.Nat.{from_le_bytes-to_le_bytes_2, from_le_bytes-to_le_bytes_8}
use Rattle.std.proofs.lemmas.List.{take_at, drop_at, take_all}
use Rattle.mg_value.specs.declared.shape.Kind.{Kind}
use Rattle.mg_value.specs.declared.shape.Kind.TheVariants as kinds
use Rattle.mg_value.specs.declared.shape.Column.{Column}
use Rattle.mg_value.specs.declared.value.Value.{Value}
use Rattle.mg_value.specs.declared.value.Value.TheVariants.{Null, Int, Text}
use Rattle.mg_value.specs.Rows.{value_bytes, values_bytes, row_bytes, bytes_of_bits, is_null, FitsKind, RowFits}
use Rattle.mg_rowcode.specs.Storable.{IsStorable, AreStorable}
use Rattle.mg_rowcode.specs.Reading.{flags_of}
use Rattle.mg_rowcode.proofs.NullLemmas.{allowed_of_row, nulls_told}
use Rattle.mg_rowcode.proofs.ValueLemmas.{length-value_bytes}
use Rattle.mg_rowcode.proofs.RowLemmas.{nulls_len}

-- two lists with parts in front of one length
same_parts : (a b x y : List ℕ) → length a ≡ length b → a ++ x ≡ b ++ y → (a ≡ b) × (x ≡ y)
same_parts a b x y len e = (
  sym (take_at a x (length b) len) ∙ ap (take (length b)) e ∙ take_at b y (length b) refl,
  sym (drop_at a x (length b) len) ∙ ap (drop (length b)) e ∙ drop_at b y (length b) refl,
)

below : (number : ℤ) → FitsSigned w64 number → cast_unsigned w64 number < 2 ^ 64
below number fits = omega (arith, Fits-of_z {w = w64} {z = number} fits)

same_number : (x y : ℤ) → FitsSigned w64 x → FitsSigned w64 y → to_le_bytes w64 (cast_unsigned w64 x) ≡ to_le_bytes w64 (cast_unsigned w64 y) → x ≡ y
same_number x y h k e =
    let bits : cast_unsigned w64 x ≡ cast_unsigned w64 y =
    sym (from_le_bytes-to_le_bytes_8 (cast_unsigned w64 x) (below x h)) ∙ ap (from_le_bytes w64) e ∙ from_le_bytes-to_le_bytes_8 (cast_unsigned w64 y) (below y k) in
    sym (to_z-of_z w64 x h) ∙ ap (cast_signed w64) bits ∙ to_z-of_z w64 y k

same_text : (most : ℕ) (x y : List ℕ) → length x < 2 ^ 16 → length y < 2 ^ 16 → value_bytes (kinds.Text most) (Text x) ≡ value_bytes (kinds.Text most) (Text y) → x ≡ y
same_text most x y small small' e =
    let zeros : List ℕ = replicate (2 + most - 2 - length x) 0 in
    let zeros' : List ℕ = replicate (2 + most - 2 - length y) 0 in
    let front : take 2 (to_le_bytes w16 (length x) ++ x ++ zeros) ≡ take 2 (to_le_bytes w16 (length y) ++ y ++ zeros') = ap (take 2) e in
    let len : length x ≡ length y = sym (from_le_bytes-to_le_bytes_2 (length x) small) ∙ ap (from_le_bytes w16) front ∙ from_le_bytes-to_le_bytes_2 (length y) small' in
    let rest : x ++ zeros ≡ y ++ zeros' = ap (drop 2) e in
    (same_parts x y zeros zeros' len rest).0

same_value : (kind : Kind) (x y : Value) → FitsKind kind x → FitsKind kind y → IsStorable x → IsStorable y → is_null x ≡ is_null y → value_bytes kind x ≡ value_bytes kind y → x ≡ y
same_value kind Null Null h k s t null e = refl
same_value kind Null (Int y) h k s t null e = absurd cc
same_value kind Null (Text y) h k s t null e = absurd cc
same_value kind (Int x) Null h k s t null e = absurd cc
same_value kind (Text x) Null h k s t null e = absurd cc
same_value kind (Int x) (Int y) h k s t null e = ap Int (same_number x y s t e)
same_value kinds.Int (Int x) (Text y) h k s t null e = absurd k
same_value (kinds.Text most) (Int x) (Text y) h k s t null e = absurd h
same_value kinds.Int (Text x) (Int y) h k s t null e = absurd h
same_value (kinds.Text most) (Text x) (Int y) h k s t null e = absurd k
same_value kinds.Int (Text x) (Text y) h k s t null e = absurd h
same_value (kinds.Text most) (Text x) (Text y) h k s t null e = ap Text (same_text most x y s t e)

same_values : (columns : List Column) (a b : List Value) → RowFits columns a → RowFits columns b → AreStorable a → AreStorable b → map is_null a ≡ map is_null b → values_bytes columns a ≡ values_bytes columns b → a ≡ b
same_values [] [] [] h k s t nulls e = refl
same_values [] (x ∷ a) b h k s t nulls e = absurd h
same_values [] [] (y ∷ b) h k s t nulls e = absurd k
same_values (column ∷ columns) [] b h k s t nulls e = absurd h
same_values (column ∷ columns) (x ∷ a) [] h k s t nulls e = absurd k
same_values (column ∷ columns) (x ∷ a) (y ∷ b) h k s t nulls e =
    let null : is_null x ≡ is_null y = cc in
    let others : map is_null a ≡ map is_null b = cc in
    let len : length (value_bytes column.kind x) ≡ length (value_bytes column.kind y) = length-value_bytes column.kind x h.0.kind ∙ sym (length-value_bytes column.kind y k.0.kind) in
    let parts = same_parts (value_bytes column.kind x) (value_bytes column.kind y) (values_bytes columns a) (values_bytes columns b) len e in
    let first : x ≡ y = same_value column.kind x y h.0.kind k.0.kind s.0 t.0 null parts.0 in
    let later : a ≡ b = same_values columns a b h.1 k.1 s.1 t.1 others parts.1 in
    cc

pub same_row : (columns : List Column) (a b : List Value) → RowFits columns a → RowFits columns b → AreStorable a → AreStorable b → row_bytes columns a ≡ row_bytes columns b → a ≡ b
same_row columns a b h k s t e =
    let bits : List Bool = map is_null a in
    let bits' : List Bool = map is_null b in
    let len : length (bytes_of_bits bits) ≡ length (bytes_of_bits bits') = nulls_len columns a h ∙ sym (nulls_len columns b k) in
    let parts = same_parts (bytes_of_bits bits) (bytes_of_bits bits') (values_bytes columns a) (values_bytes columns b) len e in
    let told : flags_of columns (bytes_of_bits bits) ≡ bits = nulls_told (length bits) columns bits (bytes_of_bits bits) (omega arith) (allowed_of_row columns a h) (take_all (length (bytes_of_bits bits)) (bytes_of_bits bits) (omega arith)) in
    let told' : flags_of columns (bytes_of_bits bits') ≡ bits' = nulls_told (length bits') columns bits' (bytes_of_bits bits') (omega arith) (allowed_of_row columns b k) (take_all (length (bytes_of_bits bits')) (bytes_of_bits bits') (omega arith)) in
    same_values columns a b h k s t (sym told ∙ ap (flags_of columns) parts.0 ∙ told') parts.1
