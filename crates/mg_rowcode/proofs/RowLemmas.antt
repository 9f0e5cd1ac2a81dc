-- The row nearest to some bytes has all that they have of any row.
use Rattle.std.proofs.Common.{◌≡◌, ℕ, zero, suc, ◌+◌, ◌-◌, ◌/◌, ◌≤◌, Bool, true, false, List, [], ◌∷◌, ◌++◌, length, map, take, drop, replicate, get_or, refl, sym, ap, subst, ◌∙◌, arith, inl, inr}
use Rattle.std.specs.List.{sum_by, All}
use Rattle.std.proofs.Math.Seq.{take-add, take-append-add}
use Rattle.std.proofs.lemmas.Bool.{cases_lt}
use Rattle.std.proofs.lemmas.List.{length-append, length-replicate, length-take-le, length-take, length-drop, length-map, take_all, take-append-le, take-take, take_at, drop_at, drop-take, get_or-take, get_or-drop, get_or_past, get_or-replicate, get_or_append_left, get_or-append_right, take-append-drop}
use Rattle.std.proofs.lemmas.List.Sums.{sum_by-cons}
use Rattle.mg_value.specs.declared.shape.Kind.{Kind}
use Rattle.mg_value.specs.declared.shape.Kind.TheVariants as kinds
use Rattle.mg_value.specs.declared.shape.Column.{Column}
use Rattle.mg_value.specs.declared.value.Value.{Value}
use Rattle.mg_value.specs.declared.value.Value.TheVariants.{Null}
use Rattle.mg_value.specs.Rows.{columns_of, width_of, row_len_of, value_bytes, values_bytes, row_bytes, bytes_of_bits, is_null, RowFits}
use Rattle.mg_rowcode.specs.Reading.{flags_of, value_in, values_in, nearest_row, near_to, at_length, IsCommonFront}
use Rattle.mg_rowcode.specs.Faults.{BreaksRowAt, IsRowOf, DecodesTo}
use Rattle.mg_rle.specs.Runs.{StandsFor}
use Rattle.mg_rowcode.proofs.BitLemmas.{first_byte}
use Rattle.mg_rowcode.proofs.NullLemmas.{AllowedBits, allowed_of_row, allowed_flags_of, length_allowed, nulls_near, nulls_told}
use Rattle.mg_rowcode.proofs.ValueLemmas.{IsBytes, IsKind, length-value_bytes, value_near, fits_near, null_near}

-- how many bytes the values of these columns take
abbrev widths : List Column → ℕ
widths columns = sum_by (λ column. width_of column.kind) columns

abbrev pub AreKinds : List Column → Type 0
AreKinds [] = Unit {0}
AreKinds (column ∷ columns) = IsKind column.kind × AreKinds columns

bytes_take : (n : ℕ) (bytes : List ℕ) → IsBytes bytes → IsBytes (take n bytes)
bytes_take n bytes h i =
    elim (cases_lt i n) [
      | inl lt ↦ omega (arith, get_or-take n bytes i 0 lt, h i)
      | inr le ↦ omega (arith, get_or_past (take n bytes) i 0 (omega (arith, length-take n bytes)))
    ]

bytes_drop : (n : ℕ) (bytes : List ℕ) → IsBytes bytes → IsBytes (drop n bytes)
bytes_drop n bytes h i = omega (arith, get_or-drop n bytes i 0, h (n + i))

length-values_bytes : (columns : List Column) (row : List Value) → RowFits columns row → length (values_bytes columns row) ≡ widths columns
length-values_bytes [] [] fits = refl
length-values_bytes [] (value ∷ row) fits = absurd fits
length-values_bytes (column ∷ columns) [] fits = absurd fits
length-values_bytes (column ∷ columns) (value ∷ row) fits =
    omega (arith, length-append (value_bytes column.kind value) (values_bytes columns row), length-value_bytes column.kind value fits.0.kind, length-values_bytes columns row fits.1, sum_by-cons (λ (c : Column). width_of c.kind) column columns)

length-bytes_of_bits : (most : ℕ) (bits : List Bool) → length bits ≤ most → length (bytes_of_bits bits) ≡ (length bits + 7) / 8
length-bytes_of_bits most [] le = refl
length-bytes_of_bits zero (bit ∷ bits) le = absurd (omega arith)
length-bytes_of_bits (suc most) (bit ∷ bits) le =
    omega (arith, ap length (first_byte (bit ∷ bits) (omega arith)), length-bytes_of_bits most (drop 8 (bit ∷ bits)) (omega (arith, length-drop 8 (bit ∷ bits))), length-drop 8 (bit ∷ bits))

values_near : (columns : List Column) (row : List Value) (bytes : List ℕ) (k : ℕ) → AreKinds columns → RowFits columns row → IsBytes bytes → widths columns ≤ length bytes → k ≤ widths columns → take k bytes ≡ take k (values_bytes columns row)
    → take k (values_bytes columns (values_in columns (map is_null row) bytes)) ≡ take k bytes
values_near [] [] bytes k kinds fits are room le e = sym e
values_near [] (value ∷ row) bytes k kinds fits are room le e = absurd fits
values_near (column ∷ columns) [] bytes k kinds fits are room le e = absurd fits
values_near (column ∷ columns) (value ∷ row) bytes k kinds fits are room le e =
    let w : ℕ = width_of column.kind in
    let front : List ℕ = take w bytes in
    let here : List ℕ = value_bytes column.kind value in
    let near : List ℕ = value_bytes column.kind (value_in column.kind (is_null value) front) in
    let rest : List ℕ = values_bytes columns row in
    let near_rest : List ℕ = values_bytes columns (values_in columns (map is_null row) (drop w bytes)) in
    let total : widths (column ∷ columns) ≡ w + widths columns = sum_by-cons (λ (c : Column). width_of c.kind) column columns in
    let front_len : length front ≡ w = length-take-le w bytes (omega arith) in
    let here_len : length here ≡ w = length-value_bytes column.kind value fits.0.kind in
    let near_len : length near ≡ w = length-value_bytes column.kind (value_in column.kind (is_null value) front) (fits_near column.kind (is_null value) front front_len) in
    elim (cases_lt w k) [
      | inr le' ↦ (
          let front_e : take k front ≡ take k here = take-take k w bytes le' ∙ e ∙ take-append-le k here rest (omega arith) in
          take-append-le k near near_rest (omega arith) ∙ value_near column.kind value front k kinds.0 fits.0.kind (bytes_take w bytes are) front_len front_e ∙ take-take k w bytes le')
      | inl lt ↦ (
          let m : ℕ = k - w in
          let k_is : k ≡ w + m = omega arith in
          let e' : take (w + m) bytes ≡ take (w + m) (here ++ rest) = subst (λ (n : ℕ). take n bytes ≡ take n (here ++ rest)) k_is e in
          let fronts : front ≡ here = sym (take-take w (w + m) bytes (omega arith)) ∙ ap (take w) e' ∙ take-take w (w + m) (here ++ rest) (omega arith) ∙ take_at here rest w here_len in
          let rests : take m (drop w bytes) ≡ take m rest = sym (drop-take w m bytes) ∙ ap (drop w) e' ∙ drop-take w m (here ++ rest) ∙ ap (take m) (drop_at here rest w here_len) in
          let later : take m near_rest ≡ take m (drop w bytes) = values_near columns row (drop w bytes) m kinds.1 fits.1 (bytes_drop w bytes are) (omega (arith, length-drop w bytes)) (omega arith) rests in
          let nears : near ≡ front = sym (take_all w near (omega arith)) ∙ value_near column.kind value front w kinds.0 fits.0.kind (bytes_take w bytes are) front_len (ap (take w) fronts) ∙ take_all w front (omega arith) in
          ap (λ (n : ℕ). take n (near ++ near_rest)) (omega arith)
          ∙ take-append-add near near_rest m
          ∙ ap (λ (t : List ℕ). near ++ t) later
          ∙ ap (λ (t : List ℕ). t ++ take m (drop w bytes)) nears
          ∙ sym (take-add w m bytes)
          ∙ ap (λ (n : ℕ). take n bytes) (sym k_is))
    ]

no_null : (column : Column) (flag : Bool) (bytes : List ℕ) → (flag ≡ true → column.not_null ≡ false) → column.not_null ≡ true → value_in column.kind flag bytes ≡ Null → ⊥
no_null column flag bytes allowed not_null e =
    let is : flag ≡ true = sym (null_near column.kind flag bytes) ∙ ap is_null e in
    let no' : column.not_null ≡ false = allowed is in
    absurd cc

values_fit : (columns : List Column) (flags : List Bool) (bytes : List ℕ) → AllowedBits columns flags → widths columns ≤ length bytes → RowFits columns (values_in columns flags bytes)
values_fit [] [] bytes h room = tt
values_fit [] (flag ∷ flags) bytes h room = absurd h
values_fit (column ∷ columns) [] bytes h room = absurd h
values_fit (column ∷ columns) (flag ∷ flags) bytes h room =
    let w : ℕ = width_of column.kind in
    let total : widths (column ∷ columns) ≡ w + widths columns = sum_by-cons (λ (c : Column). width_of c.kind) column columns in (
      record { kind = fits_near column.kind flag (take w bytes) (length-take-le w bytes (omega arith)); allowed = no_null column flag (take w bytes) h.0 },
      values_fit columns flags (drop w bytes) h.1 (omega (arith, length-drop w bytes)),
    )

nulls_of_values : (columns : List Column) (flags : List Bool) (bytes : List ℕ) → AllowedBits columns flags → map is_null (values_in columns flags bytes) ≡ flags
nulls_of_values [] [] bytes h = refl
nulls_of_values [] (flag ∷ flags) bytes h = absurd h
nulls_of_values (column ∷ columns) [] bytes h = absurd h
nulls_of_values (column ∷ columns) (flag ∷ flags) bytes h =
    let head : is_null (value_in column.kind flag (take (width_of column.kind) bytes)) ≡ flag = null_near column.kind flag (take (width_of column.kind) bytes) in
    let tail : map is_null (values_in columns flags (drop (width_of column.kind) bytes)) ≡ flags = nulls_of_values columns flags (drop (width_of column.kind) bytes) h.1 in
    cc

length_row : (columns : List Column) (row : List Value) → RowFits columns row → length row ≡ length columns
length_row [] [] fits = refl
length_row [] (value ∷ row) fits = absurd fits
length_row (column ∷ columns) [] fits = absurd fits
length_row (column ∷ columns) (value ∷ row) fits = ap suc (length_row columns row fits.1)

pub nulls_len : (columns : List Column) (row : List Value) → RowFits columns row → length (bytes_of_bits (map is_null row)) ≡ (length columns + 7) / 8
nulls_len columns row fits = omega (arith, length-bytes_of_bits (length (map is_null row)) (map is_null row) (omega arith), length-map row is_null, length_row columns row fits)

pub length-row_bytes : (columns : List Column) (row : List Value) → RowFits columns row → length (row_bytes columns row) ≡ row_len_of columns
length-row_bytes columns row fits = omega (arith, length-append (bytes_of_bits (map is_null row)) (values_bytes columns row), nulls_len columns row fits, length-values_bytes columns row fits)

pub nearest_fits : (columns : List Column) (bytes : List ℕ) → length bytes ≡ row_len_of columns → RowFits columns (nearest_row columns bytes)
nearest_fits columns bytes len =
    let n : ℕ = (length columns + 7) / 8 in
    values_fit columns (flags_of columns (take n bytes)) (drop n bytes) (allowed_flags_of (length columns) columns (take n bytes) (omega arith)) (omega (arith, length-drop n bytes))

-- what the bytes have of any row the nearest row has
pub row_near : (columns : List Column) (row : List Value) (bytes : List ℕ) (k : ℕ) → AreKinds columns → RowFits columns row → IsBytes bytes → length bytes ≡ row_len_of columns → k ≤ length bytes → take k bytes ≡ take k (row_bytes columns row)
    → take k (row_bytes columns (nearest_row columns bytes)) ≡ take k bytes
row_near columns row bytes k kinds fits are len le e =
    let n : ℕ = (length columns + 7) / 8 in
    let bits : List Bool = map is_null row in
    let nulls : List ℕ = bytes_of_bits bits in
    let values : List ℕ = values_bytes columns row in
    let front : List ℕ = take n bytes in
    let flags : List Bool = flags_of columns front in
    let allowed : AllowedBits columns flags = allowed_flags_of (length columns) columns front (omega arith) in
    let near : List Value = nearest_row columns bytes in
    let near_nulls : map is_null near ≡ flags = nulls_of_values columns flags (drop n bytes) allowed in
    let near_len : length (bytes_of_bits (map is_null near)) ≡ n = nulls_len columns near (nearest_fits columns bytes len) in
    let nulls_n : length nulls ≡ n = nulls_len columns row fits in
    let front_len : length front ≡ n = length-take-le n bytes (omega arith) in
    elim (cases_lt n k) [
      | inr le' ↦ (
          let e' : take k front ≡ take k nulls = take-take k n bytes le' ∙ e ∙ take-append-le k nulls values (omega arith) in
          take-append-le k (bytes_of_bits (map is_null near)) (values_bytes columns near) (omega arith)
          ∙ ap (λ (f : List Bool). take k (bytes_of_bits f)) near_nulls
          ∙ nulls_near k columns bits front (allowed_of_row columns row fits) (omega arith) e'
          ∙ take-take k n bytes le')
      | inl lt ↦ (
          let m : ℕ = k - n in
          let k_is : k ≡ n + m = omega arith in
          let e' : take (n + m) bytes ≡ take (n + m) (nulls ++ values) = subst (λ (j : ℕ). take j bytes ≡ take j (nulls ++ values)) k_is e in
          let fronts : front ≡ nulls = sym (take-take n (n + m) bytes (omega arith)) ∙ ap (take n) e' ∙ take-take n (n + m) (nulls ++ values) (omega arith) ∙ take_at nulls values n nulls_n in
          let rests : take m (drop n bytes) ≡ take m values = sym (drop-take n m bytes) ∙ ap (drop n) e' ∙ drop-take n m (nulls ++ values) ∙ ap (take m) (drop_at nulls values n nulls_n) in
          let told : flags ≡ bits = nulls_told (length bits) columns bits front (omega arith) (allowed_of_row columns row fits) (take_all (length nulls) front (omega arith) ∙ fronts) in
          let later : take m (values_bytes columns (values_in columns bits (drop n bytes))) ≡ take m (drop n bytes) = values_near columns row (drop n bytes) m kinds fits (bytes_drop n bytes are) (omega (arith, length-drop n bytes)) (omega arith) rests in
          let near_front : bytes_of_bits (map is_null near) ≡ front = ap bytes_of_bits (near_nulls ∙ told) ∙ sym fronts in
          ap (λ (j : ℕ). take j (row_bytes columns near)) (omega arith)
          ∙ take-append-add (bytes_of_bits (map is_null near)) (values_bytes columns near) m
          ∙ ap (λ (t : List ℕ). t ++ take m (values_bytes columns near)) near_front
          ∙ ap (λ (f : List Bool). front ++ take m (values_bytes columns (values_in columns f (drop n bytes)))) told
          ∙ ap (λ (t : List ℕ). front ++ t) later
          ∙ sym (take-add n m bytes)
          ∙ ap (λ (j : ℕ). take j bytes) (sym k_is))
    ]

-- ---- the bytes at a length

pub length-at_length : (len : ℕ) (bytes : List ℕ) → length (at_length len bytes) ≡ len
length-at_length len bytes = omega (arith, length-append (take len bytes) (replicate (len - length (take len bytes)) 0), length-replicate {A = ℕ} (len - length (take len bytes)) 0, length-take len bytes)

take-at_length : (k len : ℕ) (bytes : List ℕ) → k ≤ len → k ≤ length bytes → take k (at_length len bytes) ≡ take k bytes
take-at_length k len bytes le le' =
    take-append-le k (take len bytes) (replicate (len - length (take len bytes)) 0) (omega (arith, length-take len bytes)) ∙ take-take k len bytes le

bytes_replicate : (n : ℕ) → IsBytes (replicate n 0)
bytes_replicate n i =
    elim (cases_lt i n) [
      | inl lt ↦ omega (arith, get_or-replicate {A = ℕ} n i 0 0 lt)
      | inr le ↦ omega (arith, get_or_past (replicate {A = ℕ} n 0) i 0 (omega (arith, length-replicate {A = ℕ} n 0)))
    ]

bytes_append : (a b : List ℕ) → IsBytes a → IsBytes b → IsBytes (a ++ b)
bytes_append a b h k i =
    elim (cases_lt i (length a)) [
      | inl lt ↦ omega (arith, get_or_append_left a b 0 i lt, h i)
      | inr le ↦ omega (arith, get_or-append_right a b (length a) i 0 refl le, k (i - length a))
    ]

bytes_at_length : (len : ℕ) (bytes : List ℕ) → IsBytes bytes → IsBytes (at_length len bytes)
bytes_at_length len bytes h = bytes_append (take len bytes) (replicate (len - length (take len bytes)) 0) (bytes_take len bytes h) (bytes_replicate (len - length (take len bytes)))

-- ---- decoding

pub kinds_of : (columns : List Column) → All (λ column. width_of column.kind ≤ 65537) columns → AreKinds columns
kinds_of [] h = tt
kinds_of (column ∷ columns) h = (kind_of column.kind (h 0 column (omega arith)), kinds_of columns (λ k d lt. h (suc k) d (omega arith)))
  where
    kind_of : (kind : Kind) → width_of kind ≤ 65537 → IsKind kind
    kind_of kinds.Int le = tt
    kind_of (kinds.Text most) le = omega arith

pub length-flags_of : (columns : List Column) (bytes : List ℕ) → length (flags_of columns bytes) ≡ length columns
length-flags_of columns bytes = sym (length_allowed columns (flags_of columns bytes) (allowed_flags_of (length columns) columns bytes (omega arith)))

pub near_fits : (columns : List Column) (plain : List ℕ) → RowFits columns (near_to columns plain)
near_fits columns plain = nearest_fits columns (at_length (row_len_of columns) plain) (length-at_length (row_len_of columns) plain)

-- what bytes have of any row the row nearest to them has
near_agrees : (columns : List Column) (plain : List ℕ) (row : List Value) (k : ℕ) → AreKinds columns → IsBytes plain → RowFits columns row → k ≤ length plain → k ≤ row_len_of columns → take k plain ≡ take k (row_bytes columns row)
    → take k (row_bytes columns (near_to columns plain)) ≡ take k plain
near_agrees columns plain row k kinds are fits le le' e =
    let len : length (at_length (row_len_of columns) plain) ≡ row_len_of columns = length-at_length (row_len_of columns) plain in
    let front : take k (at_length (row_len_of columns) plain) ≡ take k plain = take-at_length k (row_len_of columns) plain le' le in
    row_near columns row (at_length (row_len_of columns) plain) k kinds fits (bytes_at_length (row_len_of columns) plain are) len (omega arith) (front ∙ e) ∙ front

-- the common front is as long as any on which they agree
common_is_longest : (a b : List ℕ) (count k : ℕ) → IsCommonFront a b count → k ≤ length a → k ≤ length b → take k b ≡ take k a → k ≤ count
common_is_longest a b count k common le le' e =
    elim (cases_lt count k) [
      | inl lt ↦ absurd (common.ended (omega arith) (omega arith) (sym (get_or-take k a count 0 lt) ∙ ap (λ (t : List ℕ). get_or t count 0) (sym e) ∙ get_or-take k b count 0 lt))
      | inr le'' ↦ (omega arith)
    ]

pub is_row : (columns : List Column) (plain again : List ℕ) (row : List Value) (count : ℕ) → RowFits columns row → again ≡ row_bytes columns row → IsCommonFront plain again count → length plain ≤ count → length again ≤ count → IsRowOf columns plain row
is_row columns plain again row count fits is common all all' = record {
  fits = fits;
  spelled = sym (take_all count plain all) ∙ common.same ∙ take_all count again all' ∙ is;
}

pub breaks_row : (columns : List Column) (plain again : List ℕ) (count : ℕ) → AreKinds columns → IsBytes plain → again ≡ row_bytes columns (near_to columns plain) → IsCommonFront plain again count → (length plain ≤ count → length again ≤ count → ⊥) → BreaksRowAt columns plain count
breaks_row columns plain again count kinds are is common differ =
    let again_len : length again ≡ row_len_of columns = ap length is ∙ length-row_bytes columns (near_to columns plain) (near_fits columns plain) in
    record {
      inside = common.in_first;
      begins = record {
        row = near_to columns plain;
        more = drop count again;
        fits = near_fits columns plain;
        goes_on = ap (λ (t : List ℕ). t ++ drop count again) common.same ∙ take-append-drop count again ∙ is;
      };
      longest = λ k le b.
          let front_len : length (take k plain) ≡ k = length-take-le k plain le in
          let len : length (take k plain ++ b.more) ≡ row_len_of columns = ap length b.goes_on ∙ length-row_bytes columns b.row b.fits in
          let inside : k ≤ row_len_of columns = omega (arith, length-append (take k plain) b.more) in
          let e : take k plain ≡ take k (row_bytes columns b.row) = sym (take_at (take k plain) b.more k front_len) ∙ ap (take k) b.goes_on in
          common_is_longest plain again count k common le (omega arith) (ap (take k) is ∙ near_agrees columns plain b.row k kinds are b.fits le inside e);
      refused = λ row r.
          let len : length plain ≡ row_len_of columns = ap length r.spelled ∙ length-row_bytes columns row r.fits in
          let all : length plain ≤ count = common_is_longest plain again count (length plain) common (omega arith) (omega arith) (ap (take (length plain)) is ∙ near_agrees columns plain row (length plain) kinds are r.fits (omega arith) (omega arith) (ap (take (length plain)) r.spelled)) in
          let most : count ≤ length plain = common.in_first in
          differ (omega arith) (omega arith);
    }

pub length-near : (columns : List Column) (plain again : List ℕ) → again ≡ row_bytes columns (near_to columns plain) → length again ≡ row_len_of columns
length-near columns plain again is = ap length is ∙ length-row_bytes columns (near_to columns plain) (near_fits columns plain)

pub decodes : (columns lent : List Column) (format : ℕ) (packed plain bytes : List ℕ) (stored : List Column) (values row : List Value) → lent ≡ columns → stored ≡ columns_of lent format → StandsFor packed plain → bytes ≡ plain → IsRowOf stored bytes values
    → row ≡ values ++ replicate (length lent - length stored) Null → DecodesTo columns format packed row
decodes columns lent format packed plain bytes stored values row lent_is stored_is stands bytes_is is whole =
    let stored_is' : stored ≡ columns_of columns format = stored_is ∙ ap (λ (cs : List Column). columns_of cs format) lent_is in
    let count : length lent - length stored ≡ length columns - length values = omega (arith, ap length lent_is, length_row stored values is.fits) in
    record {
      values = values;
      fits = subst (λ (cs : List Column). RowFits cs values) stored_is' is.fits;
      stands = subst (StandsFor packed) (sym bytes_is ∙ is.spelled ∙ ap (λ (cs : List Column). row_bytes cs values) stored_is') stands;
      whole = whole ∙ ap (λ (n : ℕ). values ++ replicate n Null) count;
    }
