-- What the null bits of a row tell is what they were made of.
use Rattle.std.proofs.Common.{◌≡◌, ℕ, zero, suc, ◌+◌, ◌*◌, ◌/◌, ◌%◌, ◌<◌, ◌≤◌, Bool, true, false, cond, eqb, List, [], ◌∷◌, ◌++◌, length, map, min, get_or, take, drop, append_assoc, refl, sym, ap, subst, ◌∙◌, arith, inl, inr}
use Rattle.std.proofs.lemmas.Bool.{cases_lt, eq-eqb, ne_eqb}
use Rattle.std.proofs.lemmas.List.{append-nil, length-append, length-take, length-drop, take_at, drop_at, take_all, drop_all, take-append-drop, nil_from_length, take_min, drop_min, drop_more}
use Rattle.mg_base.specs.Fields.{byte}
use Rattle.mg_value.specs.declared.shape.Column.{Column}
use Rattle.mg_value.specs.declared.value.Value.{Value}
use Rattle.mg_value.specs.declared.value.Value.TheVariants.{Null, Int, Text}
use Rattle.mg_value.specs.Rows.{number_of_bits, bytes_of_bits, is_null, FitsColumn, RowFits}
use Rattle.mg_rowcode.specs.Reading.{flags_of_byte, flags_of}
use Rattle.mg_rowcode.proofs.BitLemmas.{first_byte}

-- a bit for each column, none of them where NULL isn't allowed
abbrev pub AllowedBits : List Column → List Bool → Type 0
AllowedBits [] [] = Unit {0}
AllowedBits [] (bit ∷ bits) = ⊥
AllowedBits (column ∷ columns) [] = ⊥
AllowedBits (column ∷ columns) (bit ∷ bits) = (bit ≡ true → column.not_null ≡ false) × AllowedBits columns bits

null_allowed : (column : Column) (value : Value) (t : Bool) → column.not_null ≡ t → FitsColumn column value → is_null value ≡ true → column.not_null ≡ false
null_allowed column Null true e fits is = absurd (fits.allowed e refl)
null_allowed column Null false e fits is = e
null_allowed column (Int number) t e fits is = absurd cc
null_allowed column (Text text) t e fits is = absurd cc

pub allowed_of_row : (columns : List Column) (row : List Value) → RowFits columns row → AllowedBits columns (map is_null row)
allowed_of_row [] [] fits = tt
allowed_of_row [] (value ∷ row) fits = absurd fits
allowed_of_row (column ∷ columns) [] fits = absurd fits
allowed_of_row (column ∷ columns) (value ∷ row) fits = (null_allowed column value column.not_null refl fits.0, allowed_of_row columns row fits.1)

allowed_flag : (not_null t : Bool) → cond not_null false t ≡ true → not_null ≡ false
allowed_flag true t e = absurd cc
allowed_flag false t e = refl

allowed_flags_of_byte : (columns : List Column) (bits : ℕ) → AllowedBits columns (flags_of_byte columns bits)
allowed_flags_of_byte [] bits = tt
allowed_flags_of_byte (column ∷ columns) bits = (allowed_flag column.not_null (eqb (bits % 2) 1), allowed_flags_of_byte columns (bits / 2))

allowed_append : (a b : List Column) (x y : List Bool) → AllowedBits a x → AllowedBits b y → AllowedBits (a ++ b) (x ++ y)
allowed_append [] b [] y h k = k
allowed_append [] b (bit ∷ x) y h k = absurd h
allowed_append (column ∷ a) b [] y h k = absurd h
allowed_append (column ∷ a) b (bit ∷ x) y h k = (h.0, allowed_append a b x y h.1 k)

pub flags_first : (columns : List Column) (bytes : List ℕ) → 0 < length columns → flags_of columns bytes ≡ flags_of_byte (take 8 columns) (byte bytes 0) ++ flags_of (drop 8 columns) (drop 1 bytes)
flags_first [] bytes some = absurd (omega arith)
flags_first (a ∷ []) bytes some = refl
flags_first (a ∷ b ∷ []) bytes some = refl
flags_first (a ∷ b ∷ c ∷ []) bytes some = refl
flags_first (a ∷ b ∷ c ∷ d ∷ []) bytes some = refl
flags_first (a ∷ b ∷ c ∷ d ∷ e ∷ []) bytes some = refl
flags_first (a ∷ b ∷ c ∷ d ∷ e ∷ f ∷ []) bytes some = refl
flags_first (a ∷ b ∷ c ∷ d ∷ e ∷ f ∷ g ∷ []) bytes some = refl
flags_first (a ∷ b ∷ c ∷ d ∷ e ∷ f ∷ g ∷ h ∷ columns) bytes some = refl

pub allowed_flags_of : (most : ℕ) (columns : List Column) (bytes : List ℕ) → length columns ≤ most → AllowedBits columns (flags_of columns bytes)
allowed_flags_of most [] bytes le = tt
allowed_flags_of zero (column ∷ columns) bytes le = absurd (omega arith)
allowed_flags_of (suc most) (column ∷ columns) bytes le =
    let all : List Column = column ∷ columns in
    let shorter : length (drop 8 all) ≤ most = omega (arith, length-drop 8 all) in
    let parts = allowed_append (take 8 all) (drop 8 all) (flags_of_byte (take 8 all) (byte bytes 0)) (flags_of (drop 8 all) (drop 1 bytes)) (allowed_flags_of_byte (take 8 all) (byte bytes 0)) (allowed_flags_of most (drop 8 all) (drop 1 bytes) shorter) in
    subst (λ (cs : List Column). AllowedBits cs (flags_of all bytes)) (take-append-drop 8 all) (subst (λ (f : List Bool). AllowedBits (take 8 all ++ drop 8 all) f) (sym (flags_first all bytes (omega arith))) parts)

pub length_allowed : (columns : List Column) (bits : List Bool) → AllowedBits columns bits → length columns ≡ length bits
length_allowed [] [] h = refl
length_allowed [] (bit ∷ bits) h = absurd h
length_allowed (column ∷ columns) [] h = absurd h
length_allowed (column ∷ columns) (bit ∷ bits) h = ap suc (length_allowed columns bits h.1)

allowed_take : (n : ℕ) (columns : List Column) (bits : List Bool) → AllowedBits columns bits → AllowedBits (take n columns) (take n bits)
allowed_take zero columns bits h = tt
allowed_take (suc n) [] [] h = tt
allowed_take (suc n) [] (bit ∷ bits) h = absurd h
allowed_take (suc n) (column ∷ columns) [] h = absurd h
allowed_take (suc n) (column ∷ columns) (bit ∷ bits) h = (h.0, allowed_take n columns bits h.1)

allowed_drop : (n : ℕ) (columns : List Column) (bits : List Bool) → AllowedBits columns bits → AllowedBits (drop n columns) (drop n bits)
allowed_drop zero columns bits h = h
allowed_drop (suc n) [] [] h = tt
allowed_drop (suc n) [] (bit ∷ bits) h = absurd h
allowed_drop (suc n) (column ∷ columns) [] h = absurd h
allowed_drop (suc n) (column ∷ columns) (bit ∷ bits) h = allowed_drop n columns bits h.1

flag_again : (not_null bit : Bool) (more : ℕ) → (bit ≡ true → not_null ≡ false) → cond not_null false (eqb ((cond bit 1 0 + 2 * more) % 2) 1) ≡ bit
flag_again true true more h = absurd (let e : true ≡ false = h refl in cc)
flag_again true false more h = refl
flag_again false true more h = eq-eqb ((1 + 2 * more) % 2) 1 (omega arith)
flag_again false false more h = ne_eqb ((0 + 2 * more) % 2) 1 (λ e. omega arith)

half_again : (bit : Bool) (more : ℕ) → (cond bit 1 0 + 2 * more) / 2 ≡ more
half_again true more = omega arith
half_again false more = omega arith

flags_again : (columns : List Column) (bits : List Bool) → AllowedBits columns bits → flags_of_byte columns (number_of_bits bits) ≡ bits
flags_again [] [] h = refl
flags_again [] (bit ∷ bits) h = absurd h
flags_again (column ∷ columns) [] h = absurd h
flags_again (column ∷ columns) (bit ∷ bits) h =
    let head : cond column.not_null false (eqb ((cond bit 1 0 + 2 * number_of_bits bits) % 2) 1) ≡ bit = flag_again column.not_null bit (number_of_bits bits) h.0 in
    let tail : flags_of_byte columns ((cond bit 1 0 + 2 * number_of_bits bits) / 2) ≡ bits = ap (flags_of_byte columns) (half_again bit (number_of_bits bits)) ∙ flags_again columns bits h.1 in
    cc

-- the bits of a whole byte, or the last ones, and more behind them
joined_byte : (x y : List Bool) → 0 < length x → length x ≤ 8 → (length x < 8 → y ≡ []) → bytes_of_bits (x ++ y) ≡ number_of_bits x ∷ bytes_of_bits y
joined_byte x y some most last =
    let whole = first_byte (x ++ y) (omega (arith, length-append x y)) in
    elim (cases_lt (length x) 8) [
      | inl lt ↦ (
          let none : y ≡ [] = last lt in
          let all : x ++ y ≡ x = ap (λ t. x ++ t) none ∙ append-nil x in
          whole ∙ ap (λ (b : List Bool). number_of_bits (take 8 b) ∷ bytes_of_bits (drop 8 b)) all
          ∙ ap (λ (b : List Bool). number_of_bits b ∷ bytes_of_bits (drop 8 x)) (take_all 8 x most)
          ∙ ap (λ (b : List Bool). number_of_bits x ∷ bytes_of_bits b) (drop_all 8 x most ∙ sym none))
      | inr le ↦ (
          let len : length x ≡ 8 = omega arith in
          whole ∙ ap (λ (b : List Bool). number_of_bits b ∷ bytes_of_bits (drop 8 (x ++ y))) (take_at x y 8 len)
          ∙ ap (λ (b : List Bool). number_of_bits x ∷ bytes_of_bits b) (drop_at x y 8 len))
    ]

-- one byte of null bits is told, and the rest after it
told_first : (columns : List Column) (bits : List Bool) (bytes : List ℕ) → 0 < length bits → AllowedBits columns bits → flags_of columns (number_of_bits (take 8 bits) ∷ bytes) ≡ take 8 bits ++ flags_of (drop 8 columns) bytes
told_first columns bits bytes some h =
    flags_first columns (number_of_bits (take 8 bits) ∷ bytes) (omega (arith, length_allowed columns bits h))
    ∙ ap (λ (f : List Bool). f ++ flags_of (drop 8 columns) bytes) (flags_again (take 8 columns) (take 8 bits) (allowed_take 8 columns bits h))

cons_head : (a b : ℕ) (x y : List ℕ) → a ∷ x ≡ b ∷ y → a ≡ b
cons_head a b x y e = cc

cons_tail : (a b : ℕ) (x y : List ℕ) → a ∷ x ≡ b ∷ y → x ≡ y
cons_tail a b x y e = cc

pub nulls_near : (k : ℕ) (columns : List Column) (bits : List Bool) (bytes : List ℕ) → AllowedBits columns bits → k ≤ length (bytes_of_bits bits) → take k bytes ≡ take k (bytes_of_bits bits)
    → take k (bytes_of_bits (flags_of columns bytes)) ≡ take k bytes
nulls_near zero columns bits bytes h le e = refl
nulls_near (suc k) columns [] bytes h le e = absurd (omega arith)
nulls_near (suc k) columns (bit ∷ bits) [] h le e =
    let whole = first_byte (bit ∷ bits) (omega arith) in
    let e' : [] ≡ take (suc k) (number_of_bits (take 8 (bit ∷ bits)) ∷ bytes_of_bits (drop 8 (bit ∷ bits))) = e ∙ ap (take (suc k)) whole in
    absurd cc
nulls_near (suc k) columns (bit ∷ bits) (b ∷ bytes) h le e =
    let all : List Bool = bit ∷ bits in
    let whole : bytes_of_bits all ≡ number_of_bits (take 8 all) ∷ bytes_of_bits (drop 8 all) = first_byte all (omega arith) in
    let e' : b ∷ take k bytes ≡ number_of_bits (take 8 all) ∷ take k (bytes_of_bits (drop 8 all)) = e ∙ ap (take (suc k)) whole in
    let head : b ≡ number_of_bits (take 8 all) = cons_head b (number_of_bits (take 8 all)) (take k bytes) (take k (bytes_of_bits (drop 8 all))) e' in
    let tail : take k bytes ≡ take k (bytes_of_bits (drop 8 all)) = cons_tail b (number_of_bits (take 8 all)) (take k bytes) (take k (bytes_of_bits (drop 8 all))) e' in
    let later : List Bool = flags_of (drop 8 columns) bytes in
    let less : k ≤ length (bytes_of_bits (drop 8 all)) = omega (arith, ap length whole) in
    let told : flags_of columns (b ∷ bytes) ≡ take 8 all ++ later = ap (λ (n : ℕ). flags_of columns (n ∷ bytes)) head ∙ told_first columns all bytes (omega arith) h in
    let last : length (take 8 all) < 8 → later ≡ [] = λ lt.
    let none : length (drop 8 columns) ≡ 0 = omega (arith, length-take 8 all, length-drop 8 columns, length_allowed columns all h) in
    ap (λ (cs : List Column). flags_of cs bytes) (nil_from_length (drop 8 columns) none) in
    let joined : bytes_of_bits (take 8 all ++ later) ≡ number_of_bits (take 8 all) ∷ bytes_of_bits later = joined_byte (take 8 all) later (omega (arith, length-take 8 all)) (omega (arith, length-take 8 all)) last in
    let rest : take k (bytes_of_bits later) ≡ take k bytes = nulls_near k (drop 8 columns) (drop 8 all) bytes (allowed_drop 8 columns all h) less tail in
    ap (λ (f : List Bool). take (suc k) (bytes_of_bits f)) told ∙ ap (take (suc k)) joined ∙ ap (λ (t : List ℕ). number_of_bits (take 8 all) ∷ t) rest ∙ ap (λ (n : ℕ). n ∷ take k bytes) (sym head)

pub nulls_told : (most : ℕ) (columns : List Column) (bits : List Bool) (bytes : List ℕ) → length bits ≤ most → AllowedBits columns bits → take (length (bytes_of_bits bits)) bytes ≡ bytes_of_bits bits → flags_of columns bytes ≡ bits
nulls_told most [] [] bytes le h e = refl
nulls_told most (column ∷ columns) [] bytes le h e = absurd h
nulls_told zero columns (bit ∷ bits) bytes le h e = absurd (omega arith)
nulls_told (suc most) columns (bit ∷ bits) [] le h e =
    let whole : bytes_of_bits (bit ∷ bits) ≡ number_of_bits (take 8 (bit ∷ bits)) ∷ bytes_of_bits (drop 8 (bit ∷ bits)) = first_byte (bit ∷ bits) (omega arith) in
    let e' : take (suc (length (bytes_of_bits (drop 8 (bit ∷ bits))))) [] ≡ number_of_bits (take 8 (bit ∷ bits)) ∷ bytes_of_bits (drop 8 (bit ∷ bits)) = ap (λ (t : List ℕ). take (length t) []) (sym whole) ∙ e ∙ whole in
    absurd cc
nulls_told (suc most) columns (bit ∷ bits) (b ∷ bytes) le h e =
    let all : List Bool = bit ∷ bits in
    let rest : List ℕ = bytes_of_bits (drop 8 all) in
    let whole : bytes_of_bits all ≡ number_of_bits (take 8 all) ∷ rest = first_byte all (omega arith) in
    let e' : b ∷ take (length rest) bytes ≡ number_of_bits (take 8 all) ∷ rest = ap (λ (t : List ℕ). take (length t) (b ∷ bytes)) (sym whole) ∙ e ∙ whole in
    let head : b ≡ number_of_bits (take 8 all) = cons_head b (number_of_bits (take 8 all)) (take (length rest) bytes) rest e' in
    let tail : take (length rest) bytes ≡ rest = cons_tail b (number_of_bits (take 8 all)) (take (length rest) bytes) rest e' in
    let later : flags_of (drop 8 columns) bytes ≡ drop 8 all = nulls_told most (drop 8 columns) (drop 8 all) bytes (omega (arith, length-drop 8 all)) (allowed_drop 8 columns all h) tail in
    ap (λ (n : ℕ). flags_of columns (n ∷ bytes)) head ∙ told_first columns all bytes (omega arith) h ∙ ap (λ (f : List Bool). take 8 all ++ f) later ∙ take-append-drop 8 all

-- ---- the loop over the bytes

flags_more : (columns : List Column) (b : ℕ) (bytes : List ℕ) → flags_of columns (b ∷ bytes) ≡ flags_of_byte (take 8 columns) b ++ flags_of (drop 8 columns) bytes
flags_more [] b bytes = refl
flags_more (column ∷ columns) b bytes = flags_first (column ∷ columns) (b ∷ bytes) (omega arith)

pub flags_step : (now new total : List Bool) (columns eight later : List Column) (n : ℕ) (bytes : List ℕ) (i : ℕ) → now ++ flags_of columns (drop i bytes) ≡ total → i < length bytes → n ≡ min 8 (length columns) → eight ≡ take n columns → later ≡ drop n columns
    → new ≡ now ++ flags_of_byte eight (get_or bytes i 0) → new ++ flags_of later (drop (i + 1) bytes) ≡ total
flags_step now new total columns eight later n bytes i so_far lt is front back new_is =
    let eight_is : eight ≡ take 8 columns = front ∙ ap (λ (m : ℕ). take m columns) is ∙ take_min 8 columns in
    let later_is : later ≡ drop 8 columns = back ∙ ap (λ (m : ℕ). drop m columns) is ∙ drop_min 8 columns in
    let b : ℕ = get_or bytes i 0 in
    let rest : List ℕ = drop (i + 1) bytes in
    let told : flags_of columns (drop i bytes) ≡ flags_of_byte eight b ++ flags_of later rest =
    ap (flags_of columns) (drop_more bytes i 0 lt) ∙ flags_more columns b rest
    ∙ ap (λ (cs : List Column). flags_of_byte cs b ++ flags_of (drop 8 columns) rest) (sym eight_is)
    ∙ ap (λ (cs : List Column). flags_of_byte eight b ++ flags_of cs rest) (sym later_is) in
    ap (λ (f : List Bool). f ++ flags_of later rest) new_is ∙ append_assoc now (flags_of_byte eight b) (flags_of later rest) ∙ ap (λ (f : List Bool). now ++ f) (sym told) ∙ so_far
