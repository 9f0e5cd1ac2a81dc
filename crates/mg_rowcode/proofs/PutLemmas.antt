-- The loops that write and read the parts of a row one after another.
use Rattle.std.proofs.Common.{◌≡◌, ℕ, ◌+◌, ◌<◌, ◌≤◌, arith, Bool, List, [], ◌∷◌, ◌++◌, length, take, drop, replicate, get_or, sym, ap, subst, ◌∙◌, append-nil, append_assoc}
use Rattle.std.specs.List.{sum_by}
use Rattle.std.proofs.lemmas.List.{drop_more, drop_all, length-drop, replicate_more, nil_from_length}
use Rattle.std.proofs.lemmas.List.Sums.{sum_by-cons}
use Rattle.mg_value.specs.declared.shape.Column.{Column}
use Rattle.mg_value.specs.declared.value.Value.{Value}
use Rattle.mg_value.specs.Rows.{FitsColumn, RowFits, value_bytes, values_bytes, width_of}
use Rattle.mg_rowcode.specs.Reading.{value_in, values_in}

-- the column at a place, and those behind it
pub columns_here : (columns : List Column) (i : ℕ) (column : Column) → i < length columns
    → column ≡ get_or columns i column → drop i columns ≡ column ∷ drop (i + 1) columns
columns_here columns i column below is =
    drop_more columns i column below ∙ ap (λ (c : Column). c ∷ drop (i + 1) columns) (sym is)

-- the value of a column fits it, and the later values fit the later columns
pub fits_here : (columns : List Column) (i : ℕ) (column : Column) (rest later : List Value) (value : Value)
    → i < length columns → column ≡ get_or columns i column → RowFits (drop i columns) rest
    → rest ≡ value ∷ later → FitsColumn column value × RowFits (drop (i + 1) columns) later
fits_here columns i column rest later value below is fits front =
    subst (λ (vs : List Value). RowFits (column ∷ drop (i + 1) columns) vs) front
    (subst (λ (cs : List Column). RowFits cs rest) (columns_here columns i column below is) fits)

-- the bytes of one value more
pub value_put : (columns : List Column) (i : ℕ) (column : Column) (rest later : List Value) (value : Value)
    (out more whole : List ℕ) → i < length columns → column ≡ get_or columns i column
    → out ++ values_bytes (drop i columns) rest ≡ whole → rest ≡ value ∷ later
    → more ≡ out ++ value_bytes column.kind value
    → more ++ values_bytes (drop (i + 1) columns) later ≡ whole
value_put columns i column rest later value out more whole below is complete front put =
    ap (λ (xs : List ℕ). xs ++ values_bytes (drop (i + 1) columns) later) put
    ∙ append_assoc out (value_bytes column.kind value) (values_bytes (drop (i + 1) columns) later)
    ∙ sym (ap (λ (cs : List Column). out ++ values_bytes cs rest) (columns_here columns i column below is)
    ∙ ap (λ (vs : List Value). out ++ values_bytes (column ∷ drop (i + 1) columns) vs) front)
    ∙ complete

-- no column is left
pub values_put : (columns : List Column) (i : ℕ) (rest : List Value) (out whole : List ℕ) → length columns ≤ i
    → out ++ values_bytes (drop i columns) rest ≡ whole → out ≡ whole
values_put columns i rest out whole past complete =
    sym (ap (λ (cs : List Column). out ++ values_bytes cs rest) (drop_all i columns past) ∙ append-nil out)
    ∙ complete

-- a column has a value
pub no_value_lacks : (columns : List Column) (i : ℕ) (column : Column) (rest : List Value)
    → i < length columns → column ≡ get_or columns i column → RowFits (drop i columns) rest
    → length rest ≡ 0 → ⊥
no_value_lacks columns i column rest below is fits none =
    subst (λ (vs : List Value). RowFits (column ∷ drop (i + 1) columns) vs) (nil_from_length rest none)
    (subst (λ (cs : List Column). RowFits cs rest) (columns_here columns i column below is) fits)

-- one more of the same
pub one_more : {A : Type 0} (old out new : List A) (n : ℕ) (x : A) → out ≡ old ++ replicate n x
    → new ≡ out ++ x ∷ [] → new ≡ old ++ replicate (n + 1) x
one_more {A} old out new n x before put =
    put ∙ ap (λ (xs : List A). xs ++ x ∷ []) before ∙ append_assoc old (replicate n x) (x ∷ [])
    ∙ ap (λ (xs : List A). old ++ xs) (replicate_more n x)

-- the bytes of a column's value, and those of the later ones
pub room_here : (columns : List Column) (i : ℕ) (column : Column) (rest : List ℕ) (n : ℕ) → i < length columns
    → column ≡ get_or columns i column → sum_by (λ c. width_of c.kind) (drop i columns) ≤ length rest
    → n ≡ width_of column.kind → n ≤ length rest
room_here columns i column rest n below is room width =
    let sum = ap (sum_by (λ (c : Column). width_of c.kind)) (columns_here columns i column below is)
    ∙ sum_by-cons (λ (c : Column). width_of c.kind) column (drop (i + 1) columns) in
    omega (arith, sum, room, width)

pub room_later : (columns : List Column) (i : ℕ) (column : Column) (rest later : List ℕ) (n : ℕ)
    → i < length columns → column ≡ get_or columns i column
    → sum_by (λ c. width_of c.kind) (drop i columns) ≤ length rest → n ≡ width_of column.kind
    → later ≡ drop n rest → sum_by (λ c. width_of c.kind) (drop (i + 1) columns) ≤ length later
room_later columns i column rest later n below is room width back =
    let sum = ap (sum_by (λ (c : Column). width_of c.kind)) (columns_here columns i column below is)
    ∙ sum_by-cons (λ (c : Column). width_of c.kind) column (drop (i + 1) columns) in
    let long = ap (length {A = ℕ}) back ∙ length-drop n rest in
    omega (arith, sum, room, width, long)

-- one value more is read
pub value_read : (columns : List Column) (i : ℕ) (column : Column) (flags : List Bool) (d : Bool)
    (rest front later : List ℕ) (n : ℕ) (values new whole : List Value) (value : Value) → i < length columns
    → column ≡ get_or columns i column → i < length flags → n ≡ width_of column.kind → front ≡ take n rest
    → later ≡ drop n rest → value ≡ value_in column.kind (get_or flags i d) front → new ≡ values ++ value ∷ []
    → values ++ values_in (drop i columns) (drop i flags) rest ≡ whole
    → new ++ values_in (drop (i + 1) columns) (drop (i + 1) flags) later ≡ whole
value_read columns i column flags d rest front later n values new whole value below is inside width fronts
    back read put complete =
    let cs : List Column = drop (i + 1) columns in
    let fs : List Bool = drop (i + 1) flags in
    let flag : Bool = get_or flags i d in
    let here : drop i flags ≡ flag ∷ fs = drop_more flags i d inside in
    ap (λ (vs : List Value). vs ++ values_in cs fs later) put
    ∙ append_assoc values (value ∷ []) (values_in cs fs later)
    ∙ ap (λ (v : Value). values ++ v ∷ values_in cs fs later) (read ∙ ap (value_in column.kind flag) fronts)
    ∙ ap (λ (bytes : List ℕ). values ++ value_in column.kind flag (take n rest) ∷ values_in cs fs bytes) back
    ∙ ap (λ (m : ℕ). values ++ value_in column.kind flag (take m rest) ∷ values_in cs fs (drop m rest)) width
    ∙ sym (ap (λ (xs : List Column). values ++ values_in xs (drop i flags) rest)
    (columns_here columns i column below is)
    ∙ ap (λ (bs : List Bool). values ++ values_in (column ∷ cs) bs rest) here)
    ∙ complete

pub values_read : (columns : List Column) (i : ℕ) (flags : List Bool) (rest : List ℕ) (values whole : List Value)
    → length columns ≤ i → values ++ values_in (drop i columns) (drop i flags) rest ≡ whole → values ≡ whole
values_read columns i flags rest values whole past complete =
    sym (ap (λ (cs : List Column). values ++ values_in cs (drop i flags) rest) (drop_all i columns past)
    ∙ append-nil values) ∙ complete
