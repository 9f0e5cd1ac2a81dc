-- What rows a list of changes has: by key, and in key order.
use Rattle.std.specs.Prelude.{◌≡◌, ℕ, ◌&&◌, Bool, true, false, List, [], ◌∷◌, ◌++◌, Option, Some, None, cond, refl}
use Rattle.std.proofs.Common.{sym, ◌∙◌, ap, subst}
use Rattle.std.proofs.lemmas.Bool.{false≢true}
use Rattle.std.specs.Ordering.{is_eq, ordering_reverse}
use Rattle.std.specs.declared.cmp.Ordering.{Ordering}
use Rattle.std.specs.declared.cmp.Ordering.TheVariants.{Less, Equal, Greater}
use Rattle.std.proofs.lemmas.Cmp.{tied_itself}
use Rattle.mg_value.specs.declared.value.Value.{Value}
use Rattle.mg_value.specs.Values.{value_cmp}
use Rattle.mg_value.specs.OrderLaws.{value_cmp_total, same_from_value_cmp}
use Rattle.mg_model.specs.declared.change.Change.{Change}
use Rattle.mg_model.specs.Changes.{Cells, same_name, same_key, is_at, has_change, row_at, KeyedRows, with_row, by_order, put_row, rows_of}

-- ---- by key

-- where changes come before others, they have a key's row if one of them is of it
pub row_at-append : (xs ys : List Change) (table : List ℕ) (key : Value)
    → row_at (xs ++ ys) table key
    ≡ cond (has_change xs table key) (row_at xs table key) (row_at ys table key)
row_at-append [] ys table key = refl
row_at-append (x ∷ xs) ys table key = at (is_at x table key) (row_at-append xs ys table key)
  where
    at : (b : Bool)
        → row_at (xs ++ ys) table key
        ≡ cond (has_change xs table key) (row_at xs table key) (row_at ys table key)
        → cond b x.row (row_at (xs ++ ys) table key)
        ≡ cond (cond b true (has_change xs table key)) (cond b x.row (row_at xs table key))
        (row_at ys table key)
    at true more = refl
    at false more = more

pub has_change-append : (xs ys : List Change) (table : List ℕ) (key : Value)
    → has_change (xs ++ ys) table key
    ≡ cond (has_change xs table key) true (has_change ys table key)
has_change-append [] ys table key = refl
has_change-append (x ∷ xs) ys table key = at (is_at x table key) (has_change-append xs ys table key)
  where
    at : (b : Bool)
        → has_change (xs ++ ys) table key
        ≡ cond (has_change xs table key) true (has_change ys table key)
        → cond b true (has_change (xs ++ ys) table key)
        ≡ cond (cond b true (has_change xs table key)) true (has_change ys table key)
    at true more = refl
    at false more = more

-- ---- keys in order

-- a key is less than each key of the rows
abbrev pub IsBelow : Value → KeyedRows → Type 0
IsBelow key [] = Unit {0}
IsBelow key (r ∷ rows) = (value_cmp key r.0 ≡ Less) × IsBelow key rows

-- keys ascend strictly
abbrev pub IsAscending : KeyedRows → Type 0
IsAscending [] = Unit {0}
IsAscending (r ∷ rows) = IsBelow r.0 rows × IsAscending rows

-- the row with a key
abbrev pub row_in : KeyedRows → Value → Option Cells
row_in [] key = None
row_in (r ∷ rows) key = cond (same_key r.0 key) (Some r.1) (row_in rows key)

equal_from_is_eq : (order : Ordering) → is_eq order ≡ true → order ≡ Equal
equal_from_is_eq Less is = absurd (false≢true is)
equal_from_is_eq Equal is = refl
equal_from_is_eq Greater is = absurd (false≢true is)

pub same_from_same_key : (a b : Value) → same_key a b ≡ true → a ≡ b
same_from_same_key a b is = same_from_value_cmp a b (equal_from_is_eq (value_cmp a b) is)

less_from_greater : (a b : Value) → value_cmp a b ≡ Greater → value_cmp b a ≡ Less
less_from_greater a b is = value_cmp_total.antisymm b a ∙ ap ordering_reverse is

below_less : (a b : Value) (rows : KeyedRows) → value_cmp a b ≡ Less → IsBelow b rows
    → IsBelow a rows
below_less a b [] less below = tt
below_less a b (r ∷ rows) less below =
    (value_cmp_total.trans a b r.0 less below.0, below_less a b rows less below.1)

below_with_row : (a key : Value) (row : Option Cells) (rows : KeyedRows)
    → value_cmp a key ≡ Less → IsBelow a rows → IsBelow a (with_row key row rows)
below_with_row a key None rows less below = below
below_with_row a key (Some row) rows less below = (less, below)

below_put_row : (a key : Value) (row : Option Cells) (rows : KeyedRows)
    → value_cmp a key ≡ Less → IsBelow a rows → IsBelow a (put_row key row rows)
below_put_row a key row [] less below = below_with_row a key row [] less tt
below_put_row a key row (r ∷ rows) less below =
    at (value_cmp key r.0) (below_put_row a key row rows less below.1)
  where
    at : (order : Ordering) → IsBelow a (put_row key row rows)
        → IsBelow a (by_order order (with_row key row (r ∷ rows)) (with_row key row rows)
        (r ∷ put_row key row rows))
    at Less more = below_with_row a key row (r ∷ rows) less below
    at Equal more = below_with_row a key row rows less below.1
    at Greater more = (below.0, more)

ascending_with_row : (key : Value) (row : Option Cells) (rows : KeyedRows)
    → IsBelow key rows → IsAscending rows → IsAscending (with_row key row rows)
ascending_with_row key None rows below ascends = ascends
ascending_with_row key (Some row) rows below ascends = (below, ascends)

below_same : (a b : Value) (rows : KeyedRows) → value_cmp a b ≡ Equal → IsBelow b rows
    → IsBelow a rows
below_same a b rows same below =
    let P : Value → Type 0 = λ v. IsBelow v rows in
    subst P (sym (same_from_value_cmp a b same)) below

ascending_put_row : (key : Value) (row : Option Cells) (rows : KeyedRows)
    → IsAscending rows → IsAscending (put_row key row rows)
ascending_put_row key row [] ascends = ascending_with_row key row [] tt tt
ascending_put_row key row (r ∷ rows) ascends =
    at (value_cmp key r.0) refl (ascending_put_row key row rows ascends.1)
  where
    at : (order : Ordering) → value_cmp key r.0 ≡ order → IsAscending (put_row key row rows)
        → IsAscending (by_order order (with_row key row (r ∷ rows)) (with_row key row rows)
        (r ∷ put_row key row rows))
    at Less is more =
        ascending_with_row key row (r ∷ rows) (is, below_less key r.0 rows is ascends.0) ascends
    at Equal is more =
        ascending_with_row key row rows (below_same key r.0 rows is ascends.0) ascends.1
    at Greater is more =
        (below_put_row r.0 key row rows (less_from_greater key r.0 is) ascends.0, more)

-- the rows of a table come in ascending key order, and no key twice
pub rows_of_ascend : (cs : List Change) (table : List ℕ) → IsAscending (rows_of cs table)
rows_of_ascend [] table = tt
rows_of_ascend (c ∷ cs) table = at (same_name c.table table) (rows_of_ascend cs table)
  where
    at : (b : Bool) → IsAscending (rows_of cs table)
        → IsAscending (cond b (put_row c.key c.row (rows_of cs table)) (rows_of cs table))
    at true more = ascending_put_row c.key c.row (rows_of cs table) more
    at false more = more

-- ---- a row among the rows in order

-- what is less than all keys is none of them
none_below : (key : Value) (rows : KeyedRows) → IsBelow key rows → row_in rows key ≡ None
none_below key [] below = refl
none_below key (r ∷ rows) below =
    let back : value_cmp r.0 key ≡ Greater =
    value_cmp_total.antisymm r.0 key ∙ ap ordering_reverse below.0 in
    rw back (none_below key rows below.1)

row_in-with_row : (k key : Value) (row : Option Cells) (rows : KeyedRows) → IsBelow k rows
    → row_in (with_row k row rows) key ≡ cond (same_key k key) row (row_in rows key)
row_in-with_row k key (Some row) rows below = refl
row_in-with_row k key None rows below = at (same_key k key) refl
  where
    at : (b : Bool) → same_key k key ≡ b → row_in rows key ≡ cond b None (row_in rows key)
    at true is =
        let P : Value → Type 0 = λ v. IsBelow v rows in
        none_below key rows (subst P (same_from_same_key k key is) below)
    at false is = refl

not_greater : (a b : Value) → value_cmp a b ≡ Greater → a ≡ b → ⊥
not_greater a b is same =
    let itself : value_cmp a b ≡ Equal =
    ap (λ v. value_cmp a v) (sym same) ∙ tied_itself value_cmp_total a in
    cc

row_in-put_row : (k key : Value) (row : Option Cells) (rows : KeyedRows) → IsAscending rows
    → row_in (put_row k row rows) key ≡ cond (same_key k key) row (row_in rows key)
row_in-put_row k key row [] ascends = row_in-with_row k key row [] tt
row_in-put_row k key row (r ∷ rows) ascends =
    at (value_cmp k r.0) refl (row_in-put_row k key row rows ascends.1)
  where
    twice : (b : Bool) (x y z : Option Cells) → cond b x (cond b y z) ≡ cond b x z
    twice true x y z = refl
    twice false x y z = refl

    apart : (a b : Bool) (x y z : Option Cells) → (a ≡ true → b ≡ true → ⊥)
        → cond a x (cond b y z) ≡ cond b y (cond a x z)
    apart true true x y z no_both = absurd (no_both refl refl)
    apart true false x y z no_both = refl
    apart false b x y z no_both = refl

    at : (order : Ordering) → value_cmp k r.0 ≡ order
        → row_in (put_row k row rows) key ≡ cond (same_key k key) row (row_in rows key)
        → row_in (by_order order (with_row k row (r ∷ rows)) (with_row k row rows)
        (r ∷ put_row k row rows)) key
        ≡ cond (same_key k key) row (row_in (r ∷ rows) key)
    at Less is more =
        row_in-with_row k key row (r ∷ rows) (is, below_less k r.0 rows is ascends.0)
    at Equal is more =
        let same : k ≡ r.0 = same_from_value_cmp k r.0 is in
        row_in-with_row k key row rows (below_same k r.0 rows is ascends.0)
        ∙ sym (twice (same_key k key) row (Some r.1) (row_in rows key))
        ∙ ap (λ v. cond (same_key k key) row
        (cond (same_key v key) (Some r.1) (row_in rows key))) same
    at Greater is more =
        ap (λ found. cond (same_key r.0 key) (Some r.1) found) more
        ∙ apart (same_key r.0 key) (same_key k key) (Some r.1) row (row_in rows key)
        (λ one two. not_greater k r.0 is
        (same_from_same_key k key two ∙ sym (same_from_same_key r.0 key one)))

-- the row with a key among them is the one that the changes have at it
pub row_in-rows_of : (cs : List Change) (table : List ℕ) (key : Value)
    → row_in (rows_of cs table) key ≡ row_at cs table key
row_in-rows_of [] table key = refl
row_in-rows_of (c ∷ cs) table key = at (same_name c.table table) (row_in-rows_of cs table key)
  where
    at : (b : Bool) → row_in (rows_of cs table) key ≡ row_at cs table key
        → row_in (cond b (put_row c.key c.row (rows_of cs table)) (rows_of cs table)) key
        ≡ cond (b && same_key c.key key) c.row (row_at cs table key)
    at true more =
        row_in-put_row c.key key c.row (rows_of cs table) (rows_of_ascend cs table)
        ∙ ap (λ found. cond (same_key c.key key) c.row found) more
    at false more = more
