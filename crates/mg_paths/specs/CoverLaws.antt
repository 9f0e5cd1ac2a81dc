-- A row that lies outside of the range of a plan is dropped by the filter, without a fault.
use Rattle.std.proofs.Common.{◌≡◌, ℕ, ◌+◌, ◌==◌, Bool, true, false, if◌then◌else◌, List, [], ◌∷◌, map, get_or, Option, Some, None, refl, sym, ap, subst, ◌∙◌, arith, add-one}
use Rattle.std.specs.Prelude.{neg_ℤ}
use Rattle.std.specs.Ordering.{is_ge, is_le, is_lt}
use Rattle.std.specs.declared.cmp.Ordering.{Ordering}
use Rattle.std.specs.declared.cmp.Ordering.TheVariants.{Less, Equal, Greater}
use Rattle.std.proofs.lemmas.Bool.{eqb-true}
use Rattle.mg_value.specs.declared.truth.Truth.{Truth}
use Rattle.mg_value.specs.declared.value.Value.{Value}
use Rattle.mg_value.specs.declared.value.Value.TheVariants as values
use Rattle.mg_value.specs.Values.{value_cmp, comparison}
use Rattle.mg_value.specs.Rows.{is_null}
use Rattle.mg_expr.specs.declared.expr.Sign.{Sign}
use Rattle.mg_expr.specs.declared.expr.Sign.TheVariants as signs
use Rattle.mg_expr.specs.Trees.{Tree, Trees, Or, And, Not, Compare, IsNull, IsNotNull, Sum, Product, Minus, Integer, Text, Null, Name, Column, end, also}
use Rattle.mg_expr.specs.Meaning.{Says, says, says_each, truth_in, value_in, gives, holds, within, fits, meets, compared, compares, truth_from}
use Rattle.mg_expr.specs.Filters.{passes, passes_all, and_passes}
use Rattle.mg_model.specs.declared.table.Index.{Index as AnyIndex}
use Rattle.mg_paths.specs.declared.parts.Serving.{Serving}
use Rattle.mg_paths.specs.declared.paths.Path.TheVariants as paths
use Rattle.mg_paths.specs.declared.range.Range.{Range}
use Rattle.mg_paths.specs.Covering.{PlansCover}
use Rattle.mg_paths.specs.Plans.{column_at, constant_in, first_index, greatest, has_high, has_low, least, listed, minus_in, narrowed, open_range, parts_in, plan_by, plan_from, plan_if, led, narrowed_by, range_on, run_on, serves_by, serving_if, serving_in, serving_of}
use Rattle.mg_paths.specs.Ranges.{is_above, is_below, lies_in}

-- ---- what a constant is, and what a serving part says

-- a constant is a value that it says of each row, and not NULL
record IsConstant (t : Tree) (row : List Value) (constant : Value) : Type 0 where
  pub said : value_in (says t row) ≡ Some constant
  pub there : is_null constant ≡ false

value_given : (o : Option Value) → value_in (gives o) ≡ o
value_given None = refl
value_given (Some value) = refl

within_there : (b : Bool) (value constant : Value) → is_null value ≡ false
    → (if b then Some value else None) ≡ Some constant → is_null constant ≡ false
within_there true value constant there e = let same : value ≡ constant = cc in rw (← same) there
within_there false value constant there e = absurd cc

none_is_no_constant : {G : Type 0} (constant : Value) → ◌≡◌ {A = Option Value} None (Some constant) → G
none_is_no_constant constant e = absurd cc

minus_constant : (t : Tree) (row : List Value) (constant : Value) → minus_in t ≡ Some constant → IsConstant (Minus t) row constant
minus_constant (Integer n) row constant e = record {
  said = value_given (within (neg_ℤ n)) ∙ e;
  there = within_there (fits (neg_ℤ n)) (values.Int (neg_ℤ n)) constant refl e;
}
minus_constant (Or ts) row constant e = none_is_no_constant constant e
minus_constant (And ts) row constant e = none_is_no_constant constant e
minus_constant (Not t) row constant e = none_is_no_constant constant e
minus_constant (Compare a sign b) row constant e = none_is_no_constant constant e
minus_constant (IsNull t) row constant e = none_is_no_constant constant e
minus_constant (IsNotNull t) row constant e = none_is_no_constant constant e
minus_constant (Sum t ps) row constant e = none_is_no_constant constant e
minus_constant (Product t ps) row constant e = none_is_no_constant constant e
minus_constant (Minus t) row constant e = none_is_no_constant constant e
minus_constant (Text text) row constant e = none_is_no_constant constant e
minus_constant Null row constant e = none_is_no_constant constant e
minus_constant (Name name) row constant e = none_is_no_constant constant e
minus_constant (Column place) row constant e = none_is_no_constant constant e

is_constant : (t : Tree) (row : List Value) (constant : Value) → constant_in t ≡ Some constant → IsConstant t row constant
is_constant (Integer n) row constant e = record { said = e; there = let same : values.Int n ≡ constant = cc in rw (← same) refl }
is_constant (Minus t) row constant e = minus_constant t row constant e
is_constant (Text text) row constant e = record { said = e; there = let same : values.Text text ≡ constant = cc in rw (← same) refl }
is_constant (Or ts) row constant e = none_is_no_constant constant e
is_constant (And ts) row constant e = none_is_no_constant constant e
is_constant (Not t) row constant e = none_is_no_constant constant e
is_constant (Compare a sign b) row constant e = none_is_no_constant constant e
is_constant (IsNull t) row constant e = none_is_no_constant constant e
is_constant (IsNotNull t) row constant e = none_is_no_constant constant e
is_constant (Sum t ps) row constant e = none_is_no_constant constant e
is_constant (Product t ps) row constant e = none_is_no_constant constant e
is_constant Null row constant e = none_is_no_constant constant e
is_constant (Name name) row constant e = none_is_no_constant constant e
is_constant (Column place) row constant e = none_is_no_constant constant e

-- a serving part says how its column compares with its constant, which is not NULL
record Serves (t : Tree) (row : List Value) (part : Serving) : Type 0 where
  pub said : truth_in (says t row) ≡ Some (compared part.sign (comparison (get_or row part.column values.Null) part.constant))
  pub there : is_null part.constant ≡ false

no_part : {G : Type 0} (part : Serving) → ◌≡◌ {A = Option Serving} None (Some part) → G
no_part part e = absurd cc

truth_held : (o : Option Truth) → truth_in (holds o) ≡ o
truth_held None = refl
truth_held (Some truth) = refl

column_serves : (place : ℕ) (sign : Sign) (t : Tree) (row : List Value) (part : Serving) (served : Bool) (constant : Option Value)
    → constant_in t ≡ constant → (if served then serving_if place sign constant else None) ≡ Some part
    → Serves (Compare (Column place) sign t) row part
column_serves place sign t row part false constant is e = no_part part e
column_serves place sign t row part true None is e = no_part part e
column_serves place sign t row part true (Some constant) is e =
    let k = is_constant t row constant is in
    let same : ◌≡◌ {A = Serving} (record { column = place; sign = sign; constant = constant }) part = cc in
    subst (Serves (Compare (Column place) sign t) row) same (record {
      said = truth_held (compares sign (Some (get_or row place values.Null)) (value_in (says t row)))
          ∙ ap (compares sign (Some (get_or row place values.Null))) k.said;
      there = k.there;
    })

comparison_serves : (s : Tree) (sign : Sign) (t : Tree) (row : List Value) (part : Serving)
    → serving_of s sign t ≡ Some part → Serves (Compare s sign t) row part
comparison_serves (Column place) sign t row part e = column_serves place sign t row part (serves_by sign) (constant_in t) refl e
comparison_serves (Or ts) sign t row part e = no_part part e
comparison_serves (And ts) sign t row part e = no_part part e
comparison_serves (Not s) sign t row part e = no_part part e
comparison_serves (Compare a other b) sign t row part e = no_part part e
comparison_serves (IsNull s) sign t row part e = no_part part e
comparison_serves (IsNotNull s) sign t row part e = no_part part e
comparison_serves (Sum s ps) sign t row part e = no_part part e
comparison_serves (Product s ps) sign t row part e = no_part part e
comparison_serves (Minus s) sign t row part e = no_part part e
comparison_serves (Integer n) sign t row part e = no_part part e
comparison_serves (Text text) sign t row part e = no_part part e
comparison_serves Null sign t row part e = no_part part e
comparison_serves (Name name) sign t row part e = no_part part e

serves : (t : Tree) (row : List Value) (part : Serving) → serving_in t ≡ Some part → Serves t row part
serves (Compare s sign t) row part e = comparison_serves s sign t row part e
serves (Or ts) row part e = no_part part e
serves (And ts) row part e = no_part part e
serves (Not t) row part e = no_part part e
serves (IsNull t) row part e = no_part part e
serves (IsNotNull t) row part e = no_part part e
serves (Sum t ps) row part e = no_part part e
serves (Product t ps) row part e = no_part part e
serves (Minus t) row part e = no_part part e
serves (Integer n) row part e = no_part part e
serves (Text text) row part e = no_part part e
serves Null row part e = no_part part e
serves (Name name) row part e = no_part part e
serves (Column place) row part e = no_part part e

-- ---- NULL is dropped by the first part, and each other value compares

unknown_with_null : (value constant : Value) → is_null value ≡ true → comparison value constant ≡ None
unknown_with_null values.Null constant e = refl
unknown_with_null (values.Int n) constant e = absurd cc
unknown_with_null (values.Text text) constant e = absurd cc

known_of_two : (value constant : Value) → is_null value ≡ false → is_null constant ≡ false
    → comparison value constant ≡ Some (value_cmp value constant)
known_of_two values.Null constant e there = absurd cc
known_of_two (values.Int n) values.Null e there = absurd cc
known_of_two (values.Int n) (values.Int m) e there = refl
known_of_two (values.Int n) (values.Text text) e there = refl
known_of_two (values.Text text) values.Null e there = absurd cc
known_of_two (values.Text text) (values.Int m) e there = refl
known_of_two (values.Text text) (values.Text other) e there = refl

-- ---- one part narrows a range by no value that meets it

above_chosen : (b : Bool) (low constant value : Value) → is_ge (value_cmp value low) ≡ true → is_ge (value_cmp value constant) ≡ true
    → is_above (if b then Some constant else Some low) value ≡ true
above_chosen true low constant value over more = more
above_chosen false low constant value over more = over

above_both : (low : Option Value) (constant value : Value) → is_above low value ≡ true → is_ge (value_cmp value constant) ≡ true
    → is_above (greatest low constant) value ≡ true
above_both None constant value over more = more
above_both (Some low) constant value over more = above_chosen (is_lt (value_cmp low constant)) low constant value over more

below_chosen : (b : Bool) (high constant value : Value) → is_le (value_cmp value high) ≡ true → is_le (value_cmp value constant) ≡ true
    → is_below (if b then Some constant else Some high) value ≡ true
below_chosen true high constant value under more = more
below_chosen false high constant value under more = under

below_both : (high : Option Value) (constant value : Value) → is_below high value ≡ true → is_le (value_cmp value constant) ≡ true
    → is_below (least high constant) value ≡ true
below_both None constant value under more = more
below_both (Some high) constant value under more = below_chosen (is_lt (value_cmp constant high)) high constant value under more

-- where a part that bounds from below is met, the value is at its constant or above; and from above
met_above : (sign : Sign) (order : Ordering) → has_low sign ≡ true → meets sign order ≡ true → is_ge order ≡ true
met_above signs.Equal Less has met = absurd cc
met_above signs.Equal Equal has met = refl
met_above signs.Equal Greater has met = refl
met_above signs.Unequal order has met = absurd cc
met_above signs.Less order has met = absurd cc
met_above signs.AtMost order has met = absurd cc
met_above signs.Greater Less has met = absurd cc
met_above signs.Greater Equal has met = refl
met_above signs.Greater Greater has met = refl
met_above signs.AtLeast order has met = met

met_below : (sign : Sign) (order : Ordering) → has_high sign ≡ true → meets sign order ≡ true → is_le order ≡ true
met_below signs.Equal Less has met = refl
met_below signs.Equal Equal has met = refl
met_below signs.Equal Greater has met = absurd cc
met_below signs.Unequal order has met = absurd cc
met_below signs.Less Less has met = refl
met_below signs.Less Equal has met = refl
met_below signs.Less Greater has met = absurd cc
met_below signs.AtMost order has met = met
met_below signs.Greater order has met = absurd cc
met_below signs.AtLeast order has met = absurd cc

-- a value lies between both ends
abbrev Between : Range → Value → Type 0
Between range value = (is_above range.low value ≡ true) × (is_below range.high value ≡ true)

raised_above : (b : Bool) (low : Option Value) (part : Serving) (value : Value) → has_low part.sign ≡ b
    → is_above low value ≡ true → meets part.sign (value_cmp value part.constant) ≡ true
    → is_above (if b then greatest low part.constant else low) value ≡ true
raised_above true low part value has over met =
    above_both low part.constant value over (met_above part.sign (value_cmp value part.constant) has met)
raised_above false low part value has over met = over

lowered_below : (b : Bool) (high : Option Value) (part : Serving) (value : Value) → has_high part.sign ≡ b
    → is_below high value ≡ true → meets part.sign (value_cmp value part.constant) ≡ true
    → is_below (if b then least high part.constant else high) value ≡ true
lowered_below true high part value has under met =
    below_both high part.constant value under (met_below part.sign (value_cmp value part.constant) has met)
lowered_below false high part value has under met = under

still_between : (range : Range) (part : Serving) (value : Value) → Between range value
    → meets part.sign (value_cmp value part.constant) ≡ true → Between (narrowed range part) value
still_between range part value both met = (
  raised_above (has_low part.sign) range.low part value refl both.0 met,
  lowered_below (has_high part.sign) range.high part value refl both.1 met,
)

-- ---- the leading run

abbrev told : List Value → List Tree → List Says
told row ts = map (λ (t : Tree). says t row) ts

-- the run drops the row, from each range on
abbrev Drops : ℕ → List Value → Value → List Tree → Type 0
Drops column row value ts = (range : Range) → Between range value → (Between (range_on column range ts) value → ⊥)
    → passes_all (told row ts) ≡ Some false

run_drops : (column : ℕ) (row : List Value) (value : Value) → get_or row column values.Null ≡ value → is_null value ≡ false
    → (range : Range) (ts : List Tree) → Between range value → (Between (range_on column range ts) value → ⊥)
    → passes_all (told row ts) ≡ Some false
run_drops column row value has there range [] inside outside = absurd (outside inside)
run_drops column row value has there range (t ∷ ts) inside outside =
    by_part (λ (next : Range). run_drops column row value has there next ts) (serving_in t) refl outside
  where
    met_or_not : Drops column row value ts → (part : Serving) → serving_in t ≡ Some part → part.column ≡ column → (met : Bool)
        → meets part.sign (value_cmp value part.constant) ≡ met
        → (Between (range_on column (narrowed range part) ts) value → ⊥) → passes_all (told row (t ∷ ts)) ≡ Some false
    met_or_not later part is same met meets_it outside =
        let k = serves t row part is in
        let order : comparison (get_or row part.column values.Null) part.constant ≡ Some (value_cmp value part.constant) =
        ap (λ (c : ℕ). comparison (get_or row c values.Null) part.constant) same
        ∙ ap (λ (v : Value). comparison v part.constant) has ∙ known_of_two value part.constant there k.there in
        let truth : truth_in (says t row) ≡ Some (truth_from met) =
        k.said ∙ ap (λ (o : Option Ordering). Some (compared part.sign o)) order
        ∙ ap (λ (b : Bool). Some (truth_from b)) meets_it in
        ap (λ (o : Option Truth). and_passes o (passes_all (told row ts))) truth ∙ by_truth met meets_it outside
      where
        by_truth : (met : Bool) → meets part.sign (value_cmp value part.constant) ≡ met
            → (Between (range_on column (narrowed range part) ts) value → ⊥)
            → and_passes (Some (truth_from met)) (passes_all (told row ts)) ≡ Some false
        by_truth false is outside = refl
        by_truth true is outside =
            later (narrowed range part) (still_between range part value inside is) outside

    by_column : Drops column row value ts → (part : Serving) → serving_in t ≡ Some part → (same : Bool) → (part.column == column) ≡ same
        → (Between (narrowed_by range (if same then part ∷ run_on column ts else [])) value → ⊥)
        → passes_all (told row (t ∷ ts)) ≡ Some false
    by_column later part is false e outside = absurd (outside inside)
    by_column later part is true e outside =
        met_or_not later part is (eqb-true part.column column e) (meets part.sign (value_cmp value part.constant)) refl outside

    by_part : Drops column row value ts → (part : Option Serving) → serving_in t ≡ part → (Between (narrowed_by range (led column part (run_on column ts))) value → ⊥)
        → passes_all (told row (t ∷ ts)) ≡ Some false
    by_part later None is outside = absurd (outside inside)
    by_part later (Some part) is outside = by_column later part is (part.column == column) refl outside

-- ---- the filter

null_drops : (t : Tree) (ts : List Tree) (row : List Value) (part : Serving) → serving_in t ≡ Some part
    → is_null (get_or row part.column values.Null) ≡ true → passes_all (told row (t ∷ ts)) ≡ Some false
null_drops t ts row part is null =
    let k = serves t row part is in
    ap (λ (o : Option Truth). and_passes o (passes_all (told row ts)))
    (k.said ∙ ap (λ (o : Option Ordering). Some (compared part.sign o))
    (unknown_with_null (get_or row part.column values.Null) part.constant null))

not_between : (range : Range) (value : Value) → is_null value ≡ false → lies_in range value ≡ false → Between range value → ⊥
not_between range value there outside both =
    let all : lies_in range value ≡ true = rw (there, both.0, both.1) refl in
    let absent : ◌≡◌ {A = Bool} true false = sym all ∙ outside in absurd cc

open_holds : (value : Value) → Between open_range value
open_holds value = (refl, refl)

-- the first index on a column is on it
record Found (at : ℕ) (indexes : List AnyIndex) (column place : ℕ) : Type 0 where
  pub on : ℕ
  pub place_is : place ≡ at + on
  pub column_is : column_at indexes on ≡ column

index_found : (at : ℕ) (indexes : List AnyIndex) (column place : ℕ) → first_index at indexes column ≡ Some place
    → Found at indexes column place
index_found at [] column place e = absurd cc
index_found at (index ∷ later) column place e = by (index_found (at + 1) later column place) (index.column == column) refl e
  where
    by : (first_index (at + 1) later column ≡ Some place → Found (at + 1) later column place)
        → (same : Bool) → (index.column == column) ≡ same
        → (if same then Some at else first_index (at + 1) later column) ≡ Some place → Found at (index ∷ later) column place
    by behind true is e =
        let here : at ≡ place = cc in
        record { on = 0; place_is = omega (arith, here); column_is = eqb-true index.column column is }
    by behind false is e =
        let k = behind e in
        record { on = k.on + 1; place_is = omega (arith, k.place_is); column_is = rw (add-one k.on) k.column_is }

parts_drop : (indexes : List AnyIndex) (ts : List Tree) (place : ℕ) (range : Range) (row : List Value)
    → plan_by indexes ts ≡ paths.Index place range
    → lies_in range (get_or row (column_at indexes place) values.Null) ≡ false → passes_all (told row ts) ≡ Some false
parts_drop indexes [] place range row e outside = absurd cc
parts_drop indexes (t ∷ ts) place range row e outside = by_part (serving_in t) refl e
  where
    by_null : (part : Serving) → serving_in t ≡ Some part → range_on part.column open_range (t ∷ ts) ≡ range
        → column_at indexes place ≡ part.column → (null : Bool) → is_null (get_or row part.column values.Null) ≡ null
        → passes_all (told row (t ∷ ts)) ≡ Some false
    by_null part is ranges on true null = null_drops t ts row part is null
    by_null part is ranges on false there =
        let out : lies_in (range_on part.column open_range (t ∷ ts)) (get_or row part.column values.Null) ≡ false =
        rw (ranges, ← on) outside in
        run_drops part.column row (get_or row part.column values.Null) refl there open_range (t ∷ ts)
        (open_holds (get_or row part.column values.Null))
        (not_between (range_on part.column open_range (t ∷ ts)) (get_or row part.column values.Null) there out)

    by_index : (part : Serving) → serving_in t ≡ Some part → (first : Option ℕ) → first_index 0 indexes part.column ≡ first
        → plan_if first part.column (t ∷ ts) ≡ paths.Index place range → passes_all (told row (t ∷ ts)) ≡ Some false
    by_index part is None first e = absurd cc
    by_index part is (Some at) first e =
        let here : at ≡ place = cc in
        let ranges : range_on part.column open_range (t ∷ ts) ≡ range = cc in
        let k = index_found 0 indexes part.column at first in
        let on : column_at indexes place ≡ part.column =
        ap (column_at indexes) (omega (arith, here, k.place_is)) ∙ k.column_is in
        by_null part is ranges on (is_null (get_or row part.column values.Null)) refl

    by_part : (part : Option Serving) → serving_in t ≡ part → plan_from part indexes (t ∷ ts) ≡ paths.Index place range
        → passes_all (told row (t ∷ ts)) ≡ Some false
    by_part None is e = absurd cc
    by_part (Some part) is e = by_index part is (first_index 0 indexes part.column) refl e

each_told : (ts : Trees) (row : List Value) → says_each ts row ≡ told row (listed ts)
each_told end row = refl
each_told (also t ts) row = ap (λ (ss : List Says). says t row ∷ ss) (each_told ts row)

by_parts : (t : Tree) (row : List Value) → passes t row ≡ passes_all (told row (parts_in t))
by_parts (And ts) row = ap passes_all (each_told ts row)
by_parts (Or ts) row = refl
by_parts (Not t) row = refl
by_parts (Compare a sign b) row = refl
by_parts (IsNull t) row = refl
by_parts (IsNotNull t) row = refl
by_parts (Sum t ps) row = refl
by_parts (Product t ps) row = refl
by_parts (Minus t) row = refl
by_parts (Integer n) row = refl
by_parts (Text text) row = refl
by_parts Null row = refl
by_parts (Name name) row = refl
by_parts (Column place) row = refl

pub plans_cover : PlansCover
plans_cover indexes filter place range row e outside =
    by_parts filter row ∙ parts_drop indexes (parts_in filter) place range row e outside
