-- The plan of a filter.
use Rattle.std.specs.Prelude.{ℕ, ◌+◌, neg_ℤ, ◌==◌, Bool, true, false, if◌then◌else◌, List, [], ◌∷◌, map, get_or, Option, Some, None}
use Rattle.std.specs.Ordering.{is_lt}
use Rattle.mg_value.specs.declared.value.Value.{Value}
use Rattle.mg_value.specs.declared.value.Value.TheVariants as values
use Rattle.mg_value.specs.Values.{value_cmp}
use Rattle.mg_expr.specs.declared.expr.Sign.{Sign}
use Rattle.mg_expr.specs.declared.expr.Sign.TheVariants as signs
use Rattle.mg_expr.specs.Meaning.{within}
use Rattle.mg_expr.specs.Trees.{Tree, Trees, And, Compare, Minus, Integer, Text, Column, end, also}
use Rattle.mg_model.specs.declared.table.Index.{Index as AnyIndex}
use Rattle.mg_paths.specs.declared.parts.Serving.{Serving}
use Rattle.mg_paths.specs.declared.paths.Path.{Path}
use Rattle.mg_paths.specs.declared.paths.Path.TheVariants as paths
use Rattle.mg_paths.specs.declared.range.Range.{Range}

-- the constant that a minus before a tree makes: the negative of an integer that has one in 64 bits
abbrev pub minus_in : Tree → Option Value
minus_in (Integer n) = within (neg_ℤ n)
minus_in t = None

-- the constant that a tree is: an integer, one minus before an integer, or a text
abbrev pub constant_in : Tree → Option Value
constant_in (Integer n) = Some (values.Int n)
constant_in (Minus t) = minus_in t
constant_in (Text text) = Some (values.Text text)
constant_in t = None

-- an index can serve comparisons by each sign but one
abbrev pub serves_by : Sign → Bool
serves_by signs.Equal = true
serves_by signs.Unequal = false
serves_by signs.Less = true
serves_by signs.AtMost = true
serves_by signs.Greater = true
serves_by signs.AtLeast = true

-- the serving part of this column and this constant, where there is one
abbrev pub serving_if : ℕ → Sign → Option Value → Option Serving
serving_if column sign None = None
serving_if column sign (Some constant) = Some (record { column = column; sign = sign; constant = constant })

-- the serving part that a comparison is: of a column, on its left, with a constant
abbrev pub serving_of : Tree → Sign → Tree → Option Serving
serving_of (Column place) sign t = if serves_by sign then serving_if place sign (constant_in t) else None
serving_of s sign t = None

-- the serving part that a part of a filter is, if it is one
abbrev pub serving_in : Tree → Option Serving
serving_in (Compare left sign right) = serving_of left sign right
serving_in t = None

-- trees in a row as a list
abbrev pub listed : Trees → List Tree
listed end = []
listed (also t ts) = t ∷ listed ts

-- the parts of a filter: those of the AND at its top, else the filter itself
abbrev pub parts_in : Tree → List Tree
parts_in (And ts) = listed ts
parts_in t = t ∷ []

-- the part bounds its column from below
abbrev pub has_low : Sign → Bool
has_low signs.Equal = true
has_low signs.Unequal = false
has_low signs.Less = false
has_low signs.AtMost = false
has_low signs.Greater = true
has_low signs.AtLeast = true

-- the part bounds its column from above
abbrev pub has_high : Sign → Bool
has_high signs.Equal = true
has_high signs.Unequal = false
has_high signs.Less = true
has_high signs.AtMost = true
has_high signs.Greater = false
has_high signs.AtLeast = false

-- the greater of a low end and a constant
abbrev pub greatest : Option Value → Value → Option Value
greatest None constant = Some constant
greatest (Some low) constant = if is_lt (value_cmp low constant) then Some constant else Some low

-- the lesser of a high end and a constant
abbrev pub least : Option Value → Value → Option Value
least None constant = Some constant
least (Some high) constant = if is_lt (value_cmp constant high) then Some constant else Some high

-- a low end raised, and a high end lowered, by a serving part
abbrev pub raised : Option Value → Serving → Option Value
raised low part = if has_low part.sign then greatest low part.constant else low

abbrev pub lowered : Option Value → Serving → Option Value
lowered high part = if has_high part.sign then least high part.constant else high

-- a range narrowed by a serving part
abbrev pub narrowed : Range → Serving → Range
narrowed range part = record { low = raised range.low part; high = lowered range.high part }

-- a serving part in front of those behind it, where it is one on this column; else there is none
abbrev pub led : ℕ → Option Serving → List Serving → List Serving
led column None later = []
led column (Some part) later = if part.column == column then part ∷ later else []

-- the longest leading run of serving parts on a column
abbrev pub run_on : ℕ → List Tree → List Serving
run_on column [] = []
run_on column (t ∷ ts) = led column (serving_in t) (run_on column ts)

-- a range narrowed by several serving parts
abbrev pub narrowed_by : Range → List Serving → Range
narrowed_by range [] = range
narrowed_by range (part ∷ parts) = narrowed_by (narrowed range part) parts

-- a range narrowed by the longest leading run of serving parts on a column
abbrev pub range_on : ℕ → Range → List Tree → Range
range_on column range ts = narrowed_by range (run_on column ts)

-- the range that is open at both ends
abbrev pub open_range : Range
open_range = record { low = None; high = None }

-- the place of the first index on a column, where the indexes are counted from a place
abbrev pub first_index : ℕ → List AnyIndex → ℕ → Option ℕ
first_index place [] column = None
first_index place (index ∷ later) column =
    if index.column == column then Some place else first_index (place + 1) later column

-- through the index at a place, in the range of the parts; where there is none, all records are visited
abbrev pub plan_if : Option ℕ → ℕ → List Tree → Path
plan_if None column parts = paths.Natural
plan_if (Some place) column parts = paths.Index place (range_on column open_range parts)

-- the plan by the first part of a filter
abbrev pub plan_from : Option Serving → List AnyIndex → List Tree → Path
plan_from None indexes parts = paths.Natural
plan_from (Some part) indexes parts = plan_if (first_index 0 indexes part.column) part.column parts

-- the plan of the parts of a filter
abbrev pub plan_by : List AnyIndex → List Tree → Path
plan_by indexes [] = paths.Natural
plan_by indexes (t ∷ ts) = plan_from (serving_in t) indexes (t ∷ ts)

-- the plan of a filter over a table with these indexes
abbrev pub plan_of : List AnyIndex → Option Tree → Path
plan_of indexes None = paths.Natural
plan_of indexes (Some filter) = plan_by indexes (parts_in filter)

-- the column of the index at a place, 0 past the last one
abbrev pub column_at : List AnyIndex → ℕ → ℕ
column_at indexes place = get_or (map (λ (index : AnyIndex). index.column) indexes) place 0
