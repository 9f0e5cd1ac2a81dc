-- What is tested of a statement before a row is read, and what it is once it is bound.
use Rattle.std.specs.Prelude.{ℕ, ◌==◌, ◌&&◌, Bool, true, false, List, [], ◌∷◌, length, map, count_by, Option, Some, None}
use Rattle.std.specs.List.{list_all, list_any}
use Rattle.mg_value.specs.declared.shape.Column.{Column}
use Rattle.mg_value.specs.Rows.{row_len_of}
use Rattle.mg_expr.specs.Trees.{Tree}
use Rattle.mg_expr.specs.Typing.{fits_integer, fits_value, sort_of}
use Rattle.mg_statements.specs.declared.statement.Sorted.{Sorted}
use Rattle.mg_statements.specs.Plain.{Total, Count, SumOf, Plain, Table, Insert, Update, Delete, Totals, Select}
use Rattle.mg_plan.specs.Names.{place_of, place_or_0, is_column, places_from}
use Rattle.mg_plan.specs.Binding.{is_known, bound, is_filter_known, bound_filter}
use Rattle.mg_plan.specs.Types.{fit_places, is_filter_truth}
use Rattle.mg_plan.specs.Shapes.{column_of, key_len}

-- ---- the columns that it names

-- in a list, or in the shape of a new table
abbrev pub columns_listed : Plain → List (List ℕ)
columns_listed (Table name defs) = map (λ d. d.name) defs
columns_listed (Insert table (Some names) values) = names
columns_listed (Update table sets filter) = map (λ set. set.0) sets
columns_listed s = []

-- how many columns a new table has
abbrev pub count_defined : Plain → ℕ
count_defined (Table name defs) = length defs
count_defined s = 0

abbrev pub is_sort_known : List Column → Option Sorted → Bool
is_sort_known columns None = true
is_sort_known columns (Some sorted) = is_column columns sorted.column

abbrev pub is_total_known : List Column → Total → Bool
is_total_known columns Count = true
is_total_known columns (SumOf t) = is_known t columns

abbrev pub are_values_known : List Column → Option (List Tree) → Bool
are_values_known columns None = true
are_values_known columns (Some ts) = list_all (λ t. is_known t columns) ts

-- each name of a column in it is one of the table's; the values of an INSERT name no column
abbrev pub is_all_known : List Column → Plain → Bool
is_all_known columns (Insert table None values) = list_all (λ t. is_known t []) values
is_all_known columns (Insert table (Some names) values) =
    list_all (is_column columns) names && list_all (λ t. is_known t []) values
is_all_known columns (Update table sets filter) =
    list_all (λ set. is_column columns set.0 && is_known set.1 columns) sets
    && is_filter_known columns filter
is_all_known columns (Delete table filter) = is_filter_known columns filter
is_all_known columns (Totals table totals filter) =
    list_all (is_total_known columns) totals && is_filter_known columns filter
is_all_known columns (Select table values filter sorted) =
    are_values_known columns values && is_filter_known columns filter && is_sort_known columns sorted
is_all_known columns s = true

-- ---- keys and counts

-- a new table has exactly one primary key
abbrev pub has_one_key : Plain → Bool
has_one_key (Table name defs) = count_by (λ d. d.key) defs == 1
has_one_key s = true

-- an INSERT has a value for each column that it lists, or for each column of the table
abbrev pub do_counts_match : List Column → Plain → Bool
do_counts_match columns (Insert table None values) = length values == length columns
do_counts_match columns (Insert table (Some names) values) = length values == length names
do_counts_match columns s = true

-- a place is this one
abbrev pub is_place : ℕ → Option ℕ → Bool
is_place key None = false
is_place key (Some place) = place == key

-- an UPDATE sets the primary key's column
abbrev pub sets_key : List Column → ℕ → Plain → Bool
sets_key columns key (Update table sets filter) =
    list_any (λ set. is_place key (place_of columns set.0)) sets
sets_key columns key s = false

-- ---- the statement with its expressions bound, and the places of the columns that it lists

abbrev pub bound_total : List Column → Total → Total
bound_total columns Count = Count
bound_total columns (SumOf t) = SumOf (bound t columns)

abbrev pub bound_values : List Column → Option (List Tree) → Option (List Tree)
bound_values columns None = None
bound_values columns (Some ts) = Some (map (λ t. bound t columns) ts)

-- the values of an INSERT stay, since they name no column
abbrev pub bound_plain : List Column → Plain → Plain
bound_plain columns (Update table sets filter) =
    Update table (map (λ set. (set.0, bound set.1 columns)) sets) (bound_filter columns filter)
bound_plain columns (Delete table filter) = Delete table (bound_filter columns filter)
bound_plain columns (Totals table totals filter) =
    Totals table (map (bound_total columns) totals) (bound_filter columns filter)
bound_plain columns (Select table values filter sorted) =
    Select table (bound_values columns values) (bound_filter columns filter) sorted
bound_plain columns s = s

abbrev pub sort_places : List Column → Option Sorted → List ℕ
sort_places columns None = []
sort_places columns (Some sorted) = place_or_0 columns sorted.column ∷ []

-- the places of the columns that an INSERT gives, in the order of its values, that an UPDATE sets,
-- and by which a SELECT is ordered
abbrev pub places_in : List Column → Plain → List ℕ
places_in columns (Insert table None values) = places_from 0 columns
places_in columns (Insert table (Some names) values) = map (place_or_0 columns) names
places_in columns (Update table sets filter) = map (λ set. place_or_0 columns set.0) sets
places_in columns (Select table values filter sorted) = sort_places columns sorted
places_in columns s = []

-- ---- types

abbrev pub is_total_typed : List Column → Total → Bool
is_total_typed columns Count = true
is_total_typed columns (SumOf t) = fits_integer (sort_of t columns)

abbrev pub are_values_typed : List Column → Option (List Tree) → Bool
are_values_typed columns None = true
are_values_typed columns (Some ts) = list_all (λ t. fits_value (sort_of t columns)) ts

-- each expression of a bound statement has the type that is wanted: its column's where it is put
-- into one, an integer where it is added up, no truth where it is selected, a truth in a filter
abbrev pub is_typed : List Column → List ℕ → Plain → Bool
is_typed columns places (Insert table names values) =
    fit_places columns places (map (λ t. sort_of t []) values)
is_typed columns places (Update table sets filter) =
    fit_places columns places (map (λ set. sort_of set.1 columns) sets)
    && is_filter_truth columns filter
is_typed columns places (Delete table filter) = is_filter_truth columns filter
is_typed columns places (Totals table totals filter) =
    list_all (is_total_typed columns) totals && is_filter_truth columns filter
is_typed columns places (Select table values filter sorted) =
    are_values_typed columns values && is_filter_truth columns filter
is_typed columns places s = true

-- ---- the lengths of a new table

-- how many bytes a row has
abbrev pub new_row_len : Plain → ℕ
new_row_len (Table name defs) = row_len_of (map column_of defs)
new_row_len s = 0

-- how many bytes a primary key has at most
abbrev pub new_key_len : Plain → ℕ
new_key_len (Table name defs) = key_len defs
new_key_len s = 0
