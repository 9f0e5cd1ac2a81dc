-- The first refusal of a statement that depends on no row.
use Rattle.std.specs.Prelude.{◌≡◌, ℕ, ◌/◌, ◌≤◌, not, nat_lt, Bool, true, false, List, [], length, Option, Some, None, Result, Ok, Err, OnOk, IfErr}
use Rattle.mg_value.specs.declared.shape.Column.{Column}
use Rattle.mg_value.specs.declared.shape.TheConstants.{MOST_COLUMNS}
use Rattle.mg_model.specs.declared.table.Table.{Table}
use Rattle.mg_statements.specs.Plain.{Plain, plain_of}
use Rattle.mg_plan.specs.declared.fault.PlanFault.{PlanFault}
use Rattle.mg_plan.specs.declared.fault.PlanFault.TheVariants as faults
use Rattle.mg_plan.specs.declared.bound.Bound.{Bound}
use Rattle.mg_plan.specs.Names.{has_twice}
use Rattle.mg_plan.specs.Statements.{columns_listed, count_defined, is_all_known, has_one_key, do_counts_match, sets_key, bound_plain, places_in, is_typed, new_row_len, new_key_len}

-- a fault, where a test finds it; else what comes next
abbrev pub refused : Bool → PlanFault → Option PlanFault → Option PlanFault
refused true fault next = Some fault
refused false fault next = next

-- The first refusal, in this order: a column named twice; more than 64 columns; a name that is no
-- column's; not exactly one primary key; values and columns that differ in number; a primary key
-- that is set; a wrong type; a row of more than half a page; a key of more than an eighth of one.
-- What the statement names is tested first, then the types of the bound one, then lengths.
abbrev pub names_refused : List Column → ℕ → Plain → Option PlanFault → Option PlanFault
names_refused columns key s next =
    refused (has_twice (columns_listed s)) faults.ColumnExists
    (refused (nat_lt MOST_COLUMNS (count_defined s)) (faults.TooMany MOST_COLUMNS)
    (refused (not (is_all_known columns s)) faults.NoColumn
    (refused (not (has_one_key s)) faults.OneKey
    (refused (not (do_counts_match columns s)) faults.CountMismatch
    (refused (sets_key columns key s) faults.KeyChange next)))))

abbrev pub types_refused : List Column → Plain → Option PlanFault → Option PlanFault
types_refused columns s next =
    refused (not (is_typed columns (places_in columns s) (bound_plain columns s))) faults.TypeMismatch next

abbrev pub lengths_refused : ℕ → Plain → Option PlanFault
lengths_refused size s =
    refused (nat_lt (size / 2) (new_row_len s)) (faults.RowTooLong (new_row_len s) (size / 2))
    (refused (nat_lt (size / 8) (new_key_len s)) (faults.KeyTooLong (new_key_len s) (size / 8))
    None)

abbrev pub first_refusal : List Column → ℕ → ℕ → Plain → Option PlanFault
first_refusal columns key size s =
    names_refused columns key s (types_refused columns s (lengths_refused size s))

-- the columns of a table, none where there is no table, and the place of its primary key
abbrev pub columns_in : Option Table → List Column
columns_in None = []
columns_in (Some table) = table.shape.columns

abbrev pub key_in : Option Table → ℕ
key_in None = 0
key_in (Some table) = table.shape.key

-- a table has no more columns than tables have
abbrev pub HasFewColumns : Option Table → Type 0
HasFewColumns table = length (columns_in table) ≤ MOST_COLUMNS

-- the statement is bound where nothing refuses it: its expressions have columns in place of names,
-- and the places of the columns that it lists stand beside it
pub record IsBoundAs (columns : List Column) (s : Plain) (b : Bound) : Type 0 where
  pub statement : plain_of b.statement ≡ bound_plain columns s
  pub places : b.places.items ≡ places_in columns s

-- a fault that is told is the first refusal, or want of memory
abbrev pub IsTold : PlanFault → Option PlanFault → Type 0
IsTold faults.Memory first = Unit {0}
IsTold fault first = first ≡ Some fault

-- the answer of tests: nothing exactly where none of them refuses, else the first refusal
abbrev pub Tells : Option PlanFault → Result (Unit {0}) PlanFault → Type 0
Tells first (Ok _) = first ≡ None
Tells first (Err fault) = IsTold fault first

-- the answer of the tests that come first, whatever comes behind them
pub record TestsPart (refusal : Option PlanFault → Option PlanFault) (result : Result (Unit {0}) PlanFault) : Type 0 where
  pub passes : OnOk result ((next : Option PlanFault) → refusal next ≡ next)
  pub refuses : IfErr result (λ fault. (next : Option PlanFault) → IsTold fault (refusal next))

-- the answer of `bind`: the bound statement exactly where nothing refuses it, else the first refusal
abbrev pub Binds : List Column → ℕ → ℕ → Plain → Result Bound PlanFault → Type 0
Binds columns key size s (Ok b) = (first_refusal columns key size s ≡ None) × IsBoundAs columns s b
Binds columns key size s (Err fault) = IsTold fault (first_refusal columns key size s)
