-- What a bound INSERT and a bound UPDATE have: as many places as values, which fit the columns there.
use Rattle.std.proofs.Common.{◌≡◌, ℕ, suc, ◌+◌, ◌/◌, ◌==◌, ◌&&◌, ◌||◌, not, nat_lt, Bool, true, false, List, [], ◌∷◌, length, map, Option, Some, None, is_some, unwrap_or, Ok, refl, sym, ap, ◌∙◌, arith}
use Rattle.std.specs.List.{list_all, list_any}
use Rattle.std.proofs.lemmas.Bool.{false≢true}
use Rattle.std.proofs.lemmas.List.{length-map}
use Rattle.mg_value.specs.declared.shape.Column.{Column}
use Rattle.mg_value.specs.declared.shape.TheConstants.{MOST_COLUMNS}
use Rattle.mg_expr.specs.Trees.{Tree, tree_of}
use Rattle.mg_expr.specs.Typing.{Sort, sort_of}
use Rattle.mg_statements.specs.declared.statement.Assign.{Assign}
use Rattle.mg_statements.specs.Plain.{Plain, plain_of, assign_of, SetTransaction, Commit, Rollback, RollbackTo, Savepoint, Table, Insert, Update, Delete, Totals, Select}
use Rattle.mg_plan.specs.declared.bound.Bound.{Bound}
use Rattle.mg_plan.specs.declared.fault.PlanFault.{PlanFault}
use Rattle.mg_plan.specs.declared.fault.PlanFault.TheVariants as faults
use Rattle.mg_plan.specs.Names.{has_twice, place_of, place_or_0, is_column, places_from}
use Rattle.mg_plan.specs.Binding.{is_known, bound}
use Rattle.mg_plan.specs.Types.{fit_places}
use Rattle.mg_plan.specs.Statements.{columns_listed, count_defined, is_all_known, has_one_key, do_counts_match, is_place, sets_key, bound_plain, places_in, is_typed, new_row_len, new_key_len}
use Rattle.mg_plan.specs.Refusing.{refused, first_refusal, Binds}
use Rattle.mg_rows.specs.NewRowLaws.{or_parts, and_parts}

-- ---- tests that do not refuse

passed : (test : Bool) (fault : PlanFault) (next : Option PlanFault) → refused test fault next ≡ None
    → (test ≡ false) × (next ≡ None)
passed true fault next none = absurd cc
passed false fault next none = (refl, none)

holds : (b : Bool) → not b ≡ false → b ≡ true
holds true is = refl
holds false is = absurd (false≢true (sym is))

-- what the tests of a statement that is bound have found
record ArePassed (columns : List Column) (key : ℕ) (s : Plain) : Type 0 where
  known : is_all_known columns s ≡ true
  counts : do_counts_match columns s ≡ true
  other : sets_key columns key s ≡ false
  typed : is_typed columns (places_in columns s) (bound_plain columns s) ≡ true

-- what is tested behind each test of the first refusal
abbrev lengths : ℕ → Plain → Option PlanFault
lengths size s =
    refused (nat_lt (size / 2) (new_row_len s)) (faults.RowTooLong (new_row_len s) (size / 2))
    (refused (nat_lt (size / 8) (new_key_len s)) (faults.KeyTooLong (new_key_len s) (size / 8)) None)

abbrev types : List Column → ℕ → Plain → Option PlanFault
types columns size s =
    refused (not (is_typed columns (places_in columns s) (bound_plain columns s))) faults.TypeMismatch
    (lengths size s)

abbrev keys : List Column → ℕ → ℕ → Plain → Option PlanFault
keys columns key size s = refused (sets_key columns key s) faults.KeyChange (types columns size s)

abbrev counts_next : List Column → ℕ → ℕ → Plain → Option PlanFault
counts_next columns key size s =
    refused (not (do_counts_match columns s)) faults.CountMismatch (keys columns key size s)

abbrev one_next : List Column → ℕ → ℕ → Plain → Option PlanFault
one_next columns key size s =
    refused (not (has_one_key s)) faults.OneKey (counts_next columns key size s)

abbrev known_next : List Column → ℕ → ℕ → Plain → Option PlanFault
known_next columns key size s =
    refused (not (is_all_known columns s)) faults.NoColumn (one_next columns key size s)

abbrev many_next : List Column → ℕ → ℕ → Plain → Option PlanFault
many_next columns key size s =
    refused (nat_lt MOST_COLUMNS (count_defined s)) (faults.TooMany MOST_COLUMNS)
    (known_next columns key size s)

are_passed : (columns : List Column) (key size : ℕ) (s : Plain) → first_refusal columns key size s ≡ None
    → ArePassed columns key s
are_passed columns key size s none =
    let twice = passed (has_twice (columns_listed s)) faults.ColumnExists (many_next columns key size s) none in
    let many = passed (nat_lt MOST_COLUMNS (count_defined s)) (faults.TooMany MOST_COLUMNS)
    (known_next columns key size s) twice.1 in
    let known = passed (not (is_all_known columns s)) faults.NoColumn (one_next columns key size s) many.1 in
    let one = passed (not (has_one_key s)) faults.OneKey (counts_next columns key size s) known.1 in
    let counts = passed (not (do_counts_match columns s)) faults.CountMismatch
    (keys columns key size s) one.1 in
    let other = passed (sets_key columns key s) faults.KeyChange (types columns size s) counts.1 in
    let typed = passed (not (is_typed columns (places_in columns s) (bound_plain columns s)))
    faults.TypeMismatch (lengths size s) other.1 in
    record {
      known = holds (is_all_known columns s) known.0;
      counts = holds (do_counts_match columns s) counts.0;
      other = other.0;
      typed = holds (is_typed columns (places_in columns s) (bound_plain columns s)) typed.0;
    }

-- ---- INSERT

equal : (a b : ℕ) → (a == b) ≡ true → a ≡ b
equal a b is = grind arith

length_places_from : (place : ℕ) (columns : List Column)
    → length (places_from place columns) ≡ length columns
length_places_from place [] = refl
length_places_from place (column ∷ columns) = ap suc (length_places_from (place + 1) columns)

insert_length : (columns : List Column) (table : List ℕ) (names : Option (List (List ℕ))) (ts : List Tree)
    → do_counts_match columns (Insert table names ts) ≡ true
    → length (places_in columns (Insert table names ts)) ≡ length ts
insert_length columns table None ts is =
    length_places_from 0 columns ∙ sym (equal (length ts) (length columns) is)
insert_length columns table (Some names) ts is =
    length-map names (place_or_0 columns) ∙ sym (equal (length ts) (length names) is)

-- a bound INSERT has as many places as values, and the values fit the columns there
abbrev pub BoundInsert : Type 0
BoundInsert =
    (columns : List Column) (key size : ℕ) (s : Plain) (b : Bound)
    (table : List ℕ) (names : Option (List (List ℕ))) (ts : List Tree)
    → Binds columns key size s (Ok b) → plain_of b.statement ≡ Insert table names ts
    → (length b.places.items ≡ length ts)
    × (fit_places columns b.places.items (map (λ t. sort_of t []) ts) ≡ true)

inserts : (columns : List Column) (key : ℕ) (s : Plain) (table : List ℕ)
    (names : Option (List (List ℕ))) (ts : List Tree) → ArePassed columns key s
    → bound_plain columns s ≡ Insert table names ts
    → (length (places_in columns s) ≡ length ts)
    × (fit_places columns (places_in columns s) (map (λ t. sort_of t []) ts) ≡ true)
inserts columns key (Insert table' names' ts') table names ts are is =
    let same : ts' ≡ ts = cc in (
      insert_length columns table' names' ts' are.counts ∙ ap length same,
      ap (λ (us : List Tree). fit_places columns (places_in columns (Insert table' names' ts')) (map (λ t. sort_of t []) us))
          (sym same) ∙ are.typed,
    )
inserts columns key (SetTransaction read_only wait snapshot) table names ts are is = absurd cc
inserts columns key Commit table names ts are is = absurd cc
inserts columns key Rollback table names ts are is = absurd cc
inserts columns key (RollbackTo name) table names ts are is = absurd cc
inserts columns key (Savepoint name) table names ts are is = absurd cc
inserts columns key (Table name defs) table names ts are is = absurd cc
inserts columns key (Update name sets filter) table names ts are is = absurd cc
inserts columns key (Delete name filter) table names ts are is = absurd cc
inserts columns key (Totals name totals filter) table names ts are is = absurd cc
inserts columns key (Select name values filter sorted) table names ts are is = absurd cc

pub bound_insert : BoundInsert
bound_insert columns key size s b table names ts binds is =
    let given = inserts columns key s table names ts (are_passed columns key size s binds.0)
    (sym binds.1.statement ∙ is) in (
      ap length binds.1.places ∙ given.0,
      ap (λ (places : List ℕ). fit_places columns places (map (λ t. sort_of t []) ts)) binds.1.places
          ∙ given.1,
    )

-- ---- UPDATE

abbrev Set : Type 0
Set = List ℕ × Tree

no_key_place : (columns : List Column) (key : ℕ) (name : List ℕ) (place : Option ℕ)
    → place_of columns name ≡ place → is_column columns name ≡ true
    → is_place key (place_of columns name) ≡ false → (place_or_0 columns name == key) ≡ false
no_key_place columns key name None is known other =
    absurd (false≢true (sym (ap is_some is) ∙ known))
no_key_place columns key name (Some place) is known other =
    ap (λ (o : Option ℕ). unwrap_or o 0 == key) is ∙ sym (ap (is_place key) is) ∙ other

no_key : (columns : List Column) (key : ℕ) (sets : List Set)
    → list_all (λ set. is_column columns set.0 && is_known set.1 columns) sets ≡ true
    → list_any (λ set. is_place key (place_of columns set.0)) sets ≡ false
    → list_any (λ p. p == key) (map (λ set. place_or_0 columns set.0) sets) ≡ false
no_key columns key [] known other = refl
no_key columns key (set ∷ sets) known other =
    let are = and_parts (is_column columns set.0 && is_known set.1 columns)
    (list_all (λ set. is_column columns set.0 && is_known set.1 columns) sets) known in
    let one = and_parts (is_column columns set.0) (is_known set.1 columns) are.0 in
    let others = or_parts (is_place key (place_of columns set.0))
    (list_any (λ set. is_place key (place_of columns set.0)) sets) other in
    ap (λ (b : Bool). b || list_any (λ p. p == key) (map (λ set. place_or_0 columns set.0) sets))
    (no_key_place columns key set.0 (place_of columns set.0) refl one.0 others.0)
    ∙ no_key columns key sets are.1 others.1

-- a bound UPDATE has as many places as values, the values fit the columns there, and none is the key's
abbrev pub BoundUpdate : Type 0
BoundUpdate =
    (columns : List Column) (key size : ℕ) (s : Plain) (b : Bound)
    (table : List ℕ) (sets : List Set) (filter : Option Tree)
    → Binds columns key size s (Ok b) → plain_of b.statement ≡ Update table sets filter
    → (length b.places.items ≡ length sets)
    × (fit_places columns b.places.items (map (λ set. sort_of set.1 columns) sets) ≡ true)
    × (list_any (λ p. p == key) b.places.items ≡ false)

updates : (columns : List Column) (key : ℕ) (s : Plain) (table : List ℕ)
    (sets : List Set) (filter : Option Tree) → ArePassed columns key s
    → bound_plain columns s ≡ Update table sets filter
    → (length (places_in columns s) ≡ length sets)
    × (fit_places columns (places_in columns s) (map (λ set. sort_of set.1 columns) sets) ≡ true)
    × (list_any (λ p. p == key) (places_in columns s) ≡ false)
updates columns key (Update table' sets' filter') table sets filter are is =
    let same : map (λ set. (set.0, bound set.1 columns)) sets' ≡ sets = cc in
    let typed = and_parts _ _ are.typed in
    let known = and_parts _ _ are.known in (
      length-map sets' (λ set. place_or_0 columns set.0)
          ∙ sym (length-map sets' (λ set. (set.0, bound set.1 columns))) ∙ ap length same,
      ap (λ (ss : List Set). fit_places columns (places_in columns (Update table' sets' filter')) (map (λ set. sort_of set.1 columns) ss))
          (sym same) ∙ typed.0,
      no_key columns key sets' known.0 are.other,
    )
updates columns key (SetTransaction read_only wait snapshot) table sets filter are is = absurd cc
updates columns key Commit table sets filter are is = absurd cc
updates columns key Rollback table sets filter are is = absurd cc
updates columns key (RollbackTo name) table sets filter are is = absurd cc
updates columns key (Savepoint name) table sets filter are is = absurd cc
updates columns key (Table name defs) table sets filter are is = absurd cc
updates columns key (Insert name names ts) table sets filter are is = absurd cc
updates columns key (Delete name other) table sets filter are is = absurd cc
updates columns key (Totals name totals other) table sets filter are is = absurd cc
updates columns key (Select name values other sorted) table sets filter are is = absurd cc

pub bound_update : BoundUpdate
bound_update columns key size s b table sets filter binds is =
    let given = updates columns key s table sets filter (are_passed columns key size s binds.0)
    (sym binds.1.statement ∙ is) in (
      ap length binds.1.places ∙ given.0,
      ap (λ (places : List ℕ). fit_places columns places (map (λ set. sort_of set.1 columns) sets)) binds.1.places
          ∙ given.1,
      ap (list_any (λ p. p == key)) binds.1.places ∙ given.2,
    )

-- the types of what an UPDATE sets, as its trees give them
pub set_sorts : (columns : List Column) (sets : List Assign)
    → map (λ set. sort_of set.1 columns) (map assign_of sets)
    ≡ map (λ t. sort_of t columns) (map (λ set. tree_of set.value) sets)
set_sorts columns [] = refl
set_sorts columns (set ∷ sets) =
    ap (λ (rest : List (Option Sort)). sort_of (tree_of set.value) columns ∷ rest)
    (set_sorts columns sets)
