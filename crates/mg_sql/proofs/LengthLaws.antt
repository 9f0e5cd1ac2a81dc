-- Each statement of the grammar has lawful lengths: what holds of each end that a rest can come to holds of the
-- statement that is read.
use Rattle.std.proofs.Common.{ℕ, Bool, zero, suc, List, [], ◌∷◌, ◌++◌, ◌<◌, length, arith}
use Rattle.std.specs.Prelude.{All, Option, Some, None, true, false}
use Rattle.mg_expr.specs.Trees.{Tree}
use Rattle.mg_value.specs.declared.shape.Kind.{Kind as Type_}
use Rattle.mg_value.specs.declared.shape.Kind.TheVariants as types
use Rattle.mg_statements.specs.declared.statement.Def.{Def}
use Rattle.mg_sql.specs.Answers.{Parses}
use Rattle.mg_sql.specs.Grammar.{Limits}
use Rattle.mg_sql.specs.Lengths.{HasLengths, IsOfSize, StatementsHaveLengths}
use Rattle.mg_statements.specs.Plain.{Count, Plain, RollbackTo, Rollback, Select, SetTransaction, SumOf, Table}
use Rattle.mg_sql.specs.Reading.{IsSize}
use Rattle.mg_sql.specs.Spelling.{capitals, number}
use Rattle.mg_sql.specs.Statements.{Rest, Item, Of, finish, word, either, name, size, expression, list, item, behind, def, names, expressions, assignments, definitions, totals, Spells, finished, closed, took, left, right, named, sized, expressed, listed, statement, filter, level, isolation, modes, set_transaction, rollback, optional, insert, order, selected, select, unnullable, keyed}
use Rattle.mg_sql.specs.Tokens.{Token}
use Rattle.mg_sql.specs.declared.token.Kind.TheVariants as kinds

-- ---- columns

abbrev AreOfSizes : List Def → Type 0
AreOfSizes [] = Unit {0}
AreOfSizes (d ∷ ds) = IsOfSize d.kind × AreOfSizes ds

more_of : (ds es : List Def) → AreOfSizes ds → AreOfSizes es → AreOfSizes (ds ++ es)
more_of [] es these those = those
more_of (d ∷ ds) es these those = (these.0, more_of ds es these.1 those)

-- the same, said of each place
all_of : (ds : List Def) → AreOfSizes ds → All (λ column. IsOfSize column.kind) ds
all_of [] these k d below = absurd (omega (arith, below))
all_of (x ∷ ds) these zero d below = these.0
all_of (x ∷ ds) these (suc k) d below = all_of ds these.1 k d (omega (arith, below))

-- the items of a list are so, if they are columns
abbrev Each : (i : Item) → List (Of i) → Type 0
Each names xs = Unit {0}
Each (expressions within) xs = Unit {0}
Each assignments xs = Unit {0}
Each definitions xs = AreOfSizes xs
Each totals xs = Unit {0}

-- ---- ends

-- each statement that a rest can come to is so
abbrev Ends : Rest → Type 0
Ends (finish s) = HasLengths s
Ends (word k r) = Ends r
Ends (either r q) = Ends r × Ends q
Ends (name then_) = (x : List ℕ) → Ends (then_ x)
Ends (size then_) = (n : ℕ) → IsSize n → Ends (then_ n)
Ends (expression within then_) = (e : Tree) → Ends (then_ e)
Ends (list i then_) = (xs : List (Of i)) → Each i xs → Ends (then_ xs)

-- behind an item whose list can come to such ends
columns_behind : (then_ : List Def → Rest) → ((xs : List Def) → AreOfSizes xs → Ends (then_ xs))
    → (xs : List Def) → AreOfSizes xs → Ends (behind definitions then_ xs)
columns_behind then_ ends xs these = ((λ more those. ends (xs ++ more) (more_of xs more these those)), ends xs these)

-- a column, whatever stands behind its kind
column_ends : (then_ : List Def → Rest) → ((xs : List Def) → AreOfSizes xs → Ends (then_ xs))
    → (column : List ℕ) (kind : Type_) → IsOfSize kind → (not_null key : Bool)
    → Ends (behind definitions then_ (def column kind not_null key ∷ []))
column_ends then_ ends column kind is not_null key =
    columns_behind then_ ends (def column kind not_null key ∷ []) (is, tt)

item_ends : (i : Item) (then_ : List (Of i) → Rest) → ((xs : List (Of i)) → Each i xs → Ends (then_ xs))
    → Ends (item i (λ x. behind i then_ (x ∷ [])))
item_ends names then_ ends = λ x. ((λ more those. ends ((x ∷ []) ++ more) tt), ends (x ∷ []) tt)
item_ends (expressions within) then_ ends = λ e. ((λ more those. ends ((e ∷ []) ++ more) tt), ends (e ∷ []) tt)
item_ends assignments then_ ends = λ column value.
    ((λ more those. ends (((column, value) ∷ []) ++ more) tt), ends ((column, value) ∷ []) tt)
item_ends definitions then_ ends = λ column. (
  options column types.Int tt,
  λ most is. options column (types.Text most) is,
)
  where
    options : (column : List ℕ) (kind : Type_) → IsOfSize kind → Ends (unnullable (λ not_null.
        keyed (λ key. behind definitions then_ (def column kind not_null key ∷ []))))
    options column kind is = (
      (column_ends then_ ends column kind is true true, column_ends then_ ends column kind is true false),
      (column_ends then_ ends column kind is false true, column_ends then_ ends column kind is false false),
    )
item_ends totals then_ ends = (
  ((λ more those. ends ((Count ∷ []) ++ more) tt), ends (Count ∷ []) tt),
  λ e. ((λ more those. ends ((SumOf e ∷ []) ++ more) tt), ends (SumOf e ∷ []) tt),
)

-- ---- what is read

has_lengths : (most : Limits) (n : ℕ) {r : Rest} {s : Plain} {ts us : List Token} → Spells most n r s ts us
    → Ends r → HasLengths s
has_lengths most n (finished end) ends = ends
has_lengths most n (closed semicolon end) ends = ends
has_lengths most n (took token more) ends = has_lengths most n more ends
has_lengths most n (left more) ends = has_lengths most n more ends.0
has_lengths most n (right more) ends = has_lengths most n more ends.1
has_lengths most n (named {b = b} token short more) ends = has_lengths most n more (ends (capitals b))
has_lengths most n (sized {b = b} token low high more) ends = has_lengths most n more (ends (number b) (low, high))
has_lengths most n (expressed m e between levels is more) ends = has_lengths most n more (ends e)
has_lengths most n (listed {i = i} {then_ = then_} more) ends = has_lengths most n more (item_ends i then_ ends)

-- ---- the grammar

level_ends : (then_ : Bool → Rest) → ((b : Bool) → Ends (then_ b)) → Ends (level then_)
level_ends then_ ends = (ends true, ends false)

isolation_ends : (then_ : Bool → Rest) → ((b : Bool) → Ends (then_ b)) → Ends (isolation then_)
isolation_ends then_ ends = (level_ends then_ ends, (level_ends then_ ends, ends true))

modes_end : (read_only : Bool) → Ends (modes read_only)
modes_end read_only = (at true, (at false, at true))
  where
    at : (wait : Bool) → Ends (isolation (λ snapshot. finish (SetTransaction read_only wait snapshot)))
    at wait = isolation_ends (λ snapshot. finish (SetTransaction read_only wait snapshot)) (λ snapshot. tt)

set_ends : Ends set_transaction
set_ends = ((modes_end false, modes_end true), modes_end false)

rollback_ends : Ends rollback
rollback_ends = (to, to)
  where
    to : Ends (either (word kinds.To (optional kinds.Savepoint (name (λ point. finish (RollbackTo point))))) (finish Rollback))
    to = (((λ point. tt), (λ point. tt)), tt)

insert_ends : Ends insert
insert_ends table = ((λ columns of. λ values its. tt), (λ values its. tt))

order_ends : (values : Option (List Tree)) (table : List ℕ) (e : Option Tree)
    → Ends (order (λ sorted. finish (Select table values e sorted)))
order_ends values table e = ((λ column. (tt, (tt, tt))), tt)

selected_ends : (values : Option (List Tree)) → Ends (selected values)
selected_ends values table = ((λ e. order_ends values table (Some e)), order_ends values table None)

select_ends : Ends select
select_ends = ((λ aggs its table. ((λ e. tt), tt)), (selected_ends None, λ values its. selected_ends (Some values)))

statement_ends : Ends statement
statement_ends = (
  set_ends,
  (
    (tt, tt),
    (
      rollback_ends,
      (
        (λ point. tt),
        (
          (λ table columns these. all_of columns these),
          (
            insert_ends,
            (
              (λ table sets its. ((λ e. tt), tt)),
              (
                (λ table. ((λ e. tt), tt)),
                select_ends,
              ),
            ),
          ),
        ),
      ),
    ),
  ),
)

pub statements_have_lengths : StatementsHaveLengths
statements_have_lengths text s parses = has_lengths _ _ parses.is statement_ends
