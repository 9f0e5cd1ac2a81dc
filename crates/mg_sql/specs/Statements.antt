-- The grammar of statements. `Rest` is what the rest of a statement may be, and which statement it
-- makes: `word Delete (word From (name (λ table. filter (λ e. finish (Delete table e)))))` is
-- DELETE FROM name [WHERE expr]. Which tokens are such a rest says `Spells`.
use Rattle.std.specs.Prelude.{◌≡◌, ℕ, suc, ◌≤◌, Bool, true, false, List, [], ◌∷◌, ◌++◌, length, Option, Some, None}
use Rattle.mg_value.specs.declared.shape.Kind.TheVariants as types
use Rattle.mg_value.specs.declared.shape.Kind.{Kind as Type_}
use Rattle.mg_expr.specs.Trees.{Tree}
use Rattle.mg_statements.specs.declared.statement.Def.{Def}
use Rattle.mg_statements.specs.declared.statement.Sorted.{Sorted}
use Rattle.mg_sql.specs.declared.token.Kind.{Kind}
use Rattle.mg_sql.specs.declared.token.Kind.TheVariants as kinds
use Rattle.mg_statements.specs.declared.statement.TheConstants.{MOST_SIZE}
use Rattle.mg_sql.specs.Spelling.{capitals, number}
use Rattle.mg_sql.specs.Tokens.{Token, Takes}
use Rattle.mg_sql.specs.Grammar.{Limits, Expr}
use Rattle.mg_statements.specs.Plain.{Plain, Total, Count, SumOf, SetTransaction, Commit, Rollback, RollbackTo, Savepoint, Table, Insert, Update, Delete, Totals, Select}

-- what stands in a list: names; expressions, within parentheses or not; what is set; columns of a
-- new table; totals
pub data Item : Type 0 where
  names : Item
  expressions : Bool → Item
  assignments : Item
  definitions : Item
  totals : Item

abbrev pub Of : Item → Type 0
Of names = List ℕ
Of (expressions within) = Tree
Of assignments = List ℕ × Tree
Of definitions = Def
Of totals = Total

-- what the rest of a statement may be, and which statement it makes
pub data Rest : Type 0 where
  -- [";"], and the end of the text: it is this statement
  finish : Plain → Rest
  -- a word or a symbol
  word : Kind → Rest → Rest
  -- one of two
  either : Rest → Rest → Rest
  -- a name
  name : (List ℕ → Rest) → Rest
  -- an integer from 1 to 1000
  size : (ℕ → Rest) → Rest
  -- an expression, within parentheses or not
  expression : Bool → (Tree → Rest) → Rest
  -- one item, or several with commas between them
  list : (i : Item) → (List (Of i) → Rest) → Rest

-- [PRIMARY KEY]
abbrev pub keyed : (Bool → Rest) → Rest
keyed then_ = either (word kinds.Primary (word kinds.Key (then_ true))) (then_ false)

-- [NOT NULL]
abbrev pub unnullable : (Bool → Rest) → Rest
unnullable then_ = either (word kinds.Not (word kinds.Null (then_ true))) (then_ false)

-- BIGINT | VARCHAR "(" integer ")"
abbrev pub kind_of_column : (Type_ → Rest) → Rest
kind_of_column then_ = either (word kinds.Bigint (then_ types.Int))
    (word kinds.Varchar (word kinds.Open (size (λ most. word kinds.Close (then_ (types.Text most))))))

abbrev pub def : List ℕ → Type_ → Bool → Bool → Def
def column kind not_null key = record { name = column; kind = kind; not_null = not_null; key = key }

abbrev pub item : (i : Item) → (Of i → Rest) → Rest
item names then_ = name then_
item (expressions within) then_ = expression within then_
-- name "=" expr
item assignments then_ = name (λ column. word kinds.Equal (expression false (λ value. then_ (column, value))))
-- name (BIGINT | VARCHAR "(" integer ")") [NOT NULL] [PRIMARY KEY]
item definitions then_ = name (λ column. kind_of_column (λ kind. unnullable (λ not_null.
    keyed (λ key. then_ (def column kind not_null key)))))
-- COUNT "(" "*" ")" | SUM "(" expr ")"
item totals then_ = either
    (word kinds.Count (word kinds.Open (word kinds.Star (word kinds.Close (then_ Count)))))
    (word kinds.Sum (word kinds.Open (expression true (λ e. word kinds.Close (then_ (SumOf e))))))

-- what may stand behind some items of a list: a comma and further ones, or what follows the list
abbrev pub behind : (i : Item) → (List (Of i) → Rest) → List (Of i) → Rest
behind i then_ xs = either (word kinds.Comma (list i (λ more. then_ (xs ++ more)))) (then_ xs)

-- a level of parentheses, NOT and minus more, within parentheses
abbrev pub shift : Bool → ℕ → ℕ
shift false n = n
shift true n = suc n

-- The tokens `ts` begin with tokens that spell this rest of the statement s, and `us` are those
-- behind them. n is how many levels of parentheses, NOT and minus may be opened.
pub data Spells (most : Limits) (n : ℕ) : Rest → Plain → List Token → List Token → Type 0 where
  finished : {s : Plain} {b : List ℕ} {ts us : List Token}
      → Takes kinds.End b ts us → Spells most n (finish s) s ts us
  closed : {s : Plain} {b c : List ℕ} {ts us vs : List Token}
      → Takes kinds.Semicolon b ts us → Takes kinds.End c us vs → Spells most n (finish s) s ts vs
  took : {k : Kind} {r : Rest} {s : Plain} {b : List ℕ} {ts us vs : List Token}
      → Takes k b ts us → Spells most n r s us vs → Spells most n (word k r) s ts vs
  left : {r q : Rest} {s : Plain} {ts us : List Token}
      → Spells most n r s ts us → Spells most n (either r q) s ts us
  right : {r q : Rest} {s : Plain} {ts us : List Token}
      → Spells most n q s ts us → Spells most n (either r q) s ts us
  named : {then_ : List ℕ → Rest} {s : Plain} {b : List ℕ} {ts us vs : List Token}
      → Takes kinds.Name b ts us → length b ≤ most.name
      → Spells most n (then_ (capitals b)) s us vs → Spells most n (name then_) s ts vs
  sized : {then_ : ℕ → Rest} {s : Plain} {b : List ℕ} {ts us vs : List Token}
      → Takes kinds.Integer b ts us → 1 ≤ number b → number b ≤ MOST_SIZE
      → Spells most n (then_ (number b)) s us vs → Spells most n (size then_) s ts vs
  expressed : {within : Bool} {then_ : Tree → Rest} {s : Plain} {ts vs : List Token}
      (m : ℕ) (e : Tree) (us : List Token) → n ≡ shift within m → Expr most m e ts us
      → Spells most n (then_ e) s us vs → Spells most n (expression within then_) s ts vs
  listed : {i : Item} {then_ : List (Of i) → Rest} {s : Plain} {ts us : List Token}
      → Spells most n (item i (λ x. behind i then_ (x ∷ []))) s ts us
      → Spells most n (list i then_) s ts us

-- a word that may be absent
abbrev pub optional : Kind → Rest → Rest
optional k then_ = either (word k then_) then_

-- [WHERE expr]
abbrev pub filter : (Option Tree → Rest) → Rest
filter then_ = either (word kinds.Where (expression false (λ e. then_ (Some e)))) (then_ None)

-- [READ WRITE | READ ONLY]: whether it only reads
abbrev pub access : (Bool → Rest) → Rest
access then_ = either
    (word kinds.Read (either (word kinds.Write (then_ false)) (word kinds.Only (then_ true))))
    (then_ false)

-- [WAIT | NO WAIT]: whether it waits
abbrev pub waiting : (Bool → Rest) → Rest
waiting then_ = either (word kinds.Wait (then_ true))
    (either (word kinds.No (word kinds.Wait (then_ false))) (then_ true))

-- SNAPSHOT | READ COMMITTED: whether it has a snapshot
abbrev pub level : (Bool → Rest) → Rest
level then_ = either (word kinds.Snapshot (then_ true))
    (word kinds.Read (word kinds.Committed (then_ false)))

-- [[ISOLATION LEVEL] (SNAPSHOT | READ COMMITTED)]
abbrev pub isolation : (Bool → Rest) → Rest
isolation then_ = either (word kinds.Isolation (word kinds.Level (level then_)))
    (either (level then_) (then_ true))

-- [WAIT | NO WAIT] [[ISOLATION LEVEL] (SNAPSHOT | READ COMMITTED)]
abbrev pub modes : Bool → Rest
modes read_only = waiting (λ wait. isolation (λ snapshot.
    finish (SetTransaction read_only wait snapshot)))

-- set = SET TRANSACTION [READ WRITE | READ ONLY] [WAIT | NO WAIT]
--       [[ISOLATION LEVEL] (SNAPSHOT | READ COMMITTED)]
abbrev pub set_transaction : Rest
set_transaction = word kinds.Set (word kinds.Transaction (access modes))

-- what is to come behind SET TRANSACTION READ: the access, or the end of the isolation
abbrev pub behind_read : Rest
behind_read = either
    (either (word kinds.Write (modes false)) (word kinds.Only (modes true)))
    (word kinds.Committed (finish (SetTransaction false true false)))

-- COMMIT [WORK]
abbrev pub commit : Rest
commit = word kinds.Commit (optional kinds.Work (finish Commit))

-- ROLLBACK [WORK] [TO [SAVEPOINT] name]
abbrev pub rollback : Rest
rollback = word kinds.Rollback (optional kinds.Work (either
    (word kinds.To (optional kinds.Savepoint (name (λ point. finish (RollbackTo point)))))
    (finish Rollback)))

-- SAVEPOINT name
abbrev pub savepoint : Rest
savepoint = word kinds.Savepoint (name (λ point. finish (Savepoint point)))

-- table = CREATE TABLE name "(" column {"," column} ")"
abbrev pub create_table : Rest
create_table = word kinds.Create (word kinds.Table (name (λ table. word kinds.Open
    (list definitions (λ columns. word kinds.Close (finish (Table table columns)))))))

-- ["(" name {"," name} ")"]
abbrev pub targets : (Option (List (List ℕ)) → Rest) → Rest
targets then_ = either
    (word kinds.Open (list names (λ columns. word kinds.Close (then_ (Some columns)))))
    (then_ None)

-- VALUES "(" expr {"," expr} ")"
abbrev pub inserted : (List Tree → Rest) → Rest
inserted then_ = word kinds.Values (word kinds.Open
    (list (expressions true) (λ values. word kinds.Close (then_ values))))

-- insert = INSERT INTO name ["(" name {"," name} ")"] VALUES "(" expr {"," expr} ")"
abbrev pub insert : Rest
insert = word kinds.Insert (word kinds.Into (name (λ table. targets (λ columns.
    inserted (λ values. finish (Insert table columns values))))))

-- update = UPDATE name SET name "=" expr {"," name "=" expr} [WHERE expr]
abbrev pub update : Rest
update = word kinds.Update (name (λ table. word kinds.Set (list assignments (λ sets.
    filter (λ e. finish (Update table sets e))))))

-- delete = DELETE FROM name [WHERE expr]
abbrev pub delete : Rest
delete = word kinds.Delete (word kinds.From (name (λ table.
    filter (λ e. finish (Delete table e)))))

-- FROM name [WHERE expr]
abbrev pub source : (List ℕ → Option Tree → Rest) → Rest
source then_ = word kinds.From (name (λ table. filter (λ e. then_ table e)))

-- [ASC | DESC]: whether it descends
abbrev pub direction : (Bool → Rest) → Rest
direction then_ = either (word kinds.Asc (then_ false))
    (either (word kinds.Desc (then_ true)) (then_ false))

abbrev pub sorted_by : List ℕ → Bool → Sorted
sorted_by column descending = record { column = column; descending = descending }

-- [ORDER BY name [ASC | DESC]]
abbrev pub order : (Option Sorted → Rest) → Rest
order then_ = either
    (word kinds.Order (word kinds.By (name (λ column. direction (λ descending.
    then_ (Some (sorted_by column descending)))))))
    (then_ None)

-- FROM name [WHERE expr] [ORDER BY name [ASC | DESC]]
abbrev pub selected : Option (List Tree) → Rest
selected values = source (λ table e. order (λ sorted. finish (Select table values e sorted)))

-- "*" | expr {"," expr}
abbrev pub results : (Option (List Tree) → Rest) → Rest
results then_ = either (word kinds.Star (then_ None))
    (list (expressions false) (λ values. then_ (Some values)))

-- agg {"," agg} FROM name [WHERE expr]
abbrev pub totalled : Rest
totalled = list totals (λ aggs. source (λ table e. finish (Totals table aggs e)))

-- select = SELECT agg {"," agg} FROM name [WHERE expr]
--        | SELECT ("*" | expr {"," expr}) FROM name [WHERE expr] [ORDER BY name [ASC | DESC]]
abbrev pub select : Rest
select = word kinds.Select (either totalled (results selected))

-- statement = ( set | COMMIT .. | ROLLBACK .. | SAVEPOINT name | table | insert | update | delete
--             | select ) [";"]
abbrev pub statement : Rest
statement = either set_transaction (either commit (either rollback (either savepoint
    (either create_table (either insert (either update (either delete select)))))))
