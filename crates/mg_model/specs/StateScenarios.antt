-- Histories of read-only transactions, of limbo, of tables that are made, and of the last number.
use Rattle.std.specs.Prelude.{◌≡◌, ℕ, true, false, [], ◌∷◌, None, codes}
use Rattle.mg_base.specs.declared.transaction.TxState.TheVariants.{Active, Limbo, Dead, Committed}
use Rattle.mg_value.specs.declared.value.Value.TheVariants.{Null, Text}
use Rattle.mg_model.specs.declared.answer.Answer.TheVariants.{Fine, Tx, Rows, No}
use Rattle.mg_model.specs.declared.event.Event.{Event}
use Rattle.mg_model.specs.declared.event.Event.TheVariants.{Find, Claim, Insert, Change, Prepare, Decide}
use Rattle.mg_model.specs.declared.refusal.Refusal.TheVariants.{UpdateConflict, LockConflict, InLimbo, ReadOnly, NotActive, NoTable, TransactionLimit}
use Rattle.mg_model.specs.Answers.{number}
use Rattle.mg_model.specs.Catalog.{catalog_name, table_key, column_key}
use Rattle.mg_model.specs.CatalogRules.{catalog_row}
use Rattle.mg_model.specs.NewDatabase.{kv_name}
use Rattle.mg_model.specs.Scenarios.{AreAnswered, answers_below, begins, begins_no_wait, begins_read_only, row, inserts, gives, reads, commits, rolls_back}

-- a read-only transaction reads and may not write
abbrev pub OnlyReads : Type 0
OnlyReads = AreAnswered
    (begins_read_only ∷ gives 2 1 20 ∷ inserts 2 2 20 ∷ Claim (number 2) kv_name ∷ reads 2 ∷ [])
    (Tx (number 2) ∷ No ReadOnly ∷ No ReadOnly ∷ No ReadOnly ∷ Rows (row 1 10 ∷ []) ∷ [])

-- once it is prepared, a transaction is in limbo: only a decision ends it, nobody sees its changes,
-- and they are in the way of others; what is decided is committed
abbrev pub IsDecided : Type 0
IsDecided = AreAnswered
    (begins ∷ gives 2 1 20 ∷ Decide (number 2) true ∷ Prepare (number 2) ∷ commits 2 ∷ begins
    ∷ reads 3 ∷ gives 3 1 30
    ∷ Decide (number 2) true ∷ gives 3 1 30 ∷ begins ∷ reads 4 ∷ Decide (number 2) false ∷ [])
    (Tx (number 2) ∷ Fine ∷ No (NotActive Active) ∷ Fine ∷ No (NotActive Limbo) ∷ Tx (number 3)
    ∷ Rows (row 1 10 ∷ [])
    ∷ No (InLimbo (number 2)) ∷ Fine ∷ No (UpdateConflict (number 2)) ∷ Tx (number 4)
    ∷ Rows (row 1 20 ∷ [])
    ∷ No (NotActive Committed) ∷ [])

-- what is decided against was never there
abbrev pub IsDecidedAgainst : Type 0
IsDecidedAgainst = AreAnswered
    (begins ∷ gives 2 1 20 ∷ Prepare (number 2) ∷ begins ∷ Decide (number 2) false ∷ gives 3 1 30
    ∷ reads 2 ∷ [])
    (Tx (number 2) ∷ Fine ∷ Fine ∷ Tx (number 3) ∷ Fine ∷ Fine ∷ No (NotActive Dead) ∷ [])

-- a transaction makes the table T of one column
abbrev pub makes_column : ℕ → Event
makes_column t = Insert (number t) catalog_name
    (catalog_row (column_key (codes "T") 0) (Text (codes "ID")) 0 3 1 0)

abbrev pub makes_table : ℕ → Event
makes_table t = Insert (number t) catalog_name (catalog_row (table_key (codes "T")) Null 0 1 0 0)

abbrev pub reads_table : ℕ → Event
reads_table t = Find (number t) (codes "T") None

-- a table that a transaction made is there for itself, for others once it has committed, and never
-- for one whose base is older
abbrev pub MakesTable : Type 0
MakesTable = AreAnswered
    (begins ∷ begins ∷ makes_column 2 ∷ makes_table 2 ∷ reads_table 2 ∷ reads_table 3 ∷ commits 2
    ∷ begins ∷ reads_table 4 ∷ reads_table 3 ∷ [])
    (Tx (number 2) ∷ Tx (number 3) ∷ Fine ∷ Fine ∷ Rows [] ∷ No NoTable ∷ Fine
    ∷ Tx (number 4) ∷ Rows [] ∷ No NoTable ∷ [])

-- a claim on a table meets the least other transaction that has changed rows of it
abbrev pub ClaimsRows : Type 0
ClaimsRows = AreAnswered
    (begins_no_wait ∷ begins ∷ begins ∷ inserts 3 3 30 ∷ inserts 4 4 40 ∷ inserts 3 5 50
    ∷ Claim (number 2) kv_name
    ∷ commits 3 ∷ Claim (number 2) kv_name ∷ commits 4 ∷ Claim (number 2) kv_name ∷ [])
    (Tx (number 2) ∷ Tx (number 3) ∷ Tx (number 4) ∷ Fine ∷ Fine ∷ Fine
    ∷ No (LockConflict (number 3))
    ∷ Fine ∷ No (LockConflict (number 4)) ∷ Fine ∷ Fine ∷ [])

-- a claim, and each write to a table, first meet the transaction that changed the table's own row
abbrev pub ClaimsTable : Type 0
ClaimsTable = AreAnswered
    (begins_no_wait ∷ begins ∷ begins ∷ inserts 3 3 30
    ∷ Change (number 4) catalog_name (table_key kv_name)
    (catalog_row (table_key kv_name) Null 0 2 0 1)
    ∷ Claim (number 2) kv_name ∷ inserts 2 2 20 ∷ gives 2 1 20 ∷ rolls_back 4 ∷ inserts 2 2 20 ∷ [])
    (Tx (number 2) ∷ Tx (number 3) ∷ Tx (number 4) ∷ Fine ∷ Fine ∷ No (LockConflict (number 4))
    ∷ No (LockConflict (number 4)) ∷ No (LockConflict (number 4)) ∷ Fine ∷ Fine ∷ [])

-- the last number is not drawn
abbrev pub LastNumber : Type 0
LastNumber = answers_below 3 (begins ∷ begins ∷ begins ∷ begins ∷ reads 2 ∷ [])
    ≡ Tx (number 1) ∷ Tx (number 2) ∷ No TransactionLimit ∷ No TransactionLimit ∷ Rows [] ∷ []
