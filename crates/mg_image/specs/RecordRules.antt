-- When the records of an image are lawful. All that the rules need to know of other pages is a
-- record of facts, and one rule alone speaks of cells.
use Rattle.std.specs.Prelude.{◌≡◌, ◌≢◌, ◌⊎◌, ◌<◌, ◌≤◌, ◌+◌, ℕ, Bool, true, false, List, [], ◌∷◌, ◌==◌, if◌then◌else◌, Option, None, Some}
use Rattle.std.proofs.Common.{get_or}
use Rattle.mg_base.specs.declared.numbers.RecId.{RecId}
use Rattle.mg_base.specs.declared.transaction.TxState.{TxState}
use Rattle.mg_base.specs.declared.transaction.TxState.TheVariants.{Limbo, Dead, Committed}
use Rattle.mg_value.specs.declared.shape.Column.{Column}
use Rattle.mg_value.specs.declared.value.Value.{Value}
use Rattle.mg_value.specs.declared.value.Value.TheVariants.{Null}
use Rattle.mg_rowcode.specs.Storable.{AreStorable}
use Rattle.mg_image.specs.declared.entry.Entry.{Entry}
use Rattle.mg_model.specs.declared.table.Table.{Table}
use Rattle.mg_model.specs.Answers.{is_committed}
use Rattle.mg_image.specs.Form.{Coding, Row}
use Rattle.mg_image.specs.Records.{Cells, Chain, Reading, Stands, key_of, newest_of, record_key, shown, writer}

-- What the rules of records need to know of the other pages.
pub record Facts : Type 0 where
  -- what has become of each transaction
  pub state : ℕ → TxState
  -- the next transaction, and the oldest interesting one
  pub next : ℕ
  pub oldest : ℕ
  -- the table that a page is a data page of
  pub table_of : ℕ → Option Table

-- whether a transaction is committed
abbrev pub committed_in : Facts → ℕ → Bool
committed_in f t = is_committed (f.state t)

-- the table that a place belongs to
abbrev pub table_in : Facts → RecId → Option Table
table_in f x = f.table_of x.page.0

-- each of these versions has a property
abbrev pub Each : (Entry → Type 0) → List Entry → Type 0
Each P [] = Unit {0}
Each P (e ∷ es) = P e × Each P es

-- each but the newest has it
abbrev pub EachBack : (Entry → Type 0) → List Entry → Type 0
EachBack P [] = Unit {0}
EachBack P (e ∷ es) = Each P es

-- no cell stands twice among these versions
abbrev pub AreOnce : List Entry → Type 0
AreOnce [] = Unit {0}
AreOnce (e ∷ es) = (Stands es e.at → ⊥) × AreOnce es

-- a column as one that allows NULL
abbrev pub allowing_null : Column → Column
allowing_null column = record column { not_null = false }

-- the columns from a place on, each as one that allows NULL but for that at the key's place
abbrev pub erased_from : ℕ → ℕ → List Column → List Column
erased_from key at [] = []
erased_from key at (column ∷ columns) =
    (if at == key then column else allowing_null column) ∷ erased_from key (at + 1) columns

-- the columns under which the row of a version stands
abbrev pub columns_for : Table → Bool → List Column
columns_for table false = table.shape.columns
columns_for table true = erased_from table.shape.key 0 table.shape.columns

-- a row has NULL in each column but the key
abbrev pub IsKeyAlone : Table → Row → Type 0
IsKeyAlone table row = (i : ℕ) → i ≢ table.shape.key → get_or row i Null ≡ Null

-- A version of a record of a table, with a key.
pub record IsVersion (coding : Coding) (f : Facts) (table : Table) (key : Value) (e : Entry)
    : Type 0 where
  -- its cell stands in a data page of the table
  pub placed : table_in f e.at ≡ Some table
  -- its transaction was drawn, and is interesting still where it is dead
  pub drawn : writer e < f.next
  pub dead : f.state (writer e) ≡ Dead → f.oldest ≤ writer e
  -- its body codes a row of the table, of a lawful format; that of a deletion has its key alone
  pub format : coding.format table.shape.columns e.version.format
  pub spelled : coding.row_spelled (columns_for table e.version.deleted) e.version.format
      e.version.body e.row
  pub storable : AreStorable e.row
  pub erased : e.version.deleted ≡ true → IsKeyAlone table e.row
  pub keyed : key_of table e.row ≡ key

-- The versions of one record of a table.
pub record IsRecord (coding : Coding) (f : Facts) (table : Table) (es : List Entry) : Type 0 where
  -- no cell stands twice
  pub once : AreOnce es
  -- all have one primary key
  pub each : Each (IsVersion coding f table (record_key table es)) es
  -- back versions are committed
  pub backs : EachBack (λ e. f.state (writer e) ≡ Committed) es

-- the newest of these versions is of a limbo transaction
abbrev pub IsInLimbo : Facts → List Entry → Type 0
IsInLimbo f [] = ⊥
IsInLimbo f (e ∷ es) = f.state (writer e) ≡ Limbo

-- a record shows a committed row, or has a limbo version: its key is taken
abbrev pub TakesKey : Facts → List Entry → Type 0
TakesKey f es = ((row : Row) × (shown (committed_in f) es ≡ Some row)) ⊎ IsInLimbo f es

-- The records that are read of the cells are lawful.
pub record AreRecords (coding : Coding) (f : Facts) (h : Cells) (r : Reading) : Type 0 where
  -- what is read of a slot is the chain of the version that its cell leads to
  pub reads : (p : RecId) (table : Table) → table_in f p ≡ Some table
      → Chain h (newest_of p (h p)) (r p)
  pub outside : (p : RecId) → table_in f p ≡ None → r p ≡ []
  pub each : (p : RecId) (table : Table) → table_in f p ≡ Some table → IsRecord coding f table (r p)
  -- no cell is one of two records
  pub apart : (p q x : RecId) → Stands (r p) x → Stands (r q) x → p ≡ q
  -- no two records of a table take one key
  pub keys : (p q : RecId) (table : Table) → table_in f p ≡ Some table → table_in f q ≡ Some table
      → TakesKey f (r p) → TakesKey f (r q)
      → record_key table (r p) ≡ record_key table (r q) → p ≡ q
