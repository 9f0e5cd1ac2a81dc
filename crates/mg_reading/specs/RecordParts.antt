-- The rules of records one by one: the versions that links lead to, the transactions that wrote
-- them, back versions, and keys. Together they are the rules of records.
use Rattle.std.specs.Prelude.{◌≡◌, ◌<◌, ◌≤◌, true, List, [], None, Some}
use Rattle.mg_base.specs.declared.numbers.RecId.{RecId}
use Rattle.mg_base.specs.declared.transaction.TxState.TheVariants.{Dead, Committed}
use Rattle.mg_rowcode.specs.Storable.{AreStorable}
use Rattle.mg_model.specs.declared.table.Table.{Table}
use Rattle.mg_image.specs.declared.entry.Entry.{Entry}
use Rattle.mg_image.specs.Form.{Coding}
use Rattle.mg_image.specs.RecordRules.{AreOnce, Each, EachBack, Facts, IsKeyAlone, TakesKey, columns_for, table_in}
use Rattle.mg_image.specs.Records.{Cells, Chain, Reading, Stands, key_of, newest_of, record_key, writer}

-- A version stands in a data page of a table, and its body codes a row of the table.
pub record IsStored (coding : Coding) (f : Facts) (table : Table) (e : Entry) : Type 0 where
  pub placed : table_in f e.at ≡ Some table
  pub format : coding.format table.shape.columns e.version.format
  pub spelled : coding.row_spelled (columns_for table e.version.deleted) e.version.format
      e.version.body e.row
  pub storable : AreStorable e.row
  pub erased : e.version.deleted ≡ true → IsKeyAlone table e.row

-- the transaction of a version was drawn, and is interesting still where it is dead
abbrev pub IsDrawn : Facts → Entry → Type 0
IsDrawn f e = (writer e < f.next) × (f.state (writer e) ≡ Dead → f.oldest ≤ writer e)

-- the back versions of a record are committed
abbrev pub AreBacksCommitted : Facts → List Entry → Type 0
AreBacksCommitted f es = EachBack (λ e. f.state (writer e) ≡ Committed) es

-- all versions of a record have the key of the newest
abbrev pub HaveOneKey : Table → List Entry → Type 0
HaveOneKey table es = Each (λ e. key_of table e.row ≡ record_key table es) es

-- two records take one key
abbrev pub TakeOneKey : Facts → Table → List Entry → List Entry → Type 0
TakeOneKey f table a b = TakesKey f a × TakesKey f b × (record_key table a ≡ record_key table b)

-- The versions of a record: no cell stands twice, and each is stored.
pub record AreVersions (coding : Coding) (f : Facts) (table : Table) (es : List Entry)
    : Type 0 where
  pub once : AreOnce es
  pub each : Each (IsStored coding f table) es

-- Each record has the versions that the links lead to from its slot on, and no cell is one of two
-- records.
pub record HasVersions (coding : Coding) (f : Facts) (h : Cells) (r : Reading) : Type 0 where
  pub reads : (p : RecId) (table : Table) → table_in f p ≡ Some table
      → Chain h (newest_of p (h p)) (r p)
  pub outside : (p : RecId) → table_in f p ≡ None → r p ≡ []
  pub each : (p : RecId) (table : Table) → table_in f p ≡ Some table
      → AreVersions coding f table (r p)
  pub apart : (p q x : RecId) → Stands (r p) x → Stands (r q) x → p ≡ q

-- the transactions of all versions are drawn
abbrev pub AreDrawn : Facts → Reading → Type 0
AreDrawn f r = (p : RecId) → Each (IsDrawn f) (r p)

-- all back versions are committed
abbrev pub AreBacks : Facts → Reading → Type 0
AreBacks f r = (p : RecId) → AreBacksCommitted f (r p)

-- Each record has one key, and no two of a table take one.
pub record HaveOwnKeys (f : Facts) (r : Reading) : Type 0 where
  pub one : (p : RecId) (table : Table) → table_in f p ≡ Some table → HaveOneKey table (r p)
  pub own : (p q : RecId) (table : Table) → table_in f p ≡ Some table
      → table_in f q ≡ Some table → TakeOneKey f table (r p) (r q) → p ≡ q

-- The same where all that is read is of one table.
pub record AreKeyed (f : Facts) (table : Table) (r : Reading) : Type 0 where
  pub one : (p : RecId) → HaveOneKey table (r p)
  pub own : (p q : RecId) → TakeOneKey f table (r p) (r q) → p ≡ q
