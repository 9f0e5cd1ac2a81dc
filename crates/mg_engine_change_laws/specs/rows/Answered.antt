-- What the history machine answers to a write of a row of a table that was given.
use Rattle.std.proofs.Common.{◌≡◌, ℕ, Bool, true, false, List, Option, None, Some, refl, sym, ap, ◌∙◌}
use Rattle.std.specs.Prelude.{if◌then◌else◌, is_some}
use Rattle.std.proofs.lemmas.Bool.{false≢true}
use Rattle.mg_base.specs.declared.numbers.TxNo.{TxNo}
use Rattle.mg_base.specs.declared.transaction.TxState.{TxState}
use Rattle.mg_base.specs.declared.transaction.TxState.TheVariants.{Active}
use Rattle.mg_value.specs.declared.shape.Shape.{Shape}
use Rattle.mg_value.specs.declared.value.Value.{Value}
use Rattle.mg_model.specs.declared.answer.Answer.{Answer}
use Rattle.mg_model.specs.declared.answer.Answer.TheVariants.{Fine, No}
use Rattle.mg_model.specs.declared.opening.Opening.{Opening}
use Rattle.mg_model.specs.declared.refusal.Refusal.TheVariants.{DuplicateKey, NoRow, NoTable, ReadOnly}
use Rattle.mg_model.specs.declared.table.Table.{Table}
use Rattle.mg_model.specs.Answers.{Told, answer, answer_active, catalog_of, has_row, has_table, if_active, obstacle, past, told}
use Rattle.mg_model.specs.Catalog.{CatalogRows, catalog_name, catalog_shape, key_by, key_in, key_of, shape_in, shape_said, table_key}
use Rattle.mg_model.specs.Changes.{Cells, same_name}
use Rattle.mg_model.specs.History.{Entries}
use Rattle.mg_model.specs.Machine.{mode_of, state_of}
use Rattle.mg_records.specs.Reading.{shape_named, shape_seen}
use Rattle.mg_records.specs.Writing.{event_of}
use Rattle.mg_records.specs.declared.write.Write.{Write}
use Rattle.mg_records.specs.declared.write.Write.TheVariants as writes
use Rattle.mg_row_writes.specs.Storing.{written_at}

-- what comes once nobody is in the way by the table's row
abbrev pub row_answer : Told → ℕ → List ℕ → Value → Write → Answer
row_answer k t name key (writes.Insert row) =
    if has_row k t name key then No DuplicateKey else past k t (obstacle k t name key) Fine
row_answer k t name key (writes.Change was row) =
    if has_row k t name key then past k t (obstacle k t name key) Fine else No NoRow
row_answer k t name key (writes.Erase was) =
    if has_row k t name key then past k t (obstacle k t name key) Fine else No NoRow

-- what comes for one that may write
abbrev pub table_answer : Told → ℕ → List ℕ → Value → Write → Answer
table_answer k t name key write =
    past k t (obstacle k t catalog_name (table_key name)) (row_answer k t name key write)

abbrev pub write_answer : Told → ℕ → List ℕ → Value → Write → Answer
write_answer k t name key write =
    if (k.mode t).read_only then No ReadOnly else table_answer k t name key write

-- ---- the table

module _ (rows : CatalogRows) (name : List ℕ) (shape : Shape) (seen : shape_named rows name ≡ Some shape) where
  pub no_catalog : same_name name catalog_name ≡ false
  no_catalog = at (same_name name catalog_name) refl seen
    where
      at : (b : Bool) → same_name name catalog_name ≡ b
          → (if b then None else shape_said rows name (rows (table_key name))) ≡ Some shape
          → same_name name catalog_name ≡ false
      at true is some = absurd cc
      at false is some = is

  pub shape_is : shape_in rows name ≡ Some shape
  shape_is = at (same_name name catalog_name) no_catalog seen
    where
      at : (b : Bool) → b ≡ false → (if b then None else shape_said rows name (rows (table_key name))) ≡ Some shape
          → (if b then Some catalog_shape else shape_said rows name (rows (table_key name))) ≡ Some shape
      at true is some = absurd (false≢true (sym is))
      at false is some = some

-- ---- the answer

module _ (o : Opening) (h : Entries) (t : TxNo) (table : Table) (active : state_of o h t.0 ≡ Active)
    (seen : shape_seen o h t.0 table.name ≡ Some table.shape) where
  abbrev k : Told
  k = told o h

  abbrev rows : CatalogRows
  rows = catalog_of (told o h) t.0

  there : has_table (told o h) t.0 table.name ≡ true
  there = ap is_some (shape_is (catalog_of (told o h) t.0) table.name table.shape seen)

  pub keyed : (row : Cells) → key_in (catalog_of (told o h) t.0) table.name row ≡ key_of table.shape row
  keyed row = ap (λ (s : Option Shape). key_by s row)
      (shape_is (catalog_of (told o h) t.0) table.name table.shape seen)

  other : same_name table.name catalog_name ≡ false
  other = no_catalog (catalog_of (told o h) t.0) table.name table.shape seen

  is_active : (next : Answer) → if_active (state_of o h t.0) next ≡ next
  is_active next = ap (λ (s : TxState). if_active s next) active

  -- the same, whether the table is there, and who is in the way of it
  opened : (next : Answer) → (if (mode_of h t.0).read_only then No ReadOnly
      else (if has_table (told o h) t.0 table.name
      then past (told o h) t.0 (if same_name table.name catalog_name then None
      else obstacle (told o h) t.0 catalog_name (table_key table.name)) next else No NoTable))
      ≡ (if (mode_of h t.0).read_only then No ReadOnly
      else past (told o h) t.0 (obstacle (told o h) t.0 catalog_name (table_key table.name)) next)
  opened next = ap (λ (b : Bool). if (mode_of h t.0).read_only then No ReadOnly
      else (if b then past (told o h) t.0 (if same_name table.name catalog_name then None
      else obstacle (told o h) t.0 catalog_name (table_key table.name)) next else No NoTable)) there
      ∙ ap (λ (b : Bool). if (mode_of h t.0).read_only then No ReadOnly
      else past (told o h) t.0 (if b then None
      else obstacle (told o h) t.0 catalog_name (table_key table.name)) next) other

  pub answered : (write : Write) → answer o h (event_of t table.name write)
      ≡ write_answer (told o h) t.0 table.name (written_at table write) write
  answered (writes.Insert row) = is_active (answer_active (told o h) t.0 (event_of t table.name (writes.Insert row)))
      ∙ (opened (row_answer (told o h) t.0 table.name (key_in (catalog_of (told o h) t.0) table.name row)
      (writes.Insert row))
      ∙ ap (λ (key : Value). write_answer (told o h) t.0 table.name key (writes.Insert row)) (keyed row))
  answered (writes.Change key row) =
      is_active (answer_active (told o h) t.0 (event_of t table.name (writes.Change key row)))
      ∙ opened (row_answer (told o h) t.0 table.name key (writes.Change key row))
  answered (writes.Erase key) = is_active (answer_active (told o h) t.0 (event_of t table.name (writes.Erase key)))
      ∙ opened (row_answer (told o h) t.0 table.name key (writes.Erase key))
