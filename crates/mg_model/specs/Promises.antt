-- What a user is promised of a transaction among others: what it sees, and when it may write.
use Rattle.std.specs.Prelude.{◌≡◌, ◌≢◌, ◌⊎◌, ◌↔◌, ℕ, true, false, List, ◌∷◌, ◌++◌, None, IsSome}
use Rattle.mg_base.specs.declared.transaction.TxState.TheVariants.{Active, Dead, Committed}
use Rattle.mg_value.specs.declared.value.Value.{Value}
use Rattle.mg_model.specs.declared.answer.Answer.TheVariants.{Fine, Tx}
use Rattle.mg_model.specs.declared.event.Event.TheVariants.{Begin, Insert, Change, Erase}
use Rattle.mg_model.specs.declared.event.Mode.{Mode}
use Rattle.mg_model.specs.declared.opening.Opening.{Opening}
use Rattle.mg_model.specs.Changes.{Cells, has_change, row_at}
use Rattle.mg_model.specs.Catalog.{CatalogRows, catalog_name, table_key, shape_in, key_in}
use Rattle.mg_model.specs.History.{Entries, entry}
use Rattle.mg_model.specs.Machine.{mode_of, state_of, database, own, view, cut_at_base}
use Rattle.mg_model.specs.Answers.{told, is_committed, number, answer}
use Rattle.mg_model.specs.Legal.{MayBegin, IsLegal}

-- ---- what a snapshot sees

-- a history, and then the entry that draws a transaction's number
abbrev pub begun : Entries → ℕ → Mode → ℕ → Entries
begun h session mode t = entry (Begin session mode) (Tx (number t)) ∷ h

-- A transaction that reads by one snapshot sees the database just before the entry that drew its
-- number, with its own changes over it, whatever was done since.
abbrev pub SnapshotsSee : Type 0
SnapshotsSee = (o : Opening) (h since : Entries) (session : ℕ) (mode : Mode) (t : ℕ)
    → mode.snapshot ≡ true → IsLegal o (since ++ begun h session mode t)
    → view o (since ++ begun h session mode t) t
    ≡ own o (since ++ begun h session mode t) t ++ database o h

-- It saw those committed that were so then: one that was active or in limbo had not ended, whoever
-- ended it since, and however.
abbrev pub SnapshotsSaw : Type 0
SnapshotsSaw = (o : Opening) (h since : Entries) (session : ℕ) (mode : Mode) (t u : ℕ)
    → mode.snapshot ≡ true → IsLegal o (since ++ begun h session mode t)
    → (told o (since ++ begun h session mode t)).saw t u ≡ is_committed (state_of o h u)

-- ---- when a transaction may write

-- every other transaction whose own changes have the key is dead, or was committed when this one
-- took its base
abbrev pub IsFree : Opening → Entries → ℕ → List ℕ → Value → Type 0
IsFree o h t table key = (u : ℕ) → u ≢ t → has_change (own o h u) table key ≡ true
    → (state_of o h u ≡ Dead) ⊎ (state_of o (cut_at_base h t) u ≡ Committed)

-- what a transaction sees of the catalog
abbrev pub catalog_seen : Opening → Entries → ℕ → CatalogRows
catalog_seen o h t = row_at (view o h t) catalog_name

-- A transaction may write a key of a table: it is active and not read only, it sees the table, and
-- both the table's row in the catalog and the key are free. The catalog has no such row.
pub record MayWrite (o : Opening) (h : Entries) (t : ℕ) (table : List ℕ) (key : Value) : Type 0 where
  pub active : state_of o h t ≡ Active
  pub writes : (mode_of h t).read_only ≡ false
  pub sees : IsSome (shape_in (catalog_seen o h t) table)
  pub table_free : table ≢ catalog_name → IsFree o h t catalog_name (table_key table)
  pub key_free : IsFree o h t table key

-- A new row is answered Fine exactly where the transaction may write its key, and sees no row with
-- it.
abbrev pub InsertIsFine : Type 0
InsertIsFine = (o : Opening) (h : Entries) (t : ℕ) (table : List ℕ) (row : Cells) → MayBegin o
    → IsLegal o h → (answer o h (Insert (number t) table row) ≡ Fine)
    ↔ (MayWrite o h t table (key_in (catalog_seen o h t) table row)
    × (row_at (view o h t) table (key_in (catalog_seen o h t) table row) ≡ None))

-- Another row for a key is answered Fine exactly where the transaction may write the key, and sees
-- a row with it.
abbrev pub ChangeIsFine : Type 0
ChangeIsFine = (o : Opening) (h : Entries) (t : ℕ) (table : List ℕ) (key : Value) (row : Cells)
    → MayBegin o → IsLegal o h → (answer o h (Change (number t) table key row) ≡ Fine)
    ↔ (MayWrite o h t table key × IsSome (row_at (view o h t) table key))

-- So is the deletion of a row.
abbrev pub EraseIsFine : Type 0
EraseIsFine = (o : Opening) (h : Entries) (t : ℕ) (table : List ℕ) (key : Value)
    → MayBegin o → IsLegal o h → (answer o h (Erase (number t) table key) ≡ Fine)
    ↔ (MayWrite o h t table key × IsSome (row_at (view o h t) table key))
