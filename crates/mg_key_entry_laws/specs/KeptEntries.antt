-- What a keeper of records has of its indexes beyond soundness: each row that an active transaction sees is found in each
-- index of its table, and the key of a record whose newest living version is a deletion in the primary one.
use Rattle.std.specs.Prelude.{◌≡◌, ◌⊎◌, ℕ, true, false, List, [], ◌∷◌, Option, None, Some, if◌then◌else◌}
use Rattle.mg_base.specs.declared.numbers.RecId.{RecId}
use Rattle.mg_base.specs.declared.transaction.TxState.{TxState}
use Rattle.mg_base.specs.declared.transaction.TxState.TheVariants.{Active, Limbo}
use Rattle.mg_chain.specs.Chains.{takes_version}
use Rattle.mg_chain.specs.Views.{first_entry}
use Rattle.mg_image.specs.Form.{Pages, Row}
use Rattle.mg_image.specs.Indexes.{Finds, IsFoundIn}
use Rattle.mg_image.specs.Records.{Reading, record_key, shown, writer}
use Rattle.mg_image.specs.declared.entry.Entry.{Entry}
use Rattle.mg_model.specs.Changes.{same_name}
use Rattle.mg_model.specs.declared.table.Index.{Index}
use Rattle.mg_model.specs.declared.table.Table.{Table}
use Rattle.mg_seek.specs.Speaking.{is_erased_for_all}
use Rattle.mg_seek.specs.Versions.{wants}
use Rattle.mg_seek.specs.declared.whose.Wanted.TheVariants.{Living}
use Rattle.mg_snap.specs.Live.{State}
use Rattle.mg_key_entry_laws.specs.KeyEntries.{entry_of_key}

-- the index of some that has the name of their table, none where there is none
abbrev pub primary_in : List ℕ → List Index → Option Index
primary_in name [] = None
primary_in name (i ∷ is) = if same_name i.name name then Some i else primary_in name is

abbrev pub primary_of : Table → Option Index
primary_of table = primary_in table.name table.indexes

-- This is what it has, where each page is this table's, if any.
pub record HasFound (state : ℕ → TxState) (live : State) (table_of : ℕ → Option Table) (pages : Pages)
    (reading : Reading) : Type 0 where
  -- what an active transaction sees of a record is found in each index of the record's table
  pub seen : (t : ℕ) → state t ≡ Active → (p : RecId) (table : Table) (row : Row) → table_of p.page.0 ≡ Some table
      → shown (takes_version state live t) (reading p) ≡ Some row → IsFoundIn pages table.indexes p row
  -- a record whose newest living version is a deletion, and not erased for all, has the entry of its key; one in limbo
  -- need not, since soundness asks none of it
  pub keyed : (p : RecId) (table : Table) (index : Index) → table_of p.page.0 ≡ Some table
      → primary_of table ≡ Some index → (newest : Entry)
      → first_entry (wants state live Living) (reading p) ≡ Some newest → newest.version.deleted ≡ true
      → is_erased_for_all state live newest.version ≡ false
      → Finds pages (entry_of_key (record_key table (reading p)) p) index.root.0 ⊎ (state (writer newest) ≡ Limbo)
