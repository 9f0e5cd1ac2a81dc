-- What a keeper has of its indexes stays as entries are laid; and where nobody is active, and no deletion is left that counts,
-- there is nothing to have.
use Rattle.std.proofs.Common.{◌≡◌, ◌≢◌, ◌∙◌, ◌⊎◌, inl, inr, sym, subst, ℕ, Bool, true, false, List, [], ◌∷◌, Option, Some}
use Rattle.std.specs.Prelude.{if◌then◌else◌}
use Rattle.mg_base.specs.declared.numbers.RecId.{RecId}
use Rattle.mg_base.specs.declared.transaction.TxState.{TxState}
use Rattle.mg_base.specs.declared.transaction.TxState.TheVariants.{Active, Limbo}
use Rattle.mg_chain.specs.Views.{first_entry}
use Rattle.mg_entry_overlay_laws.specs.Entered.{KeepsRoots, ShowsEntries}
use Rattle.mg_image.specs.Form.{Form, Pages, Row}
use Rattle.mg_image.specs.Indexes.{Finds, IsFoundIn}
use Rattle.mg_image.specs.Records.{Reading, record_key, writer}
use Rattle.mg_image.specs.Tables.{EachStand, Layout, Stand, stands_of, table_at}
use Rattle.mg_image.specs.declared.entry.Entry.{Entry}
use Rattle.mg_image_overlay_laws.specs.tables.Growing.{IsTableOf}
use Rattle.mg_image_overlay_laws.specs.pages.Grow.{each_mid}
use Rattle.mg_image_overlay_laws.specs.tables.OneTable.{table_at_stands}
use Rattle.mg_model.specs.Changes.{same_name}
use Rattle.mg_model.specs.declared.table.Index.{Index}
use Rattle.mg_model.specs.declared.table.Table.{Table}
use Rattle.mg_node.specs.declared.entry.Entry as nodes
use Rattle.mg_seek.specs.Speaking.{is_erased_for_all}
use Rattle.mg_seek.specs.Versions.{wants}
use Rattle.mg_seek.specs.declared.whose.Wanted.TheVariants.{Living}
use Rattle.mg_snap.specs.Live.{State}
use Rattle.mg_key_entry_laws.specs.KeptEntries.{HasFound, primary_in, primary_of}
use Rattle.mg_key_entry_laws.specs.KeyEntries.{entry_of_key}

-- ---- over pages that find what was found

module _ (state : ℕ → TxState) (live : State) (table_of now_of : ℕ → Option Table) (pages later : Pages)
    (reading : Reading) (owners : (n : ℕ) → now_of n ≡ table_of n)
    (rows : (table : Table) (p : RecId) (row : Row) → table_of p.page.0 ≡ Some table
    → IsFoundIn pages table.indexes p row → IsFoundIn later table.indexes p row)
    (primaries : (table : Table) (p : RecId) (index : Index) → table_of p.page.0 ≡ Some table
    → primary_of table ≡ Some index → (e : nodes.Entry) → Finds pages e index.root.0 → Finds later e index.root.0)
    (found : HasFound state live table_of pages reading) where
  pub found_on : HasFound state live now_of later reading
  found_on = record {
    seen = λ t active p table row of is. rows table p row (sym (owners p.page.0) ∙ of)
        (found.seen t active p table row (sym (owners p.page.0) ∙ of) is);
    keyed = λ p table index of primary newest first deleted stays. at p table index newest
        (primaries table p index (sym (owners p.page.0) ∙ of) primary)
        (found.keyed p table index (sym (owners p.page.0) ∙ of) primary newest first deleted stays);
  }
    where
      at : (p : RecId) (table : Table) (index : Index) (newest : Entry)
          → ((e : nodes.Entry) → Finds pages e index.root.0 → Finds later e index.root.0)
          → Finds pages (entry_of_key (record_key table (reading p)) p) index.root.0 ⊎ (state (writer newest) ≡ Limbo)
          → Finds later (entry_of_key (record_key table (reading p)) p) index.root.0 ⊎ (state (writer newest) ≡ Limbo)
      at p table index newest on (inl has) = inl (on (entry_of_key (record_key table (reading p)) p) has)
      at p table index newest on (inr limbo) = inr limbo

-- ---- where entries are laid

-- the primary index is one of those that find what they found
keeps_primary : (old new : Pages) (name : List ℕ) (indexes : List Index) (index : Index) → KeepsRoots old new indexes
    → primary_in name indexes ≡ Some index → (e : nodes.Entry) → Finds old e index.root.0 → Finds new e index.root.0
keeps_primary old new name [] index keeps is e has = absurd cc
keeps_primary old new name (i ∷ is) index keeps some e has = at (same_name i.name name) some
    (λ more. keeps_primary old new name is index keeps.1 more e has)
  where
    at : (b : Bool) → (if b then Some i else primary_in name is) ≡ Some index
        → (primary_in name is ≡ Some index → Finds new e index.root.0) → Finds new e index.root.0
    at true here later =
        let same : i ≡ index = cc in
        subst (λ (x : Index). Finds old e x.root.0 → Finds new e x.root.0) same (keeps.0 e) has
    at false more later = later more

module _ (form : Form) (size : ℕ) (state : ℕ → TxState) (pool changed : Pages) (a : Layout) (r : Reading)
    (entries : ShowsEntries form size state pool changed a r) where
  roots_of : (table : Table) (n : ℕ) → table_at (stands_of a) n ≡ Some table → KeepsRoots pool changed table.indexes
  roots_of table n of = at (table_at_stands a n table of)
    where
      at : IsTableOf a table → KeepsRoots pool changed table.indexes
      at its = subst (λ (x : Table). KeepsRoots pool changed x.indexes) its.table_is
          (each_mid (λ (st : Stand). KeepsRoots pool changed st.table.indexes) its.before its.after its.stand
          (subst (λ (ss : List Stand). EachStand (λ st. KeepsRoots pool changed st.table.indexes) ss) its.is_
          entries.roots))

  -- the same records, whose rows and keys are found
  pub entries_keep_found : (now : ℕ → TxState) (live : State) → HasFound now live (table_at (stands_of a)) pool r
      → HasFound now live (table_at (stands_of entries.layout)) changed r
  entries_keep_found now live found = found_on now live (table_at (stands_of a)) (table_at (stands_of entries.layout))
      pool changed r entries.owners entries.found
      (λ table p index of primary. keeps_primary pool changed table.name table.indexes index
      (roots_of table p.page.0 of) primary) found

-- ---- where there is nothing to have

pub nothing_found : (state : ℕ → TxState) (live : State) (table_of : ℕ → Option Table) (pages : Pages)
    (reading : Reading) → ((t : ℕ) → state t ≢ Active)
    → ((p : RecId) (newest : Entry) → first_entry (wants state live Living) (reading p) ≡ Some newest
    → newest.version.deleted ≡ true → is_erased_for_all state live newest.version ≡ false
    → state (writer newest) ≡ Limbo)
    → HasFound state live table_of pages reading
nothing_found state live table_of pages reading none limbo = record {
  seen = λ t active p table row of is. absurd (none t active);
  keyed = λ p table index of primary newest first deleted stays. inr (limbo p newest first deleted stays);
}
