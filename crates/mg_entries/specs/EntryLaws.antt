-- Laws of laying entries.
use Rattle.std.proofs.Common.{◌≡◌, ◌∙◌, ◌++◌, ℕ, List, [], ◌∷◌, Result, Ok, Err, ap, refl, sym, subst}
use Rattle.std.specs.Prelude.{IsErr, IsErrAnd, MatchResult}
use Rattle.std.proofs.lemmas.List.{append_assoc}
use Rattle.mg_base.specs.Disk.{Meaning}
use Rattle.mg_base.specs.declared.numbers.RecId.{RecId}
use Rattle.mg_model.specs.declared.table.Index.{Index}
use Rattle.mg_pool.specs.declared.pool.Pool.{Pool}
use Rattle.mg_space.specs.declared.fault.SpaceFault.{SpaceFault}
use Rattle.mg_space.specs.declared.links.FireLinks.{FireLinks}
use Rattle.mg_base.specs.Image.{Image}
use Rattle.mg_image.specs.Form.{Pages, Row}
use Rattle.mg_image.specs.Indexes.{IsTree, index_entry}
use Rattle.mg_node.specs.declared.entry.Entry.{Entry}
use Rattle.mg_pool.specs.Batch.{Changed}
use Rattle.mg_pool.specs.Fault.{StaysOnline}
use Rattle.mg_space.specs.View.{KeepsStore, Tells, viewed}
use Rattle.mg_btree.specs.Changing.{HasNoInventory}
use Rattle.mg_btree.specs.Inserting.{PutsAndTakes}
use Rattle.mg_btree.specs.SearchLaws.{viewed_same}
use Rattle.mg_batches.specs.BatchLaws.{nothing}
use Rattle.mg_batches.specs.Batches.{ChangesBatch, FailsBatch, not_changed, nothing_yet}
use Rattle.mg_entries.specs.Entries.{FailsAll, FailsEntry, IsLaying, LaysAll, LaysEntry, PutsEntry}

pub laying_starts : {D : Type 0} (m : Meaning D) (indexes : List Index) (p : RecId) (row : Row) (store : Pool D FireLinks)
    → IsLaying m indexes indexes p row store store
laying_starts m indexes p row store = record { first = []; parts = refl; laid = LaysAll.no_index p row store }

-- one more is laid
pub laying_goes_on : {D : Type 0} (m : Meaning D) (indexes rest : List Index) (index : Index) (later : List Index) (p : RecId)
    (row : Row) (before now after : Pool D FireLinks) → IsLaying m indexes rest p row before now → rest ≡ index ∷ later
    → LaysEntry m now after index.root.0 (index_entry index p row) → IsLaying m indexes later p row before after
laying_goes_on m indexes rest index later p row before now after laying is lays = record {
  first = laying.first ++ index ∷ [];
  parts = laying.parts ∙ (ap (λ (more : List Index). laying.first ++ more) is ∙ sym (append_assoc laying.first (index ∷ []) later));
  laid = LaysAll.one_more laying.first index p row before now after laying.laid lays;
}

-- the next one is not laid
pub laying_fails : {D : Type 0} (m : Meaning D) (indexes rest : List Index) (index : Index) (later : List Index) (p : RecId)
    (row : Row) (before now after : Pool D FireLinks) (fault : SpaceFault) → IsLaying m indexes rest p row before now
    → rest ≡ index ∷ later → FailsEntry m now after index.root.0 (index_entry index p row) fault
    → FailsAll m indexes p row before after fault
laying_fails m indexes rest index later p row before now after fault laying is fails = record {
  first = laying.first;
  index = index;
  later = later;
  parts = laying.parts ∙ ap (λ (more : List Index). laying.first ++ more) is;
  mid = now;
  laid = laying.laid;
  refused = fails;
}

pub handed_on : {T : Type 0} (result : Result T SpaceFault) (fault : SpaceFault) (P : T → Type 0) (Q : SpaceFault → Type 0)
    → IsErr result → IsErrAnd result (λ given. given ≡ fault) → Q fault → MatchResult result P Q
handed_on (Ok x) fault P Q err is holds = absurd cc
handed_on (Err e) fault P Q err is holds = subst Q (sym is) holds

-- ---- one entry

-- a batch that was filled is changed, or not
pub entry_changed : {D : Type 0} (m : Meaning D) (before ready after : Pool D FireLinks) (empty batch : Changed) (root : ℕ)
    (e given : Entry) (result : Result (Unit {0}) SpaceFault) → given ≡ e → empty.pages ≡ [] → empty.orders ≡ []
    → KeepsStore m before ready → StaysOnline m before ready
    → ((image : Image) (owner : ℕ) (levels : List (List ℕ)) → Tells m before.disk image
    → IsTree before.geometry.size (viewed before image empty) owner root levels
    → HasNoInventory before.geometry.size levels
    → PutsAndTakes before.geometry (viewed before image empty) (viewed ready image batch) empty batch owner root levels given)
    → MatchResult result (λ _. ChangesBatch m ready after batch) (FailsBatch m ready after batch)
    → MatchResult result (λ _. LaysEntry m before after root e) (FailsEntry m before after root e)
entry_changed m before ready after empty batch root e given result is pages orders keeps online puts changed =
    by result changed
  where
    told : (image : Image) → Tells m before.disk image → PutsEntry before image empty batch root e
    told image tells owner levels tree free =
        subst (λ (x : Entry). PutsAndTakes before.geometry (viewed before image empty) (viewed before image batch) empty batch owner root levels x) is
        (subst (λ (new : Pages). PutsAndTakes before.geometry (viewed before image empty) new empty batch owner root levels given)
        (viewed_same m before ready image batch keeps) (puts image owner levels tells tree free))

    filled : (image : Image) → Tells m before.disk image → PutsEntry before image nothing_yet batch root e
    filled image tells = subst (λ (b : Changed). PutsEntry before image b batch root e) (nothing empty pages orders)
        (told image tells)

    by : (result : Result (Unit {0}) SpaceFault)
        → MatchResult result (λ _. ChangesBatch m ready after batch) (FailsBatch m ready after batch)
        → MatchResult result (λ _. LaysEntry m before after root e) (FailsEntry m before after root e)
    by (Ok x) changed = record {
      batch = batch;
      ready = ready;
      keeps = keeps;
      online = online;
      filled = filled;
      changed = changed;
    }
    by (Err fault) failed = not_changed batch ready keeps online filled failed
