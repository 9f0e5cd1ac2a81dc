-- A change is not taken back: pages were read, or a page write failed, and the fault is told and counted.
use Rattle.std.proofs.Common.{◌≡◌, ◌⊎◌, inl, inr, ℕ, Option, None, Some, sym, ap, ◌∙◌, subst}
use Rattle.mg_base.specs.Disk.{Meaning}
use Rattle.mg_base.specs.declared.numbers.RecId.{RecId}
use Rattle.mg_base.specs.declared.transaction.TxState.{TxState}
use Rattle.mg_core.specs.Refusing.{CountsFault, IsRefusal, NamesLimit}
use Rattle.mg_core.specs.declared.parts.Core.{Core}
use Rattle.mg_engine_change_laws.specs.memory.StageLaws.{own_left, own_tells, told_from, told_of}
use Rattle.mg_engine_change_laws.specs.memory.Stages.{FailsReady, TellsOf}
use Rattle.mg_model.specs.declared.refusal.Refusal.{Refusal}
use Rattle.mg_model.specs.declared.table.Table.{Table}
use Rattle.mg_pool.specs.Pool.{IsPool}
use Rattle.mg_pool.specs.declared.pool.Pool.{Pool}
use Rattle.mg_records.specs.declared.write.Write.{Write}
use Rattle.mg_batches.specs.Batches.{not_lawful}
use Rattle.mg_snap.specs.Live.{State as Bases}
use Rattle.mg_space.specs.View.{KeepsStore}
use Rattle.mg_space.specs.ViewLaws.{CountsNow, keeps_itself, keeps_on}
use Rattle.mg_space.specs.declared.fault.SpaceFault.{SpaceFault}
use Rattle.mg_space.specs.declared.fault.SpaceFault.TheVariants as faults
use Rattle.mg_space.specs.declared.links.FireLinks.{FireLinks}
use Rattle.mg_taking_back.specs.Changes.{FailsChange, change_not_taken, change_of_none}
use Rattle.mg_taking_back.specs.Keys.{FailsKey, FailsPuttingBack, IsOwnAt, former, former_key_long, former_long, former_memory, former_not_put, former_unfit, key_not_put, key_unfit, key_unread}
use Rattle.mg_undo.specs.declared.changes.Change.{Change}
use Rattle.mg_undo.specs.declared.changes.Was.{Was}
use Rattle.mg_value.specs.declared.value.Value.{Value}
use Rattle.std.proofs.Common.{◌++◌, List, [], ◌∷◌, refl}
use Rattle.mg_base.specs.Image.{Image}
use Rattle.mg_batches.specs.Batches.{FailsOwn}
use Rattle.mg_engine_change_laws.specs.keys.Chains.{HasTaken}
use Rattle.mg_engine_change_laws.specs.entries.EnteredAllLaws.{no_more}
use Rattle.mg_engine_change_laws.specs.rows.MadeLaws.{StoreOn, all_on, on_then, read_on, stays_on}
use Rattle.mg_entries.specs.Entries.{LaysAll, no_index, one_more}
use Rattle.mg_image.specs.Form.{Row}
use Rattle.mg_model.specs.declared.table.Index.{Index}
use Rattle.mg_pool.specs.Batch.{Changed}
use Rattle.mg_pool.specs.Fault.{StaysOnline}
use Rattle.mg_pool.specs.Pool.{shown}
use Rattle.mg_records.specs.declared.write.Write.TheVariants as writes
use Rattle.mg_row_writes.specs.Laying.{FailsEnterOwn, not_entered, not_put_in}
use Rattle.mg_space.specs.View.{Tells}
use Rattle.mg_taking_back.specs.Changes.{table_back}
use Rattle.mg_txlist.specs.TxList.{said}
use Rattle.mg_version.specs.declared.cell.Version.{Version}

pub record StopsAs {D : Type 0} (m : Meaning D) (at new : Core D) (refusal : Refusal) : Type 0 where
  pub fault : SpaceFault
  pub left : KeepsStore m at.store new.store ⊎ FailsReady m at.store new.store fault
  pub told : TellsOf m at.store new.store fault
  pub is : IsRefusal fault refusal
  pub names : NamesLimit new.store.geometry.limit refusal
  pub counts : CountsFault fault at.damage new.damage at.shortages new.shortages
  pub same : new ≡ record at { store = new.store; damage = new.damage; shortages = new.shortages }

-- how the store was left, and what is told of it
pub record LeavesAs {D : Type 0} (m : Meaning D) (a b : Pool D FireLinks) (fault : SpaceFault) : Type 0 where
  pub left : KeepsStore m a b ⊎ FailsReady m a b fault
  pub told : TellsOf m a b fault

-- Entries of a row were laid for the record that speaks for a key, with a newest version of the transaction's own: pages
-- were read, and then the first indexes of the table got theirs.
pub record LaysKey {D : Type 0} (m : Meaning D) (before entered : Pool D FireLinks) (state : ℕ → TxState) (live : Bases)
    (t : ℕ) (table : Table) (key : Value) : Type 0 where
  pub rec : RecId
  pub row : Row
  pub first : List Index
  pub later : List Index
  pub parts : table.indexes ≡ first ++ later
  pub ready : Pool D FireLinks
  pub keeps : KeepsStore m before ready
  pub online : StaysOnline m before ready
  pub own : (image : Image) → Tells m before.disk image → IsOwnAt state live t (shown before.dirty image) table key rec
  pub laid : LaysAll m first rec row ready entered

-- A key is not taken back, once entries were laid or none.
record StopsKey {D : Type 0} (m : Meaning D) (before after : Pool D FireLinks) (state : ℕ → TxState) (live : Bases) (t : ℕ)
    (table : Table) (key : Value) (fault : SpaceFault) : Type 0 where
  entered : Pool D FireLinks
  before_it : (entered ≡ before) ⊎ LaysKey m before entered state live t table key
  as_ : LeavesAs m entered after fault

-- So it was in the table that begins at a page.
pub record LaysSome {D : Type 0} (m : Meaning D) (at : Core D) (entered : Pool D FireLinks) (t : ℕ) : Type 0 where
  pub number : ℕ
  pub table : Table
  pub found : table_back at.catalog at.works t number ≡ Some table
  pub key : Value
  pub laid : LaysKey m at.store entered (said at.list) at.live t table key

-- no entry was laid, or some were
abbrev pub EntersBack : {D : Type 0} → Meaning D → Core D → Pool D FireLinks → ℕ → Type 0
EntersBack m at entered t = (entered ≡ at.store) ⊎ LaysSome m at entered t

-- A change is not taken back: entries of its row were laid, or none, and then pages were read, or a page write failed.
pub record StopsFrom {D : Type 0} (m : Meaning D) (at new : Core D) (t : ℕ) (refusal : Refusal) : Type 0 where
  pub entered : Pool D FireLinks
  pub before_it : EntersBack m at entered t
  pub stopping : StopsAs m (record at { store = entered }) new refusal

module _ {D : Type 0} (m : Meaning D) (counts_now : CountsNow m) where
  -- nothing was called
  none_as : (a b : Pool D FireLinks) (fault : SpaceFault) → IsPool m a → b ≡ a → TellsOf m a a fault
      → LeavesAs m a b fault
  none_as a b fault pool same told = subst (λ (x : Pool D FireLinks). LeavesAs m a x fault) (sym same)
      (record { left = inl (keeps_itself m a pool); told = told })

  -- pages were read before
  read_as : (a ready b : Pool D FireLinks) (fault : SpaceFault) → KeepsStore m a ready → LeavesAs m ready b fault
      → LeavesAs m a b fault
  read_as a ready b fault keeps as_ = record {
    left = at as_.left;
    told = told_from m a ready b fault keeps as_.told;
  }
    where
      at : KeepsStore m ready b ⊎ FailsReady m ready b fault → KeepsStore m a b ⊎ FailsReady m a b fault
      at (inl more) = inl (keeps_on m counts_now a ready b keeps more)
      at (inr fails) = inr (record {
        ready = fails.ready;
        count = fails.count;
        keeps = keeps_on m counts_now a ready fails.ready keeps fails.keeps;
        fails = fails.fails;
        is = fails.is;
      })

  -- ---- entries of a row that was to come back

  -- where none were laid
  at_once : (a b : Pool D FireLinks) (state : ℕ → TxState) (live : Bases) (t : ℕ) (table : Table) (key : Value)
      (fault : SpaceFault) → LeavesAs m a b fault → StopsKey m a b state live t table key fault
  at_once a b state live t table key fault as_ = record { entered = a; before_it = inl refl; as_ = as_ }

  module _ (a ready b : Pool D FireLinks) (state : ℕ → TxState) (live : Bases) (t : ℕ) (table : Table) (key : Value)
      (rec : RecId) (keeps : KeepsStore m a ready) (online : StaysOnline m a ready)
      (own : (image : Image) → Tells m a.disk image → IsOwnAt state live t (shown a.dirty image) table key rec)
      (fault : SpaceFault) where
    -- some were laid, and then a batch of its own failed
    laid_key : (first later : List Index) → table.indexes ≡ first ++ later → (row : Row) (entered : Pool D FireLinks)
        → LaysAll m first rec row ready entered → LeavesAs m entered b fault
        → StopsKey m a b state live t table key fault
    laid_key first later parts row entered laid as_ = record {
      entered = entered;
      before_it = inr (record {
        rec = rec;
        row = row;
        first = first;
        later = later;
        parts = parts;
        ready = ready;
        keeps = keeps;
        online = online;
        own = own;
        laid = laid;
      });
      as_ = as_;
    }

    own_as : (c : Pool D FireLinks) (fills : Image → Changed → Type 0) (refuses : Image → SpaceFault → Type 0)
        → FailsOwn m c b fills refuses fault → LeavesAs m c b fault
    own_as c fills refuses fails =
        record { left = own_left m c b fills refuses fault fails; told = own_tells m c b fills refuses fault fails }

    entered_as : (v : Version) (write : Write) → FailsEnterOwn m ready b table rec write v fault
        → StopsKey m a b state live t table key fault
    entered_as v (writes.Insert row) (not_entered fails) = laid_key fails.first (fails.index ∷ fails.later) fails.parts row
        fails.mid fails.laid (own_as fails.mid _ _ fails.refused)
    entered_as v (writes.Change k row) (not_entered fails) = laid_key fails.first (fails.index ∷ fails.later) fails.parts
        row fails.mid fails.laid (own_as fails.mid _ _ fails.refused)
    entered_as v (writes.Erase k) (not_entered never) = absurd never
    entered_as v (writes.Insert row) (not_put_in entered enters fails) = laid_key table.indexes []
        (sym (no_more table.indexes)) row entered enters (own_as entered _ _ fails)
    entered_as v (writes.Change k row) (not_put_in entered enters fails) = laid_key table.indexes []
        (sym (no_more table.indexes)) row entered enters (own_as entered _ _ fails)
    entered_as v (writes.Erase k) (not_put_in entered same fails) = at_once a b state live t table key fault
        (read_as a ready b fault keeps (subst (λ (p : Pool D FireLinks). LeavesAs m p b fault) same
        (own_as entered _ _ fails)))

    -- what comes back is not put
    putting_as : (write : Option Write) → FailsPuttingBack m ready b t table rec write fault
        → StopsKey m a b state live t table key fault
    putting_as None fails = at_once a b state live t table key fault
        (read_as a ready b fault keeps (own_as ready _ _ fails))
    putting_as (Some write) (former_unfit not_ is same) = at_once a b state live t table key fault
        (read_as a ready b fault keeps (none_as ready b fault keeps.pool same (subst (TellsOf m ready ready) (sym is) online.1)))
    putting_as (Some write) (former_memory is same) = at_once a b state live t table key fault
        (read_as a ready b fault keeps (none_as ready b fault keeps.pool same (subst (TellsOf m ready ready) (sym is) online.1)))
    putting_as (Some write) (former_long v_ stored not_ is same) = at_once a b state live t table key fault
        (read_as a ready b fault keeps (none_as ready b fault keeps.pool same (subst (TellsOf m ready ready) (sym is) online.1)))
    putting_as (Some write) (former_key_long not_ is same) = at_once a b state live t table key fault
        (read_as a ready b fault keeps (none_as ready b fault keeps.pool same (subst (TellsOf m ready ready) (sym is) online.1)))
    putting_as (Some write) (former_not_put v stored may short fails) = entered_as v write fails

  -- a key is not taken back
  key_as : (a b : Pool D FireLinks) (state : ℕ → TxState) (live : Bases) (t : ℕ) (table : Table) (key : Value)
      (was : Was) (fault : SpaceFault) → IsPool m a → a.offline ≡ None
      → FailsKey m a b state live t table key was fault → StopsKey m a b state live t table key fault
  key_as a b state live t table key was fault pool up (key_unfit not_ is same) = at_once a b state live t table key fault
      (none_as a b fault pool same (subst (TellsOf m a a) (sym is) up))
  key_as a b state live t table key was fault pool up (key_unread keeps reads told why) =
      at_once a b state live t table key fault (record { left = inl keeps; told = told_of m a b fault told })
  key_as a b state live t table key was fault pool up (key_not_put rec ready keeps online own fails) =
      putting_as a ready b state live t table key rec keeps online own fault (former key was) fails

  pub stops_as : (at new : Core D) (t : ℕ) (c : Change) (refusal : Refusal) → IsPool m at.store
      → at.store.offline ≡ None → FailsChange m at new t c refusal → StopsFrom m at new t refusal
  stops_as at new t c refusal pool up (change_of_none none one) =
      let store_is : new.store ≡ at.store = ap (λ (x : Core D). x.store) one.same in
      let as_ : LeavesAs m at.store new.store (faults.Damaged not_lawful) =
      none_as at.store new.store (faults.Damaged not_lawful) pool store_is up in record {
        entered = at.store;
        before_it = inl refl;
        stopping = record {
          fault = faults.Damaged not_lawful;
          left = as_.left;
          told = as_.told;
          is = one.is;
          names = subst (NamesLimit new.store.geometry.limit) (sym one.is) tt;
          counts = one.counts;
          same = one.same ∙ ap (λ (x : Pool D FireLinks). record at {
            store = x;
            damage = new.damage;
            shortages = new.shortages;
          }) (sym store_is);
        };
      }
  stops_as at new t c refusal pool up (change_not_taken table fails) =
      let it : StopsKey m at.store new.store (said at.list) at.live t table c.key fails.fault =
      key_as at.store new.store (said at.list) at.live t table c.key c.was fails.fault pool up fails.fails in record {
        entered = it.entered;
        before_it = over it.entered it.before_it;
        stopping = record {
          fault = fails.fault;
          left = it.as_.left;
          told = it.as_.told;
          is = fails.is;
          names = fails.names;
          counts = fails.counts;
          same = fails.same;
        };
      }
    where
      over : (entered : Pool D FireLinks)
          → (entered ≡ at.store) ⊎ LaysKey m at.store entered (said at.list) at.live t table c.key
          → EntersBack m at entered t
      over entered (inl same) = inl same
      over entered (inr laid) =
          inr (record { number = c.table; table = table; found = fails.found; key = c.key; laid = laid })

  -- ---- what the store is after the entries

  laid_pool : (indexes : List Index) (p : RecId) (row : Row) (a b : Pool D FireLinks) → IsPool m a
      → LaysAll m indexes p row a b → IsPool m b
  laid_pool indexes p row a b pool (no_index p_ row_ store) = pool
  laid_pool indexes p row a b pool (one_more first index p_ row_ before mid after laid lays) = lays.changed.pool

  pub enters_on : (at : Core D) (entered : Pool D FireLinks) (t : ℕ) → IsPool m at.store → at.store.offline ≡ None
      → EntersBack m at entered t → StoreOn m at.store entered × IsPool m entered
  enters_on at entered t pool up (inl same) =
      subst (λ (p : Pool D FireLinks). StoreOn m at.store p × IsPool m p) (sym same) (stays_on m at.store up, pool)
  enters_on at entered t pool up (inr some) = (
    on_then m at.store some.laid.ready entered
        (read_on m at.store some.laid.ready some.laid.keeps some.laid.online.1)
        (all_on m some.laid.first some.laid.rec some.laid.row some.laid.ready entered some.laid.online.1 some.laid.laid),
    laid_pool some.laid.first some.laid.rec some.laid.row some.laid.ready entered some.laid.keeps.pool some.laid.laid,
  )

  -- and where changes were taken back before
  pub enters_then : (old at : Core D) (entered : Pool D FireLinks) (t : ℕ) → HasTaken m old at → EntersBack m at entered t
      → HasTaken m old (record at { store = entered })
  enters_then old at entered t taken back =
      let both : StoreOn m at.store entered × IsPool m entered =
      enters_on at entered t taken.pool taken.on.online back in record {
        on = on_then m old.store at.store entered taken.on both.0;
        pool = both.1;
        same = ap (λ (c : Core D). record c { store = entered }) taken.same;
      }
