-- A batch of its own was filled and changed, or not.
use Rattle.std.proofs.Common.{◌≡◌, ℕ, [], Result, Ok, Err, subst}
use Rattle.std.specs.Prelude.{MatchResult}
use Rattle.mg_base.specs.Disk.{Meaning}
use Rattle.mg_base.specs.Image.{Image}
use Rattle.mg_heap.specs.Reading.{ReadsData}
use Rattle.mg_base.specs.declared.transaction.TxState.{TxState}
use Rattle.mg_model.specs.declared.table.Table.{Table}
use Rattle.mg_pool.specs.Batch.{Changed}
use Rattle.mg_snap.specs.Live.{State}
use Rattle.mg_value.specs.declared.value.Value.{Value}
use Rattle.mg_pool.specs.Fault.{StaysOnline, TellsFault}
use Rattle.mg_pool.specs.declared.pool.Pool.{Pool}
use Rattle.mg_space.specs.View.{KeepsStore, ReadsAlone, Tells, pool_answer}
use Rattle.mg_space.specs.declared.fault.SpaceFault.{SpaceFault}
use Rattle.mg_space.specs.declared.fault.SpaceFault.TheVariants as faults
use Rattle.mg_space.specs.declared.links.FireLinks.{FireLinks}
use Rattle.mg_batches.specs.Batches.{ChangesBatch, ChangesOwn, FailsBatch, FailsOwn, not_changed, not_filled, nothing_yet}
use Rattle.mg_table_unmaking.specs.Rows.{FailsRowOut, RefusesRow, TakesRow, TakesRowOut}

-- a batch without pages and orders is the one that has nothing yet
pub nothing : (batch : Changed) → batch.pages ≡ [] → batch.orders ≡ [] → batch ≡ nothing_yet
nothing batch pages orders = λ k. record { pages = pages k; orders = orders k }

-- a batch that was filled is changed, or not
pub own_batch : {D : Type 0} (m : Meaning D) (before ready after : Pool D FireLinks)
    (fills : Image → Changed → Type 0) (refuses : Image → SpaceFault → Type 0) (empty batch : Changed)
    (P : Changed → Image → Changed → Type 0) (result : Result (Unit {0}) SpaceFault)
    → empty.pages ≡ [] → empty.orders ≡ []
    → ((image : Image) (b : Changed) → P nothing_yet image b → fills image b)
    → KeepsStore m before ready → StaysOnline m before ready
    → ((image : Image) → Tells m before.disk image → P empty image batch)
    → MatchResult result (λ _. ChangesBatch m ready after batch) (FailsBatch m ready after batch)
    → MatchResult result (λ _. ChangesOwn m before after fills) (FailsOwn m before after fills refuses)
own_batch m before ready after fills refuses empty batch P (Ok x) pages orders hands keeps online filled changed = record {
  batch = batch;
  ready = ready;
  keeps = keeps;
  online = online;
  filled = λ image tells. hands image batch (subst (λ (e : Changed). P e image batch) (nothing empty pages orders)
      (filled image tells));
  changed = changed;
}
own_batch m before ready after fills refuses empty batch P (Err fault) pages orders hands keeps online filled failed =
    not_changed batch ready keeps online (λ image tells. hands image batch (subst (λ (e : Changed). P e image batch)
    (nothing empty pages orders) (filled image tells))) failed

-- it is not filled
pub not_filled_by : {D : Type 0} (T : Type 0) (m : Meaning D) (before after : Pool D FireLinks)
    (fills : Image → Changed → Type 0) (refuses : Changed → Image → SpaceFault → Type 0) (empty : Changed)
    (fault : SpaceFault) → empty.pages ≡ [] → empty.orders ≡ [] → KeepsStore m before after
    → ReadsAlone {T = T} (Err fault) → TellsFault m before after (pool_answer {T = T} (Err fault))
    → ((image : Image) → Tells m before.disk image → refuses empty image fault)
    → FailsOwn m before after fills (refuses nothing_yet) fault
not_filled_by {D} T m before after fills refuses empty fault pages orders keeps own told why =
    not_filled keeps (as_own fault own) (as_told fault told)
    (λ image tells. subst (λ (e : Changed). refuses e image fault) (nothing empty pages orders) (why image tells))
  where
    as_own : (f : SpaceFault) → ReadsAlone {T = T} (Err f) → ReadsAlone {T = Unit {0}} (Err f)
    as_own (faults.Full limit) given = given
    as_own (faults.Damaged it) given = given
    as_own (faults.Pool it) given = given

    as_told : (f : SpaceFault) → TellsFault m before after (pool_answer {T = T} (Err f))
        → TellsFault m before after (pool_answer {T = Unit {0}} (Err f))
    as_told (faults.Full limit) given = given
    as_told (faults.Damaged it) given = given
    as_told (faults.Pool it) given = given

-- a reading of data alone is one of a call that fills a batch
pub data_alone : (T : Type 0) (fault : SpaceFault) → ReadsData {T = T} (Err fault) → ReadsAlone {T = T} (Err fault)
data_alone T (faults.Full limit) given = absurd given
data_alone T (faults.Damaged it) given = given
data_alone T (faults.Pool it) given = given

-- ---- the row

module _ {D : Type 0} (m : Meaning D) (before : Pool D FireLinks) (state : ℕ → TxState) (live : State) (t : ℕ)
    (table : Table) (key : Value) where
  abbrev Takes : Changed → Image → Changed → Type 0
  Takes empty image batch = TakesRow before image state live t table key empty batch

  abbrev Refuses : Pool D FireLinks → Changed → Image → SpaceFault → Type 0
  Refuses after empty image fault = RefusesRow m before after image state live t table key empty fault

  -- it was not taken out
  pub row_not_filled : (after : Pool D FireLinks) (empty : Changed) (fault : SpaceFault) → empty.pages ≡ []
      → empty.orders ≡ [] → KeepsStore m before after → ReadsData {T = Unit {0}} (Err fault)
      → TellsFault m before after (pool_answer {T = Unit {0}} (Err fault))
      → ((image : Image) → Tells m before.disk image
      → RefusesRow m before after image state live t table key empty fault)
      → FailsRowOut m before after state live t table key fault
  row_not_filled after empty fault pages orders keeps own told why = not_filled_by (Unit {0}) m before after
      (Takes nothing_yet) (Refuses after) empty fault pages orders keeps (data_alone (Unit {0}) fault own) told why

  -- it was, and the batch was changed, or not
  pub row_changed : (ready : Pool D FireLinks) (empty batch : Changed) → empty.pages ≡ [] → empty.orders ≡ []
      → KeepsStore m before ready → StaysOnline m before ready
      → ((image : Image) → Tells m before.disk image
      → TakesRow before image state live t table key empty batch) → (after : Pool D FireLinks)
      (result : Result (Unit {0}) SpaceFault)
      → MatchResult result (λ _. ChangesBatch m ready after batch) (FailsBatch m ready after batch)
      → MatchResult result (λ _. TakesRowOut m before after state live t table key)
      (FailsRowOut m before after state live t table key)
  row_changed ready empty batch pages orders keeps online filled after result changed = own_batch m before ready after
      (Takes nothing_yet) (Refuses after nothing_yet) empty batch Takes result pages orders (λ image b given. given)
      keeps online filled changed
