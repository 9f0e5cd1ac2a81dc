-- A batch of its own was filled and changed, or not.
use Rattle.std.proofs.Common.{◌≡◌, ◌∙◌, ◌+◌, ℕ, Bool, true, false, List, [], Result, Ok, Err, subst, sym}
use Rattle.std.proofs.lemmas.Bool.{false≢true}
use Rattle.std.specs.Prelude.{IsTrue, MatchResult}
use Rattle.mg_base.specs.Disk.{Meaning}
use Rattle.mg_base.specs.Image.{Image}
use Rattle.mg_model.specs.declared.table.Table.{Table}
use Rattle.mg_pool.specs.Batch.{Changed, IsLawful}
use Rattle.mg_pool.specs.Fault.{StaysOnline, TellsFault}
use Rattle.mg_pool.specs.declared.pool.Pool.{Pool}
use Rattle.mg_batches.specs.Batches.{ChangesBatch, ChangesOwn, FailsBatch, FailsOwn, not_changed, not_filled, nothing_yet}
use Rattle.mg_space.specs.View.{KeepsStore, ReadsAlone, Tells, pool_answer}
use Rattle.mg_space.specs.declared.fault.SpaceFault.{SpaceFault}
use Rattle.mg_space.specs.declared.fault.SpaceFault.TheVariants as faults
use Rattle.mg_space.specs.declared.links.FireLinks.{FireLinks}
use Rattle.mg_value.specs.declared.shape.Shape.{Shape}
use Rattle.mg_table_batch.specs.Filling.{FillsTable}
use Rattle.mg_table_batch.specs.Making.{FailsTry, GrowsAsWanted, MakesAtOnce, MakesTable, MakesTry, WantsPage, gets_one, not_at_once}

-- a batch without pages and orders is the one that has nothing yet
pub nothing : (batch : Changed) → batch.pages ≡ [] → batch.orders ≡ [] → batch ≡ nothing_yet
nothing batch pages orders = λ k. record { pages = pages k; orders = orders k }

-- a batch that was filled is changed, or not
pub own_batch : {D : Type 0} (m : Meaning D) (before ready after : Pool D FireLinks)
    (fills : Image → Changed → Type 0) (refuses : Image → SpaceFault → Type 0) (empty batch : Changed)
    (P : Changed → Image → Changed → Type 0) (result : Result (Unit {0}) SpaceFault)
    → empty.pages ≡ [] → empty.orders ≡ []
    → ((image : Image) (b : Changed) → P nothing_yet image b → fills image b)
    → KeepsStore m before ready → StaysOnline m before ready
    → ((image : Image) → Tells m before.disk image → P empty image batch)
    → MatchResult result (λ _. ChangesBatch m ready after batch) (FailsBatch m ready after batch)
    → MatchResult result (λ _. ChangesOwn m before after fills) (FailsOwn m before after fills refuses)
own_batch m before ready after fills refuses empty batch P (Ok x) pages orders hands keeps online filled changed = record {
  batch = batch;
  ready = ready;
  keeps = keeps;
  online = online;
  filled = λ image tells. hands image batch (subst (λ (e : Changed). P e image batch) (nothing empty pages orders)
      (filled image tells));
  changed = changed;
}
own_batch m before ready after fills refuses empty batch P (Err fault) pages orders hands keeps online filled failed =
    not_changed batch ready keeps online (λ image tells. hands image batch (subst (λ (e : Changed). P e image batch)
    (nothing empty pages orders) (filled image tells))) failed

-- it is not filled
pub not_filled_by : {D : Type 0} (T : Type 0) (m : Meaning D) (before after : Pool D FireLinks)
    (fills : Image → Changed → Type 0) (refuses : Changed → Image → SpaceFault → Type 0) (empty : Changed)
    (fault : SpaceFault) → empty.pages ≡ [] → empty.orders ≡ [] → KeepsStore m before after
    → ReadsAlone {T = T} (Err fault) → TellsFault m before after (pool_answer {T = T} (Err fault))
    → ((image : Image) → Tells m before.disk image → refuses empty image fault)
    → FailsOwn m before after fills (refuses nothing_yet) fault
not_filled_by {D} T m before after fills refuses empty fault pages orders keeps own told why =
    not_filled keeps (as_own fault own) (as_told fault told)
    (λ image tells. subst (λ (e : Changed). refuses e image fault) (nothing empty pages orders) (why image tells))
  where
    as_own : (f : SpaceFault) → ReadsAlone {T = T} (Err f) → ReadsAlone {T = Unit {0}} (Err f)
    as_own (faults.Full limit) given = given
    as_own (faults.Damaged it) given = given
    as_own (faults.Pool it) given = given

    as_told : (f : SpaceFault) → TellsFault m before after (pool_answer {T = T} (Err f))
        → TellsFault m before after (pool_answer {T = Unit {0}} (Err f))
    as_told (faults.Full limit) given = given
    as_told (faults.Damaged it) given = given
    as_told (faults.Pool it) given = given

-- ---- one try

module _ {D : Type 0} (m : Meaning D) (catalog : Table) (t : ℕ) (name : List ℕ) (shape : Shape)
    (before ready : Pool D FireLinks) (empty batch : Changed) (pages : empty.pages ≡ []) (orders : empty.orders ≡ [])
    (keeps : KeepsStore m before ready) (online : StaysOnline m before ready)
    (fills : (image : Image) → Tells m before.disk image
    → FillsTable before image catalog t name shape empty batch) where
  filled : (image : Image) → Tells m before.disk image
      → FillsTable before image catalog t name shape nothing_yet batch
  filled image tells = subst (λ (e : Changed). FillsTable before image catalog t name shape e batch)
      (nothing empty pages orders) (fills image tells)

  -- the batch was changed, or not
  pub made_at_once : (after : Pool D FireLinks) → ChangesBatch m ready after batch
      → MakesAtOnce m catalog t name shape before after
  made_at_once after changed = record {
    batch = batch;
    ready = ready;
    keeps = keeps;
    online = online;
    filled = filled;
    changed = changed;
  }

  pub not_changed_once : (size : ℕ) (answer : Bool) → size ≡ before.geometry.size → answer ≡ true
      → (IsTrue answer → IsLawful size batch.pages batch.orders) → (after : Pool D FireLinks) (fault : SpaceFault)
      → FailsBatch m ready after batch fault → FailsTry m catalog t name shape before after fault
  not_changed_once size answer same told gives after fault failed = not_at_once (not_changed batch ready keeps online
      (λ image tells. (
        filled image tells,
        subst (λ (s : ℕ). IsLawful s batch.pages batch.orders) same (gives told),
      )) failed)

  -- it is not lawful
  pub page_wanted : (size : ℕ) (answer : Bool) → size ≡ before.geometry.size → answer ≡ false
      → (IsLawful size batch.pages batch.orders → IsTrue answer) → WantsPage m catalog t name shape before ready
  page_wanted size answer same told gives = record {
    batch = batch;
    keeps = keeps;
    online = online;
    filled = filled;
    unlawful = λ lawful. false≢true (sym told
        ∙ gives (subst (λ (s : ℕ). IsLawful s batch.pages batch.orders) (sym same) lawful));
  }

-- ---- tries

pub tried_more : {D : Type 0} (m : Meaning D) (catalog : Table) (t : ℕ) (name : List ℕ) (shape : Shape)
    (a b c : Pool D FireLinks) (answer : Bool) → answer ≡ false → (count : ℕ)
    → GrowsAsWanted m catalog t name shape count a b → MakesTry m catalog t name shape b c answer
    → GrowsAsWanted m catalog t name shape (count + 1) a c
tried_more m catalog t name shape a b c answer is count grows tries =
    gets_one count a b c grows (subst (MakesTry m catalog t name shape b c) is tries)

pub tried_once : {D : Type 0} (m : Meaning D) (catalog : Table) (t : ℕ) (name : List ℕ) (shape : Shape)
    (a b c : Pool D FireLinks) (answer : Bool) → answer ≡ true → (count : ℕ)
    → GrowsAsWanted m catalog t name shape count a b → MakesTry m catalog t name shape b c answer → MakesTable m catalog t name shape a c
tried_once m catalog t name shape a b c answer is count grows tries = record {
  grown = b;
  count = count;
  grows = grows;
  makes = subst (MakesTry m catalog t name shape b c) is tries;
}
