-- A collection of a record is a row of steps, each a batch of its own.
use Rattle.std.specs.Prelude.{◌≡◌, ℕ, Bool, true, false, List, [], None, Some, Err}
use Rattle.mg_base.specs.Disk.{Meaning}
use Rattle.mg_base.specs.Image.{Image}
use Rattle.mg_base.specs.declared.numbers.PageNo.{PageNo}
use Rattle.mg_base.specs.declared.numbers.RecId.{RecId}
use Rattle.mg_base.specs.declared.transaction.TxState.{TxState}
use Rattle.mg_chain.specs.Chains.{newest_link}
use Rattle.mg_chain.specs.Dropping.{DropsBehind, RefusesDrop}
use Rattle.mg_chain.specs.Refusals.{Follows, RefusesChain}
use Rattle.mg_chain.specs.Views.{is_dead}
use Rattle.mg_chain.specs.Writing.{TakesOut}
use Rattle.mg_heap.specs.Reading.{ReadsData}
use Rattle.mg_image.specs.Form.{Pages}
use Rattle.mg_image.specs.Records.{Stands, cells_of}
use Rattle.mg_image.specs.declared.entry.Entry.{Entry}
use Rattle.mg_model.specs.Answers.{is_committed}
use Rattle.mg_pool.specs.Batch.{Changed}
use Rattle.mg_pool.specs.Fault.{StaysOnline, TellsFault}
use Rattle.mg_pool.specs.Pool.{shown}
use Rattle.mg_pool.specs.declared.pool.Pool.{Pool}
use Rattle.mg_batches.specs.Batches.{ChangesOwn, FailsOwn, nothing_yet}
use Rattle.mg_row_writes.specs.Changing.{FailsTakingOut}
use Rattle.mg_seek.specs.Speaking.{is_erased_for_all}
use Rattle.mg_snap.specs.Live.{State, needed}
use Rattle.mg_space.specs.View.{KeepsStore, Tells, pool_answer}
use Rattle.mg_space.specs.declared.fault.SpaceFault.{SpaceFault}
use Rattle.mg_space.specs.declared.links.FireLinks.{FireLinks}
use Rattle.mg_version.specs.declared.cell.Link.{Link}
use Rattle.mg_collecting.specs.Leaving.{HasInOrder, LeavesAtLeast, LeavesTold}

-- ---- one step

-- the newest version of a record is a dead transaction's, and is taken out
pub record TakesDead {D L : Type 0} (store : Pool D L) (image : Image) (state : ℕ → TxState) (rec : RecId)
    (batch : Changed) : Type 0 where
  pub takes : TakesOut store image nothing_yet batch rec
  pub dead : is_dead (state takes.was.tx.0) ≡ true

-- The version right behind one of a record's is dropped. Both are of committed transactions, and no base sees the older
-- one without seeing the newer one.
pub record DropsUnneeded {D L : Type 0} (store : Pool D L) (image : Image) (state : ℕ → TxState) (live : State)
    (rec : RecId) (newer gone : Link) (batch : Changed) : Type 0 where
  pub drops : DropsBehind store image nothing_yet batch newer gone
  pub its : (es : List Entry) → HasInOrder (cells_of (shown store.dirty image)) rec es → Stands es newer.rec
  pub kept : is_committed (state newer.tx.0) ≡ true
  pub dropped : is_committed (state gone.tx.0) ≡ true
  pub unneeded : needed live newer.tx.0 gone.tx.0 ≡ false

-- a record's only version is a deletion that every base sees, and is taken out
pub record TakesErased {D L : Type 0} (store : Pool D L) (image : Image) (state : ℕ → TxState) (live : State)
    (rec : RecId) (batch : Changed) : Type 0 where
  pub takes : TakesOut store image nothing_yet batch rec
  pub erased : is_erased_for_all state live takes.was ≡ true
  pub alone : takes.was.back ≡ None

-- one step of a collection
pub data CollectStep {D : Type 0} (m : Meaning D) (state : ℕ → TxState) (live : State) (rec : RecId)
    (before after : Pool D FireLinks) : Type 0 where
  takes_dead : ChangesOwn m before after (λ image batch. TakesDead before image state rec batch)
      → CollectStep m state live rec before after
  drops_unneeded : (newer gone : Link)
      → ChangesOwn m before after (λ image batch. DropsUnneeded before image state live rec newer gone batch)
      → CollectStep m state live rec before after
  takes_erased : ChangesOwn m before after (λ image batch. TakesErased before image state live rec batch)
      → CollectStep m state live rec before after

-- Since the start some steps were made, or none; between them pages were only read.
pub data Steps {D : Type 0} (m : Meaning D) (state : ℕ → TxState) (live : State) (rec : RecId)
    (start : Pool D FireLinks) : Bool → Pool D FireLinks → Type 0 where
  starts : Steps m state live rec start false start
  reads_on : (some : Bool) (now after : Pool D FireLinks) → Steps m state live rec start some now
      → KeepsStore m now after → StaysOnline m now after → Steps m state live rec start some after
  one_more : (some : Bool) (now after : Pool D FireLinks) → Steps m state live rec start some now
      → CollectStep m state live rec now after → Steps m state live rec start true after

-- ---- a step that is not made

-- a reading call fails, and has only read
pub record FailsReading {D L : Type 0} (m : Meaning D) (before after : Pool D L)
    (refuses : Image → SpaceFault → Type 0) (fault : SpaceFault) : Type 0 where
  pub keeps : KeepsStore m before after
  pub own : ReadsData {T = Unit {0}} (Err fault)
  pub told : TellsFault m before after (pool_answer {T = Unit {0}} (Err fault))
  pub why : (image : Image) → Tells m before.disk image → refuses image fault

-- a link is come to by following those of a record's versions; it stands on a page
pub record IsFollowed (view : Pages) (rec : RecId) (holder : ℕ) (l : Link) : Type 0 where
  pub count : ℕ
  pub follows : Follows view rec count holder l

-- A collection goes no further: a version of the record is not read, or one is not dropped, or the newest, which the record
-- has, is not taken out.
pub data FailsStep {D : Type 0} (m : Meaning D) (rec : RecId) (before after : Pool D FireLinks) (fault : SpaceFault)
    : Type 0 where
  not_read : FailsReading m before after (λ image f. RefusesChain m after [] (shown before.dirty image) rec f) fault
      → FailsStep m rec before after fault
  not_dropped : (holder : PageNo) (newer : Link)
      → ((image : Image) → Tells m before.disk image → IsFollowed (shown before.dirty image) rec holder.0 newer)
      → FailsOwn m before after (λ image batch. (gone : Link) × DropsBehind before image nothing_yet batch newer gone)
      (λ image f. RefusesDrop m before after image nothing_yet holder.0 newer f) fault
      → FailsStep m rec before after fault
  not_taken_out : (link : Link)
      → ((image : Image) → Tells m before.disk image → newest_link (shown before.dirty image) rec ≡ Some link)
      → FailsTakingOut m before after rec fault → FailsStep m rec before after fault

-- ---- a part of a collection

-- Steps are made, and of the versions that a record has in order these are left; it is told whether any are gone.
pub record DoesPart {D : Type 0} (m : Meaning D) (before after : Pool D FireLinks) (state : ℕ → TxState) (live : State)
    (rec : RecId) (leaves : List Entry → List Entry) (gone : Bool) : Type 0 where
  pub steps : Steps m state live rec before gone after
  pub left : (i j : Image) → Tells m before.disk i → Tells m after.disk j → (es : List Entry)
      → HasInOrder (cells_of (shown before.dirty i)) rec es
      → LeavesTold (shown before.dirty i) (shown after.dirty j) rec es (leaves es) gone

-- Some steps are made, and then it goes no further: at least these are left.
pub record FailsPart {D : Type 0} (m : Meaning D) (before after : Pool D FireLinks) (state : ℕ → TxState) (live : State)
    (rec : RecId) (leaves : List Entry → List Entry) (fault : SpaceFault) : Type 0 where
  pub some : Bool
  pub now : Pool D FireLinks
  pub steps : Steps m state live rec before some now
  pub fails : FailsStep m rec now after fault
  pub left : (i j : Image) → Tells m before.disk i → Tells m after.disk j → (es : List Entry)
      → HasInOrder (cells_of (shown before.dirty i)) rec es
      → LeavesAtLeast (shown before.dirty i) (shown after.dirty j) rec es (leaves es)
