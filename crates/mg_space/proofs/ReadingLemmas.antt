-- What a call leaves that looks for a page.
use Rattle.std.proofs.Common.{◌≡◌, ◌≢◌, ◌∙◌, ℕ, List, length, Option, Some, None, Bor, refl, sym, ap, subst, inl, arith}
use Rattle.std.specs.Prelude.{Result, Ok, Err, IfSome, IsErrAnd, unwrap_or}
use Rattle.std.specs.Option.{option_copied}
use Rattle.mg_base.specs.Disk.{Meaning}
use Rattle.mg_base.specs.Image.{Image}
use Rattle.mg_pool.specs.Batch.{Changed, content_in}
use Rattle.mg_pool.specs.Change.{or_else}
use Rattle.mg_pool.specs.Dirty.{DirtyPages}
use Rattle.mg_pool.specs.Fault.{TellsFault}
use Rattle.mg_pool.specs.Pool.{IsPool, KeepsContent, shown}
use Rattle.mg_pool.specs.Reading.{Fetches}
use Rattle.mg_pool.specs.ReadingLaws.{stay_still}
use Rattle.mg_pool.specs.declared.fault.PoolFault.{PoolFault}
use Rattle.mg_pool.specs.declared.fault.PoolFault.TheVariants as pool_faults
use Rattle.mg_pool.specs.declared.pool.Pool.{Pool}
use Rattle.mg_space.specs.View.{KeepsStore, OnlyReads, viewed}
use Rattle.mg_space.specs.declared.fault.SpaceFault.{SpaceFault}

-- nothing was asked of the disk
pub fetches_nothing : {D L : Type 0} (m : Meaning D) (store : Pool D L) (page : ℕ)
    → Fetches m store store page
fetches_nothing m store page = record {
  once = record { reads = omega arith; alone = λ n was. inl was };
  none = λ there. record { reads = refl; was_read = λ n. refl };
  stay = stay_still store;
}

-- the cache is as much online as before, where no page was written
offline_same : {D L : Type 0} (m : Meaning D) (a b : Pool D L) (r : Result (Unit {0}) PoolFault)
    → TellsFault m a b r → ((n : ℕ) → r ≢ Err (pool_faults.DiskWrite n)) → b.offline ≡ a.offline
offline_same m a b (Ok x) told never = told.1 ∙ sym told.0
offline_same m a b (Err (pool_faults.DiskRead n)) told never = told.1 ∙ sym told.0
offline_same m a b (Err (pool_faults.DiskWrite n)) told never = absurd (never n refl)
offline_same m a b (Err (pool_faults.Offline n)) told never = told.1 ∙ sym told.0
offline_same m a b (Err (pool_faults.Absent n)) told never = told.1 ∙ sym told.0
offline_same m a b (Err pool_faults.Memory) told never = told.1 ∙ sym told.0

-- a page that was looked for has only been read
pub fetch_keeps : {D L : Type 0} (m : Meaning D) (a b : Pool D L)
    (r : Result (Unit {0}) PoolFault) → IsPool m b → b.geometry ≡ a.geometry → b.dirty ≡ a.dirty
    → b.graph ≡ a.graph → TellsFault m a b r → ((n : ℕ) → r ≢ Err (pool_faults.DiskWrite n))
    → KeepsContent m a.disk b.disk → KeepsStore m a b
fetch_keeps m a b r pool geometry dirty graph told never disk = record {
  pool = pool;
  geometry = geometry;
  dirty = dirty;
  graph = graph;
  offline = offline_same m a b r told never;
  disk = disk;
}

-- what the answer tells that hands on a refusal of the cache
pub reads_as : {T : Type 0} (r : Result T SpaceFault) (fault : SpaceFault)
    → IsErrAnd r (λ given. given ≡ fault) → OnlyReads {T = T} (Err fault) → OnlyReads r
reads_as (Ok x) fault is only = absurd is
reads_as {T = T} (Err e) fault is only =
    let P : SpaceFault → Type 0 = λ f. OnlyReads {T = T} (Err f) in subst P (sym is) only

-- the content that the batch has
pub batch_read : (found resident_ : Option (List ℕ)) (copy : List ℕ) → found ≡ Some copy
    → or_else found resident_ ≡ Some copy
batch_read found resident_ copy is = ap (λ (o : Option (List ℕ)). or_else o resident_) is

pub batch_seen : {D L : Type 0} (store : Pool D L) (image : Image) (batch : Changed) (page : ℕ)
    (copy : List ℕ) → content_in batch.pages page ≡ Some copy → copy ≡ viewed store image batch page
batch_seen store image batch page copy is =
    sym (ap (λ (o : Option (List ℕ)). unwrap_or o (shown store.dirty image page)) is)

-- the content that the cache has of a page which is not in the batch
pub cache_read : (found resident_ : Option (List ℕ)) (copy : List ℕ) → found ≡ None
    → resident_ ≡ Some copy → or_else found resident_ ≡ Some copy
cache_read found resident_ copy none is =
    ap (λ (o : Option (List ℕ)). or_else o resident_) none ∙ is

pub cache_seen : {D L : Type 0} (a b : Pool D L) (image : Image) (batch : Changed) (page : ℕ)
    (copy : List ℕ) → content_in batch.pages page ≡ None → b.dirty ≡ a.dirty
    → copy ≡ shown b.dirty image page → copy ≡ viewed a image batch page
cache_seen a b image batch page copy none same is = is
    ∙ (ap (λ (dirty : DirtyPages). shown dirty image page) same
    ∙ sym (ap (λ (o : Option (List ℕ)). unwrap_or o (shown a.dirty image page)) none))

-- a copy of the bytes that the cache was found to have
module _ (found : Option (Bor (List ℕ))) (bytes : Bor (List ℕ)) (copy : List ℕ)
    (is : found ≡ Some bytes) (copied : copy ≡ bytes.now) where
  pub copied_read : (there : Option (List ℕ)) → option_copied found ≡ there → there ≡ Some copy
  copied_read there same = sym same ∙ (ap option_copied is ∙ ap Some (sym copied))

  pub copied_len : (size : ℕ) → IfSome found (λ b. length b.now ≡ size) → length copy ≡ size
  copied_len size long = ap (λ (b : List ℕ). length b) copied
      ∙ subst (λ (o : Option (Bor (List ℕ))). IfSome o (λ b. length b.now ≡ size)) is long

  pub copied_seen : (content : List ℕ) → IfSome found (λ b. b.now ≡ content) → copy ≡ content
  copied_seen content same = copied
      ∙ subst (λ (o : Option (Bor (List ℕ))). IfSome o (λ b. b.now ≡ content)) is same
