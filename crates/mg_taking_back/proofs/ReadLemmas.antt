-- What is read over a fresh batch, and after pages were only read.
use Rattle.std.proofs.Common.{◌≡◌, List, [], Result, Ok, Err, subst, sym}
use Rattle.std.specs.Prelude.{IsErr, IsErrAnd, MatchResult, unwrap_or}
use Rattle.mg_base.specs.Disk.{Meaning}
use Rattle.mg_base.specs.Image.{Image}
use Rattle.mg_heap.specs.Reading.{ReadsData}
use Rattle.mg_image.specs.Form.{Pages}
use Rattle.mg_pool.specs.Batch.{Changed, content_in}
use Rattle.mg_pool.specs.Dirty.{DirtyPages}
use Rattle.mg_pool.specs.Fault.{TellsFault}
use Rattle.mg_pool.specs.Pool.{shown}
use Rattle.mg_pool.specs.declared.batch.BatchPage.{BatchPage}
use Rattle.mg_pool.specs.declared.pool.Pool.{Pool}
use Rattle.mg_space.specs.View.{KeepsStore, Tells, pool_answer, viewed}
use Rattle.mg_space.specs.ViewLaws.{tells_on}
use Rattle.mg_space.specs.declared.fault.SpaceFault.{SpaceFault}
use Rattle.mg_space.specs.declared.fault.SpaceFault.TheVariants as faults

-- a fault that a call met is handed on
pub handed_on : {T : Type 0} (result : Result T SpaceFault) (fault : SpaceFault)
    (P : T → Type 0) (Q : SpaceFault → Type 0) → IsErr result
    → IsErrAnd result (λ given. given ≡ fault) → Q fault → MatchResult result P Q
handed_on (Ok x) fault P Q err is holds = absurd cc
handed_on (Err e) fault P Q err is holds = subst Q (sym is) holds

-- one who fills a fresh batch sees what the cache shows
pub through_empty : {D L T : Type 0} (store : Pool D L) (image : Image) (batch : Changed)
    (result : Result T SpaceFault) (P : Pages → T → Type 0)
    (Q : List BatchPage → Pages → SpaceFault → Type 0) → batch.pages ≡ []
    → MatchResult result (P (viewed store image batch)) (Q batch.pages (viewed store image batch))
    → MatchResult result (P (shown store.dirty image)) (Q [] (shown store.dirty image))
through_empty store image batch result P Q empty given =
    let R : List BatchPage → Type 0 = λ pages. MatchResult result
    (P (λ n. unwrap_or (content_in pages n) (shown store.dirty image n)))
    (Q pages (λ n. unwrap_or (content_in pages n) (shown store.dirty image n))) in
    subst R empty given

-- what is seen once pages were read was seen before
pub as_before : {D L : Type 0} (m : Meaning D) (a b : Pool D L) (image : Image) (P : Pages → Type 0)
    → KeepsStore m a b → Tells m a.disk image → (Tells m b.disk image → P (shown b.dirty image))
    → P (shown a.dirty image)
as_before m a b image P kept tells later = subst (λ (d : DirtyPages). P (shown d image)) kept.dirty
    (later (tells_on m a b image kept tells))

-- a fault is told whatever the call would have answered
pub fault_told : {D L : Type 0} (T U : Type 0) (m : Meaning D) (a b : Pool D L) (fault : SpaceFault)
    → TellsFault m a b (pool_answer {T = T} (Err fault)) → TellsFault m a b (pool_answer {T = U} (Err fault))
fault_told T U m a b (faults.Full limit) given = given
fault_told T U m a b (faults.Damaged it) given = given
fault_told T U m a b (faults.Pool it) given = given

pub fault_read : (T U : Type 0) (fault : SpaceFault) → ReadsData {T = T} (Err fault) → ReadsData {T = U} (Err fault)
fault_read T U (faults.Full limit) given = given
fault_read T U (faults.Damaged it) given = given
fault_read T U (faults.Pool it) given = given
