-- A fault that is handed on is told as the call told it that answered it.
use Rattle.std.proofs.Common.{◌≡◌, ◌∙◌, ℕ, subst, sym}
use Rattle.std.specs.Prelude.{Result, Ok, Err, IfOk, IsErrAnd, MatchResult, OnErr}
use Rattle.mg_base.specs.Disk.{Meaning}
use Rattle.mg_base.specs.declared.geometry.Geometry.{Geometry}
use Rattle.mg_image.specs.Form.{Pages}
use Rattle.mg_pool.specs.Fault.{MeetsNoFault, OnlyRefuses, TellsFault}
use Rattle.mg_pool.specs.declared.fault.PoolFault.{PoolFault}
use Rattle.mg_pool.specs.declared.fault.PoolFault.TheVariants as pool_faults
use Rattle.mg_pool.specs.declared.pool.Pool.{Pool}
use Rattle.mg_space.specs.HandedLaws.{told_as}
use Rattle.mg_space.specs.Taking.{RefusesRegion}
use Rattle.mg_space.specs.View.{KeepsStore, OnlyReads, ReadsAlone, pool_answer}
use Rattle.mg_space.specs.ViewLaws.{fault_on}
use Rattle.mg_space.specs.declared.fault.SpaceFault.{SpaceFault}
use Rattle.mg_space.specs.declared.fault.SpaceFault.TheVariants as faults

pub no_ok : {T E : Type 0} (r : Result T E) (P : E → Type 0) (Q : T → Type 0) → IsErrAnd r P → IfOk r Q
no_ok (Ok x) P Q is = absurd is
no_ok (Err e) P Q is = tt

pub on_err : {T E : Type 0} (r : Result T E) (P : Type 0) → P → OnErr r P
on_err (Ok x) P holds = tt
on_err (Err e) P holds = holds

-- the fault that is handed on is known
pub is_also : {T E : Type 0} (r : Result T E) (e f : E) → IsErrAnd r (λ given. given ≡ e) → e ≡ f
    → IsErrAnd r (λ given. given ≡ f)
is_also (Ok x) e f is same = is
is_also (Err y) e f is same = is ∙ same

-- what is said of a fault is said of the answer that hands it on
pub refused_as : {T : Type 0} (r : Result T SpaceFault) (fault : SpaceFault) (P : T → Type 0)
    (Q : SpaceFault → Type 0) → IsErrAnd r (λ given. given ≡ fault) → Q fault → MatchResult r P Q
refused_as (Ok x) fault P Q is holds = absurd is
refused_as (Err e) fault P Q is holds = subst Q (sym is) holds

-- ---- the cache's faults

-- after calls that have only read
pub told_then : {D L T : Type 0} (S : Type 0) (m : Meaning D) (a b c : Pool D L)
    (r : Result T SpaceFault) (fault : SpaceFault) → IsErrAnd r (λ given. given ≡ fault)
    → KeepsStore m a b → MeetsNoFault m a b → TellsFault m b c (pool_answer {T = S} (Err fault))
    → TellsFault m a c (pool_answer r)
told_then S m a b c r fault is keeps none told =
    told_as S m a c r fault is (fault_on m a b c (pool_answer {T = S} (Err fault)) keeps none told)

-- a fault that is not the cache's
pub told_online : {D L T : Type 0} (m : Meaning D) (a b : Pool D L) (r : Result T SpaceFault)
    (fault : SpaceFault) → IsErrAnd r (λ given. given ≡ fault)
    → TellsFault m a b (pool_answer {T = T} (Err fault)) → TellsFault m a b (pool_answer r)
told_online {T = T} m a b r fault is told = told_as T m a b r fault is told

-- a reading call's faults are among those of a call of several readings
only_turned : (S T : Type 0) (fault : PoolFault) → OnlyReads {T = S} (Err (faults.Pool fault))
    → OnlyReads {T = T} (Err (faults.Pool fault))
only_turned S T (pool_faults.DiskRead n) only = tt
only_turned S T (pool_faults.DiskWrite n) only = only
only_turned S T (pool_faults.Offline n) only = tt
only_turned S T (pool_faults.Absent n) only = only
only_turned S T pool_faults.Memory only = tt

pub reads_own : (S T : Type 0) (fault : SpaceFault) → OnlyReads {T = S} (Err fault)
    → ReadsAlone {T = T} (Err fault)
reads_own S T (faults.Full limit) only = tt
reads_own S T (faults.Pool fault) only = only_turned S (Unit {0}) fault only
reads_own S T (faults.Damaged damage) only = tt

-- and refuse no region
pub reads_region : (S : Type 0) (g : Geometry) (region : ℕ) (pages : Pages) (fault : SpaceFault)
    → OnlyReads {T = S} (Err fault) → RefusesRegion g region pages fault
reads_region S g region pages (faults.Full limit) only = only
reads_region S g region pages (faults.Pool fault) only = tt
reads_region S g region pages (faults.Damaged damage) only = absurd only

-- a cache that is refused says no more than that
pub refusal_reads : (S T : Type 0) (fault : PoolFault) → OnlyRefuses {T = S} (Err fault)
    → OnlyReads {T = T} (Err (faults.Pool fault))
refusal_reads S T (pool_faults.DiskRead n) only = tt
refusal_reads S T (pool_faults.DiskWrite n) only = only
refusal_reads S T (pool_faults.Offline n) only = tt
refusal_reads S T (pool_faults.Absent n) only = only
refusal_reads S T pool_faults.Memory only = tt
