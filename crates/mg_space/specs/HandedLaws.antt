-- Laws of faults that are handed on: the answer that hands a fault on is told as the call told it that
-- met it.
use Rattle.std.specs.Prelude.{◌≡◌, Result, Ok, Err, IfOk, IsErr, IsErrAnd}
use Rattle.std.proofs.Common.{refl, subst, sym}
use Rattle.mg_base.specs.Disk.{Meaning}
use Rattle.mg_pool.specs.Fault.{MeetsNoFault, StaysOnline, TellsFault}
use Rattle.mg_pool.specs.declared.fault.PoolFault.{PoolFault}
use Rattle.mg_pool.specs.declared.fault.PoolFault.TheVariants as pool_faults
use Rattle.mg_pool.specs.declared.pool.Pool.{Pool}
use Rattle.mg_space.specs.View.{KeepsStore, ReadsAlone, pool_answer}
use Rattle.mg_space.specs.ViewLaws.{fault_on}
use Rattle.mg_space.specs.declared.fault.SpaceFault.{SpaceFault}
use Rattle.mg_space.specs.declared.fault.SpaceFault.TheVariants as faults

-- want of memory, as a fault of the cache
abbrev pub out_of_memory : SpaceFault
out_of_memory = faults.Pool pool_faults.Memory

-- what is said of an answer holds where there is none
pub no_answer : {T E : Type 0} (P : T → Type 0) (result : Result T E) → IsErr result → IfOk result P
no_answer P (Ok x) err = absurd cc
no_answer P (Err e) err = tt

-- ---- what is told of the cache's faults

-- what the cache has answered is the same whatever the call would have answered
same_answer : (A B : Type 0) (fault : SpaceFault)
    → pool_answer {T = A} (Err fault) ≡ pool_answer {T = B} (Err fault)
same_answer A B (faults.Full limit) = refl
same_answer A B (faults.Pool fault) = refl
same_answer A B (faults.Damaged damage) = refl

-- a fault that is handed on is told as that call told it
pub told_as : {D L T : Type 0} (A : Type 0) (m : Meaning D) (a b : Pool D L)
    (result : Result T SpaceFault) (fault : SpaceFault) → IsErrAnd result (λ given. given ≡ fault)
    → TellsFault m a b (pool_answer {T = A} (Err fault)) → TellsFault m a b (pool_answer result)
told_as A m a b (Ok x) fault is tells = absurd is
told_as {T = T} A m a b (Err e) fault is tells =
    let P : Result (Unit {0}) PoolFault → Type 0 = λ answer. TellsFault m a b answer in
    let Q : SpaceFault → Type 0 = λ f. TellsFault m a b (pool_answer {T = T} (Err f)) in
    subst Q (sym is) (subst P (same_answer A T fault) tells)

-- so it is at a `?`, whose answer is known to be an error
pub fault_same : {D L T : Type 0} (A : Type 0) (m : Meaning D) (a b : Pool D L)
    (result : Result T SpaceFault) (fault : SpaceFault) → IsErr result
    → IsErrAnd result (λ given. given ≡ fault)
    → TellsFault m a b (pool_answer {T = A} (Err fault)) → TellsFault m a b (pool_answer result)
fault_same A m a b result fault err is tells = told_as A m a b result fault is tells

-- a fault that a later call met is told since the start, where those before it have only read
pub fault_up : {D L T : Type 0} (A : Type 0) (m : Meaning D) (a b c : Pool D L)
    (result : Result T SpaceFault) (fault : SpaceFault) → KeepsStore m a b → MeetsNoFault m a b
    → IsErr result → IsErrAnd result (λ given. given ≡ fault)
    → TellsFault m b c (pool_answer {T = A} (Err fault)) → TellsFault m a c (pool_answer result)
fault_up A m a b c result fault kept same err is tells =
    told_as A m a c result fault is (fault_on m a b c (pool_answer {T = A} (Err fault)) kept same tells)

-- memory was wanting after calls that met no fault
pub fault_memory : {D L T : Type 0} (m : Meaning D) (a b : Pool D L) (result : Result T SpaceFault)
    → IsErr result → IsErrAnd result (λ given. given ≡ out_of_memory) → StaysOnline m a b
    → TellsFault m a b (pool_answer result)
fault_memory {T = T} m a b result err is online = told_as T m a b result out_of_memory is online

-- ---- which faults are handed on

own_turned : (A B : Type 0) (fault : SpaceFault) → ReadsAlone {T = A} (Err fault)
    → ReadsAlone {T = B} (Err fault)
own_turned A B (faults.Full limit) own = tt
own_turned A B (faults.Pool fault) own = own
own_turned A B (faults.Damaged damage) own = tt

-- a fault of a call of several readings is one of the call that hands it on
pub own_as : {T : Type 0} (A : Type 0) (result : Result T SpaceFault) (fault : SpaceFault)
    → IsErrAnd result (λ given. given ≡ fault) → ReadsAlone {T = A} (Err fault) → ReadsAlone result
own_as A (Ok x) fault is own = absurd is
own_as {T = T} A (Err e) fault is own =
    let P : SpaceFault → Type 0 = λ f. ReadsAlone {T = T} (Err f) in
    subst P (sym is) (own_turned A T fault own)
