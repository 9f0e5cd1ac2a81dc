-- A fault that is handed on is told as the call told it that answered it.
use Rattle.std.proofs.Common.{◌≡◌, ◌∙◌, ℕ, List, arith, inl, refl, subst, sym}
use Rattle.std.specs.Prelude.{Result, Ok, Err, None, IfOk, IsErrAnd, OnErr}
use Rattle.mg_base.specs.declared.geometry.Geometry.{Geometry}
use Rattle.mg_base.specs.Disk.{Meaning}
use Rattle.mg_base.specs.declared.numbers.PageNo.{PageNo}
use Rattle.mg_pool.specs.Reading.{Fetches}
use Rattle.mg_pool.specs.ReadingLaws.{stay_still}
use Rattle.mg_pool.specs.declared.batch.BatchPage.{BatchPage}
use Rattle.mg_pool.specs.Fault.{MeetsNoFault, OnlyRefuses, StaysOnline, TellsFault}
use Rattle.mg_pool.specs.declared.fault.PoolFault.{PoolFault}
use Rattle.mg_pool.specs.declared.fault.PoolFault.TheVariants as pool_faults
use Rattle.mg_pool.specs.declared.pool.Pool.{Pool}
use Rattle.mg_space.specs.HandedLaws.{out_of_memory, told_as}
use Rattle.mg_space.specs.Taking.{IsGeometry}
use Rattle.mg_space.specs.View.{KeepsStore, ReadsAlone, RefusesRead, pool_answer}
use Rattle.mg_space.specs.ViewLaws.{fault_on}
use Rattle.mg_space.specs.declared.fault.SpaceFault.{SpaceFault}
use Rattle.mg_space.specs.declared.fault.SpaceFault.TheVariants as faults

pub no_ok : {T E : Type 0} (r : Result T E) (P : E → Type 0) (Q : T → Type 0) → IsErrAnd r P → IfOk r Q
no_ok (Ok x) P Q is = absurd is
no_ok (Err e) P Q is = tt

pub on_err : {T E : Type 0} (r : Result T E) (P : Type 0) → P → OnErr r P
on_err (Ok x) P holds = tt
on_err (Err e) P holds = holds

pub is_also : {T E : Type 0} (r : Result T E) (e f : E) → IsErrAnd r (λ given. given ≡ e) → e ≡ f → IsErrAnd r (λ given. given ≡ f)
is_also (Ok x) e f is same = is
is_also (Err y) e f is same = is ∙ same

-- after calls that have only read
pub told_then : {D L T : Type 0} (S : Type 0) (m : Meaning D) (a b c : Pool D L) (r : Result T SpaceFault) (fault : SpaceFault) → IsErrAnd r (λ given. given ≡ fault)
    → KeepsStore m a b → MeetsNoFault m a b → TellsFault m b c (pool_answer {T = S} (Err fault)) → TellsFault m a c (pool_answer r)
told_then S m a b c r fault is keeps none told = told_as S m a c r fault is (fault_on m a b c (pool_answer {T = S} (Err fault)) keeps none told)

pub told_memory : {D L T : Type 0} (m : Meaning D) (a b : Pool D L) (r : Result T SpaceFault) → IsErrAnd r (λ given. given ≡ out_of_memory) → StaysOnline m a b → TellsFault m a b (pool_answer r)
told_memory m a b (Ok x) is online = absurd is
told_memory {D} {L} {T} m a b (Err e) is online = subst (λ (f : SpaceFault). TellsFault m a b (pool_answer {T = T} (Err f))) (sym is) online

pub own_memory : {T : Type 0} (r : Result T SpaceFault) → IsErrAnd r (λ given. given ≡ out_of_memory) → ReadsAlone r
own_memory (Ok x) is = absurd is
own_memory {T} (Err e) is = subst (λ (f : SpaceFault). ReadsAlone {T = T} (Err f)) (sym is) tt

-- a refusal is one that a reading hands on
pub refusal_reads : (fault : PoolFault) → OnlyRefuses {T = Unit {0}} (Err fault)
    → ReadsAlone {T = Unit {0}} (Err (faults.Pool fault))
refusal_reads (pool_faults.DiskRead n) refuses = absurd refuses
refusal_reads (pool_faults.DiskWrite n) refuses = refuses
refusal_reads (pool_faults.Offline n) refuses = tt
refusal_reads (pool_faults.Absent n) refuses = refuses
refusal_reads pool_faults.Memory refuses = absurd refuses

-- after calls that have only read and met no fault the cache is online still
pub stays_online : {D L : Type 0} (m : Meaning D) (a b : Pool D L) → KeepsStore m a b → MeetsNoFault m a b
    → a.offline ≡ None → StaysOnline m a b
stays_online m a b keeps none online = (online, keeps.offline ∙ online, none)

pub geometry_on : {D L : Type 0} (m : Meaning D) (a b : Pool D L) → KeepsStore m a b
    → IsGeometry a.geometry → IsGeometry b.geometry
geometry_on m a b keeps is = subst (λ (g : Geometry). IsGeometry g) (sym keeps.geometry) is

-- a page that is not found is told as a reading tells it
pub refused_reads : {D L : Type 0} (T : Type 0) (m : Meaning D) (store : Pool D L) (batch : List BatchPage)
    (page : PageNo) (fault : SpaceFault) → RefusesRead {T = T} m store batch page (Err fault)
    → ReadsAlone {T = Unit {0}} (Err fault)
refused_reads T m store batch page (faults.Full limit) refused = tt
refused_reads T m store batch page (faults.Damaged damage) refused = tt
refused_reads T m store batch page (faults.Pool fault) refused = refused

-- no page was looked for
pub fetches_none : {D L : Type 0} (m : Meaning D) (store : Pool D L) (page : ℕ) → Fetches m store store page
fetches_none m store page = record {
  once = record { reads = omega arith; alone = λ n was. inl was };
  none = λ held. record { reads = refl; was_read = λ n. refl };
  stay = stay_still store;
}
