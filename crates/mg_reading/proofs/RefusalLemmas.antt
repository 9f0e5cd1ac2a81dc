-- What a refusal rules out, carried from one call to the next.
use Rattle.std.proofs.Common.{◌≡◌, ◌⊎◌, inl, inr, ◌↔◌, IsTrue, Bool, refl, Result, Ok, Err}
use Rattle.std.specs.Prelude.{IfErr}
use Rattle.std.specs.Result.{IsErrAnd}
use Rattle.mg_reading.specs.declared.point.ReadFault.{ReadFault}
use Rattle.mg_reading.specs.declared.point.ReadFault.TheVariants.{Broken, Memory}
use Rattle.mg_reading.specs.Readable.{Refutes}

-- what would make the smaller thing exist is ruled out with it
pub refutes_more : (P Q : Type 0) → (Q → P) → (fault : ReadFault) → Refutes P fault → Refutes Q fault
refutes_more P Q gives (Broken rule) none = λ q. none (gives q)
refutes_more P Q gives Memory none = tt

-- the same of a call's answer
pub refuses_more : {A : Type 0} (P Q : Type 0) → (Q → P) → (r : Result A ReadFault)
    → IfErr r (Refutes P) → IfErr r (Refutes Q)
refuses_more P Q gives (Ok x) none = tt
refuses_more P Q gives (Err fault) none = refutes_more P Q gives fault none

-- want of memory rules nothing out
pub memory_refutes : (P : Type 0) (fault : ReadFault) → fault ≡ Memory → Refutes P fault
memory_refutes P fault is = rw is tt

pub memory_refuses : {A : Type 0} (P : Type 0) (r : Result A ReadFault)
    → IfErr r (λ fault. fault ≡ Memory) → IfErr r (Refutes P)
memory_refuses P (Ok x) is = tt
memory_refuses P (Err fault) is = memory_refutes P fault is

-- where the thing is there, a fault is want of memory
pub memory_alone : (P : Type 0) → P → (fault : ReadFault) → Refutes P fault → fault ≡ Memory
memory_alone P is (Broken rule) none = absurd (none is)
memory_alone P is Memory none = refl

-- a fault that is handed on by `?`
pub passed_on : {A : Type 0} (P Q : Type 0) → (Q → P) → (r : Result A ReadFault)
    (fault : ReadFault) → IsErrAnd r (λ x. x ≡ fault) → Refutes P fault → IfErr r (Refutes Q)
passed_on P Q gives (Ok x) fault is none = absurd is
passed_on P Q gives (Err x) fault is none = rw is (refutes_more P Q gives fault none)

pub memory_on : {A : Type 0} (P : Type 0) (r : Result A ReadFault) (fault : ReadFault)
    → IsErrAnd r (λ x. x ≡ fault) → fault ≡ Memory → IfErr r (Refutes P)
memory_on P (Ok x) fault is memory = absurd is
memory_on P (Err x) fault is memory = rw is (memory_refutes P fault memory)

-- where the first of two is not so, a test of the second tells of both
pub second_alone : (A B : Type 0) (b : Bool) → (A → ⊥) → IsTrue b ↔ B → IsTrue b ↔ (A ⊎ B)
second_alone A B b none same = (λ passed. inr (same.0 passed), λ either. at either)
  where
    at : A ⊎ B → IsTrue b
    at (inl first) = absurd (none first)
    at (inr second) = same.1 second
