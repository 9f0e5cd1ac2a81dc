-- What a refusal rules out, carried from one call to the next.
use Rattle.std.proofs.Common.{◌≡◌, Result, Ok, Err}
use Rattle.std.specs.Prelude.{IfErr, IfOk, OnOk}
use Rattle.std.specs.Result.{IsErrAnd}
use Rattle.mg_reading.specs.declared.point.ReadFault.{ReadFault}
use Rattle.mg_reading.specs.declared.point.ReadFault.TheVariants.{Broken, Memory}
use Rattle.mg_reading.specs.Readable.{Refutes}

-- what would make the smaller thing exist is ruled out with it
pub refutes_more : (P Q : Type 0) → (Q → P) → (fault : ReadFault) → Refutes P fault
    → Refutes Q fault
refutes_more P Q gives (Broken rule) none = λ q. none (gives q)
refutes_more P Q gives Memory none = tt

-- the same of a call's answer
pub refuses_more : {A : Type 0} (P Q : Type 0) → (Q → P) → (r : Result A ReadFault)
    → IfErr r (Refutes P) → IfErr r (Refutes Q)
refuses_more P Q gives (Ok x) none = tt
refuses_more P Q gives (Err fault) none = refutes_more P Q gives fault none

-- a fault that is handed on by `?`
pub passed_on : {A : Type 0} (P Q : Type 0) → (Q → P) → (r : Result A ReadFault)
    (fault : ReadFault) → IsErrAnd r (λ x. x ≡ fault) → Refutes P fault → IfErr r (Refutes Q)
passed_on P Q gives (Ok x) fault is none = absurd is
passed_on P Q gives (Err x) fault is none = rw is (refutes_more P Q gives fault none)

-- what follows from a call's success
pub on_success : {A E : Type 0} (P Q : Type 0) → (P → Q) → (r : Result A E) → OnOk r P → OnOk r Q
on_success P Q gives (Ok x) p = gives p
on_success P Q gives (Err e) p = tt

-- what follows from what a call gives
pub on_given : {A E : Type 0} (P Q : A → Type 0) → ((x : A) → P x → Q x) → (r : Result A E)
    → IfOk r P → IfOk r Q
on_given P Q gives (Ok x) p = gives x p
on_given P Q gives (Err e) p = tt
