-- What a refusal rules out, carried from one call to the next.
use Rattle.std.proofs.Common.{◌≡◌, Result, Ok, Err}
use Rattle.std.specs.Prelude.{IfErr, OnOk}
use Rattle.std.specs.Result.{IsErrAnd}
use Rattle.mg_reading.specs.declared.point.ReadFault.{ReadFault}
use Rattle.mg_reading.specs.declared.point.ReadFault.TheVariants.{Broken, Memory}
use Rattle.mg_reading.specs.Readable.{Refutes}

-- what would make the smaller thing exist is ruled out with it
pub refutes_more : (P Q : Type 0) → (Q → P) → (fault : ReadFault) → Refutes P fault → Refutes Q fault
refutes_more P Q gives (Broken rule) none = λ q. none (gives q)
refutes_more P Q gives Memory none = tt

-- the same of a call's answer
pub refuses_more : {A : Type 0} (P Q : Type 0) → (Q → P) → (r : Result A ReadFault)
    → IfErr r (Refutes P) → IfErr r (Refutes Q)
refuses_more P Q gives (Ok x) none = tt
refuses_more P Q gives (Err fault) none = refutes_more P Q gives fault none

-- what a call that went well gives is more
pub gives_more : {A : Type 0} (P Q : Type 0) → (P → Q) → (r : Result A ReadFault)
    → OnOk r P → OnOk r Q
gives_more P Q gives (Ok x) is = gives is
gives_more P Q gives (Err fault) is = tt

-- a fault that is handed on by `?`
pub passed_on : {A : Type 0} (P Q : Type 0) → (Q → P) → (r : Result A ReadFault)
    (fault : ReadFault) → IsErrAnd r (λ x. x ≡ fault) → Refutes P fault → IfErr r (Refutes Q)
passed_on P Q gives (Ok x) fault is none = absurd is
passed_on P Q gives (Err x) fault is none = rw is (refutes_more P Q gives fault none)
