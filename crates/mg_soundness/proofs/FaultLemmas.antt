-- A fault that is handed on.
use Rattle.std.proofs.Common.{◌≡◌, Result, Ok, Err}
use Rattle.std.specs.Prelude.{IfErr}
use Rattle.std.specs.Result.{IsErrAnd}
use Rattle.mg_reading.specs.declared.point.ReadFault.{ReadFault}
use Rattle.mg_reading.specs.declared.point.ReadFault.TheVariants.{Broken, Memory}
use Rattle.mg_reading.specs.declared.point.Rule.{Rule}
use Rattle.mg_soundness.specs.Joined.{RefutesBy}

-- what would make the smaller thing exist is ruled out with it
refutes_more : (rule : Rule) (P Q : Type 0) → (Q → P) → (fault : ReadFault)
    → RefutesBy rule P fault → RefutesBy rule Q fault
refutes_more rule P Q gives (Broken named) none = (none.0, λ q. none.1 (gives q))
refutes_more rule P Q gives Memory none = tt

-- a fault that is handed on by `?`
pub refused_on : {A : Type 0} (rule : Rule) (P Q : Type 0) → (Q → P) → (r : Result A ReadFault)
    (fault : ReadFault) → IsErrAnd r (λ x. x ≡ fault) → RefutesBy rule P fault
    → IfErr r (RefutesBy rule Q)
refused_on rule P Q gives (Ok x) fault is none = absurd is
refused_on rule P Q gives (Err x) fault is none = rw is (refutes_more rule P Q gives fault none)
