-- What a call answers where an expression in it faults.
use Rattle.std.proofs.Common.{◌≡◌, ◌≢◌, ℕ, ◌+◌, ◌<◌, ℤ, Bool, List, [], ◌∷◌, length, drop, get_or, Option, Some, None, Result, Ok, Err, refl, sym, ap, ◌∙◌}
use Rattle.std.specs.Result.{IsErrAnd}
use Rattle.std.proofs.lemmas.List.{at_drop_more}
use Rattle.mg_value.specs.declared.truth.Truth.{Truth}
use Rattle.mg_value.specs.declared.truth.Truth.TheVariants.{False, Unknown, True}
use Rattle.mg_value.specs.declared.value.Value.{Value}
use Rattle.mg_expr.specs.declared.fault.EvalFault.{EvalFault}
use Rattle.mg_expr.specs.declared.fault.EvalFault.TheVariants.{Arithmetic, Memory}
use Rattle.mg_expr.specs.declared.outcome.Outcome.{Outcome}
use Rattle.mg_expr.specs.Meaning.{Says, Faults, value_in, truth_in, holds, gives, and_then, or_else, arithmetic, total}
use Rattle.mg_expr.specs.Outcomes.{Tells, Answers}

-- the rest of a list at an item of it
pub drop_item : {X Y : Type 0} (F : List X → Y) (xs : List X) (i : ℕ) (x : X) → i < length xs → x ≡ get_or xs i x → F (drop i xs) ≡ F (x ∷ drop (i + 1) xs)
drop_item F xs i x lt is = at_drop_more F xs i x lt ∙ ap (λ y. F (y ∷ drop (i + 1) xs)) (sym is)

-- a call returns a fault that says nothing, or is of arithmetic where nothing is said
pub answers_fault : {A : Type 0} (said : Option A) (r : Result A EvalFault) (e : EvalFault) → IsErrAnd r (λ x. x ≡ e) → (e ≡ Arithmetic → said ≡ None) → Answers said r
answers_fault said (Ok answer) e is h = absurd is
answers_fault said (Err Arithmetic) e is h = h (sym is)
answers_fault said (Err Memory) e is h = tt

pub tells_fault : (s : Says) (r : Result Outcome EvalFault) (e : EvalFault) → IsErrAnd r (λ x. x ≡ e) → (e ≡ Arithmetic → s ≡ Faults) → Tells s r
tells_fault s (Ok answer) e is h = absurd is
tells_fault s (Err Arithmetic) e is h = h (sym is)
tells_fault s (Err Memory) e is h = tt

-- an expression that is told to fault
pub faults_told : (s : Says) (e : EvalFault) → Tells s (Err e) → e ≡ Arithmetic → s ≡ Faults
faults_told s Arithmetic told is = told
faults_told s Memory told is = absurd cc

pub none_answered : {A : Type 0} (said : Option A) (e : EvalFault) → Answers said (Err e) → e ≡ Arithmetic → said ≡ None
none_answered said Arithmetic answers is = answers
none_answered said Memory answers is = absurd cc

and_none : (a : Truth) (rest : Option Truth) → a ≢ False → and_then (Some a) (and_then None rest) ≡ None
and_none False rest open_ = absurd (open_ refl)
and_none Unknown rest open_ = refl
and_none True rest open_ = refl

or_none : (a : Truth) (rest : Option Truth) → a ≢ True → or_else (Some a) (or_else None rest) ≡ None
or_none True rest open_ = absurd (open_ refl)
or_none Unknown rest open_ = refl
or_none False rest open_ = refl

-- AND meets a part that faults
pub all_fault : (a : Truth) (s : Says) (rest whole : Option Truth) (r : Result Truth EvalFault) (e : EvalFault) → IsErrAnd r (λ x. x ≡ e) → Tells s (Err e) → a ≢ False → and_then (Some a) (and_then (truth_in s) rest) ≡ whole → Answers whole r
all_fault a s rest whole r e is told open_ makes =
    answers_fault whole r e is (λ arithmetic. sym makes ∙ ap (λ (t : Says). and_then (Some a) (and_then (truth_in t) rest)) (faults_told s e told arithmetic) ∙ and_none a rest open_)

-- OR meets a part that faults
pub any_fault : (a : Truth) (s : Says) (rest whole : Option Truth) (r : Result Truth EvalFault) (e : EvalFault) → IsErrAnd r (λ x. x ≡ e) → Tells s (Err e) → a ≢ True → or_else (Some a) (or_else (truth_in s) rest) ≡ whole → Answers whole r
any_fault a s rest whole r e is told open_ makes =
    answers_fault whole r e is (λ arithmetic. sym makes ∙ ap (λ (t : Says). or_else (Some a) (or_else (truth_in t) rest)) (faults_told s e told arithmetic) ∙ or_none a rest open_)

-- after a fault nothing is made of the further parts
pub total_none : (f : Bool → ℤ → ℤ → Option Value) (ps : List (Bool × Says)) → total f None ps ≡ None
total_none f [] = refl
total_none f (p ∷ ps) = total_none f ps

-- a sum or a product meets a part that faults
pub part_fault : (f : Bool → ℤ → ℤ → Option Value) (so_far : Value) (inverse : Bool) (s : Says) (rest : List (Bool × Says)) (whole : Option Value) (r : Result Value EvalFault) (e : EvalFault) → IsErrAnd r (λ x. x ≡ e) → Tells s (Err e) → total f (Some so_far) ((inverse, s) ∷ rest) ≡ whole → Answers whole r
part_fault f so_far inverse s rest whole r e is told makes =
    answers_fault whole r e is (λ arithmetic. sym makes ∙ ap (λ (t : Says). total f (Some so_far) ((inverse, t) ∷ rest)) (faults_told s e told arithmetic) ∙ total_none f rest)

-- a sum or a product meets a part with which it faults
pub step_fault : (f : Bool → ℤ → ℤ → Option Value) (so_far value : Value) (inverse : Bool) (s : Says) (rest : List (Bool × Says)) (whole : Option Value) (r : Result Value EvalFault) (e : EvalFault) → IsErrAnd r (λ x. x ≡ e) → value_in s ≡ Some value → Answers (arithmetic (f inverse) (Some so_far) (Some value)) (Err e) → total f (Some so_far) ((inverse, s) ∷ rest) ≡ whole → Answers whole r
step_fault f so_far value inverse s rest whole r e is has answers makes =
    answers_fault whole r e is (λ arithmetic_. sym makes ∙ ap (λ (v : Option Value). total f (arithmetic (f inverse) (Some so_far) v) rest) has ∙ ap (λ (v : Option Value). total f v rest) (none_answered _ e answers arithmetic_) ∙ total_none f rest)

-- a sum or a product takes a part in
pub step_taken : (f : Bool → ℤ → ℤ → Option Value) (so_far value next : Value) (inverse : Bool) (s : Says) (rest : List (Bool × Says)) (whole : Option Value) → value_in s ≡ Some value → arithmetic (f inverse) (Some so_far) (Some value) ≡ Some next → total f (Some so_far) ((inverse, s) ∷ rest) ≡ whole → total f (Some next) rest ≡ whole
step_taken f so_far value next inverse s rest whole has gives makes =
    sym (ap (λ (v : Option Value). total f (arithmetic (f inverse) (Some so_far) v) rest) has ∙ ap (λ (v : Option Value). total f v rest) gives) ∙ makes

-- AND or OR of several parts faults
pub truth_fault : (s : Says) (said : Option Truth) (r : Result Outcome EvalFault) (e : EvalFault) → IsErrAnd r (λ x. x ≡ e) → Answers said (Err e) → s ≡ holds said → Tells s r
truth_fault s said r e is answers means =
    tells_fault s r e is (λ arithmetic_. means ∙ ap holds (none_answered said e answers arithmetic_))

-- a sum or a product faults at a further part
pub value_fault : (s : Says) (said : Option Value) (r : Result Outcome EvalFault) (e : EvalFault) → IsErrAnd r (λ x. x ≡ e) → Answers said (Err e) → s ≡ gives said → Tells s r
value_fault s said r e is answers means =
    tells_fault s r e is (λ arithmetic_. means ∙ ap gives (none_answered said e answers arithmetic_))

-- a sum or a product faults at its first part
pub first_fault : (f : Bool → ℤ → ℤ → Option Value) (s first : Says) (ps : List (Bool × Says)) (r : Result Outcome EvalFault) (e : EvalFault) → IsErrAnd r (λ x. x ≡ e) → Tells first (Err e) → s ≡ gives (total f (value_in first) ps) → Tells s r
first_fault f s first ps r e is told means =
    tells_fault s r e is (λ arithmetic_. means ∙ ap (λ (t : Says). gives (total f (value_in t) ps)) (faults_told first e told arithmetic_) ∙ ap gives (total_none f ps))
