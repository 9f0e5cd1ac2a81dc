-- What an expression with one part or two says, and what the loops over several parts keep.
use Rattle.std.proofs.Common.{rules, ◌≡◌, ◌≢◌, ℕ, ◌≤◌, ℤ, Bool, true, false, List, [], length, drop, get_or, Option, Some, None, Result, Err, map, refl, ap, sym, ◌∙◌}
use Rattle.std.specs.Result.{IsErrAnd}
use Rattle.std.specs.declared.alloc.Global.{Global}
use Rattle.std.specs.declared.boxed.Box.{Box}
use Rattle.std.proofs.lemmas.List.{at_drop_all}
use denote.Enum.Bare.{same_false, same_true, sameb}
use Rattle.mg_value.specs.contracts.truth.Truth.{the_type}
use Rattle.mg_value.specs.declared.truth.Truth.{Truth}
use Rattle.mg_value.specs.declared.truth.Truth.TheVariants.{False, Unknown, True}
use Rattle.mg_value.specs.declared.value.Value.{Value}
use Rattle.mg_value.specs.declared.value.Value.TheVariants as values
use Rattle.mg_value.specs.Values.{comparison}
use Rattle.mg_expr.specs.declared.expr.Expr.{Expr}
use Rattle.mg_expr.specs.declared.expr.Expr.TheVariants as variants
use Rattle.mg_expr.specs.declared.expr.Expr.TheOpen as layer
use Rattle.mg_expr.specs.declared.expr.Expr.TheFolds.{fold-roll-Expr}
use Rattle.mg_expr.specs.declared.expr.Sign.{Sign}
use Rattle.mg_expr.specs.declared.fault.EvalFault.{EvalFault}
use Rattle.mg_expr.specs.declared.fault.EvalFault.TheVariants.{Memory}
use Rattle.mg_expr.specs.declared.outcome.Outcome.{Outcome}
use Rattle.mg_expr.specs.Trees.{Tree, tree_of, tree_step, part_step}
use Rattle.mg_expr.specs.Trees as trees
use Rattle.mg_expr.specs.Meaning.{Says, Gives, Holds, Faults, value_in, truth_in, holds, gives, negated, denied, both, either, and_then, or_else, all_of, any_of, compared, compares, null_test, not_null_test, negative, total, says, says_of}
use Rattle.mg_expr.specs.Outcomes.{Tells}
use Rattle.mg_expr.proofs.CopyLemmas.{tree_of_not, tree_of_compare, tree_of_is_null, tree_of_is_not_null, tree_of_minus}
use Rattle.mg_expr.proofs.FaultLemmas.{tells_fault, faults_told}

-- ---- one part or two

pub says_not : (e start : Expr) (part : Box Expr Global) (row : List Value) → e ≡ variants.Not part
    → start ≡ part.value → says_of e row ≡ holds (denied (truth_in (says_of start row)))
says_not e start part row is same =
    ap (λ (x : Expr). says_of x row) is ∙ ap (λ (t : Tree). says t row) (tree_of_not part)
    ∙ ap (λ (x : Expr). holds (denied (truth_in (says_of x row)))) (sym same)

pub says_is_null : (e start : Expr) (part : Box Expr Global) (row : List Value) → e ≡ variants.IsNull part
    → start ≡ part.value → says_of e row ≡ holds (null_test (value_in (says_of start row)))
says_is_null e start part row is same =
    ap (λ (x : Expr). says_of x row) is ∙ ap (λ (t : Tree). says t row) (tree_of_is_null part)
    ∙ ap (λ (x : Expr). holds (null_test (value_in (says_of x row)))) (sym same)

pub says_is_not_null : (e start : Expr) (part : Box Expr Global) (row : List Value)
    → e ≡ variants.IsNotNull part → start ≡ part.value
    → says_of e row ≡ holds (not_null_test (value_in (says_of start row)))
says_is_not_null e start part row is same =
    ap (λ (x : Expr). says_of x row) is ∙ ap (λ (t : Tree). says t row) (tree_of_is_not_null part)
    ∙ ap (λ (x : Expr). holds (not_null_test (value_in (says_of x row)))) (sym same)

pub says_minus : (e start : Expr) (part : Box Expr Global) (row : List Value) → e ≡ variants.Minus part
    → start ≡ part.value → says_of e row ≡ gives (negative (value_in (says_of start row)))
says_minus e start part row is same =
    ap (λ (x : Expr). says_of x row) is ∙ ap (λ (t : Tree). says t row) (tree_of_minus part)
    ∙ ap (λ (x : Expr). gives (negative (value_in (says_of x row)))) (sym same)

pub says_compare : (e left right : Expr) (a b : Box Expr Global) (sign : Sign) (row : List Value)
    → e ≡ variants.Compare a sign b → left ≡ a.value → right ≡ b.value
    → says_of e row ≡ holds (compares sign (value_in (says_of left row)) (value_in (says_of right row)))
says_compare e left right a b sign row is same other =
    ap (λ (x : Expr). says_of x row) is ∙ ap (λ (t : Tree). says t row) (tree_of_compare a sign b)
    ∙ ap (λ (x : Expr). holds (compares sign (value_in (says_of x row)) (value_in (says_of b.value row)))) (sym same)
    ∙ ap (λ (x : Expr). holds (compares sign (value_in (says_of left row)) (value_in (says_of x row)))) (sym other)

-- a comparison whose first side has a value
pub compare_begins : (e left right : Expr) (a b : Box Expr Global) (sign : Sign) (row : List Value) (x : Value)
    → e ≡ variants.Compare a sign b → left ≡ a.value → right ≡ b.value → value_in (says_of left row) ≡ Some x
    → says_of e row ≡ holds (compares sign (Some x) (value_in (says_of right row)))
compare_begins e left right a b sign row x is same other has =
    says_compare e left right a b sign row is same other
    ∙ ap (λ (v : Option Value). holds (compares sign v (value_in (says_of right row)))) has

pub compare_said : (e left right : Expr) (a b : Box Expr Global) (sign : Sign) (row : List Value) (x y : Value)
    (answer : Truth) → e ≡ variants.Compare a sign b → left ≡ a.value → right ≡ b.value
    → value_in (says_of left row) ≡ Some x → value_in (says_of right row) ≡ Some y
    → answer ≡ compared sign (comparison x y) → says_of e row ≡ Holds answer
compare_said e left right a b sign row x y answer is same other has also_ is_answer =
    compare_begins e left right a b sign row x is same other has
    ∙ ap (λ (v : Option Value). holds (compares sign (Some x) v)) also_ ∙ ap Holds (sym is_answer)

pub not_said : (e start : Expr) (part : Box Expr Global) (row : List Value) (truth answer : Truth)
    → e ≡ variants.Not part → start ≡ part.value → truth_in (says_of start row) ≡ Some truth
    → answer ≡ negated truth → says_of e row ≡ Holds answer
not_said e start part row truth answer is same has is_answer =
    says_not e start part row is same ∙ ap (λ (t : Option Truth). holds (denied t)) has
    ∙ ap Holds (sym is_answer)

pub is_null_said : (e start : Expr) (part : Box Expr Global) (row : List Value) (value : Value) (answer : Truth)
    → e ≡ variants.IsNull part → start ≡ part.value → value_in (says_of start row) ≡ Some value
    → null_test (Some value) ≡ Some answer → says_of e row ≡ Holds answer
is_null_said e start part row value answer is same has is_answer =
    says_is_null e start part row is same ∙ ap (λ (v : Option Value). holds (null_test v)) has
    ∙ ap holds is_answer

pub is_not_null_said : (e start : Expr) (part : Box Expr Global) (row : List Value) (value : Value) (answer : Truth)
    → e ≡ variants.IsNotNull part → start ≡ part.value → value_in (says_of start row) ≡ Some value
    → not_null_test (Some value) ≡ Some answer → says_of e row ≡ Holds answer
is_not_null_said e start part row value answer is same has is_answer =
    says_is_not_null e start part row is same ∙ ap (λ (v : Option Value). holds (not_null_test v)) has
    ∙ ap holds is_answer

-- the negative of a part's value, where there is one and where it faults
pub minus_begins : (e start : Expr) (part : Box Expr Global) (row : List Value) (value : Value)
    → e ≡ variants.Minus part → start ≡ part.value → value_in (says_of start row) ≡ Some value
    → says_of e row ≡ gives (negative (Some value))
minus_begins e start part row value is same has =
    says_minus e start part row is same ∙ ap (λ (v : Option Value). gives (negative v)) has

-- an expression faults with its part
pub one_fault : (F : Says → Says) (s first : Says) (r : Result Outcome EvalFault) (e : EvalFault)
    → F Faults ≡ Faults → IsErrAnd r (λ x. x ≡ e) → Tells first (Err e) → s ≡ F first → Tells s r
one_fault F s first r e none is told means =
    tells_fault s r e is (λ arithmetic_. means ∙ ap F (faults_told first e told arithmetic_) ∙ none)

-- memory was wanting
pub tells_memory : (s : Says) (r : Result Outcome EvalFault) → IsErrAnd r (λ x. x ≡ Memory) → Tells s r
tells_memory s r is = tells_fault s r Memory is (λ same. absurd cc)

-- ---- no part

tree_of_null : tree_of variants.Null ≡ trees.Null
tree_of_null = ap tree_of (sym variants.rolls-Null) ∙ fold-roll-Expr Tree (Bool × Tree) tree_step part_step layer.Null

tree_of_name : (name : List ℕ) → tree_of (variants.Name name) ≡ trees.Name name
tree_of_name name =
    ap tree_of (sym (variants.rolls-Name name)) ∙ fold-roll-Expr Tree (Bool × Tree) tree_step part_step (layer.Name
    name)

tree_of_column : (place : ℕ) → tree_of (variants.Column place) ≡ trees.Column place
tree_of_column place =
    ap tree_of (sym (variants.rolls-Column place))
    ∙ fold-roll-Expr Tree (Bool × Tree) tree_step part_step (layer.Column place)

tree_of_text : (text : List ℕ) → tree_of (variants.Text text) ≡ trees.Text text
tree_of_text text =
    ap tree_of (sym (variants.rolls-Text text)) ∙ fold-roll-Expr Tree (Bool × Tree) tree_step part_step (layer.Text
    text)

pub null_said : (e : Expr) (row : List Value) → e ≡ variants.Null → says_of e row ≡ Gives values.Null
null_said e row is = ap (λ (x : Expr). says_of x row) is ∙ ap (λ (t : Tree). says t row) tree_of_null

pub name_said : (e : Expr) (name : List ℕ) (row : List Value) → e ≡ variants.Name name
    → says_of e row ≡ Gives values.Null
name_said e name row is = ap (λ (x : Expr). says_of x row) is ∙ ap (λ (t : Tree). says t row) (tree_of_name name)

pub column_said : (e : Expr) (place : ℕ) (row : List Value) (value : Value) → e ≡ variants.Column place
    → value ≡ get_or row place values.Null → says_of e row ≡ Gives value
column_said e place row value is has =
    ap (λ (x : Expr). says_of x row) is ∙ ap (λ (t : Tree). says t row) (tree_of_column place) ∙ ap Gives (sym has)

pub text_said : (e : Expr) (text copied : List ℕ) (row : List Value) → e ≡ variants.Text text → copied ≡ text
    → says_of e row ≡ Gives (values.Text copied)
text_said e text copied row is same =
    ap (λ (x : Expr). says_of x row) is ∙ ap (λ (t : Tree). says t row) (tree_of_text text)
    ∙ ap (λ (bytes : List ℕ). Gives (values.Text bytes)) (sym same)

-- ---- several parts

-- what the test of a truth has told
pub not_false : (a : Truth) → false ≡ sameb the_type a False → a ≢ False
not_false a told = same_false the_type a False (sym told)

pub not_true : (a : Truth) → false ≡ sameb the_type a True → a ≢ True
not_true a told = same_false the_type a True (sym told)

pub is_false : (a : Truth) → true ≡ sameb the_type a False → a ≡ False
is_false a told = same_true the_type (search rules) a False (sym told)

pub is_true : (a : Truth) → true ≡ sameb the_type a True → a ≡ True
is_true a told = same_true the_type (search rules) a True (sym told)

pub true_not_false : True ≢ False
true_not_false is = absurd cc

pub false_not_true : False ≢ True
false_not_true is = absurd cc

-- a and then b and the rest, where a alone does not end it
and_assoc : (a b : Truth) (rest : Option Truth) → a ≢ False
    → and_then (Some (both a b)) rest ≡ and_then (Some a) (and_then (Some b) rest)
and_assoc False b rest open_ = absurd (open_ refl)
and_assoc True b rest open_ = refl
and_assoc Unknown False rest open_ = refl
and_assoc Unknown True rest open_ = refl
and_assoc Unknown Unknown None open_ = refl
and_assoc Unknown Unknown (Some False) open_ = refl
and_assoc Unknown Unknown (Some Unknown) open_ = refl
and_assoc Unknown Unknown (Some True) open_ = refl

or_assoc : (a b : Truth) (rest : Option Truth) → a ≢ True
    → or_else (Some (either a b)) rest ≡ or_else (Some a) (or_else (Some b) rest)
or_assoc True b rest open_ = absurd (open_ refl)
or_assoc False b rest open_ = refl
or_assoc Unknown True rest open_ = refl
or_assoc Unknown False rest open_ = refl
or_assoc Unknown Unknown None open_ = refl
or_assoc Unknown Unknown (Some False) open_ = refl
or_assoc Unknown Unknown (Some Unknown) open_ = refl
or_assoc Unknown Unknown (Some True) open_ = refl

-- AND takes one part more in
pub all_more : (a truth next : Truth) (s : Says) (rest whole : Option Truth) → a ≢ False
    → truth_in s ≡ Some truth → next ≡ both a truth → and_then (Some a) (and_then (truth_in s) rest) ≡ whole
    → and_then (Some next) rest ≡ whole
all_more a truth next s rest whole open_ has is makes =
    ap (λ (t : Truth). and_then (Some t) rest) is ∙ and_assoc a truth rest open_
    ∙ ap (λ (t : Option Truth). and_then (Some a) (and_then t rest)) (sym has) ∙ makes

-- OR takes one part more in
pub any_more : (a truth next : Truth) (s : Says) (rest whole : Option Truth) → a ≢ True
    → truth_in s ≡ Some truth → next ≡ either a truth → or_else (Some a) (or_else (truth_in s) rest) ≡ whole
    → or_else (Some next) rest ≡ whole
any_more a truth next s rest whole open_ has is makes =
    ap (λ (t : Truth). or_else (Some t) rest) is ∙ or_assoc a truth rest open_
    ∙ ap (λ (t : Option Truth). or_else (Some a) (or_else t rest)) (sym has) ∙ makes

-- AND ends where it is FALSE, and OR where it is TRUE
pub all_false : (next : Truth) (rest whole : Option Truth) → next ≡ False → and_then (Some next) rest ≡ whole
    → whole ≡ Some False
all_false next rest whole is makes =
    sym makes ∙ ap (λ (t : Truth). and_then (Some t) rest) is

pub any_true : (next : Truth) (rest whole : Option Truth) → next ≡ True → or_else (Some next) rest ≡ whole
    → whole ≡ Some True
any_true next rest whole is makes =
    sym makes ∙ ap (λ (t : Truth). or_else (Some t) rest) is

-- no part is left
and_nothing : (a : Truth) → a ≢ False → and_then (Some a) (Some True) ≡ Some a
and_nothing False open_ = absurd (open_ refl)
and_nothing Unknown open_ = refl
and_nothing True open_ = refl

or_nothing : (a : Truth) → a ≢ True → or_else (Some a) (Some False) ≡ Some a
or_nothing False open_ = refl
or_nothing Unknown open_ = refl
or_nothing True open_ = absurd (open_ refl)

pub all_done : (f : Expr → Says) (parts : List Expr) (i : ℕ) (a : Truth) (whole : Option Truth)
    → length parts ≤ i → a ≢ False → and_then (Some a) (all_of (map f (drop i parts))) ≡ whole → whole ≡ Some a
all_done f parts i a whole past open_ makes =
    sym makes ∙ at_drop_all (λ (es : List Expr). and_then (Some a) (all_of (map f es))) parts i past
    ∙ and_nothing a open_

pub any_done : (f : Expr → Says) (parts : List Expr) (i : ℕ) (a : Truth) (whole : Option Truth)
    → length parts ≤ i → a ≢ True → or_else (Some a) (any_of (map f (drop i parts))) ≡ whole → whole ≡ Some a
any_done f parts i a whole past open_ makes =
    sym makes ∙ at_drop_all (λ (es : List Expr). or_else (Some a) (any_of (map f es))) parts i past
    ∙ or_nothing a open_

pub total_done : {P : Type 0} (f : Bool → ℤ → ℤ → Option Value) (g : P → Bool × Says) (parts : List P) (i : ℕ)
    (so_far : Value) (whole : Option Value) → length parts ≤ i
    → total f (Some so_far) (map g (drop i parts)) ≡ whole → whole ≡ Some so_far
total_done {P} f g parts i so_far whole past makes =
    sym makes ∙ at_drop_all (λ (ps : List P). total f (Some so_far) (map g ps)) parts i past
