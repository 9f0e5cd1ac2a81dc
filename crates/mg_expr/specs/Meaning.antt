-- What an expression says of a row.
use Rattle.std.specs.Prelude.{ℤ, pos, negsuc, ◌+ℤ◌, ◌-ℤ◌, ◌*ℤ◌, neg_ℤ, int_div, ◌^◌, Bool, true, false, not, nat_lt, if◌then◌else◌, List, [], ◌∷◌, get_or, Option, Some, None}
use Rattle.std.specs.Ordering.{is_eq, is_ne, is_lt, is_le, is_gt, is_ge, int_eq}
use Rattle.std.specs.declared.cmp.Ordering.{Ordering}
use Rattle.mg_value.specs.declared.truth.Truth.{Truth}
use Rattle.mg_value.specs.declared.truth.Truth.TheVariants.{False, Unknown, True}
use Rattle.mg_value.specs.declared.value.Value.{Value}
use Rattle.mg_value.specs.declared.value.Value.TheVariants as values
use Rattle.mg_value.specs.Values.{comparison}
use Rattle.mg_value.specs.Rows.{is_null}
use Rattle.mg_expr.specs.declared.expr.Sign.{Sign}
use Rattle.mg_expr.specs.declared.expr.Sign.TheVariants as signs
use Rattle.mg_expr.specs.declared.expr.Expr.{Expr}
use Rattle.mg_expr.specs.declared.expr.Part.{Part}
use Rattle.mg_expr.specs.Trees.{Tree, Trees, Parts, tree_of}
use Rattle.mg_expr.specs.Trees.{Or, And, Not, Compare, IsNull, IsNotNull, Sum, Product, Minus, Integer, Text, Null, Name, Column, end, also, done, part}

-- what an expression says of a row: a value, a truth, or nothing, since its arithmetic faults
pub data Says : Type 0 where
  Gives : Value → Says
  Holds : Truth → Says
  Faults : Says

-- the value that is said, none at a fault; a truth has the value NULL
abbrev pub value_in : Says → Option Value
value_in (Gives value) = Some value
value_in (Holds truth) = Some values.Null
value_in Faults = None

-- the truth that is said, none at a fault; a value has the truth unknown
abbrev pub truth_in : Says → Option Truth
truth_in (Gives value) = Some Unknown
truth_in (Holds truth) = Some truth
truth_in Faults = None

-- a value is said, or a fault
abbrev pub gives : Option Value → Says
gives (Some value) = Gives value
gives None = Faults

-- a truth is said, or a fault
abbrev pub holds : Option Truth → Says
holds (Some truth) = Holds truth
holds None = Faults

-- the truth of a test that is answered
abbrev pub truth_from : Bool → Truth
truth_from true = True
truth_from false = False

-- NOT
abbrev pub negated : Truth → Truth
negated False = True
negated Unknown = Unknown
negated True = False

-- AND of two truths: FALSE where one is, TRUE where both are
abbrev pub both : Truth → Truth → Truth
both False b = False
both Unknown False = False
both Unknown Unknown = Unknown
both Unknown True = Unknown
both True b = b

-- OR of two truths: TRUE where one is, FALSE where both are
abbrev pub either : Truth → Truth → Truth
either True b = True
either Unknown True = True
either Unknown Unknown = Unknown
either Unknown False = Unknown
either False b = b

-- a AND b, where a is evaluated first: b is skipped where a is FALSE, and its fault doesn't count
abbrev pub and_then : Option Truth → Option Truth → Option Truth
and_then None b = None
and_then (Some False) b = Some False
and_then (Some Unknown) None = None
and_then (Some Unknown) (Some b) = Some (both Unknown b)
and_then (Some True) b = b

-- a OR b, where a is evaluated first: b is skipped where a is TRUE, and its fault doesn't count
abbrev pub or_else : Option Truth → Option Truth → Option Truth
or_else None b = None
or_else (Some True) b = Some True
or_else (Some Unknown) None = None
or_else (Some Unknown) (Some b) = Some (either Unknown b)
or_else (Some False) b = b

-- AND of what several parts say, from the left
abbrev pub all_of : List Says → Option Truth
all_of [] = Some True
all_of (s ∷ ss) = and_then (truth_in s) (all_of ss)

-- OR of what several parts say, from the left
abbrev pub any_of : List Says → Option Truth
any_of [] = Some False
any_of (s ∷ ss) = or_else (truth_in s) (any_of ss)

-- whether two values in this order meet the sign
abbrev pub meets : Sign → Ordering → Bool
meets signs.Equal order = is_eq order
meets signs.Unequal order = is_ne order
meets signs.Less order = is_lt order
meets signs.AtMost order = is_le order
meets signs.Greater order = is_gt order
meets signs.AtLeast order = is_ge order

-- the truth of a comparison whose order is known or unknown
abbrev pub compared : Sign → Option Ordering → Truth
compared sign None = Unknown
compared sign (Some order) = truth_from (meets sign order)

-- a comparison: both sides are evaluated, and it is unknown where one is NULL
abbrev pub compares : Sign → Option Value → Option Value → Option Truth
compares sign None b = None
compares sign (Some a) None = None
compares sign (Some a) (Some b) = Some (compared sign (comparison a b))

-- IS NULL
abbrev pub null_test : Option Value → Option Truth
null_test None = None
null_test (Some value) = Some (truth_from (is_null value))

-- IS NOT NULL
abbrev pub not_null_test : Option Value → Option Truth
not_null_test None = None
not_null_test (Some value) = Some (truth_from (not (is_null value)))

-- whether a number is one of 64 bits: from -2^63 to 2^63 - 1
abbrev pub fits : ℤ → Bool
fits (pos n) = nat_lt n (2 ^ 63)
fits (negsuc n) = nat_lt n (2 ^ 63)

-- the result of arithmetic: a fault where it leaves 64 bits
abbrev pub within : ℤ → Option Value
within number = if fits number then Some (values.Int number) else None

-- a sum, or a difference where the second number is subtracted
abbrev pub added : Bool → ℤ → ℤ → Option Value
added false x y = within (x +ℤ y)
added true x y = within (x -ℤ y)

-- a product, or where the second number divides a quotient toward zero, and a fault by 0
abbrev pub multiplied : Bool → ℤ → ℤ → Option Value
multiplied false x y = within (x *ℤ y)
multiplied true x y = if int_eq y (pos 0) then None else within (int_div x y)

-- the number that a value is, none of NULL and of a text
abbrev pub number : Value → Option ℤ
number values.Null = None
number (values.Int n) = Some n
number (values.Text text) = None

-- arithmetic on two numbers, and NULL where one is missing
abbrev pub on_numbers : (ℤ → ℤ → Option Value) → Option ℤ → Option ℤ → Option Value
on_numbers f None y = Some values.Null
on_numbers f (Some x) None = Some values.Null
on_numbers f (Some x) (Some y) = f x y

-- arithmetic on two operands: both are evaluated, and NULL with any is NULL
abbrev pub arithmetic : (ℤ → ℤ → Option Value) → Option Value → Option Value → Option Value
arithmetic f None b = None
arithmetic f (Some a) None = None
arithmetic f (Some a) (Some b) = on_numbers f (number a) (number b)

-- the further parts of a sum or a product taken in, from the left
abbrev pub total : (Bool → ℤ → ℤ → Option Value) → Option Value → List (Bool × Says) → Option Value
total f so_far [] = so_far
total f so_far (p ∷ ps) = total f (arithmetic (f p.0) so_far (value_in p.1)) ps

-- the negative of a number, and NULL where there is none
abbrev pub minus : Option ℤ → Option Value
minus None = Some values.Null
minus (Some x) = within (neg_ℤ x)

-- unary minus
abbrev pub negative : Option Value → Option Value
negative None = None
negative (Some value) = minus (number value)

-- the truth that NOT makes of one
abbrev pub denied : Option Truth → Option Truth
denied None = None
denied (Some truth) = Some (negated truth)

abbrev mutual
  -- what a tree says of a row; a column past its end is NULL, and so is a name
  pub says : Tree → List Value → Says
  says (Or ts) row = holds (any_of (says_each ts row))
  says (And ts) row = holds (all_of (says_each ts row))
  says (Not t) row = holds (denied (truth_in (says t row)))
  says (Compare a sign b) row =
      holds (compares sign (value_in (says a row)) (value_in (says b row)))
  says (IsNull t) row = holds (null_test (value_in (says t row)))
  says (IsNotNull t) row = holds (not_null_test (value_in (says t row)))
  says (Sum t ps) row = gives (total added (value_in (says t row)) (says_parts ps row))
  says (Product t ps) row = gives (total multiplied (value_in (says t row)) (says_parts ps row))
  says (Minus t) row = gives (negative (value_in (says t row)))
  says (Integer n) row = Gives (values.Int n)
  says (Text text) row = Gives (values.Text text)
  says Null row = Gives values.Null
  says (Name name) row = Gives values.Null
  says (Column place) row = Gives (get_or row place values.Null)

  -- what each of several trees says
  pub says_each : Trees → List Value → List Says
  says_each end row = []
  says_each (also t ts) row = says t row ∷ says_each ts row

  -- what each further part says, with whether it is subtracted, or divided by
  pub says_parts : Parts → List Value → List (Bool × Says)
  says_parts done row = []
  says_parts (part inverse t ps) row = (inverse, says t row) ∷ says_parts ps row

-- what an expression says of a row
abbrev pub says_of : Expr → List Value → Says
says_of e row = says (tree_of e) row

-- what a further part says of a row, with whether it is subtracted, or divided by
abbrev pub part_says : Part → List Value → Bool × Says
part_says p row = (p.inverse, says_of p.value row)

-- the value that an expression has at a row, none where its arithmetic faults
abbrev pub value_of : Expr → List Value → Option Value
value_of e row = value_in (says_of e row)

-- the truth that an expression has at a row, none where its arithmetic faults
abbrev pub truth_of : Expr → List Value → Option Truth
truth_of e row = truth_in (says_of e row)

-- whether a truth is TRUE
abbrev pub is_true : Option Truth → Bool
is_true None = false
is_true (Some False) = false
is_true (Some Unknown) = false
is_true (Some True) = true

-- whether an expression is TRUE at a row: neither FALSE nor unknown, and no fault
abbrev pub is_true_of : Expr → List Value → Bool
is_true_of e row = is_true (truth_of e row)
