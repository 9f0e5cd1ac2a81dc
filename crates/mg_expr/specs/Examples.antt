-- What small expressions say, computed.
use Rattle.std.specs.Prelude.{◌≡◌, ℤ, pos, negsuc, ◌^◌, ◌-◌, true, false, List, [], ◌∷◌, map, Option, Some, None}
use Rattle.std.specs.List.{flat_map}
use Rattle.mg_value.specs.declared.truth.Truth.{Truth}
use Rattle.mg_value.specs.declared.truth.Truth.TheVariants.{False, Unknown, True}
use Rattle.mg_value.specs.declared.value.Value.{Value}
use Rattle.mg_value.specs.declared.value.Value.TheVariants as values
use Rattle.mg_expr.specs.declared.expr.Sign.TheVariants as signs
use Rattle.mg_expr.specs.Trees.{Tree, Trees, Or, And, Not, Compare, IsNull, IsNotNull, Sum, Product, Minus, Integer, Text, Null, Column, end, also, done, part}
use Rattle.mg_expr.specs.Meaning.{says, value_in, truth_in}
use Rattle.mg_expr.specs.Filters.{passes}

-- the value of a tree at a row of 7, NULL and the text "a"
abbrev pub value_here : Tree → Option Value
value_here t =
    value_in (says t (values.Int (pos 7) ∷ values.Null ∷ values.Text (97 ∷ []) ∷ []))

-- the truth of a tree at that row
abbrev pub truth_here : Tree → Option Truth
truth_here t =
    truth_in (says t (values.Int (pos 7) ∷ values.Null ∷ values.Text (97 ∷ []) ∷ []))

-- 1 / 0
abbrev pub one_by_zero : Tree
one_by_zero = Product (Integer (pos 1)) (part true (Integer (pos 0)) done)

-- conditions that are FALSE, unknown and TRUE, and one that faults
abbrev pub four_conditions : List Tree
four_conditions =
    IsNotNull Null ∷ Compare Null signs.Equal Null ∷ IsNull Null ∷ IsNull one_by_zero ∷ []

-- the truths of a connective of two of the four conditions, row by row
abbrev pub table : (Trees → Tree) → List (Option Truth)
table connective =
    flat_map (λ a. map (λ b. truth_here (connective (also a (also b end)))) four_conditions)
    four_conditions

-- AND: where the first is FALSE the second isn't evaluated
abbrev pub AndTable : Type 0
AndTable =
    table And
    ≡ Some False ∷ Some False ∷ Some False ∷ Some False
    ∷ Some False ∷ Some Unknown ∷ Some Unknown ∷ None
    ∷ Some False ∷ Some Unknown ∷ Some True ∷ None
    ∷ None ∷ None ∷ None ∷ None ∷ []

-- OR: where the first is TRUE the second isn't evaluated
abbrev pub OrTable : Type 0
OrTable =
    table Or
    ≡ Some False ∷ Some Unknown ∷ Some True ∷ None
    ∷ Some Unknown ∷ Some Unknown ∷ Some True ∷ None
    ∷ Some True ∷ Some True ∷ Some True ∷ Some True
    ∷ None ∷ None ∷ None ∷ None ∷ []

-- NOT
abbrev pub NotTable : Type 0
NotTable =
    map (λ t. truth_here (Not t)) four_conditions
    ≡ Some True ∷ Some Unknown ∷ Some False ∷ None ∷ []

-- the truths of a comparison of 7 with 6, 7, 8 and NULL
abbrev pub compared_with : (Tree → Tree) → List (Option Truth)
compared_with comparison =
    map (λ (n : Tree). truth_here (comparison n))
    (Integer (pos 6) ∷ Integer (pos 7) ∷ Integer (pos 8) ∷ Null ∷ [])

-- the six comparisons of numbers
abbrev pub Comparisons : Type 0
Comparisons =
    map (λ sign. compared_with (λ n. Compare (Column 0) sign n))
    (signs.Equal ∷ signs.Unequal ∷ signs.Less ∷ signs.AtMost ∷ signs.Greater ∷ signs.AtLeast ∷ [])
    ≡ (Some False ∷ Some True ∷ Some False ∷ Some Unknown ∷ [])
    ∷ (Some True ∷ Some False ∷ Some True ∷ Some Unknown ∷ [])
    ∷ (Some False ∷ Some False ∷ Some True ∷ Some Unknown ∷ [])
    ∷ (Some False ∷ Some True ∷ Some True ∷ Some Unknown ∷ [])
    ∷ (Some True ∷ Some False ∷ Some False ∷ Some Unknown ∷ [])
    ∷ (Some True ∷ Some True ∷ Some False ∷ Some Unknown ∷ [])
    ∷ []

-- texts compare by their bytes; NULL is found by IS NULL alone
abbrev pub TextsAndNull : Type 0
TextsAndNull =
    map truth_here
    (Compare (Column 2) signs.Less (Text (97 ∷ 0 ∷ []))
    ∷ Compare (Column 1) signs.Equal (Column 1)
    ∷ IsNull (Column 1)
    ∷ IsNotNull (Column 1)
    ∷ IsNull (Column 0)
    ∷ [])
    ≡ Some True ∷ Some Unknown ∷ Some True ∷ Some False ∷ Some False ∷ []

-- the greatest number
abbrev pub greatest : ℤ
greatest = pos (2 ^ 63 - 1)

-- the least number
abbrev pub least : ℤ
least = negsuc (2 ^ 63 - 1)

-- sums from the left: 7 - 2 + 1; NULL with a number, with a fault; past 64 bits on the way
abbrev pub Sums : Type 0
Sums =
    map value_here
    (Sum (Column 0) (part true (Integer (pos 2)) (part false (Integer (pos 1)) done))
    ∷ Sum (Column 0) (part false Null done)
    ∷ Sum Null (part false one_by_zero done)
    ∷ Sum (Integer greatest) (part false (Integer (pos 0)) done)
    ∷ Sum (Integer greatest) (part false (Integer (pos 1)) (part true (Integer (pos 1)) done))
    ∷ Sum (Integer least) (part true (Integer (pos 1)) done)
    ∷ [])
    ≡ Some (values.Int (pos 6)) ∷ Some values.Null ∷ None ∷ Some (values.Int greatest)
    ∷ None ∷ None ∷ []

-- products from the left: 7 * 3 / 2; division toward zero; NULL / 0, 7 / 0, least / -1, least * -1
abbrev pub Products : Type 0
Products =
    map value_here
    (Product (Column 0) (part false (Integer (pos 3)) (part true (Integer (pos 2)) done))
    ∷ Product (Integer (negsuc 6)) (part true (Integer (pos 2)) done)
    ∷ Product (Column 0) (part true (Integer (negsuc 1)) done)
    ∷ Product Null (part true (Integer (pos 0)) done)
    ∷ Product (Column 0) (part true (Integer (pos 0)) done)
    ∷ Product (Integer least) (part true (Integer (negsuc 0)) done)
    ∷ Product (Integer least) (part false (Integer (negsuc 0)) done)
    ∷ [])
    ≡ Some (values.Int (pos 10)) ∷ Some (values.Int (negsuc 2)) ∷ Some (values.Int (negsuc 2))
    ∷ Some values.Null ∷ None ∷ None ∷ None ∷ []

-- unary minus of 7, of NULL and of the least number
abbrev pub Negatives : Type 0
Negatives =
    map value_here (Minus (Column 0) ∷ Minus (Column 1) ∷ Minus (Integer least) ∷ [])
    ≡ Some (values.Int (negsuc 6)) ∷ Some values.Null ∷ None ∷ []

-- filters of two of the four conditions, row by row: behind an unknown one nothing is evaluated
abbrev pub FilterTable : Type 0
FilterTable =
    flat_map (λ a. map (λ b. passes (And (also a (also b end))) []) four_conditions)
    four_conditions
    ≡ Some false ∷ Some false ∷ Some false ∷ Some false
    ∷ Some false ∷ Some false ∷ Some false ∷ Some false
    ∷ Some false ∷ Some false ∷ Some true ∷ None
    ∷ None ∷ None ∷ None ∷ None ∷ []
