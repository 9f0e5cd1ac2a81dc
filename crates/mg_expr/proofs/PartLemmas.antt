-- What an expression with a list of parts says, by what the calls on its parts answer.
use Rattle.std.proofs.Common.{◌≡◌, List, map, Some, ap, sym, ◌∙◌}
use Rattle.std.specs.declared.alloc.Global.{Global}
use Rattle.std.specs.declared.boxed.Box.{Box}
use Rattle.std.specs.declared.vec.Vec.{Vec}
use Rattle.mg_value.specs.declared.value.Value.{Value}
use Rattle.mg_expr.specs.declared.expr.Expr.{Expr}
use Rattle.mg_expr.specs.declared.expr.Expr.TheVariants as variants
use Rattle.mg_expr.specs.declared.expr.Part.{Part}
use Rattle.mg_expr.specs.Meaning.{holds, gives, any_of, all_of, total, added, multiplied, says_of, part_says, value_in}
use Rattle.mg_expr.specs.MeaningLaws.{says_or, says_and, says_sum, says_product}

pub or_says : (e : Expr) (parts : Vec Expr Global) (items : List Expr) (row : List Value) → e ≡ variants.Or parts → items ≡ parts.items → says_of e row ≡ holds (any_of (map (λ e. says_of e row) items))
or_says e parts items row is same =
    ap (λ (x : Expr). says_of x row) is ∙ says_or parts row ∙ ap (λ (es : List Expr). holds (any_of (map (λ e. says_of e row) es))) (sym same)

pub and_says : (e : Expr) (parts : Vec Expr Global) (items : List Expr) (row : List Value) → e ≡ variants.And parts → items ≡ parts.items → says_of e row ≡ holds (all_of (map (λ e. says_of e row) items))
and_says e parts items row is same =
    ap (λ (x : Expr). says_of x row) is ∙ says_and parts row ∙ ap (λ (es : List Expr). holds (all_of (map (λ e. says_of e row) es))) (sym same)

pub sum_says : (e start : Expr) (first : Box Expr Global) (parts : Vec Part Global) (items : List Part) (row : List Value) (value : Value) → e ≡ variants.Sum first parts → items ≡ parts.items → start ≡ first.value → value_in (says_of start row) ≡ Some value → says_of e row ≡ gives (total added (Some value) (map (λ p. part_says p row) items))
sum_says e start first parts items row value is same starts has =
    ap (λ (x : Expr). says_of x row) is ∙ says_sum first parts row ∙ ap (λ (ps : List Part). gives (total added (value_in (says_of first.value row)) (map (λ p. part_says p row) ps))) (sym same) ∙ ap (λ v. gives (total added v (map (λ p. part_says p row) items))) (ap (λ (x : Expr). value_in (says_of x row)) (sym starts) ∙ has)

pub product_says : (e start : Expr) (first : Box Expr Global) (parts : Vec Part Global) (items : List Part) (row : List Value) (value : Value) → e ≡ variants.Product first parts → items ≡ parts.items → start ≡ first.value → value_in (says_of start row) ≡ Some value → says_of e row ≡ gives (total multiplied (Some value) (map (λ p. part_says p row) items))
product_says e start first parts items row value is same starts has =
    ap (λ (x : Expr). says_of x row) is ∙ says_product first parts row ∙ ap (λ (ps : List Part). gives (total multiplied (value_in (says_of first.value row)) (map (λ p. part_says p row) ps))) (sym same) ∙ ap (λ v. gives (total multiplied v (map (λ p. part_says p row) items))) (ap (λ (x : Expr). value_in (says_of x row)) (sym starts) ∙ has)

-- a sum, by what its first part says
pub sum_starts : (e start : Expr) (first : Box Expr Global) (parts : Vec Part Global) (row : List Value)
    → e ≡ variants.Sum first parts → start ≡ first.value
    → says_of e row ≡ gives (total added (value_in (says_of start row)) (map (λ p. part_says p row) parts.items))
sum_starts e start first parts row is starts =
    ap (λ (x : Expr). says_of x row) is ∙ says_sum first parts row
    ∙ ap (λ (x : Expr). gives (total added (value_in (says_of x row)) (map (λ p. part_says p row) parts.items)))
    (sym starts)

-- a product, by what its first part says
pub product_starts : (e start : Expr) (first : Box Expr Global) (parts : Vec Part Global) (row : List Value)
    → e ≡ variants.Product first parts → start ≡ first.value
    → says_of e row ≡ gives (total multiplied (value_in (says_of start row)) (map (λ p. part_says p row) parts.items))
product_starts e start first parts row is starts =
    ap (λ (x : Expr). says_of x row) is ∙ says_product first parts row
    ∙ ap (λ (x : Expr). gives (total multiplied (value_in (says_of x row)) (map (λ p. part_says p row) parts.items)))
    (sym starts)
