-- What an expression says, by what the expressions in it say.
use Rattle.std.proofs.Common.{◌≡◌, Bool, List, [], ◌∷◌, map, refl, ap, ◌∙◌}
use Rattle.std.specs.declared.alloc.Global.{Global}
use Rattle.std.specs.declared.boxed.Box.{Box}
use Rattle.std.specs.declared.vec.Vec.{Vec}
use Rattle.mg_value.specs.declared.value.Value.{Value}
use Rattle.mg_expr.specs.declared.expr.Expr.{Expr}
use Rattle.mg_expr.specs.declared.expr.Expr.TheVariants as variants
use Rattle.mg_expr.specs.declared.expr.Part.{Part}
use Rattle.mg_expr.specs.Trees.{Tree, tree_of, part_tree, trees_of, parts_of}
use Rattle.mg_expr.specs.TreeLaws.{tree_of_or, tree_of_and, tree_of_sum, tree_of_product}
use Rattle.mg_expr.specs.Meaning.{Says, holds, gives, any_of, all_of, total, added, multiplied, says, says_each, says_parts, says_of, part_says, value_of}

-- what each of several expressions says
pub each_says : (es : List Expr) (row : List Value)
    → says_each (trees_of (map tree_of es)) row ≡ map (λ e. says_of e row) es
each_says [] row = refl
each_says (e ∷ es) row = ap (λ (ss : List Says). says_of e row ∷ ss) (each_says es row)

-- what each of several further parts says
pub parts_say : (ps : List Part) (row : List Value)
    → says_parts (parts_of (map part_tree ps)) row ≡ map (λ p. part_says p row) ps
parts_say [] row = refl
parts_say (p ∷ ps) row = ap (λ (ss : List (Bool × Says)). part_says p row ∷ ss) (parts_say ps row)

pub says_or : (parts : Vec Expr Global) (row : List Value)
    → says_of (variants.Or parts) row ≡ holds (any_of (map (λ e. says_of e row) parts.items))
says_or parts row =
    ap (λ (t : Tree). says t row) (tree_of_or parts)
    ∙ ap (λ (ss : List Says). holds (any_of ss)) (each_says parts.items row)

pub says_and : (parts : Vec Expr Global) (row : List Value)
    → says_of (variants.And parts) row ≡ holds (all_of (map (λ e. says_of e row) parts.items))
says_and parts row =
    ap (λ (t : Tree). says t row) (tree_of_and parts)
    ∙ ap (λ (ss : List Says). holds (all_of ss)) (each_says parts.items row)

pub says_sum : (first : Box Expr Global) (parts : Vec Part Global) (row : List Value)
    → says_of (variants.Sum first parts) row
    ≡ gives (total added (value_of first.value row) (map (λ p. part_says p row) parts.items))
says_sum first parts row =
    ap (λ (t : Tree). says t row) (tree_of_sum first parts)
    ∙ ap (λ (ss : List (Bool × Says)). gives (total added (value_of first.value row) ss))
    (parts_say parts.items row)

pub says_product : (first : Box Expr Global) (parts : Vec Part Global) (row : List Value)
    → says_of (variants.Product first parts) row
    ≡ gives (total multiplied (value_of first.value row) (map (λ p. part_says p row) parts.items))
says_product first parts row =
    ap (λ (t : Tree). says t row) (tree_of_product first parts)
    ∙ ap (λ (ss : List (Bool × Says)). gives (total multiplied (value_of first.value row) ss))
    (parts_say parts.items row)
