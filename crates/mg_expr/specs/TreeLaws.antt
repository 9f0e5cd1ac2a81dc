-- The trees of expressions that hold lists.
use Rattle.std.proofs.Common.{◌≡◌, Bool, List, [], ◌∷◌, map, refl, ap, sym, ◌∙◌}
use Rattle.std.specs.declared.alloc.Global.{Global}
use Rattle.std.specs.declared.boxed.Box.{Box}
use Rattle.std.specs.declared.vec.Vec.{Vec}
use Rattle.mg_expr.specs.declared.expr.Expr.{Expr}
use Rattle.mg_expr.specs.declared.expr.Expr.TheVariants as variants
use Rattle.mg_expr.specs.declared.expr.Expr.TheOpen as layer
use Rattle.mg_expr.specs.declared.expr.Expr.TheFolds.{fold-Part, fold-roll-Expr, fold_out-Part}
use Rattle.mg_expr.specs.declared.expr.Part.{Part, outs-Part'}
use Rattle.mg_expr.specs.Trees.{Tree, Or, And, Sum, Product, tree_of, part_tree, trees_of, parts_of, tree_step, part_step}

-- a further part as the fold has it
abbrev folded_part : Part → Bool × Tree
folded_part p = fold-Part Tree (Bool × Tree) tree_step part_step p

parts_folded : (ps : List Part) → map folded_part ps ≡ map part_tree ps
parts_folded [] = refl
parts_folded (p ∷ ps) =
    let here : folded_part p ≡ part_tree p =
    fold_out-Part Tree (Bool × Tree) tree_step part_step p
    ∙ ap (λ q. (q.inverse, tree_of q.value)) (outs-Part' p) in
    ap (λ (q : Bool × Tree). q ∷ map folded_part ps) here
    ∙ ap (λ (qs : List (Bool × Tree)). part_tree p ∷ qs) (parts_folded ps)

pub tree_of_or : (parts : Vec Expr Global)
    → tree_of (variants.Or parts) ≡ Or (trees_of (map tree_of parts.items))
tree_of_or parts =
    ap tree_of (sym (variants.rolls-Or parts))
    ∙ fold-roll-Expr Tree (Bool × Tree) tree_step part_step (layer.Or parts)

pub tree_of_and : (parts : Vec Expr Global)
    → tree_of (variants.And parts) ≡ And (trees_of (map tree_of parts.items))
tree_of_and parts =
    ap tree_of (sym (variants.rolls-And parts))
    ∙ fold-roll-Expr Tree (Bool × Tree) tree_step part_step (layer.And parts)

pub tree_of_sum : (first : Box Expr Global) (parts : Vec Part Global)
    → tree_of (variants.Sum first parts)
    ≡ Sum (tree_of first.value) (parts_of (map part_tree parts.items))
tree_of_sum first parts =
    ap tree_of (sym (variants.rolls-Sum first parts))
    ∙ fold-roll-Expr Tree (Bool × Tree) tree_step part_step (layer.Sum first parts)
    ∙ ap (λ (ps : List (Bool × Tree)). Sum (tree_of first.value) (parts_of ps))
    (parts_folded parts.items)

pub tree_of_product : (first : Box Expr Global) (parts : Vec Part Global)
    → tree_of (variants.Product first parts)
    ≡ Product (tree_of first.value) (parts_of (map part_tree parts.items))
tree_of_product first parts =
    ap tree_of (sym (variants.rolls-Product first parts))
    ∙ fold-roll-Expr Tree (Bool × Tree) tree_step part_step (layer.Product first parts)
    ∙ ap (λ (ps : List (Bool × Tree)). Product (tree_of first.value) (parts_of ps))
    (parts_folded parts.items)
