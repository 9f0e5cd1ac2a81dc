-- The parts of a filter that is an AND.
use Rattle.std.proofs.Common.{◌≡◌, List, [], ◌∷◌, map, refl, ap, sym, ◌∙◌}
use Rattle.std.specs.declared.alloc.Global.{Global}
use Rattle.std.specs.declared.vec.Vec.{Vec}
use Rattle.mg_expr.specs.declared.expr.Expr.{Expr}
use Rattle.mg_expr.specs.declared.expr.Expr.TheVariants as variants
use Rattle.mg_expr.specs.Trees.{Tree, tree_of, trees_of}
use Rattle.mg_expr.specs.TreeLaws.{tree_of_and}
use Rattle.mg_paths.specs.Plans.{listed, parts_in}

listed_trees : (ts : List Tree) → listed (trees_of ts) ≡ ts
listed_trees [] = refl
listed_trees (t ∷ ts) = ap (λ (rest : List Tree). t ∷ rest) (listed_trees ts)

pub and_parts : (e : Expr) (parts : Vec Expr Global) (items : List Expr) → e ≡ variants.And parts → items ≡ parts.items
    → map tree_of items ≡ parts_in (tree_of e)
and_parts e parts items is same =
    ap (map tree_of) same ∙ sym (listed_trees (map tree_of parts.items))
    ∙ sym (ap parts_in (ap tree_of is ∙ tree_of_and parts))
