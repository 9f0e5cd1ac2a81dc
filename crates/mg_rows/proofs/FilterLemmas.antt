-- A filter that is an AND.
use Rattle.std.proofs.Common.{◌≡◌, List, map, ap, sym, ◌∙◌}
use Rattle.std.specs.declared.alloc.Global.{Global}
use Rattle.std.specs.declared.vec.Vec.{Vec}
use Rattle.mg_expr.specs.declared.expr.Expr.{Expr}
use Rattle.mg_expr.specs.declared.expr.Expr.TheVariants as variants
use Rattle.mg_expr.specs.Trees.{Tree}
use Rattle.mg_expr.specs.TreeLaws.{tree_of_and}
use Rattle.mg_expr.specs.Meaning.{Says, says_of}
use Rattle.mg_expr.specs.MeaningLaws.{each_says}
use Rattle.mg_expr.specs.Filters.{passes, passes_all, passes_of}
use Rattle.mg_model.specs.Changes.{Cells}

-- its parts are tested one by one
pub passes_and : (e : Expr) (parts : Vec Expr Global) (items : List Expr) (row : Cells)
    → e ≡ variants.And parts → items ≡ parts.items
    → passes_all (map (λ e. says_of e row) items) ≡ passes_of e row
passes_and e parts items row is same =
    ap (λ (es : List Expr). passes_all (map (λ e. says_of e row) es)) same
    ∙ sym (ap (λ (ss : List Says). passes_all ss) (each_says parts.items row))
    ∙ sym (ap (λ (t : Tree). passes t row) (tree_of_and parts))
    ∙ sym (ap (λ (e : Expr). passes_of e row) is)
