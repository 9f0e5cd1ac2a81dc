use Rattle.std.proofs.Common.{ap, sym, arith, ◌∙◌}
use Rattle.std.specs.Prelude.{vec_len}
use Rattle.std.proofs.lemmas.Result.{IfOk-from_err}
use Rattle.mg_expr.specs.Trees.{Sum, tree_of}
use Rattle.mg_expr.specs.TreeLaws.{tree_of_sum}
use Rattle.mg_sql.proofs.PartTrees.{first_alone, first_joined}
use Rattle.mg_sql.proofs.expr.summed.Goals as goal

pub returns-then-is_empty : goal.returns-then-is_empty
returns-then-is_empty c =
    first_alone Sum (tree_of c.args.first) c.args.parts.items (vec_len c.args.parts) (omega arith)
    (sym c.is_empty.ensures ∙ c.if-is_empty.true)

pub returns-in_err-new : goal.returns-in_err-new
returns-in_err-new c = IfOk-from_err c.from_residual.result _ c.from_residual.ensures.0

pub returns : goal.returns
returns c =
    first_joined Sum (tree_of c.args.first) (tree_of c.in_ok-new.field-0.value) _ c.args.parts.items (vec_len c.args.parts) (omega arith)
    (sym c.is_empty.ensures ∙ c.if-is_empty.false) (tree_of_sum c.in_ok-new.field-0 c.args.parts)
    (ap tree_of c.in_ok-new.ensures.ok)
