use Rattle.std.proofs.Common.{ap, ◌∙◌, w64}
use Rattle.std.proofs.lemmas.Int.{to_z-of_z}
use Rattle.std.specs.Prelude.{codes}
use Rattle.mg_expr.specs.declared.expr.Expr.TheVariants as variants
use Rattle.mg_expr.specs.declared.expr.Sign.TheVariants.{Equal}
use Rattle.mg_shorthand.proofs.NameLemmas.{k_is_name}
use Rattle.mg_shorthand.proofs.TreeLemmas.{compared}
use Rattle.mg_shorthand.proofs.getting.with_key.Goals as goal

pub name-requires : goal.name-requires
name-requires c = k_is_name

pub returns : goal.returns
returns c = compared c.in_ok-column.column c.in_ok-constant.constant Equal (codes "K") c.args.key
    (c.in_ok-column.ensures.ok ∙ ap variants.Name c.name.ensures)
    (c.in_ok-constant.ensures.ok ∙ ap variants.Integer (to_z-of_z w64 c.args.key c.ranges.key))
