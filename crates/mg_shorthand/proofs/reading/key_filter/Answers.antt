use Rattle.std.proofs.Common.{ap, ◌∙◌, w64}
use Rattle.std.proofs.lemmas.Int.{to_z-of_z}
use Rattle.mg_expr.specs.declared.expr.Expr.TheVariants as variants
use Rattle.mg_expr.specs.declared.expr.Sign.TheVariants.{Equal}
use Rattle.mg_shorthand.proofs.TreeLemmas.{place_compared}
use Rattle.mg_shorthand.proofs.reading.key_filter.Goals as goal

pub returns : goal.returns
returns c = place_compared c.in_ok-column.column c.in_ok-constant.constant Equal 0 c.args.key c.in_ok-column.ensures.ok
    (c.in_ok-constant.ensures.ok ∙ ap variants.Integer (to_z-of_z w64 c.args.key c.ranges.key))
