use Rattle.std.proofs.Common.{◌≡◌, refl}
use Rattle.mg_sql.proofs.TreeSteps.{tree_of_compare}
use Rattle.mg_sql.proofs.expr.compared.Goals as goal

pub returns : goal.returns
returns c = rw (tree_of_compare c.in_ok-first.first c.args.sign c.in_ok-new.field-0, c.in_ok-first.ensures.ok, c.in_ok-new.ensures.ok)
