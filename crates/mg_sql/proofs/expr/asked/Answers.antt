use Rattle.std.proofs.Common.{◌≡◌, refl}
use Rattle.mg_sql.proofs.TreeSteps.{tree_of_is_null, tree_of_is_not_null}
use Rattle.mg_sql.proofs.expr.asked.Goals as goal

pub returns-then-not : goal.returns-then-not
returns-then-not c = rw (tree_of_is_not_null c.in_ok-first.first, c.in_ok-first.ensures.ok, c.if-not.true)

pub returns : goal.returns
returns c = rw (tree_of_is_null c.in_ok-first.first, c.in_ok-first.ensures.ok, c.if-not.false)
