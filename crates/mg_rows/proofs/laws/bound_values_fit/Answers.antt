use Rattle.mg_rows.specs.BoundLaws.{bound_insert, bound_update}
use Rattle.mg_rows.proofs.laws.bound_values_fit.Goals as goal

pub returns-clause-insert : goal.returns-clause-insert
returns-clause-insert c = bound_insert

pub returns-clause-update : goal.returns-clause-update
returns-clause-update c = bound_update
