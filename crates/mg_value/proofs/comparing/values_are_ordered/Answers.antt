use Rattle.mg_value.specs.OrderLaws.{value_cmp_total, same_from_value_cmp}
use Rattle.mg_value.proofs.comparing.values_are_ordered.Goals as goal

pub returns-clause-total : goal.returns-clause-total
returns-clause-total c = value_cmp_total

pub returns-clause-same : goal.returns-clause-same
returns-clause-same c = same_from_value_cmp
