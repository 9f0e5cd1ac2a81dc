use Rattle.mg_expr.specs.FilterLaws.{passes_where_true}
use Rattle.mg_expr.proofs.meaning.a_filter_passes_where_it_is_true.Goals as goal

pub returns-clause-passes : goal.returns-clause-passes
returns-clause-passes c = passes_where_true
