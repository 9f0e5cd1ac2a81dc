use Rattle.std.proofs.Common.{◌≡◌, IfOk, List, subst}
use Rattle.mg_expr.specs.Trees.{Tree}
use Rattle.mg_paths.specs.Plans.{plan_by}
use Rattle.mg_paths.proofs.PartLemmas.{and_parts}
use Rattle.mg_paths.proofs.planning.plan_filter.Goals as goal

pub returns-in-And : goal.returns-in-And
returns-in-And c =
    subst (λ (ts : List Tree). IfOk c.plan.result (λ path. path ≡ plan_by c.args.indexes.now ts))
    (and_parts c.args.filter.now _ _ c.in-And.is c.deref.ensures.value) c.plan.ensures
