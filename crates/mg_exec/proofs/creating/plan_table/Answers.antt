use Rattle.mg_statements.specs.Plain.{plain_of}
use Rattle.mg_exec.proofs.ShapeLemmas.{few_defined}
use Rattle.mg_exec.proofs.creating.plan_table.Goals as goal

pub shape_defined-requires-clause-few : goal.shape_defined-requires-clause-few
shape_defined-requires-clause-few c = few_defined (plain_of c.args.s.now) c.args.size c.in-Ok.ensures.0
