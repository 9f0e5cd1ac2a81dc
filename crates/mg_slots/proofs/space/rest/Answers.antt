use Rattle.std.proofs.Common.{arith}
use Rattle.mg_slots.specs.DataPageLaws.{cells_fit}
use Rattle.mg_slots.proofs.space.rest.Goals as goal

pub overflow_add-result-2 : goal.overflow_add-result-2
overflow_add-result-2 c = omega (arith, cells_fit c.args.b.now c.requires)

pub overflow_sub-result : goal.overflow_sub-result
overflow_sub-result c = omega (arith, cells_fit c.args.b.now c.requires)
