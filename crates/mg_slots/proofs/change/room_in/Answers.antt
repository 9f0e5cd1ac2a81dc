use Rattle.std.proofs.Common.{arith}
use Rattle.mg_slots.specs.DataPageLaws.{taken_by_fits, used_below}
use Rattle.mg_slots.proofs.change.room_in.Goals as goal

pub taken_at-requires-clause-below : goal.taken_at-requires-clause-below
taken_at-requires-clause-below c = used_below c.args.b.now c.args.slot cc

pub overflow_add-result : goal.overflow_add-result
overflow_add-result c = omega (arith, taken_by_fits c.args.b.now c.args.slot c.requires)

pub overflow_cast-result : goal.overflow_cast-result
overflow_cast-result c = omega (arith, taken_by_fits c.args.b.now c.args.slot c.requires)
