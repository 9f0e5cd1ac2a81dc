use Rattle.std.proofs.Common.{arith}
use Rattle.mg_slots.specs.DataPageLaws.{first_cells_fit, taken_by_fits}
use Rattle.mg_slots.proofs.space.all_taken.Goals as goal

pub overflow_add-sum : goal.overflow_add-sum
overflow_add-sum c = omega (
  arith,
  c.loop-slot.invariant,
  first_cells_fit c.args.b.now c.loop-slot.slot c.requires
      (omega arith),
  taken_by_fits c.args.b.now c.loop-slot.slot c.requires,
)
