use Rattle.std.proofs.Common.{◌≡◌, arith, max, ◌+◌}
use Rattle.mg_slots.specs.DataPage.{slot_count}
use Rattle.mg_slots.proofs.RewriteLemmas.{put_ends, put_fits, put_slot_within}
use Rattle.mg_slots.proofs.change.put.Goals as goal

pub overflow_add-slot : goal.overflow_add-slot
overflow_add-slot c = omega (arith, put_slot_within c.args.b.now c.args.slot c.requires.slot)

pub rewrite-requires-clause-ends : goal.rewrite-requires-clause-ends
rewrite-requires-clause-ends c =
    let count : c.max-count.result ≡ max (slot_count c.args.b.now) (c.args.slot + 1) =
    omega arith in
    rw count (put_ends c.args.b.now c.args.slot c.args.cell.now c.requires.lawful)

pub rewrite-requires-clause-room : goal.rewrite-requires-clause-room
rewrite-requires-clause-room c =
    let count : c.max-count.result ≡ max (slot_count c.args.b.now) (c.args.slot + 1) =
    omega arith in
    rw count (put_fits c.args.b.now c.args.slot c.args.cell.now c.requires.lawful c.requires.slot
    c.requires.room)
