use Rattle.std.proofs.Common.{◌≡◌, None, true, arith, sym, ap}
use Rattle.std.specs.Prelude.{is_some}
use Rattle.mg_slots.specs.DataPage.{cell_of, slot_count}
use Rattle.mg_slots.specs.DataPageLaws.{cell_free, cell_used}
use Rattle.mg_slots.specs.RoomLaws.{first_without_found, first_without_more}
use Rattle.mg_slots.proofs.space.least_free.Goals as goal

pub returns-then-offset-eq0 : goal.returns-then-offset-eq0
returns-then-offset-eq0 c =
    let free : cell_of c.args.b.now c.loop-slot.slot ≡ None =
    cell_free c.args.b.now c.loop-slot.slot (omega arith) in
    sym (first_without_found (cell_of c.args.b.now) c.loop-slot.slot (slot_count c.args.b.now)
    (omega arith) c.loop-slot.invariant free)

pub loop-slot-preserved : goal.loop-slot-preserved
loop-slot-preserved c =
    let used : is_some (cell_of c.args.b.now c.loop-slot.slot) ≡ true =
    ap is_some (cell_used c.args.b.now c.loop-slot.slot (omega arith) (omega arith)) in
    first_without_more (cell_of c.args.b.now) c.loop-slot.slot c.loop-slot.invariant used
