use Rattle.mg_heap.proofs.ApartLemmas.{is_held, no_room_kept, no_room_on, no_room_with, put_else_ok, put_held}
use Rattle.mg_heap.proofs.apart.put_kept.Goals as goal

pub returns-then-not-is_kept-clause-put : goal.returns-then-not-is_kept-clause-put
returns-then-not-is_kept-clause-put c = put_else_ok c.args.b.now c.put_cell.new.b c.args.kept
    c.least_free-least.result c.args.cell.now c.is_kept.result c.put_cell.result
    c.least_free-least.ensures c.if-not-is_kept.true c.is_kept.ensures.1 c.put_cell.ensures.slot
    c.put_cell.ensures.put

pub returns-then-not-is_kept-clause-no_room : goal.returns-then-not-is_kept-clause-no_room
returns-then-not-is_kept-clause-no_room c = no_room_on c.args.b.now c.args.cell.now c.args.kept
    c.put_cell.result (λ fits. c.put_cell.ensures.when.1 fits) c.put_cell.ensures.no_room

pub returns-in_err-hold-clause-no_room : goal.returns-in_err-hold-clause-no_room
returns-in_err-hold-clause-no_room c = no_room_kept c.args.b.now c.args.cell.now c.args.kept
    c.least_free-least.result c.from_residual.result c.in_err-hold.field-0.0
    (c.is_kept.ensures.0 c.if-not-is_kept.false) c.in_err-hold.ensures.no_room
    c.in_err-hold.ensures.lack c.from_residual.ensures.1

pub returns-in_err-slot-clause-no_room : goal.returns-in_err-slot-clause-no_room
returns-in_err-slot-clause-no_room c = no_room_with c.args.b.now c.hold.new.b c.args.cell.now
    c.args.kept c.least_free-least.result c.from_residual-in_err-slot.result c.in_err-slot.field-0.0
    (c.is_kept.ensures.0 c.if-not-is_kept.false) c.in_ok-hold.ensures.held
    (λ fits. c.in_err-slot.ensures.when.1 fits) c.in_err-slot.ensures.no_room
    c.from_residual-in_err-slot.ensures.1

pub returns-clause-put : goal.returns-clause-put
returns-clause-put c = put_held c.args.b.now c.hold.new.b c.put_cell-2.new.b c.free.new.b
    c.in_ok-hold.ensures.held.anchor c.args.cell.now c.least_free-least.result c.in_ok-slot.slot
    c.least_free-least.ensures c.in_ok-hold.ensures.held.puts c.in_ok-slot.ensures.slot
    c.in_ok-slot.ensures.put c.args.kept (c.is_kept.ensures.0 c.if-not-is_kept.false)
    (c.free.ensures.used (is_held c.args.b.now c.hold.new.b c.put_cell-2.new.b c.free.new.b
    c.in_ok-hold.ensures.held.anchor c.args.cell.now c.least_free-least.result c.in_ok-slot.slot
    c.least_free-least.ensures c.in_ok-hold.ensures.held.puts c.in_ok-slot.ensures.slot
    c.in_ok-slot.ensures.put))
