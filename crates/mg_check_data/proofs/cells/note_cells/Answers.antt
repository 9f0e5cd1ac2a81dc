use Rattle.std.proofs.Common.{arith, inl, refl}
use Rattle.mg_check_data.proofs.CellLemmas.{adds_all, adds_slot, decided_all, decided_slot, one_slot}
use Rattle.mg_check_data.proofs.cells.note_cells.Goals as goal

pub loop-slot-preserved : goal.loop-slot-preserved
loop-slot-preserved c = (
  adds_slot c.args.page.now c.args.n c.loop-slot.slot c.args.findings.now.items
      c.loop-slot.findings.items c.note_slot.new.findings.items c.loop-slot.invariant.0
      c.in_ok-note_slot.ensures.adds,
  decided_slot c.args.page.now c.args.n c.loop-slot.slot c.loop-slot.invariant.1
      c.note_slot.ensures.decided,
)

pub returns-in_err-note_slot-clause-decided : goal.returns-in_err-note_slot-clause-decided
returns-in_err-note_slot-clause-decided c = inl (one_slot c.args.page.now c.args.n
    c.loop-slot.slot (c.in_err-note_slot.ensures.cause refl))

pub returns-clause-adds : goal.returns-clause-adds
returns-clause-adds c = adds_all c.args.page.now c.args.n c.loop-slot.slot
    c.args.findings.now.items c.loop-slot.findings.items
    (omega (arith, c.loop-slot-test.false, c.slots-slot-end.ensures)) c.loop-slot.invariant.0

pub returns-clause-decided : goal.returns-clause-decided
returns-clause-decided c = decided_all c.args.page.now c.args.n c.loop-slot.slot
    (omega (arith, c.loop-slot-test.false, c.slots-slot-end.ensures)) c.loop-slot.invariant.1
