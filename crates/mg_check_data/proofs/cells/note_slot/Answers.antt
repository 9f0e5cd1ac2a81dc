use Rattle.mg_check_data.proofs.CellLemmas.{cell_short, decided_bytes}
use Rattle.mg_check_data.proofs.cells.note_slot.Goals as goal

pub note_bytes-requires-clause-short : goal.note_bytes-requires-clause-short
note_bytes-requires-clause-short c = cell_short c.args.page.now c.args.slot c.in-Some.bytes.now
    c.requires c.in-Some.ensures

pub returns-in-Some-clause-decided : goal.returns-in-Some-clause-decided
returns-in-Some-clause-decided c = decided_bytes c.args.page.now c.args.n c.args.slot
    c.in-Some.bytes.now c.in-Some.ensures c.note_bytes.ensures.decided
