use Rattle.std.proofs.Common.{List, subst, sym, ℕ, ◌∙◌, ap, Option}
use Rattle.mg_base.specs.Image.{page_at}
use Rattle.mg_check_data.specs.DataRung.{HasCells}
use Rattle.mg_check_records.proofs.PlaceLemmas.{data_there, page_within}
use Rattle.mg_check_records.proofs.RecordLemmas.{walked_slot}
use Rattle.mg_image.specs.Records.{cells_of, newest_of, slot_cell}
use Rattle.mg_slots.specs.DataPage.{IsDataPage, cell_of}
use Rattle.mg_check_records.proofs.records.walk_slot.Goals as goal

pub page_there-requires : goal.page_there-requires
page_there-requires c = page_within c.args.size c.args.pages.now c.args.table.now.pointer.0
    c.args.data_pages.now c.args.p.page.0 c.requires.tested c.requires.placed

pub newest_of-requires-clause-lawful : goal.newest_of-requires-clause-lawful
newest_of-requires-clause-lawful c = subst (λ (b : List ℕ). IsDataPage b)
    (sym (c.page_there.ensures c.args.size))
    (data_there c.args.size (page_at c.args.size c.args.pages.now) c.args.table.now.pointer.0
    c.args.data_pages.now c.requires.tested c.args.p.page.0 c.requires.placed).lawful

pub newest_of-requires-clause-cells : goal.newest_of-requires-clause-cells
newest_of-requires-clause-cells c = subst (λ (b : List ℕ). HasCells b)
    (sym (c.page_there.ensures c.args.size))
    (data_there c.args.size (page_at c.args.size c.args.pages.now) c.args.table.now.pointer.0
    c.args.data_pages.now c.requires.tested c.args.p.page.0 c.requires.placed).cells

pub returns-clause-walked : goal.returns-clause-walked
returns-clause-walked c = walked_slot (cells_of (page_at c.args.size c.args.pages.now))
    c.args.table.now c.args.data_pages.now c.args.size c.args.at.now.marks c.walk_record.new.marks
    c.args.at.now.found.items c.add_end.new.found.items c.args.p c.in_ok-newest.newest
    c.in_ok-walked.walked.entries.items c.in_ok-walked.walked.stopped c.add_end.result
    (c.in_ok-newest.ensures ∙ ap (λ (b : List ℕ). newest_of c.args.p (slot_cell (cell_of b c.args.p.slot)))
    (c.page_there.ensures c.args.size)) c.in_ok-walked.ensures.walk c.in_ok-walked.ensures.met
    c.add_end.ensures
