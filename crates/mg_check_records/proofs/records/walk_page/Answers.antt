use Rattle.std.proofs.Common.{List, subst, sym, ℕ}
use Rattle.mg_base.specs.Image.{page_at}
use Rattle.mg_check_records.proofs.PlaceLemmas.{data_there, page_within}
use Rattle.mg_check_records.proofs.RecordLemmas.{page_step}
use Rattle.mg_image.specs.Records.{cells_of}
use Rattle.mg_slots.specs.DataPage.{IsDataPage}
use Rattle.mg_check_records.proofs.records.walk_page.Goals as goal

pub page_there-requires : goal.page_there-requires
page_there-requires c = page_within c.args.size c.args.pages.now c.args.table.now.pointer.0
    c.args.data_pages.now c.args.n c.requires.tested c.requires.placed

pub slots-slot-end-requires : goal.slots-slot-end-requires
slots-slot-end-requires c = subst (λ (b : List ℕ). IsDataPage b)
    (sym (c.page_there.ensures c.args.size))
    (data_there c.args.size (page_at c.args.size c.args.pages.now) c.args.table.now.pointer.0
    c.args.data_pages.now c.requires.tested c.args.n c.requires.placed).lawful

pub loop-slot-preserved : goal.loop-slot-preserved
loop-slot-preserved c = page_step (cells_of (page_at c.args.size c.args.pages.now))
    c.args.table.now c.args.data_pages.now c.args.size c.args.n c.loop-slot.slot
    c.args.at.now.marks c.loop-slot.at.marks c.walk_slot.new.at.marks c.args.at.now.found.items
    c.loop-slot.at.found.items c.walk_slot.new.at.found.items c.loop-slot.invariant
    c.in_ok-walk_slot.ensures.walked c.in_ok-walk_slot.ensures.marks
