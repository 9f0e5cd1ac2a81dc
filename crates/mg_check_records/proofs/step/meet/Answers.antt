use Rattle.std.proofs.Common.{List, subst, sym, ℕ}
use Rattle.mg_base.specs.Image.{page_at}
use Rattle.mg_check_data.specs.DataRung.{HasCells}
use Rattle.mg_check_records.proofs.PlaceLemmas.{data_there, page_within}
use Rattle.mg_slots.specs.DataPage.{IsDataPage}
use Rattle.mg_check_records.proofs.step.meet.Goals as goal

pub page_there-requires : goal.page_there-requires
page_there-requires c = page_within c.args.size c.args.pages.now c.args.owner c.args.data_pages.now
    c.args.link.rec.page.0 c.requires.tested c.requires.placed

pub slot_cell-requires-clause-lawful : goal.slot_cell-requires-clause-lawful
slot_cell-requires-clause-lawful c = subst (λ (b : List ℕ). IsDataPage b)
    (sym (c.page_there.ensures c.args.size))
    (data_there c.args.size (page_at c.args.size c.args.pages.now) c.args.owner c.args.data_pages.now
    c.requires.tested c.args.link.rec.page.0 c.requires.placed).lawful

pub slot_cell-requires-clause-cells : goal.slot_cell-requires-clause-cells
slot_cell-requires-clause-cells c = subst (λ (b : List ℕ). HasCells b)
    (sym (c.page_there.ensures c.args.size))
    (data_there c.args.size (page_at c.args.size c.args.pages.now) c.args.owner c.args.data_pages.now
    c.requires.tested c.args.link.rec.page.0 c.requires.placed).cells
