use Rattle.std.proofs.Common.{List, subst, sym, ℕ, ◌∙◌, ap}
use Rattle.mg_base.specs.Image.{page_at}
use Rattle.mg_check_data.specs.DataRung.{HasCells}
use Rattle.mg_check_records.proofs.ListingLemmas.{newest_told}
use Rattle.mg_check_records.proofs.PlaceLemmas.{data_there, page_within}
use Rattle.mg_slots.specs.DataPage.{IsDataPage}
use Rattle.mg_check_records.proofs.listing.newest_at.Goals as goal

pub page_there-requires : goal.page_there-requires
page_there-requires c = page_within c.args.size c.args.pages.now c.args.owner c.args.data_pages.now
    c.args.p.page.0 c.requires.tested c.requires.placed

pub newest_of-requires-clause-lawful : goal.newest_of-requires-clause-lawful
newest_of-requires-clause-lawful c = subst (λ (b : List ℕ). IsDataPage b)
    (sym (c.page_there.ensures c.args.size))
    (data_there c.args.size (page_at c.args.size c.args.pages.now) c.args.owner
    c.args.data_pages.now c.requires.tested c.args.p.page.0 c.requires.placed).lawful

pub newest_of-requires-clause-cells : goal.newest_of-requires-clause-cells
newest_of-requires-clause-cells c = subst (λ (b : List ℕ). HasCells b)
    (sym (c.page_there.ensures c.args.size))
    (data_there c.args.size (page_at c.args.size c.args.pages.now) c.args.owner
    c.args.data_pages.now c.requires.tested c.args.p.page.0 c.requires.placed).cells

pub returns : goal.returns
returns c = newest_told (page_at c.args.size c.args.pages.now) c.page_there.result.now c.args.p
    c.newest_of.result (c.page_there.ensures c.args.size) c.newest_of.ensures
