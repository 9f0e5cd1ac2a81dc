use Rattle.std.proofs.Common.{List, subst, sym, ℕ}
use Rattle.mg_base.specs.Image.{page_at}
use Rattle.mg_check_records.proofs.ListingLemmas.{records_more}
use Rattle.mg_check_records.proofs.PlaceLemmas.{data_there, page_within}
use Rattle.mg_image.specs.Records.{cells_of}
use Rattle.mg_slots.specs.DataPage.{IsDataPage}
use Rattle.mg_check_records.proofs.listing.add_records.Goals as goal

pub page_there-requires : goal.page_there-requires
page_there-requires c = page_within c.args.size c.args.pages.now c.args.owner c.args.data_pages.now
    c.args.n c.requires.tested c.requires.placed

pub slots-slot-end-requires : goal.slots-slot-end-requires
slots-slot-end-requires c = subst (λ (b : List ℕ). IsDataPage b)
    (sym (c.page_there.ensures c.args.size))
    (data_there c.args.size (page_at c.args.size c.args.pages.now) c.args.owner
    c.args.data_pages.now c.requires.tested c.args.n c.requires.placed).lawful

pub loop-slot-preserved : goal.loop-slot-preserved
loop-slot-preserved c = records_more (cells_of (page_at c.args.size c.args.pages.now)) c.args.n
    c.loop-slot.slot c.args.records.now.items c.loop-slot.records.items c.add_record.new.records.items
    c.in_ok-newest.newest c.loop-slot.invariant c.in_ok-newest.ensures c.in_ok-add_record.ensures
