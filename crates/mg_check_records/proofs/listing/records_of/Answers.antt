use Rattle.mg_base.specs.Image.{page_at}
use Rattle.mg_check_records.proofs.ListingLemmas.{listed_begin, listed_first, listed_more, listed_whole, none_left}
use Rattle.mg_check_records.proofs.listing.records_of.Goals as goal

pub loop-n-init : goal.loop-n-init
loop-n-init c = listed_begin (page_at c.args.size c.args.pages.now) c.args.data_pages.now
    c.new-records.result.items c.new-records.ensures.items

pub add_records-requires-clause-placed : goal.add_records-requires-clause-placed
add_records-requires-clause-placed c = listed_first (page_at c.args.size c.args.pages.now)
    c.args.data_pages.now c.loop-n.rest.now c.in-Some.later.now c.in-Some.n.now c.loop-n.records.items
    c.loop-n.invariant c.in-Some.ensures.cases.0

pub loop-n-preserved : goal.loop-n-preserved
loop-n-preserved c = listed_more (page_at c.args.size c.args.pages.now) c.args.data_pages.now
    c.loop-n.rest.now c.in-Some.later.now c.in-Some.n.now c.loop-n.records.items
    c.add_records.new.records.items c.loop-n.invariant c.in-Some.ensures.cases.0
    c.in_ok-add_records.ensures

pub returns-clause-records : goal.returns-clause-records
returns-clause-records c = (listed_whole (page_at c.args.size c.args.pages.now) c.args.data_pages.now
    c.loop-n.rest.now c.loop-n.records.items c.loop-n.invariant (none_left c.loop-n.rest.now c.in_default.ensures.cases)).0

pub returns-clause-placed : goal.returns-clause-placed
returns-clause-placed c = (listed_whole (page_at c.args.size c.args.pages.now) c.args.data_pages.now
    c.loop-n.rest.now c.loop-n.records.items c.loop-n.invariant (none_left c.loop-n.rest.now c.in_default.ensures.cases)).1
