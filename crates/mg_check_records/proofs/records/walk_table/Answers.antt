use Rattle.std.proofs.Common.{◌*◌, length, refl}
use Rattle.mg_base.specs.Image.{page_at}
use Rattle.mg_check_records.specs.Marks.{most_slots}
use Rattle.mg_check_records.proofs.RecordLemmas.{page_among, pages_begin, pages_go_on}
use Rattle.mg_image.specs.Records.{cells_of}
use Rattle.mg_check_records.proofs.records.walk_table.Goals as goal

pub loop-n-init : goal.loop-n-init
loop-n-init c = pages_begin (cells_of (page_at c.args.size c.args.pages.now))
    (page_at c.args.size c.args.pages.now) c.args.table.now c.args.data_pages.now c.args.size
    (length c.args.data_pages.now * most_slots c.args.size) c.in_ok-marks.marks
    c.new-found.result.items c.in_ok-marks.ensures.clear c.new-found.ensures.items refl

pub walk_page-requires-clause-placed : goal.walk_page-requires-clause-placed
walk_page-requires-clause-placed c = page_among (cells_of (page_at c.args.size c.args.pages.now))
    (page_at c.args.size c.args.pages.now) c.args.table.now c.args.data_pages.now c.args.size
    c.loop-n.rest.now c.in-Some.later.now c.in-Some.n.now c.loop-n.at.marks
    c.loop-n.at.found.items c.loop-n.invariant c.in-Some.ensures.cases.0

pub loop-n-preserved : goal.loop-n-preserved
loop-n-preserved c = pages_go_on (cells_of (page_at c.args.size c.args.pages.now))
    (page_at c.args.size c.args.pages.now) c.args.table.now c.args.data_pages.now c.args.size
    c.loop-n.rest.now c.in-Some.later.now c.in-Some.n.now c.loop-n.at.marks
    c.walk_page.new.at.marks c.loop-n.at.found.items c.walk_page.new.at.found.items
    c.loop-n.invariant c.in-Some.ensures.cases.0 c.in_ok-walk_page.ensures.walked
    c.in_ok-walk_page.ensures.marks
