use Rattle.mg_image.specs.Records.{cells_of, newest_of}
use Rattle.mg_reading.specs.ImageView.{pages_in}
use Rattle.mg_reading.specs.Readable.{HasVersionReading, HasRecord}
use Rattle.mg_reading.proofs.ReadingLemmas.{place_at, reading_record}
use Rattle.mg_reading.proofs.RefusalLemmas.{passed_on}
use Rattle.mg_reading.proofs.FoundLemmas.{read_more, read_none}
use Rattle.mg_reading.proofs.reading.read_page.Goals as goal

pub loop-slot-init : goal.loop-slot-init
loop-slot-init c = read_none c.args.coding c.args.image.now c.args.table.now c.args.data_pages.now
    c.args.n c.args.found.now.items

pub loop-slot-preserved : goal.loop-slot-preserved
loop-slot-preserved c = read_more c.args.coding c.args.image.now c.args.table.now
    c.args.data_pages.now c.args.n c.loop-slot.slot c.args.found.now.items c.loop-slot.found.items
    c.push.new.self.items c.in_ok-read_slot.field-0 c.loop-slot.invariant
    c.in_ok-read_slot.ensures.found c.in_ok-read_slot.ensures.at c.in_ok-push.ensures.items

pub returns-in_err-read_slot-clause-broken : goal.returns-in_err-read_slot-clause-broken
returns-in_err-read_slot-clause-broken c = passed_on
    (HasRecord c.args.coding c.args.image.now c.args.table.now c.args.data_pages.now
    (newest_of (place_at c.args.n c.loop-slot.slot)
    (cells_of (pages_in c.args.image.now) (place_at c.args.n c.loop-slot.slot))))
    (HasVersionReading c.args.coding c.args.image.now c.args.table.now c.args.data_pages.now)
    (reading_record c.args.coding c.args.image.now c.args.table.now c.args.data_pages.now
    (place_at c.args.n c.loop-slot.slot) c.requires.placed)
    c.from_residual.result c.in_err-read_slot.field-0.0 c.from_residual.ensures.1
    c.in_err-read_slot.ensures.broken
