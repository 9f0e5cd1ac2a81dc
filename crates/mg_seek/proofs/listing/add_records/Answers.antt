use Rattle.mg_seek.proofs.TableLemmas.{slot_listed}
use Rattle.mg_seek.proofs.listing.add_records.Goals as goal

pub loop-slot-preserved : goal.loop-slot-preserved
loop-slot-preserved c = slot_listed c.args.b.now c.args.page.0 c.loop-slot.slot c.args.records.now.items
    c.loop-slot.records.items c.add_record.new.records.items c.loop-slot.invariant c.in_ok-add_record.ensures
