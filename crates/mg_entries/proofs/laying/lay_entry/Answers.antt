use Rattle.mg_space.specs.BelowLaws.{below_kept}
use Rattle.mg_image.specs.Indexes.{index_entry}
use Rattle.mg_entries.specs.EntryLaws.{entry_changed}
use Rattle.mg_entries.proofs.laying.lay_entry.Goals as goal

pub returns-clause-lays : goal.returns-clause-lays
returns-clause-lays g c = entry_changed g.D.Disk.meaning c.args.store.now c.insert.new.store c.change_batch.new.store
    c.new-batch.result c.insert.new.batch c.args.index.now.root.0
    (index_entry c.args.index.now c.args.rec c.args.row.now) c.in_ok-entry.entry c.change_batch.result c.in_ok-entry.ensures
    c.new-batch.ensures.pages c.new-batch.ensures.orders c.in_ok-insert.ensures.reads.keeps
    c.in_ok-insert.ensures.reads.fault c.in_ok-insert.ensures.inserts c.change_batch.ensures.changes

pub change_batch-requires-clause-below : goal.change_batch-requires-clause-below
change_batch-requires-clause-below g c = below_kept c.args.store.now.geometry c.insert.new.store.geometry
    c.insert.new.batch.pages c.in_ok-insert.ensures.reads.keeps.geometry c.in_ok-insert.ensures.whole
