use Rattle.std.proofs.Common.{Ok, refl, ◌∙◌}
use Rattle.mg_sortkey.specs.KeyBytes.{key_bytes}
use Rattle.mg_btree.specs.ReadingLaws.{reads_on}
use Rattle.mg_lookup.specs.AlongLaws.{records_given}
use Rattle.mg_lookup.proofs.entries.records_of_key.Goals as goal

pub returns-clause-reads : goal.returns-clause-reads
returns-clause-reads g c = reads_on g.D.Disk.meaning g.met.D.Disk.counts_now c.args.store.now c.walk_from.new.store
    c.named_along.new.store (Ok c.in_ok-walk.walk) c.in_ok-walk.walk c.named_along.result refl c.in_ok-walk.ensures.reads
    c.named_along.ensures.reads

pub returns-clause-gives : goal.returns-clause-gives
returns-clause-gives g c = records_given g.D.Disk.meaning c.args.store.now c.walk_from.new.store c.args.root.0
    c.deref.result.now c.deref-2.result.now (key_bytes c.args.key.now) c.in_ok-walk.walk c.named_along.result
    c.in_ok-walk.ensures.reads.keeps (c.deref.ensures.value ∙ c.in_ok-bytes.ensures)
    (c.deref-2.ensures.value ∙ c.in_ok-bytes.ensures) c.in_ok-walk.ensures.starts c.named_along.ensures.gives
