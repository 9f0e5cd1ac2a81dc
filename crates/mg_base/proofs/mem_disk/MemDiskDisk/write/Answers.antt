-- A page write that is obeyed adds one act.
use Rattle.std.proofs.Common.{◌≡◌, length, arith}
use Rattle.mg_base.proofs.MemDiskLemmas.{writes_obeys}
use Rattle.mg_base.proofs.mem_disk.MemDiskDisk.write.Goals as goal

pub returns-clause-writes : goal.returns-clause-writes
returns-clause-writes c =
    let whole : length c.args.bytes.now ≡ c.args.self.now.size = let w = c.requires.whole in cc in
    let o = c.obey.ensures.obeys in
    let counts = c.obey.ensures.counts in
    writes_obeys c.args.self.now c.obey.new.self c.args.page.0 c.args.bytes.now _ (record {
      acts = o.acts;
      writes = o.writes;
      used = o.used;
      size = o.size;
      room = o.room;
      entries = o.entries;
      faults = o.faults;
    }) whole (let a = counts.asked in let s = c.saturating_add-self.ensures in omega arith) counts.reads counts.were_read
