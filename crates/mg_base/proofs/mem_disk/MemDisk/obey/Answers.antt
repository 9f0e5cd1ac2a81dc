-- A page write adds one act; the pages are those of the written image.
use Rattle.std.proofs.Common.{◌<◌, length, arith, refl}
use Rattle.std.proofs.lemmas.List.{length-set, length-take}
use Rattle.mg_base.proofs.MemDiskLemmas.{kept_write, acts_after}
use Rattle.mg_base.proofs.mem_disk.MemDisk.obey.Goals as goal

pub invariant_of-self : goal.invariant_of-self
invariant_of-self c =
    let d = c.args.self.now in
    let entries : d.writes < length d.obeyed.items = let e = d.kept.entries in omega (arith, length-take d.writes d.obeyed.items) in
    record {
      flags = rw (c.put_page.ensures, length-set) d.flags;
      kept = rw (c.put_page.ensures, c.put_obeyed.ensures, c.max-self.ensures)
          (kept_write d.size d.pages.items d.used d.obeyed.items d.writes d.settled c.args.page c.args.bytes.now d.kept c.requires.room entries c.requires.whole);
    }

pub returns-clause-obeys : goal.returns-clause-obeys
returns-clause-obeys c =
    let d = c.args.self.now in
    let kept = d.kept.entries in
    let entries : d.writes < length d.obeyed.items = omega (arith, length-take d.writes d.obeyed.items) in
    record {
      acts = acts_after d.obeyed.items c.put_obeyed.new.obeyed.items d.writes d.settled c.args.page c.args.bytes.now c.put_obeyed.ensures entries;
      writes = rw (c.put_obeyed.ensures, length-take, length-set, length-take) (omega arith);
      used = c.max-self.ensures;
      size = refl;
      room = rw c.put_page.ensures (length-set _ _ _);
      entries = rw c.put_obeyed.ensures (length-set _ _ _);
      faults = refl;
    }
