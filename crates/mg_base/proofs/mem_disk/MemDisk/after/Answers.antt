-- Each step makes one write of the record again.
use Rattle.std.proofs.Common.{◌≡◌, take, refl, arith, ap, true, ◌∙◌}
use Rattle.mg_base.specs.Acts.{acts_of, image_of}
use Rattle.mg_base.specs.MemDisk.{writes_of}
use Rattle.mg_base.proofs.MemDiskLemmas.{held_after}
use Rattle.mg_base.proofs.mem_disk.MemDisk.after.Goals as goal

pub loop-at-init : goal.loop-at-init
loop-at-init c = record {
  size = let s = c.in_ok-disk.ensures.size in cc;
  room = let r = c.in_ok-disk.ensures.room in let l = c.len.ensures in omega arith;
  entries = c.in_ok-disk.ensures.entries;
  unasked = c.in_ok-disk.ensures.unasked;
  writes = rw c.in_ok-disk.ensures.writes refl;
  image = rw c.in_ok-disk.ensures.acts refl;
}

pub returns-clause-held : goal.returns-clause-held
returns-clause-held c =
    let all : c.loop-at.at ≡ c.args.count = omega arith in
    held_after c.args.self.now.size c.loop-at.disk.size (writes_of c.loop-at.disk) c.loop-at.disk.settled _ c.loop-at.invariant.size
    (c.loop-at.invariant.image ∙ ap (λ k. image_of c.args.self.now.size (acts_of (take k (writes_of c.args.self.now)) true)) all)

pub returns-clause-unasked : goal.returns-clause-unasked
returns-clause-unasked c =
    let unasked = c.loop-at.invariant.unasked in
    record { asked = unasked.asked; reads = unasked.reads; was_read = unasked.was_read }
