use Rattle.std.proofs.Common.{◌≡◌, ◌+◌, length, take, true}
use Rattle.mg_base.specs.Acts.{image_of, acts_of}
use Rattle.mg_base.specs.Disk.{IsUnasked}
use Rattle.mg_base.specs.MemDisk.{mem_meaning, acts_in, writes_of, room_of, record_of}
use Rattle.mg_base.proofs.mem_disk.MemDisk.after.Given as goal

-- so many writes of the record have been made again
abbrev pub invariant-loop-at : goal.invariant-loop-at
invariant-loop-at l = record {
  size : l.disk.size ≡ l.self.size;
  room : room_of l.disk ≡ room_of l.self;
  entries : record_of l.disk ≡ l.count + l.writes;
  unasked : IsUnasked mem_meaning l.disk;
  writes : length (writes_of l.disk) ≡ l.at;
  image : image_of l.self.size (acts_in l.disk) ≡ image_of l.self.size (acts_of (take l.at (writes_of l.self)) true);
}
