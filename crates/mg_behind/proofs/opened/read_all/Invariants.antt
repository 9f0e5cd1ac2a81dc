use Rattle.std.proofs.Common.{◌≡◌, length, Some, take}
use Rattle.mg_base.specs.Image.{Image}
use Rattle.mg_behind.specs.Mirror.{shown}
use Rattle.mg_behind.proofs.opened.read_all.Given as goal

abbrev pub invariant-loop-page : goal.invariant-loop-page
invariant-loop-page g l = (g.D.Disk.meaning.size l.device ≡ Some l.size) × (g.D.Disk.meaning.count l.device ≡ Some l.pages) × (g.D.Disk.meaning.held l.device ≡ g.D.Disk.meaning.held l.initial.device) × (g.D.Disk.meaning.faults l.device ≡ g.D.Disk.meaning.faults l.initial.device) × (l.mirror.size ≡ l.size) × (l.mirror.used ≡ l.page) × (length l.buffer.items ≡ l.size) × ((image : Image) → g.D.Disk.meaning.held l.device ≡ Some image → shown l.mirror ≡ take l.page image) × (g.D.Disk.meaning.tells l.device ≡ g.D.Disk.meaning.tells l.initial.device) × (g.D.Disk.meaning.asked l.device ≡ g.D.Disk.meaning.asked l.initial.device)
