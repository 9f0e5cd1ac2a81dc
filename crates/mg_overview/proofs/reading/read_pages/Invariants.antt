use Rattle.mg_overview.specs.Reading.{HasReadBelow}
use Rattle.mg_overview.proofs.reading.read_pages.Given as goal

-- the pages below this one were read
abbrev pub invariant-loop-n : goal.invariant-loop-n
invariant-loop-n g l = HasReadBelow g.D.Disk.meaning l.fn.disk l.disk l.size l.count l.n l.pages.items
