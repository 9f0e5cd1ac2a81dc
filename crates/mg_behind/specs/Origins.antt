-- What a start began with, as it shows before it has a name.
use Rattle.mg_base.specs.declared.disk.Disk as disk
use Rattle.mg_behind.specs.Mirror.{shown}
use Rattle.mg_behind.specs.Origin.{Origin}
use Rattle.mg_behind.specs.declared.opened.Opened.{Opened}

module _ {D : Type 0} {d : disk.Ghosts D} where
  abbrev pub origin_of : Opened D d → Origin D
  origin_of o = record { device = o.device; image = shown o.mirror; jobs = o.rings.jobs; receipts = o.rings.receipts; threaded = o.rings.threaded }
