use Rattle.mg_fuse.specs.StoppedLaws.{asked_for_no_more}
use Rattle.mg_fuse.proofs.laws.stopped_disks_are_asked_for_no_more.Goals as goal

pub returns : goal.returns
returns g c = asked_for_no_more g.D.Disk.meaning g.D.CountsWrites.counts_to
