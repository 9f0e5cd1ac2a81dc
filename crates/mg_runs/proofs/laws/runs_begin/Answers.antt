use Rattle.mg_runs.specs.BegunLaws.{runs_begin}
use Rattle.mg_runs.proofs.laws.runs_begin.Goals as goal

pub returns : goal.returns
returns g c = runs_begin g.D.Disk.meaning g.met.D.Disk.counts_now c.new_databases_begin.ensures
