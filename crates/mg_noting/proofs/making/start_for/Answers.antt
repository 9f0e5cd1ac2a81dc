use Rattle.mg_noting.proofs.MakingLemmas.{started_same}
use Rattle.mg_noting.proofs.making.start_for.Goals as goal

pub returns-in-Ok-clause-starts : goal.returns-in-Ok-clause-starts
returns-in-Ok-clause-starts c = started_same c.args.directories.now c.start.new.self c.args.first.0 c.args.rows
    c.in-Ok.started c.in-Ok.ensures.same c.in-Ok.ensures.marks c.in-Ok.ensures.started
