use Rattle.mg_core.proofs.BeginningLemmas.{entered_back, works_back}
use Rattle.mg_core.proofs.CoreLemmas.{next_none}
use Rattle.mg_core.proofs.parts.Core.enter.Goals as goal

pub begin-requires-clause-fresh : goal.begin-requires-clause-fresh
begin-requires-clause-fresh g c = next_none g.D.Disk.meaning c.args.self.now c.args.t.0 c.requires.core c.requires.number

pub returns-in-Err-clause-err : goal.returns-in-Err-clause-err
returns-in-Err-clause-err g c = entered_back c.args.self.now c.end.new.self c.enter.new.self
    (works_back c.args.self.now.works c.begin.new.self c.end.new.self c.args.t.0 c.args.session c.args.mode
    (next_none g.D.Disk.meaning c.args.self.now c.args.t.0 c.requires.core c.requires.number)
    c.in_ok-begin.ensures.ok c.end.ensures) c.in-Err.ensures.err
