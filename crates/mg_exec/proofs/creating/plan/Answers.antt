use Rattle.mg_statements.specs.Plain.{plain_of}
use Rattle.mg_exec.proofs.TableStartLemmas.{phase_refused}
use Rattle.mg_exec.proofs.creating.plan.Goals as goal

pub returns-in-Err : goal.returns-in-Err
returns-in-Err g c =
    phase_refused g.row.P.Denot (plain_of c.args.s.now) c.args.name.now c.args.size c.in-Err.fault c.from.result
    c.from.ensures c.in-Err.ensures
