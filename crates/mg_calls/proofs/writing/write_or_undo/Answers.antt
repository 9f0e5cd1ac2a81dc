use Rattle.std.proofs.Common.{Some, None}
use Rattle.mg_model.specs.declared.answer.Answer.TheVariants.{Fine, No}
use Rattle.mg_records.specs.Writing.{event_of}
use Rattle.mg_calls.specs.FrameLaws.{frames_writes}
use Rattle.mg_calls.specs.QuietLaws.{quiet_then}
use Rattle.mg_calls.specs.Writes.{ended_by}
use Rattle.mg_calls.proofs.WriteLemmas.{comes_to_nothing, ended_leaves, quiet_write, waiting_leaves, waits_lawfully, written_leaves}
use Rattle.mg_calls.proofs.writing.write_or_undo.Goals as goal

pub returns-in-Ok-clause-quiet : goal.returns-in-Ok-clause-quiet
returns-in-Ok-clause-quiet g c = quiet_write g.R.Records.meaning c.args.r.now c.write_step.new.self
    c.args.t c.args.table.now.name c.args.write.now Fine None c.in-Ok.ensures.adds c.in-Ok.ensures.leaves
    c.in-Ok.ensures.undamaged c.in-Ok.ensures.crash c.in-Ok.ensures.sessions

pub returns-in-Some-clause-quiet : goal.returns-in-Some-clause-quiet
returns-in-Some-clause-quiet g c = quiet_write g.R.Records.meaning c.args.r.now
    c.write_step.new.self c.args.t c.args.table.now.name c.args.write.now
    (No c.in-Err.refusal) (Some c.in-Err.refusal) c.in-Err.ensures.adds
    c.in-Err.ensures.leaves c.in-Err.ensures.undamaged c.in-Err.ensures.crash c.in-Err.ensures.sessions

pub returns-in-None-clause-writes : goal.returns-in-None-clause-writes
returns-in-None-clause-writes g c =
    comes_to_nothing g.R.Records.meaning c.args.r.now c.write_step.new.self c.undo.new.r c.args.t
    (event_of c.args.t c.args.table.now.name c.args.write.now) c.in-Err.refusal c.undo.result c.in-None.ensures
    c.in-Err.ensures.adds c.undo.ensures.undoes

pub returns-in-None-clause-leaves : goal.returns-in-None-clause-leaves
returns-in-None-clause-leaves g c =
    ended_leaves g.R.Records.meaning c.args.r.now c.undo.new.r c.args.t.0 c.undo.result c.undo.ensures.ends
    (c.undo.ensures.frames c.args.r.now
    (frames_writes g.R.Records.meaning c.args.r.now c.write_step.new.self c.args.t.0
    (Some c.in-Err.refusal) c.in-Err.ensures.leaves c.in-Err.ensures.told))

pub returns-in-None-clause-quiet : goal.returns-in-None-clause-quiet
returns-in-None-clause-quiet g c =
    quiet_then g.R.Records.meaning g.met.R.Records.lasts c.args.r.now c.write_step.new.self
    c.undo.new.r (ended_by c.args.t.0 c.undo.result)
    (quiet_write g.R.Records.meaning c.args.r.now c.write_step.new.self c.args.t
    c.args.table.now.name c.args.write.now (No c.in-Err.refusal) (Some c.in-Err.refusal)
    c.in-Err.ensures.adds c.in-Err.ensures.leaves
    c.in-Err.ensures.undamaged c.in-Err.ensures.crash c.in-Err.ensures.sessions)
    c.undo.ensures.quiet

-- ---- what was written, or waits

pub returns-in-Ok-clause-writes : goal.returns-in-Ok-clause-writes
returns-in-Ok-clause-writes g c = λ o h stands.
    let came = c.in-Ok.ensures.adds o h stands in record { lawful = came.0; stands = came.1 }

pub returns-in-Ok-clause-leaves : goal.returns-in-Ok-clause-leaves
returns-in-Ok-clause-leaves g c =
    written_leaves g.R.Records.meaning c.args.r.now c.write_step.new.self c.args.t.0
    c.in-Ok.ensures.leaves c.in-Ok.ensures.told

pub returns-in-Some-clause-writes : goal.returns-in-Some-clause-writes
returns-in-Some-clause-writes g c =
    waits_lawfully g.R.Records.meaning c.args.r.now c.write_step.new.self
    (event_of c.args.t c.args.table.now.name c.args.write.now) c.in-Err.refusal c.in-Some.on c.in-Some.ensures
    c.in-Err.ensures.adds

pub returns-in-Some-clause-leaves : goal.returns-in-Some-clause-leaves
returns-in-Some-clause-leaves g c =
    waiting_leaves g.R.Records.meaning c.args.r.now c.write_step.new.self c.args.t.0 c.in-Err.refusal
    c.in-Some.on c.in-Some.ensures c.in-Err.ensures.leaves c.in-Err.ensures.told
