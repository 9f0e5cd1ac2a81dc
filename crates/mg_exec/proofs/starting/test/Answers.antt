use Rattle.mg_statements.specs.Plain.{plain_of}
use Rattle.std.proofs.Common.{Some, None}
use Rattle.mg_model.specs.declared.refusal.Refusal.TheVariants.{ReadOnly}
use Rattle.mg_calls.specs.FrameLaws.{frames_reads_nothing}
use Rattle.mg_calls.specs.QuietLaws.{quiet_nothing, quiet_reading}
use Rattle.mg_exec.proofs.FrameLemmas.{frames_none}
use Rattle.mg_exec.proofs.StartLemmas.{barred, untold, unbound, unbound_frames, started, ready_at_start}
use Rattle.mg_exec.proofs.starting.test.Goals as goal

pub returns-in-Err-clause-tests : goal.returns-in-Err-clause-tests
returns-in-Err-clause-tests g c = λ o h stands.
    untold g.R.Records.meaning c.args.r.now c.table.new.self o h c.args.t.0 c.args.read_only
    (plain_of c.args.s.now) c.args.name.now c.args.size c.is_barred.result c.in-Err.refusal
    c.is_barred.ensures c.if-is_barred.false c.in-Err.ensures.table c.in-Err.ensures.reads stands

pub returns-in-Ok-bind-clause-tests : goal.returns-in-Ok-bind-clause-tests
returns-in-Ok-bind-clause-tests g c = λ o h stands.
    started g.R.Records.meaning c.args.r.now c.table.new.self o h c.args.t.0 c.args.read_only
    (plain_of c.args.s.now) c.args.name.now c.args.size c.is_barred.result c.in-Ok.table
    c.in-Ok-bind.bound c.begin.result c.is_barred.ensures c.if-is_barred.false c.in-Ok.ensures.table
    c.in-Ok.ensures.given c.in-Ok.ensures.reads c.in-Ok-bind.ensures c.begin.ensures.begins
    c.begin.ensures.reads stands

pub returns-in-Ok-bind-clause-ready : goal.returns-in-Ok-bind-clause-ready
returns-in-Ok-bind-clause-ready g c =
    ready_at_start g.R.Records.meaning c.table.new.self c.args.t.0 (plain_of c.args.s.now)
    c.args.name.now c.args.size c.in-Ok.table c.in-Ok-bind.bound c.begin.result c.requires.rows
    c.in-Ok.ensures.given c.in-Ok-bind.ensures c.begin.ensures.begins

pub returns-in-Err-bind-clause-tests : goal.returns-in-Err-bind-clause-tests
returns-in-Err-bind-clause-tests g c = λ o h stands.
    unbound g.R.Records.meaning c.args.r.now c.table.new.self o h c.args.t.0 c.args.read_only
    (plain_of c.args.s.now) c.args.name.now c.args.size c.is_barred.result c.in-Ok.table
    c.in-Err-bind.fault c.from.result c.is_barred.ensures c.if-is_barred.false c.in-Ok.ensures.table
    c.in-Ok.ensures.reads c.in-Err-bind.ensures c.from.ensures stands

pub returns-then-is_barred-clause-tests : goal.returns-then-is_barred-clause-tests
returns-then-is_barred-clause-tests g c = λ o h stands.
    barred g.R.Records.meaning c.args.r.now o h c.args.t.0 c.args.read_only (plain_of c.args.s.now)
    c.args.name.now c.args.size c.is_barred.result c.is_barred.ensures c.if-is_barred.true stands

pub returns-in-Err-bind-clause-frames : goal.returns-in-Err-bind-clause-frames
returns-in-Err-bind-clause-frames g c =
    unbound_frames g.R.Records.meaning c.args.r.now c.table.new.self c.args.t.0 c.in-Err-bind.fault
    c.from.result c.from.ensures c.in-Ok.ensures.reads c.in-Ok.ensures.told

-- ---- quiet

pub returns-then-is_barred-clause-quiet : goal.returns-then-is_barred-clause-quiet
returns-then-is_barred-clause-quiet g c =
    quiet_nothing g.R.Records.meaning g.met.R.Records.crashes c.args.r.now

pub returns-in-Err-clause-quiet : goal.returns-in-Err-clause-quiet
returns-in-Err-clause-quiet g c =
    quiet_reading g.R.Records.meaning c.args.r.now c.table.new.self (Some c.in-Err.refusal) None
    c.in-Err.ensures.reads c.in-Err.ensures.undamaged c.in-Err.ensures.crash c.in-Err.ensures.sessions

pub returns-in-Ok-bind-clause-quiet : goal.returns-in-Ok-bind-clause-quiet
returns-in-Ok-bind-clause-quiet g c =
    quiet_reading g.R.Records.meaning c.args.r.now c.table.new.self None None
    c.in-Ok.ensures.reads c.in-Ok.ensures.undamaged c.in-Ok.ensures.crash c.in-Ok.ensures.sessions

pub returns-in-Err-bind-clause-quiet : goal.returns-in-Err-bind-clause-quiet
returns-in-Err-bind-clause-quiet g c =
    quiet_reading g.R.Records.meaning c.args.r.now c.table.new.self None None
    c.in-Ok.ensures.reads c.in-Ok.ensures.undamaged c.in-Ok.ensures.crash c.in-Ok.ensures.sessions

-- ---- ready, and framed

pub returns-then-is_barred-clause-ready : goal.returns-then-is_barred-clause-ready
returns-then-is_barred-clause-ready g c = tt

pub returns-in-Err-clause-ready : goal.returns-in-Err-clause-ready
returns-in-Err-clause-ready g c = tt

pub returns-in-Err-bind-clause-ready : goal.returns-in-Err-bind-clause-ready
returns-in-Err-bind-clause-ready g c = tt

pub returns-then-is_barred-clause-frames : goal.returns-then-is_barred-clause-frames
returns-then-is_barred-clause-frames g c =
    frames_none g.R.Records.meaning c.args.r.now c.args.t.0 (Some ReadOnly) tt

pub returns-in-Err-clause-frames : goal.returns-in-Err-clause-frames
returns-in-Err-clause-frames g c =
    frames_reads_nothing g.R.Records.meaning c.args.r.now c.table.new.self c.args.t.0 (Some c.in-Err.refusal)
    c.in-Err.ensures.reads c.in-Err.ensures.told

pub returns-in-Ok-bind-clause-frames : goal.returns-in-Ok-bind-clause-frames
returns-in-Ok-bind-clause-frames g c =
    frames_reads_nothing g.R.Records.meaning c.args.r.now c.table.new.self c.args.t.0 None
    c.in-Ok.ensures.reads c.in-Ok.ensures.told
