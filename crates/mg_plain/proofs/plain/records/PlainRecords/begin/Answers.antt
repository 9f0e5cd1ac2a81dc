use Rattle.mg_plain.proofs.CallLemmas.{begin_adds, begin_leaves, short_adds, short_leaves}
use Rattle.mg_plain.proofs.SessionLemmas.{begin_sessions, begin_works, grows_same, sessions_grown}
use Rattle.mg_records.specs.Sessions.{begun_in}
use Rattle.mg_plain.specs.Obeying.{as_number}
use Rattle.mg_plain.proofs.plain.records.PlainRecords.begin.Goals as goal

pub returns-in-Ok-clause-adds : goal.returns-in-Ok-clause-adds
returns-in-Ok-clause-adds c =
    rw c.as_number.ensures (begin_adds c.args.self.now c.note_session.new.self c.obey-given.new.self c.args.session
    c.args.mode c.obey-given.result c.in-Ok.ensures.ok c.obey-given.ensures.obeys)

pub returns-in-Ok-clause-leaves : goal.returns-in-Ok-clause-leaves
returns-in-Ok-clause-leaves c =
    rw c.as_number.ensures (begin_leaves c.args.self.now c.note_session.new.self c.obey-given.new.self c.args.session
    c.args.mode c.obey-given.result c.in-Ok.ensures.ok c.obey-given.ensures.obeys)

pub returns-in-Ok-clause-sessions : goal.returns-in-Ok-clause-sessions
returns-in-Ok-clause-sessions c =
    rw c.as_number.ensures (begin_sessions c.args.self.now c.note_session.new.self c.obey-given.new.self c.args.session
    c.args.mode c.obey-given.result (begun_in c.args.session (as_number c.obey-given.result)) c.in-Ok.ensures.ok c.obey-given.ensures.obeys)

pub returns-in-Ok-clause-works : goal.returns-in-Ok-clause-works
returns-in-Ok-clause-works c =
    rw c.as_number.ensures (begin_works c.args.self.now c.note_session.new.self c.obey-given.new.self c.args.session
    c.args.mode c.obey-given.result c.in-Ok.ensures.ok c.obey-given.ensures.obeys)

pub returns-in-Err-clause-adds : goal.returns-in-Err-clause-adds
returns-in-Err-clause-adds c =
    short_adds c.args.self.now c.note_session.new.self c.args.session c.args.mode c.in-Err.ensures.err

pub returns-in-Err-clause-leaves : goal.returns-in-Err-clause-leaves
returns-in-Err-clause-leaves c =
    short_leaves c.args.self.now c.note_session.new.self c.args.session c.args.mode c.in-Err.ensures.err

pub returns-in-Err-clause-sessions : goal.returns-in-Err-clause-sessions
returns-in-Err-clause-sessions c =
    sessions_grown c.args.self.now c.note_session.new.self _ (grows_same c.in-Err.ensures.err)
