use Rattle.mg_plain.proofs.CallLemmas.{found_adds, found_leaves}
use Rattle.std.proofs.Common.{None, Some}
use Rattle.mg_plain.proofs.SessionLemmas.{noted_sessions}
use Rattle.mg_plain.proofs.plain.records.PlainRecords.found.Goals as goal

pub returns-clause-adds : goal.returns-clause-adds
returns-clause-adds c =
    found_adds c.args.self.now c.note.new.self c.args.t c.args._name.now c.args._filter.now c.args._rows.now c.expect_active-active.result c.expect_active-active.ensures c.note.ensures

pub returns-clause-leaves : goal.returns-clause-leaves
returns-clause-leaves c =
    found_leaves c.args.self.now c.note.new.self c.args.t c.args._name.now c.args._filter.now c.expect_active-active.result c.expect_active-active.ensures c.note.ensures

pub returns-clause-sessions : goal.returns-clause-sessions
returns-clause-sessions c =
    noted_sessions c.args.self.now c.note.new.self (Some c.args.t.0) None None c.note.ensures
