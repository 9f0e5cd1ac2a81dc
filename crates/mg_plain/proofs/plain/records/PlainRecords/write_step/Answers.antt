use Rattle.std.proofs.Common.{refl}
use Rattle.mg_model.specs.declared.event.Event.TheVariants.{Insert, Change, Erase}
use Rattle.mg_plain.proofs.CallLemmas.{write_leaves}
use Rattle.mg_plain.proofs.SessionLemmas.{done_sessions}
use Rattle.mg_plain.proofs.plain.records.PlainRecords.write_step.Goals as goal

pub returns-in-Insert-clause-leaves : goal.returns-in-Insert-clause-leaves
returns-in-Insert-clause-leaves c =
    write_leaves c.args.self.now c.insert_row.new.self (Insert c.args.t c.args.table.now.name c.in-Insert.row) c.insert_row.result c.args.t.0 c.args.table.now refl c.requires.table c.insert_row.ensures

pub returns-in-Change-clause-leaves : goal.returns-in-Change-clause-leaves
returns-in-Change-clause-leaves c =
    write_leaves c.args.self.now c.change_row.new.self (Change c.args.t c.args.table.now.name c.in-Change.key c.in-Change.row) c.change_row.result c.args.t.0 c.args.table.now refl c.requires.table c.change_row.ensures

pub returns-in-Erase-clause-leaves : goal.returns-in-Erase-clause-leaves
returns-in-Erase-clause-leaves c =
    write_leaves c.args.self.now c.erase_row.new.self (Erase c.args.t c.args.table.now.name c.in-Erase.key) c.erase_row.result c.args.t.0 c.args.table.now refl c.requires.table c.erase_row.ensures

pub returns-in-Insert-clause-sessions : goal.returns-in-Insert-clause-sessions
returns-in-Insert-clause-sessions c =
    done_sessions c.args.self.now c.insert_row.new.self _ c.insert_row.result _ _ c.insert_row.ensures

pub returns-in-Change-clause-sessions : goal.returns-in-Change-clause-sessions
returns-in-Change-clause-sessions c =
    done_sessions c.args.self.now c.change_row.new.self _ c.change_row.result _ _ c.change_row.ensures

pub returns-in-Erase-clause-sessions : goal.returns-in-Erase-clause-sessions
returns-in-Erase-clause-sessions c =
    done_sessions c.args.self.now c.erase_row.new.self _ c.erase_row.result _ _ c.erase_row.ensures
