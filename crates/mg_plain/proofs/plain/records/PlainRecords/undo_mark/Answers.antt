use Rattle.mg_model.specs.declared.change.Point.TheVariants.{LastMark}
use Rattle.mg_plain.specs.Obeying.{event_back}
use Rattle.mg_plain.proofs.CallLemmas.{undoes, done_leaves}
use Rattle.mg_plain.proofs.SessionLemmas.{done_sessions}
use Rattle.mg_plain.proofs.plain.records.PlainRecords.undo_mark.Goals as goal

pub returns-clause-undoes : goal.returns-clause-undoes
returns-clause-undoes c =
    undoes c.args.self.now c.go_back.new.self c.args.t c.go_back.result c.go_back.ensures.done c.go_back.ensures.err

pub returns-clause-leaves : goal.returns-clause-leaves
returns-clause-leaves c =
    done_leaves c.args.self.now c.go_back.new.self (event_back c.args.t LastMark) _ _ c.go_back.ensures.done

pub returns-clause-sessions : goal.returns-clause-sessions
returns-clause-sessions c =
    done_sessions c.args.self.now c.go_back.new.self (event_back c.args.t LastMark) _ _ _ c.go_back.ensures.done
