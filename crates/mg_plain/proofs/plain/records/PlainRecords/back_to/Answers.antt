use Rattle.std.proofs.Common.{refl}
use Rattle.mg_model.specs.declared.change.Point.TheVariants.{SavepointNamed}
use Rattle.mg_plain.specs.Kept.{kept}
use Rattle.mg_plain.specs.Obeying.{event_back}
use Rattle.mg_plain.proofs.CallLemmas.{done_leaves, goes_back, goes_nowhere, has_none, leaves_plain}
use Rattle.mg_plain.proofs.SessionLemmas.{done_sessions, grows_none, sessions_grown}
use Rattle.mg_plain.proofs.plain.records.PlainRecords.back_to.Goals as goal

pub returns-then-lacks_point-clause-goes : goal.returns-then-lacks_point-clause-goes
returns-then-lacks_point-clause-goes c =
    has_none c.args.self.now c.args.t c.args.name.now c.if-lacks_point.ensures

pub returns-then-lacks_point-clause-leaves : goal.returns-then-lacks_point-clause-leaves
returns-then-lacks_point-clause-leaves c =
    leaves_plain c.args.self.now c.args.self.now _ _ refl (λ u apart. refl)

pub returns-then-lacks_point-clause-sessions : goal.returns-then-lacks_point-clause-sessions
returns-then-lacks_point-clause-sessions c =
    sessions_grown c.args.self.now c.args.self.now _ (grows_none (kept c.args.self.now))

pub returns-in-Ok-clause-goes : goal.returns-in-Ok-clause-goes
returns-in-Ok-clause-goes c = goes_back c.args.self.now c.go_back.new.self c.args.t c.args.name.now
    c.if-lacks_point.ensures c.in-Ok.ensures.done

pub returns-in-Ok-clause-leaves : goal.returns-in-Ok-clause-leaves
returns-in-Ok-clause-leaves c = done_leaves c.args.self.now c.go_back.new.self
    (event_back c.args.t (SavepointNamed c.args.name.now)) _ _ c.in-Ok.ensures.done

pub returns-in-Ok-clause-sessions : goal.returns-in-Ok-clause-sessions
returns-in-Ok-clause-sessions c = done_sessions c.args.self.now c.go_back.new.self
    (event_back c.args.t (SavepointNamed c.args.name.now)) _ _ _ c.in-Ok.ensures.done

pub returns-in-Err-clause-goes : goal.returns-in-Err-clause-goes
returns-in-Err-clause-goes c = goes_nowhere c.args.self.now c.go_back.new.self c.args.t c.args.name.now
    c.in-Err.refusal c.in-Err.ensures.err c.in-Err.ensures.done

pub returns-in-Err-clause-leaves : goal.returns-in-Err-clause-leaves
returns-in-Err-clause-leaves c = done_leaves c.args.self.now c.go_back.new.self
    (event_back c.args.t (SavepointNamed c.args.name.now)) _ _ c.in-Err.ensures.done

pub returns-in-Err-clause-sessions : goal.returns-in-Err-clause-sessions
returns-in-Err-clause-sessions c = done_sessions c.args.self.now c.go_back.new.self
    (event_back c.args.t (SavepointNamed c.args.name.now)) _ _ _ c.in-Err.ensures.done
