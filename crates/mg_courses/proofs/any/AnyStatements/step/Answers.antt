use Rattle.std.proofs.Common.{None, Option, subst, sym, ap, ◌∙◌, ℕ}
use Rattle.mg_base.specs.declared.numbers.TxNo.{TxNo}
use Rattle.mg_model.specs.declared.refusal.Refusal.{Refusal}
use Rattle.mg_records.specs.Sessions.{SessionsStay}
use Rattle.mg_calls.specs.Frames.{Frames}
use Rattle.mg_exec.specs.Phases.{IsReady, StandsAt, refusal_of, rolled_back_at}
use Rattle.mg_courses.proofs.AnyLemmas.{ends_so, nearer_so, ready_so, refusals_told, step_done}
use Rattle.mg_courses.proofs.any.AnyStatements.step.Goals as goal

pub step-answer-requires : goal.step-answer-requires
step-answer-requires g c = record {
  ready = subst (λ (u : TxNo). IsReady g.R.Records.meaning c.args.self.now u.0 c.args.run.now.phase)
      (sym c.requires.ready.its) c.requires.ready.ready;
}

pub returns-clause-steps : goal.returns-clause-steps
returns-clause-steps g c = λ o h course stands active at.
    rw c.stepped.ensures (step_done g.R.Records.meaning c.args.self.now c.step-answer.new.r o h c.args._t course
    g.met.R.Records.seen stands active c.args.run.now c.step-answer.new.self c.step-answer.result c.requires.ready at
    (c.step-answer.ensures.goes o h stands))

pub returns-clause-ready : goal.returns-clause-ready
returns-clause-ready g c = rw c.stepped.ensures (ready_so g.R.Records.meaning c.step-answer.new.r c.args._t
    c.step-answer.new.self c.step-answer.new.self.phase c.step-answer.result (record {
      ready = subst (λ (u : TxNo). IsReady g.R.Records.meaning c.step-answer.new.r u.0 c.step-answer.new.self.phase)
          c.requires.ready.its c.step-answer.ensures.leaves.ready;
      its = c.step-answer.ensures.number ∙ c.requires.ready.its;
    }))

pub returns-clause-nearer : goal.returns-clause-nearer
returns-clause-nearer g c = rw c.stepped.ensures (nearer_so g.R.Records.meaning c.args.self.now
    c.step-answer.new.r c.args._t c.args.run.now c.step-answer.new.self c.step-answer.result c.requires.ready.its
    c.step-answer.ensures.nears)

pub returns-clause-frames : goal.returns-clause-frames
returns-clause-frames g c = rw c.stepped.ensures
    (subst (λ (refusal : Option Refusal). Frames g.R.Records.meaning c.args.self.now c.step-answer.new.r c.args._t.0
    refusal) (sym (refusals_told c.step-answer.new.self.phase c.step-answer.result))
    (subst (λ (u : TxNo). Frames g.R.Records.meaning c.args.self.now c.step-answer.new.r u.0
    (refusal_of c.step-answer.result)) c.requires.ready.its
    c.step-answer.ensures.leaves.frames))

pub returns-clause-crash : goal.returns-clause-crash
returns-clause-crash g c = λ o h course stands active at.
    (c.step-answer.ensures.crash o h stands
    (subst (λ (u : TxNo). StandsAt g.R.Records.meaning c.args.self.now o h u.0 c.args.run.now.phase)
    (sym c.requires.ready.its) at.stands)).crash

pub returns-clause-undamaged : goal.returns-clause-undamaged
returns-clause-undamaged g c = λ o h course stands active at.
    (c.step-answer.ensures.crash o h stands
    (subst (λ (u : TxNo). StandsAt g.R.Records.meaning c.args.self.now o h u.0 c.args.run.now.phase)
    (sym c.requires.ready.its) at.stands)).undamaged

pub returns-clause-holds : goal.returns-clause-holds
returns-clause-holds g c = c.step-answer.ensures.leaves.calm.holds

pub returns-clause-sessions : goal.returns-clause-sessions
returns-clause-sessions g c = rw c.stepped.ensures
    (subst (λ (ends : Option ℕ). SessionsStay g.R.Records.meaning c.args.self.now c.step-answer.new.r None ends)
    (ap (λ (u : TxNo). rolled_back_at u.0 c.step-answer.new.self.phase) c.requires.ready.its
    ∙ ends_so g.R.Records.meaning c.args.self.now c.step-answer.new.r c.args._t c.args.run.now
    c.step-answer.new.self c.step-answer.result c.requires.ready.its c.step-answer.ensures.nears)
    c.step-answer.ensures.leaves.calm.sessions)
