use Rattle.std.proofs.Common.{Some, None, true, false, refl, sym, ◌∙◌, ap}
use Rattle.mg_base.specs.declared.transaction.TxState.TheVariants.{Dead}
use Rattle.mg_model.specs.declared.answer.Answer.TheVariants as answers
use Rattle.mg_model.specs.declared.event.Event.TheVariants as events
use Rattle.mg_model.specs.Answers.{is_active}
use Rattle.mg_model.specs.Machine.{state_of}
use Rattle.mg_rows.specs.declared.statement_fault.StatementFault.TheVariants.{Engine}
use Rattle.mg_script.specs.declared.reply.Reply.TheVariants.{No}
use Rattle.mg_courses.specs.Running.{refusal_of}
use Rattle.mg_transcript.specs.Shorthand.{GivesUp, at_once, rolled_back, not_even}
use Rattle.mg_shorthand.proofs.GoingLemmas.{ended_over, spares_back, spares_not_back, went_by, went_nowhere}
use Rattle.mg_shorthand.proofs.giving_up.give_up.Goals as goal

pub returns-then-stops-clause-goes : goal.returns-then-stops-clause-goes
returns-then-stops-clause-goes g c = λ o h stands active.
    went_nowhere g.R.Records.meaning g.met.R.Records.crashes c.args.r.now o h c.args.t
    (λ after. GivesUp o h c.args.t c.args.fault after (No c.args.fault)) stands active
    (at_once (sym c.stops.ensures ∙ c.if-stops.true))

pub returns-in-Ok-clause-goes : goal.returns-in-Ok-clause-goes
returns-in-Ok-clause-goes g c = λ o h stands active.
    let made = c.in-Ok.ensures.adds o h stands in
    went_by g.R.Records.meaning g.met.R.Records.lasts c.args.r.now c.rollback.new.self o h c.args.t
    (events.Rollback c.args.t) answers.Fine true None
    (λ after. GivesUp o h c.args.t c.args.fault after (No c.args.fault)) refl refl stands c.in-Ok.ensures.leaves.keeps
    c.in-Ok.ensures.undamaged c.in-Ok.ensures.crash made.1 (ended_over c.args.t.0 (state_of o h c.args.t.0) Dead refl)
    (rolled_back (sym c.stops.ensures ∙ c.if-stops.false) made.0)

pub returns-in-Err-clause-goes : goal.returns-in-Err-clause-goes
returns-in-Err-clause-goes g c = λ o h stands active.
    let made = c.in-Err.ensures.adds o h stands in
    went_by g.R.Records.meaning g.met.R.Records.lasts c.args.r.now c.rollback.new.self o h c.args.t
    (events.Rollback c.args.t) (answers.No c.in-Err.later) false (Some c.in-Err.later)
    (λ after. GivesUp o h c.args.t c.args.fault after (No (Engine c.in-Err.later))) refl refl stands
    c.in-Err.ensures.leaves.keeps
    c.in-Err.ensures.undamaged c.in-Err.ensures.crash made.1 (ap is_active active)
    (not_even c.in-Err.later (sym c.stops.ensures ∙ c.if-stops.false) made.0)

pub returns-in-Ok-clause-spares : goal.returns-in-Ok-clause-spares
returns-in-Ok-clause-spares g c = λ before first.
    spares_back g.R.Records.meaning before c.args.r.now c.rollback.new.self c.args.t (refusal_of c.args.fault) first
    c.in-Ok.ensures.leaves c.in-Ok.ensures.told c.in-Ok.ensures.sessions

pub returns-in-Err-clause-spares : goal.returns-in-Err-clause-spares
returns-in-Err-clause-spares g c = λ before first.
    spares_not_back g.R.Records.meaning before c.args.r.now c.rollback.new.self c.args.t c.args.fault c.in-Err.later
    (sym c.stops.ensures ∙ c.if-stops.false) first c.in-Err.ensures.leaves c.in-Err.ensures.told c.in-Err.ensures.sessions
