use Rattle.std.proofs.Common.{Some, false, refl}
use Rattle.mg_model.specs.declared.refusal.Refusal.TheVariants.{Memory}
use Rattle.mg_rows.specs.declared.statement_fault.StatementFault.TheVariants.{Engine}
use Rattle.mg_transcript.specs.Shorthand.{Gets, GivesUp, tests_not}
use Rattle.mg_shorthand.proofs.GoingLemmas.{spares_none, spares_quiet, went_as}
use Rattle.mg_shorthand.proofs.getting.get.Goals as goal

pub returns-in-Err-clause-goes : goal.returns-in-Err-clause-goes
returns-in-Err-clause-goes g c = λ o h mode stands active.
    went_as g.R.Records.meaning c.args.r.now c.give_up_for.new.r o h c.args.t c.give_up_for.result.over
    (λ after. GivesUp o h c.args.t (Engine Memory) after c.give_up_for.result.reply)
    (λ after. Gets o c.args.key c.args.size h c.args.t after c.give_up_for.result.reply)
    (λ after up. tests_not Memory after c.give_up_for.result.reply refl up)
    (c.give_up_for.ensures.goes o h stands active)

pub returns-in-Err-clause-spares : goal.returns-in-Err-clause-spares
returns-in-Err-clause-spares g c =
    let m = g.R.Records.meaning in
    c.give_up_for.ensures.spares c.args.r.now
    (spares_quiet m c.args.r.now c.args.r.now c.args.t (Some Memory) false tt (spares_none m c.args.r.now c.args.t))
