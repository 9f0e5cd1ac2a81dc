use Rattle.std.proofs.Common.{◌∷◌, Err, Option, None, Some, false, true, refl, subst, sym}
use Rattle.mg_model.specs.declared.answer.Answer.TheVariants as answers
use Rattle.mg_model.specs.declared.event.Event.TheVariants as events
use Rattle.mg_model.specs.declared.refusal.Refusal.{Refusal}
use Rattle.mg_model.specs.History.{entry}
use Rattle.mg_rows.specs.declared.statement_fault.StatementFault.TheVariants.{Engine}
use Rattle.mg_transcript.specs.Growing.{as_it_was, by_one}
use Rattle.mg_transcript.specs.Shorthand.{GivesUp, Settles, committed, commit_refused}
use Rattle.mg_courses.specs.CarryLaws.{carries_lasting}
use Rattle.mg_shorthand.specs.Going.{Spares}
use Rattle.mg_shorthand.proofs.GoingLemmas.{committed_so, spares_end, spares_then, went_on}
use Rattle.mg_shorthand.proofs.settling.commit.Goals as goal

pub returns-in-Ok-clause-goes : goal.returns-in-Ok-clause-goes
returns-in-Ok-clause-goes g c = λ o h stands active.
    let made = c.in-Ok.ensures.adds o h stands in
    committed_so g.R.Records.meaning g.met.R.Records.lasts c.args.r.now c.commit_end.new.self o h c.args.t
    (λ after. Settles o h c.args.t c.args.reply after c.args.reply) stands c.in-Ok.ensures.leaves.keeps
    c.in-Ok.ensures.undamaged c.in-Ok.ensures.crash made.1 (committed made.0)

pub returns-in-Ok-clause-spares : goal.returns-in-Ok-clause-spares
returns-in-Ok-clause-spares g c = λ before spares.
    let m = g.R.Records.meaning in
    subst (λ (told : Option Refusal). Spares m before c.commit_end.new.self c.args.t told true) (sym c.requires.fine)
    (spares_then m before c.args.r.now c.commit_end.new.self c.args.t None true spares
    (spares_end m c.args.r.now c.commit_end.new.self c.args.t None true c.in-Ok.ensures.leaves c.in-Ok.ensures.told
    c.in-Ok.ensures.sessions))

pub returns-in-Err-clause-goes : goal.returns-in-Err-clause-goes
returns-in-Err-clause-goes g c = λ o h stands active.
    let m = g.R.Records.meaning in
    let refusal = c.in-Err.refusal in
    let made = c.in-Err.ensures.adds o h stands in
    let tried = entry (events.Commit c.args.t) (answers.No refusal) in
    went_on m g.met.R.Records.lasts c.args.r.now c.commit_end.new.self c.give_up_for.new.r o h (tried ∷ h) c.args.t
    c.give_up_for.result.over
    (λ after. GivesUp o (tried ∷ h) c.args.t (Engine refusal) after c.give_up_for.result.reply)
    (λ after. Settles o h c.args.t c.args.reply after c.give_up_for.result.reply)
    (by_one tried refl as_it_was)
    (carries_lasting m g.met.R.Records.lasts c.args.r.now c.commit_end.new.self o h (events.Commit c.args.t)
    (Err refusal) stands c.in-Err.ensures.leaves.keeps c.in-Err.ensures.undamaged c.in-Err.ensures.crash)
    (λ after up. commit_refused refusal after c.give_up_for.result.reply made.0 up)
    (c.give_up_for.ensures.goes o (tried ∷ h) made.1 active)

pub returns-in-Err-clause-spares : goal.returns-in-Err-clause-spares
returns-in-Err-clause-spares g c = λ before spares.
    let m = g.R.Records.meaning in
    let refusal = c.in-Err.refusal in
    c.give_up_for.ensures.spares before
    (spares_then m before c.args.r.now c.commit_end.new.self c.args.t (Some refusal) false spares
    (spares_end m c.args.r.now c.commit_end.new.self c.args.t (Some refusal) false c.in-Err.ensures.leaves c.in-Err.ensures.told
    c.in-Err.ensures.sessions))
