use Rattle.std.proofs.Common.{◌∷◌, List, ℕ, None, Some, false, ap, ◌∙◌}
use Rattle.mg_model.specs.declared.answer.Answer.TheVariants as answers
use Rattle.mg_model.specs.History.{entry}
use Rattle.mg_records.specs.Writing.{event_of}
use Rattle.mg_rows.specs.declared.statement_fault.StatementFault.TheVariants.{Engine}
use Rattle.mg_script.specs.declared.reply.Reply.TheVariants as replies
use Rattle.mg_transcript.specs.Growing.{as_it_was, by_one}
use Rattle.mg_transcript.specs.Shorthand.{GivesUp, Puts, Settles, puts_not, puts_row}
use Rattle.mg_courses.specs.CarryLaws.{carries_event}
use Rattle.mg_shorthand.proofs.GoingLemmas.{spares_then, spares_write, went_on}
use Rattle.mg_shorthand.proofs.PutLemmas.{event_active, event_its, event_quiet}
use Rattle.mg_shorthand.proofs.putting.write_so.Goals as goal

pub returns-in-Ok-clause-goes : goal.returns-in-Ok-clause-goes
returns-in-Ok-clause-goes g c = λ o h key value numbers event stands active.
    let m = g.R.Records.meaning in
    let t = c.args.t in
    let name = c.args.table.now.name in
    let w = c.args.write.now in
    let made = c.in-Ok.ensures.adds o h stands in
    let did = entry (event_of t name w) answers.Fine in
    went_on m g.met.R.Records.lasts c.args.r.now c.write_step.new.self c.settle.new.r o h (did ∷ h) t c.settle.result.over
    (λ after. Settles o (did ∷ h) t (replies.Tx t) after c.settle.result.reply)
    (λ after. Puts o key value h t after c.settle.result.reply)
    (by_one did (event_its t name w) as_it_was)
    (carries_event m g.met.R.Records.lasts c.args.r.now c.write_step.new.self o h did None (event_quiet t name w) stands
    c.in-Ok.ensures.leaves.keeps c.in-Ok.ensures.undamaged c.in-Ok.ensures.crash)
    (λ after settles. puts_row (event_of t name w) after c.settle.result.reply numbers
    (ap (λ (n : List ℕ). event_of t n w) c.requires.named ∙ event) made.0 settles)
    (c.settle.ensures.goes o (did ∷ h) made.1 (event_active o h t name w active))

pub returns-in-Ok-clause-spares : goal.returns-in-Ok-clause-spares
returns-in-Ok-clause-spares g c = λ before spares.
    let m = g.R.Records.meaning in
    c.settle.ensures.spares before (spares_then m before c.args.r.now c.write_step.new.self c.args.t None false spares
    (spares_write m c.args.r.now c.write_step.new.self c.args.t None c.in-Ok.ensures.leaves c.in-Ok.ensures.told c.in-Ok.ensures.sessions))

pub returns-in-Err-clause-goes : goal.returns-in-Err-clause-goes
returns-in-Err-clause-goes g c = λ o h key value numbers event stands active.
    let m = g.R.Records.meaning in
    let t = c.args.t in
    let name = c.args.table.now.name in
    let w = c.args.write.now in
    let refusal = c.in-Err.refusal in
    let made = c.in-Err.ensures.adds o h stands in
    let did = entry (event_of t name w) (answers.No refusal) in
    went_on m g.met.R.Records.lasts c.args.r.now c.write_step.new.self c.give_up_for.new.r o h (did ∷ h) t
    c.give_up_for.result.over (λ after. GivesUp o (did ∷ h) t (Engine refusal) after c.give_up_for.result.reply)
    (λ after. Puts o key value h t after c.give_up_for.result.reply)
    (by_one did (event_its t name w) as_it_was)
    (carries_event m g.met.R.Records.lasts c.args.r.now c.write_step.new.self o h did (Some refusal)
    (event_quiet t name w) stands c.in-Err.ensures.leaves.keeps
    c.in-Err.ensures.undamaged c.in-Err.ensures.crash)
    (λ after up. puts_not (event_of t name w) refusal after c.give_up_for.result.reply numbers
    (ap (λ (n : List ℕ). event_of t n w) c.requires.named ∙ event) made.0 up)
    (c.give_up_for.ensures.goes o (did ∷ h) made.1 active)

pub returns-in-Err-clause-spares : goal.returns-in-Err-clause-spares
returns-in-Err-clause-spares g c = λ before spares.
    let m = g.R.Records.meaning in
    c.give_up_for.ensures.spares before (spares_then m before c.args.r.now c.write_step.new.self c.args.t
    (Some c.in-Err.refusal) false spares
    (spares_write m c.args.r.now c.write_step.new.self c.args.t (Some c.in-Err.refusal) c.in-Err.ensures.leaves c.in-Err.ensures.told
    c.in-Err.ensures.sessions))
