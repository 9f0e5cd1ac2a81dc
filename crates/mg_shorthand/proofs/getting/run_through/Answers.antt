use Rattle.std.proofs.Common.{sym, ap, ◌∙◌, subst}
use Rattle.mg_courses.specs.declared.statements.Ending.{Ending}
use Rattle.mg_courses.specs.Running.{refusal_answered}
use Rattle.mg_transcript.specs.Courses.{Begun}
use Rattle.mg_transcript.specs.Shorthand.{IsGot, value_of_key}
use Rattle.mg_shorthand.specs.Going.{GoesAt, Spares}
use Rattle.mg_shorthand.proofs.GetLemmas.{read_so, spares_run}
use Rattle.mg_shorthand.proofs.getting.run_through.Goals as goal

pub returns-clause-goes : goal.returns-clause-goes
returns-clause-goes g c = λ o h key size at none stands active.
    let m = g.R.Records.meaning in
    let t = c.args.t in
    let stepped = c.run-stepped.result in
    let mid = c.run-stepped.new.r in
    let over = c.end_reading.result.over in
    let reply = c.end_reading.result.reply in
    read_so m g.R.Statements.runs g.met.R.Records.lasts c.args.r.now mid c.end_reading.new.r o h t
    c.run-stepped.new.work stepped key size over reply c.run-stepped.ensures.rests active none
    (c.run-stepped.ensures.runs o h (Begun (value_of_key key) 0) stands active at)
    (λ after is. subst (λ (e : Ending). GoesAt m mid c.end_reading.new.r o after t over
    (λ last. IsGot o after t e.reply last reply)) c.at_end.ensures
    (c.end_reading.ensures.goes o after (ap (λ (e : Ending). e.over) c.at_end.ensures ∙ is)))

pub returns-clause-spares : goal.returns-clause-spares
returns-clause-spares g c = λ before spares.
    let m = g.R.Records.meaning in
    let mid = c.run-stepped.new.r in
    c.end_reading.ensures.spares before
    (subst (λ (e : Ending). Spares m before mid c.args.t (refusal_answered e.reply) e.over) (sym c.at_end.ensures)
    (spares_run m before c.args.r.now mid c.args.t c.run-stepped.result spares c.run-stepped.ensures.frames
    c.run-stepped.ensures.sessions))
