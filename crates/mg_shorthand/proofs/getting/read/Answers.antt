use Rattle.std.proofs.Common.{Bool, true, None, Ok, Err, refl, ap, ◌∙◌, subst, w64}
use Rattle.std.proofs.lemmas.Int.{to_z-of_z}
use Rattle.mg_statements.specs.Plain.{Plain}
use Rattle.mg_records.specs.Reading.{shape_seen}
use Rattle.mg_calls.specs.Quiet.{as_it_was}
use Rattle.mg_transcript.specs.Shorthand.{Gets, GivesUp, value_of_key}
use Rattle.mg_transcript.specs.Statements.{fault_of, table_of}
use Rattle.mg_courses.specs.CarryLaws.{carries_quietly}
use Rattle.mg_courses.specs.Running.{IsTested}
use Rattle.mg_shorthand.proofs.GetLemmas.{seen_or_outside, test_failed}
use Rattle.mg_shorthand.proofs.GoingLemmas.{went_behind}
use Rattle.mg_shorthand.proofs.getting.read.Goals as goal

pub test-requires-clause-steps : goal.test-requires-clause-steps
test-requires-clause-steps g c = rw c.requires.its refl

pub returns-in-Ok-clause-goes : goal.returns-in-Ok-clause-goes
returns-in-Ok-clause-goes g c = λ o h mode stands active.
    let m = g.R.Records.meaning in
    let runs = g.R.Statements.runs in
    let t = c.args.t in
    let key = c.args.key in
    let size = c.args.size in
    let mid = c.test.new.self in
    let tested : IsTested m runs mid o h t true size (value_of_key key) (Ok c.in-Ok.tested) =
    subst (λ (p : Plain). IsTested m runs mid o h t true size p (Ok c.in-Ok.tested)) c.requires.its
    (c.in-Ok.ensures.tests o h stands active) in
    let none = ap (λ (b : Bool). fault_of b (shape_seen o h t.0 (table_of (value_of_key key))) size (value_of_key key)) mode
    ∙ tested.1 in
    let goes = rw (to_z-of_z w64 key c.ranges.key) at c.read_on.ensures.goes in
    went_behind m g.met.R.Records.lasts c.args.r.now mid c.read_on.new.r o h t c.read_on.result.over
    (λ after. Gets o key size h t after c.read_on.result.reply)
    (λ after. Gets o key size h t after c.read_on.result.reply)
    (record {
      stands = tested.0;
      carries = carries_quietly m g.met.R.Records.lasts c.args.r.now mid None o h h c.in-Ok.ensures.quiet stands as_it_was;
    }) (λ after does. does)
    (goes o h size tested.2 none tested.0 active)

pub returns-in-Ok-clause-spares : goal.returns-in-Ok-clause-spares
returns-in-Ok-clause-spares g c =
    c.read_on.ensures.spares c.args.r.now
    (record { frames = c.in-Ok.ensures.frames; sessions = c.in-Ok.ensures.quiet.sessions })

pub returns-in-Err-clause-goes : goal.returns-in-Err-clause-goes
returns-in-Err-clause-goes g c = λ o h mode stands active.
    let m = g.R.Records.meaning in
    let runs = g.R.Statements.runs in
    let t = c.args.t in
    let key = c.args.key in
    let size = c.args.size in
    let mid = c.test.new.self in
    let tested : IsTested m runs mid o h t true size (value_of_key key) (Err c.in-Err.fault) =
    subst (λ (p : Plain). IsTested m runs mid o h t true size p (Err c.in-Err.fault)) c.requires.its
    (c.in-Err.ensures.tests o h stands active) in
    went_behind m g.met.R.Records.lasts c.args.r.now mid c.give_up.new.r o h t c.give_up.result.over
    (λ after. GivesUp o h t c.in-Err.fault after c.give_up.result.reply)
    (λ after. Gets o key size h t after c.give_up.result.reply)
    (record {
      stands = tested.0;
      carries = carries_quietly m g.met.R.Records.lasts c.args.r.now mid None o h h c.in-Err.ensures.quiet stands as_it_was;
    })
    (λ after up. test_failed o h t key size c.in-Err.fault after c.give_up.result.reply
    (seen_or_outside o h t key size c.in-Err.fault mode tested.2) up)
    (c.give_up.ensures.goes o h tested.0 active)

pub returns-in-Err-clause-spares : goal.returns-in-Err-clause-spares
returns-in-Err-clause-spares g c =
    c.give_up.ensures.spares c.args.r.now
    (record { frames = c.in-Err.ensures.frames; sessions = c.in-Err.ensures.quiet.sessions })
