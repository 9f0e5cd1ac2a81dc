use Rattle.std.proofs.Common.{Option, subst, sym}
use Rattle.mg_model.specs.declared.refusal.Refusal.{Refusal}
use Rattle.mg_statements.specs.Plain.{plain_of}
use Rattle.mg_calls.specs.Frames.{Frames}
use Rattle.mg_courses.proofs.AnyLemmas.{going, refusals_tested, runs_here, tested}
use Rattle.mg_courses.proofs.any.AnyStatements.test.Goals as goal

pub test-run-requires-clause-runs : goal.test-run-requires-clause-runs
test-run-requires-clause-runs g c = runs_here (plain_of c.args.s) c.requires.steps c.requires.lengths

pub returns-clause-tests : goal.returns-clause-tests
returns-clause-tests g c = λ o h stands active.
    tested g.R.Records.meaning c.test-run.new.r o h c.args.t c.args.read_only c.args.size (plain_of c.args.s)
    c.test-run.result active (c.test-run.ensures.tests o h stands) (c.test-run.ensures.begins o h stands)

pub returns-clause-ready : goal.returns-clause-ready
returns-clause-ready g c = going g.R.Records.meaning c.test-run.new.r c.args.t c.test-run.result c.test-run.ensures.ready
    c.test-run.ensures.number

pub returns-clause-frames : goal.returns-clause-frames
returns-clause-frames g c =
    subst (λ (refusal : Option Refusal). Frames g.R.Records.meaning c.args.self.now c.test-run.new.r c.args.t.0 refusal)
    (sym (refusals_tested c.test-run.result)) c.test-run.ensures.frames
