use Rattle.mg_statements.specs.Plain.{plain_of}
use Rattle.mg_exec.proofs.TestLemmas.{test_begins}
use Rattle.mg_exec.proofs.run.Run.test.Goals as goal

pub returns-in-Ok-clause-begins : goal.returns-in-Ok-clause-begins
returns-in-Ok-clause-begins g c = λ o h stands.
    test_begins g.R.Records.meaning c.test_any.new.r o h c.args.t c.args.read_only
    (plain_of c.args.s.now) c.args.size c.in-Ok.phase (c.in-Ok.ensures.tests o h stands)
