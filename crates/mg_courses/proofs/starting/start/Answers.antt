use Rattle.std.proofs.Common.{ap, refl}
use Rattle.mg_transcript.specs.Steps.{sets_savepoint, takes_back}
use Rattle.mg_courses.proofs.StartLemmas.{begins_at_once}
use Rattle.std.proofs.Common.{◌≡◌}
use Rattle.mg_statements.specs.Plain.{plain_of, Savepoint, RollbackTo}
use Rattle.mg_courses.proofs.starting.start.Goals as goal

pub returns-in-Savepoint-clause-starts : goal.returns-in-Savepoint-clause-starts
returns-in-Savepoint-clause-starts g c = λ o h stands active mode.
    let is : plain_of c.args.s ≡ Savepoint c.in-Savepoint.name = ap plain_of c.in-Savepoint.is in
    let done = c.begin.ensures.begins o h stands active in
    let begun = rw is at done in
    rw is (begins_at_once g.R.Records.meaning g.R.Statements.runs c.args.r.now c.args.r.now c.begin.new.r o h c.args.t
    c.args.read_only c.args.size (Savepoint c.in-Savepoint.name) c.begin.result refl active
    (sets_savepoint c.in-Savepoint.name) begun)

pub returns-in-RollbackTo-clause-starts : goal.returns-in-RollbackTo-clause-starts
returns-in-RollbackTo-clause-starts g c = λ o h stands active mode.
    let is : plain_of c.args.s ≡ RollbackTo c.in-RollbackTo.name = ap plain_of c.in-RollbackTo.is in
    let done = c.begin-in-RollbackTo.ensures.begins o h stands active in
    let begun = rw is at done in
    rw is (begins_at_once g.R.Records.meaning g.R.Statements.runs c.args.r.now c.args.r.now c.begin-in-RollbackTo.new.r o h c.args.t
    c.args.read_only c.args.size (RollbackTo c.in-RollbackTo.name) c.begin-in-RollbackTo.result refl active
    (takes_back c.in-RollbackTo.name) begun)
