use Rattle.std.proofs.Common.{None, refl, ap, subst}
use Rattle.mg_statements.specs.Plain.{Plain, plain_of}
use Rattle.mg_calls.specs.QuietLaws.{quiet_nothing}
use Rattle.mg_exec.specs.NewTables.{TestsTable}
use Rattle.mg_exec.proofs.ArmLemmas.{tests_at, tests_by}
use Rattle.mg_exec.proofs.FrameLemmas.{frames_none}
use Rattle.mg_exec.proofs.run.test_any.Goals as goal

pub returns-in-Savepoint-clause-quiet : goal.returns-in-Savepoint-clause-quiet
returns-in-Savepoint-clause-quiet g c =
    quiet_nothing g.R.Records.meaning g.met.R.Records.crashes c.args.r.now

pub returns-in-RollbackTo-clause-quiet : goal.returns-in-RollbackTo-clause-quiet
returns-in-RollbackTo-clause-quiet g c =
    quiet_nothing g.R.Records.meaning g.met.R.Records.crashes c.args.r.now

pub returns-in-Savepoint-clause-tests : goal.returns-in-Savepoint-clause-tests
returns-in-Savepoint-clause-tests g c = λ o h stands.
    tests_at g.R.Records.meaning c.args.r.now o h c.args.t c.args.read_only (plain_of c.args.s.now) _
    c.args.size _ (ap plain_of c.in-Savepoint.is) (refl, stands)

pub returns-in-Savepoint-clause-frames : goal.returns-in-Savepoint-clause-frames
returns-in-Savepoint-clause-frames g c = frames_none g.R.Records.meaning c.args.r.now c.args.t.0 None tt

pub returns-in-RollbackTo-clause-tests : goal.returns-in-RollbackTo-clause-tests
returns-in-RollbackTo-clause-tests g c = λ o h stands.
    tests_at g.R.Records.meaning c.args.r.now o h c.args.t c.args.read_only (plain_of c.args.s.now) _
    c.args.size _ (ap plain_of c.in-RollbackTo.is) (refl, stands)

pub returns-in-RollbackTo-clause-frames : goal.returns-in-RollbackTo-clause-frames
returns-in-RollbackTo-clause-frames g c = frames_none g.R.Records.meaning c.args.r.now c.args.t.0 None tt

pub returns-in-Table-clause-tests : goal.returns-in-Table-clause-tests
returns-in-Table-clause-tests g c = λ o h stands.
    tests_at g.R.Records.meaning c.test_table.new.r o h c.args.t c.args.read_only (plain_of c.args.s.now) _
    c.args.size c.test_table.result (ap plain_of c.in-Table.is)
    (subst (λ (p : Plain). TestsTable g.R.Records.meaning c.test_table.new.r o h c.args.t c.args.read_only p
    c.in-Table.name c.args.size c.test_table.result) (ap plain_of c.in-Table.is) (c.test_table.ensures.tests o h
    stands))

pub returns-in-Table-clause-ready : goal.returns-in-Table-clause-ready
returns-in-Table-clause-ready g c = c.test_table.ensures.ready

pub returns-in-Table-clause-frames : goal.returns-in-Table-clause-frames
returns-in-Table-clause-frames g c = c.test_table.ensures.frames

pub returns-in-Table-clause-quiet : goal.returns-in-Table-clause-quiet
returns-in-Table-clause-quiet g c = c.test_table.ensures.quiet

pub returns-in-Insert-clause-tests : goal.returns-in-Insert-clause-tests
returns-in-Insert-clause-tests g c = λ o h stands.
    tests_by g.R.Records.meaning c.test.new.r o h c.args.t c.args.read_only
    (plain_of c.args.s.now) _ c.in-Insert.table c.args.size c.test.result (ap plain_of c.in-Insert.is)
    (λ x. x) (c.test.ensures.tests o h stands)

pub returns-in-Insert-clause-ready : goal.returns-in-Insert-clause-ready
returns-in-Insert-clause-ready g c = c.test.ensures.ready

pub returns-in-Insert-clause-frames : goal.returns-in-Insert-clause-frames
returns-in-Insert-clause-frames g c = c.test.ensures.frames

pub returns-in-Insert-clause-quiet : goal.returns-in-Insert-clause-quiet
returns-in-Insert-clause-quiet g c = c.test.ensures.quiet

pub returns-in-Update-clause-tests : goal.returns-in-Update-clause-tests
returns-in-Update-clause-tests g c = λ o h stands.
    tests_by g.R.Records.meaning c.test-in-Update.new.r o h c.args.t c.args.read_only
    (plain_of c.args.s.now) _ c.in-Update.table c.args.size c.test-in-Update.result (ap plain_of c.in-Update.is)
    (λ x. x) (c.test-in-Update.ensures.tests o h stands)

pub returns-in-Update-clause-ready : goal.returns-in-Update-clause-ready
returns-in-Update-clause-ready g c = c.test-in-Update.ensures.ready

pub returns-in-Update-clause-frames : goal.returns-in-Update-clause-frames
returns-in-Update-clause-frames g c = c.test-in-Update.ensures.frames

pub returns-in-Update-clause-quiet : goal.returns-in-Update-clause-quiet
returns-in-Update-clause-quiet g c = c.test-in-Update.ensures.quiet

pub returns-in-Delete-clause-tests : goal.returns-in-Delete-clause-tests
returns-in-Delete-clause-tests g c = λ o h stands.
    tests_by g.R.Records.meaning c.test-in-Delete.new.r o h c.args.t c.args.read_only
    (plain_of c.args.s.now) _ c.in-Delete.table c.args.size c.test-in-Delete.result (ap plain_of c.in-Delete.is)
    (λ x. x) (c.test-in-Delete.ensures.tests o h stands)

pub returns-in-Delete-clause-ready : goal.returns-in-Delete-clause-ready
returns-in-Delete-clause-ready g c = c.test-in-Delete.ensures.ready

pub returns-in-Delete-clause-frames : goal.returns-in-Delete-clause-frames
returns-in-Delete-clause-frames g c = c.test-in-Delete.ensures.frames

pub returns-in-Delete-clause-quiet : goal.returns-in-Delete-clause-quiet
returns-in-Delete-clause-quiet g c = c.test-in-Delete.ensures.quiet

pub returns-in-Totals-clause-tests : goal.returns-in-Totals-clause-tests
returns-in-Totals-clause-tests g c = λ o h stands.
    tests_by g.R.Records.meaning c.test-in-Totals.new.r o h c.args.t c.args.read_only
    (plain_of c.args.s.now) _ c.in-Totals.table c.args.size c.test-in-Totals.result (ap plain_of c.in-Totals.is)
    (λ x. x) (c.test-in-Totals.ensures.tests o h stands)

pub returns-in-Totals-clause-ready : goal.returns-in-Totals-clause-ready
returns-in-Totals-clause-ready g c = c.test-in-Totals.ensures.ready

pub returns-in-Totals-clause-frames : goal.returns-in-Totals-clause-frames
returns-in-Totals-clause-frames g c = c.test-in-Totals.ensures.frames

pub returns-in-Totals-clause-quiet : goal.returns-in-Totals-clause-quiet
returns-in-Totals-clause-quiet g c = c.test-in-Totals.ensures.quiet

pub returns-in-Select-clause-tests : goal.returns-in-Select-clause-tests
returns-in-Select-clause-tests g c = λ o h stands.
    tests_by g.R.Records.meaning c.test-in-Select.new.r o h c.args.t c.args.read_only
    (plain_of c.args.s.now) _ c.in-Select.table c.args.size c.test-in-Select.result (ap plain_of c.in-Select.is)
    (λ x. x) (c.test-in-Select.ensures.tests o h stands)

pub returns-in-Select-clause-ready : goal.returns-in-Select-clause-ready
returns-in-Select-clause-ready g c = c.test-in-Select.ensures.ready

pub returns-in-Select-clause-frames : goal.returns-in-Select-clause-frames
returns-in-Select-clause-frames g c = c.test-in-Select.ensures.frames

pub returns-in-Select-clause-quiet : goal.returns-in-Select-clause-quiet
returns-in-Select-clause-quiet g c = c.test-in-Select.ensures.quiet
