use Rattle.std.proofs.Common.{refl, sym, subst}
use Rattle.mg_rows.specs.declared.statement_fault.StatementFault.TheVariants.{NothingHeld}
use Rattle.mg_calls.specs.QuietLaws.{quiet_at, quiet_nothing}
use Rattle.mg_exec.specs.declared.phase.Phase.{Phase}
use Rattle.mg_exec.specs.Phases.{StandsAt, rolled_back_at}
use Rattle.mg_exec.specs.Progress.{Nears}
use Rattle.mg_exec.specs.Running.{Goes}
use Rattle.mg_exec.proofs.ArmLemmas.{end_leaves, end_told, goes_at, past_end}
use Rattle.mg_exec.proofs.ProgressLemmas.{changing_behind, end_nears, inserting_behind, refused_at_end}
use Rattle.mg_exec.proofs.run.go.Goals as goal

pub returns-in-Inserting-clause-goes : goal.returns-in-Inserting-clause-goes
returns-in-Inserting-clause-goes g c = λ o h stands.
    subst (λ (phase : Phase g.row.R-Place.Denot). Goes g.R.Records.meaning c.args.r.now c.insert.new.r o h
    c.args.t phase c.insert.result) (sym c.in-Inserting.is) (c.insert.ensures.starts o h stands)

pub returns-in-Reading-clause-goes : goal.returns-in-Reading-clause-goes
returns-in-Reading-clause-goes g c = λ o h stands.
    subst (λ (phase : Phase g.row.R-Place.Denot). Goes g.R.Records.meaning c.args.r.now c.read.new.r o h
    c.args.t phase c.read.result) (sym c.in-Reading.is) (c.read.ensures.reads o h stands)

-- ---- nearer to the end

pub returns-in-Saving-clause-nears : goal.returns-in-Saving-clause-nears
returns-in-Saving-clause-nears g c =
    end_nears g.R.Records.meaning c.args.r.now c.save.new.r c.args.t.0 _ c.save.result c.save.ensures.behind

pub returns-in-Returning-clause-nears : goal.returns-in-Returning-clause-nears
returns-in-Returning-clause-nears g c =
    end_nears g.R.Records.meaning c.args.r.now c.go_back.new.r c.args.t.0 _ c.go_back.result
    c.go_back.ensures.behind

pub returns-in-Inserting-clause-nears : goal.returns-in-Inserting-clause-nears
returns-in-Inserting-clause-nears g c =
    subst (λ (phase : Phase g.row.R-Place.Denot). Nears g.R.Records.meaning c.args.r.now c.insert.new.r
    c.args.t.0 phase c.insert.result) (sym c.in-Inserting.is)
    (inserting_behind g.R.Records.meaning c.args.r.now c.insert.new.r c.args.t.0 c.in-Inserting.i
    c.insert.result c.insert.ensures.behind)

pub returns-in-Reading-clause-nears : goal.returns-in-Reading-clause-nears
returns-in-Reading-clause-nears g c =
    subst (λ (phase : Phase g.row.R-Place.Denot). Nears g.R.Records.meaning c.args.r.now c.read.new.r
    c.args.t.0 phase c.read.result) (sym c.in-Reading.is) c.read.ensures.nears

pub returns-in-Changing-clause-nears : goal.returns-in-Changing-clause-nears
returns-in-Changing-clause-nears g c =
    subst (λ (phase : Phase g.row.R-Place.Denot). Nears g.R.Records.meaning c.args.r.now c.change.new.r
    c.args.t.0 phase c.change.result) (sym c.in-Changing.is)
    (changing_behind g.R.Records.meaning c.args.r.now c.change.new.r c.args.t.0 c.in-Changing.changing
    c.change.result c.change.ensures.fewer)

pub returns-in-Creating-clause-nears : goal.returns-in-Creating-clause-nears
returns-in-Creating-clause-nears g c =
    end_nears g.R.Records.meaning c.args.r.now c.create.new.r c.args.t.0 _ c.create.result
    c.create.ensures.behind

pub returns-in-Retrying-clause-nears : goal.returns-in-Retrying-clause-nears
returns-in-Retrying-clause-nears g c =
    end_nears g.R.Records.meaning c.args.r.now c.retry.new.r c.args.t.0 _ c.retry.result
    c.retry.ensures.behind

pub returns-in-Ended-clause-nears : goal.returns-in-Ended-clause-nears
returns-in-Ended-clause-nears g c =
    end_nears g.R.Records.meaning c.args.r.now c.args.r.now c.args.t.0 _ c.ended.result
    (refused_at_end NothingHeld c.ended.result c.ended.ensures)

pub returns-in-RolledBack-clause-nears : goal.returns-in-RolledBack-clause-nears
returns-in-RolledBack-clause-nears g c =
    end_nears g.R.Records.meaning c.args.r.now c.args.r.now c.args.t.0 _ c.ended-in-RolledBack.result
    (refused_at_end NothingHeld c.ended-in-RolledBack.result c.ended-in-RolledBack.ensures)

-- ---- quiet

pub returns-in-Saving-clause-quiet : goal.returns-in-Saving-clause-quiet
returns-in-Saving-clause-quiet g c = λ o h stands at.
    quiet_at g.R.Records.meaning c.args.r.now c.save.new.r
    (rolled_back_at c.args.t.0 c.save.result.phase) c.save.ensures.quiet o h stands

pub returns-in-Returning-clause-quiet : goal.returns-in-Returning-clause-quiet
returns-in-Returning-clause-quiet g c = λ o h stands at.
    quiet_at g.R.Records.meaning c.args.r.now c.go_back.new.r
    (rolled_back_at c.args.t.0 c.go_back.result.phase) c.go_back.ensures.quiet o h stands

pub returns-in-Inserting-clause-quiet : goal.returns-in-Inserting-clause-quiet
returns-in-Inserting-clause-quiet g c = λ o h stands at.
    quiet_at g.R.Records.meaning c.args.r.now c.insert.new.r
    (rolled_back_at c.args.t.0 c.insert.result.phase) c.insert.ensures.quiet o h stands

pub returns-in-Reading-clause-quiet : goal.returns-in-Reading-clause-quiet
returns-in-Reading-clause-quiet g c = λ o h stands at.
    c.read.ensures.quiet o h stands
    (subst (λ (phase : Phase g.row.R-Place.Denot). StandsAt g.R.Records.meaning c.args.r.now o h
    c.args.t.0 phase) c.in-Reading.is at)

pub returns-in-Changing-clause-quiet : goal.returns-in-Changing-clause-quiet
returns-in-Changing-clause-quiet g c = λ o h stands at.
    quiet_at g.R.Records.meaning c.args.r.now c.change.new.r
    (rolled_back_at c.args.t.0 c.change.result.phase) c.change.ensures.quiet o h stands

pub returns-in-Creating-clause-quiet : goal.returns-in-Creating-clause-quiet
returns-in-Creating-clause-quiet g c = λ o h stands at.
    quiet_at g.R.Records.meaning c.args.r.now c.create.new.r
    (rolled_back_at c.args.t.0 c.create.result.phase) c.create.ensures.quiet o h stands

pub returns-in-Retrying-clause-quiet : goal.returns-in-Retrying-clause-quiet
returns-in-Retrying-clause-quiet g c = λ o h stands at.
    quiet_at g.R.Records.meaning c.args.r.now c.retry.new.r
    (rolled_back_at c.args.t.0 c.retry.result.phase) c.retry.ensures.quiet o h stands

pub returns-in-Ended-clause-quiet : goal.returns-in-Ended-clause-quiet
returns-in-Ended-clause-quiet g c = λ o h stands at.
    quiet_at g.R.Records.meaning c.args.r.now c.args.r.now _
    (quiet_nothing g.R.Records.meaning g.met.R.Records.crashes c.args.r.now) o h stands

pub returns-in-RolledBack-clause-quiet : goal.returns-in-RolledBack-clause-quiet
returns-in-RolledBack-clause-quiet g c = λ o h stands at.
    quiet_at g.R.Records.meaning c.args.r.now c.args.r.now _
    (quiet_nothing g.R.Records.meaning g.met.R.Records.crashes c.args.r.now) o h stands

-- ---- a step

pub returns-in-Saving-clause-goes : goal.returns-in-Saving-clause-goes
returns-in-Saving-clause-goes g c = λ o h stands.
    goes_at g.R.Records.meaning c.args.r.now c.save.new.r o h c.args.t c.args.phase _ c.save.result c.in-Saving.is
    (c.save.ensures.saves o h stands)

pub returns-in-Returning-clause-goes : goal.returns-in-Returning-clause-goes
returns-in-Returning-clause-goes g c = λ o h stands.
    goes_at g.R.Records.meaning c.args.r.now c.go_back.new.r o h c.args.t c.args.phase _ c.go_back.result
    c.in-Returning.is
    (c.go_back.ensures.returns o h stands)

pub returns-in-Changing-clause-goes : goal.returns-in-Changing-clause-goes
returns-in-Changing-clause-goes g c = λ o h stands.
    goes_at g.R.Records.meaning c.args.r.now c.change.new.r o h c.args.t c.args.phase _ c.change.result
    c.in-Changing.is
    (c.change.ensures.changes o h stands)

pub returns-in-Creating-clause-goes : goal.returns-in-Creating-clause-goes
returns-in-Creating-clause-goes g c = λ o h stands.
    goes_at g.R.Records.meaning c.args.r.now c.create.new.r o h c.args.t c.args.phase _ c.create.result
    c.in-Creating.is
    (c.create.ensures.creates o h stands)

pub returns-in-Retrying-clause-goes : goal.returns-in-Retrying-clause-goes
returns-in-Retrying-clause-goes g c = λ o h stands.
    goes_at g.R.Records.meaning c.args.r.now c.retry.new.r o h c.args.t c.args.phase _ c.retry.result c.in-Retrying.is
    (c.retry.ensures.retries o h stands)

pub returns-in-Ended-clause-goes : goal.returns-in-Ended-clause-goes
returns-in-Ended-clause-goes g c = λ o h stands.
    goes_at g.R.Records.meaning c.args.r.now c.args.r.now o h c.args.t c.args.phase _ c.ended.result
    c.in-Ended.is (c.ended.ensures, stands)

pub returns-in-RolledBack-clause-goes : goal.returns-in-RolledBack-clause-goes
returns-in-RolledBack-clause-goes g c = λ o h stands.
    goes_at g.R.Records.meaning c.args.r.now c.args.r.now o h c.args.t c.args.phase _ c.ended-in-RolledBack.result
    c.in-RolledBack.is (c.ended-in-RolledBack.ensures, stands)

-- ---- past the end

pub returns-in-Saving-clause-ended : goal.returns-in-Saving-clause-ended
returns-in-Saving-clause-ended g c =
    past_end g.R.Records.meaning c.args.r.now c.save.new.r c.args.phase _ c.save.result.answer c.in-Saving.is tt

pub returns-in-Returning-clause-ended : goal.returns-in-Returning-clause-ended
returns-in-Returning-clause-ended g c =
    past_end g.R.Records.meaning c.args.r.now c.go_back.new.r c.args.phase _ c.go_back.result.answer
    c.in-Returning.is tt

pub returns-in-Changing-clause-ended : goal.returns-in-Changing-clause-ended
returns-in-Changing-clause-ended g c =
    past_end g.R.Records.meaning c.args.r.now c.change.new.r c.args.phase _ c.change.result.answer c.in-Changing.is tt

pub returns-in-Creating-clause-ended : goal.returns-in-Creating-clause-ended
returns-in-Creating-clause-ended g c =
    past_end g.R.Records.meaning c.args.r.now c.create.new.r c.args.phase _ c.create.result.answer c.in-Creating.is tt

pub returns-in-Retrying-clause-ended : goal.returns-in-Retrying-clause-ended
returns-in-Retrying-clause-ended g c =
    past_end g.R.Records.meaning c.args.r.now c.retry.new.r c.args.phase _ c.retry.result.answer c.in-Retrying.is tt

pub returns-in-Inserting-clause-ended : goal.returns-in-Inserting-clause-ended
returns-in-Inserting-clause-ended g c =
    past_end g.R.Records.meaning c.args.r.now c.insert.new.r c.args.phase _ c.insert.result.answer c.in-Inserting.is tt

pub returns-in-Reading-clause-ended : goal.returns-in-Reading-clause-ended
returns-in-Reading-clause-ended g c =
    past_end g.R.Records.meaning c.args.r.now c.read.new.r c.args.phase _ c.read.result.answer c.in-Reading.is tt

pub returns-in-Ended-clause-ended : goal.returns-in-Ended-clause-ended
returns-in-Ended-clause-ended g c =
    past_end g.R.Records.meaning c.args.r.now c.args.r.now c.args.phase _ c.ended.result.answer
    c.in-Ended.is (end_told c.ended.result c.ended.ensures, refl)

pub returns-in-RolledBack-clause-ended : goal.returns-in-RolledBack-clause-ended
returns-in-RolledBack-clause-ended g c =
    past_end g.R.Records.meaning c.args.r.now c.args.r.now c.args.phase _ c.ended-in-RolledBack.result.answer
    c.in-RolledBack.is (end_told c.ended-in-RolledBack.result c.ended-in-RolledBack.ensures, refl)

-- ---- what is left

pub returns-in-Saving-clause-leaves : goal.returns-in-Saving-clause-leaves
returns-in-Saving-clause-leaves g c = c.save.ensures.leaves

pub returns-in-Returning-clause-leaves : goal.returns-in-Returning-clause-leaves
returns-in-Returning-clause-leaves g c = c.go_back.ensures.leaves

pub returns-in-Changing-clause-leaves : goal.returns-in-Changing-clause-leaves
returns-in-Changing-clause-leaves g c = c.change.ensures.leaves

pub returns-in-Creating-clause-leaves : goal.returns-in-Creating-clause-leaves
returns-in-Creating-clause-leaves g c = c.create.ensures.leaves

pub returns-in-Retrying-clause-leaves : goal.returns-in-Retrying-clause-leaves
returns-in-Retrying-clause-leaves g c = c.retry.ensures.leaves

pub returns-in-Inserting-clause-leaves : goal.returns-in-Inserting-clause-leaves
returns-in-Inserting-clause-leaves g c = c.insert.ensures.leaves

pub returns-in-Reading-clause-leaves : goal.returns-in-Reading-clause-leaves
returns-in-Reading-clause-leaves g c = c.read.ensures.leaves

pub returns-in-Ended-clause-leaves : goal.returns-in-Ended-clause-leaves
returns-in-Ended-clause-leaves g c =
    end_leaves g.R.Records.meaning c.args.r.now c.args.t.0 c.ended.result c.ended.ensures

pub returns-in-RolledBack-clause-leaves : goal.returns-in-RolledBack-clause-leaves
returns-in-RolledBack-clause-leaves g c =
    end_leaves g.R.Records.meaning c.args.r.now c.args.t.0 c.ended-in-RolledBack.result c.ended-in-RolledBack.ensures
