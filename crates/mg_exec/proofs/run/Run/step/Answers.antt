use Rattle.std.proofs.Common.{sym, subst}
use Rattle.mg_base.specs.declared.numbers.TxNo.{TxNo}
use Rattle.mg_exec.specs.declared.phase.Phase.{Phase}
use Rattle.mg_exec.specs.Running.{Goes}
use Rattle.mg_exec.specs.Progress.{Nears}
use Rattle.mg_exec.specs.Phases.{StandsAt}
use Rattle.mg_exec.proofs.GiveLemmas.{stands_there, step_gives}
use Rattle.mg_exec.proofs.run.Run.step.Goals as goal

pub returns-clause-gives : goal.returns-clause-gives
returns-clause-gives g c = λ o looked h given a stands same at.
    rw c.replace.ensures.after (step_gives g.R.Records.meaning c.args.r.now c.go-phase.new.r o looked h a given
    c.args.self.now.phase c.go-phase.result at
    (subst (λ (x : TxNo × Phase g.row.R-Place.Denot). Goes g.R.Records.meaning c.args.r.now
    c.go-phase.new.r o h x.0 x.1 c.go-phase.result)
    (λ k. (sym same k, c.replace-phase.ensures.value k)) (c.go-phase.ensures.goes o h stands)))

pub returns-clause-quiet : goal.returns-clause-quiet
returns-clause-quiet g c = λ o looked h given a stands same at.
    c.go-phase.ensures.quiet o h stands
    (subst (λ (x : TxNo × Phase g.row.R-Place.Denot). StandsAt g.R.Records.meaning c.args.r.now o h
    x.0.0 x.1) (λ k. (same k, sym c.replace-phase.ensures.value k))
    (stands_there g.R.Records.meaning c.args.r.now o looked h a given c.args.self.now.phase at))

pub returns-clause-goes : goal.returns-clause-goes
returns-clause-goes g c = λ o h stands.
    rw c.replace.ensures.after (subst (λ (phase : Phase g.row.R-Place.Denot). Goes g.R.Records.meaning c.args.r.now
    c.go-phase.new.r o h c.args.self.now.t phase c.go-phase.result) c.replace-phase.ensures.value
    (c.go-phase.ensures.goes o h stands))

pub returns-clause-crash : goal.returns-clause-crash
returns-clause-crash g c = λ o h stands at.
    c.go-phase.ensures.quiet o h stands
    (subst (λ (phase : Phase g.row.R-Place.Denot). StandsAt g.R.Records.meaning c.args.r.now o h
    c.args.self.now.t.0 phase) (sym c.replace-phase.ensures.value) at)

pub returns-clause-nears : goal.returns-clause-nears
returns-clause-nears g c =
    rw c.replace.ensures.after (subst (λ (phase : Phase g.row.R-Place.Denot). Nears g.R.Records.meaning c.args.r.now
    c.go-phase.new.r c.args.self.now.t.0 phase c.go-phase.result) c.replace-phase.ensures.value c.go-phase.ensures.nears)

pub returns-clause-leaves : goal.returns-clause-leaves
returns-clause-leaves g c = rw c.replace.ensures.after c.go-phase.ensures.leaves
