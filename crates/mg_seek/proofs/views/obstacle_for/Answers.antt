use Rattle.mg_seek.proofs.Steps.{handed_on}
use Rattle.std.proofs.Common.{Option}
use Rattle.mg_heap.specs.HandedLaws.{reads_same}
use Rattle.mg_seek.specs.declared.walk.Placed.{Placed}
use Rattle.mg_chain.specs.Refusals.{RefusesChain}
use Rattle.mg_space.specs.HandedLaws.{fault_same}
use Rattle.mg_space.specs.View.{viewed}
use Rattle.mg_seek.proofs.views.obstacle_for.Goals as goal

pub returns-in_err-newest-clause-keeps : goal.returns-in_err-newest-clause-keeps
returns-in_err-newest-clause-keeps g c = c.in_err-newest.ensures.keeps

pub returns-in_err-newest-clause-fault : goal.returns-in_err-newest-clause-fault
returns-in_err-newest-clause-fault g c = fault_same (Option Placed) g.D.Disk.meaning c.args.store.now c.first_version.new.store c.from_residual.result c.in_err-newest.field-0.0
    c.from_residual.ensures.0 c.from_residual.ensures.1 c.in_err-newest.ensures.fault

pub returns-in_err-newest-clause-own : goal.returns-in_err-newest-clause-own
returns-in_err-newest-clause-own g c = reads_same (Option Placed) c.from_residual.result c.in_err-newest.field-0.0 c.from_residual.ensures.0 c.from_residual.ensures.1
    c.in_err-newest.ensures.own

pub returns-in_default-clause-keeps : goal.returns-in_default-clause-keeps
returns-in_default-clause-keeps g c = c.in_ok-newest.ensures.keeps

pub returns-in_default-clause-fault : goal.returns-in_default-clause-fault
returns-in_default-clause-fault g c = c.in_ok-newest.ensures.fault

pub returns-in_default-clause-own : goal.returns-in_default-clause-own
returns-in_default-clause-own g c = tt

pub returns-clause-keeps : goal.returns-clause-keeps
returns-clause-keeps g c = c.in_ok-newest.ensures.keeps

pub returns-clause-fault : goal.returns-clause-fault
returns-clause-fault g c = c.in_ok-newest.ensures.fault

pub returns-clause-own : goal.returns-clause-own
returns-clause-own g c = tt

pub returns-in_err-newest-clause-gives : goal.returns-in_err-newest-clause-gives
returns-in_err-newest-clause-gives g c = λ image tells.
    handed_on c.from_residual.result c.in_err-newest.field-0.0 _
    (RefusesChain g.D.Disk.meaning c.first_version.new.store c.args.batch.now.pages (viewed c.args.store.now image c.args.batch.now) c.args.rec)
    c.from_residual.ensures.0 c.from_residual.ensures.1 (c.in_err-newest.ensures.gives image tells)
