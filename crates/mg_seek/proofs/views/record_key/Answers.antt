use Rattle.mg_space.specs.HandedLaws.{fault_same}
use Rattle.mg_space.specs.View.{viewed}
use Rattle.mg_heap.specs.HandedLaws.{reads_same}
use Rattle.mg_seek.specs.Refusals.{RefusesRecord}
use Rattle.mg_seek.specs.Versions.{wants}
use Rattle.mg_seek.specs.Views.{IsKeyOf}
use Rattle.mg_seek.specs.declared.whose.Wanted.TheVariants.{Any}
use Rattle.mg_seek.specs.RecordLaws.{body_refuses, chain_refuses, key_given, no_key, row_fault, row_reads}
use Rattle.mg_seek.proofs.Steps.{handed_on}
use Rattle.std.proofs.Common.{Option}
use Rattle.mg_seek.specs.declared.walk.Placed.{Placed}
use Rattle.mg_seek.proofs.views.record_key.Goals as goal

pub returns-in_err-newest-clause-gives : goal.returns-in_err-newest-clause-gives
returns-in_err-newest-clause-gives g c = λ image tells.
    handed_on c.from_residual.result c.in_err-newest.field-0.0
    (IsKeyOf (g.S.States.state_of c.args.states.now) c.args.live.now (viewed c.args.store.now image c.args.batch.now) c.args.table.now c.args.rec)
    (RefusesRecord g.D.Disk.meaning c.first_version.new.store c.args.batch.now.pages (viewed c.args.store.now image c.args.batch.now) (wants (g.S.States.state_of c.args.states.now) c.args.live.now Any) c.args.table.now c.args.rec)
    c.from_residual.ensures.0 c.from_residual.ensures.1
    (chain_refuses g.D.Disk.meaning c.first_version.new.store c.args.batch.now.pages (viewed c.args.store.now image c.args.batch.now) (wants (g.S.States.state_of c.args.states.now) c.args.live.now Any) c.args.table.now c.args.rec
    c.in_err-newest.field-0.0 (c.in_err-newest.ensures.gives image tells))

pub returns-in_default-clause-gives : goal.returns-in_default-clause-gives
returns-in_default-clause-gives g c = λ image tells.
    no_key (g.S.States.state_of c.args.states.now) c.args.live.now (viewed c.args.store.now image c.args.batch.now) c.args.table.now c.args.rec c.in_ok-newest.field-0
    (c.in_ok-newest.ensures.gives image tells) c.in_default.is

pub returns-in_err-row-clause-fault : goal.returns-in_err-row-clause-fault
returns-in_err-row-clause-fault g c = row_fault g.D.Disk.meaning c.args.store.now c.first_version.new.store
    c.args.table.now c.in-Some.newest c.from_residual-in_err-row.result c.in_err-row.field-0.0
    c.from_residual-in_err-row.ensures.0 c.from_residual-in_err-row.ensures.1 c.in_err-row.ensures
    c.in_ok-newest.ensures.fault

pub returns-in_err-row-clause-own : goal.returns-in_err-row-clause-own
returns-in_err-row-clause-own g c = row_reads c.args.table.now c.in-Some.newest
    c.from_residual-in_err-row.result c.in_err-row.field-0.0
    c.from_residual-in_err-row.ensures.0 c.from_residual-in_err-row.ensures.1 c.in_err-row.ensures

pub returns-in_err-row-clause-gives : goal.returns-in_err-row-clause-gives
returns-in_err-row-clause-gives g c = λ image tells.
    handed_on c.from_residual-in_err-row.result c.in_err-row.field-0.0
    (IsKeyOf (g.S.States.state_of c.args.states.now) c.args.live.now (viewed c.args.store.now image c.args.batch.now) c.args.table.now c.args.rec)
    (RefusesRecord g.D.Disk.meaning c.first_version.new.store c.args.batch.now.pages (viewed c.args.store.now image c.args.batch.now) (wants (g.S.States.state_of c.args.states.now) c.args.live.now Any) c.args.table.now c.args.rec)
    c.from_residual-in_err-row.ensures.0 c.from_residual-in_err-row.ensures.1
    (body_refuses g.D.Disk.meaning c.first_version.new.store c.args.batch.now.pages (viewed c.args.store.now image c.args.batch.now) (wants (g.S.States.state_of c.args.states.now) c.args.live.now Any) c.args.table.now c.args.rec
    c.in_ok-newest.field-0 c.in-Some.newest (c.in_ok-newest.ensures.gives image tells) c.in-Some.is
    c.in_err-row.field-0.0 c.in_err-row.ensures)

pub returns-clause-gives : goal.returns-clause-gives
returns-clause-gives g c = λ image tells.
    key_given (g.S.States.state_of c.args.states.now) c.args.live.now (viewed c.args.store.now image c.args.batch.now) c.args.table.now c.args.rec c.in_ok-newest.field-0
    c.in-Some.newest c.in_ok-row.row c.in_ok-key_copy.field-0 (c.in_ok-newest.ensures.gives image tells)
    c.in-Some.is c.in_ok-row.ensures c.in_ok-key_copy.ensures

pub returns-in_err-newest-clause-keeps : goal.returns-in_err-newest-clause-keeps
returns-in_err-newest-clause-keeps g c = c.in_err-newest.ensures.keeps

pub returns-in_err-newest-clause-fault : goal.returns-in_err-newest-clause-fault
returns-in_err-newest-clause-fault g c = fault_same (Option Placed) g.D.Disk.meaning c.args.store.now c.first_version.new.store c.from_residual.result c.in_err-newest.field-0.0
    c.from_residual.ensures.0 c.from_residual.ensures.1 c.in_err-newest.ensures.fault

pub returns-in_err-newest-clause-own : goal.returns-in_err-newest-clause-own
returns-in_err-newest-clause-own g c = reads_same (Option Placed) c.from_residual.result c.in_err-newest.field-0.0 c.from_residual.ensures.0 c.from_residual.ensures.1
    c.in_err-newest.ensures.own

pub returns-in_default-clause-keeps : goal.returns-in_default-clause-keeps
returns-in_default-clause-keeps g c = c.in_ok-newest.ensures.keeps

pub returns-in_default-clause-fault : goal.returns-in_default-clause-fault
returns-in_default-clause-fault g c = c.in_ok-newest.ensures.fault

pub returns-in_default-clause-own : goal.returns-in_default-clause-own
returns-in_default-clause-own g c = tt

pub returns-in_err-row-clause-keeps : goal.returns-in_err-row-clause-keeps
returns-in_err-row-clause-keeps g c = c.in_ok-newest.ensures.keeps

pub returns-in_err-key_copy-clause-keeps : goal.returns-in_err-key_copy-clause-keeps
returns-in_err-key_copy-clause-keeps g c = c.in_ok-newest.ensures.keeps

pub returns-clause-keeps : goal.returns-clause-keeps
returns-clause-keeps g c = c.in_ok-newest.ensures.keeps

pub returns-clause-fault : goal.returns-clause-fault
returns-clause-fault g c = c.in_ok-newest.ensures.fault

pub returns-clause-own : goal.returns-clause-own
returns-clause-own g c = tt
