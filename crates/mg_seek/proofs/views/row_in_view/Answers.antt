use Rattle.mg_heap.specs.HandedLaws.{reads_same}
use Rattle.mg_seek.specs.Refusals.{RefusesRecord}
use Rattle.mg_seek.specs.Versions.{wants}
use Rattle.mg_seek.specs.Views.{IsRowSeen}
use Rattle.mg_seek.specs.declared.whose.Wanted.TheVariants.{SeenBy}
use Rattle.mg_space.specs.HandedLaws.{fault_same}
use Rattle.mg_space.specs.View.{viewed}
use Rattle.mg_seek.specs.RecordLaws.{body_refuses, chain_refuses, erased_seen, none_seen, row_fault, row_reads, row_seen}
use Rattle.mg_seek.proofs.Steps.{handed_on}
use Rattle.std.proofs.Common.{Option}
use Rattle.mg_seek.specs.declared.walk.Placed.{Placed}
use Rattle.mg_seek.proofs.views.row_in_view.Goals as goal

pub returns-in_err-found-clause-gives : goal.returns-in_err-found-clause-gives
returns-in_err-found-clause-gives g c = λ image tells.
    handed_on c.from_residual.result c.in_err-found.field-0.0
    (IsRowSeen (g.S.States.state_of c.args.states.now) c.args.live.now c.args.t (viewed c.args.store.now image c.args.batch.now) c.args.table.now c.args.rec)
    (RefusesRecord g.D.Disk.meaning c.first_version.new.store c.args.batch.now.pages (viewed c.args.store.now image c.args.batch.now)
    (wants (g.S.States.state_of c.args.states.now) c.args.live.now (SeenBy c.args.t)) c.args.table.now c.args.rec)
    c.from_residual.ensures.0 c.from_residual.ensures.1
    (chain_refuses g.D.Disk.meaning c.first_version.new.store c.args.batch.now.pages (viewed c.args.store.now image c.args.batch.now)
    (wants (g.S.States.state_of c.args.states.now) c.args.live.now (SeenBy c.args.t)) c.args.table.now c.args.rec
    c.in_err-found.field-0.0 (c.in_err-found.ensures.gives image tells))

pub returns-in_default-clause-gives : goal.returns-in_default-clause-gives
returns-in_default-clause-gives g c = λ image tells.
    none_seen (g.S.States.state_of c.args.states.now) c.args.live.now c.args.t (viewed c.args.store.now image c.args.batch.now) c.args.table.now c.args.rec c.in_ok-found.field-0
    (c.in_ok-found.ensures.gives image tells) c.in_default.is

pub returns-then-found-clause-gives : goal.returns-then-found-clause-gives
returns-then-found-clause-gives g c = λ image tells.
    erased_seen (g.S.States.state_of c.args.states.now) c.args.live.now c.args.t (viewed c.args.store.now image c.args.batch.now) c.args.table.now c.args.rec c.in_ok-found.field-0
    c.in-Some.found (c.in_ok-found.ensures.gives image tells) c.in-Some.is c.if-found.true

pub returns-in_err-row_of-clause-fault : goal.returns-in_err-row_of-clause-fault
returns-in_err-row_of-clause-fault g c = row_fault g.D.Disk.meaning c.args.store.now c.first_version.new.store
    c.args.table.now c.in-Some.found c.from_residual-in_err-row_of.result c.in_err-row_of.field-0.0
    c.from_residual-in_err-row_of.ensures.0 c.from_residual-in_err-row_of.ensures.1 c.in_err-row_of.ensures
    c.in_ok-found.ensures.fault

pub returns-in_err-row_of-clause-own : goal.returns-in_err-row_of-clause-own
returns-in_err-row_of-clause-own g c = row_reads c.args.table.now c.in-Some.found
    c.from_residual-in_err-row_of.result c.in_err-row_of.field-0.0
    c.from_residual-in_err-row_of.ensures.0 c.from_residual-in_err-row_of.ensures.1 c.in_err-row_of.ensures

pub returns-in_err-row_of-clause-gives : goal.returns-in_err-row_of-clause-gives
returns-in_err-row_of-clause-gives g c = λ image tells.
    handed_on c.from_residual-in_err-row_of.result c.in_err-row_of.field-0.0
    (IsRowSeen (g.S.States.state_of c.args.states.now) c.args.live.now c.args.t (viewed c.args.store.now image c.args.batch.now) c.args.table.now c.args.rec)
    (RefusesRecord g.D.Disk.meaning c.first_version.new.store c.args.batch.now.pages (viewed c.args.store.now image c.args.batch.now) (wants (g.S.States.state_of c.args.states.now) c.args.live.now (SeenBy c.args.t)) c.args.table.now c.args.rec)
    c.from_residual-in_err-row_of.ensures.0 c.from_residual-in_err-row_of.ensures.1
    (body_refuses g.D.Disk.meaning c.first_version.new.store c.args.batch.now.pages (viewed c.args.store.now image c.args.batch.now) (wants (g.S.States.state_of c.args.states.now) c.args.live.now (SeenBy c.args.t)) c.args.table.now c.args.rec
    c.in_ok-found.field-0 c.in-Some.found (c.in_ok-found.ensures.gives image tells) c.in-Some.is
    c.in_err-row_of.field-0.0 c.in_err-row_of.ensures)

pub returns-clause-gives : goal.returns-clause-gives
returns-clause-gives g c = λ image tells.
    row_seen (g.S.States.state_of c.args.states.now) c.args.live.now c.args.t (viewed c.args.store.now image c.args.batch.now) c.args.table.now c.args.rec c.in_ok-found.field-0
    c.in-Some.found c.in_ok-row_of.field-0 (c.in_ok-found.ensures.gives image tells) c.in-Some.is
    c.if-found.false c.in_ok-row_of.ensures

pub returns-in_err-found-clause-keeps : goal.returns-in_err-found-clause-keeps
returns-in_err-found-clause-keeps g c = c.in_err-found.ensures.keeps

pub returns-in_err-found-clause-fault : goal.returns-in_err-found-clause-fault
returns-in_err-found-clause-fault g c = fault_same (Option Placed) g.D.Disk.meaning c.args.store.now c.first_version.new.store c.from_residual.result c.in_err-found.field-0.0
    c.from_residual.ensures.0 c.from_residual.ensures.1 c.in_err-found.ensures.fault

pub returns-in_err-found-clause-own : goal.returns-in_err-found-clause-own
returns-in_err-found-clause-own g c = reads_same (Option Placed) c.from_residual.result c.in_err-found.field-0.0 c.from_residual.ensures.0 c.from_residual.ensures.1
    c.in_err-found.ensures.own

pub returns-in_default-clause-keeps : goal.returns-in_default-clause-keeps
returns-in_default-clause-keeps g c = c.in_ok-found.ensures.keeps

pub returns-in_default-clause-fault : goal.returns-in_default-clause-fault
returns-in_default-clause-fault g c = c.in_ok-found.ensures.fault

pub returns-in_default-clause-own : goal.returns-in_default-clause-own
returns-in_default-clause-own g c = tt

pub returns-then-found-clause-keeps : goal.returns-then-found-clause-keeps
returns-then-found-clause-keeps g c = c.in_ok-found.ensures.keeps

pub returns-then-found-clause-fault : goal.returns-then-found-clause-fault
returns-then-found-clause-fault g c = c.in_ok-found.ensures.fault

pub returns-then-found-clause-own : goal.returns-then-found-clause-own
returns-then-found-clause-own g c = tt

pub returns-in_err-row_of-clause-keeps : goal.returns-in_err-row_of-clause-keeps
returns-in_err-row_of-clause-keeps g c = c.in_ok-found.ensures.keeps

pub returns-clause-keeps : goal.returns-clause-keeps
returns-clause-keeps g c = c.in_ok-found.ensures.keeps

pub returns-clause-fault : goal.returns-clause-fault
returns-clause-fault g c = c.in_ok-found.ensures.fault

pub returns-clause-own : goal.returns-clause-own
returns-clause-own g c = tt
