use Rattle.mg_space.specs.HandedLaws.{fault_same}
use Rattle.mg_space.specs.View.{viewed}
use Rattle.mg_heap.specs.HandedLaws.{reads_same}
use Rattle.mg_seek.specs.TableRows.{IsTableSeen, RefusesTable}
use Rattle.mg_seek.proofs.SeenLemmas.{rows_refuse, tables_fault, tables_read, tables_refuse}
use Rattle.mg_seek.proofs.Steps.{handed_on}
use Rattle.std.specs.declared.vec.Vec.{Vec}
use Rattle.mg_image.specs.Form.{Row}
use Rattle.std.specs.declared.alloc.Global.{Global}
use Rattle.mg_seek.proofs.tables.table_named.Goals as goal

pub returns-in_err-rows-clause-gives : goal.returns-in_err-rows-clause-gives
returns-in_err-rows-clause-gives g c = λ image tells.
    handed_on c.from_residual.result c.in_err-rows.field-0.0
    (IsTableSeen (g.S.States.state_of c.args.states.now) c.args.live.now c.args.t (viewed c.args.store.now image c.args.batch.now) c.args.catalog.now c.args.name.now)
    (RefusesTable g.D.Disk.meaning c.rows_in_view.new.store c.args.batch.now.pages (g.S.States.state_of c.args.states.now) c.args.live.now c.args.t (viewed c.args.store.now image c.args.batch.now) c.args.catalog.now)
    c.from_residual.ensures.0 c.from_residual.ensures.1
    (rows_refuse g.D.Disk.meaning c.rows_in_view.new.store c.args.batch.now.pages (g.S.States.state_of c.args.states.now) c.args.live.now c.args.t (viewed c.args.store.now image c.args.batch.now) c.args.catalog.now
    c.in_err-rows.field-0.0 (c.in_err-rows.ensures.gives image tells))

pub returns-in_err-table_in-clause-fault : goal.returns-in_err-table_in-clause-fault
returns-in_err-table_in-clause-fault g c = tables_fault g.D.Disk.meaning c.args.store.now c.rows_in_view.new.store
    c.args.catalog.now.pointer.0 c.in_ok-rows.rows.items c.from_residual-in_err-table_in.result
    c.in_err-table_in.field-0.0 c.from_residual-in_err-table_in.ensures.0
    c.from_residual-in_err-table_in.ensures.1 (rw c.deref.ensures.value at c.in_err-table_in.ensures)
    c.in_ok-rows.ensures.fault

pub returns-in_err-table_in-clause-own : goal.returns-in_err-table_in-clause-own
returns-in_err-table_in-clause-own g c = tables_read c.args.catalog.now.pointer.0 c.in_ok-rows.rows.items
    c.from_residual-in_err-table_in.result c.in_err-table_in.field-0.0
    c.from_residual-in_err-table_in.ensures.0 c.from_residual-in_err-table_in.ensures.1
    (rw c.deref.ensures.value at c.in_err-table_in.ensures)

pub returns-in_err-table_in-clause-gives : goal.returns-in_err-table_in-clause-gives
returns-in_err-table_in-clause-gives g c = λ image tells.
    handed_on c.from_residual-in_err-table_in.result c.in_err-table_in.field-0.0
    (IsTableSeen (g.S.States.state_of c.args.states.now) c.args.live.now c.args.t (viewed c.args.store.now image c.args.batch.now) c.args.catalog.now c.args.name.now)
    (RefusesTable g.D.Disk.meaning c.rows_in_view.new.store c.args.batch.now.pages (g.S.States.state_of c.args.states.now) c.args.live.now c.args.t (viewed c.args.store.now image c.args.batch.now) c.args.catalog.now)
    c.from_residual-in_err-table_in.ensures.0 c.from_residual-in_err-table_in.ensures.1
    (tables_refuse g.D.Disk.meaning c.rows_in_view.new.store c.args.batch.now.pages (g.S.States.state_of c.args.states.now) c.args.live.now c.args.t (viewed c.args.store.now image c.args.batch.now) c.args.catalog.now
    c.in_ok-rows.rows.items c.in_err-table_in.field-0.0 (c.in_ok-rows.ensures.gives image tells)
    (rw c.deref.ensures.value at c.in_err-table_in.ensures))

pub returns-clause-gives : goal.returns-clause-gives
returns-clause-gives g c = λ image tells. record {
  rows = c.in_ok-rows.rows.items;
  seen = c.in_ok-rows.ensures.gives image tells;
  names = rw c.deref.ensures.value at c.in_ok-table_in.ensures;
}

pub returns-in_err-rows-clause-keeps : goal.returns-in_err-rows-clause-keeps
returns-in_err-rows-clause-keeps g c = c.in_err-rows.ensures.keeps

pub returns-in_err-rows-clause-fault : goal.returns-in_err-rows-clause-fault
returns-in_err-rows-clause-fault g c = fault_same (Vec Row Global) g.D.Disk.meaning c.args.store.now c.rows_in_view.new.store c.from_residual.result c.in_err-rows.field-0.0
    c.from_residual.ensures.0 c.from_residual.ensures.1 c.in_err-rows.ensures.fault

pub returns-in_err-rows-clause-own : goal.returns-in_err-rows-clause-own
returns-in_err-rows-clause-own g c = reads_same (Vec Row Global) c.from_residual.result c.in_err-rows.field-0.0 c.from_residual.ensures.0 c.from_residual.ensures.1
    c.in_err-rows.ensures.own

pub returns-in_err-table_in-clause-keeps : goal.returns-in_err-table_in-clause-keeps
returns-in_err-table_in-clause-keeps g c = c.in_ok-rows.ensures.keeps

pub returns-clause-keeps : goal.returns-clause-keeps
returns-clause-keeps g c = c.in_ok-rows.ensures.keeps

pub returns-clause-fault : goal.returns-clause-fault
returns-clause-fault g c = c.in_ok-rows.ensures.fault

pub returns-clause-own : goal.returns-clause-own
returns-clause-own g c = tt
