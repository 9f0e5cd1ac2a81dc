use Rattle.std.proofs.Common.{sym, ◌∙◌, Option}
use Rattle.std.specs.Prelude.{◌↔◌, IsTrue}
use Rattle.mg_space.specs.HandedLaws.{fault_same}
use Rattle.mg_space.specs.View.{viewed}
use Rattle.mg_heap.specs.HandedLaws.{reads_same}
use Rattle.mg_seek.specs.Refusals.{RefusesRecord}
use Rattle.mg_seek.specs.Speaking.{Speaks}
use Rattle.mg_seek.specs.Versions.{wants}
use Rattle.mg_seek.specs.declared.whose.Wanted.TheVariants.{Living}
use Rattle.mg_seek.specs.RecordLaws.{body_refuses, chain_refuses, erased_silent, none_speaks, row_fault, row_reads, speaks_by_key}
use Rattle.mg_seek.proofs.Steps.{handed_on}
use Rattle.mg_seek.specs.declared.walk.Placed.{Placed}
use Rattle.mg_seek.proofs.speaking.speaks.Goals as goal

pub returns-in_err-newest-clause-gives : goal.returns-in_err-newest-clause-gives
returns-in_err-newest-clause-gives g c = λ image tells.
    handed_on c.from_residual.result c.in_err-newest.field-0.0
    (λ does. IsTrue does ↔ Speaks (g.S.States.state_of c.args.states.now) c.args.live.now (viewed c.args.store.now image c.args.batch.now) c.args.table.now c.args.key.now c.args.rec)
    (RefusesRecord g.D.Disk.meaning c.first_version.new.store c.args.batch.now.pages (viewed c.args.store.now image c.args.batch.now) (wants (g.S.States.state_of c.args.states.now) c.args.live.now Living) c.args.table.now c.args.rec)
    c.from_residual.ensures.0 c.from_residual.ensures.1
    (chain_refuses g.D.Disk.meaning c.first_version.new.store c.args.batch.now.pages (viewed c.args.store.now image c.args.batch.now) (wants (g.S.States.state_of c.args.states.now) c.args.live.now Living) c.args.table.now c.args.rec
    c.in_err-newest.field-0.0 (c.in_err-newest.ensures.gives image tells))

pub returns-in_default-clause-gives : goal.returns-in_default-clause-gives
returns-in_default-clause-gives g c = λ image tells.
    none_speaks (g.S.States.state_of c.args.states.now) c.args.live.now (viewed c.args.store.now image c.args.batch.now) c.args.table.now c.args.key.now c.args.rec c.in_ok-newest.field-0
    (c.in_ok-newest.ensures.gives image tells) c.in_default.is

pub returns-then-is_erased_for_all-clause-gives : goal.returns-then-is_erased_for_all-clause-gives
returns-then-is_erased_for_all-clause-gives g c = λ image tells.
    erased_silent (g.S.States.state_of c.args.states.now) c.args.live.now (viewed c.args.store.now image c.args.batch.now) c.args.table.now c.args.key.now c.args.rec c.in_ok-newest.field-0
    c.in-Some.newest (c.in_ok-newest.ensures.gives image tells) c.in-Some.is
    (sym c.is_erased_for_all.ensures ∙ c.if-is_erased_for_all.true)

pub returns-in_err-row-clause-fault : goal.returns-in_err-row-clause-fault
returns-in_err-row-clause-fault g c = row_fault g.D.Disk.meaning c.args.store.now c.first_version.new.store
    c.args.table.now c.in-Some.newest c.from_residual-in_err-row.result c.in_err-row.field-0.0
    c.from_residual-in_err-row.ensures.0 c.from_residual-in_err-row.ensures.1 c.in_err-row.ensures
    c.in_ok-newest.ensures.fault

pub returns-in_err-row-clause-own : goal.returns-in_err-row-clause-own
returns-in_err-row-clause-own g c = row_reads c.args.table.now c.in-Some.newest
    c.from_residual-in_err-row.result c.in_err-row.field-0.0
    c.from_residual-in_err-row.ensures.0 c.from_residual-in_err-row.ensures.1 c.in_err-row.ensures

pub returns-in_err-row-clause-gives : goal.returns-in_err-row-clause-gives
returns-in_err-row-clause-gives g c = λ image tells.
    handed_on c.from_residual-in_err-row.result c.in_err-row.field-0.0
    (λ does. IsTrue does ↔ Speaks (g.S.States.state_of c.args.states.now) c.args.live.now (viewed c.args.store.now image c.args.batch.now) c.args.table.now c.args.key.now c.args.rec)
    (RefusesRecord g.D.Disk.meaning c.first_version.new.store c.args.batch.now.pages (viewed c.args.store.now image c.args.batch.now) (wants (g.S.States.state_of c.args.states.now) c.args.live.now Living) c.args.table.now c.args.rec)
    c.from_residual-in_err-row.ensures.0 c.from_residual-in_err-row.ensures.1
    (body_refuses g.D.Disk.meaning c.first_version.new.store c.args.batch.now.pages (viewed c.args.store.now image c.args.batch.now) (wants (g.S.States.state_of c.args.states.now) c.args.live.now Living) c.args.table.now c.args.rec
    c.in_ok-newest.field-0 c.in-Some.newest (c.in_ok-newest.ensures.gives image tells) c.in-Some.is
    c.in_err-row.field-0.0 c.in_err-row.ensures)

pub returns-clause-gives : goal.returns-clause-gives
returns-clause-gives g c = λ image tells.
    speaks_by_key (g.S.States.state_of c.args.states.now) c.args.live.now (viewed c.args.store.now image c.args.batch.now) c.args.table.now c.args.key.now c.args.rec
    c.one_reading.ensures.packed_rows c.in_ok-newest.field-0 c.in-Some.newest c.in_ok-row.row
    c.has_key.result (c.in_ok-newest.ensures.gives image tells) c.in-Some.is
    (sym c.is_erased_for_all.ensures ∙ c.if-is_erased_for_all.false) c.in_ok-row.ensures c.has_key.ensures

pub returns-in_err-newest-clause-keeps : goal.returns-in_err-newest-clause-keeps
returns-in_err-newest-clause-keeps g c = c.in_err-newest.ensures.keeps

pub returns-in_err-newest-clause-fault : goal.returns-in_err-newest-clause-fault
returns-in_err-newest-clause-fault g c = fault_same (Option Placed) g.D.Disk.meaning c.args.store.now c.first_version.new.store c.from_residual.result c.in_err-newest.field-0.0
    c.from_residual.ensures.0 c.from_residual.ensures.1 c.in_err-newest.ensures.fault

pub returns-in_err-newest-clause-own : goal.returns-in_err-newest-clause-own
returns-in_err-newest-clause-own g c = reads_same (Option Placed) c.from_residual.result c.in_err-newest.field-0.0 c.from_residual.ensures.0 c.from_residual.ensures.1
    c.in_err-newest.ensures.own

pub returns-in_default-clause-keeps : goal.returns-in_default-clause-keeps
returns-in_default-clause-keeps g c = c.in_ok-newest.ensures.keeps

pub returns-in_default-clause-fault : goal.returns-in_default-clause-fault
returns-in_default-clause-fault g c = c.in_ok-newest.ensures.fault

pub returns-in_default-clause-own : goal.returns-in_default-clause-own
returns-in_default-clause-own g c = tt

pub returns-then-is_erased_for_all-clause-keeps : goal.returns-then-is_erased_for_all-clause-keeps
returns-then-is_erased_for_all-clause-keeps g c = c.in_ok-newest.ensures.keeps

pub returns-then-is_erased_for_all-clause-fault : goal.returns-then-is_erased_for_all-clause-fault
returns-then-is_erased_for_all-clause-fault g c = c.in_ok-newest.ensures.fault

pub returns-then-is_erased_for_all-clause-own : goal.returns-then-is_erased_for_all-clause-own
returns-then-is_erased_for_all-clause-own g c = tt

pub returns-in_err-row-clause-keeps : goal.returns-in_err-row-clause-keeps
returns-in_err-row-clause-keeps g c = c.in_ok-newest.ensures.keeps

pub returns-clause-keeps : goal.returns-clause-keeps
returns-clause-keeps g c = c.in_ok-newest.ensures.keeps

pub returns-clause-fault : goal.returns-clause-fault
returns-clause-fault g c = c.in_ok-newest.ensures.fault

pub returns-clause-own : goal.returns-clause-own
returns-clause-own g c = tt
