use Rattle.mg_space.specs.HandedLaws.{fault_same}
use Rattle.mg_space.specs.View.{viewed}
use Rattle.mg_heap.specs.HandedLaws.{reads_same}
use Rattle.mg_seek.specs.Refusals.{RefusesRecord}
use Rattle.mg_seek.specs.Versions.{wants}
use Rattle.mg_seek.specs.declared.whose.Wanted.TheVariants.{SeenBy}
use Rattle.mg_seek.proofs.SeenLemmas.{adds_none, adds_row}
use Rattle.mg_seek.proofs.Steps.{handed_on}
use Rattle.std.proofs.Common.{Option}
use Rattle.mg_image.specs.Form.{Row}
use Rattle.mg_seek.proofs.tables.add_row.Goals as goal

pub returns-in_err-row-clause-gives : goal.returns-in_err-row-clause-gives
returns-in_err-row-clause-gives g c = λ image tells.
    handed_on c.from_residual.result c.in_err-row.field-0.0 _
    (RefusesRecord g.D.Disk.meaning c.row_in_view.new.store c.args.batch.now.pages (viewed c.args.store.now image c.args.batch.now) (wants (g.S.States.state_of c.args.states.now) c.args.live.now (SeenBy c.args.t)) c.args.table.now c.args.rec)
    c.from_residual.ensures.0 c.from_residual.ensures.1 (c.in_err-row.ensures.gives image tells)

pub returns-in_default-clause-gives : goal.returns-in_default-clause-gives
returns-in_default-clause-gives g c = λ image tells. adds_none (g.S.States.state_of c.args.states.now) c.args.live.now c.args.t (viewed c.args.store.now image c.args.batch.now)
    c.args.table.now c.args.rec c.in_ok-row.field-0 c.args.rows.now.items
    (c.in_ok-row.ensures.gives image tells) c.in_default.is

pub returns-clause-gives : goal.returns-clause-gives
returns-clause-gives g c = λ image tells. adds_row (g.S.States.state_of c.args.states.now) c.args.live.now c.args.t (viewed c.args.store.now image c.args.batch.now)
    c.args.table.now c.args.rec c.in_ok-row.field-0 c.in-Some.row c.args.rows.now.items
    c.push.new.self.items (c.in_ok-row.ensures.gives image tells) c.in-Some.is c.in_ok-push.ensures.items

pub returns-in_err-row-clause-keeps : goal.returns-in_err-row-clause-keeps
returns-in_err-row-clause-keeps g c = c.in_err-row.ensures.keeps

pub returns-in_err-row-clause-fault : goal.returns-in_err-row-clause-fault
returns-in_err-row-clause-fault g c = fault_same (Option Row) g.D.Disk.meaning c.args.store.now c.row_in_view.new.store c.from_residual.result c.in_err-row.field-0.0
    c.from_residual.ensures.0 c.from_residual.ensures.1 c.in_err-row.ensures.fault

pub returns-in_err-row-clause-own : goal.returns-in_err-row-clause-own
returns-in_err-row-clause-own g c = reads_same (Option Row) c.from_residual.result c.in_err-row.field-0.0 c.from_residual.ensures.0 c.from_residual.ensures.1
    c.in_err-row.ensures.own

pub returns-in_default-clause-keeps : goal.returns-in_default-clause-keeps
returns-in_default-clause-keeps g c = c.in_ok-row.ensures.keeps

pub returns-in_default-clause-fault : goal.returns-in_default-clause-fault
returns-in_default-clause-fault g c = c.in_ok-row.ensures.fault

pub returns-in_default-clause-own : goal.returns-in_default-clause-own
returns-in_default-clause-own g c = tt

pub returns-in_err-push-clause-keeps : goal.returns-in_err-push-clause-keeps
returns-in_err-push-clause-keeps g c = c.in_ok-row.ensures.keeps

pub returns-clause-keeps : goal.returns-clause-keeps
returns-clause-keeps g c = c.in_ok-row.ensures.keeps

pub returns-clause-fault : goal.returns-clause-fault
returns-clause-fault g c = c.in_ok-row.ensures.fault

pub returns-clause-own : goal.returns-clause-own
returns-clause-own g c = tt
