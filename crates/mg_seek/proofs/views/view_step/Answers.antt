use Rattle.std.proofs.Common.{ℕ, List, ◌∙◌, Option}
use Rattle.mg_image.specs.Form.{Pages, Row}
use Rattle.mg_pool.specs.Pool.{shown}
use Rattle.mg_pool.specs.declared.batch.BatchPage.{BatchPage}
use Rattle.mg_heap.specs.HandedLaws.{reads_same}
use Rattle.mg_seek.specs.Refusals.{RefusesRecord, RefusesVisit}
use Rattle.mg_seek.specs.Versions.{wants}
use Rattle.mg_seek.specs.Views.{IsRowSeen, IsVisit}
use Rattle.mg_seek.specs.declared.whose.Wanted.TheVariants.{SeenBy}
use Rattle.mg_seek.specs.RecordLaws.{as_kept}
use Rattle.mg_seek.proofs.Steps.{handed_on}
use Rattle.mg_seek.proofs.VisitLemmas.{next_refuses, sees_shown, visit_comes, visit_ends, visit_refuses}
use Rattle.mg_space.specs.HandedLaws.{fault_same, fault_up}
use Rattle.mg_space.specs.ViewLaws.{keeps_on}
use Rattle.mg_base.specs.declared.numbers.RecId.{RecId}
use Rattle.mg_seek.proofs.views.view_step.Goals as goal

pub returns-in_err-rec-clause-gives : goal.returns-in_err-rec-clause-gives
returns-in_err-rec-clause-gives g c = λ image tells.
    handed_on c.from_residual.result c.in_err-rec.field-0.0
    (IsVisit (g.S.States.state_of c.args.states.now) c.args.live.now c.args.t (shown c.args.store.now.dirty image) c.args.table.now c.args.after)
    (RefusesVisit g.D.Disk.meaning c.next.new.store (shown c.args.store.now.dirty image) (wants (g.S.States.state_of c.args.states.now) c.args.live.now (SeenBy c.args.t)) c.args.table.now
    c.args.after)
    c.from_residual.ensures.0 c.from_residual.ensures.1
    (next_refuses g.D.Disk.meaning c.next.new.store (shown c.args.store.now.dirty image) (wants (g.S.States.state_of c.args.states.now) c.args.live.now (SeenBy c.args.t)) c.args.table.now
    c.args.after c.in_err-rec.field-0.0 (c.in_err-rec.ensures.gives image tells))

pub returns-in_default-clause-gives : goal.returns-in_default-clause-gives
returns-in_default-clause-gives g c = λ image tells.
    visit_ends (g.S.States.state_of c.args.states.now) c.args.live.now c.args.t (shown c.args.store.now.dirty image) c.args.table.now
    c.args.after c.in_ok-rec.field-0 (c.in_ok-rec.ensures.gives image tells) c.in_default.is

pub returns-in_err-row-clause-gives : goal.returns-in_err-row-clause-gives
returns-in_err-row-clause-gives g c = λ image tells.
    handed_on c.from_residual-in_err-row.result c.in_err-row.field-0.0
    (IsVisit (g.S.States.state_of c.args.states.now) c.args.live.now c.args.t (shown c.args.store.now.dirty image) c.args.table.now c.args.after)
    (RefusesVisit g.D.Disk.meaning c.row_in_view.new.store (shown c.args.store.now.dirty image) (wants (g.S.States.state_of c.args.states.now) c.args.live.now (SeenBy c.args.t)) c.args.table.now c.args.after)
    c.from_residual-in_err-row.ensures.0 c.from_residual-in_err-row.ensures.1
    (visit_refuses g.D.Disk.meaning c.row_in_view.new.store (shown c.args.store.now.dirty image) (wants (g.S.States.state_of c.args.states.now) c.args.live.now (SeenBy c.args.t)) c.args.table.now c.args.after
    c.in_ok-rec.field-0 c.in-Some.rec c.in_err-row.field-0.0 (c.in_ok-rec.ensures.gives image tells) c.in-Some.is
    (sees_shown c.args.store.now image c.new-batch.result
    (λ (pages : List BatchPage). λ (view : Pages). RefusesRecord g.D.Disk.meaning c.row_in_view.new.store pages view
    (wants (g.S.States.state_of c.args.states.now) c.args.live.now (SeenBy c.args.t)) c.args.table.now c.in-Some.rec c.in_err-row.field-0.0) c.new-batch.ensures.pages
    (as_kept g.D.Disk.meaning c.args.store.now c.next.new.store image c.new-batch.result
    (λ (view : Pages). RefusesRecord g.D.Disk.meaning c.row_in_view.new.store c.new-batch.result.pages
    view (wants (g.S.States.state_of c.args.states.now) c.args.live.now (SeenBy c.args.t)) c.args.table.now c.in-Some.rec c.in_err-row.field-0.0) c.in_ok-rec.ensures.keeps tells
    (c.in_err-row.ensures.gives image))))

pub returns-clause-gives : goal.returns-clause-gives
returns-clause-gives g c = λ image tells.
    visit_comes (g.S.States.state_of c.args.states.now) c.args.live.now c.args.t (shown c.args.store.now.dirty image) c.args.table.now c.args.after c.in_ok-rec.field-0
    c.in-Some.rec c.in_ok-row.row (c.in_ok-rec.ensures.gives image tells) c.in-Some.is
    (sees_shown c.args.store.now image c.new-batch.result
    (λ (pages : List BatchPage). λ (view : Pages). IsRowSeen (g.S.States.state_of c.args.states.now) c.args.live.now c.args.t view
    c.args.table.now c.in-Some.rec c.in_ok-row.row) c.new-batch.ensures.pages
    (as_kept g.D.Disk.meaning c.args.store.now c.next.new.store image c.new-batch.result
    (λ (view : Pages). IsRowSeen (g.S.States.state_of c.args.states.now) c.args.live.now c.args.t view c.args.table.now
    c.in-Some.rec c.in_ok-row.row) c.in_ok-rec.ensures.keeps tells (c.in_ok-row.ensures.gives image)))

pub returns-in_err-rec-clause-keeps : goal.returns-in_err-rec-clause-keeps
returns-in_err-rec-clause-keeps g c = c.in_err-rec.ensures.keeps

pub returns-in_err-rec-clause-fault : goal.returns-in_err-rec-clause-fault
returns-in_err-rec-clause-fault g c = fault_same (Option RecId) g.D.Disk.meaning c.args.store.now c.next.new.store c.from_residual.result c.in_err-rec.field-0.0
    c.from_residual.ensures.0 c.from_residual.ensures.1 c.in_err-rec.ensures.fault

pub returns-in_err-rec-clause-own : goal.returns-in_err-rec-clause-own
returns-in_err-rec-clause-own g c = reads_same (Option RecId) c.from_residual.result c.in_err-rec.field-0.0 c.from_residual.ensures.0 c.from_residual.ensures.1
    c.in_err-rec.ensures.own

pub returns-in_default-clause-keeps : goal.returns-in_default-clause-keeps
returns-in_default-clause-keeps g c = c.in_ok-rec.ensures.keeps

pub returns-in_default-clause-fault : goal.returns-in_default-clause-fault
returns-in_default-clause-fault g c = c.in_ok-rec.ensures.fault

pub returns-in_default-clause-own : goal.returns-in_default-clause-own
returns-in_default-clause-own g c = tt

pub returns-in_err-row-clause-keeps : goal.returns-in_err-row-clause-keeps
returns-in_err-row-clause-keeps g c = keeps_on g.D.Disk.meaning g.met.D.Disk.counts_now c.args.store.now c.next.new.store
    c.row_in_view.new.store c.in_ok-rec.ensures.keeps c.in_err-row.ensures.keeps

pub returns-in_err-row-clause-fault : goal.returns-in_err-row-clause-fault
returns-in_err-row-clause-fault g c = fault_up (Option Row) g.D.Disk.meaning c.args.store.now c.next.new.store c.row_in_view.new.store
    c.from_residual-in_err-row.result c.in_err-row.field-0.0 c.in_ok-rec.ensures.keeps c.in_ok-rec.ensures.fault.2
    c.from_residual-in_err-row.ensures.0 c.from_residual-in_err-row.ensures.1 c.in_err-row.ensures.fault

pub returns-in_err-row-clause-own : goal.returns-in_err-row-clause-own
returns-in_err-row-clause-own g c = reads_same (Option Row) c.from_residual-in_err-row.result c.in_err-row.field-0.0
    c.from_residual-in_err-row.ensures.0 c.from_residual-in_err-row.ensures.1 c.in_err-row.ensures.own

pub returns-clause-keeps : goal.returns-clause-keeps
returns-clause-keeps g c = keeps_on g.D.Disk.meaning g.met.D.Disk.counts_now c.args.store.now c.next.new.store
    c.row_in_view.new.store c.in_ok-rec.ensures.keeps c.in_ok-row.ensures.keeps

pub returns-clause-fault : goal.returns-clause-fault
returns-clause-fault g c = (
  c.in_ok-rec.ensures.fault.0,
  c.in_ok-row.ensures.fault.1,
  c.in_ok-row.ensures.fault.2 ∙ c.in_ok-rec.ensures.fault.2,
)

pub returns-clause-own : goal.returns-clause-own
returns-clause-own g c = tt
