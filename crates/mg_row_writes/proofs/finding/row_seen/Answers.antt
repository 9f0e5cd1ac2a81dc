use Rattle.std.proofs.Common.{List, Option, subst, sym, refl}
use Rattle.std.specs.Prelude.{MatchResult}
use Rattle.mg_base.specs.declared.numbers.RecId.{RecId}
use Rattle.mg_image.specs.Form.{Pages}
use Rattle.mg_pool.specs.Pool.{shown}
use Rattle.mg_pool.specs.declared.batch.BatchPage.{BatchPage}
use Rattle.mg_seek.specs.Refusals.{RefusesRecord}
use Rattle.mg_seek.specs.Versions.{wants}
use Rattle.mg_seek.specs.Views.{IsRowSeen}
use Rattle.mg_seek.specs.declared.whose.Wanted.TheVariants.{SeenBy}
use Rattle.mg_row_writes.specs.Finding.{IsSeenIn, RefusesSeen}
use Rattle.mg_row_writes.proofs.FindLemmas.{through_empty}
use Rattle.mg_space.specs.ViewLaws.{keeps_itself}
use Rattle.mg_row_writes.proofs.finding.row_seen.Goals as goal

pub returns-clause-gives : goal.returns-clause-gives
returns-clause-gives g c = λ image tells. subst (λ (r : Option RecId). MatchResult c.row_in_view.result
    (IsSeenIn (g.S.States.state_of c.args.states.now) c.args.live.now c.args.t (shown c.args.store.now.dirty
    image) c.args.table.now r)
    (RefusesSeen g.D.Disk.meaning c.row_in_view.new.store (shown c.args.store.now.dirty image) (wants
    (g.S.States.state_of c.args.states.now) c.args.live.now (SeenBy c.args.t))
    c.args.table.now r)) (sym c.in-Some.is)
    (through_empty c.args.store.now image c.new-batch.result c.row_in_view.result
    (λ (view : Pages). IsRowSeen (g.S.States.state_of c.args.states.now) c.args.live.now c.args.t view
    c.args.table.now c.in-Some.rec)
    (λ (pages : List BatchPage). λ (view : Pages). RefusesRecord g.D.Disk.meaning c.row_in_view.new.store pages view
    (wants (g.S.States.state_of c.args.states.now) c.args.live.now (SeenBy c.args.t)) c.args.table.now c.in-Some.rec)
    c.new-batch.ensures.pages (c.row_in_view.ensures.gives image tells))

pub returns-in_default-clause-keeps : goal.returns-in_default-clause-keeps
returns-in_default-clause-keeps g c = keeps_itself g.D.Disk.meaning c.args.store.now c.requires.pool

pub returns-in_default-clause-fault : goal.returns-in_default-clause-fault
returns-in_default-clause-fault g c = (c.requires.online, c.requires.online, refl)

pub returns-in_default-clause-own : goal.returns-in_default-clause-own
returns-in_default-clause-own g c = tt

pub returns-clause-keeps : goal.returns-clause-keeps
returns-clause-keeps g c = c.row_in_view.ensures.keeps

pub returns-clause-fault : goal.returns-clause-fault
returns-clause-fault g c = c.row_in_view.ensures.fault

pub returns-clause-own : goal.returns-clause-own
returns-clause-own g c = c.row_in_view.ensures.own
