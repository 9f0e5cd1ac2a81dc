use Rattle.std.proofs.Common.{List, Option, subst, sym, refl}
use Rattle.std.specs.Prelude.{MatchResult}
use Rattle.mg_base.specs.declared.numbers.RecId.{RecId}
use Rattle.mg_chain.specs.Refusals.{RefusesChain}
use Rattle.mg_image.specs.Form.{Pages}
use Rattle.mg_pool.specs.Pool.{shown}
use Rattle.mg_pool.specs.declared.batch.BatchPage.{BatchPage}
use Rattle.mg_seek.specs.Views.{IsObstacle}
use Rattle.mg_row_writes.specs.Finding.{IsInWay, RefusesWay}
use Rattle.mg_row_writes.proofs.FindLemmas.{through_empty}
use Rattle.mg_space.specs.ViewLaws.{keeps_itself}
use Rattle.mg_row_writes.proofs.finding.obstacle_of_record.Goals as goal

pub returns-clause-gives : goal.returns-clause-gives
returns-clause-gives g c = λ image tells. subst (λ (r : Option RecId). MatchResult c.obstacle_for.result
    (IsInWay (g.S.States.state_of c.args.states.now) c.args.live.now c.args.t.0 (shown c.args.store.now.dirty
    image) r)
    (RefusesWay g.D.Disk.meaning c.obstacle_for.new.store (shown c.args.store.now.dirty image) r)) (sym c.in-Some.is)
    (through_empty c.args.store.now image c.new-batch.result c.obstacle_for.result
    (λ (view : Pages). IsObstacle (g.S.States.state_of c.args.states.now) c.args.live.now c.args.t.0 view
    c.in-Some.rec)
    (λ (pages : List BatchPage). λ (view : Pages). RefusesChain g.D.Disk.meaning c.obstacle_for.new.store pages view
    c.in-Some.rec) c.new-batch.ensures.pages (c.obstacle_for.ensures.gives image tells))

pub returns-in_default-clause-keeps : goal.returns-in_default-clause-keeps
returns-in_default-clause-keeps g c = keeps_itself g.D.Disk.meaning c.args.store.now c.requires.pool

pub returns-in_default-clause-fault : goal.returns-in_default-clause-fault
returns-in_default-clause-fault g c = (c.requires.online, c.requires.online, refl)

pub returns-in_default-clause-own : goal.returns-in_default-clause-own
returns-in_default-clause-own g c = tt

pub returns-clause-keeps : goal.returns-clause-keeps
returns-clause-keeps g c = c.obstacle_for.ensures.keeps

pub returns-clause-fault : goal.returns-clause-fault
returns-clause-fault g c = c.obstacle_for.ensures.fault

pub returns-clause-own : goal.returns-clause-own
returns-clause-own g c = c.obstacle_for.ensures.own
