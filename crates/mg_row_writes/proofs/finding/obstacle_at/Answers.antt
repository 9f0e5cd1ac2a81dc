use Rattle.std.proofs.Common.{◌∙◌, subst, sym, Option}
use Rattle.mg_base.specs.declared.numbers.RecId.{RecId}
use Rattle.mg_heap.specs.HandedLaws.{reads_same}
use Rattle.mg_image.specs.Form.{Pages}
use Rattle.mg_pool.specs.Pool.{shown}
use Rattle.mg_row_writes.specs.Finding.{IsFoundAt, IsInWay, RefusesObstacleAt, RefusesWay, way_unread, way_unspoken}
use Rattle.mg_row_writes.proofs.FindLemmas.{as_before, handed_on}
use Rattle.mg_seek.specs.declared.views.Obstacle.{Obstacle}
use Rattle.mg_space.specs.HandedLaws.{fault_same, fault_up}
use Rattle.mg_space.specs.Taking.{IsGeometry}
use Rattle.mg_space.specs.ViewLaws.{keeps_on}
use Rattle.mg_row_writes.proofs.finding.obstacle_at.Goals as goal

pub returns-in_err-rec-clause-gives : goal.returns-in_err-rec-clause-gives
returns-in_err-rec-clause-gives g c = λ image tells. handed_on c.from_residual.result c.in_err-rec.field-0.0
    (IsFoundAt (g.S.States.state_of c.args.states.now) c.args.live.now c.args.t.0
    (shown c.args.store.now.dirty image) c.args.table.now c.args.key.now)
    (RefusesObstacleAt g.D.Disk.meaning c.speaker_from.new.store
    (shown c.args.store.now.dirty image) (g.S.States.state_of c.args.states.now) c.args.live.now c.args.table.now
    c.args.key.now)
    c.from_residual.ensures.0 c.from_residual.ensures.1 (way_unspoken (c.in_err-rec.ensures.gives image tells))

pub returns-in_err-obstacle-clause-gives : goal.returns-in_err-obstacle-clause-gives
returns-in_err-obstacle-clause-gives g c = λ image tells. handed_on c.from_residual-in_err-obstacle.result
    c.in_err-obstacle.field-0.0
    (IsFoundAt (g.S.States.state_of c.args.states.now) c.args.live.now c.args.t.0
    (shown c.args.store.now.dirty image) c.args.table.now c.args.key.now)
    (RefusesObstacleAt g.D.Disk.meaning c.obstacle_of_record.new.store
    (shown c.args.store.now.dirty image) (g.S.States.state_of c.args.states.now) c.args.live.now c.args.table.now
    c.args.key.now)
    c.from_residual-in_err-obstacle.ensures.0 c.from_residual-in_err-obstacle.ensures.1
    (way_unread c.in_ok-rec.rec (c.in_ok-rec.ensures.gives image tells)
    (as_before g.D.Disk.meaning c.args.store.now c.speaker_from.new.store image
    (λ (view : Pages). RefusesWay g.D.Disk.meaning c.obstacle_of_record.new.store view c.in_ok-rec.rec
    c.in_err-obstacle.field-0.0) c.in_ok-rec.ensures.keeps tells (c.in_err-obstacle.ensures.gives image)))

pub returns-clause-gives : goal.returns-clause-gives
returns-clause-gives g c = λ image tells. record {
  spoken = c.in_ok-rec.ensures.gives image tells;
  in_way = as_before g.D.Disk.meaning c.args.store.now c.speaker_from.new.store image
      (λ (view : Pages). IsInWay (g.S.States.state_of c.args.states.now) c.args.live.now c.args.t.0
      view c.in_ok-rec.rec c.in_ok-obstacle.obstacle) c.in_ok-rec.ensures.keeps tells
      (c.in_ok-obstacle.ensures.gives image);
}

pub returns-in_err-rec-clause-keeps : goal.returns-in_err-rec-clause-keeps
returns-in_err-rec-clause-keeps g c = c.in_err-rec.ensures.keeps

pub returns-in_err-rec-clause-fault : goal.returns-in_err-rec-clause-fault
returns-in_err-rec-clause-fault g c = fault_same (Option RecId) g.D.Disk.meaning c.args.store.now
    c.speaker_from.new.store c.from_residual.result c.in_err-rec.field-0.0
    c.from_residual.ensures.0 c.from_residual.ensures.1 c.in_err-rec.ensures.fault

pub returns-in_err-rec-clause-own : goal.returns-in_err-rec-clause-own
returns-in_err-rec-clause-own g c = reads_same (Option RecId) c.from_residual.result c.in_err-rec.field-0.0
    c.from_residual.ensures.0 c.from_residual.ensures.1
    c.in_err-rec.ensures.own

pub obstacle_of_record-requires-clause-pool : goal.obstacle_of_record-requires-clause-pool
obstacle_of_record-requires-clause-pool g c = c.in_ok-rec.ensures.keeps.pool

pub obstacle_of_record-requires-clause-geometry : goal.obstacle_of_record-requires-clause-geometry
obstacle_of_record-requires-clause-geometry g c = subst IsGeometry (sym c.in_ok-rec.ensures.keeps.geometry) c.requires.geometry

pub obstacle_of_record-requires-clause-online : goal.obstacle_of_record-requires-clause-online
obstacle_of_record-requires-clause-online g c = c.in_ok-rec.ensures.fault.1

pub returns-in_err-obstacle-clause-keeps : goal.returns-in_err-obstacle-clause-keeps
returns-in_err-obstacle-clause-keeps g c = keeps_on g.D.Disk.meaning g.met.D.Disk.counts_now c.args.store.now
    c.speaker_from.new.store
    c.obstacle_of_record.new.store c.in_ok-rec.ensures.keeps c.in_err-obstacle.ensures.keeps

pub returns-in_err-obstacle-clause-fault : goal.returns-in_err-obstacle-clause-fault
returns-in_err-obstacle-clause-fault g c = fault_up (Option Obstacle) g.D.Disk.meaning c.args.store.now
    c.speaker_from.new.store c.obstacle_of_record.new.store
    c.from_residual-in_err-obstacle.result c.in_err-obstacle.field-0.0 c.in_ok-rec.ensures.keeps c.in_ok-rec.ensures.fault.2
    c.from_residual-in_err-obstacle.ensures.0 c.from_residual-in_err-obstacle.ensures.1 c.in_err-obstacle.ensures.fault

pub returns-in_err-obstacle-clause-own : goal.returns-in_err-obstacle-clause-own
returns-in_err-obstacle-clause-own g c = reads_same (Option Obstacle) c.from_residual-in_err-obstacle.result c.in_err-obstacle.field-0.0
    c.from_residual-in_err-obstacle.ensures.0 c.from_residual-in_err-obstacle.ensures.1 c.in_err-obstacle.ensures.own

pub returns-clause-keeps : goal.returns-clause-keeps
returns-clause-keeps g c = keeps_on g.D.Disk.meaning g.met.D.Disk.counts_now c.args.store.now c.speaker_from.new.store
    c.obstacle_of_record.new.store c.in_ok-rec.ensures.keeps c.in_ok-obstacle.ensures.keeps

pub returns-clause-fault : goal.returns-clause-fault
returns-clause-fault g c = (
  c.in_ok-rec.ensures.fault.0,
  c.in_ok-obstacle.ensures.fault.1,
  c.in_ok-obstacle.ensures.fault.2 ∙ c.in_ok-rec.ensures.fault.2,
)

pub returns-clause-own : goal.returns-clause-own
returns-clause-own g c = tt
