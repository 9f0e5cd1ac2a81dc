use Rattle.std.proofs.Common.{Option, subst}
use Rattle.mg_pool.specs.Pool.{shown}
use Rattle.mg_row_writes.specs.Finding.{IsInWay}
use Rattle.mg_seek.specs.declared.views.Obstacle.{Obstacle}
use Rattle.mg_txlist.specs.TxList.{said}
use Rattle.mg_txlist.specs.declared.list.TxList.{TxList}
use Rattle.mg_core.specs.Obstacles.{IsOfRecord, WhyOfRecord, unread}
use Rattle.mg_core.proofs.StageLemmas.{fails_reading, passed_by}
use Rattle.mg_core.proofs.parts.Core.pass_record.Goals as goal

pub returns-in-Ok-clause-passes : goal.returns-in-Ok-clause-passes
returns-in-Ok-clause-passes g c = passed_by g.D.Disk.meaning c.args.self.now c.pass.new.self c.obstacle_of_record.new.store c.args.t.0
    c.args.wait (IsOfRecord c.args.self.now c.args.t c.args.rec) (WhyOfRecord g.D.Disk.meaning c.args.self.now c.args.rec) c.in-Ok.found c.pass.result
    c.in-Ok.ensures.keeps c.in-Ok.ensures.fault
    (λ image tells. subst (λ (l : TxList). IsInWay (said l) c.args.self.now.live c.args.t.0 (shown c.args.self.now.store.dirty image) c.args.rec c.in-Ok.found)
    c.new-states.ensures (c.in-Ok.ensures.gives image tells)) c.pass.ensures.passes

pub returns-in-Err-clause-passes : goal.returns-in-Err-clause-passes
returns-in-Err-clause-passes g c = unread (fails_reading (Option Obstacle) g.D.Disk.meaning c.args.self.now c.refuse.new.self
    c.obstacle_of_record.new.store (WhyOfRecord g.D.Disk.meaning c.args.self.now c.args.rec) c.in-Err.fault c.refuse.result
    c.in-Err.ensures.keeps c.in-Err.ensures.fault c.in-Err.ensures.own c.in-Err.ensures.gives
    c.refuse.ensures.refusal c.refuse.ensures.counts c.refuse.ensures.same)
