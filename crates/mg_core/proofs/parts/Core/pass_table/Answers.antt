use Rattle.std.proofs.Common.{inr, subst}
use Rattle.mg_model.specs.Catalog.{table_key}
use Rattle.mg_model.specs.declared.refusal.Refusal.{Refusal}
use Rattle.mg_model.specs.declared.refusal.Refusal.TheVariants.{Memory}
use Rattle.mg_pool.specs.Pool.{shown}
use Rattle.mg_row_writes.specs.Finding.{IsFoundAt, RefusesObstacleAt}
use Rattle.mg_row_writes.specs.declared.finding.ObstacleAt.{ObstacleAt}
use Rattle.mg_txlist.specs.TxList.{said}
use Rattle.mg_txlist.specs.declared.list.TxList.{TxList}
use Rattle.mg_value.specs.declared.value.Value.{Value}
use Rattle.mg_core.specs.Obstacles.{IsOfTable, IsTold, PassesTable, Stops, WhyOfTable, unread}
use Rattle.mg_core.proofs.StageLemmas.{at_table, fails_reading, obstacle_found, passed_noting}
use Rattle.mg_core.proofs.parts.Core.pass_table.Goals as goal

pub returns-in-Ok-obstacle_at-clause-passes : goal.returns-in-Ok-obstacle_at-clause-passes
returns-in-Ok-obstacle_at-clause-passes g c = at_table (λ (r : Refusal). IsTold c.args.self.now c.pass.new.self Memory r)
    (PassesTable g.D.Disk.meaning c.args.self.now c.pass.new.self c.args.t c.args.wait c.args.table.now.name)
    (Stops g.D.Disk.meaning c.args.self.now c.pass.new.self c.args.t.0 c.args.wait (IsOfTable c.args.self.now c.args.t c.args.table.now.name)
    (WhyOfTable g.D.Disk.meaning c.args.self.now c.args.table.now.name)) c.pass.result
    (passed_noting g.D.Disk.meaning c.args.self.now c.remember_row.new.self c.pass.new.self c.obstacle_at.new.store
    c.args.t.0 c.args.wait (IsOfTable c.args.self.now c.args.t c.args.table.now.name)
    (WhyOfTable g.D.Disk.meaning c.args.self.now c.args.table.now.name) c.in-Ok-obstacle_at.found.obstacle
    c.pass.result c.in-Ok-obstacle_at.ensures.keeps c.in-Ok-obstacle_at.ensures.fault
    (λ image tells. obstacle_found c.in-Ok-obstacle_at.found
    (subst (λ (k : Value). IsFoundAt (said c.args.self.now.list) c.args.self.now.live c.args.t.0 (shown c.args.self.now.store.dirty image) c.args.self.now.catalog k
    c.in-Ok-obstacle_at.found) c.in-Ok.ensures
    (subst (λ (l : TxList). IsFoundAt (said l) c.args.self.now.live c.args.t.0 (shown c.args.self.now.store.dirty image) c.args.self.now.catalog c.in-Ok.key
    c.in-Ok-obstacle_at.found) c.new-states.ensures (c.in-Ok-obstacle_at.ensures.gives image tells))))
    c.remember_row.ensures.same c.pass.ensures.passes)

pub returns-clause-passes : goal.returns-clause-passes
returns-clause-passes g c = inr (unread (fails_reading ObstacleAt g.D.Disk.meaning c.args.self.now c.refuse.new.self
    c.obstacle_at.new.store (WhyOfTable g.D.Disk.meaning c.args.self.now c.args.table.now.name) c.in-Err-obstacle_at.fault c.refuse.result
    c.in-Err-obstacle_at.ensures.keeps c.in-Err-obstacle_at.ensures.fault c.in-Err-obstacle_at.ensures.own
    (λ image tells. subst (λ (k : Value). RefusesObstacleAt g.D.Disk.meaning c.obstacle_at.new.store (shown c.args.self.now.store.dirty image)
    (said c.args.self.now.list) c.args.self.now.live c.args.self.now.catalog k c.in-Err-obstacle_at.fault) c.in-Ok.ensures
    (subst (λ (l : TxList). RefusesObstacleAt g.D.Disk.meaning c.obstacle_at.new.store (shown c.args.self.now.store.dirty image)
    (said l) c.args.self.now.live c.args.self.now.catalog c.in-Ok.key c.in-Err-obstacle_at.fault) c.new-states.ensures
    (c.in-Err-obstacle_at.ensures.gives image tells)))
    c.refuse.ensures.refusal c.refuse.ensures.counts c.refuse.ensures.same))
