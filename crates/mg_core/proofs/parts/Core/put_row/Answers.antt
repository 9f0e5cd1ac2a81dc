use Rattle.std.proofs.Common.{refl, subst}
use Rattle.mg_pool.specs.Pool.{shown}
use Rattle.mg_row_writes.specs.Befores.{IsBefore}
use Rattle.mg_row_writes.specs.Finding.{RefusesSeen}
use Rattle.mg_row_writes.specs.declared.before.Before.{Before}
use Rattle.mg_seek.specs.Versions.{wants}
use Rattle.mg_seek.specs.declared.whose.Wanted.TheVariants.{Any}
use Rattle.mg_txlist.specs.TxList.{said}
use Rattle.mg_txlist.specs.declared.list.TxList.{TxList}
use Rattle.mg_core.specs.Putting.{FailsPut, WhyNotBefore, no_before, no_lay}
use Rattle.mg_core.proofs.StageLemmas.{fails_reading}
use Rattle.mg_core.proofs.WriteLemmas.{has_by, put_noted, refused_on}
use Rattle.mg_core.proofs.parts.Core.put_row.Goals as goal

pub returns-in_err-at-in-Ok-before_at-clause-puts : goal.returns-in_err-at-in-Ok-before_at-clause-puts
returns-in_err-at-in-Ok-before_at-clause-puts g c = refused_on c.from_residual.result c.in_err-at-in-Ok-before_at.field-0.0 _
    (FailsPut g.D.Disk.meaning c.args.self.now c.lay_kept.new.self c.args.t c.args.table.now c.args.write.now
    c.args.key.now c.args.rec) c.from_residual.ensures.0 c.from_residual.ensures.1
    (no_lay (record c.args.self.now { store = c.before_at.new.store }) c.in-Ok-before_at.before c.in-Ok.version
    (has_by g.D.Disk.meaning c.args.self.now c.before_at.new.store c.args.t c.args.table.now c.args.write.now
    c.args.rec c.in-Ok-before_at.before c.in-Ok.version c.in-Ok.ensures c.in-Ok-before_at.ensures.keeps
    c.in-Ok-before_at.ensures.fault
    (λ image tells. subst (λ (l : TxList). IsBefore (said l) c.args.self.now.live c.args.t.0 (shown c.args.self.now.store.dirty image) c.args.table.now c.args.rec
    c.in-Ok-before_at.before) c.new-states.ensures (c.in-Ok-before_at.ensures.gives image tells))) c.in_err-at-in-Ok-before_at.ensures.lays)

pub returns-in-Ok-before_at-clause-puts : goal.returns-in-Ok-before_at-clause-puts
returns-in-Ok-before_at-clause-puts g c = put_noted g.D.Disk.meaning c.args.self.now
    (record c.args.self.now { store = c.before_at.new.store }) c.lay_kept.new.self c.note_row.new.self c.args.t
    c.args.table.now c.args.write.now c.args.key.now c.args.rec c.in-Ok-before_at.before c.in-Ok.version
    c.in_ok-at-in-Ok-before_at.at (has_by g.D.Disk.meaning c.args.self.now c.before_at.new.store c.args.t c.args.table.now c.args.write.now
    c.args.rec c.in-Ok-before_at.before c.in-Ok.version c.in-Ok.ensures c.in-Ok-before_at.ensures.keeps
    c.in-Ok-before_at.ensures.fault
    (λ image tells. subst (λ (l : TxList). IsBefore (said l) c.args.self.now.live c.args.t.0 (shown c.args.self.now.store.dirty image) c.args.table.now c.args.rec
    c.in-Ok-before_at.before) c.new-states.ensures (c.in-Ok-before_at.ensures.gives image tells))) c.in_ok-at-in-Ok-before_at.ensures.lays c.note_row.ensures.notes

pub returns-clause-puts : goal.returns-clause-puts
returns-clause-puts g c = no_before (fails_reading Before g.D.Disk.meaning c.args.self.now c.refuse.new.self c.before_at.new.store
    (WhyNotBefore g.D.Disk.meaning c.args.self.now c.args.table.now c.args.rec) c.in-Err-before_at.fault c.refuse.result
    c.in-Err-before_at.ensures.keeps c.in-Err-before_at.ensures.fault c.in-Err-before_at.ensures.own
    (λ image tells. subst (λ (l : TxList). RefusesSeen g.D.Disk.meaning c.before_at.new.store (shown c.args.self.now.store.dirty image)
    (wants (said l) c.args.self.now.live Any) c.args.table.now c.args.rec c.in-Err-before_at.fault) c.new-states.ensures
    (c.in-Err-before_at.ensures.gives image tells))
    c.refuse.ensures.refusal c.refuse.ensures.counts c.refuse.ensures.same)
