use Rattle.std.proofs.Common.{◌≡◌, ◌∙◌, List, ap, refl, subst}
use Rattle.mg_base.specs.declared.geometry.Geometry.{Geometry}
use Rattle.mg_row_writes.specs.Laying.{KeysMayBeLaid}
use Rattle.mg_row_writes.specs.Storing.{MayBeStored}
use Rattle.mg_works.specs.Works.{Working, unasked, with_work}
use Rattle.mg_core.proofs.StageLemmas.{core_on, kept_active, retracted_active}
use Rattle.mg_core.proofs.parts.Core.lay_kept.Goals as goal

pub returns-in-Ok-lay-clause-core : goal.returns-in-Ok-lay-clause-core
returns-in-Ok-lay-clause-core g c = core_on g.D.Disk.meaning c.args.self.now _ c.lay.new.store c.args.self.now.waits c.unask.new.self c.args.self.now.damage
    c.args.self.now.shortages c.requires.core c.lay.ensures.pool c.lay.ensures.geometry
    (kept_active c.args.self.now.works c.keep.new.self c.unask.new.self c.args.t.0 c.args.table.now.pointer.0 c.args.key.now
    c.args.before.was c.in-Ok-keep.ensures.ok c.unask.ensures) refl

pub returns-in-Err-lay-clause-core : goal.returns-in-Err-lay-clause-core
returns-in-Err-lay-clause-core g c = core_on g.D.Disk.meaning c.args.self.now c.refuse-in-Err-lay.new.self c.lay.new.store c.args.self.now.waits
    c.retract.new.self c.refuse-in-Err-lay.new.self.damage c.refuse-in-Err-lay.new.self.shortages c.requires.core
    c.lay.ensures.pool c.lay.ensures.geometry
    (retracted_active c.args.self.now.works c.keep.new.self c.unask.new.self c.retract.new.self c.args.t.0 c.args.table.now.pointer.0
    c.args.key.now c.args.before.was c.in-Ok-keep.ensures.ok c.unask.ensures c.retract.ensures)
    c.refuse-in-Err-lay.ensures.same

pub returns-in-Ok-lay-clause-lays : goal.returns-in-Ok-lay-clause-lays
returns-in-Ok-lay-clause-lays g c = record {
  laid = record {
    may = subst (λ (k : Geometry). MayBeStored k.size c.args.table.now.pointer.0 c.args.version.now) c.geometry-size.ensures
        (c.may_be_stored.ensures.0 c.if-not-may_be_stored.false);
    short = subst (λ (k : Geometry). KeysMayBeLaid k.size c.args.table.now c.args.write.now) c.geometry-size.ensures
        (c.in-Ok.ensures.0 c.if-not-short.false);
    lays = c.in-Ok-lay.ensures.lays.lays;
    same = ap (λ (ws : List Working). record c.args.self.now { store = c.lay.new.store; works = ws })
        (c.unask.ensures ∙ ap (with_work c.args.t.0 unasked) c.in-Ok-keep.ensures.ok);
  };
  at = c.in-Ok-lay.ensures.lays.at;
}

pub lay-requires-clause-short : goal.lay-requires-clause-short
lay-requires-clause-short g c = subst (λ (k : Geometry). KeysMayBeLaid k.size c.args.table.now c.args.write.now)
    c.geometry-size.ensures (c.in-Ok.ensures.0 c.if-not-short.false)
