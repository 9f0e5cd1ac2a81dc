use Rattle.std.proofs.Common.{Bool, refl, subst}
use Rattle.mg_base.specs.Image.{Image}
use Rattle.mg_core_collecting.specs.Every.{CollectsListed, FailsListed, left_alone, unlooked}
use Rattle.mg_core_collecting.specs.Places.{RefusesLook, TellsSettled}
use Rattle.mg_core_collecting.proofs.EveryLemmas.{listed_so}
use Rattle.mg_core_collecting.proofs.LookLemmas.{handed_on, reading_as}
use Rattle.mg_core_collecting.proofs.every.collect_listed.Goals as goal
use Rattle.mg_pool.specs.Pool.{shown}
use Rattle.mg_space.specs.declared.fault.SpaceFault.{SpaceFault}

pub returns-in_err-settled-clause-collects : goal.returns-in_err-settled-clause-collects
returns-in_err-settled-clause-collects g c = handed_on c.from_residual.result c.in_err-settled.field-0.0
    (λ gone. CollectsListed g.D.Disk.meaning (g.S.States.state_of c.args.states.now) c.args.live.now c.args.rec gone
    c.args.store.now c.is_settled.new.store)
    (FailsListed g.D.Disk.meaning (g.S.States.state_of c.args.states.now) c.args.live.now c.args.rec c.args.store.now
    c.is_settled.new.store) c.from_residual.ensures.0 c.from_residual.ensures.1
    (unlooked (reading_as Bool g.D.Disk.meaning c.args.store.now c.is_settled.new.store
    (λ (image : Image). λ (f : SpaceFault). RefusesLook g.D.Disk.meaning c.is_settled.new.store
    (shown c.args.store.now.dirty image) c.args.rec f) c.in_err-settled.field-0.0 c.in_err-settled.ensures.keeps
    c.in_err-settled.ensures.own c.in_err-settled.ensures.fault c.in_err-settled.ensures.tells))

pub returns-then-not-settled-clause-collects : goal.returns-then-not-settled-clause-collects
returns-then-not-settled-clause-collects g c = left_alone refl c.in_ok-settled.ensures.keeps
    c.in_ok-settled.ensures.fault
    (λ image tells. subst (TellsSettled (shown c.args.store.now.dirty image) (g.S.States.state_of c.args.states.now)
    c.args.rec) c.if-not-settled.true (c.in_ok-settled.ensures.tells image tells))

pub returns-clause-collects : goal.returns-clause-collects
returns-clause-collects g c = listed_so g.D.Disk.meaning c.args.store.now c.is_settled.new.store
    c.collect_record.new.store (g.S.States.state_of c.args.states.now) c.args.live.now c.args.rec
    c.in_ok-settled.ensures.keeps c.in_ok-settled.ensures.fault
    (λ image tells. subst (TellsSettled (shown c.args.store.now.dirty image) (g.S.States.state_of c.args.states.now)
    c.args.rec) c.if-not-settled.false (c.in_ok-settled.ensures.tells image tells)) c.collect_record.result
    c.collect_record.ensures.collects
