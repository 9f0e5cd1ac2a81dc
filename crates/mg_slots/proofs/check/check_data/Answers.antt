use Rattle.std.proofs.Common.{arith, refl}
use Rattle.mg_slots.specs.Damage.{IsFirstDamage, HasFront, slot}
use Rattle.mg_slots.specs.DamageLaws.{lawful_of_fields, wanted_count_fits}
use Rattle.mg_slots.proofs.CheckLemmas.{if_err, when_err}
use Rattle.mg_slots.proofs.check.check_data.Goals as goal

pub returns-in_err-check_front-clause-when : goal.returns-in_err-check_front-clause-when
returns-in_err-check_front-clause-when c = when_err c.args.b.now c.args.page c.args.owner
    c.args.seq c.from_residual.result c.in_err-check_front.field-0.0 c.from_residual.ensures.0
    c.in_err-check_front.ensures.damaged

pub check_slot-requires : goal.check_slot-requires
check_slot-requires c =
    let front : HasFront c.args.b.now c.args.page c.args.owner c.args.seq =
    c.in_ok-check_front.ensures.as_wanted in
    omega (arith, wanted_count_fits c.args.b.now (omega arith) front.count)

pub returns-in_err-check_slot-clause-when : goal.returns-in_err-check_slot-clause-when
returns-in_err-check_slot-clause-when c = when_err c.args.b.now c.args.page c.args.owner c.args.seq
    c.from_residual-in_err-check_slot.result c.in_err-check_slot.field-0.0
    c.from_residual-in_err-check_slot.ensures.0
    (slot c.in_err-check_slot.field-0.0 c.loop-slot.slot c.in_ok-check_front.ensures.as_wanted
    (omega arith) c.loop-slot.invariant c.in_err-check_slot.ensures.damaged)

pub returns-in_err-check_slot-clause-damaged : goal.returns-in_err-check_slot-clause-damaged
returns-in_err-check_slot-clause-damaged c = if_err
    (IsFirstDamage c.args.b.now c.args.page c.args.owner c.args.seq)
    c.from_residual-in_err-check_slot.result c.in_err-check_slot.field-0.0
    c.from_residual-in_err-check_slot.ensures.1
    (slot c.in_err-check_slot.field-0.0 c.loop-slot.slot c.in_ok-check_front.ensures.as_wanted
    (omega arith) c.loop-slot.invariant c.in_err-check_slot.ensures.damaged)

pub returns-clause-when : goal.returns-clause-when
returns-clause-when c =
    let front : HasFront c.args.b.now c.args.page c.args.owner c.args.seq =
    c.in_ok-check_front.ensures.as_wanted in (
      λ ok. (
        front.common,
        lawful_of_fields c.args.b.now c.args.page c.args.owner c.args.seq
            c.requires.least c.requires.greatest front (λ s below. c.loop-slot.invariant s
            (omega arith)),
      ),
      λ both. refl,
    )
