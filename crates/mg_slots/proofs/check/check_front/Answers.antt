use Rattle.std.proofs.Common.{◌≡◌, arith, sym, ◌∙◌, ap}
use Rattle.mg_base.specs.declared.damage.Field.TheVariants.{Count}
use Rattle.mg_slots.specs.Damage.{IsFirstDamage, common}
use Rattle.mg_slots.specs.DamageLaws.{wanted_count_fits}
use Rattle.mg_slots.specs.DataPage.{least_offset, slot_count}
use Rattle.mg_slots.proofs.CheckLemmas.{count_damage, if_err, low_damage, same_ok}
use Rattle.mg_slots.proofs.check.check_front.Goals as goal

pub returns-in_err-check_common-clause-damaged : goal.returns-in_err-check_common-clause-damaged
returns-in_err-check_common-clause-damaged c =
    if_err (IsFirstDamage c.args.b.now c.args.page c.args.owner c.args.seq) c.from_residual.result
    c.in_err-check_common.field-0.0 c.from_residual.ensures.1
    (common c.in_err-check_common.field-0.0 (sym c.check_common.ensures
    ∙ c.in_err-check_common.was))

pub returns-in_err-same-clause-damaged : goal.returns-in_err-same-clause-damaged
returns-in_err-same-clause-damaged c =
    if_err (IsFirstDamage c.args.b.now c.args.page c.args.owner c.args.seq)
    c.from_residual-in_err-same.result c.in_err-same.field-0.0
    c.from_residual-in_err-same.ensures.1
    (count_damage c.args.b.now c.args.page c.args.owner c.args.seq c.from.result
    c.lawful_count-count.result c.in_err-same.field-0.0 (sym c.in_ok-check_common.ensures)
    (omega arith) c.lawful_count-count.ensures c.in_err-same.ensures)

pub least_offset-low-requires : goal.least_offset-low-requires
least_offset-low-requires c =
    let same : c.from.result ≡ c.lawful_count-count.result =
    same_ok c.args.page Count c.from.result c.lawful_count-count.result c.in_ok-same.field-0
    c.in_ok-same.ensures in
    let found : c.from.result ≡ slot_count c.args.b.now = omega arith in
    omega (
      arith,
      wanted_count_fits c.args.b.now (omega arith) (sym found ∙ (same
          ∙ c.lawful_count-count.ensures)),
    )

pub returns-clause-damaged : goal.returns-clause-damaged
returns-clause-damaged c =
    let same : c.from.result ≡ c.lawful_count-count.result =
    same_ok c.args.page Count c.from.result c.lawful_count-count.result c.in_ok-same.field-0
    c.in_ok-same.ensures in
    let found : c.from.result ≡ slot_count c.args.b.now = omega arith in
    let count : c.lawful_count-count.result ≡ slot_count c.args.b.now = omega arith in
    low_damage c.args.b.now c.args.page c.args.owner c.args.seq c.from-2.result
    c.least_offset-low.result c.same-2.result (sym c.in_ok-check_common.ensures) (sym count
    ∙ c.lawful_count-count.ensures)
    (omega arith) (c.least_offset-low.ensures ∙ ap
    (least_offset c.args.b.now) count) c.same-2.ensures
