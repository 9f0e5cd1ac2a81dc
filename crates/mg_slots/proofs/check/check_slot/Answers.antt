use Rattle.std.proofs.Common.{◌≡◌, false, true, refl, subst, ℕ}
use Rattle.mg_slots.specs.Damage.{MayHaveOffset}
use Rattle.mg_slots.proofs.CheckLemmas.{len_damage, offset_damage}
use Rattle.mg_slots.proofs.check.check_slot.Goals as goal

pub returns-then-not-may_have-clause-damaged : goal.returns-then-not-may_have-clause-damaged
returns-then-not-may_have-clause-damaged c = offset_damage c.args.b.now c.args.page c.args.slot
    c.offset-at.result c.nearest-wanted.result c.damage.result c.offset-at.ensures
    (λ is. let e : false ≡ true = c.if-not-may_have.ensures.1 is in
    absurd cc) c.nearest-wanted.ensures c.damage.ensures

pub returns-then-not-may_have-2-clause-damaged : goal.returns-then-not-may_have-2-clause-damaged
returns-then-not-may_have-2-clause-damaged c = len_damage c.args.b.now c.args.page c.args.slot
    c.cell_len-len.result c.nearest-wanted-then-not-may_have-2.result
    c.damage-then-not-may_have-2.result c.cell_len-len.ensures
    (let P : ℕ → Type 0 = MayHaveOffset c.args.b.now c.args.slot in
    subst P c.offset-at.ensures (c.if-not-may_have.ensures.0 refl))
    (λ is. let e : false ≡ true = c.if-not-may_have-2.ensures.1 is in
    absurd cc) c.nearest-wanted-then-not-may_have-2.ensures c.damage-then-not-may_have-2.ensures
