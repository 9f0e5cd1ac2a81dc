use Rattle.std.proofs.Common.{◌≡◌, false, true}
use Rattle.mg_slots.specs.SlotField.{MayHave}
use Rattle.mg_slots.proofs.CheckLemmas.{farther}
use Rattle.mg_slots.proofs.check.nearest.Goals as goal

pub loop-far-preserved : goal.loop-far-preserved
loop-far-preserved c = λ other lawful. farther
    (MayHave c.args.b.now c.args.slot c.args.field) c.args.found c.loop-far.far other
    (c.loop-far.invariant other lawful)
    (λ is. let e : false ≡ true = c.if-may_have.ensures.1 is in
    absurd cc) (λ is. let e : false ≡ true = c.if-may_have-2.ensures.1 is in absurd cc) lawful
