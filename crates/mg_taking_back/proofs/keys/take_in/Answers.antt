use Rattle.std.proofs.Common.{ap, refl, subst, sym, ◌∙◌}
use Rattle.std.proofs.lemmas.Bool.{false≢true}
use Rattle.mg_base.specs.declared.damage.Damaged.{Damaged}
use Rattle.mg_base.specs.declared.numbers.RecId.{RecId}
use Rattle.mg_pool.specs.Pool.{shown}
use Rattle.mg_space.specs.declared.fault.SpaceFault.TheVariants as faults
use Rattle.mg_value.specs.declared.value.Value.{Value}
use Rattle.mg_taking_back.specs.Formers.{MayComeBack}
use Rattle.mg_taking_back.specs.Keys.{FailsKey, IsOwnAt, RefusesOwnAt, key_unfit, key_unread}
use Rattle.mg_taking_back.proofs.KeyLemmas.{key_comes}
use Rattle.mg_taking_back.proofs.ReadLemmas.{fault_read, fault_told, handed_on}
use Rattle.mg_taking_back.proofs.keys.take_in.Goals as goal

pub returns-then-not-may_come_back-clause-takes : goal.returns-then-not-may_come_back-clause-takes
returns-then-not-may_come_back-clause-takes g c = key_unfit
    (λ may. false≢true (sym c.if-not-may_come_back.true ∙ c.may_come_back.ensures.1
    (subst (λ (k : Value). MayComeBack c.args.table.now.shape k c.args.was) (sym c.value.ensures.value) may)))
    (ap (λ (it : Damaged). faults.Damaged it) c.unlawful.ensures) refl

pub returns-in_err-rec-clause-takes : goal.returns-in_err-rec-clause-takes
returns-in_err-rec-clause-takes g c = handed_on c.from_residual.result c.in_err-rec.field-0.0 _
    (FailsKey g.D.Disk.meaning c.args.store.now c.own_at.new.store (g.S.States.state_of c.args.states.now)
    c.args.live.now c.args.t.0 c.args.table.now c.args.key c.args.was)
    c.from_residual.ensures.0 c.from_residual.ensures.1
    (key_unread c.in_err-rec.ensures.keeps (fault_read RecId (Unit {0}) c.in_err-rec.field-0.0 c.in_err-rec.ensures.own)
    (fault_told RecId (Unit {0}) g.D.Disk.meaning c.args.store.now c.own_at.new.store c.in_err-rec.field-0.0
    c.in_err-rec.ensures.fault)
    (λ image tells. subst (λ (k : Value). RefusesOwnAt g.D.Disk.meaning c.own_at.new.store
    (shown c.args.store.now.dirty image) (g.S.States.state_of c.args.states.now)
    c.args.live.now c.args.t.0 c.args.table.now k c.in_err-rec.field-0.0) c.value-2.ensures.value
    (c.in_err-rec.ensures.gives image tells)))

pub returns-clause-takes : goal.returns-clause-takes
returns-clause-takes g c = key_comes g.D.Disk.meaning c.args.store.now c.own_at.new.store c.put_back.new.store
    (g.S.States.state_of c.args.states.now) c.args.live.now c.args.t.0 c.args.table.now c.args.key c.args.was
    c.in_ok-rec.rec c.former.result c.put_back.result
    (subst (λ (k : Value). MayComeBack c.args.table.now.shape k c.args.was) c.value.ensures.value
    (c.may_come_back.ensures.0 c.if-not-may_come_back.false)) c.in_ok-rec.ensures.keeps c.in_ok-rec.ensures.fault
    (λ image tells. subst (λ (k : Value). IsOwnAt (g.S.States.state_of c.args.states.now) c.args.live.now c.args.t.0
    (shown c.args.store.now.dirty image) c.args.table.now k c.in_ok-rec.rec) c.value-2.ensures.value
    (c.in_ok-rec.ensures.gives image tells))
    c.former.ensures.former c.put_back.ensures.puts
