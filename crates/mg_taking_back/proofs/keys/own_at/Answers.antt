use Rattle.std.proofs.Common.{ℕ, [], Option, ap, false, subst, true, sym, ◌∙◌, ◌≡◌}
use Rattle.mg_base.specs.declared.damage.Damaged.{Damaged}
use Rattle.mg_base.specs.declared.numbers.RecId.{RecId}
use Rattle.mg_chain.specs.Refusals.{RefusesChain}
use Rattle.mg_image.specs.Form.{Pages}
use Rattle.mg_pool.specs.Pool.{shown}
use Rattle.mg_seek.specs.Speaking.{IsSpeaker}
use Rattle.mg_seek.specs.Versions.{IsFirst, wants}
use Rattle.mg_seek.specs.declared.whose.Wanted.TheVariants.{Any}
use Rattle.mg_space.specs.declared.fault.SpaceFault.TheVariants as faults
use Rattle.mg_taking_back.specs.Keys.{IsOwnAt, RefusesOwnAt, own_nobody, own_other, own_unread, own_unspoken}
use Rattle.mg_taking_back.proofs.ReadLemmas.{as_before, handed_on}
use Rattle.mg_taking_back.proofs.keys.own_at.Goals as goal

pub returns-in_err-found-clause-gives : goal.returns-in_err-found-clause-gives
returns-in_err-found-clause-gives g c = λ image tells. handed_on c.from_residual.result c.in_err-found.field-0.0
    (IsOwnAt (g.S.States.state_of c.args.states.now) c.args.live.now c.args.t.0 (shown c.args.store.now.dirty image) c.args.table.now c.args.key.now)
    (RefusesOwnAt g.D.Disk.meaning c.speaker_at.new.store (shown c.args.store.now.dirty image)
    (g.S.States.state_of c.args.states.now) c.args.live.now c.args.t.0 c.args.table.now c.args.key.now)
    c.from_residual.ensures.0 c.from_residual.ensures.1 (own_unspoken (c.in_err-found.ensures.gives image tells))

pub returns-in_default-clause-gives : goal.returns-in_default-clause-gives
returns-in_default-clause-gives g c = λ image tells. own_nobody
    (subst (λ (o : Option RecId). IsSpeaker (g.S.States.state_of c.args.states.now) c.args.live.now (shown c.args.store.now.dirty image) c.args.table.now c.args.key.now o) c.in_default.is (c.in_ok-found.ensures.gives image tells))
    (ap (λ (it : Damaged). faults.Damaged it) c.unlawful.ensures)

pub returns-in_err-newest-clause-gives : goal.returns-in_err-newest-clause-gives
returns-in_err-newest-clause-gives g c = λ image tells. handed_on c.from_residual-in_err-newest.result c.in_err-newest.field-0.0
    (IsOwnAt (g.S.States.state_of c.args.states.now) c.args.live.now c.args.t.0 (shown c.args.store.now.dirty image) c.args.table.now c.args.key.now)
    (RefusesOwnAt g.D.Disk.meaning c.newest_at.new.store (shown c.args.store.now.dirty image)
    (g.S.States.state_of c.args.states.now) c.args.live.now c.args.t.0 c.args.table.now c.args.key.now)
    c.from_residual-in_err-newest.ensures.0 c.from_residual-in_err-newest.ensures.1
    (own_unread c.in-Some.rec
    (subst (λ (o : Option RecId). IsSpeaker (g.S.States.state_of c.args.states.now) c.args.live.now (shown c.args.store.now.dirty image) c.args.table.now c.args.key.now o) c.in-Some.is (c.in_ok-found.ensures.gives image tells))
    (as_before g.D.Disk.meaning c.args.store.now c.speaker_at.new.store image
    (λ (view : Pages). RefusesChain g.D.Disk.meaning c.newest_at.new.store [] view c.in-Some.rec
    c.in_err-newest.field-0.0) c.in_ok-found.ensures.keeps tells (c.in_err-newest.ensures.gives image)))

pub returns-then-is_own-clause-gives : goal.returns-then-is_own-clause-gives
returns-then-is_own-clause-gives g c = λ image tells. record {
  spoken = (subst (λ (o : Option RecId). IsSpeaker (g.S.States.state_of c.args.states.now) c.args.live.now (shown c.args.store.now.dirty image) c.args.table.now c.args.key.now o) c.in-Some.is (c.in_ok-found.ensures.gives image tells));
  newest = c.in_ok-newest.newest;
  first = (as_before g.D.Disk.meaning c.args.store.now c.speaker_at.new.store image
      (λ (view : Pages). IsFirst view (wants (g.S.States.state_of c.args.states.now) c.args.live.now Any) c.in-Some.rec c.in_ok-newest.newest)
      c.in_ok-found.ensures.keeps tells (c.in_ok-newest.ensures.gives image));
  own = c.is_own.ensures.0 c.if-is_own.true;
}

pub returns-clause-gives : goal.returns-clause-gives
returns-clause-gives g c = λ image tells. own_other c.in-Some.rec c.in_ok-newest.newest
    (subst (λ (o : Option RecId). IsSpeaker (g.S.States.state_of c.args.states.now) c.args.live.now (shown c.args.store.now.dirty image) c.args.table.now c.args.key.now o) c.in-Some.is (c.in_ok-found.ensures.gives image tells))
    (as_before g.D.Disk.meaning c.args.store.now c.speaker_at.new.store image
    (λ (view : Pages). IsFirst view (wants (g.S.States.state_of c.args.states.now) c.args.live.now Any) c.in-Some.rec c.in_ok-newest.newest)
    c.in_ok-found.ensures.keeps tells (c.in_ok-newest.ensures.gives image))
    (λ own. let h : true ≡ false = sym (c.is_own.ensures.1 own) ∙ c.if-is_own.false in absurd cc)
    (ap (λ (it : Damaged). faults.Damaged it) c.unlawful-2.ensures)
