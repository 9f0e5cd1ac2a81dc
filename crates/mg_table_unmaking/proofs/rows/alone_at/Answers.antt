use Rattle.mg_space.specs.WholeLaws.{whole_kept}
use Rattle.std.proofs.Common.{ℕ, Option, ap, false, subst, true, sym, ◌∙◌, ◌≡◌}
use Rattle.mg_base.specs.declared.damage.Damaged.{Damaged}
use Rattle.mg_base.specs.declared.numbers.RecId.{RecId}
use Rattle.mg_chain.specs.Refusals.{RefusesChain}
use Rattle.mg_image.specs.Form.{Pages}
use Rattle.mg_seek.specs.Speaking.{IsSpeaker}
use Rattle.mg_seek.specs.Versions.{IsFirst, wants}
use Rattle.mg_seek.specs.declared.whose.Wanted.TheVariants.{Any}
use Rattle.mg_space.specs.View.{viewed}
use Rattle.mg_space.specs.declared.fault.SpaceFault.TheVariants as faults
use Rattle.mg_table_unmaking.specs.Rows.{RefusesAloneAt, alone_nobody, alone_other, alone_unread, alone_unspoken}
use Rattle.mg_table_unmaking.proofs.ReadLemmas.{as_before, handed_on}
use Rattle.mg_table_unmaking.proofs.rows.alone_at.Goals as goal

pub returns-in_err-found-clause-gives : goal.returns-in_err-found-clause-gives
returns-in_err-found-clause-gives g c = λ image tells. handed_on c.from_residual.result c.in_err-found.field-0.0 _
    (RefusesAloneAt g.D.Disk.meaning c.speaker.new.store c.args.batch.now.pages
    (viewed c.args.store.now image c.args.batch.now) (g.S.States.state_of c.args.states.now) c.args.live.now c.args.t.0
    c.args.table.now c.args.key.now) c.from_residual.ensures.0 c.from_residual.ensures.1
    (alone_unspoken (c.in_err-found.ensures.gives image tells))

pub returns-in_default-clause-gives : goal.returns-in_default-clause-gives
returns-in_default-clause-gives g c = λ image tells. alone_nobody
    (subst (λ (o : Option RecId). IsSpeaker (g.S.States.state_of c.args.states.now) c.args.live.now
    (viewed c.args.store.now image c.args.batch.now) c.args.table.now c.args.key.now o) c.in_default.is
    (c.in_ok-found.ensures.gives image tells)) (ap (λ (it : Damaged). faults.Damaged it) c.unlawful.ensures)

pub returns-in_err-newest-clause-gives : goal.returns-in_err-newest-clause-gives
returns-in_err-newest-clause-gives g c = λ image tells.
    handed_on c.from_residual-in_err-newest.result c.in_err-newest.field-0.0 _
    (RefusesAloneAt g.D.Disk.meaning c.first_version.new.store c.args.batch.now.pages
    (viewed c.args.store.now image c.args.batch.now) (g.S.States.state_of c.args.states.now) c.args.live.now c.args.t.0
    c.args.table.now c.args.key.now) c.from_residual-in_err-newest.ensures.0 c.from_residual-in_err-newest.ensures.1
    (alone_unread c.in-Some.rec
    (subst (λ (o : Option RecId). IsSpeaker (g.S.States.state_of c.args.states.now) c.args.live.now
    (viewed c.args.store.now image c.args.batch.now) c.args.table.now c.args.key.now o) c.in-Some.is
    (c.in_ok-found.ensures.gives image tells))
    (as_before g.D.Disk.meaning c.args.store.now c.speaker.new.store image c.args.batch.now
    (λ (view : Pages). RefusesChain g.D.Disk.meaning c.first_version.new.store c.args.batch.now.pages
    view c.in-Some.rec c.in_err-newest.field-0.0) c.in_ok-found.ensures.keeps tells
    (c.in_err-newest.ensures.gives image)))

pub returns-then-is_alone-clause-gives : goal.returns-then-is_alone-clause-gives
returns-then-is_alone-clause-gives g c = λ image tells. record {
  spoken = subst (λ (o : Option RecId). IsSpeaker (g.S.States.state_of c.args.states.now) c.args.live.now
      (viewed c.args.store.now image c.args.batch.now) c.args.table.now c.args.key.now o) c.in-Some.is
      (c.in_ok-found.ensures.gives image tells);
  newest = c.in_ok-newest.newest;
  first = as_before g.D.Disk.meaning c.args.store.now c.speaker.new.store image c.args.batch.now
      (λ (view : Pages). IsFirst view (wants (g.S.States.state_of c.args.states.now) c.args.live.now Any)
      c.in-Some.rec c.in_ok-newest.newest) c.in_ok-found.ensures.keeps tells (c.in_ok-newest.ensures.gives image);
  alone = c.is_alone.ensures.0 c.if-is_alone.true;
}

pub returns-clause-gives : goal.returns-clause-gives
returns-clause-gives g c = λ image tells. alone_other c.in-Some.rec c.in_ok-newest.newest
    (subst (λ (o : Option RecId). IsSpeaker (g.S.States.state_of c.args.states.now) c.args.live.now
    (viewed c.args.store.now image c.args.batch.now) c.args.table.now c.args.key.now o) c.in-Some.is
    (c.in_ok-found.ensures.gives image tells))
    (as_before g.D.Disk.meaning c.args.store.now c.speaker.new.store image c.args.batch.now
    (λ (view : Pages). IsFirst view (wants (g.S.States.state_of c.args.states.now) c.args.live.now Any)
    c.in-Some.rec c.in_ok-newest.newest) c.in_ok-found.ensures.keeps tells (c.in_ok-newest.ensures.gives image))
    (λ alone. let h : true ≡ false = sym (c.is_alone.ensures.1 alone) ∙ c.if-is_alone.false in absurd cc)
    (ap (λ (it : Damaged). faults.Damaged it) c.unlawful-2.ensures)

pub first_version-requires-clause-whole : goal.first_version-requires-clause-whole
first_version-requires-clause-whole g c = whole_kept g.D.Disk.meaning c.args.store.now
    c.speaker.new.store c.args.batch.now.pages
    c.in_ok-found.ensures.keeps c.requires.whole
