use Rattle.mg_space.specs.WholeLaws.{whole_kept}
use Rattle.std.proofs.Common.{arith, ◌≡◌, ◌∙◌, ℕ, List, Some, None, Option, inl, inr, refl, subst, sym, Bool}
use Rattle.std.specs.Prelude.{◌↔◌, IsTrue}
use Rattle.std.proofs.lemmas.Bool.{false≢true}
use Rattle.mg_base.specs.declared.numbers.RecId.{RecId}
use Rattle.mg_image.specs.Form.{Pages}
use Rattle.mg_space.specs.HandedLaws.{fault_up}
use Rattle.mg_space.specs.View.{viewed}
use Rattle.mg_space.specs.ViewLaws.{keeps_on}
use Rattle.mg_heap.specs.HandedLaws.{reads_same}
use Rattle.mg_seek.specs.Refusals.{RefusesRecord}
use Rattle.mg_seek.specs.Speaking.{RefusesRecords, Speaks, SpeaksAmong}
use Rattle.mg_seek.specs.TableRecords.{IsAmong}
use Rattle.mg_seek.specs.Versions.{wants}
use Rattle.mg_seek.specs.declared.whose.Wanted.TheVariants.{Living}
use Rattle.mg_seek.specs.RecordLaws.{as_kept}
use Rattle.mg_seek.proofs.Steps.{handed_on}
use Rattle.mg_seek.proofs.TableLemmas.{none_left, passed_over, record_refuses}
use Rattle.mg_space.specs.Taking.{IsGeometry}
use Rattle.mg_seek.proofs.speaking.speaker_among.Goals as goal

pub returns-in_err-does-clause-gives : goal.returns-in_err-does-clause-gives
returns-in_err-does-clause-gives g c = λ image tells.
    handed_on c.from_residual.result c.in_err-does.field-0.0
    (SpeaksAmong (g.S.States.state_of c.args.states.now) c.args.live.now (viewed c.args.store.now image c.args.batch.now) c.args.table.now c.args.key.now c.args.records.now)
    (RefusesRecords g.D.Disk.meaning c.speaks.new.store c.args.batch.now.pages (viewed c.args.store.now image c.args.batch.now) (wants (g.S.States.state_of c.args.states.now) c.args.live.now Living) c.args.table.now c.args.records.now)
    c.from_residual.ensures.0 c.from_residual.ensures.1
    (record_refuses g.D.Disk.meaning c.speaks.new.store c.args.batch.now.pages (viewed c.args.store.now image c.args.batch.now) (wants (g.S.States.state_of c.args.states.now) c.args.live.now Living) c.args.table.now c.args.records.now
    c.in-Some.rec.now c.in_err-does.field-0.0
    (c.loop-rec.invariant.among c.in-Some.rec.now (subst (λ (recs : List RecId). IsAmong recs c.in-Some.rec.now)
    (sym c.in-Some.ensures.cases.0) (inl refl)))
    (as_kept g.D.Disk.meaning c.args.store.now c.loop-rec.store image c.args.batch.now
    (λ (view : Pages). RefusesRecord g.D.Disk.meaning c.speaks.new.store c.args.batch.now.pages view (wants (g.S.States.state_of c.args.states.now) c.args.live.now Living)
    c.args.table.now c.in-Some.rec.now c.in_err-does.field-0.0) c.loop-rec.invariant.keeps tells
    (c.in_err-does.ensures.gives image)))

pub returns-then-does-clause-gives : goal.returns-then-does-clause-gives
returns-then-does-clause-gives g c = λ image tells.
    c.loop-rec.invariant.further image tells (Some c.in-Some.rec.now)
    (subst (λ (recs : List RecId). SpeaksAmong (g.S.States.state_of c.args.states.now) c.args.live.now (viewed c.args.store.now image c.args.batch.now) c.args.table.now c.args.key.now recs
    (Some c.in-Some.rec.now)) (sym c.in-Some.ensures.cases.0) (
      inl refl,
      (as_kept g.D.Disk.meaning c.args.store.now c.loop-rec.store image c.args.batch.now
          (λ (view : Pages). IsTrue c.in_ok-does.does ↔ Speaks (g.S.States.state_of c.args.states.now) c.args.live.now view
          c.args.table.now c.args.key.now c.in-Some.rec.now) c.loop-rec.invariant.keeps tells
          (c.in_ok-does.ensures.gives image)).0 c.if-does.true,
    ))

pub loop-rec-preserved : goal.loop-rec-preserved
loop-rec-preserved g c = record {
  keeps = keeps_on g.D.Disk.meaning g.met.D.Disk.counts_now c.args.store.now c.loop-rec.store
      c.speaks.new.store c.loop-rec.invariant.keeps c.in_ok-does.ensures.keeps;
  faults = c.in_ok-does.ensures.fault.2 ∙ c.loop-rec.invariant.faults;
  among = λ x is. c.loop-rec.invariant.among x (subst (λ (recs : List RecId). IsAmong recs x)
      (sym c.in-Some.ensures.cases.0) (inr is));
  further = λ image tells found later. c.loop-rec.invariant.further image tells found
      (subst (λ (recs : List RecId). SpeaksAmong (g.S.States.state_of c.args.states.now) c.args.live.now (viewed c.args.store.now image c.args.batch.now) c.args.table.now c.args.key.now
      recs found) (sym c.in-Some.ensures.cases.0)
      (passed_over (g.S.States.state_of c.args.states.now) c.args.live.now (viewed c.args.store.now image c.args.batch.now) c.args.table.now c.args.key.now c.in-Some.rec.now
      c.in-Some.later.now found
      (λ speaks. false≢true (sym c.if-does.false ∙
      (as_kept g.D.Disk.meaning c.args.store.now c.loop-rec.store image c.args.batch.now
      (λ (view : Pages). IsTrue c.in_ok-does.does ↔ Speaks (g.S.States.state_of c.args.states.now) c.args.live.now view
      c.args.table.now c.args.key.now c.in-Some.rec.now) c.loop-rec.invariant.keeps tells
      (c.in_ok-does.ensures.gives image)).1 speaks)) later));
}

pub returns-clause-gives : goal.returns-clause-gives
returns-clause-gives g c = λ image tells.
    c.loop-rec.invariant.further image tells None
    (subst (λ (recs : List RecId). SpeaksAmong (g.S.States.state_of c.args.states.now) c.args.live.now (viewed c.args.store.now image c.args.batch.now) c.args.table.now c.args.key.now recs
    None) (sym (none_left c.loop-rec.rest.now (omega (arith, c.in_default.ensures.cases)))) tt)

pub speaks-requires-clause-pool : goal.speaks-requires-clause-pool
speaks-requires-clause-pool g c = c.loop-rec.invariant.keeps.pool

pub speaks-requires-clause-geometry : goal.speaks-requires-clause-geometry
speaks-requires-clause-geometry g c = subst IsGeometry (sym c.loop-rec.invariant.keeps.geometry) c.requires.geometry

pub speaks-requires-clause-whole : goal.speaks-requires-clause-whole
speaks-requires-clause-whole g c =
    whole_kept g.D.Disk.meaning c.args.store.now c.loop-rec.store c.args.batch.now.pages c.loop-rec.invariant.keeps c.requires.whole

pub speaks-requires-clause-columns : goal.speaks-requires-clause-columns
speaks-requires-clause-columns g c = c.requires.columns

pub returns-in_err-does-clause-keeps : goal.returns-in_err-does-clause-keeps
returns-in_err-does-clause-keeps g c = keeps_on g.D.Disk.meaning g.met.D.Disk.counts_now c.args.store.now c.loop-rec.store
    c.speaks.new.store c.loop-rec.invariant.keeps c.in_err-does.ensures.keeps

pub returns-in_err-does-clause-fault : goal.returns-in_err-does-clause-fault
returns-in_err-does-clause-fault g c = fault_up Bool g.D.Disk.meaning c.args.store.now c.loop-rec.store c.speaks.new.store
    c.from_residual.result c.in_err-does.field-0.0 c.loop-rec.invariant.keeps c.loop-rec.invariant.faults
    c.from_residual.ensures.0 c.from_residual.ensures.1 c.in_err-does.ensures.fault

pub returns-in_err-does-clause-own : goal.returns-in_err-does-clause-own
returns-in_err-does-clause-own g c = reads_same Bool c.from_residual.result c.in_err-does.field-0.0 c.from_residual.ensures.0 c.from_residual.ensures.1
    c.in_err-does.ensures.own

pub returns-then-does-clause-keeps : goal.returns-then-does-clause-keeps
returns-then-does-clause-keeps g c = keeps_on g.D.Disk.meaning g.met.D.Disk.counts_now c.args.store.now c.loop-rec.store
    c.speaks.new.store c.loop-rec.invariant.keeps c.in_ok-does.ensures.keeps

pub returns-then-does-clause-fault : goal.returns-then-does-clause-fault
returns-then-does-clause-fault g c = (c.requires.online, c.in_ok-does.ensures.fault.1, c.in_ok-does.ensures.fault.2 ∙ c.loop-rec.invariant.faults)

pub returns-then-does-clause-own : goal.returns-then-does-clause-own
returns-then-does-clause-own g c = tt

pub returns-clause-keeps : goal.returns-clause-keeps
returns-clause-keeps g c = c.loop-rec.invariant.keeps

pub returns-clause-fault : goal.returns-clause-fault
returns-clause-fault g c = (c.requires.online, c.loop-rec.invariant.keeps.offline ∙ c.requires.online, c.loop-rec.invariant.faults)

pub returns-clause-own : goal.returns-clause-own
returns-clause-own g c = tt
