use Rattle.std.proofs.Common.{Bool, Option, None, sym, ◌∙◌, subst}
use Rattle.mg_model.specs.declared.refusal.Refusal.{Refusal}
use Rattle.mg_transcript.specs.Shorthand.{GivesUp, IsGot, Settles}
use Rattle.mg_courses.specs.Running.{refusal_of}
use Rattle.mg_shorthand.specs.Going.{Spares}
use Rattle.mg_shorthand.proofs.GetLemmas.{got_fault, got_fine, refusal_fault, refusal_none}
use Rattle.mg_shorthand.proofs.GoingLemmas.{went_as}
use Rattle.mg_shorthand.proofs.getting.end_reading.Goals as goal

pub returns-in-Some-clause-goes : goal.returns-in-Some-clause-goes
returns-in-Some-clause-goes g c = λ o h not stands active.
    went_as g.R.Records.meaning c.args.r.now c.give_up.new.r o h c.args.t c.give_up.result.over
    (λ after. GivesUp o h c.args.t c.in-Some.fault after c.give_up.result.reply)
    (λ after. IsGot o h c.args.t c.args.ending.reply after c.give_up.result.reply)
    (λ after up. got_fault o h c.args.t c.args.ending.reply c.in-Some.fault after c.give_up.result.reply
    (sym c.fault_in.ensures ∙ c.in-Some.is) up)
    (c.give_up.ensures.goes o h stands active)

pub returns-in-Some-clause-spares : goal.returns-in-Some-clause-spares
returns-in-Some-clause-spares g c = λ before spares.
    let m = g.R.Records.meaning in
    c.give_up.ensures.spares before
    (subst (λ (b : Bool). Spares m before c.args.r.now c.args.t (refusal_of c.in-Some.fault) b) c.if-ending.false
    (subst (λ (r : Option Refusal). Spares m before c.args.r.now c.args.t r c.args.ending.over)
    (refusal_fault c.args.ending.reply c.in-Some.fault (sym c.fault_in.ensures ∙ c.in-Some.is)) spares))

pub returns-in-None-clause-goes : goal.returns-in-None-clause-goes
returns-in-None-clause-goes g c = λ o h not stands active.
    went_as g.R.Records.meaning c.args.r.now c.settle.new.r o h c.args.t c.settle.result.over
    (λ after. Settles o h c.args.t c.args.ending.reply after c.settle.result.reply)
    (λ after. IsGot o h c.args.t c.args.ending.reply after c.settle.result.reply)
    (λ after settles. got_fine o h c.args.t c.args.ending.reply after c.settle.result.reply
    (sym c.fault_in.ensures ∙ c.in-None.is) settles)
    (c.settle.ensures.goes o h stands active)

pub returns-in-None-clause-spares : goal.returns-in-None-clause-spares
returns-in-None-clause-spares g c = λ before spares.
    let m = g.R.Records.meaning in
    c.settle.ensures.spares before
    (subst (λ (b : Bool). Spares m before c.args.r.now c.args.t None b) c.if-ending.false
    (subst (λ (r : Option Refusal). Spares m before c.args.r.now c.args.t r c.args.ending.over)
    (refusal_none c.args.ending.reply (sym c.fault_in.ensures ∙ c.in-None.is)) spares))

pub settle-requires : goal.settle-requires
settle-requires g c = record {
  fine = refusal_none c.args.ending.reply (sym c.fault_in.ensures ∙ c.in-None.is);
}
