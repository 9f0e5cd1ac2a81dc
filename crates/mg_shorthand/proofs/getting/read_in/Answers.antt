use Rattle.std.proofs.Common.{refl, sym, ◌∙◌, w64}
use Rattle.std.proofs.lemmas.Int.{to_z-of_z}
use Rattle.mg_shorthand.proofs.ReadingLemmas.{read_ends}
use Rattle.mg_shorthand.proofs.getting.read_in.Goals as goal

pub value_at-reply-requires-clause-shape : goal.value_at-reply-requires-clause-shape
value_at-reply-requires-clause-shape g c = sym c.has_key_and_value.ensures ∙ c.if-has_key_and_value.true

pub returns-then-has_key_and_value-clause-goes : goal.returns-then-has_key_and_value-clause-goes
returns-then-has_key_and_value-clause-goes g c = λ o h size seen at none stands active.
    let m = g.R.Records.meaning in
    let reads = rw (to_z-of_z w64 c.args.key c.ranges.key) at c.value_at-reply.ensures.reads in
    read_ends m g.met.R.Records.lasts c.args.r.now c.value_at-reply.new.r c.end_reading.new.r o h c.args.t c.args.key size
    c.value_at-reply.result c.end_reading.result.over c.end_reading.result.reply active none (reads o h seen stands active)
    (λ after. c.end_reading.ensures.goes o after refl)

pub returns-then-has_key_and_value-clause-spares : goal.returns-then-has_key_and_value-clause-spares
returns-then-has_key_and_value-clause-spares g c = λ before spares.
    c.end_reading.ensures.spares before (c.value_at-reply.ensures.spares before spares)

pub returns-clause-goes : goal.returns-clause-goes
returns-clause-goes g c = λ o h size seen at none.
    c.run_through.ensures.goes o h c.args.key size at none
