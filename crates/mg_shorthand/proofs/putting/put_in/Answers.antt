use Rattle.std.proofs.Common.{◌≡◌, ℕ, List, None, Some, false, ap, sym, ◌∙◌, w64}
use Rattle.std.proofs.lemmas.Int.{to_z-of_z}
use Rattle.mg_value.specs.declared.value.Value.{Value}
use Rattle.mg_value.specs.declared.value.Value.TheVariants as values
use Rattle.mg_model.specs.NewDatabase.{kv_name}
use Rattle.mg_shorthand.specs.Keys.{sees_key}
use Rattle.mg_model.specs.declared.refusal.Refusal.TheVariants.{NoTable}
use Rattle.mg_rows.specs.declared.statement_fault.StatementFault.TheVariants.{Engine}
use Rattle.mg_transcript.specs.Shorthand.{GivesUp, Puts, finds_not, is_of_numbers, sees_none}
use Rattle.mg_shorthand.proofs.GoingLemmas.{spares_quiet, spares_then, went_as, went_behind}
use Rattle.mg_shorthand.proofs.putting.put_in.Goals as goal

pub returns-then-not-is_of_numbers-clause-goes : goal.returns-then-not-is_of_numbers-clause-goes
returns-then-not-is_of_numbers-clause-goes g c = λ o h seen stands active.
    went_as g.R.Records.meaning c.args.r.now c.give_up_for.new.r o h c.args.t c.give_up_for.result.over
    (λ after. GivesUp o h c.args.t (Engine NoTable) after c.give_up_for.result.reply)
    (λ after. Puts o c.args.key c.args.value h c.args.t after c.give_up_for.result.reply)
    (λ after up. sees_none after c.give_up_for.result.reply
    (ap is_of_numbers seen ∙ sym c.is_of_numbers.ensures ∙ c.if-not-is_of_numbers.true) up)
    (c.give_up_for.ensures.goes o h stands active)

pub returns-then-not-is_of_numbers-clause-spares : goal.returns-then-not-is_of_numbers-clause-spares
returns-then-not-is_of_numbers-clause-spares g c = λ before spares.
    c.give_up_for.ensures.spares before
    (spares_quiet g.R.Records.meaning before c.args.r.now c.args.t (Some NoTable) false tt spares)

pub returns-in-Ok-clause-goes : goal.returns-in-Ok-clause-goes
returns-in-Ok-clause-goes g c = λ o h seen stands active.
    let m = g.R.Records.meaning in
    let t = c.args.t in
    let reads = c.in-Ok.ensures.reads o h stands in
    let is : c.key_of.result ≡ values.Int c.args.key =
    rw (to_z-of_z w64 c.args.key c.ranges.key) at c.key_of.ensures in
    let sees : c.in-Ok.sees ≡ sees_key o h t.0 kv_name (values.Int c.args.key) =
    c.in-Ok.ensures.sees o h stands active
    ∙ ap (λ (k : Value). sees_key o h t.0 c.args.table.name k) is
    ∙ ap (λ (name : List ℕ). sees_key o h t.0 name (values.Int c.args.key)) c.requires.named in
    let goes = rw (
      to_z-of_z w64 c.args.key c.ranges.key,
      to_z-of_z w64 c.args.value c.ranges.value,
    ) at c.write.ensures.goes in
    went_behind m g.met.R.Records.lasts c.args.r.now c.find_key-2.new.r c.write.new.r o h t c.write.result.over
    (λ after. Puts o c.args.key c.args.value h t after c.write.result.reply)
    (λ after. Puts o c.args.key c.args.value h t after c.write.result.reply) reads (λ after does. does)
    (goes o h seen sees reads.stands active)

pub returns-in-Ok-clause-spares : goal.returns-in-Ok-clause-spares
returns-in-Ok-clause-spares g c = λ before spares.
    let m = g.R.Records.meaning in
    c.write.ensures.spares before
    (spares_then m before c.args.r.now c.find_key-2.new.r c.args.t None false spares c.in-Ok.ensures.spares)

pub returns-clause-goes : goal.returns-clause-goes
returns-clause-goes g c = λ o h seen stands active.
    let m = g.R.Records.meaning in
    let reads = c.in-Err.ensures.reads o h stands in
    went_behind m g.met.R.Records.lasts c.args.r.now c.find_key-2.new.r c.give_up_for-in-Err.new.r o h c.args.t
    c.give_up_for-in-Err.result.over
    (λ after. GivesUp o h c.args.t (Engine c.in-Err.refusal) after c.give_up_for-in-Err.result.reply)
    (λ after. Puts o c.args.key c.args.value h c.args.t after c.give_up_for-in-Err.result.reply) reads
    (λ after up. finds_not c.in-Err.refusal after c.give_up_for-in-Err.result.reply
    (c.in-Err.ensures.outside o h stands active) up)
    (c.give_up_for-in-Err.ensures.goes o h reads.stands active)

pub returns-clause-spares : goal.returns-clause-spares
returns-clause-spares g c = λ before spares.
    let m = g.R.Records.meaning in
    c.give_up_for-in-Err.ensures.spares before
    (spares_then m before c.args.r.now c.find_key-2.new.r c.args.t (Some c.in-Err.refusal) false spares
    c.in-Err.ensures.spares)
