use Rattle.std.proofs.Common.{◌≡◌, Some, false, ap, ◌∙◌, refl, w64}
use Rattle.std.proofs.lemmas.Int.{to_z-of_z}
use Rattle.mg_shorthand.specs.Keys.{write_of}
use Rattle.mg_model.specs.declared.refusal.Refusal.TheVariants.{Memory}
use Rattle.mg_model.specs.NewDatabase.{kv_name}
use Rattle.mg_records.specs.declared.write.Write.{Write}
use Rattle.mg_records.specs.Writing.{event_of}
use Rattle.mg_rows.specs.declared.statement_fault.StatementFault.TheVariants.{Engine}
use Rattle.mg_transcript.specs.Shorthand.{GivesUp, Puts, finds_not, is_of_numbers}
use Rattle.mg_shorthand.proofs.GoingLemmas.{spares_quiet, went_as}
use Rattle.mg_shorthand.proofs.PutLemmas.{event_is, write_fits}
use Rattle.mg_shorthand.proofs.putting.write.Goals as goal

pub write_so-requires-clause-fits : goal.write_so-requires-clause-fits
write_so-requires-clause-fits g c =
    rw (
      c.in-Ok.ensures,
      to_z-of_z w64 c.args.key c.ranges.key,
      to_z-of_z w64 c.args.value c.ranges.value,
    ) (write_fits c.args.table.now.shape c.args.sees c.args.key c.args.value c.requires.numbers)

pub returns-in-Ok-clause-goes : goal.returns-in-Ok-clause-goes
returns-in-Ok-clause-goes g c = λ o h seen sees stands active.
    let made : c.in-Ok.write ≡ write_of c.args.sees c.args.key c.args.value = rw (
      to_z-of_z w64 c.args.key c.ranges.key,
      to_z-of_z w64 c.args.value c.ranges.value,
    ) at c.in-Ok.ensures in
    c.write_so.ensures.goes o h c.args.key c.args.value (ap is_of_numbers seen ∙ c.requires.numbers)
    (ap (λ (w : Write). event_of c.args.t kv_name w) made
    ∙ event_is o h c.args.t c.args.sees c.args.key c.args.value sees) stands active

pub returns-in-Err-clause-goes : goal.returns-in-Err-clause-goes
returns-in-Err-clause-goes g c = λ o h seen sees stands active.
    went_as g.R.Records.meaning c.args.r.now c.give_up_for.new.r o h c.args.t c.give_up_for.result.over
    (λ after. GivesUp o h c.args.t (Engine Memory) after c.give_up_for.result.reply)
    (λ after. Puts o c.args.key c.args.value h c.args.t after c.give_up_for.result.reply)
    (λ after up. finds_not Memory after c.give_up_for.result.reply refl up)
    (c.give_up_for.ensures.goes o h stands active)

pub returns-in-Err-clause-spares : goal.returns-in-Err-clause-spares
returns-in-Err-clause-spares g c = λ before spares.
    c.give_up_for.ensures.spares before
    (spares_quiet g.R.Records.meaning before c.args.r.now c.args.t (Some Memory) false tt spares)
