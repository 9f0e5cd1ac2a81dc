use Rattle.std.proofs.Common.{ℕ, List, None, Some, Err, ap, sym, ◌∙◌, subst, w64}
use Rattle.std.proofs.lemmas.Int.{to_z-of_z}
use Rattle.mg_model.specs.NewDatabase.{kv_name}
use Rattle.mg_records.specs.Reading.{TellsTable, shape_seen}
use Rattle.mg_rows.specs.declared.statement_fault.StatementFault.TheVariants.{Engine}
use Rattle.mg_transcript.specs.Shorthand.{GivesUp, Puts}
use Rattle.mg_shorthand.specs.Going.{Went}
use Rattle.mg_shorthand.proofs.GoingLemmas.{reads_one, spares_read, went_behind}
use Rattle.mg_shorthand.proofs.PutLemmas.{no_table}
use Rattle.mg_shorthand.proofs.putting.put.Goals as goal

pub put_in-requires-clause-named : goal.put_in-requires-clause-named
put_in-requires-clause-named g c = c.in-Ok.ensures.given.named ∙ c.kv.ensures

pub put_in-requires-clause-given : goal.put_in-requires-clause-given
put_in-requires-clause-given g c =
    ap (λ (n : List ℕ). g.R.Records.meaning.table c.table.new.self c.args.t.0 n) c.in-Ok.ensures.given.named
    ∙ c.in-Ok.ensures.given.again

pub returns-in-Ok-clause-goes : goal.returns-in-Ok-clause-goes
returns-in-Ok-clause-goes g c = λ o h stands active.
    let m = g.R.Records.meaning in
    let t = c.args.t in
    let reads = reads_one m g.met.R.Records.lasts c.args.r.now c.table.new.self None None c.in-Ok.ensures.reads
    c.in-Ok.ensures.undamaged c.in-Ok.ensures.crash o h stands in
    let seen = ap (λ (n : List ℕ). shape_seen o h t.0 n) (sym c.kv.ensures) ∙ (c.in-Ok.ensures.table o h stands).1 in
    let rest : Went m c.table.new.self c.put_in.new.r o h t c.put_in.result.over
    (λ after. Puts o c.args.key c.args.value h t after c.put_in.result.reply) = rw (
      to_z-of_z w64 c.args.key c.ranges.key,
      to_z-of_z w64 c.args.value c.ranges.value,
    ) at (c.put_in.ensures.goes o h seen reads.stands active) in
    went_behind m g.met.R.Records.lasts c.args.r.now c.table.new.self c.put_in.new.r o h t c.put_in.result.over
    (λ after. Puts o c.args.key c.args.value h t after c.put_in.result.reply)
    (λ after. Puts o c.args.key c.args.value h t after c.put_in.result.reply) reads (λ after does. does) rest

pub returns-in-Ok-clause-spares : goal.returns-in-Ok-clause-spares
returns-in-Ok-clause-spares g c =
    c.put_in.ensures.spares c.args.r.now
    (spares_read g.R.Records.meaning c.args.r.now c.table.new.self c.args.t None c.in-Ok.ensures.reads c.in-Ok.ensures.told
    c.in-Ok.ensures.sessions)

pub returns-in-Err-clause-goes : goal.returns-in-Err-clause-goes
returns-in-Err-clause-goes g c = λ o h stands active.
    let m = g.R.Records.meaning in
    let t = c.args.t in
    let refusal = c.in-Err.refusal in
    let reads = reads_one m g.met.R.Records.lasts c.args.r.now c.table.new.self (Some refusal) None c.in-Err.ensures.reads
    c.in-Err.ensures.undamaged c.in-Err.ensures.crash o h stands in
    let tells : TellsTable m c.args.r.now t.0 kv_name (Err refusal) =
    subst (λ (n : List ℕ). TellsTable m c.args.r.now t.0 n (Err refusal)) c.kv.ensures c.in-Err.ensures.table in
    went_behind m g.met.R.Records.lasts c.args.r.now c.table.new.self c.give_up_for.new.r o h t c.give_up_for.result.over
    (λ after. GivesUp o h t (Engine refusal) after c.give_up_for.result.reply)
    (λ after. Puts o c.args.key c.args.value h t after c.give_up_for.result.reply) reads
    (λ after up. no_table m c.args.r.now o h t c.args.key c.args.value refusal after c.give_up_for.result.reply stands
    active tells up)
    (c.give_up_for.ensures.goes o h reads.stands active)

pub returns-in-Err-clause-spares : goal.returns-in-Err-clause-spares
returns-in-Err-clause-spares g c =
    c.give_up_for.ensures.spares c.args.r.now
    (spares_read g.R.Records.meaning c.args.r.now c.table.new.self c.args.t (Some c.in-Err.refusal)
    c.in-Err.ensures.reads c.in-Err.ensures.told c.in-Err.ensures.sessions)
