use Rattle.std.proofs.Common.{ℕ, List, None, Some, Err, ap, false, sym, ◌∙◌, subst, w64}
use Rattle.std.proofs.lemmas.Int.{to_z-of_z}
use Rattle.mg_model.specs.NewDatabase.{kv_name}
use Rattle.mg_records.specs.Reading.{TellsTable, shape_seen}
use Rattle.mg_rows.specs.declared.statement_fault.StatementFault.TheVariants.{Engine}
use Rattle.mg_transcript.specs.Courses.{Begun}
use Rattle.mg_transcript.specs.Shorthand.{Gets, GivesUp, value_of_key}
use Rattle.mg_courses.specs.Running.{as_before}
use Rattle.mg_shorthand.proofs.GoingLemmas.{reads_one, spares_read, spares_then, went_behind}
use Rattle.mg_shorthand.proofs.ReadingLemmas.{not_given, spares_runs}
use Rattle.mg_shorthand.proofs.getting.read_on.Goals as goal

pub read_in-requires-clause-named : goal.read_in-requires-clause-named
read_in-requires-clause-named g c = c.in-Ok.ensures.given.named ∙ c.kv.ensures

pub read_in-requires-clause-given : goal.read_in-requires-clause-given
read_in-requires-clause-given g c =
    ap (λ (n : List ℕ). g.R.Records.meaning.table c.table.new.self c.args.t.0 n) c.in-Ok.ensures.given.named
    ∙ c.in-Ok.ensures.given.again

pub read_in-requires-clause-ready : goal.read_in-requires-clause-ready
read_in-requires-clause-ready g c =
    let m = g.R.Records.meaning in
    g.met.R.Statements.stay c.args.r.now c.table.new.self c.args.t c.args.tested
    (spares_runs m c.args.r.now c.table.new.self c.args.t.0 None c.in-Ok.ensures.reads) c.requires.ready

pub returns-in-Ok-clause-goes : goal.returns-in-Ok-clause-goes
returns-in-Ok-clause-goes g c = λ o h size at none stands active.
    let m = g.R.Records.meaning in
    let t = c.args.t in
    let key = c.args.key in
    let mid = c.table.new.self in
    let reads = reads_one m g.met.R.Records.lasts c.args.r.now mid None None c.in-Ok.ensures.reads
    c.in-Ok.ensures.undamaged c.in-Ok.ensures.crash o h stands in
    let seen = ap (λ (n : List ℕ). shape_seen o h t.0 n) (sym c.kv.ensures) ∙ (c.in-Ok.ensures.table o h stands).1 in
    let stays = g.met.R.Statements.courses c.args.r.now mid o h h t c.args.tested (Begun (value_of_key key) 0)
    (spares_runs m c.args.r.now mid t.0 None c.in-Ok.ensures.reads) as_before at in
    let goes = rw (to_z-of_z w64 key c.ranges.key) at c.read_in.ensures.goes in
    went_behind m g.met.R.Records.lasts c.args.r.now mid c.read_in.new.r o h t c.read_in.result.over
    (λ after. Gets o key size h t after c.read_in.result.reply)
    (λ after. Gets o key size h t after c.read_in.result.reply) reads (λ after does. does)
    (goes o h size seen stays none reads.stands active)

pub returns-in-Ok-clause-spares : goal.returns-in-Ok-clause-spares
returns-in-Ok-clause-spares g c = λ before spares.
    let m = g.R.Records.meaning in
    c.read_in.ensures.spares before (spares_then m before c.args.r.now c.table.new.self c.args.t None false spares
    (spares_read m c.args.r.now c.table.new.self c.args.t None c.in-Ok.ensures.reads c.in-Ok.ensures.told
    c.in-Ok.ensures.sessions))

pub returns-in-Err-clause-goes : goal.returns-in-Err-clause-goes
returns-in-Err-clause-goes g c = λ o h size at none stands active.
    let m = g.R.Records.meaning in
    let t = c.args.t in
    let key = c.args.key in
    let refusal = c.in-Err.refusal in
    let mid = c.table.new.self in
    let reads = reads_one m g.met.R.Records.lasts c.args.r.now mid (Some refusal) None c.in-Err.ensures.reads
    c.in-Err.ensures.undamaged c.in-Err.ensures.crash o h stands in
    let tells : TellsTable m c.args.r.now t.0 kv_name (Err refusal) =
    subst (λ (n : List ℕ). TellsTable m c.args.r.now t.0 n (Err refusal)) c.kv.ensures c.in-Err.ensures.table in
    went_behind m g.met.R.Records.lasts c.args.r.now mid c.give_up_for.new.r o h t c.give_up_for.result.over
    (λ after. GivesUp o h t (Engine refusal) after c.give_up_for.result.reply)
    (λ after. Gets o key size h t after c.give_up_for.result.reply) reads
    (λ after up. not_given m c.args.r.now o h t key size refusal after c.give_up_for.result.reply stands active none
    tells up)
    (c.give_up_for.ensures.goes o h reads.stands active)

pub returns-in-Err-clause-spares : goal.returns-in-Err-clause-spares
returns-in-Err-clause-spares g c = λ before spares.
    let m = g.R.Records.meaning in
    c.give_up_for.ensures.spares before (spares_then m before c.args.r.now c.table.new.self c.args.t
    (Some c.in-Err.refusal) false spares
    (spares_read m c.args.r.now c.table.new.self c.args.t (Some c.in-Err.refusal) c.in-Err.ensures.reads
    c.in-Err.ensures.told c.in-Err.ensures.sessions))
