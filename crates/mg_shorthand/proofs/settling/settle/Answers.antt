use Rattle.std.proofs.Common.{None, Some, false}
use Rattle.mg_rows.specs.declared.statement_fault.StatementFault.TheVariants.{Engine}
use Rattle.mg_transcript.specs.Shorthand.{GivesUp, Settles, pages_refused}
use Rattle.mg_shorthand.proofs.GoingLemmas.{spares_then, went_behind}
use Rattle.mg_shorthand.proofs.settling.settle.Goals as goal

pub returns-in-Ok-clause-goes : goal.returns-in-Ok-clause-goes
returns-in-Ok-clause-goes g c = λ o h stands active.
    let reads = c.in-Ok.ensures.reads o h stands in
    went_behind g.R.Records.meaning g.met.R.Records.lasts c.args.r.now c.ready_to_commit.new.r c.commit.new.r o h
    c.args.t c.commit.result.over (λ after. Settles o h c.args.t c.args.reply after c.commit.result.reply)
    (λ after. Settles o h c.args.t c.args.reply after c.commit.result.reply) reads (λ after does. does)
    (c.commit.ensures.goes o h reads.stands active)

pub returns-in-Ok-clause-spares : goal.returns-in-Ok-clause-spares
returns-in-Ok-clause-spares g c = λ before spares.
    c.commit.ensures.spares before
    (spares_then g.R.Records.meaning before c.args.r.now c.ready_to_commit.new.r c.args.t None false spares
    c.in-Ok.ensures.spares)

pub returns-in-Err-clause-goes : goal.returns-in-Err-clause-goes
returns-in-Err-clause-goes g c = λ o h stands active.
    let reads = c.in-Err.ensures.reads o h stands in
    went_behind g.R.Records.meaning g.met.R.Records.lasts c.args.r.now c.ready_to_commit.new.r c.give_up_for.new.r o h
    c.args.t c.give_up_for.result.over
    (λ after. GivesUp o h c.args.t (Engine c.in-Err.refusal) after c.give_up_for.result.reply)
    (λ after. Settles o h c.args.t c.args.reply after c.give_up_for.result.reply) reads
    (λ after up. pages_refused c.in-Err.refusal after c.give_up_for.result.reply
    (c.in-Err.ensures.outside o h stands active) up)
    (c.give_up_for.ensures.goes o h reads.stands active)

pub returns-in-Err-clause-spares : goal.returns-in-Err-clause-spares
returns-in-Err-clause-spares g c = λ before spares.
    c.give_up_for.ensures.spares before
    (spares_then g.R.Records.meaning before c.args.r.now c.ready_to_commit.new.r c.args.t
    (Some c.in-Err.refusal) false spares c.in-Err.ensures.spares)
