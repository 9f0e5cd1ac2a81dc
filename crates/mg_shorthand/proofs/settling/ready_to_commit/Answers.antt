use Rattle.std.proofs.Common.{None, Some, false}
use Rattle.mg_records.specs.Keeping.{refusal_in}
use Rattle.mg_shorthand.proofs.GoingLemmas.{reads_one, reads_then, spares_ask, spares_then}
use Rattle.mg_transcript.specs.OutsideLaws.{refused_outside}
use Rattle.mg_shorthand.proofs.settling.ready_to_commit.Goals as goal

pub returns-in-Ok-clause-outside : goal.returns-in-Ok-clause-outside
returns-in-Ok-clause-outside g c = λ o h stands active.
    c.write_noted.ensures.outside o h (c.in-Ok.ensures.reads.stays o h stands) active

pub returns-in-Ok-clause-reads : goal.returns-in-Ok-clause-reads
returns-in-Ok-clause-reads g c = λ o h stands.
    let m = g.R.Records.meaning in
    let first = reads_one m g.met.R.Records.lasts c.args.r.now c.commit_ask.new.self None (Some c.args.t.0)
    c.in-Ok.ensures.reads c.in-Ok.ensures.undamaged c.in-Ok.ensures.crash o h stands in
    reads_then m g.met.R.Records.lasts c.args.r.now c.commit_ask.new.self c.write_noted.new.r o h first
    (c.write_noted.ensures.reads o h first.stands)

pub returns-in-Ok-clause-spares : goal.returns-in-Ok-clause-spares
returns-in-Ok-clause-spares g c =
    let m = g.R.Records.meaning in
    spares_then m c.args.r.now c.commit_ask.new.self c.write_noted.new.r c.args.t
    (refusal_in c.write_noted.result) false
    (spares_ask m c.args.r.now c.commit_ask.new.self c.args.t None c.in-Ok.ensures.reads c.in-Ok.ensures.told c.in-Ok.ensures.sessions)
    c.write_noted.ensures.spares

pub returns-in-Err-clause-outside : goal.returns-in-Err-clause-outside
returns-in-Err-clause-outside g c = λ o h stands active.
    refused_outside o h c.args.t.0 c.in-Err.refusal active (c.in-Err.ensures.answers o h stands)

pub returns-in-Err-clause-reads : goal.returns-in-Err-clause-reads
returns-in-Err-clause-reads g c = λ o h stands.
    reads_one g.R.Records.meaning g.met.R.Records.lasts c.args.r.now c.commit_ask.new.self (Some c.in-Err.refusal)
    (Some c.args.t.0) c.in-Err.ensures.reads c.in-Err.ensures.undamaged c.in-Err.ensures.crash o h stands

pub returns-in-Err-clause-spares : goal.returns-in-Err-clause-spares
returns-in-Err-clause-spares g c =
    spares_ask g.R.Records.meaning c.args.r.now c.commit_ask.new.self c.args.t (Some c.in-Err.refusal)
    c.in-Err.ensures.reads c.in-Err.ensures.told c.in-Err.ensures.sessions
