use Rattle.std.proofs.Common.{None, Some, false}
use Rattle.mg_shorthand.proofs.GoingLemmas.{noted, noted_asked, noted_written, one_less, reads_none, reads_one, reads_then, spares_none, spares_read, spares_then}
use Rattle.mg_transcript.specs.OutsideLaws.{refused_outside}
use Rattle.mg_shorthand.proofs.settling.write_noted.Goals as goal

pub loop-all-init : goal.loop-all-init
loop-all-init g c = record {
  noted = c.requires.asked;
  reads = λ o h stands. reads_none g.R.Records.meaning g.met.R.Records.crashes c.args.r.now o h stands;
  spares = spares_none g.R.Records.meaning c.args.r.now c.args.t;
}

pub commit_step-requires : goal.commit_step-requires
commit_step-requires g c = record {
  asked = noted_asked g.R.Records.meaning c.loop-all.r c.args.t.0 c.loop-all.all c.loop-all-test.true
      c.loop-all.invariant.noted;
}

pub loop-all-preserved : goal.loop-all-preserved
loop-all-preserved g c =
    let m = g.R.Records.meaning in
    let i = c.loop-all.invariant in
    record {
      noted = noted m c.loop-all.r c.commit_step.new.self c.args.t.0 c.in-Ok.done c.in-Ok.ensures.one;
      reads = λ o h stands. reads_then m g.met.R.Records.lasts c.args.r.now c.loop-all.r c.commit_step.new.self o h
          (i.reads o h stands)
          (reads_one m g.met.R.Records.lasts c.loop-all.r c.commit_step.new.self None None c.in-Ok.ensures.reads
          c.in-Ok.ensures.undamaged c.in-Ok.ensures.crash o h (i.reads o h stands).stands);
      spares = spares_then m c.args.r.now c.loop-all.r c.commit_step.new.self c.args.t None false i.spares
          (spares_read m c.loop-all.r c.commit_step.new.self c.args.t None c.in-Ok.ensures.reads c.in-Ok.ensures.told
          c.in-Ok.ensures.sessions);
    }

pub loop-all-smaller : goal.loop-all-smaller
loop-all-smaller g c =
    let m = g.R.Records.meaning in
    let less = one_less m c.loop-all.r c.commit_step.new.self c.args.t.0 c.in-Ok.done c.in-Ok.ensures.one in
    rw c.loop-all-test.true less

pub returns-in-Err-clause-outside : goal.returns-in-Err-clause-outside
returns-in-Err-clause-outside g c = λ o h stands active.
    refused_outside o h c.args.t.0 c.in-Err.refusal active
    (c.in-Err.ensures.answers o h (c.loop-all.invariant.reads o h stands).stands)

pub returns-in-Err-clause-reads : goal.returns-in-Err-clause-reads
returns-in-Err-clause-reads g c = λ o h stands.
    let m = g.R.Records.meaning in
    let i = c.loop-all.invariant in
    reads_then m g.met.R.Records.lasts c.args.r.now c.loop-all.r c.commit_step.new.self o h (i.reads o h stands)
    (reads_one m g.met.R.Records.lasts c.loop-all.r c.commit_step.new.self (Some c.in-Err.refusal) None
    c.in-Err.ensures.reads c.in-Err.ensures.undamaged c.in-Err.ensures.crash o h (i.reads o h stands).stands)

pub returns-in-Err-clause-spares : goal.returns-in-Err-clause-spares
returns-in-Err-clause-spares g c =
    let m = g.R.Records.meaning in
    spares_then m c.args.r.now c.loop-all.r c.commit_step.new.self c.args.t (Some c.in-Err.refusal) false
    c.loop-all.invariant.spares
    (spares_read m c.loop-all.r c.commit_step.new.self c.args.t (Some c.in-Err.refusal) c.in-Err.ensures.reads c.in-Err.ensures.told
    c.in-Err.ensures.sessions)

pub returns-clause-written : goal.returns-clause-written
returns-clause-written g c =
    noted_written g.R.Records.meaning c.loop-all.r c.args.t.0 c.loop-all.all c.loop-all-test.false
    c.loop-all.invariant.noted
