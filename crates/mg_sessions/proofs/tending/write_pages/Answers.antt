use Rattle.std.proofs.Common.{Bool, Ok, subst, None, Some, arith}
use Rattle.mg_courses.specs.CarryLaws.{carries_none}
use Rattle.mg_tending.specs.Tending.{WritesAPage}
use Rattle.mg_sessions.proofs.TendingLemmas.{more_frames, more_sessions, more_stands, no_frames, no_sessions, one_more}
use Rattle.mg_sessions.proofs.tending.write_pages.Goals as goal

pub loop-left-init : goal.loop-left-init
loop-left-init g c = record {
  within = omega arith;
  written = omega arith;
  stays = λ o h stands. (
    stands,
    carries_none g.R.Records.meaning g.met.R.Records.crashes c.args.r.now o h stands,
  );
  frames = no_frames g.R.Records.meaning c.args.r.now;
  sessions = no_sessions g.R.Records.meaning c.args.r.now;
}

pub loop-left-preserved : goal.loop-left-preserved
loop-left-preserved g c =
    let m = g.R.Records.meaning in
    let i = c.loop-left.invariant in
    let step = c.in-Ok-true.ensures in
    let lasts = g.met.R.Records.lasts in
    let wrote = subst (λ (b : Bool). WritesAPage m c.loop-left.r c.write_page.new.self (Ok b))
    c.in-Ok-true.field-0-test step.one in
    record {
      within = (let within = i.within in omega (arith, within));
      written = one_more (m.unwritten c.args.r.now) (m.unwritten c.loop-left.r) (m.unwritten c.write_page.new.self)
          c.args.most c.loop-left.left i.written wrote c.loop-left-test.true
          i.within;
      stays = more_stands m lasts c.args.r.now c.loop-left.r c.write_page.new.self None step.reads step.undamaged step.crash
          i.stays;
      frames = λ n. more_frames m lasts c.args.r.now c.loop-left.r c.write_page.new.self None step.reads step.told n
          (i.frames n);
      sessions = more_sessions m lasts c.args.r.now c.loop-left.r c.write_page.new.self None step.reads i.sessions
          step.sessions;
    }

pub returns-in-Ok-false-clause-frames : goal.returns-in-Ok-false-clause-frames
returns-in-Ok-false-clause-frames g c = λ n.
    more_frames g.R.Records.meaning g.met.R.Records.lasts c.args.r.now c.loop-left.r c.write_page.new.self None
    c.in-Ok-false.ensures.reads c.in-Ok-false.ensures.told n (c.loop-left.invariant.frames n)

pub returns-in-Err-clause-frames : goal.returns-in-Err-clause-frames
returns-in-Err-clause-frames g c = λ n.
    more_frames g.R.Records.meaning g.met.R.Records.lasts c.args.r.now c.loop-left.r c.write_page.new.self
    (Some c.in-Err.refusal) c.in-Err.ensures.reads c.in-Err.ensures.told n (c.loop-left.invariant.frames n)

pub returns-in-Ok-false-clause-stands : goal.returns-in-Ok-false-clause-stands
returns-in-Ok-false-clause-stands g c =
    more_stands g.R.Records.meaning g.met.R.Records.lasts c.args.r.now c.loop-left.r c.write_page.new.self None
    c.in-Ok-false.ensures.reads
    c.in-Ok-false.ensures.undamaged c.in-Ok-false.ensures.crash c.loop-left.invariant.stays

pub returns-in-Err-clause-stands : goal.returns-in-Err-clause-stands
returns-in-Err-clause-stands g c =
    more_stands g.R.Records.meaning g.met.R.Records.lasts c.args.r.now c.loop-left.r c.write_page.new.self
    (Some c.in-Err.refusal) c.in-Err.ensures.reads
    c.in-Err.ensures.undamaged c.in-Err.ensures.crash c.loop-left.invariant.stays
