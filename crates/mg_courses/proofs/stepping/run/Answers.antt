use Rattle.std.proofs.Common.{◌≡◌, ◌∙◌, sym}
use Rattle.mg_courses.specs.declared.statements.Stepped.TheVariants.{More}
use Rattle.mg_courses.proofs.SoFarLemmas.{runs_first, runs_more, runs_end, so_far_more, going, resting}
use Rattle.mg_courses.proofs.stepping.run.Goals as goal

pub loop-alloc-init : goal.loop-alloc-init
loop-alloc-init g c = record {
  so_far = record {
    ready = c.step_on-stepped.ensures.ready;
    frames = c.step_on-stepped.ensures.frames;
    sessions = c.step_on-stepped.ensures.sessions;
  };
  done = runs_first g.R.Records.meaning g.R.Statements.runs c.args.r.now c.step_on-stepped.new.r c.args.t
      c.args.work.now c.step_on-stepped.new.work c.step_on-stepped.result c.step_on-stepped.ensures.steps;
}

pub loop-alloc-preserved : goal.loop-alloc-preserved
loop-alloc-preserved g c =
    let more : c.loop-alloc.stepped ≡ More =
    going c.loop-alloc.stepped (sym c.is_more.ensures ∙ c.loop-alloc-test.true) in
    let so_far = rw more at c.loop-alloc.invariant.so_far in
    let done = rw more at c.loop-alloc.invariant.done in
    let next = c.step_on-stepped-in-loop-alloc in
    record {
      so_far = so_far_more g.R.Records.meaning g.R.Statements.runs g.met.R.Records.lasts c.args.r.now c.loop-alloc.r next.new.r
          c.args.t c.args.work.now c.loop-alloc.work next.new.work next.result so_far
          next.ensures.ready next.ensures.frames next.ensures.sessions;
      done = runs_more g.R.Records.meaning g.R.Statements.runs g.met.R.Records.lasts c.args.r.now c.loop-alloc.r next.new.r
          c.args.t c.args.work.now c.loop-alloc.work next.new.work next.result done next.ensures.steps;
    }

pub returns-clause-runs : goal.returns-clause-runs
returns-clause-runs g c =
    runs_end g.R.Records.meaning g.R.Statements.runs c.args.r.now c.loop-alloc.r c.args.t c.args.work.now
    c.loop-alloc.work c.loop-alloc.stepped
    (resting c.loop-alloc.stepped (sym c.is_more.ensures ∙ c.loop-alloc-test.false))
    c.loop-alloc.invariant.done
