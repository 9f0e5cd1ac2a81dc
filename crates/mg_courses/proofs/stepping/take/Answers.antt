use Rattle.std.proofs.Common.{◌≡◌, ◌∙◌, sym}
use Rattle.mg_courses.specs.declared.statements.Stepped.TheVariants.{More}
use Rattle.mg_courses.proofs.SoFarLemmas.{takes_first, takes_on, takes_end, so_far_more, going, left_and_going}
use Rattle.mg_courses.proofs.stepping.take.Goals as goal

pub loop-alloc-init : goal.loop-alloc-init
loop-alloc-init g c = record {
  so_far = record {
    ready = c.step_on-stepped.ensures.ready;
    frames = c.step_on-stepped.ensures.frames;
    sessions = c.step_on-stepped.ensures.sessions;
  };
  done = takes_first g.R.Records.meaning g.R.Statements.runs c.args.r.now c.step_on-stepped.new.r c.args.t
      c.args.work.now c.step_on-stepped.new.work c.step_on-stepped.result c.args.most c.requires.some
      c.step_on-stepped.ensures.steps;
}

pub loop-alloc-preserved : goal.loop-alloc-preserved
loop-alloc-preserved g c =
    let both = left_and_going c.loop-alloc.left c.loop-alloc.stepped
    (sym c.is_left.ensures ∙ c.loop-alloc-test.true) in
    let more : c.loop-alloc.stepped ≡ More = going c.loop-alloc.stepped both.1 in
    let so_far = rw more at c.loop-alloc.invariant.so_far in
    let done = rw more at c.loop-alloc.invariant.done in
    let next = c.step_on-stepped-in-loop-alloc in
    record {
      so_far = so_far_more g.R.Records.meaning g.R.Statements.runs g.met.R.Records.lasts c.args.r.now c.loop-alloc.r next.new.r
          c.args.t c.args.work.now c.loop-alloc.work next.new.work next.result so_far
          next.ensures.ready next.ensures.frames next.ensures.sessions;
      done = takes_on g.R.Records.meaning g.R.Statements.runs g.met.R.Records.lasts c.args.r.now c.loop-alloc.r next.new.r
          c.args.t c.args.work.now c.loop-alloc.work next.new.work next.result c.args.most c.loop-alloc.left
          both.0 done next.ensures.steps;
    }

pub returns-clause-takes : goal.returns-clause-takes
returns-clause-takes g c =
    takes_end g.R.Records.meaning g.R.Statements.runs c.args.r.now c.loop-alloc.r c.args.t c.args.work.now
    c.loop-alloc.work c.loop-alloc.stepped c.args.most c.loop-alloc.left
    (sym c.is_left.ensures ∙ c.loop-alloc-test.false) c.loop-alloc.invariant.done
