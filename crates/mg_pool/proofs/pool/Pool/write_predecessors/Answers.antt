use Rattle.std.proofs.Common.{◌≢◌, ◌∙◌, ap, inl, inr, is_some, arith, refl}
use Rattle.mg_pool.proofs.RefusalLemmas.{err_up, fails_write}
use Rattle.mg_pool.proofs.RunLemmas.{run_starts, run_goes_on, precedes_dirty, due_precedes, taken_cases, taken_one, run_precedes, none_taken_out}
use Rattle.mg_pool.proofs.pool.Pool.write_predecessors.Goals as goal

pub loop-page-init : goal.loop-page-init
loop-page-init g c = record {
  run = run_starts g.D.Disk.meaning c.args.self.now c.requires.pool;
  goal_same = refl;
  no_other = λ page out. absurd (none_taken_out c.args.self.now.dirty page out);
}

pub write_out-requires-clause-dirty : goal.write_out-requires-clause-dirty
write_out-requires-clause-dirty g c = (precedes_dirty c.loop-page.self.dirty c.loop-page.self.graph c.loop-page.invariant.run.pool.tied c.in-Some.page c.args.goal (due_precedes c.loop-page.self.graph c.args.goal c.in-Some.page c.in-Some.ensures.ready c.if-page-goal.true)).0

pub loop-page-preserved : goal.loop-page-preserved
loop-page-preserved g c =
    let m = g.D.Disk.meaning in
    let run = c.loop-page.invariant.run in
    let chain = due_precedes c.loop-page.self.graph c.args.goal c.in-Some.page c.in-Some.ensures.ready c.if-page-goal.true in
    let dirty = (precedes_dirty c.loop-page.self.dirty c.loop-page.self.graph run.pool.tied c.in-Some.page c.args.goal chain).0 in
    let done = c.in_ok-write_out.ensures in
    let apart : c.args.goal ≢ c.in-Some.page = omega arith in
    record {
      run = run_goes_on m g.met.D.Disk.holds g.met.D.Disk.counts_now c.args.self.now c.loop-page.self c.write_out.new.self c.in-Some.page run dirty c.in-Some.ensures.ready.ready.free done;
      goal_same = ap is_some (done.taken.others c.args.goal apart) ∙ c.loop-page.invariant.goal_same;
      no_other = λ page out. elim (taken_cases m c.args.self.now c.loop-page.self c.write_out.new.self page out) [
        | inl before ↦ c.loop-page.invariant.no_other page before
        | inr now ↦
            let e = taken_one c.loop-page.self.dirty c.write_out.new.self.dirty c.in-Some.page done.taken page now in
            rw e (run_precedes m c.args.self.now c.loop-page.self run c.in-Some.page c.args.goal chain)
      ];
    }

pub returns-in_err-write_out : goal.returns-in_err-write_out
returns-in_err-write_out g c = err_up c.from_residual.result c.in_err-write_out.field-0.0 _ _ c.from_residual.ensures.1 (fails_write g.D.Disk.meaning c.args.self.now c.loop-page.self c.write_out.new.self _ c.loop-page.invariant.run c.in_err-write_out.ensures)
