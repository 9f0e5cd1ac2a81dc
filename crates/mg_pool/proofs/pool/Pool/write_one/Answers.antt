use Rattle.std.proofs.Common.{◌∙◌, sym, ap, inl, inr}
use Rattle.mg_careful.specs.Graph.{IsFirstReady}
use Rattle.mg_careful.specs.GraphLaws.{precedes_entered}
use Rattle.mg_pool.specs.Dirty.{is_dirty}
use Rattle.mg_pool.proofs.RefusalLemmas.{fails_now, fails_refused}
use Rattle.mg_pool.proofs.RunLemmas.{due_is_dirty, run_goes_on, run_starts}
use Rattle.mg_pool.proofs.pool.Pool.write_one.Goals as goal

-- the page is the goal, or precedes it, and then it is entered
pub write_out-requires-clause-dirty : goal.write_out-requires-clause-dirty
write_out-requires-clause-dirty g c =
    let first : IsFirstReady c.args.self.now.graph c.args.goal.0 c.unwrap-page.result = rw c.unwrap-page.ensures at c.first_ready.ensures.ready in
    elim first.ready.due [
      | inl e ↦ ap (is_dirty c.args.self.now.dirty) e ∙ c.requires.dirty
      | inr chain ↦ sym (c.requires.pool.tied.entered c.unwrap-page.result) ∙ (precedes_entered c.args.self.now.graph c.unwrap-page.result c.args.goal.0 chain).0
    ]

pub returns-clause-run : goal.returns-clause-run
returns-clause-run g c =
    let first : IsFirstReady c.args.self.now.graph c.args.goal.0 c.unwrap-page.result = rw c.unwrap-page.ensures at c.first_ready.ensures.ready in
    let dirty = due_is_dirty c.args.self.now.dirty c.args.self.now.graph c.args.goal.0 c.unwrap-page.result c.requires.pool.tied c.requires.dirty first in
    run_goes_on g.D.Disk.meaning g.met.D.Disk.holds g.met.D.Disk.counts_now c.args.self.now c.args.self.now c.write_out.new.self c.unwrap-page.result (run_starts g.D.Disk.meaning c.args.self.now c.requires.pool) dirty first.ready.free c.in_ok-write_out.ensures

pub returns-in_err-write_out-clause-refused : goal.returns-in_err-write_out-clause-refused
returns-in_err-write_out-clause-refused g c =
    let m = g.D.Disk.meaning in
    let e = c.in_err-write_out.field-0.0 in
    fails_refused m g.met.D.Disk.holds g.met.D.Disk.counts_now c.args.self.now c.write_out.new.self e (fails_now m c.args.self.now c.write_out.new.self e c.requires.pool c.in_err-write_out.ensures) c.from_residual-in_err-write_out.result c.from_residual-in_err-write_out.ensures.1
