use Rattle.std.proofs.Common.{subst, Option, ℕ, not, ◌&&◌, arith}
use Rattle.mg_pool.specs.Batch.{is_in}
use Rattle.mg_pool.specs.Change.{no_page, one_with}
use Rattle.mg_pool.specs.Dirty.{is_dirty, IsLeastPage}
use Rattle.mg_pool.proofs.RefusalLemmas.{err_up, fails_then}
use Rattle.mg_pool.proofs.RunLemmas.{run_starts, run_then}
use Rattle.mg_pool.proofs.pool.Pool.make_room.Goals as goal

pub loop-self-init : goal.loop-self-init
loop-self-init g c = record { run = run_starts g.D.Disk.meaning c.args.self.now c.requires.pool; room = no_page }

pub loop-self-preserved : goal.loop-self-preserved
loop-self-preserved g c = record {
  run = run_then g.D.Disk.meaning g.met.D.Disk.holds g.met.D.Disk.counts_now c.args.self.now c.loop-self.self c.write_with.new.self c.loop-self.invariant.run c.in_ok-write_with.ensures.with.run;
  room = one_with c.unwrap-goal.result c.write_with.new.self c.loop-self.invariant.room (omega arith) (subst (λ (o : Option ℕ). IsLeastPage (λ page. is_dirty c.loop-self.self.dirty page && not (is_in c.args.pages.now.items page)) o) c.unwrap-goal.ensures c.least_outside.ensures.least) c.in_ok-write_with.ensures.with;
}

pub returns-in_err-write_with-clause-room : goal.returns-in_err-write_with-clause-room
returns-in_err-write_with-clause-room g c = err_up c.from_residual.result c.in_err-write_with.field-0.0 _ _ c.from_residual.ensures.1 (fails_then g.D.Disk.meaning g.met.D.Disk.holds g.met.D.Disk.counts_now c.args.self.now c.loop-self.self c.write_with.new.self _ c.loop-self.invariant.run c.in_err-write_with.ensures.with)
