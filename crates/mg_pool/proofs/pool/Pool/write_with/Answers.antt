use Rattle.std.proofs.Common.{◌≡◌, ◌∙◌, ap, inl, inr, is_some, sym, true}
use Rattle.mg_pool.specs.Dirty.{is_dirty}
use Rattle.mg_pool.specs.Refusal.{FailsWrite, FailsWrites}
use Rattle.mg_pool.specs.Run.{WritesPage, WritesWith}
use Rattle.mg_pool.proofs.RefusalLemmas.{match_as, fails_write}
use Rattle.mg_pool.proofs.RunLemmas.{run_starts, run_goes_on, taken_cases, taken_one, none_taken_out}
use Rattle.mg_pool.proofs.pool.Pool.write_with.Goals as goal

pub returns-then-not-is_dirty-clause-with : goal.returns-then-not-is_dirty-clause-with
returns-then-not-is_dirty-clause-with g c = record {
  run = run_starts g.D.Disk.meaning c.args.self.now c.requires.pool;
  goal_out = sym c.is_dirty.ensures ∙ c.if-not-is_dirty.true;
  no_other = λ page out. absurd (none_taken_out c.args.self.now.dirty page out);
}

pub returns-clause-with : goal.returns-clause-with
returns-clause-with g c =
    let m = g.D.Disk.meaning in
    let old = c.args.self.now in
    let mid = c.write_predecessors.new.self in
    let new = c.write_out.new.self in
    let before = c.in_ok-write_predecessors.ensures in
    let dirty : is_dirty mid.dirty c.args.goal ≡ true = before.goal_same ∙ (sym c.is_dirty.ensures ∙ c.if-not-is_dirty.false) in
    match_as c.write_out.result (λ x. WritesPage m mid new c.args.goal) (λ x. WritesWith m c.args.goal old new) (FailsWrite m mid new) (FailsWrites m old new)
    (λ x (w : WritesPage m mid new c.args.goal). record {
      run = run_goes_on m g.met.D.Disk.holds g.met.D.Disk.counts_now old mid new c.args.goal before.run dirty before.ready w;
      goal_out = ap is_some w.taken.here;
      no_other = λ page out. elim (taken_cases m old mid new page out) [
        | inl first ↦ inr (before.no_other page first)
        | inr last ↦ inl (taken_one mid.dirty new.dirty c.args.goal w.taken page last)
      ];
    })
    (λ e f. fails_write m old mid new e before.run f)
    c.write_out.ensures
