use Rattle.std.proofs.Common.{◌≡◌, ◌≤◌, ◌∙◌, sym, subst, length, ℕ, Option, Some, List, false, arith, rules}
use Rattle.mg_pool.specs.Batch.{one_page}
use Rattle.mg_pool.specs.Change.{MakesRoom, no_page, one_with}
use Rattle.mg_pool.specs.Dirty.{is_dirty, IsLeastPage}
use Rattle.mg_pool.specs.Refusal.{FailsWrites}
use Rattle.mg_pool.specs.Run.{WritesWith}
use Rattle.mg_pool.proofs.LeastLemmas.{is_some_least}
use Rattle.mg_pool.proofs.ChangeLemmas.{overflow_one, least_but_one}
use Rattle.mg_pool.proofs.RefusalLemmas.{match_as}
use Rattle.mg_pool.proofs.RunLemmas.{run_starts}
use Rattle.mg_pool.proofs.pool.Pool.make_room_for_one.Goals as goal

pub returns-then-is_dirty-clause-room : goal.returns-then-is_dirty-clause-room
returns-then-is_dirty-clause-room g c = λ bytes. no_page

pub returns-then-is_dirty-clause-run : goal.returns-then-is_dirty-clause-run
returns-then-is_dirty-clause-run g c = run_starts g.D.Disk.meaning c.args.self.now c.requires.pool

-- a full table has a dirty page
pub unwrap-goal-requires : goal.unwrap-goal-requires
unwrap-goal-requires g c =
    let full : 512 ≤ length c.args.self.now.dirty.pages = search rules in
    is_some_least c.args.self.now.dirty c.least.result (omega arith) c.least.ensures

pub returns-clause-room : goal.returns-clause-room
returns-clause-room g c =
    let m = g.D.Disk.meaning in
    let old = c.args.self.now in
    let new = c.write_with.new.self in
    let full : 512 ≤ length old.dirty.pages = search rules in
    let out : is_dirty old.dirty c.args.page.0 ≡ false = sym c.is_dirty.ensures ∙ c.if-is_dirty.false in
    let least : IsLeastPage (is_dirty old.dirty) (Some c.unwrap-goal.result) = subst (λ (o : Option ℕ). IsLeastPage (is_dirty old.dirty) o) c.unwrap-goal.ensures c.least.ensures in
    match_as c.write_with.result (λ x. WritesWith m c.unwrap-goal.result old new) (λ x. (bytes : List ℕ) → MakesRoom m (one_page c.args.page.0 bytes) old new) (FailsWrites m old new) (FailsWrites m old new)
    (λ x (w : WritesWith m c.unwrap-goal.result old new) (bytes : List ℕ). one_with c.unwrap-goal.result new no_page (overflow_one old.dirty c.args.page.0 bytes out full) (least_but_one old.dirty c.args.page.0 bytes (Some c.unwrap-goal.result) out least) w)
    (λ e f. f)
    c.write_with.ensures.with
