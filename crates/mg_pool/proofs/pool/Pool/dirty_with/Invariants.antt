use Rattle.std.proofs.Common.{◌≡◌, ◌+◌, length, not, take}
use Rattle.std.specs.Prelude.{count_by}
use Rattle.mg_pool.specs.Dirty.{is_dirty}
use Rattle.mg_pool.proofs.pool.Pool.dirty_with.Given as goal

abbrev pub invariant-loop-place : goal.invariant-loop-place
invariant-loop-place g l = l.count ≡ length l.self.dirty.pages + count_by (λ x. not (is_dirty l.self.dirty x.page)) (take l.place l.pages.items)
