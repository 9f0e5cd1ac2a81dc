use Rattle.std.proofs.Common.{◌≡◌, ◌-◌, ℕ, true, false, length, slice_index_or}
use Rattle.std.specs.Prelude.{count_by}
use Rattle.mg_careful.specs.Precedence.{Precedes}
use Rattle.mg_pool.specs.Batch.{lists}
use Rattle.mg_pool.specs.Lawful.{page_in}
use Rattle.mg_pool.proofs.batch.lawful.mark_free.Given as goal

-- no page that is marked precedes itself
abbrev pub invariant-loop-place : goal.invariant-loop-place
invariant-loop-place l = record {
  as_long : length l.marks ≡ length l.fn.marks;
  safe : (i : ℕ) → slice_index_or l.marks i false ≡ true → Precedes (lists l.orders.items) (page_in l.pages.items i) (page_in l.pages.items i) → ⊥;
}

-- each turn marks one more
abbrev pub decreases-loop-place : goal.decreases-loop-place
decreases-loop-place l = length l.marks - count_by (λ b. b) l.marks
