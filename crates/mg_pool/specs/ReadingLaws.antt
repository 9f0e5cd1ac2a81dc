-- Laws of pages that stay in memory.
use Rattle.std.proofs.Common.{inl, inr}
use Rattle.mg_pool.specs.Reading.{Stay}
use Rattle.mg_pool.specs.declared.pool.Pool.{Pool}

-- where nothing was looked for, all pages stay
pub stay_still : {D L : Type 0} (pool : Pool D L) → Stay pool pool
stay_still pool = record { there = λ p is. inl is; full = λ full. full }

-- they stay over two runs of calls
pub stay_more : {D L : Type 0} (old mid new : Pool D L) → Stay old mid → Stay mid new → Stay old new
stay_more old mid new first next = record {
  there = λ p is. elim (first.there p is) [
    | inl still ↦ next.there p still
    | inr full ↦ inr (next.full full)
  ];
  full = λ full. next.full (first.full full);
}
