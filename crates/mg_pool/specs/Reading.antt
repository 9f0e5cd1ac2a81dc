-- What is asked of the disk where a page is read.
use Rattle.std.specs.Prelude.{◌⊎◌, ℕ, Bool, IsSome}
use Rattle.mg_base.specs.Asking.{AsksReads}
use Rattle.mg_base.specs.Disk.{KeepsReads, Meaning, ReadsPage}
use Rattle.mg_pool.specs.Clean.{IsFull}
use Rattle.mg_pool.specs.Pool.{resident}
use Rattle.mg_pool.specs.declared.pool.Pool.{Pool}

-- The pages that were in memory are there still, until there is no room for more clean pages.
pub record Stay {D L : Type 0} (old new : Pool D L) : Type 0 where
  pub there : (p : ℕ) → IsSome (resident old p) → IsSome (resident new p) ⊎ IsFull new.clean
  pub full : IsFull old.clean → IsFull new.clean

-- A page was looked for: where it was in memory no page was read, and else it alone, once at most.
pub record Fetches {D L : Type 0} (m : Meaning D) (old new : Pool D L) (page : ℕ) : Type 0 where
  pub once : ReadsPage m old.disk new.disk page
  pub none : IsSome (resident old page) → KeepsReads m old.disk new.disk
  pub stay : Stay old new

-- Pages were looked for one after another: so many of them were read at most, and these alone.
pub record ReadsPages {D L : Type 0} (m : Meaning D) (old new : Pool D L) (most : ℕ) (pages : ℕ → Bool)
    : Type 0 where
  pub asks : AsksReads m old.disk new.disk most pages
  pub stay : Stay old new
