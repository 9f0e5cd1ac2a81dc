-- Which dirty pages a transaction needs, by the marks of the page cache.
use Rattle.std.proofs.Common.{ℕ, Bool, not, ◌&&◌, ◌||◌}
use Rattle.mg_careful.specs.CarefulWrite.{PageSet}
use Rattle.mg_pool.specs.Dirty.{DirtyPages, is_dirty, is_marked}

-- which transactions have asked for their commit
abbrev pub Asked : Type 0
Asked = ℕ → Bool

-- the session of each transaction, by which its pages are marked
abbrev pub Sessions : Type 0
Sessions = ℕ → ℕ

-- the pages that a transaction needs: all dirty ones, and where it has asked for its commit those that
-- are marked for its session
abbrev pub needs_by : Asked → Sessions → DirtyPages → ℕ → PageSet
needs_by asked session dirty t page =
    is_dirty dirty page && (not (asked t) || is_marked dirty page (session t))
