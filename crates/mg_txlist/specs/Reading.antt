-- Which pages are read while a list is loaded.
use Rattle.std.specs.Prelude.{◌+◌, ◌==◌, ◌||◌, ℕ, Bool, false, List, [], ◌∷◌, length, IsSome}
use Rattle.mg_base.specs.Disk.{Meaning}
use Rattle.mg_pool.specs.Pool.{resident}
use Rattle.mg_pool.specs.Reading.{ReadsPages}
use Rattle.mg_pool.specs.declared.pool.Pool.{Pool}
use Rattle.mg_txlist.specs.declared.list.TipPage.{TipPage}

-- the page of a number is one of these
abbrev pub is_among_tips : List TipPage → ℕ → Bool
is_among_tips [] n = false
is_among_tips (page ∷ pages) n = page.page == n || is_among_tips pages n

-- the page of a number is page 0 or one of these: what an opening reads
abbrev pub is_head_or_tip : List TipPage → ℕ → Bool
is_head_or_tip pages n = n == 0 || is_among_tips pages n

-- Page 0 and these pages were looked for: no more page reads were asked for than there are, none of
-- another page, and where page 0 was in memory one fewer.
pub record ReadsList {D L : Type 0} (m : Meaning D) (old new : Pool D L) (pages : List TipPage)
    : Type 0 where
  pub each_once : ReadsPages m old new (1 + length pages) (is_head_or_tip pages)
  pub head_held : IsSome (resident old 0)
      → ReadsPages m old new (length pages) (is_head_or_tip pages)
