-- Which pages are read where the pages of a list are looked for.
use Rattle.std.specs.Prelude.{◌==◌, ◌||◌, ℕ, Bool, false, List, [], ◌∷◌, length}
use Rattle.mg_base.specs.Disk.{Meaning}
use Rattle.mg_pool.specs.Reading.{ReadsPages}
use Rattle.mg_pool.specs.declared.pool.Pool.{Pool}

-- whether a page is one of a list
abbrev pub is_listed : List ℕ → ℕ → Bool
is_listed [] n = false
is_listed (m ∷ ms) n = m == n || is_listed ms n

-- the pages of a list were looked for: no more page reads were asked for than it has numbers, and none of a page
-- that is not listed
abbrev pub ReadsListed : {D L : Type 0} → Meaning D → Pool D L → Pool D L → List ℕ → Type 0
ReadsListed m old new numbers = ReadsPages m old new (length numbers) (is_listed numbers)
