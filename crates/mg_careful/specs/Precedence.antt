-- The order in which pages have to reach the disk.
use Rattle.std.specs.Prelude.{◌≡◌, ℕ, Bool, true}

-- the direct orders between pages, as a test: the first page has to be written before the later one
abbrev pub Orders : Type 0
Orders = ℕ → ℕ → Bool

-- one page precedes another: a chain of one or more direct orders leads from it to the other
pub data Precedes (ordered : Orders) : ℕ → ℕ → Type 0 where
  directly : {a b : ℕ} → ordered a b ≡ true → Precedes ordered a b
  through : {a b c : ℕ} → Precedes ordered a b → Precedes ordered b c → Precedes ordered a c
