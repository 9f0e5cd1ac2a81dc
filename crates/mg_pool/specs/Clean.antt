-- The clean pages that a cache keeps: those that were used last, as many as there is room for.
use Rattle.std.specs.Prelude.{◌≡◌, ◌≢◌, ◌≤◌, ◌⊎◌, ℕ, nat_eq, List, length, Option, Some, None, IsSome}
use Rattle.std.specs.Map.{lookup}

-- the pages with their contents, the one that was used last first, and how many there may be
pub record CleanPages : Type 0 where
  pub entries : List (ℕ × List ℕ)
  pub room : ℕ

-- the content of a page that is kept
abbrev pub kept_in : CleanPages → ℕ → Option (List ℕ)
kept_in clean page = lookup (nat_eq page) clean.entries

-- there is room for no page more
abbrev pub IsFull : CleanPages → Type 0
IsFull clean = clean.room ≤ length clean.entries

-- A page was put beside the others. None of them has another content, and where there was room for
-- one more, none has gone.
pub record PutsClean (old new : CleanPages) (page : ℕ) (bytes : List ℕ) : Type 0 where
  pub here : kept_in new page ≡ Some bytes
  pub others : (p : ℕ) (b : List ℕ) → p ≢ page → kept_in new p ≡ Some b → kept_in old p ≡ Some b
  pub stays : (p : ℕ) → p ≢ page → IsSome (kept_in old p) → IsSome (kept_in new p) ⊎ IsFull old
  pub full : IsFull old → IsFull new
  pub room : new.room ≡ old.room

-- the same pages are kept, with the same contents
pub record KeepsClean (old new : CleanPages) : Type 0 where
  pub same : (p : ℕ) → kept_in new p ≡ kept_in old p
  pub full : IsFull old → IsFull new
  pub room : new.room ≡ old.room

-- one page is kept no longer, and all others are, with the same contents
pub record DropsClean (old new : CleanPages) (page : ℕ) : Type 0 where
  pub here : kept_in new page ≡ None
  pub others : (p : ℕ) → p ≢ page → kept_in new p ≡ kept_in old p
  pub room : new.room ≡ old.room
