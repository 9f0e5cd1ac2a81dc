-- The directories of several tables together: a place among them, and their bounds.
use Rattle.std.specs.Prelude.{◌≡◌, ◌≢◌, ◌⊎◌, ◌≤◌, ◌<◌, ◌+◌, ◌++◌, ◌==◌, ℕ, Bool, not, List, [], ◌∷◌, filter, length, slice_index_or}
use Rattle.mg_base.specs.declared.numbers.RecId.{RecId}
use Rattle.mg_directory.specs.Candidates.{Kept, Noted, NotesIn, Stays, by_table, notes_in}
use Rattle.mg_directory.specs.declared.TheConstants.{MOST_NOTED, MOST_TABLES}

-- a directory is of another table
abbrev pub is_of_other : ℕ → Noted → Bool
is_of_other first dir = not (dir.first == first)

-- the directories of other tables
abbrev pub without : ℕ → List Noted → List Noted
without first dirs = filter (is_of_other first) dirs

-- A place is the first one of a table.
pub record IsPlaceOf (dirs : List Noted) (first place : ℕ) : Type 0 where
  pub inside : place < length dirs
  pub its : (d : Noted) → (slice_index_or dirs place d).first ≡ first
  pub earlier : (k : ℕ) (d : Noted) → k < place → (slice_index_or dirs k d).first ≢ first

-- no place is a table's
abbrev pub IsNowhere : List Noted → ℕ → Type 0
IsNowhere dirs first = (k : ℕ) (d : Noted) → k < length dirs → (slice_index_or dirs k d).first ≢ first

-- there are no more notes than the bound, and no more tables
pub record IsBounded (most : ℕ) (dirs : List Noted) : Type 0 where
  pub bound : most ≤ MOST_NOTED
  pub tables : length dirs ≤ MOST_TABLES
  pub notes : notes_in dirs ≤ most

-- A record is noted in the directory of its table or that one is dropped; those of others are as
-- they were, and there is one note more at most.
pub record LeavesNoted (old new : List Noted) (first : ℕ) (bytes : List ℕ) (rec : RecId) : Type 0 where
  pub its : NotesIn (by_table old first) (by_table new first) bytes rec
  pub others : without first new ≡ without first old
  pub notes : notes_in new ≤ notes_in old + 1
  pub tables : length new ≤ length old

-- all but that which was kept first, and others of its table
abbrev pub without_oldest : List Noted → List Noted
without_oldest [] = []
without_oldest (dir ∷ dirs) = without dir.first (dir ∷ dirs)

-- there is place for one more: where there were as many as there may be, that which was kept first is gone
abbrev pub LeavesPlace : List Noted → List Noted → Type 0
LeavesPlace old new = ((length old < MOST_TABLES) × (new ≡ old))
    ⊎ ((MOST_TABLES ≤ length old) × (new ≡ without_oldest old))

-- a directory has more notes than there is room for beside those of other tables
abbrev pub IsTooLarge : Kept → Noted → Type 0
IsTooLarge kept dir = kept.most < notes_in (without dir.first kept.dirs) + length dir.notes

-- A directory is the last of those that are kept, or it is left out for want of memory: in place of the one that its
-- table had, and of that which was kept first if there is no place. If it is too large, its table has none, and others
-- are as they were.
abbrev pub Places : Kept → Kept → Noted → Type 0
Places old new dir = (IsTooLarge old dir × (new.dirs ≡ without dir.first old.dirs))
    ⊎ ((notes_in (without dir.first old.dirs) + length dir.notes ≤ old.most)
    × (left : List Noted) × LeavesPlace (without dir.first old.dirs) left
    × ((new.dirs ≡ left ++ dir ∷ []) ⊎ (new.dirs ≡ left)))

-- some tables may have lost their directories
pub record AreFewer (old new : List Noted) : Type 0 where
  pub stay : (at : ℕ) → Stays (by_table old at) (by_table new at)
  pub notes : notes_in new ≤ notes_in old
  pub tables : length new ≤ length old
