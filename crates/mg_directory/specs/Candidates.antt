-- Records by the bytes of keys: what a directory has, and what a note does to it.
use Rattle.std.specs.List.{list_any}
use Rattle.std.specs.Option.{is_none}
use Rattle.std.specs.Prelude.{◌≡◌, ◌≢◌, ◌⊎◌, ◌+◌, ◌*◌, ◌==◌, ◌≤◌, ◌++◌, ◌&&◌, ℕ, Bool, not, List, [], ◌∷◌, Option, None, Some, length, if◌then◌else◌, min}
use Rattle.mg_base.specs.declared.numbers.RecId.{RecId}
use Rattle.mg_directory.specs.Hashes.{hash_of}
use Rattle.mg_directory.specs.declared.TheConstants.{MOST_NOTED}
use Rattle.mg_directory.specs.declared.directory.TheConstants.{ROWS_A_HEAD}

-- the candidates for the bytes of a key
abbrev pub ByKey : Type 0
ByKey = List ℕ → List RecId

-- a record is one of these
abbrev pub IsCandidate : List RecId → RecId → Type 0
IsCandidate [] rec = ⊥
IsCandidate (first ∷ others) rec = (first ≡ rec) ⊎ IsCandidate others rec

-- ---- a table's directory

-- a record, with the hash of the bytes that it was noted under
pub record Note : Type 0 where
  pub hash : ℕ
  pub rec : RecId

-- what a directory has: its table's first pointer page, for how many notes it has room, and the
-- notes, the newest first
pub record Noted : Type 0 where
  pub first : ℕ
  pub room : ℕ
  pub notes : List Note

-- how many notes there is room for beside so many heads of chains
abbrev pub room_of : ℕ → ℕ
room_of heads = min (heads * ROWS_A_HEAD) MOST_NOTED

-- a note's record stands before those where it has the hash
abbrev pub with_its : ℕ → ℕ → RecId → List RecId → List RecId
with_its hash its rec recs = if its == hash then rec ∷ recs else recs

-- the records that were noted with a hash
abbrev pub recs_with : ℕ → List Note → List RecId
recs_with hash [] = []
recs_with hash (note ∷ notes) = with_its hash note.hash note.rec (recs_with hash notes)

-- the candidates are the records that were noted with the hash of the bytes
abbrev pub under : Noted → ByKey
under dir bytes = recs_with (hash_of bytes) dir.notes

-- a directory with one note more
abbrev pub with_note : Noted → ℕ → RecId → Noted
with_note dir hash rec = record {
  first = dir.first;
  room = dir.room;
  notes = record { hash = hash; rec = rec } ∷ dir.notes;
}

-- A record is a candidate for the bytes already and nothing changes, or it is noted.
abbrev pub Adds : Noted → Noted → List ℕ → RecId → Type 0
Adds old new bytes rec = ((new ≡ old) × IsCandidate (under old bytes) rec)
    ⊎ (new ≡ with_note old (hash_of bytes) rec)

-- A directory is the table's, has no notes, and has room for so many.
pub record IsStarted (first rows : ℕ) (dir : Noted) : Type 0 where
  pub table : dir.first ≡ first
  pub none : dir.notes ≡ []
  pub wide : rows ≤ dir.room

-- ---- the directories of tables

-- what is kept: how many notes there may be in all, the directories, of which the one that was kept
-- first is the first, and the first pointer pages of the tables that are known to have too many records
pub record Kept : Type 0 where
  pub most : ℕ
  pub dirs : List Noted
  pub too_large : List ℕ

-- the directories of tables by their first pointer pages; a table may have none
abbrev pub ByTable : Type 0
ByTable = ℕ → Option ByKey

abbrev pub by_table : List Noted → ByTable
by_table [] first = None
by_table (dir ∷ dirs) first = if dir.first == first then Some (under dir) else by_table dirs first

-- what a directory that may be there has for the bytes of a key
abbrev pub at_key : Option ByKey → List ℕ → Option (List RecId)
at_key None bytes = None
at_key (Some dir) bytes = Some (dir bytes)

-- how many notes there are in all
abbrev pub notes_in : List Noted → ℕ
notes_in [] = 0
notes_in (dir ∷ dirs) = length dir.notes + notes_in dirs

-- a table is known to have too many records
abbrev pub is_marked : List ℕ → ℕ → Bool
is_marked too_large first = list_any (λ n. n == first) too_large

-- a directory of a table is worth to be made: it has none, and is not known to have too many records
abbrev pub may_be_made : Kept → ℕ → Bool
may_be_made kept first = not (is_marked kept.too_large first) && is_none (by_table kept.dirs first)

-- The bound stays, and a table may be marked from now on as one that has too many records: then there
-- is a cause.
pub record MarksFor (cause : Type 0) (old new : Kept) (first : ℕ) : Type 0 where
  pub most : new.most ≡ old.most
  pub marked : (new.too_large ≡ old.too_large) ⊎ ((new.too_large ≡ old.too_large ++ first ∷ []) × cause)

-- A record is noted under the bytes of a key. All candidates stay, and it alone comes, perhaps
-- under other bytes, too.
pub record Notes (old new : ByKey) (bytes : List ℕ) (rec : RecId) : Type 0 where
  pub its : IsCandidate (new bytes) rec
  pub rest : (other : List ℕ) → (new other ≡ old other) ⊎ (new other ≡ rec ∷ old other)

-- a table's directory has got the record, or was dropped, or there was none
abbrev pub NotesIn : Option ByKey → Option ByKey → List ℕ → RecId → Type 0
NotesIn was None bytes rec = Unit {0}
NotesIn None (Some dir) bytes rec = ⊥
NotesIn (Some was) (Some dir) bytes rec = Notes was dir bytes rec

-- A record is noted in the directory of its table, if that has one, or the directory is dropped.
pub record NotesOrDrops (old new : ByTable) (first : ℕ) (bytes : List ℕ) (rec : RecId) : Type 0 where
  pub its : NotesIn (old first) (new first) bytes rec
  pub others : (at : ℕ) → at ≢ first → new at ≡ old at

-- a table has no directory any more
pub record Drops (old new : ByTable) (first : ℕ) : Type 0 where
  pub its : new first ≡ None
  pub others : (at : ℕ) → at ≢ first → new at ≡ old at

-- a directory is as it was, or it is none
abbrev pub Stays : Option ByKey → Option ByKey → Type 0
Stays was now = (now ≡ was) ⊎ (now ≡ None)

-- A table has this directory or none, and any other one may have lost its own.
pub record KeepsOrDrops (old new : ByTable) (first : ℕ) (dir : ByKey) : Type 0 where
  pub its : (new first ≡ Some dir) ⊎ (new first ≡ None)
  pub others : (at : ℕ) → at ≢ first → Stays (old at) (new at)
