-- What a cache has noted of the room of its pages: how many bytes a new cell may take on each.
use Rattle.std.specs.Prelude.{◌≡◌, ◌≢◌, ◌<◌, ℕ, List, length, Option, Some, None, get_or, ◌==◌, if◌then◌else◌}
use Rattle.mg_slots.specs.Room.{room_of}

-- what a note tells: 65,535 stands for nothing
abbrev pub told : ℕ → Option ℕ
told note = if note == 65535 then None else Some note

-- the room that is noted of a page, in a list of notes by the pages' numbers
abbrev pub noted_in : List ℕ → ℕ → Option ℕ
noted_in notes page = told (get_or notes page 65535)

-- The room of one page was noted, if there are notes for the page and a page can have it; else nothing is
-- noted of it. All other notes stay.
pub record NotesRoom (old new : List ℕ) (page room : ℕ) : Type 0 where
  pub noted : page < length old → room < 65535 → noted_in new page ≡ Some room
  pub none : (page < length old → room < 65535 → ⊥) → noted_in new page ≡ None
  pub others : (p : ℕ) → p ≢ page → noted_in new p ≡ noted_in old p
  pub len : length new ≡ length old

-- a page is there with its content, on which a new cell may take so many bytes
abbrev pub HasRoom : Option (List ℕ) → ℕ → Type 0
HasRoom None room = ⊥
HasRoom (Some bytes) room = room ≡ room_of bytes
