-- How a next run begins with what a run has left, whole or cut off.
use Rattle.std.specs.Prelude.{◌≡◌, ◌≤◌, min, ℕ, true, length, Some}
use Rattle.mg_base.specs.Disk.{Meaning}
use Rattle.mg_base.specs.Geometry.{is_page_size}
use Rattle.mg_base.specs.Image.{Image, page_at}
use Rattle.mg_base.specs.declared.geometry.TheConstants.{GREATEST_LIMIT}
use Rattle.mg_engine_meaning_laws.specs.Closings.{GoesOnFrom}
use Rattle.mg_engine_meaning_laws.specs.Openings.{IsSettledOn}
use Rattle.mg_engine_meaning_laws.specs.PlainTables.{EachIsPlain}
use Rattle.mg_format.specs.Format.{IsUnmadeImage}
use Rattle.mg_image.specs.Form.{Pages}
use Rattle.mg_image.specs.Inventory.{state_at}
use Rattle.mg_model.specs.History.{Entries}
use Rattle.mg_model.specs.declared.opening.Opening.{Opening}
use Rattle.mg_new_database_laws.specs.NewRoom.{HasNewRoom}
use Rattle.mg_space.specs.FreePages.{HasFree}
use Rattle.mg_survey.specs.Survey.{limit_of}
use Rattle.mg_runs.specs.Entry.{IsEntry, IsOpeningOf, TellsWholePages, geometry_at, promising}

-- So many pages may be promised on an image that is opened with a page limit: on one on which a database may be made
-- those that are free in a new one, on any other one those that are free by its inventory pages.
abbrev pub MayPromise : ℕ → ℕ → Image → ℕ → Type 0
MayPromise size limit image free =
    (IsUnmadeImage size image → HasNewRoom size (limit_of limit (length image)) free)
    × ((IsUnmadeImage size image → ⊥) → HasFree (geometry_at size limit image) (page_at size image) free)

-- the tables of an image are plain, which an opening wants
abbrev pub ArePlain : ℕ → Image → Type 0
ArePlain size image = EachIsPlain size (state_at size (page_at size image)) (page_at size image)

-- A history can begin with an image, and goes on from another one's k-th durable event, whatever page limit it is opened
-- with, and however many of its free pages are promised. That its tables are plain is known of what a run has left whose
-- database was closed; of what a crash leaves it is a premise.
pub record GoesOnAt (size : ℕ) (o : Opening) (h : Entries) (k : ℕ) (image : Image) : Type 0 where
  pub later : Opening
  pub goes_on : GoesOnFrom o h k later
  pub opening : (limit free : ℕ) → ArePlain size image → MayPromise size limit image free
      → IsOpeningOf size limit image (promising free later)

-- so a settled disk with that image is one on which a next run has its history
abbrev pub LeftIsEntry : {D : Type 0} → Meaning D → Type 0
LeftIsEntry {D} m = (disk : D) (limit free size : ℕ) (image : Image) (o : Opening) (h : Entries) (k : ℕ)
    (next : GoesOnAt size o h k image) → m.size disk ≡ Some size → is_page_size size ≡ true → TellsWholePages m size
    → IsSettledOn m disk image → ArePlain size image → MayPromise size limit image free
    → IsEntry m disk limit size image (promising free next.later)

-- by a greater page limit as many pages are free, and so they are by the greatest
abbrev pub FreeStays : Type 0
FreeStays = (size low high : ℕ) (pages : Pages) (free : ℕ) → min low GREATEST_LIMIT ≤ high
    → HasFree (record { size = size; limit = low }) pages free
    → HasFree (record { size = size; limit = high }) pages free
