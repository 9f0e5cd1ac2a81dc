-- The disks of which a run promises its history.
use Rattle.std.specs.Prelude.{◌≡◌, ℕ, true, length, Some}
use Rattle.mg_base.specs.Disk.{Meaning}
use Rattle.mg_base.specs.Geometry.{is_page_size}
use Rattle.mg_base.specs.Image.{Image, page_at}
use Rattle.mg_base.specs.declared.geometry.Geometry.{Geometry}
use Rattle.mg_engine_meaning_laws.specs.Openings.{BeginsWith, IsSettledOn, new_history}
use Rattle.mg_format.specs.Format.{IsUnmadeImage}
use Rattle.mg_model.specs.declared.opening.Opening.{Opening}
use Rattle.mg_new_database_laws.specs.NewRoom.{HasNewRoom}
use Rattle.mg_new_database_laws.specs.Soundness.{HasWholePages}
use Rattle.mg_space.specs.FreePages.{HasFree}
use Rattle.mg_space.specs.View.{Tells}
use Rattle.mg_survey.specs.Survey.{limit_of}

-- ---- openings

-- the page limit by which an engine opens a disk that holds an image: the greater of the one that was asked for and the
-- disk's number of pages
abbrev pub limit_on : ℕ → Image → ℕ
limit_on limit image = limit_of limit (length image)

-- the geometry by which it opens it
abbrev pub geometry_at : ℕ → ℕ → Image → Geometry
geometry_at size limit image = record { size = size; limit = limit_on limit image }

-- What a history begins with that stands on an image, which is opened with a page limit: on one on which a database
-- may be made a new database, on a sound one what it holds; and so many pages are free as it promises.
pub data IsOpeningOf (size limit : ℕ) (image : Image) : Opening → Type 0 where
  of_new : (free : ℕ) → IsUnmadeImage size image → HasNewRoom size (limit_on limit image) free
      → IsOpeningOf size limit image (new_history free)
  of_sound : (o : Opening) → BeginsWith size image o → HasFree (geometry_at size limit image) (page_at size image) o.free
      → IsOpeningOf size limit image o

-- an opening that promises another number of free pages
abbrev pub promising : ℕ → Opening → Opening
promising free o = record {
  rows = o.rows;
  limbo = o.limbo;
  states = o.states;
  next = o.next;
  limit = o.limit;
  free = free;
}

-- ---- disks

-- Whatever a disk with pages of this size holds, and whatever a crash might have left of it, each page has that size.
pub record TellsWholePages {D : Type 0} (m : Meaning D) (size : ℕ) : Type 0 where
  pub held : (disk : D) (image : Image) → m.size disk ≡ Some size → Tells m disk image → HasWholePages size image
  pub left : (disk : D) (t : ℕ) (c : Image) → m.size disk ≡ Some size → m.left disk t c → HasWholePages size c

-- A disk has pages of this size, one of the five, tells its images, and holds this image, with nothing pending; where it
-- is opened with this page limit, a history can begin so.
pub record IsEntry {D : Type 0} (m : Meaning D) (disk : D) (limit size : ℕ) (image : Image) (o : Opening) : Type 0
  where
    pub sized : m.size disk ≡ Some size
    pub lawful : is_page_size size ≡ true
    pub whole : TellsWholePages m size
    pub settled : IsSettledOn m disk image
    pub opening : IsOpeningOf size limit image o
