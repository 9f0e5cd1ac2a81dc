-- A run over a file that holds no database: it is refused, and not written.
use Rattle.std.specs.Prelude.{◌≡◌, ℕ, List, Option, Some, Ok, Err}
use Rattle.mg_base.specs.Disk.{MayLeave, Meaning}
use Rattle.mg_base.specs.Image.{Image, page_at}
use Rattle.mg_base.specs.Moments.{LeavesOnly}
use Rattle.mg_base.specs.Streams.{SinkMeaning}
use Rattle.mg_database.specs.Tested.{IsTested}
use Rattle.mg_format.specs.Format.{IsUnmadeImage}
use Rattle.mg_header.specs.HeaderPage.{reading}
use Rattle.mg_header.specs.declared.header.HeadFault.TheVariants as heads
use Rattle.mg_header.specs.declared.header.Header.{Header}
use Rattle.mg_image.specs.Inventory.{header_of}
use Rattle.mg_model.specs.declared.refusal.Refusal.{Refusal}
use Rattle.mg_model.specs.declared.refusal.Refusal.TheVariants.{Damaged, NotADatabase}
use Rattle.mg_run_ends.specs.Ends.{IsOutside, last_line}
use Rattle.mg_run_ends.specs.Printing.{IsPrinted}
use Rattle.mg_run_ends.specs.declared.ending.RunEnd.{RunEnd}
use Rattle.mg_space.specs.View.{Tells}
use Rattle.mg_runs.specs.FileDamage.{IsFileDamage}
use Rattle.mg_runs.specs.Headline.{IsOpeningFault}

-- A disk was not written: it holds what it held, and each image that a crash since then might have left is one that a
-- crash might have left before.
pub record IsUnwritten {D : Type 0} (m : Meaning D) (old new : D) : Type 0 where
  pub held : m.held new ≡ m.held old
  pub crash : LeavesOnly m old new (MayLeave m old)

-- An image is that of a database as far as an opening tests it: page 0 is a header, and the pages of the catalog, which
-- it names, are as wanted.
pub record PassesOpening (size : ℕ) (image : Image) : Type 0 where
  pub header : Header
  pub reads : reading (page_at size image 0) size ≡ Ok header
  pub pointers : List ℕ
  pub data_pages : List ℕ
  pub tested : IsTested (page_at size image) (header_of (page_at size image)).catalog.0 pointers data_pages

-- A disk tells an image that is none of a database, and on which none is made.
pub record HoldsNoDatabase {D : Type 0} (m : Meaning D) (disk : D) (size : ℕ) (image : Image) : Type 0 where
  pub sized : m.size disk ≡ Some size
  pub tells : Tells m disk image
  pub unpassed : PassesOpening size image → ⊥
  pub unmakeable : IsUnmadeImage size image → ⊥

-- An opening of a file of so many pages refuses so: page 0 is none of a database, in the field that is
-- told; a page is damaged, in that field; the disk fails, or memory is short.
abbrev pub IsOpeningRefusal : Option ℕ → ℕ → Image → Refusal → Type 0
IsOpeningRefusal count size image (NotADatabase field found) =
    reading (page_at size image 0) size ≡ Err (heads.NotADatabase field found)
IsOpeningRefusal count size image (Damaged page field found wanted) =
    IsFileDamage count size (page_at size image)
    (record { page = page; field = field; found = found; wanted = wanted })
IsOpeningRefusal count size image refusal = IsOpeningFault refusal

-- The opening of such a disk was refused: it was not written, and the run has ended by that refusal, whose line was put
-- into the sink.
pub record RefusesFile {D K : Type 0} (m : Meaning D) (n : SinkMeaning K) (size : ℕ) (image : Image)
    (old new : D) (before after : K) (end : RunEnd) : Type 0 where
  pub unwritten : IsUnwritten m old new
  pub refusal : Refusal
  pub opening : IsOpeningRefusal (m.count new) size image refusal
  pub ends : IsOutside refusal end
  pub last : IsPrinted n before after (last_line end)
