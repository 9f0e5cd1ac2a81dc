-- What a disk holds that may be opened, and what an engine is over it.
use Rattle.std.specs.Prelude.{◌≡◌, ◌≢◌, ◌⊎◌, ◌+◌, ◌≤◌, ℕ, false, List, [], length, None, Some, Result, Ok, Err}
use Rattle.mg_base.specs.Asking.{AsksReads}
use Rattle.mg_base.specs.Disk.{FailsNoWrite, MayLeave, Meaning}
use Rattle.mg_base.specs.Image.{Image, blank, page_at}
use Rattle.mg_base.specs.Moments.{LeavesOnly}
use Rattle.mg_core.specs.Cores.{IsCore}
use Rattle.mg_core.specs.Opening.{RefusesOpen}
use Rattle.mg_core.specs.declared.parts.Core.{Core}
use Rattle.mg_database.specs.Loading.{front_length, is_front}
use Rattle.mg_database.specs.Tested.{IsTested}
use Rattle.mg_engine_meaning_laws.specs.PlainTables.{EachIsPlain}
use Rattle.mg_engine_meaning_laws.specs.Standings.{StandsFor}
use Rattle.mg_format.specs.Format.{HasNew, IsMade, IsUnmadeImage, LeavesNew}
use Rattle.mg_grown_catalog_laws.specs.Grown.{CatalogGrows}
use Rattle.mg_header.specs.HeaderPage.{reading}
use Rattle.mg_header.specs.declared.header.Header.{Header}
use Rattle.mg_header.specs.declared.header.TheConstants.{GREATEST_NEXT}
use Rattle.mg_image.specs.Form.{packed_form}
use Rattle.mg_image.specs.Histories.{Begins}
use Rattle.mg_image.specs.Inventory.{header_of, state_at}
use Rattle.mg_image.specs.Opening.{IsOpened, Opened}
use Rattle.mg_image.specs.Records.{Reading}
use Rattle.mg_image.specs.Sound.{IsSound}
use Rattle.mg_image.specs.Tables.{Layout}
use Rattle.mg_model.specs.NewDatabase.{new_opening}
use Rattle.mg_model.specs.Openings.{IsOpening}
use Rattle.mg_model.specs.declared.opening.Opening.{Opening}
use Rattle.mg_model.specs.declared.refusal.Refusal.{Refusal}
use Rattle.mg_model.specs.declared.refusal.Refusal.TheVariants.{Damaged, NotADatabase}
use Rattle.mg_new_database_laws.specs.Soundness.{HasWholePages}
use Rattle.mg_pool.specs.Pool.{KeepsContent, shown}
use Rattle.mg_space.specs.View.{Tells}
use Rattle.mg_survey.specs.Survey.{limit_of, IsSameDisk}
use Rattle.mg_works.specs.Works.{has_session}

-- ---- what a disk holds

-- A disk tells its images, and nothing is pending on it: it holds this image, and a crash leaves that and no
-- other.
pub record IsSettledOn {D : Type 0} (m : Meaning D) (disk : D) (image : Image) : Type 0 where
  pub tells : Tells m disk image
  pub only : (c : Image) → MayLeave m disk c → c ≡ image

-- An image is sound.
pub record IsSoundImage (size : ℕ) (image : Image) : Type 0 where
  pub layout : Layout
  pub records : Reading
  pub sound : IsSound packed_form size (page_at size image) layout records

-- A history may begin with what a sound image holds: its opening is what the image gives, with the number that no
-- transaction draws. Two things are asked of the image that its soundness leaves open. The transactions in limbo have
-- only made rows of the catalog: one that changed a committed row might change a table under those who use it. And each
-- table is plain, since no table gets an index yet, and rows are written of the first format alone.
pub record BeginsWith (size : ℕ) (image : Image) (o : Opening) : Type 0 where
  pub opened : Opened
  pub sound : IsOpened packed_form size (page_at size image) opened
  pub begins : Begins opened o
  pub whole : IsOpening o
  pub limit : o.limit.0 ≡ GREATEST_NEXT
  pub grows : CatalogGrows o []
  pub plain_tables : EachIsPlain size (state_at size (page_at size image)) (page_at size image)

-- a history of a new database begins with this, where so many pages are free
abbrev pub new_history : ℕ → Opening
new_history free = new_opening GREATEST_NEXT free

-- ---- an engine

-- An engine was opened over a disk.
pub record IsOpenedOver {D : Type 0} (m : Meaning D) (disk : D) (limit : ℕ) (core : Core D) : Type 0 where
  pub core_is : IsCore m core
  -- no session has an active transaction
  pub free : (session : ℕ) → has_session core.works session ≡ false
  -- no page write has failed yet
  pub online : core.store.offline ≡ None
  -- nor any other call of the disk
  pub steady : m.faults core.store.disk ≡ m.faults disk
  pub none_failed : FailsNoWrite m disk core.store.disk
  -- no damage was counted yet
  pub undamaged : core.damage ≡ 0
  pub same : IsSameDisk m disk core.store.disk
  -- the page size is the disk's
  pub size_is : m.size core.store.disk ≡ Some core.store.geometry.size
  -- the page limit is the greater of the one that was asked for and the disk's number of pages
  pub limit_is : (image : Image) → m.held disk ≡ Some image
      → core.store.geometry.limit ≡ limit_of limit (length image)
  -- no page is dirty: the cache shows the disk's pages
  pub shows : (image : Image) → Tells m core.store.disk image
      → shown core.store.dirty image ≡ page_at core.store.geometry.size image
  -- page 0 is a header
  pub header_is : (image : Image) → Tells m core.store.disk image → (header : Header)
      × (reading (page_at core.store.geometry.size image 0) core.store.geometry.size ≡ Ok header)
  -- where the disk holds a sound image and nothing is pending, the engine stands for the history that begins with
  -- that image and has no entry
  pub stands : (image : Image) (o : Opening) → IsSettledOn m core.store.disk image
      → BeginsWith core.store.geometry.size image o → StandsFor m core o []
  -- a disk on which no database may be made was not written
  pub unwritten : (image : Image) → m.held disk ≡ Some image
      → (IsUnmadeImage core.store.geometry.size image → ⊥) → KeepsContent m disk core.store.disk
  -- the pages of the catalog, which begins where page 0 says, are as wanted
  pub pointers : List ℕ
  pub data_pages : List ℕ
  pub tested : (image : Image) → Tells m core.store.disk image
      → IsTested (page_at core.store.geometry.size image)
      (header_of (page_at core.store.geometry.size image)).catalog.0 pointers data_pages
  -- where page 0 of the disk is not zero, that page, the transaction inventory pages and the catalog's alone were read,
  -- and no more often in sum than page 0 twice and each of the others once
  pub reads : (image : Image) → m.held disk ≡ Some image
      → page_at core.store.geometry.size image 0 ≢ blank core.store.geometry.size
      → AsksReads m disk core.store.disk (1 + front_length core.list.pages.items pointers data_pages)
      (is_front core.list.pages.items pointers data_pages)
  -- any other holds a new one, and nothing is pending
  pub made : (image : Image) → Tells m disk image → IsUnmadeImage core.store.geometry.size image
      → HasNew m core.store.disk core.store.geometry.size
  -- and the engine then stands for the history of a new database that has no entry. (No page past the greatest page
  -- limit is read or written, so of those it is the disk that has to have whole ones.)
  pub begins_new : (free : ℕ) (image now : Image) → Tells m disk image → IsUnmadeImage core.store.geometry.size image
      → Tells m core.store.disk now → HasWholePages core.store.geometry.size now
      → StandsFor m core (new_history free) []
  -- each image that a crash since the start might have left is one from before, one on which a database may be made,
  -- or the new one
  pub crash : (image : Image) → Tells m disk image
      → LeavesOnly m disk core.store.disk (LeavesNew m disk core.store.geometry.size)

-- ---- refusals

-- it is not said of the disk that it holds no database, nor that it is damaged
abbrev pub IsNoJudgement : Refusal → Type 0
IsNoJudgement (NotADatabase field found) = ⊥
IsNoJudgement (Damaged page field found wanted) = ⊥
IsNoJudgement refusal = Unit {0}

-- A disk was not opened.
pub record RefusesOpening {D : Type 0} (m : Meaning D) (disk new : D) (limit : ℕ) (refusal : Refusal)
    : Type 0 where
  -- each refusal comes from its cause
  pub cause : RefusesOpen m disk new limit refusal
  pub same : IsSameDisk m disk new
  -- the disk has no more pages than the page limit
  pub within : (image now : Image) → m.held disk ≡ Some image → m.held new ≡ Some now
      → length now ≤ limit_of limit (length image)
  -- no sound image is judged, nor a database that was just made
  pub lawful : (size : ℕ) (image : Image) → m.size new ≡ Some size → Tells m new image
      → IsSoundImage size image ⊎ IsMade size image → IsNoJudgement refusal
  -- nor is a disk judged on which a database may be made
  pub lawful_new : (size : ℕ) (image : Image) → m.size new ≡ Some size → Tells m disk image
      → IsUnmadeImage size image → IsNoJudgement refusal
  -- a disk on which no database may be made was not written
  pub unwritten : (image : Image) → m.held disk ≡ Some image
      → ((size : ℕ) → m.size new ≡ Some size → IsUnmadeImage size image → ⊥) → KeepsContent m disk new
  -- each image that a crash since the start might have left is one from before, one on which a database may be made,
  -- or the new one
  pub crash : (size : ℕ) → m.size new ≡ Some size → (image : Image) → Tells m disk image
      → LeavesOnly m disk new (LeavesNew m disk size)

-- a disk is opened, or the opening is refused, and the disk comes back
abbrev pub OpensEngine : {D : Type 0} → Meaning D → D → ℕ → Result (Core D) (D × Refusal) → Type 0
OpensEngine m disk limit (Ok core) = IsOpenedOver m disk limit core
OpensEngine m disk limit (Err both) = RefusesOpening m disk both.0 limit both.1
