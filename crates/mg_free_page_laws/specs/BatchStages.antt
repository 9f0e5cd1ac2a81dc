-- How many free pages a batch takes, call by call, and that it is refused for want of them nowhere else.
use Rattle.std.specs.Prelude.{ℕ, List}
use Rattle.mg_base.specs.Disk.{Meaning}
use Rattle.mg_base.specs.Image.{Image}
use Rattle.mg_base.specs.declared.numbers.PageNo.{PageNo}
use Rattle.mg_base.specs.declared.numbers.RecId.{RecId}
use Rattle.mg_chain.specs.Writing.{GivesSpot, MakesRecord, Pushes, PutsVersion, Replaces, TakesOut}
use Rattle.mg_chain.specs.WritingRefusals.{RefusesBackOut, RefusesFirst, RefusesPush, RefusesPutVersion, RefusesReplace, RefusesSpot}
use Rattle.mg_heap.specs.Apart.{AddsApart, RefusesAddApart}
use Rattle.mg_heap.specs.Room.{AddsCell, GivesRoom, RefusesAdd, RefusesRoom}
use Rattle.mg_pool.specs.Batch.{Changed}
use Rattle.mg_pool.specs.declared.pool.Pool.{Pool}
use Rattle.mg_space.specs.Taking.{IsGeometry}
use Rattle.mg_space.specs.View.{viewed}
use Rattle.mg_space.specs.declared.fault.SpaceFault.{SpaceFault}
use Rattle.mg_space.specs.declared.links.FireLinks.{FireLinks}
use Rattle.mg_version.specs.declared.cell.Version.{Version}
use Rattle.mg_free_page_laws.specs.FreePages.{IsNotFull, TakesAtMost}

module _ (D : Type 0) where
  -- a step of a batch over an image takes so many pages at most
  abbrev pub StepTakes : Pool D FireLinks → Image → Changed → Changed → ℕ → Type 0
  StepTakes store image old new most =
      IsGeometry store.geometry → TakesAtMost store.geometry (viewed store image old) (viewed store image new) most

  -- a page with room is given: a data page is taken, and at most a pointer page before it
  abbrev pub RoomTakes : Type 0
  RoomTakes = (store : Pool D FireLinks) (image : Image) (old new : Changed) (owner need : ℕ) (n : PageNo)
      → GivesRoom store image old new owner need n → StepTakes store image old new 2

  -- a place for a record is given
  abbrev pub SpotTakes : Type 0
  SpotTakes = (store : Pool D FireLinks) (image : Image) (old new : Changed) (owner : ℕ) (at : RecId)
      → GivesSpot store image old new owner at → StepTakes store image old new 2

  -- a cell is added
  abbrev pub AddingTakes : Type 0
  AddingTakes = (store : Pool D FireLinks) (image : Image) (old new : Changed) (owner : ℕ) (cell : List ℕ) (at : RecId)
      → AddsCell store image old new owner cell at → StepTakes store image old new 2

  -- a cell is added apart from a place
  abbrev pub AddingApartTakes : Type 0
  AddingApartTakes = (store : Pool D FireLinks) (image : Image) (old new : Changed) (owner : ℕ) (place : RecId)
      (cell : List ℕ) (at : RecId) → AddsApart store image old new owner place cell at
      → StepTakes store image old new 2

  -- a version's cell is put
  abbrev pub PutTakes : Type 0
  PutTakes = (store : Pool D FireLinks) (image : Image) (old new : Changed) (owner : ℕ) (bytes : List ℕ) (at : RecId)
      (pointers : List ℕ) → PutsVersion store image old new owner bytes at pointers → StepTakes store image old new 2

  -- a record is made
  abbrev pub MakingTakes : Type 0
  MakingTakes = (store : Pool D FireLinks) (image : Image) (old new : Changed) (owner : ℕ) (rec : RecId) (v : Version)
      → MakesRecord store image old new owner rec v → StepTakes store image old new 2

  -- a version is pushed
  abbrev pub PushTakes : Type 0
  PushTakes = (store : Pool D FireLinks) (image : Image) (old new : Changed) (rec : RecId) (v : Version)
      → Pushes store image old new rec v → StepTakes store image old new 2

  -- a version is replaced
  abbrev pub ReplacingTakes : Type 0
  ReplacingTakes = (store : Pool D FireLinks) (image : Image) (old new : Changed) (rec : RecId) (v : Version)
      → Replaces store image old new rec v → StepTakes store image old new 2

  -- a version is taken out: no page is taken
  abbrev pub OutTakesNone : Type 0
  OutTakesNone = (store : Pool D FireLinks) (image : Image) (old new : Changed) (rec : RecId)
      → TakesOut store image old new rec → StepTakes store image old new 0

module _ {D : Type 0} (m : Meaning D) where
  -- a step of a batch is refused for want of free pages nowhere, where so many are free
  abbrev pub StepIsNotFull : Pool D FireLinks → Image → Changed → ℕ → SpaceFault → Type 0
  StepIsNotFull store image batch most fault =
      IsGeometry store.geometry → IsNotFull store.geometry (viewed store image batch) most fault

  abbrev pub RoomIsThere : Type 0
  RoomIsThere = (old new : Pool D FireLinks) (image : Image) (batch : Changed) (owner : ℕ) (fault : SpaceFault)
      → RefusesRoom m old new image batch owner fault → StepIsNotFull old image batch 2 fault

  abbrev pub SpotIsThere : Type 0
  SpotIsThere = (old new : Pool D FireLinks) (image : Image) (batch : Changed) (owner : ℕ) (fault : SpaceFault)
      → RefusesSpot m old new image batch owner fault → StepIsNotFull old image batch 2 fault

  abbrev pub AddingIsThere : Type 0
  AddingIsThere = (old new : Pool D FireLinks) (image : Image) (batch : Changed) (owner : ℕ) (cell : List ℕ)
      (fault : SpaceFault) → RefusesAdd m old new image batch owner cell fault → StepIsNotFull old image batch 2 fault

  abbrev pub AddingApartIsThere : Type 0
  AddingApartIsThere = (old new : Pool D FireLinks) (image : Image) (batch : Changed) (owner : ℕ) (place : RecId)
      (cell : List ℕ) (fault : SpaceFault) → RefusesAddApart m old new image batch owner place cell fault
      → StepIsNotFull old image batch 2 fault

  abbrev pub PutIsThere : Type 0
  PutIsThere = (old new : Pool D FireLinks) (image : Image) (batch : Changed) (owner : ℕ) (bytes : List ℕ)
      (fault : SpaceFault) → RefusesPutVersion m old new image batch owner bytes fault
      → StepIsNotFull old image batch 2 fault

  abbrev pub MakingIsThere : Type 0
  MakingIsThere = (old new : Pool D FireLinks) (image : Image) (batch : Changed) (owner : ℕ) (rec : RecId)
      (v : Version) (fault : SpaceFault) → RefusesFirst m old new image batch owner rec v fault
      → StepIsNotFull old image batch 2 fault

  abbrev pub PushIsThere : Type 0
  PushIsThere = (old new : Pool D FireLinks) (image : Image) (batch : Changed) (rec : RecId) (v : Version)
      (fault : SpaceFault) → RefusesPush m old new image batch rec v fault → StepIsNotFull old image batch 2 fault

  abbrev pub ReplacingIsThere : Type 0
  ReplacingIsThere = (old new : Pool D FireLinks) (image : Image) (batch : Changed) (rec : RecId) (v : Version)
      (fault : SpaceFault) → RefusesReplace m old new image batch rec v fault → StepIsNotFull old image batch 2 fault

  -- the taking out of a version is never refused so
  abbrev pub OutIsThere : Type 0
  OutIsThere = (old new : Pool D FireLinks) (image : Image) (batch : Changed) (rec : RecId) (fault : SpaceFault)
      → RefusesBackOut m old new image batch rec fault → StepIsNotFull old image batch 0 fault
