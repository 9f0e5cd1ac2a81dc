-- The opening of a disk, and the closing of a database.
use Rattle.std.specs.Prelude.{◌≡◌, ◌≢◌, ◌+◌, ℕ, List, Some, [], None, Result, Ok, Err}
use Rattle.mg_base.specs.Asking.{AsksReads}
use Rattle.mg_base.specs.Disk.{FailsNoWrite, Meaning}
use Rattle.mg_base.specs.Image.{Image, blank, page_at}
use Rattle.mg_database.specs.Finishing.{Finishes}
use Rattle.mg_database.specs.Loading.{AreUndecided, OpensAlone, RefusesPages, SaysPages, cache_answer, front_length, is_front}
use Rattle.mg_database.specs.Preparing.{FailsToPrepare, IsPrepared}
use Rattle.mg_database.specs.declared.fault.OpenFault.{OpenFault}
use Rattle.mg_database.specs.declared.fault.OpenFault.TheVariants.{NotADatabase, Space}
use Rattle.mg_directory.specs.declared.TheConstants.{MOST_NOTED}
use Rattle.mg_format.specs.Format.{IsClean}
use Rattle.mg_model.specs.declared.refusal.Refusal.{Refusal}
use Rattle.mg_model.specs.declared.refusal.Refusal.TheVariants as refusals
use Rattle.mg_pool.specs.Fault.{TellsFault}
use Rattle.mg_pool.specs.Pool.{HasAtMost, shown}
use Rattle.mg_pool.specs.declared.fault.PoolFault.{PoolFault}
use Rattle.mg_pool.specs.declared.pool.Pool.{Pool}
use Rattle.mg_space.specs.View.{KeepsStore, Tells}
use Rattle.mg_space.specs.declared.links.FireLinks.{FireLinks}
use Rattle.mg_survey.specs.Survey.{IsSameDisk}
use Rattle.mg_core.specs.declared.parts.Core.{Core}
use Rattle.mg_core.specs.Cores.{IsCore}
use Rattle.mg_core.specs.Refusing.{IsRefusal, IsRefusalOf}

-- An engine with which nobody works yet: no page is dirty, nobody is active, those in limbo have not ended and
-- have no bases, nobody waits, no key is noted, and nothing was counted.
pub record IsIdle {D : Type 0} (m : Meaning D) (core : Core D) : Type 0 where
  pub core_is : IsCore m core
  pub online : core.store.offline ≡ None
  pub clean : IsClean core.store
  pub undrawn : core.list.own.items ≡ []
  pub undecided : AreUndecided core.list core.live
  pub works : core.works ≡ []
  pub waits : core.waits ≡ []
  pub directories : core.directories ≡ record { most = MOST_NOTED; dirs = []; too_large = [] }
  pub damage : core.damage ≡ 0
  pub shortages : core.shortages ≡ 0

-- A disk was opened: it was prepared, and an engine has what its pages say, which were read and not written.
pub record Opens {D : Type 0} (m : Meaning D) (disk : D) (limit : ℕ) (core : Core D) : Type 0 where
  pub before : Pool D FireLinks
  pub prepared : IsPrepared m disk limit before
  pub keeps : KeepsStore m before core.store
  -- no call of the disk has failed
  pub steady : m.faults core.store.disk ≡ m.faults before.disk
  pub none_failed : FailsNoWrite m before.disk core.store.disk
  pub idle : IsIdle m core
  -- the pages of the catalog
  pub pointers : List ℕ
  pub data_pages : List ℕ
  pub says : (image : Image) → Tells m before.disk image
      → SaysPages before.geometry.size (shown before.dirty image) core.list core.catalog.pointer
      core.markers pointers data_pages
  -- where page 0 is not zero, that page, the transaction inventory pages and the catalog's alone were read, and
  -- no more often in sum than page 0 twice and each of the others once
  pub reads : (image : Image) → m.held disk ≡ Some image
      → page_at core.store.geometry.size image 0 ≢ blank core.store.geometry.size
      → AsksReads m disk core.store.disk (1 + front_length core.list.pages.items pointers data_pages)
      (is_front core.list.pages.items pointers data_pages)

-- The pages of a disk that was prepared were not read.
pub record FailsToRead {D : Type 0} (m : Meaning D) (disk new : D) (limit : ℕ) (fault : OpenFault)
    : Type 0 where
  pub before : Pool D FireLinks
  pub after : Pool D FireLinks
  pub is_disk : new ≡ after.disk
  pub prepared : IsPrepared m disk limit before
  pub keeps : KeepsStore m before after
  pub told : TellsFault m before after (cache_answer {T = Unit {0}} (Err fault))
  pub own : OpensAlone {T = Unit {0}} (Err fault)
  pub why : (image : Image) → Tells m before.disk image
      → RefusesPages m after before.geometry (shown before.dirty image) fault

-- the refusal that a fault of an opening is
abbrev pub IsOpenRefusal : OpenFault → Refusal → Type 0
IsOpenRefusal (NotADatabase field found) refusal = refusal ≡ refusals.NotADatabase field found
IsOpenRefusal (Space fault) refusal = IsRefusal fault refusal

-- why a disk is not opened, and what becomes of it: it was not prepared, or its pages were not read
pub data RefusesOpen {D : Type 0} (m : Meaning D) (disk new : D) (limit : ℕ) (refusal : Refusal) : Type 0
  where
    unprepared : (fault : OpenFault) → IsOpenRefusal fault refusal → FailsToPrepare m disk new limit fault
        → RefusesOpen m disk new limit refusal
    unread : (fault : OpenFault) → IsOpenRefusal fault refusal → FailsToRead m disk new limit fault
        → RefusesOpen m disk new limit refusal

abbrev pub OpensDisk : {D : Type 0} → Meaning D → D → ℕ → Result (Core D) (D × Refusal) → Type 0
OpensDisk m disk limit (Ok core) = Opens m disk limit core
OpensDisk m disk limit (Err both) = RefusesOpen m disk both.0 limit both.1

-- the answer of a call whose fault is told so
abbrev pub IsAnswer : Result (Unit {0}) PoolFault → Result (Unit {0}) Refusal → Type 0
IsAnswer (Ok x) (Ok y) = Unit {0}
IsAnswer (Ok x) (Err refusal) = ⊥
IsAnswer (Err fault) (Ok y) = ⊥
IsAnswer (Err fault) (Err refusal) = IsRefusalOf fault refusal

-- Every page was written and settled, as a cache became this one, and its disk came back; or that failed.
pub record ClosesDisk {D : Type 0} (m : Meaning D) (old : Pool D FireLinks) (disk : D)
    (result : Result (Unit {0}) Refusal) : Type 0 where
  pub new : Pool D FireLinks
  pub is_disk : disk ≡ new.disk
  pub ended : Result (Unit {0}) PoolFault
  pub is : IsAnswer ended result
  pub finishes : Finishes m old new ended
  pub same : IsSameDisk m old.disk disk
  -- the disk has no more pages than the page limit
  pub within : HasAtMost m disk old.geometry.limit
