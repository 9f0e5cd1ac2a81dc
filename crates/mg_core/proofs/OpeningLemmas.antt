-- An engine over a disk that was opened.
use Rattle.std.proofs.Common.{◌≡◌, ◌≢◌, ◌+◌, ◌==◌, ℕ, Some, [], false, true, refl, sym, ap, ◌∙◌, subst}
use Rattle.std.specs.Prelude.{List, Result, Ok, Err, is_some}
use Rattle.mg_base.specs.Asking.{AsksReads, more_reads}
use Rattle.mg_base.specs.Disk.{FailsNoWrite, Meaning}
use Rattle.mg_base.specs.Image.{Image, blank, page_at}
use Rattle.mg_base.specs.declared.geometry.Geometry.{Geometry}
use Rattle.mg_database.specs.Finishing.{Finishes, offline, unsettled, unwritten}
use Rattle.mg_database.specs.Loading.{IsLoaded, OpensAlone, ReadsFront, SaysPages, cache_answer, front_length, is_front}
use Rattle.mg_database.specs.Preparing.{IsPrepared}
use Rattle.mg_database.specs.declared.fault.OpenFault.{OpenFault}
use Rattle.mg_database.specs.declared.fault.OpenFault.TheVariants.{NotADatabase, Space}
use Rattle.mg_database.specs.declared.loading.Loaded.{Loaded}
use Rattle.mg_model.specs.declared.table.Table.{Table}
use Rattle.mg_pool.specs.Dirty.{DirtyPages, is_dirty}
use Rattle.mg_pool.specs.Fault.{OnlyWrites, TellsFault}
use Rattle.mg_pool.specs.Pool.{shown}
use Rattle.mg_pool.specs.declared.fault.PoolFault.{PoolFault}
use Rattle.mg_pool.specs.declared.pool.Pool.{Pool}
use Rattle.mg_space.specs.Taking.{IsGeometry}
use Rattle.mg_space.specs.View.{KeepsStore, Tells}
use Rattle.mg_space.specs.declared.links.FireLinks.{FireLinks}
use Rattle.mg_txlist.specs.ReadingLaws.{of_more}
use Rattle.mg_txlist.specs.declared.list.TipPage.{TipPage}
use Rattle.mg_works.specs.Works.{Working, work_of}
use Rattle.mg_directory.specs.Candidates.{Kept}
use Rattle.mg_directory.specs.declared.TheConstants.{MOST_NOTED}
use Rattle.mg_core.specs.declared.parts.Core.{Core}
use Rattle.mg_core.specs.Cores.{IsCore}
use Rattle.mg_core.specs.Opening.{Opens}
use Rattle.mg_txlist.specs.TipLaws.{tips_by}

-- what was asked before the pages were read, and then
read_then : {D : Type 0} (m : Meaning D) (disk mid new : D) (tips : List TipPage) (pointers data_pages : List ℕ)
    → AsksReads m disk mid 1 (λ n. n == 0)
    → AsksReads m mid new (front_length tips pointers data_pages) (is_front tips pointers data_pages)
    → AsksReads m disk new (1 + front_length tips pointers data_pages) (is_front tips pointers data_pages)
read_then m disk mid new tips pointers data_pages first next = more_reads m disk mid new 1
    (front_length tips pointers data_pages) (is_front tips pointers data_pages)
    (of_more m disk mid 1 (λ n. n == 0) (is_front tips pointers data_pages) within first) next
  where
    within : (n : ℕ) → (n == 0) ≡ true → is_front tips pointers data_pages n ≡ true
    within n is = rw is refl

-- An engine has what was read, and nobody works with it yet.
module _ {D : Type 0} (m : Meaning D) (disk : D) (limit : ℕ) (before after : Pool D FireLinks)
    (loaded : Loaded) (waits : List (ℕ × ℕ)) (works : List Working) (directories : Kept)
    (prepared : IsPrepared m disk limit before) (keeps : KeepsStore m before after)
    (is : IsLoaded before.geometry loaded)
    (steady : m.faults after.disk ≡ m.faults before.disk) (none_failed : FailsNoWrite m before.disk after.disk)
    (loads : ReadsFront m before after loaded.list.pages.items loaded.catalog_pages.pointers.items
    loaded.catalog_pages.data_pages.items) (nobody : waits ≡ []) (none : works ≡ []) (unnoted : directories ≡ record { most = MOST_NOTED; dirs = []; too_large = [] }) where
  abbrev core : Core D
  core = record {
    store = after;
    list = loaded.list;
    live = loaded.live;
    waits = waits;
    works = works;
    directories = directories;
    catalog = loaded.catalog;
    markers = loaded.markers;
    damage = 0;
    shortages = 0;
  }

  idle_core : IsCore m core
  idle_core = record {
    pool = keeps.pool;
    geometry = subst IsGeometry (sym keeps.geometry) prepared.geometry;
    list = is.list;
    size = is.size_is ∙ sym (ap (λ (g : Geometry). g.size) keeps.geometry);
    tips = tips_by before.geometry after.geometry loaded.list keeps.geometry is.tips;
    next = is.undecided.next;
    drawn = is.undecided.drawn;
    active = record {
      has_work = λ t active. absurd (is.idle t active);
      is_active = λ t some. absurd (let no : false ≡ true =
          sym (ap (λ (ws : List Working). is_some (work_of ws t)) none) ∙ some in cc);
    };
    catalog = record {
      named = ap (λ (t : Table). t.name) is.catalog_is;
      shape = ap (λ (t : Table). t.shape) is.catalog_is;
      none = ap (λ (t : Table). t.indexes) is.catalog_is;
      below = is.catalog_below;
    };
  }

  reads_all : (image : Image) → m.held disk ≡ Some image
      → page_at after.geometry.size image 0 ≢ blank after.geometry.size
      → AsksReads m disk after.disk (1 + front_length loaded.list.pages.items
      loaded.catalog_pages.pointers.items loaded.catalog_pages.data_pages.items)
      (is_front loaded.list.pages.items loaded.catalog_pages.pointers.items
      loaded.catalog_pages.data_pages.items)
  reads_all image held other = read_then m disk before.disk after.disk loaded.list.pages.items
      loaded.catalog_pages.pointers.items loaded.catalog_pages.data_pages.items (prepared.reads image held (λ zero. other (subst (λ (g : Geometry).
      page_at g.size image 0 ≡ blank g.size) (sym keeps.geometry) zero))) loads.asks

  pub opened : ((image : Image) → Tells m before.disk image
      → SaysPages before.geometry.size (shown before.dirty image) loaded.list loaded.catalog.pointer
      loaded.markers loaded.catalog_pages.pointers.items loaded.catalog_pages.data_pages.items)
      → Opens m disk limit core
  opened says = record {
    before = before;
    prepared = prepared;
    keeps = keeps;
    steady = steady;
    none_failed = none_failed;
    idle = record {
      core_is = idle_core;
      online = keeps.offline ∙ prepared.online;
      clean = λ p. ap (λ (dirty : DirtyPages). is_dirty dirty p) keeps.dirty ∙ prepared.clean p;
      undrawn = is.undrawn;
      undecided = is.undecided;
      works = none;
      waits = nobody;
      directories = unnoted;
      damage = refl;
      shortages = refl;
    };
    pointers = loaded.catalog_pages.pointers.items;
    data_pages = loaded.catalog_pages.data_pages.items;
    says = says;
    reads = reads_all;
  }

-- the faults with which a database is not closed are those of calls that read nothing and take no memory
pub close_writes : {D : Type 0} (m : Meaning D) (old new : Pool D FireLinks) (fault : PoolFault)
    → Finishes m old new (Err fault) → OnlyWrites {T = Unit {0}} (Err fault)
close_writes m old new _ (offline count is same) = tt
close_writes m old new _ (unwritten count fails) = tt
close_writes m old new _ (unsettled count written run clean settles rose) = tt

pub finish_writes : {D : Type 0} (m : Meaning D) (old new : Pool D FireLinks)
    (result : Result (Unit {0}) PoolFault) → Finishes m old new result → OnlyWrites result
finish_writes m old new (Ok x) finishes = tt
finish_writes m old new (Err fault) finishes = close_writes m old new fault finishes

-- what the cache has answered is the same, whatever was to be answered
pub answered_again : {D : Type 0} (T : Type 0) (m : Meaning D) (old new : Pool D FireLinks) (fault : OpenFault)
    → TellsFault m old new (cache_answer {T = T} (Err fault))
    → TellsFault m old new (cache_answer {T = Unit {0}} (Err fault))
answered_again T m old new (NotADatabase field found) told = told
answered_again T m old new (Space fault) told = told

-- and so are the faults that are handed on
pub alone_again : (T : Type 0) (fault : OpenFault) → OpensAlone {T = T} (Err fault)
    → OpensAlone {T = Unit {0}} (Err fault)
alone_again T (NotADatabase field found) own = own
alone_again T (Space fault) own = own
