-- What an engine has in memory of the pages is read, when a database is opened.
use Rattle.std.specs.Prelude.{◌≡◌, ◌-◌, ◌≢◌, ◌<◌, ◌≤◌, ◌+◌, ◌&&◌, ◌||◌, ℕ, Bool, nat_lt, List, [], None, Result, Ok, Err, length}
use Rattle.mg_base.specs.Disk.{Meaning}
use Rattle.mg_base.specs.declared.damage.Damaged.{Damaged}
use Rattle.mg_base.specs.declared.damage.Field.TheVariants.{Link}
use Rattle.mg_base.specs.declared.geometry.Geometry.{Geometry}
use Rattle.mg_base.specs.declared.geometry.TheConstants.{GREATEST_LIMIT}
use Rattle.mg_base.specs.declared.numbers.PageNo.{PageNo}
use Rattle.mg_base.specs.declared.transaction.Markers.{Markers}
use Rattle.mg_base.specs.declared.transaction.TxState.TheVariants.{Active}
use Rattle.mg_header.specs.HeaderPage.{reading}
use Rattle.mg_header.specs.declared.header.HeadFault.{HeadFault}
use Rattle.mg_header.specs.declared.header.HeadFault.TheVariants as heads
use Rattle.mg_header.specs.declared.header.Header.{Header}
use Rattle.mg_image.specs.Catalog.{catalog_table}
use Rattle.mg_image.specs.Form.{Pages}
use Rattle.mg_image.specs.Inventory.{header_of}
use Rattle.mg_model.specs.Answers.{is_open}
use Rattle.mg_model.specs.Openings.{Each}
use Rattle.mg_pool.specs.Reading.{ReadsPages}
use Rattle.mg_pool.specs.declared.fault.PoolFault.{PoolFault}
use Rattle.mg_pool.specs.declared.pool.Pool.{Pool}
use Rattle.mg_snap.specs.Live.{AreDrawn, State as Bases, is_among, unended_in}
use Rattle.mg_space.specs.View.{ReadsAlone, pool_answer}
use Rattle.mg_space.specs.declared.fault.SpaceFault.TheVariants as space
use Rattle.mg_space.specs.declared.links.FireLinks.{FireLinks}
use Rattle.mg_txlist.specs.Chain.{HasHead}
use Rattle.mg_txlist.specs.Reading.{is_head_or_tip}
use Rattle.mg_txlist.specs.Refusals.{RefusesLoad}
use Rattle.mg_txlist.specs.TxList.{IsTxList, TipsAreBelow, next_said, said}
use Rattle.mg_txlist.specs.declared.list.TipPage.{TipPage}
use Rattle.mg_txlist.specs.declared.list.TxList.{TxList}
use Rattle.mg_database.specs.declared.fault.OpenFault.{OpenFault}
use Rattle.mg_database.specs.declared.fault.OpenFault.TheVariants.{NotADatabase, Space}
use Rattle.mg_database.specs.declared.loading.Loaded.{Loaded}
use Rattle.mg_database.specs.Tested.{IsTested, RefusesTested, is_of_table}

-- Those who have not ended are those who are in limbo, and nobody has a base.
pub record AreUndecided (list : TxList) (live : Bases) : Type 0 where
  pub next : live.next ≡ next_said list
  pub unended : (t : ℕ) → is_among (unended_in live) t ≡ is_open (said list t)
  pub no_bases : Each (λ e. e.base ≡ None) live.entered
  pub drawn : AreDrawn live

-- the markers of a header
abbrev pub markers_in : Header → Markers
markers_in header = record {
  oit = header.oit;
  oat = header.oat;
  ost = header.ost;
  next = header.next;
}

-- What was read is lawful by itself.
pub record IsLoaded (g : Geometry) (loaded : Loaded) : Type 0 where
  pub list : IsTxList loaded.list
  pub size_is : loaded.list.size ≡ g.size
  pub tips : TipsAreBelow g.limit loaded.list
  pub undrawn : loaded.list.own.items ≡ []
  pub idle : (t : ℕ) → said loaded.list t ≢ Active
  pub undecided : AreUndecided loaded.list loaded.live
  pub catalog_is : loaded.catalog ≡ catalog_table loaded.catalog.pointer.0
  pub catalog_below : loaded.catalog.pointer.0 < GREATEST_LIMIT

-- What is in memory is what pages say: the numbers and states of transactions, where the catalog stands, and
-- the markers. The catalog's pages are as wanted.
pub record SaysPages (size : ℕ) (pages : Pages) (list : TxList) (catalog : PageNo) (markers : Markers)
    (pointers data_pages : List ℕ) : Type 0 where
  pub head : HasHead size pages list.first list.pages.items
  pub catalog_is : catalog ≡ (header_of pages).catalog
  pub markers_are : markers ≡ markers_in (header_of pages)
  pub tested : IsTested pages catalog.0 pointers data_pages

-- the damage of a header whose catalog stands on a page that is no part of a database
abbrev pub catalog_damage : Header → Damaged
catalog_damage header =
    record { page = record { 0 = 0 }; field = Link; found = header.catalog.0; wanted = GREATEST_LIMIT - 1 }

-- The damage of a database that is not read: that of its header or of a transaction inventory page; or the
-- catalog stands on a page that is no part of a database; or, where the header and those pages are as wanted, that
-- of the first of the catalog's pages that is not.
pub data IsLoadDamage {D : Type 0} (m : Meaning D) (store : Pool D FireLinks) (g : Geometry)
    (pages : Pages) : Damaged → Type 0 where
  no_list : (it : Damaged) → RefusesLoad m store g pages (space.Damaged it)
      → IsLoadDamage m store g pages it
  no_catalog : (header : Header) → reading (pages 0) g.size ≡ Ok header
      → GREATEST_LIMIT ≤ header.catalog.0 → IsLoadDamage m store g pages (catalog_damage header)
  untested : (header : Header) (first : ℕ) (tips : List TipPage) (it : Damaged)
      → reading (pages 0) g.size ≡ Ok header → HasHead g.size pages first tips
      → RefusesTested m store [] pages header.catalog.0 (space.Damaged it) → IsLoadDamage m store g pages it

-- why a database is not read, but for faults of the cache
abbrev pub RefusesPages : {D : Type 0} → Meaning D → Pool D FireLinks → Geometry → Pages → OpenFault
    → Type 0
RefusesPages m store g pages (NotADatabase field found) =
    reading (pages 0) g.size ≡ Err (heads.NotADatabase field found)
RefusesPages m store g pages (Space (space.Full limit)) = ⊥
RefusesPages m store g pages (Space (space.Damaged it)) = IsLoadDamage m store g pages it
RefusesPages m store g pages (Space (space.Pool fault)) = Unit {0}

-- the page of a number is page 0, one of these transaction inventory pages, or one of the catalog's: what an
-- opening reads
abbrev pub is_front : List TipPage → List ℕ → List ℕ → ℕ → Bool
is_front tips pointers data_pages n = is_head_or_tip tips n || is_of_table pointers data_pages n

-- how many pages these are
abbrev pub front_length : List TipPage → List ℕ → List ℕ → ℕ
front_length tips pointers data_pages = 1 + length tips + (length pointers + length data_pages)

-- these pages were looked for: no more page reads were asked for than there are, and none of another page
abbrev pub ReadsFront : {D L : Type 0} → Meaning D → Pool D L → Pool D L → List TipPage → List ℕ → List ℕ
    → Type 0
ReadsFront m old new tips pointers data_pages = ReadsPages m old new (front_length tips pointers data_pages)
    (is_front tips pointers data_pages)

-- of the cache's faults those of a reading call alone are handed on
abbrev pub OpensAlone : {T : Type 0} → Result T OpenFault → Type 0
OpensAlone (Ok x) = Unit {0}
OpensAlone (Err (NotADatabase field found)) = Unit {0}
OpensAlone (Err (Space fault)) = ReadsAlone {T = Unit {0}} (Err fault)

-- what the cache has answered, where a fault of its own is handed on
abbrev pub cache_answer : {T : Type 0} → Result T OpenFault → Result (Unit {0}) PoolFault
cache_answer (Ok x) = Ok tt
cache_answer (Err (NotADatabase field found)) = Ok tt
cache_answer (Err (Space fault)) = pool_answer {T = Unit {0}} (Err fault)

-- ---- the steps of the call

-- why page 0 is none of a database
abbrev pub head_fault : HeadFault → OpenFault
head_fault (heads.NotADatabase field found) = NotADatabase field found
head_fault (heads.Damaged it) = Space (space.Damaged it)

-- a header, or the damage where the catalog stands on a page that is no part of a database
abbrev pub ChecksCatalog : Header → Result Header OpenFault → Type 0
ChecksCatalog header (Ok same) = (same ≡ header) × (header.catalog.0 < GREATEST_LIMIT)
ChecksCatalog header (Err fault) = (GREATEST_LIMIT ≤ header.catalog.0)
    × (fault ≡ Space (space.Damaged (catalog_damage header)))

-- Those below a number who are in limbo have not ended, and no others; nobody has a base.
pub record AreUndecidedBelow (list : TxList) (n : ℕ) (live : Bases) : Type 0 where
  pub next : live.next ≡ next_said list
  pub unended : (t : ℕ) → is_among (unended_in live) t ≡ (nat_lt t n && is_open (said list t))
  pub no_bases : Each (λ e. e.base ≡ None) live.entered
