-- A record of a table that was given to a transaction, and that has something settled, is one of a table that a committed
-- row of the catalog names: for a version of a committed transaction stands in it.
use Rattle.std.proofs.Common.{◌≡◌, ◌≢◌, ◌∙◌, ◌⊎◌, inl, inr, refl, sym, ap, subst, ◌||◌, ℕ, Bool, true, false, List, [], ◌∷◌, None, Option, Some}
use Rattle.std.specs.Prelude.{is_some, map}
use Rattle.mg_base.specs.Disk.{Meaning}
use Rattle.mg_base.specs.Image.{Image}
use Rattle.mg_base.specs.declared.geometry.Geometry.{Geometry}
use Rattle.mg_base.specs.declared.numbers.RecId.{RecId}
use Rattle.mg_base.specs.declared.numbers.TxNo.{TxNo}
use Rattle.mg_base.specs.declared.transaction.TxState.{TxState}
use Rattle.mg_base.specs.declared.transaction.TxState.TheVariants.{Active, Committed, Dead, Limbo}
use Rattle.mg_core.specs.Cores.{IsCore}
use Rattle.mg_core.specs.declared.parts.Core.{Core}
use Rattle.mg_core_collecting.specs.Places.{IsSettled}
use Rattle.mg_engine_meaning_laws.specs.Standings.{ShowsIt, StandsFor, standing_of}
use Rattle.mg_engine_meaning_laws.specs.StepLaws.{shows_of}
use Rattle.mg_engine_step_laws.specs.standing.Standing.{ShowsHistory}
use Rattle.mg_heap.specs.Listed.{IsRecordOf}
use Rattle.mg_heap.specs.ListedLaws.{page_of_record}
use Rattle.mg_heap.specs.Stands.{TablesAreWalked}
use Rattle.mg_image.specs.Catalog.{IsNamed, MayStandIn}
use Rattle.mg_image.specs.Form.{Pages, packed_form}
use Rattle.mg_image.specs.ReadingLaws.{Opens, chain_opens}
use Rattle.mg_image.specs.RecordRules.{Each, EachBack, Facts}
use Rattle.mg_image.specs.Records.{Chain, Reading, cells_of, writer}
use Rattle.mg_image.specs.Sound.{IsSoundBy, facts_by}
use Rattle.mg_image.specs.Tables.{Has, Layout, Stand, stands_of, table_at}
use Rattle.mg_image.specs.declared.entry.Entry.{Entry}
use Rattle.mg_image_overlay_laws.specs.tables.Growing.{IsTableOf}
use Rattle.mg_image_overlay_laws.specs.kept.Knowing.{its_pages}
use Rattle.mg_image_overlay_laws.specs.tables.OneTable.{its_data, stands_in}
use Rattle.mg_image_overlay_laws.specs.tables.TableOwners.{IsOneOf, named_other}
use Rattle.mg_model.specs.Answers.{is_committed}
use Rattle.mg_model.specs.Catalog.{catalog_name}
use Rattle.mg_model.specs.Openings.{everyone}
use Rattle.mg_model.specs.History.{Entries}
use Rattle.mg_model.specs.declared.opening.Opening.{Opening}
use Rattle.mg_model.specs.declared.table.Table.{Table}
use Rattle.mg_overlay_laws.specs.Overlays.{left_by, left_state}
use Rattle.mg_pool.specs.Dirty.{DirtyPages}
use Rattle.mg_pool.specs.Pool.{shown}
use Rattle.mg_pool.specs.declared.pool.Pool.{Pool}
use Rattle.mg_space.specs.Taking.{IsGeometry}
use Rattle.mg_space.specs.View.{KeepsStore, Tells}
use Rattle.mg_space.specs.declared.links.FireLinks.{FireLinks}
use Rattle.mg_txlist.specs.TipLaws.{tips_by}
use Rattle.mg_txlist.specs.TxList.{said}
use Rattle.mg_version.specs.declared.cell.Cell.TheVariants as cells
use Rattle.mg_version.specs.declared.cell.Link.{Link}
use Rattle.mg_version.specs.declared.cell.Version.{Version}
use Rattle.mg_works.specs.Works.{Working, given_by, given_to, work_of}
use Rattle.mg_engine_collecting_laws.specs.CoreStays.{HasInNamed}
use Rattle.mg_engine_collecting_laws.specs.StepKeeps.{committed_is}

-- a table that was given was given to one who works
pub given_works : (works : List Working) (t : ℕ) (name : List ℕ) (table : Table) → given_to works t name ≡ Some table
    → is_some (work_of works t) ≡ true
given_works works t name table given = by (work_of works t) given
  where
    by : (work : Option Working) → given_by work name ≡ Some table → is_some work ≡ true
    by None none = absurd cc
    by (Some work) some = refl

either_of : (a b : Bool) → (a || b) ≡ true → (a ≡ true) ⊎ (b ≡ true)
either_of true b is = inl refl
either_of false b is = inr is

one_cell : (v w : Version) → Some (cells.Version v) ≡ Some (cells.Version w) → v ≡ w
one_cell v w same = cc

module _ (size : ℕ) (state : ℕ → TxState) (pages : Pages) (layout : Layout) (r : Reading)
    (sound : IsSoundBy packed_form size (left_state everyone state) pages layout r) (rec : RecId) (its : Table)
    (of : table_at (stands_of layout) rec.page.0 ≡ Some its) (other : its.name ≢ catalog_name)
    (settled : IsSettled pages state rec) where
  abbrev f : Facts
  f = facts_by (left_state everyone state) pages layout

  -- a version of a committed transaction
  by_version : (e : Entry) → f.state (writer e) ≡ Committed → MayStandIn f r layout.catalog.table its e
      → IsNamed f r layout.catalog.table its.name
  by_version e committed (inl same) = absurd (other same)
  by_version e committed (inr (inl named)) = named
  by_version e committed (inr (inr (inl dead))) = let both : Committed ≡ Dead = sym committed ∙ dead in absurd cc
  by_version e committed (inr (inr (inr made))) =
      let both : Limbo ≡ Committed = sym made.limbo.limbo ∙ (ap f.state made.its_own ∙ committed) in absurd cc

  pub named : IsNamed (facts_by (left_state everyone state) pages layout) r layout.catalog.table its.name
  named = by (r rec) (chain_opens (cells_of pages) (Some settled.link) (r rec)
      (subst (λ (l : Option Link). Chain (cells_of pages) l (r rec)) settled.leads (sound.records.reads rec its of)))
      (sound.own_tables rec its of) (sound.records.each rec its of).backs
    where
      behind : (l : Option Link) (es : List Entry) → is_some l ≡ true → Opens (cells_of pages) l es
          → Each (MayStandIn f r layout.catalog.table its) es → Each (λ e. f.state (writer e) ≡ Committed) es
          → IsNamed f r layout.catalog.table its.name
      behind None es is opens owns backs = absurd cc
      behind (Some l) [] is opens owns backs = absurd opens
      behind (Some l) (d ∷ ds) is opens owns backs = by_version d backs.0 owns.0

      by : (es : List Entry) → Opens (cells_of pages) (Some settled.link) es
          → Each (MayStandIn f r layout.catalog.table its) es → EachBack (λ e. f.state (writer e) ≡ Committed) es
          → IsNamed f r layout.catalog.table its.name
      by [] opens owns backs = absurd opens
      by (e ∷ es) opens owns backs =
          at (either_of (is_committed (state settled.link.tx.0)) (is_some settled.version.back) settled.told)
        where
          same : settled.version ≡ e.version
          same = one_cell settled.version e.version
              (sym settled.meets.cell ∙ (ap (cells_of pages) (sym opens.0) ∙ opens.1))

          at : (is_committed (state settled.link.tx.0) ≡ true) ⊎ (is_some settled.version.back ≡ true)
              → IsNamed f r layout.catalog.table its.name
          at (inl committed) = by_version e (ap (λ (n : TxNo). left_by true (state n.0)) opens.2
              ∙ ap (left_by true) (committed_is (state settled.link.tx.0) committed)) owns.0
          at (inr some) = behind e.version.back es
              (ap (λ (v : Version). is_some v.back) (sym same) ∙ some)
              (chain_opens (cells_of pages) e.version.back es opens.3) owns.1 backs

-- The table was given to a transaction that is active, so it stands on the pages, under a name of its own.
module _ (walked : TablesAreWalked) {D : Type 0} (m : Meaning D) (core : Core D) (is_core : IsCore m core)
    (up : core.store.offline ≡ None) (t : ℕ) (table : Table) (rec : RecId)
    (given : given_to core.works t table.name ≡ Some table) (o : Opening) (h : Entries)
    (stands : StandsFor m core o h) where
  abbrev size : ℕ
  size = core.store.geometry.size

  abbrev pages : Pages
  pages = shown core.store.dirty (shows_of m core o h stands up).image

  abbrev shows : ShowsHistory packed_form core.store.geometry.size o h (standing_of core stands.numbers stands.tables)
      (shown core.store.dirty (shows_of m core o h stands up).image)
  shows = (shows_of m core o h stands up).stands.shows

  active : said core.list t ≡ Active
  active = is_core.active.is_active t (given_works core.works t table.name table given)

  one_of : IsOneOf (map (λ (stand : Stand). stand.table) shows.layout.tables) table
  one_of = (shows.tables t active).seen table.name table (stands.given t table.name table given)

  there : IsTableOf shows.layout table
  there = stands_in shows.layout table (inr one_of)

  other_name : table.name ≢ catalog_name
  other_name same = named_other packed_form size (left_state everyone (said core.list)) pages shows.layout shows.reading
      shows.sound table one_of same

  -- a record of it stands on one of its pages
  pub record_there : IsRecordOf (shown core.store.dirty (shows_of m core o h stands up).image) table.pointer.0 rec
      → table_at (stands_of (shows_of m core o h stands up).stands.shows.layout) rec.page.0 ≡ Some table
  record_there is = (its_data packed_form size (left_state everyone (said core.list)) pages shows.layout shows.reading
      shows.sound table there rec.page.0).1 on_page
    where
      on_page : Has there.stand.data_pages rec.page.0
      on_page = page_of_record pages there.stand.table.pointer.0 there.stand.pointers there.stand.data_pages
          (walked packed_form.in_primary size pages there.stand (its_pages packed_form size
          (left_state everyone (said core.list)) pages shows.layout shows.reading shows.sound table there)) rec
          (subst (λ (n : ℕ). IsRecordOf pages n rec) (sym (ap (λ (x : Table). x.pointer.0) there.table_is)) is)

module _ (walked : TablesAreWalked) {D : Type 0} (m : Meaning D) (core : Core D) (is_core : IsCore m core)
    (up : core.store.offline ≡ None) (t : ℕ) (table : Table) (rec : RecId)
    (given : given_to core.works t table.name ≡ Some table)
    (is_record : (image : Image) → Tells m core.store.disk image
    → IsRecordOf (shown core.store.dirty image) table.pointer.0 rec)
    (settled : (image : Image) → Tells m core.store.disk image
    → IsSettled (shown core.store.dirty image) (said core.list) rec) where
  pub has_in_named : HasInNamed m core up rec
  has_in_named o h stands = (
    table,
    record {
      of = of;
      no_catalog = λ same. other (ap (λ (x : Table). x.name) (same ∙ shows_it.sound.catalog));
      named = named core.store.geometry.size (said core.list) (shown core.store.dirty it.image) shows_it.layout
          shows_it.reading shows_it.sound rec table of other (settled it.image tells);
    },
  )
    where
      it : ShowsIt m core o h (standing_of core stands.numbers stands.tables)
      it = shows_of m core o h stands up

      shows_it : ShowsHistory packed_form core.store.geometry.size o h
          (standing_of core stands.numbers stands.tables)
          (shown core.store.dirty (shows_of m core o h stands up).image)
      shows_it = (shows_of m core o h stands up).stands.shows

      tells : Tells m core.store.disk it.image
      tells = record { told = stands.tells; held = it.held }

      other : table.name ≢ catalog_name
      other = other_name walked m core is_core up t table rec given o h stands

      of : table_at (stands_of shows_it.layout) rec.page.0 ≡ Some table
      of = record_there walked m core is_core up t table rec given o h stands (is_record it.image tells)

-- ---- behind what was read

-- Pages were only read since: the core is as before but for its store, and so is what is known of the record.
module _ {D : Type 0} (m : Meaning D) (old : Core D) (core : IsCore m old) (ready : Pool D FireLinks)
    (keeps : KeepsStore m old.store ready) where
  pub core_behind : IsCore m (record old { store = ready })
  core_behind = record {
    pool = keeps.pool;
    geometry = subst IsGeometry (sym keeps.geometry) core.geometry;
    list = core.list;
    size = core.size ∙ ap (λ (g : Geometry). g.size) (sym keeps.geometry);
    tips = tips_by old.store.geometry ready.geometry old.list keeps.geometry core.tips;
    next = core.next;
    drawn = core.drawn;
    active = core.active;
    catalog = core.catalog;
  }

  tells_back : (image : Image) → Tells m ready.disk image → Tells m old.store.disk image
  tells_back image tells = record {
    told = sym keeps.disk.tells ∙ tells.told;
    held = sym keeps.disk.held ∙ tells.held;
  }

  pub named_behind : TablesAreWalked → (up : old.store.offline ≡ None) (t : ℕ) (table : Table) (rec : RecId)
      → given_to old.works t table.name ≡ Some table
      → ((image : Image) → Tells m old.store.disk image → IsRecordOf (shown old.store.dirty image) table.pointer.0 rec)
      → ((image : Image) → Tells m old.store.disk image → IsSettled (shown old.store.dirty image) (said old.list) rec)
      → HasInNamed m (record old { store = ready }) (keeps.offline ∙ up) rec
  named_behind walked up t table rec given is_record settled =
      has_in_named walked m (record old { store = ready }) core_behind (keeps.offline ∙ up) t table rec given
      (λ image tells. subst (λ (d : DirtyPages). IsRecordOf (shown d image) table.pointer.0 rec) (sym keeps.dirty)
      (is_record image (tells_back image tells)))
      (λ image tells. subst (λ (d : DirtyPages). IsSettled (shown d image) (said old.list) rec) (sym keeps.dirty)
      (settled image (tells_back image tells)))
