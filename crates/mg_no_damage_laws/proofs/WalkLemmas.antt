-- A walk behind whose place rows are to come meets no damage: its table stands in a sound image, and its place names
-- the sequence of its page.
use Rattle.std.proofs.Common.{◌≡◌, ◌≢◌, ◌∙◌, inl, inr, ◌<◌, ◌+◌, ◌*◌, ℕ, Bool, true, false, List, [], ◌∷◌, Option, None, Some, Result, Ok, Err, refl, sym, ap, subst, cond}
use Rattle.mg_base.specs.Disk.{Meaning}
use Rattle.mg_base.specs.Image.{Image}
use Rattle.mg_base.specs.declared.damage.Damaged.{Damaged}
use Rattle.mg_base.specs.declared.geometry.Geometry.{Geometry}
use Rattle.mg_base.specs.declared.numbers.PageNo.{PageNo}
use Rattle.mg_base.specs.declared.numbers.RecId.{RecId}
use Rattle.mg_base.specs.declared.numbers.TxNo.{TxNo}
use Rattle.mg_chain.specs.Chains.{newest_link}
use Rattle.mg_chain.specs.Views.{first_entry}
use Rattle.mg_core.specs.Refusing.{CountsFault}
use Rattle.mg_core.specs.Scanning.{FailsScan, IsEarly, IsStepDamage, IsUnfit, LacksKey, Scans, early, no_key, no_page, no_visit, record_of, sequence_in, unfit}
use Rattle.mg_core.specs.declared.parts.Core.{Core}
use Rattle.mg_core.specs.declared.scanning.Place.{Place}
use Rattle.mg_engine_meaning_laws.specs.Reads.{AreRanked}
use Rattle.mg_engine_meaning_laws.specs.Meaning.{AreNext, ComesTo, Places, place_at}
use Rattle.mg_engine_meaning_laws.specs.Standings.{standing_of}
use Rattle.mg_engine_step_laws.specs.standing.Standing.{Standing}
use Rattle.mg_engine_step_laws.specs.tables.TablePages.{data_once, table_there}
use Rattle.mg_engine_step_laws.specs.reads.WalkPlaces.{sequence_named, stands_at}
use Rattle.mg_engine_step_laws.specs.reads.Walking.{AreToCome, HasAt, StandsInTurn, WalkPlace, rec_of}
use Rattle.mg_heap.specs.Reading.{ReadsData}
use Rattle.mg_heap.specs.Stands.{StandsIn}
use Rattle.mg_heap.specs.Walk.{GivesNext}
use Rattle.mg_image.specs.Form.{Pages, Row, packed_coding}
use Rattle.mg_image_opening_laws.specs.Fits.{LaterAreNull}
use Rattle.mg_image.specs.RecordRules.{Each, Facts, IsVersion}
use Rattle.mg_image.specs.Records.{cells_of, key_of, record_key, writer}
use Rattle.mg_image.specs.Sound.{facts_by}
use Rattle.mg_image.specs.Tables.{Has, Stand}
use Rattle.mg_image.specs.declared.entry.Entry.{Entry}
use Rattle.mg_model.specs.Changes.{KeyedRows}
use Rattle.mg_model.specs.Openings.{everyone}
use Rattle.mg_model.specs.declared.refusal.Refusal.{Refusal}
use Rattle.mg_model.specs.declared.table.Table.{Table}
use Rattle.mg_no_damage_laws.specs.Keyed.{IsKeyed, LaterColumnsAllowNull, RowsAreKeyed, RowsFit, TablesAreKeyed}
use Rattle.mg_no_damage_laws.specs.Order.{WalksAscend, rank_in}
use Rattle.mg_no_damage_laws.specs.Sees.{PagesAreThere, no_batch}
use Rattle.mg_no_damage_laws.specs.Sound.{SoundRecordsAreLawful, SoundTablesStand}
use Rattle.mg_no_damage_laws.specs.Tables.{SeesTable, VisitsAreMade}
use Rattle.mg_overlay_laws.specs.Overlays.{left_state}
use Rattle.mg_pool.specs.Dirty.{DirtyPages}
use Rattle.mg_pool.specs.Pool.{shown}
use Rattle.mg_pool.specs.declared.fault.PoolFault.TheVariants as faults
use Rattle.mg_pool.specs.declared.pool.Pool.{Pool}
use Rattle.mg_records.specs.declared.found.Found.{Found}
use Rattle.mg_seek.specs.Readings.{PlacesOfReadings, placed_if}
use Rattle.mg_seek.specs.Refusals.{IsVisitDamage, RefusesVisit}
use Rattle.mg_seek.specs.Rows.{GivesRow, IsRowFound, IsRowOr}
use Rattle.mg_seek.specs.Versions.{IsFirst, placed, wants}
use Rattle.mg_seek.specs.Views.{IsRowSeen, IsVisit}
use Rattle.mg_seek.specs.Walks.{WalksInOrder}
use Rattle.mg_seek.specs.declared.views.Visit.{Visit}
use Rattle.mg_seek.specs.declared.walk.Placed.{Placed}
use Rattle.mg_seek.specs.declared.whose.Wanted.TheVariants.{SeenBy}
use Rattle.mg_space.specs.View.{RefusesRead, Tells}
use Rattle.mg_space.specs.ViewLaws.{tells_on}
use Rattle.mg_space.specs.declared.fault.SpaceFault.{SpaceFault}
use Rattle.mg_space.specs.declared.fault.SpaceFault.TheVariants as space
use Rattle.mg_value.specs.Rows.{RowFits}
use Rattle.mg_value.specs.declared.shape.Shape.{Shape}
use Rattle.mg_space.specs.declared.links.FireLinks.{FireLinks}
use Rattle.mg_value.specs.declared.value.Value.TheVariants.{Null}
use Rattle.mg_no_damage_laws.specs.Walks.{IsShortPlace, VisitsMeetNone}

-- a version that is found is one of these
found_in : (P : Entry → Type 0) (takes : ℕ → Bool) (es : List Entry) (p : Placed) → Each P es
    → placed_if (first_entry takes es) ≡ Some p → (e : Entry) × P e × (placed e.at e.version ≡ p)
found_in P takes [] p each is = absurd cc
found_in P takes (e ∷ es) p each is = at (takes (writer e)) is (found_in P takes es p each.1)
  where
    at : (b : Bool) → placed_if (cond b (Some e) (first_entry takes es)) ≡ Some p
        → (placed_if (first_entry takes es) ≡ Some p → (d : Entry) × P d × (placed d.at d.version ≡ p))
        → (d : Entry) × P d × (placed d.at d.version ≡ p)
    at true found more = let same : placed e.at e.version ≡ p = cc in (e, each.0, same)
    at false found more = more found

within : (ns : List ℕ) (place : Option WalkPlace) → StandsInTurn ns place → StandsIn ns (rec_of place)
within ns None stands = tt
within ns (Some place) stands = stands_at ns (Some place) stands

-- a version that is no deletion, and gives a row
gives_row : (table : Table) (p : Placed) (row : Row) → IsRowFound table (Some p) (Some row)
    → GivesRow table p.version row
gives_row table p row is = at p.version.deleted is
  where
    at : (deleted : Bool) → IsRowOr deleted table p.version (Some row) → GivesRow table p.version row
    at true none = absurd cc
    at false (its, same, gives) = let one : its ≡ row = cc in subst (GivesRow table p.version) one gives

is_alive : (table : Table) (p : Placed) (row : Row) → IsRowFound table (Some p) (Some row)
    → p.version.deleted ≡ false
is_alive table p row is = at p.version.deleted is
  where
    at : (deleted : Bool) → IsRowOr deleted table p.version (Some row) → deleted ≡ false
    at true none = absurd cc
    at false its = refl

-- The laws of what is read over lawful records.
pub record ReadsOfWalks {D : Type 0} (m : Meaning D) : Type 0 where
  pub visits : VisitsAreMade m
  pub there : PagesAreThere m
  pub ascend : WalksAscend
  pub tables : TablesAreKeyed
  pub rows : RowsAreKeyed
  pub later : LaterColumnsAllowNull
  pub fit : RowsFit
  pub lawful : SoundRecordsAreLawful
  pub stand : SoundTablesStand
  pub order : WalksInOrder
  pub readings : PlacesOfReadings

-- ---- over pages to which rows are to come

module _ {D : Type 0} (m : Meaning D) (laws : ReadsOfWalks m) (store : Pool D FireLinks) (image : Image)
    (tells : Tells m store.disk image) (s : Standing) (t : TxNo) (table : Table) (place : Option WalkPlace)
    (rows : KeyedRows)
    (come : AreToCome store.geometry.size s (shown store.dirty image) t.0 table place rows) where
  abbrev view : Pages
  view = shown store.dirty image

  abbrev stand : Stand
  stand = come.shown.stands.stand

  abbrev facts : Facts
  facts = facts_by (left_state everyone s.state) view come.layout

  abbrev takes : ℕ → Bool
  takes = wants s.state s.live (SeenBy t)

  sees : SeesTable m store image no_batch facts come.reading stand table
  sees = record {
    sees = record {
      tells = tells;
      lawful = laws.lawful store.geometry.size (left_state everyone s.state) view come.layout come.reading
          come.sound;
    };
    stands = laws.stand store.geometry.size (left_state everyone s.state) view come.layout come.reading come.sound
        come.shown.its table come.shown.stands come.shown.same;
  }

  begins : table.pointer.0 ≡ come.shown.its.pointer.0
  begins = ap (λ (n : PageNo). n.0) (sym come.shown.same.pointer)

  -- what comes next stands on a page of the table
  listed : (rec : RecId) → GivesNext view table.pointer.0 (rec_of place) (Some rec) → Has stand.data_pages rec.page.0
  listed rec gives = (laws.order view come.shown.its.pointer.0 stand.pointers stand.data_pages (rec_of place)
      (Some rec)
      (table_there store.geometry.size (left_state everyone s.state) view come.layout come.reading come.sound
      come.shown.its come.shown.stands)
      (data_once store.geometry.size (left_state everyone s.state) view come.layout come.reading come.sound
      come.shown.its come.shown.stands) (stands_at stand.data_pages place come.stands)
      (subst (λ (n : ℕ). GivesNext view n (rec_of place) (Some rec)) begins gives)).1

  visit_whole : (it : Damaged) → IsVisitDamage m store view takes table (rec_of place) it → ⊥
  visit_whole it broken = laws.visits store image facts come.reading stand table sees takes (rec_of place)
      (within stand.data_pages place come.stands) it broken

  page_whole : (rec : RecId) → GivesNext view table.pointer.0 (rec_of place) (Some rec) → (it : Damaged)
      → RefusesRead {T = Unit {0}} m store [] rec.page (Err (space.Damaged it)) → ⊥
  page_whole rec gives it refused = laws.there store image no_batch facts come.reading sees.sees rec.page stand.table
      (sees.stands.its rec.page.0 (listed rec gives)) it (inl refused)

  -- what comes next has a greater rank
  later : (former : WalkPlace) → place ≡ Some former → former.rec.slot < 65536 → (rec : RecId)
      → GivesNext view table.pointer.0 (Some former.rec) (Some rec)
      → former.sequence * 65536 + former.rec.slot < rank_in view rec
  later former same small rec gives =
      subst (λ (n : ℕ). n * 65536 + former.rec.slot < rank_in view rec)
      (sequence_named store.geometry.size (left_state everyone s.state) view come.layout come.reading come.sound
      come.shown.its come.shown.stands former.sequence former.rec.page.0 at)
      (laws.ascend store.geometry.size view stand sees.stands.has former.rec rec
      (stands_at stand.data_pages (Some former) at) small
      (subst (λ (n : ℕ). GivesNext view n (Some former.rec) (Some rec))
      (ap (λ (n : PageNo). n.0) (sym sees.stands.same.pointer)) gives))
    where
      at : HasAt stand.data_pages former.sequence former.rec.page.0
      at = subst (StandsInTurn stand.data_pages) same come.stands

  keyed : IsKeyed table.shape
  keyed = subst IsKeyed come.shown.same.shape (laws.tables store.geometry.size (left_state everyone s.state) view
      come.layout come.reading come.sound come.shown.its come.shown.stands)

  -- a version that is found has the first format
  first_format : (rec : RecId) → Has stand.data_pages rec.page.0 → (p : Placed) → IsFirst view takes rec (Some p)
      → p.version.format ≡ 1
  first_format rec has p first =
      at (found_in (IsVersion packed_coding facts stand.table (record_key stand.table (come.reading rec))) takes
      (come.reading rec) p
      (sees.sees.lawful.records.each rec stand.table (sees.stands.its rec.page.0 has)).each
      (sym (laws.readings (cells_of view) takes (newest_link view rec) (Some p) (come.reading rec) first
      (sees.sees.lawful.records.reads rec stand.table (sees.stands.its rec.page.0 has)))))
    where
      at : (e : Entry) × IsVersion packed_coding facts stand.table (record_key stand.table (come.reading rec)) e
          × (placed e.at e.version ≡ p) → p.version.format ≡ 1
      at (e, its, is) = ap (λ (q : Placed). q.version.format) (sym is) ∙ its.format

  key_whole : (visit : Visit) → IsVisit s.state s.live t view table (rec_of place) (Some visit)
      → (fault : SpaceFault) → LacksKey table visit.rec.page.0 visit.row fault → ⊥
  key_whole visit (gives, seen) fault lacks = at visit.row seen lacks
    where
      by : (row : Row) (found : Option Placed) → IsFirst view takes visit.rec found
          → IsRowFound table found (Some row) → key_of table row ≢ Null
      by row None first is = absurd cc
      by row (Some p) first is = laws.rows table p.version row keyed
          (first_format visit.rec (listed visit.rec gives) p first) (gives_row table p row is)

      at : (row : Option Row) → IsRowSeen s.state s.live t view table visit.rec row
          → LacksKey table visit.rec.page.0 row fault → ⊥
      at None seen_ lacks_ = lacks_
      at (Some row) seen_ lacks_ = by row seen_.found seen_.first seen_.gives lacks_.0

  columns_later : LaterAreNull table.shape.columns
  columns_later = subst (λ (shape : Shape). LaterAreNull shape.columns) come.shown.same.shape
      (laws.later store.geometry.size (left_state everyone s.state) view come.layout come.reading come.sound
      come.shown.its come.shown.stands)

  fit_whole : (visit : Visit) → IsVisit s.state s.live t view table (rec_of place) (Some visit)
      → (fault : SpaceFault) → IsUnfit table visit.rec.page.0 visit.row fault → ⊥
  fit_whole visit (gives, seen) fault is_unfit = at visit.row seen is_unfit
    where
      by : (row : Row) (found : Option Placed) → IsFirst view takes visit.rec found
          → IsRowFound table found (Some row) → RowFits table.shape.columns row
      by row None first is = absurd cc
      by row (Some p) first is = laws.fit table p.version row columns_later
          (first_format visit.rec (listed visit.rec gives) p first) (is_alive table p row is)
          (gives_row table p row is)

      at : (row : Option Row) → IsRowSeen s.state s.live t view table visit.rec row
          → IsUnfit table visit.rec.page.0 row fault → ⊥
      at None seen_ is = is
      at (Some row) seen_ is = is.0 (by row seen_.found seen_.first seen_.gives)

-- ---- by the places of the core

module _ {D : Type 0} (m : Meaning D) (laws : ReadsOfWalks m) (places : Places Place) (ranked : AreRanked places)
    (store : Pool D FireLinks) (image : Image) (tells : Tells m store.disk image) (s : Standing) (t : TxNo)
    (table : Table) (after : Option Place) (short : IsShortPlace after) (rows : KeyedRows)
    (come : AreToCome store.geometry.size s (shown store.dirty image) t.0 table (place_at places after) rows) where
  record_same : (at : Option Place) → record_of at ≡ rec_of (place_at places at)
  record_same None = refl
  record_same (Some at) = ap Some (sym (ranked.rec at))

  abbrev pages : Pages
  pages = shown store.dirty image

  as_walked : (visit : Visit) → IsVisit s.state s.live t pages table (record_of after) (Some visit)
      → IsVisit s.state s.live t pages table (rec_of (place_at places after)) (Some visit)
  as_walked visit is = subst (λ (r : Option RecId). IsVisit s.state s.live t pages table r (Some visit))
      (record_same after) is

  not_early : (visit : Visit) → IsVisit s.state s.live t pages table (record_of after) (Some visit)
      → (fault : SpaceFault) (former : Option Place) → after ≡ former → IsShortPlace former
      → IsEarly former (record { rec = visit.rec; sequence = sequence_in pages visit.rec }) fault → ⊥
  not_early visit is fault None same small is_early = is_early
  not_early visit is fault (Some former) same small is_early = is_early.0
      (subst (λ (n : ℕ). n * 65536 + former.rec.slot < rank_in pages visit.rec) (ranked.sequence former)
      (subst (λ (r : RecId). places.sequence former * 65536 + r.slot < rank_in pages visit.rec) (ranked.rec former)
      (later m laws store image tells s t table (place_at places after) rows come
      (record { rec = places.rec former; sequence = places.sequence former }) (ap (place_at places) same)
      (subst (λ (r : RecId). r.slot < 65536) (sym (ranked.rec former)) small) visit.rec
      (subst (λ (r : Option RecId). GivesNext pages table.pointer.0 r (Some visit.rec))
      (ap (λ (x : Option Place). rec_of (place_at places x)) same) (as_walked visit is).0))))

  pub step_whole : (fault : SpaceFault) → IsStepDamage m store s.state s.live t pages table after fault
      → (it : Damaged) → fault ≡ space.Damaged it → ⊥
  step_whole _ (no_visit fault refused) it is =
      visit_whole m laws store image tells s t table (place_at places after) rows come it
      (subst (λ (r : Option RecId). IsVisitDamage m store pages (wants s.state s.live (SeenBy t)) table r it)
      (record_same after)
      (subst (RefusesVisit m store pages (wants s.state s.live (SeenBy t)) table (record_of after)) is refused))
  step_whole _ (no_page visit fault visited refused) it is =
      page_whole m laws store image tells s t table (place_at places after) rows come visit.rec
      (as_walked visit visited).0 it
      (subst (λ (x : SpaceFault). RefusesRead {T = Unit {0}} m store [] visit.rec.page (Err x)) is refused)
  step_whole _ (early visit fault visited is_early) it is = not_early visit visited fault after refl short is_early
  step_whole _ (no_key visit fault visited lacks) it is =
      key_whole m laws store image tells s t table (place_at places after) rows come visit (as_walked visit visited)
      fault lacks
  step_whole _ (unfit visit fault visited is_unfit) it is =
      fit_whole m laws store image tells s t table (place_at places after) rows come visit (as_walked visit visited)
      fault is_unfit

-- ---- the call

-- a fault that is no damage is not counted as one
uncounted : (fault : SpaceFault) (damage now shortages later : ℕ) → ReadsData {T = Unit {0}} (Err fault)
    → CountsFault fault damage now shortages later → ((it : Damaged) → fault ≡ space.Damaged it → ⊥)
    → now ≡ damage
uncounted (space.Full limit) damage now shortages later own counts none = counts.0
uncounted (space.Damaged it) damage now shortages later own counts none = absurd (none it refl)
uncounted (space.Pool (faults.DiskRead n)) damage now shortages later own counts none = counts.0
uncounted (space.Pool (faults.DiskWrite n)) damage now shortages later own counts none = counts.0
uncounted (space.Pool (faults.Offline n)) damage now shortages later own counts none = counts.0
uncounted (space.Pool (faults.Absent n)) damage now shortages later own counts none = absurd own
uncounted (space.Pool faults.Memory) damage now shortages later own counts none = counts.0

module _ {D : Type 0} (m : Meaning D) (laws : ReadsOfWalks m) (places : Places Place) (ranked : AreRanked places)
    (old new : Core D) (t : TxNo) (table : Table) (after : Option Place) (short : IsShortPlace after)
    (rows : KeyedRows) (comes : ComesTo m old t.0 table (place_at places after) rows) where
  abbrev its : Standing
  its = standing_of old comes.stands.numbers comes.stands.tables

  fails : (refusal : Refusal) → FailsScan m old new t table after refusal → new.damage ≡ old.damage
  fails refusal is = at (subst (λ (off : Option ℕ). AreNext m old its t.0 table (place_at places after) rows off)
      is.continues.0 comes.next)
    where
      at : AreNext m old its t.0 table (place_at places after) rows None → new.damage ≡ old.damage
      at (image, held, next) = uncounted is.fault old.damage new.damage old.shortages new.shortages is.own is.counts
          (step_whole m laws places ranked new.store image (tells_on m old.store new.store image is.keeps tells) its t
          table after short rows
          (subst (λ (g : Geometry). AreToCome g.size its (shown new.store.dirty image) t.0 table
          (place_at places after) rows) (sym is.keeps.geometry)
          (subst (λ (d : DirtyPages). AreToCome old.store.geometry.size its (shown d image) t.0 table
          (place_at places after) rows) (sym is.keeps.dirty) next)) is.fault
          (subst (λ (d : DirtyPages). IsStepDamage m new.store its.state its.live t (shown d image) table after
          is.fault) (sym is.keeps.dirty) (is.why image tells)))
        where
          tells : Tells m old.store.disk image
          tells = record { told = comes.stands.tells; held = held }

  pub stands_whole : (result : Result (Option (Found Place)) Refusal) → Scans m old new t table after result
      → new.damage ≡ old.damage
  stands_whole (Ok found) is = ap (λ (c : Core D). c.damage) is.same
  stands_whole (Err refusal) (inl (refuses, same)) = ap (λ (c : Core D). c.damage) same
  stands_whole (Err refusal) (inr is) = fails refusal is

pub visits_meet_none : (D : Type 0) (m : Meaning D) → ReadsOfWalks m → VisitsMeetNone D m
visits_meet_none D m laws places old new t table after rows result ranked short comes scans o h stands tells =
    stands_whole m laws places ranked old new t table after short rows comes result scans
