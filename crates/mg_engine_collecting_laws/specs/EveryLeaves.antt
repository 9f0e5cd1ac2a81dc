-- Of each record of each committed table what remains is left, once all are collected.
use Rattle.std.proofs.Common.{◌≡◌, ◌≢◌, ◌⊎◌, ◌∙◌, ◌<◌, ◌==◌, ◌||◌, ◌++◌, inl, inr, refl, sym, ap, subst, arith, cond, ℕ, zero, suc, Bool, true, false, List, [], ◌∷◌, map, None, Option, Some}
use Rattle.mg_base.specs.Disk.{Meaning}
use Rattle.mg_base.specs.Fields.{byte}
use Rattle.mg_base.specs.Image.{Image}
use Rattle.mg_base.specs.declared.numbers.PageNo.{PageNo}
use Rattle.mg_base.specs.declared.numbers.RecId.{RecId}
use Rattle.mg_catalog.specs.NameLaws.{all_after, ascend_split, not_before_self}
use Rattle.mg_catalog.specs.Names.{HasName}
use Rattle.mg_chain.specs.Chains.{newest_link}
use Rattle.mg_collecting.specs.Leaving.{HasInOrder, first_link}
use Rattle.mg_core.specs.Cores.{IsCore}
use Rattle.mg_core.specs.declared.parts.Core.{Core}
use Rattle.mg_core_collecting.specs.Every.{AreNamed, CollectsAll, CollectsTable, GoesThrough, CollectsOne, none_yet, one_more, system_base}
use Rattle.mg_engine_change_laws.specs.rows.Plain.{WritesKeepPlain}
use Rattle.mg_engine_meaning_laws.specs.Meaning.{Places, means}
use Rattle.mg_engine_meaning_laws.specs.Standings.{Numbers, StandsFor, Tables, standing_of}
use Rattle.mg_engine_step_laws.specs.commits.ListShows.{ListsStay, TipsStayOn}
use Rattle.mg_engine_step_laws.specs.tables.TablePages.{data_once, data_there}
use Rattle.mg_engine_step_laws.specs.writes.Batches.{ReadsLast, RowsLastStill}
use Rattle.mg_generation_laws.specs.Laws.{CoveredMayGo, ErasedMayGo}
use Rattle.mg_heap.specs.Listed.{IsRecordOf}
use Rattle.mg_heap.specs.ListedLaws.{page_of_record}
use Rattle.mg_heap.specs.Stands.{TablesAreWalked}
use Rattle.mg_heap.specs.Walk.{is_primary}
use Rattle.mg_image.specs.Form.{Pages, packed_coding, packed_form}
use Rattle.mg_image.specs.ReadingLaws.{RowsAreOne}
use Rattle.mg_image.specs.Records.{cell_spelled, cells_of, newest_of, slot_cell}
use Rattle.mg_image.specs.Tables.{Has, IsOnce, stands_of, table_at}
use Rattle.mg_image.specs.declared.entry.Entry.{Entry}
use Rattle.mg_image.specs.declared.entry.TheConstants.{PRIMARY_VERSION}
use Rattle.mg_image_overlay_laws.specs.tables.Growing.{IsTableOf}
use Rattle.mg_image_overlay_laws.specs.tables.OneLayout.{StandsOneWay}
use Rattle.mg_image_overlay_laws.specs.tables.OneTable.{its_data, one_table, stands_in, table_at_stands}
use Rattle.mg_image_overlay_laws.specs.tables.TableOwners.{IsOneOf}
use Rattle.mg_lasting_laws.specs.PoolLaws.{HoldsOne}
use Rattle.mg_model.specs.CatalogRules.{Ascend, IsBefore, table_names}
use Rattle.mg_model.specs.History.{Entries}
use Rattle.mg_model.specs.Laws.{OpeningsBegin}
use Rattle.mg_model.specs.Openings.{everyone}
use Rattle.mg_model.specs.declared.opening.Opening.{Opening}
use Rattle.mg_model.specs.declared.table.Table.{Table}
use Rattle.mg_overlay_laws.specs.Overlays.{left_state}
use Rattle.mg_pool.specs.Pool.{shown}
use Rattle.mg_pool.specs.declared.pool.Pool.{Pool}
use Rattle.mg_seek.specs.AmongLaws.{among_either, among_pages, below_page, newest_primary, page_among}
use Rattle.mg_seek.specs.Readings.{RowsOfReadings}
use Rattle.mg_seek.specs.TableRecords.{AreTableRecords, IsAmong, rec_at, record_at, records_below, records_in, records_on}
use Rattle.mg_slots.specs.DataPage.{cell_of, slot_count}
use Rattle.mg_space.specs.View.{KeepsStore, Tells}
use Rattle.mg_space.specs.ViewLaws.{tells_on}
use Rattle.mg_space.specs.declared.links.FireLinks.{FireLinks}
use Rattle.mg_tending.specs.Collecting.{CollectsEach, IsCollected, IsLeft, Kept}
use Rattle.mg_txlist.specs.TxList.{next_said, said}
use Rattle.mg_version.specs.CellReading.{link_in, version_in}
use Rattle.mg_version.specs.declared.cell.Cell.TheVariants as cells
use Rattle.mg_version.specs.declared.cell.Link.{Link}
use Rattle.mg_version.specs.declared.cell.TheConstants.{ANCHOR, NEWEST_AT}
use Rattle.mg_chain.specs.Writing.{link_to}
use Rattle.mg_engine_meaning_laws.specs.KeepLaws.{catalog_shown}
use Rattle.mg_engine_meaning_laws.specs.StepLaws.{shows_of}
use Rattle.mg_engine_step_laws.specs.commits.PageWrites.{PageWritesFail}
use Rattle.mg_image_overlay_laws.specs.kept.Knowing.{its_pages}
use Rattle.mg_model.specs.Catalog.{catalog_name}
use Rattle.mg_pool.specs.Dirty.{DirtyPages}
use Rattle.mg_engine_collecting_laws.specs.Committed.{committed_names, found_are}
use Rattle.mg_engine_collecting_laws.specs.EverySo.{committed_behind, committed_past, found_stand, shown_of, system_said}
use Rattle.mg_engine_collecting_laws.specs.EveryStays.{AreOf, HasShown, HasStanding, HaveStandings, IsBehind, IsPageAt, each_behind, one_image, other_name, page_on, read_behind, ready_of, records_are, records_of, standings_on, tables_behind, there}
use Rattle.mg_engine_collecting_laws.specs.OneLeft.{IsKeptAt, IsLeftOf, itself_left, others_stay}
use Rattle.mg_engine_collecting_laws.specs.Versions.{HasKept, collecting, kept_of}

-- of each record of each committed table what remains is left, where all are collected
abbrev pub EveryLeaves : (D P : Type 0) → Meaning D → Type 0
EveryLeaves D P m = (places : Places P) (old new : Core D) → IsCore m old → CollectsAll m old new
    → CollectsEach (means m places) (collecting m places) old new

-- ---- records stand once

-- no record is twice among these, which come one behind another
abbrev AreOnce : List RecId → Type 0
AreOnce [] = Unit {0}
AreOnce (x ∷ xs) = (IsAmong xs x → ⊥) × AreOnce xs

once_append : (xs ys : List RecId) → AreOnce xs → AreOnce ys
    → ((x : RecId) → IsAmong xs x → IsAmong ys x → ⊥) → AreOnce (xs ++ ys)
once_append [] ys once also apart = also
once_append (x ∷ xs) ys once also apart = (
  (λ is. at (among_either xs ys x is)),
  once_append xs ys once.1 also (λ z left right. apart z (inr left) right),
)
  where
    at : IsAmong xs x ⊎ IsAmong ys x → ⊥
    at (inl is) = once.0 is
    at (inr is) = apart x (inl refl) is

one_slot : (b : List ℕ) (n k : ℕ) (x : RecId) → IsAmong (record_at b n k) x → x.slot ≡ k
one_slot b n k x = at (is_primary (cell_of b k))
  where
    at : (p : Bool) → IsAmong (cond p (rec_at n k ∷ []) []) x → x.slot ≡ k
    at true (inl same) = sym (ap (λ (y : RecId). y.slot) same)
    at true (inr nothing) = absurd nothing
    at false is = absurd is

slot_below : (b : List ℕ) (n k : ℕ) (x : RecId) → IsAmong (records_below b n k) x → x.slot < k
slot_below b n zero x is = absurd is
slot_below b n (suc k) x is = at (among_either (records_below b n k) (record_at b n k) x is)
    (λ left. slot_below b n k x left)
  where
    at : IsAmong (records_below b n k) x ⊎ IsAmong (record_at b n k) x
        → (IsAmong (records_below b n k) x → x.slot < k) → x.slot < suc k
    at (inl left) more = let less = more left in omega arith
    at (inr here_) more = let same = one_slot b n k x here_ in omega arith

one_once : (b : List ℕ) (n k : ℕ) → AreOnce (record_at b n k)
one_once b n k = at (is_primary (cell_of b k))
  where
    at : (p : Bool) → AreOnce (cond p (rec_at n k ∷ []) [])
    at true = ((λ nothing. nothing), tt)
    at false = tt

below_once : (b : List ℕ) (n k : ℕ) → AreOnce (records_below b n k)
below_once b n zero = tt
below_once b n (suc k) = once_append (records_below b n k) (record_at b n k) (below_once b n k)
    (one_once b n k) (λ x left right. apart x (slot_below b n k x left) (one_slot b n k x right))
  where
    apart : (x : RecId) → x.slot < k → x.slot ≡ k → ⊥
    apart x less same = omega arith

pages_once : (pages : Pages) (ds : List ℕ) → IsOnce ds → AreOnce (records_in pages ds)
pages_once pages [] once = tt
pages_once pages (d ∷ ds) once = once_append (records_on (pages d) d) (records_in pages ds)
    (below_once (pages d) d (slot_count (pages d))) (pages_once pages ds once.1)
    (λ x left right. once.0 (subst (λ (n : ℕ). Has ds n)
    (sym (below_page (pages d) d (slot_count (pages d)) x left)) (page_among pages ds x right)))

-- the last of them is not among the others
once_front : (done : List RecId) (next : RecId) → AreOnce (done ++ next ∷ []) → AreOnce done
once_front [] next once = tt
once_front (x ∷ done) next once = ((λ is. once.0 (earlier done is)), once_front done next once.1)
  where
    earlier : (xs : List RecId) → IsAmong xs x → IsAmong (xs ++ next ∷ []) x
    earlier [] is = absurd is
    earlier (y ∷ ys) (inl same) = inl same
    earlier (y ∷ ys) (inr more) = inr (earlier ys more)

once_last : (done : List RecId) (next : RecId) → AreOnce (done ++ next ∷ []) → IsAmong done next → ⊥
once_last [] next once is = absurd is
once_last (x ∷ done) next once (inl same) =
    once.0 (subst (IsAmong (done ++ next ∷ [])) (sym same) (last done))
  where
    last : (xs : List RecId) → IsAmong (xs ++ next ∷ []) next
    last [] = inl refl
    last (y ∷ ys) = inr (last ys)
once_last (x ∷ done) next once (inr more) = once_last done next once.1 more

among_split : (done : List RecId) (next x : RecId) → IsAmong (done ++ next ∷ []) x → IsAmong done x ⊎ (next ≡ x)
among_split done next x is = at (among_either done (next ∷ []) x is)
  where
    at : IsAmong done x ⊎ IsAmong (next ∷ []) x → IsAmong done x ⊎ (next ≡ x)
    at (inl is_) = inl is_
    at (inr (inl same)) = inr same
    at (inr (inr none)) = absurd none

front_among : (done : List RecId) (next x : RecId) → IsAmong done x → IsAmong (done ++ next ∷ []) x
front_among [] next x is = absurd is
front_among (y ∷ done) next x (inl same) = inl same
front_among (y ∷ done) next x (inr more) = inr (front_among done next x more)

last_among : (done : List RecId) (next : RecId) → IsAmong (done ++ next ∷ []) next
last_among [] next = inl refl
last_among (y ∷ done) next = inr (last_among done next)

-- ---- tables stand once

name_there : (done : List Table) (next : Table) → HasName (table_names (done ++ next ∷ [])) next.name
name_there [] next = inl refl
name_there (t ∷ done) next = inr (name_there done next)

-- names that ascend are those of other tables
other_names : (done : List Table) (next table : Table) → Ascend (table_names (done ++ next ∷ [])) → IsOneOf done table
    → table.name ≢ next.name
other_names [] next table ascend is same = absurd is
other_names (t ∷ done) next table ascend (inl is) same = not_before_self next.name
    (subst (λ (n : List ℕ). IsBefore n next.name) (ap (λ (x : Table). x.name) is ∙ same)
    (all_after t.name (table_names (done ++ next ∷ [])) next.name ascend (name_there done next)))
other_names (t ∷ done) next table ascend (inr more) same =
    other_names done next table (ascend_split t.name (table_names (done ++ next ∷ [])) ascend).1 more same

ascend_front : (done : List Table) (next : Table) → Ascend (table_names (done ++ next ∷ []))
    → Ascend (table_names done)
ascend_front [] next ascend = tt
ascend_front (t ∷ []) next ascend = tt
ascend_front (t ∷ u ∷ done) next ascend = (ascend.0, ascend_front (u ∷ done) next ascend.1)

front_one : (done : List Table) (next table : Table) → IsOneOf done table → IsOneOf (done ++ next ∷ []) table
front_one [] next table is = absurd is
front_one (x ∷ done) next table (inl same) = inl same
front_one (x ∷ done) next table (inr more) = inr (front_one done next table more)

last_one : (done : List Table) (next : Table) → IsOneOf (done ++ next ∷ []) next
last_one [] next = inl refl
last_one (x ∷ done) next = inr (last_one done next)

one_split : (done : List Table) (next table : Table) → IsOneOf (done ++ next ∷ []) table
    → IsOneOf done table ⊎ (next ≡ table)
one_split [] next table (inl same) = inr same
one_split [] next table (inr none) = absurd none
one_split (x ∷ done) next table (inl same) = inl (inl same)
one_split (x ∷ done) next table (inr more) = at (one_split done next table more)
  where
    at : IsOneOf done table ⊎ (next ≡ table) → IsOneOf (x ∷ done) table ⊎ (next ≡ table)
    at (inl is) = inl (inr is)
    at (inr is) = inr is

-- ---- a primary slot leads to a version

primary_spelled : (bytes : List ℕ) (rec : RecId) → is_primary (Some bytes) ≡ true
    → (l : Link) × (newest_of rec (Some (cell_spelled bytes)) ≡ Some l)
primary_spelled bytes rec = at (byte bytes 0 == PRIMARY_VERSION) (byte bytes 0 == ANCHOR)
  where
    at : (p a : Bool) → (a || p) ≡ true → (l : Link) × (newest_of rec (Some (cond p
        (cells.Version (record (version_in bytes) { primary = true }))
        (cond a (cells.Anchor (link_in bytes NEWEST_AT)) (cells.Version (version_in bytes))))) ≡ Some l)
    at true a is = (record { rec = rec; tx = (version_in bytes).tx }, refl)
    at false true is = (link_in bytes NEWEST_AT, refl)
    at false false is = absurd cc

primary_newest : (view : Pages) (rec : RecId) → is_primary (cell_of (view rec.page.0) rec.slot) ≡ true
    → (l : Link) × (newest_link view rec ≡ Some l)
primary_newest view rec is = at (cell_of (view rec.page.0) rec.slot) is
  where
    at : (cell : Option (List ℕ)) → is_primary cell ≡ true → (l : Link) × (newest_of rec (slot_cell cell) ≡ Some l)
    at None is_ = absurd cc
    at (Some bytes) is_ = primary_spelled bytes rec is_

-- ---- the records of a store

module _ (one : RowsAreOne packed_coding) (one_way : StandsOneWay packed_form) (on_tips : TipsStayOn) (lists : ListsStay)
    (keep_plain : WritesKeepPlain) (covered : CoveredMayGo) (erased : ErasedMayGo) (begins : OpeningsBegin)
    {D : Type 0} (m : Meaning D) (last : RowsLastStill D FireLinks m packed_form)
    (reads_last : ReadsLast D FireLinks m packed_form) (holds : HoldsOne D m) (old : Core D) (o : Opening) (h : Entries)
    (numbers : Numbers) (tables : Tables) where
  -- a record of a table that stands had these versions; afterwards what remains is left of it
  abbrev Left : Pool D FireLinks → RecId → List Entry → Type 0
  Left b x es = (j : Image) → Tells m b.disk j → IsLeftOf o h (cells_of (shown b.dirty j)) x es

  abbrev Stays : Pool D FireLinks → RecId → List Entry → Type 0
  Stays b x es = (j : Image) → Tells m b.disk j → IsKeptAt (cells_of (shown b.dirty j)) x es

  -- what some records that are collected leave of one
  record OfEach (b : Pool D FireLinks) (done : RecId → Type 0) (x : RecId) (es : List Entry) : Type 0 where
    left : done x → Left b x es
    stays : (done x → ⊥) → Stays b x es

  -- ---- one more is collected

  module _ (a mid b : Pool D FireLinks) (it : HasShown m old o h numbers tables a) (table : Table)
      (first : IsBehind m old o h numbers tables a (shown a.dirty it.image) mid) (next : RecId)
      (page : IsPageAt m (said old.list) a next.page.0 table) (made : CollectsOne m (said old.list) old.live next mid b)
      (x : RecId) (its : Table) (on : IsPageAt m (said old.list) a x.page.0 its) (es : List Entry) where
    next_page : IsPageAt m (said old.list) mid next.page.0 table
    next_page = page_on on_tips m old o h numbers tables a mid it first next.page.0 table page

    its_page : IsPageAt m (said old.list) mid x.page.0 its
    its_page = page_on on_tips m old o h numbers tables a mid it first x.page.0 its on

    stays_on : next ≢ x → Stays mid x es → Stays b x es
    stays_on ne stays j tells = others_stay m old o h numbers tables mid b first.shown_then next table next_page made.0
        made.1 x its its_page (λ same. ne (sym same)) es (stays first.shown_then.image first.shown_then.tells) j tells

    left_on : next ≢ x → Left mid x es → Left b x es
    left_on ne left j tells = record {
      left = was.left;
      kept = others_stay m old o h numbers tables mid b first.shown_then next table next_page made.0 made.1 x its its_page
          (λ same. ne (sym same)) was.left was.kept j tells;
      is = was.is;
    }
      where
        was : IsLeftOf o h (cells_of (shown mid.dirty first.shown_then.image)) x es
        was = left first.shown_then.image first.shown_then.tells

    left_here : next ≡ x → Stays mid x es → Left b x es
    left_here same stays j tells = subst (λ (y : RecId). IsLeftOf o h (cells_of (shown b.dirty j)) y es) same
        (itself_left m old o h numbers tables mid b first.shown_then next table next_page made.0 made.1 es
        (subst (λ (y : RecId). IsKeptAt (cells_of (shown mid.dirty first.shown_then.image)) y es) (sym same)
        (stays first.shown_then.image first.shown_then.tells)) j tells)

    one_more_left : (done : List RecId) → AreOnce (done ++ next ∷ []) → OfEach mid (IsAmong done) x es
        → OfEach b (IsAmong (done ++ next ∷ [])) x es
    one_more_left done once was = record {
      left = λ among. at (among_split done next x among);
      stays = λ none. stays_on (λ same. none (subst (IsAmong (done ++ next ∷ [])) same (last_among done next)))
          (was.stays (λ is. none (front_among done next x is)));
    }
      where
        not_done : next ≡ x → IsAmong done x → ⊥
        not_done same is = once_last done next once (subst (IsAmong done) (sym same) is)

        at : IsAmong done x ⊎ (next ≡ x) → Left b x es
        at (inl is) = left_on (λ same. not_done same is) (was.left is)
        at (inr same) = left_here same (was.stays (not_done same))

  -- ---- the records of a table

  none_done : (a : Pool D FireLinks) (it : HasShown m old o h numbers tables a) (x : RecId) (es : List Entry)
      → Stays a x es → OfEach a (IsAmong []) x es
  none_done a it x es stays = record { left = λ none. absurd none; stays = λ none. stays }

  each_left : (a : Pool D FireLinks) (it : HasShown m old o h numbers tables a) (table : Table)
      → table.name ≢ catalog_name → (records : List RecId) (b : Pool D FireLinks)
      → GoesThrough (CollectsOne m (said old.list) old.live) a records b → AreOf m (said old.list) a table records
      → AreOnce records → (x : RecId) (its : Table) → IsPageAt m (said old.list) a x.page.0 its → (es : List Entry)
      → Stays a x es → OfEach b (IsAmong records) x es
  each_left a it table other records b none_yet of once x its on es stays = none_done a it x es stays
  each_left a it table other records b (one_more done next mid now goes made) of once x its on es stays =
      one_more_left a mid now it table (each_behind one one_way on_tips lists keep_plain covered erased begins m last
      reads_last holds old o h numbers tables a it table other done mid goes
      (λ rec among. of rec (front_among done next rec among))) next (of next (last_among done next)) made x its on es done
      once (each_left a it table other done mid goes (λ rec among. of rec (front_among done next rec among))
      (once_front done next once) x its on es stays)

  -- after pages were read
  read_stays : (a b : Pool D FireLinks) (it : HasShown m old o h numbers tables a) → KeepsStore m a b → (x : RecId)
      (es : List Entry) → Stays a x es → Stays b x es
  read_stays a b it keeps x es stays j tells = subst (λ (d : DirtyPages). IsKeptAt (cells_of (shown d j)) x es)
      (sym keeps.dirty) (stays j (record {
        told = sym keeps.disk.tells ∙ tells.told;
        held = sym keeps.disk.held ∙ tells.held;
      }))

  module _ (a b : Pool D FireLinks) (it : HasShown m old o h numbers tables a) (table : Table)
      (standing : HasStanding m (said old.list) a table)
      (made : CollectsTable m (said old.list) old.live table a b) where
    abbrev there_is : IsTableOf it.stands.shows.layout standing.its
    there_is = there on_tips m old o h numbers tables a it standing.its standing.stands

    listed : made.records ≡ records_in (shown a.dirty it.image) there_is.stand.data_pages
    listed = records_are on_tips m old o h numbers tables a it standing.its standing.stands made.records
        (subst (λ (p : PageNo). AreTableRecords (shown a.dirty it.image) p.0 made.records) (sym standing.same)
        (made.are it.image it.tells))

    once : AreOnce made.records
    once = subst AreOnce (sym listed) (pages_once (shown a.dirty it.image) there_is.stand.data_pages
        (data_once a.geometry.size (left_state everyone (said old.list)) (shown a.dirty it.image)
        it.stands.shows.layout it.stands.shows.reading it.stands.shows.sound standing.its there_is))

    behind : IsBehind m old o h numbers tables a (shown a.dirty it.image) made.ready
    behind = read_behind one one_way on_tips lists keep_plain covered erased begins m last reads_last holds old o h numbers
        tables a made.ready it made.keeps

    -- a record of the table that has versions is listed
    is_listed : (x : RecId) → IsPageAt m (said old.list) a x.page.0 standing.its → (e : Entry) (es : List Entry)
        → IsKeptAt (cells_of (shown a.dirty it.image)) x (e ∷ es) → IsAmong made.records x
    is_listed x on e es kept = subst (λ (rs : List RecId). IsAmong rs x) (sym listed)
        (among_pages (shown a.dirty it.image) there_is.stand.data_pages x
        ((data_there a.geometry.size (left_state everyone (said old.list)) (shown a.dirty it.image)
        it.stands.shows.layout it.stands.shows.reading it.stands.shows.sound standing.its there_is x.page.0).0
        (on it.image it.tells it.stands.shows.layout it.stands.shows.reading it.stands.shows.sound))
        (newest_primary (shown a.dirty it.image) x (link_to e.at e.version.tx) kept.its.slot))

    -- and one of another table is not
    not_listed : (x : RecId) (its : Table) → IsPageAt m (said old.list) a x.page.0 its → (standing.its ≡ its → ⊥)
        → IsAmong made.records x → ⊥
    not_listed x its on other among = other (alike (its_of it.image it.tells it.stands.shows.layout
        it.stands.shows.reading it.stands.shows.sound) (on it.image it.tells it.stands.shows.layout
        it.stands.shows.reading it.stands.shows.sound))
      where
        alike : table_at (stands_of it.stands.shows.layout) x.page.0 ≡ Some standing.its
            → table_at (stands_of it.stands.shows.layout) x.page.0 ≡ Some its → standing.its ≡ its
        alike is also = let both : Some standing.its ≡ Some its = sym is ∙ also in cc

        its_of : IsPageAt m (said old.list) a x.page.0 standing.its
        its_of = records_of on_tips m old o h numbers tables a it standing.its standing.stands made.records
            (λ image tells. subst (λ (p : PageNo). AreTableRecords (shown a.dirty image) p.0 made.records)
            (sym standing.same) (made.are image tells)) x among

    of_records : (x : RecId) (its : Table) → IsPageAt m (said old.list) a x.page.0 its → (es : List Entry) → Stays a x es
        → OfEach b (IsAmong made.records) x es
    of_records x its on es stays = each_left made.ready behind.shown_then standing.its
        (other_name on_tips m old o h numbers tables a it standing.its standing.stands) made.records b made.goes
        (ready_of one one_way on_tips lists keep_plain covered erased begins m last reads_last holds old o h numbers tables a
        made.ready it table standing made.keeps made.records made.are) once x its
        (page_on on_tips m old o h numbers tables a made.ready it behind x.page.0 its on) es
        (read_stays a made.ready it made.keeps x es stays)

    table_left : (x : RecId) → IsPageAt m (said old.list) a x.page.0 standing.its → (e : Entry) (es : List Entry)
        → Stays a x (e ∷ es) → Left b x (e ∷ es)
    table_left x on e es stays = (of_records x standing.its on (e ∷ es) stays).left
        (is_listed x on e es (stays it.image it.tells))

    table_stays : (x : RecId) (its : Table) → IsPageAt m (said old.list) a x.page.0 its → (standing.its ≡ its → ⊥)
        → (es : List Entry) → Stays a x es → Stays b x es
    table_stays x its on other es stays = (of_records x its on es stays).stays (not_listed x its on other)

    -- what was left stays so
    table_leaves : (x : RecId) (its : Table) → IsPageAt m (said old.list) a x.page.0 its → (standing.its ≡ its → ⊥)
        → (es : List Entry) → Left a x es → Left b x es
    table_leaves x its on other es left j tells = record {
      left = was.left;
      kept = table_stays x its on other was.left (λ i told. subst (λ (k : Image).
          IsKeptAt (cells_of (shown a.dirty k)) x was.left) (one_image m a.disk it.image i it.tells told) was.kept) j tells;
      is = was.is;
    }
      where
        was : IsLeftOf o h (cells_of (shown a.dirty it.image)) x es
        was = left it.image it.tells

  -- ---- all tables

  -- what tables that are collected leave of a record of one of them, and of another one
  record OfTables (b : Pool D FireLinks) (all : List Table) (its : Table) (x : RecId) (es : List Entry) : Type 0 where
    left : (table : Table) → IsOneOf all table → its.name ≡ table.name → Left b x es
    stays : ((table : Table) → IsOneOf all table → its.name ≢ table.name) → Stays b x es

  module _ (a mid b : Pool D FireLinks) (it : HasShown m old o h numbers tables a)
      (first : IsBehind m old o h numbers tables a (shown a.dirty it.image) mid) (done : List Table) (next : Table)
      (have : HaveStandings m (said old.list) a (done ++ next ∷ []))
      (ascend : Ascend (table_names (done ++ next ∷ [])))
      (made : CollectsTable m (said old.list) old.live next mid b) (x : RecId) (its : Table)
      (on : IsPageAt m (said old.list) a x.page.0 its) (e : Entry) (es : List Entry)
      (was : OfTables mid done its x (e ∷ es)) where
    standing : HasStanding m (said old.list) mid next
    standing = standings_on on_tips m old o h numbers tables a mid it first (done ++ next ∷ []) have next
        (last_one done next)

    own_page : IsPageAt m (said old.list) mid x.page.0 its
    own_page = page_on on_tips m old o h numbers tables a mid it first x.page.0 its on

    -- a table of its name is its table
    same_table : its.name ≡ next.name → standing.its ≡ its
    same_table same = one_table packed_form mid.geometry.size (left_state everyone (said old.list))
        (shown mid.dirty first.shown_then.image) first.shown_then.stands.shows.layout
        first.shown_then.stands.shows.reading first.shown_then.stands.shows.sound standing.its its
        (stands_in first.shown_then.stands.shows.layout standing.its (inr (standing.stands first.shown_then.image
        first.shown_then.tells first.shown_then.stands.shows.layout first.shown_then.stands.shows.reading
        first.shown_then.stands.shows.sound)))
        (table_at_stands first.shown_then.stands.shows.layout x.page.0 its (own_page first.shown_then.image
        first.shown_then.tells first.shown_then.stands.shows.layout first.shown_then.stands.shows.reading
        first.shown_then.stands.shows.sound)) (standing.named ∙ sym same)

    other_table : its.name ≢ next.name → standing.its ≡ its → ⊥
    other_table ne same = ne (sym (ap (λ (t : Table). t.name) same) ∙ standing.named)

    -- the next one's name is none of those before it
    apart : (table : Table) → IsOneOf done table → table.name ≢ next.name
    apart table among = other_names done next table ascend among

    next_left : its.name ≡ next.name → Left b x (e ∷ es)
    next_left same = table_left mid b first.shown_then next standing made x
        (subst (λ (t : Table). IsPageAt m (said old.list) mid x.page.0 t) (sym (same_table same)) own_page) e es
        (was.stays (λ table among also. apart table among (sym also ∙ same)))

    done_left : (table : Table) → IsOneOf done table → its.name ≡ table.name → Left b x (e ∷ es)
    done_left table among same = table_leaves mid b first.shown_then next standing made x its own_page
        (other_table (λ also. apart table among (sym same ∙ also))) (e ∷ es) (was.left table among same)

    more_tables : OfTables b (done ++ next ∷ []) its x (e ∷ es)
    more_tables = record {
      left = λ table among same. at table (one_split done next table among) same;
      stays = λ none. table_stays mid b first.shown_then next standing made x its own_page
          (other_table (none next (last_one done next))) (e ∷ es)
          (was.stays (λ table among. none table (front_one done next table among)));
    }
      where
        at : (table : Table) → IsOneOf done table ⊎ (next ≡ table) → its.name ≡ table.name → Left b x (e ∷ es)
        at table (inl among) same = done_left table among same
        at table (inr is) same = next_left (same ∙ ap (λ (t : Table). t.name) (sym is))

  no_tables : (a : Pool D FireLinks) (its : Table) (x : RecId) (es : List Entry) → Stays a x es
      → OfTables a [] its x es
  no_tables a its x es stays = record { left = λ table none same. absurd none; stays = λ none. stays }

  tables_left : (a : Pool D FireLinks) (it : HasShown m old o h numbers tables a) (all : List Table)
      (b : Pool D FireLinks) → GoesThrough (CollectsTable m (said old.list) old.live) a all b
      → HaveStandings m (said old.list) a all → Ascend (table_names all) → (x : RecId) (its : Table)
      → IsPageAt m (said old.list) a x.page.0 its → (e : Entry) (es : List Entry) → Stays a x (e ∷ es)
      → OfTables b all its x (e ∷ es)
  tables_left a it all b none_yet have ascend x its on e es stays = no_tables a its x (e ∷ es) stays
  tables_left a it all b (one_more done next mid now goes made) have ascend x its on e es stays =
      more_tables a mid now it (tables_behind one one_way on_tips lists keep_plain covered erased begins m last reads_last
      holds old o h numbers tables a it done mid goes (λ table among. have table (front_one done next table among))) done
      next have ascend made x its on e es (tables_left a it done mid goes
      (λ table among. have table (front_one done next table among)) (ascend_front done next ascend) x its on e es stays)

-- ---- the engine

module _ (one : RowsAreOne packed_coding) (one_way : StandsOneWay packed_form) (on_tips : TipsStayOn) (lists : ListsStay)
    (keep_plain : WritesKeepPlain) (covered : CoveredMayGo) (erased : ErasedMayGo) (begins : OpeningsBegin)
    (walked : TablesAreWalked) (rows_law : RowsOfReadings) {D : Type 0} (m : Meaning D)
    (last : RowsLastStill D FireLinks m packed_form) (reads_last : ReadsLast D FireLinks m packed_form)
    (holds : HoldsOne D m) (failing : PageWritesFail D FireLinks m packed_form) {P : Type 0} (places : Places P)
    (old new : Core D) (core : IsCore m old) (is : CollectsAll m old new) (o : Opening) (h : Entries)
    (stands : StandsFor m old o h) (table : Table) (committed : (collecting m places).is_committed old table)
    (place : P) (has : (collecting m places).has_record old table place) (versions : List Kept)
    (kept : (collecting m places).kept old place versions) where
  abbrev rec : RecId
  rec = places.rec place

  abbrev it : HasShown m old o h stands.numbers stands.tables old.store
  it = shown_of m old is.up o h stands core

  abbrev all : List Table
  all = is.collected.tables

  have : HaveStandings m (said old.list) old.store is.collected.tables
  have = found_stand m old is.up o h stands one_way begins rows_law core is.collected.tables is.collected.finds.named

  its_kept : HasKept (shown old.store.dirty (shown_of m old is.up o h stands core).image) (places.rec place) versions
  its_kept = kept it.image it.tells

  -- the table is one of those that were found
  among : IsOneOf is.collected.tables table
  among = subst (λ (ts : List Table). IsOneOf ts table) (sym found)
      (committed it.image it.tells it.stands.shows.layout it.stands.shows.reading it.stands.shows.sound
      (it.stands.shows.sound.names.named (λ u. false)) (committed_names rows_law old.store.geometry.size
      (said old.list) (shown old.store.dirty it.image) it.stands.shows.layout it.stands.shows.reading
      it.stands.shows.sound))
    where
      catalog_same : old.catalog ≡ it.stands.shows.layout.catalog.table
      catalog_same = catalog_shown m old o h (standing_of old stands.numbers stands.tables) core
          (shows_of m old o h stands is.up)

      found : is.collected.tables ≡ it.stands.shows.sound.names.named (λ u. false)
      found = found_are rows_law old.store.geometry.size (said old.list) (shown old.store.dirty it.image)
          it.stands.shows.layout it.stands.shows.reading it.stands.shows.sound (next_said old.list)
          (system_said old.list) (committed_past m old is.up o h stands begins) is.collected.tables
          (subst (λ (c : Table). AreNamed (said old.list) (system_base (next_said old.list))
          (shown old.store.dirty it.image) c is.collected.tables) catalog_same
          (is.collected.finds.named it.image it.tells))

  ascending : Ascend (table_names is.collected.tables)
  ascending = (is.collected.finds.named it.image it.tells).names.ascending

  its_standing : HasStanding m (said old.list) old.store table
  its_standing = have table among

  -- its record stands on one of its pages
  on_page : IsPageAt m (said old.list) old.store (places.rec place).page.0 its_standing.its
  on_page image tells layout r sound = (its_data packed_form old.store.geometry.size
      (left_state everyone (said old.list)) (shown old.store.dirty image) layout r sound its_standing.its there
      (places.rec place).page.0).1 (page_of_record (shown old.store.dirty image) there.stand.table.pointer.0
      there.stand.pointers there.stand.data_pages (walked packed_form.in_primary old.store.geometry.size
      (shown old.store.dirty image) there.stand (its_pages packed_form old.store.geometry.size
      (left_state everyone (said old.list)) (shown old.store.dirty image) layout r sound its_standing.its there))
      (places.rec place) (subst (λ (p : PageNo). IsRecordOf (shown old.store.dirty image) p.0 (places.rec place))
      (sym (ap (λ (t : Table). t.pointer) there.table_is ∙ its_standing.same)) (has image tells)))
    where
      there : IsTableOf layout its_standing.its
      there = stands_in layout its_standing.its (inr (its_standing.stands image tells layout r sound))

  -- it has a version
  some_version : (e : Entry) × (es : List Entry) × (its_kept.entries ≡ e ∷ es)
  some_version = by its_kept.entries refl
    where
      lead : (l : Link) × (newest_link (shown old.store.dirty it.image) (places.rec place) ≡ Some l)
      lead = primary_newest (shown old.store.dirty it.image) (places.rec place) (has it.image it.tells).stands.primary

      by : (es : List Entry) → its_kept.entries ≡ es
          → (e : Entry) × (ds : List Entry) × (its_kept.entries ≡ e ∷ ds)
      by [] are = let both : ◌≡◌ {A = Option Link} (Some lead.0) None =
          sym lead.1 ∙ (its_kept.its.slot ∙ ap first_link are) in absurd cc
      by (e ∷ es) are = (e, es, are)

  was_kept : IsKeptAt (cells_of (shown old.store.dirty it.image)) (places.rec place)
      (some_version.0 ∷ some_version.1)
  was_kept = record {
    its = subst (HasInOrder (cells_of (shown old.store.dirty it.image)) (places.rec place)) some_version.2 its_kept.its;
    free = λ none. absurd (never some_version.0 some_version.1 none);
  }
    where
      never : (e : Entry) (es : List Entry) → e ∷ es ≡ [] → ⊥
      never e es none = cc

  all_behind : IsBehind m old o h stands.numbers stands.tables old.store
      (shown old.store.dirty (shown_of m old is.up o h stands core).image) new.store
  all_behind = committed_behind one one_way on_tips lists keep_plain covered erased begins rows_law m last reads_last holds
      failing old core is.up new.store is.collected o h stands

  left_of : IsLeftOf o h (cells_of (shown new.store.dirty all_behind.shown_then.image)) (places.rec place)
      (some_version.0 ∷ some_version.1)
  left_of = (tables_left one one_way on_tips lists keep_plain covered erased begins m last reads_last holds old o h
      stands.numbers stands.tables is.collected.ready first.shown_then is.collected.tables new.store is.collected.goes
      (standings_on on_tips m old o h stands.numbers stands.tables old.store is.collected.ready it first
      is.collected.tables have) ascending (places.rec place) its_standing.its
      (page_on on_tips m old o h stands.numbers stands.tables old.store is.collected.ready it first
      (places.rec place).page.0 its_standing.its on_page) some_version.0 some_version.1 ready_kept).left table among
      its_standing.named all_behind.shown_then.image all_behind.shown_then.tells
    where
      first : IsBehind m old o h stands.numbers stands.tables old.store
          (shown old.store.dirty (shown_of m old is.up o h stands core).image) is.collected.ready
      first = read_behind one one_way on_tips lists keep_plain covered erased begins m last reads_last holds old o h
          stands.numbers stands.tables old.store is.collected.ready it is.collected.finds.keeps

      ready_kept : (j : Image) → Tells m is.collected.ready.disk j
          → IsKeptAt (cells_of (shown is.collected.ready.dirty j)) (places.rec place)
          (some_version.0 ∷ some_version.1)
      ready_kept j tells = subst (λ (d : DirtyPages). IsKeptAt (cells_of (shown d j)) (places.rec place)
          (some_version.0 ∷ some_version.1)) (sym is.collected.finds.keeps.dirty)
          (subst (λ (i : Image). IsKeptAt (cells_of (shown old.store.dirty i)) (places.rec place)
          (some_version.0 ∷ some_version.1)) (one_image m is.collected.ready.disk it.image j
          (tells_on m old.store is.collected.ready it.image is.collected.finds.keeps it.tells) tells) was_kept)

  pub is_left : IsCollected (collecting m places) new o h place versions
  is_left = record {
    left = map kept_of left_of.left;
    kept = λ j tells. record {
      entries = left_of.left;
      its = subst (λ (i : Image). HasInOrder (cells_of (shown new.store.dirty i)) (places.rec place) left_of.left)
          (one_image m new.store.disk all_behind.shown_then.image j all_behind.shown_then.tells tells) left_of.kept.its;
      are = refl;
    };
    is = subst (λ (vs : List Kept). IsLeft o h vs (map kept_of left_of.left))
        (sym (its_kept.are ∙ ap (λ (es : List Entry). map kept_of es) some_version.2)) left_of.is;
  }

-- ---- the law

pub every_leaves : RowsAreOne packed_coding → StandsOneWay packed_form → TipsStayOn → ListsStay → WritesKeepPlain
    → CoveredMayGo → ErasedMayGo → OpeningsBegin → TablesAreWalked → RowsOfReadings → (D P : Type 0) (m : Meaning D)
    → RowsLastStill D FireLinks m packed_form → ReadsLast D FireLinks m packed_form → HoldsOne D m
    → PageWritesFail D FireLinks m packed_form → EveryLeaves D P m
every_leaves one one_way on_tips lists keep_plain covered erased begins walked rows_law D P m last reads_last holds failing
    places old new core is o h stands table committed place has versions kept = is_left one one_way on_tips lists
    keep_plain covered erased begins walked rows_law m last reads_last holds failing places old new core is o h stands
    table committed place has versions kept
