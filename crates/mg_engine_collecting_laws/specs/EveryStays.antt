-- Records are collected one after another, those of each table that committed rows of the catalog name: behind each of them
-- the pages of an engine show the history that they showed.
use Rattle.std.proofs.Common.{◌≡◌, ◌≢◌, ◌∙◌, ◌++◌, inl, inr, refl, sym, ap, subst, ℕ, Bool, List, [], ◌∷◌, None, Some}
use Rattle.std.specs.Prelude.{map}
use Rattle.mg_base.specs.Disk.{Meaning}
use Rattle.mg_base.specs.Image.{Image}
use Rattle.mg_base.specs.Moments.{joined, started}
use Rattle.mg_base.specs.declared.geometry.Geometry.{Geometry}
use Rattle.mg_base.specs.declared.numbers.PageNo.{PageNo}
use Rattle.mg_base.specs.declared.numbers.RecId.{RecId}
use Rattle.mg_base.specs.declared.transaction.TxState.{TxState}
use Rattle.mg_collecting.specs.Steps.{Steps}
use Rattle.mg_core.specs.declared.parts.Core.{Core}
use Rattle.mg_core_collecting.specs.Every.{CollectsListed, CollectsTable, GoesThrough, CollectsOne, is_collected, left_alone, none_yet, one_more}
use Rattle.mg_core_collecting.specs.Places.{IsSettled}
use Rattle.mg_engine_change_laws.specs.memory.Directories.{StaysKnown}
use Rattle.mg_engine_change_laws.specs.rows.MadeLaws.{StoreOn, on_then, read_on, stays_on}
use Rattle.mg_engine_change_laws.specs.rows.Plain.{WritesKeepPlain}
use Rattle.mg_engine_change_laws.specs.rows.TipLaws.{tips_then}
use Rattle.mg_engine_change_laws.specs.rows.Tips.{KeepsTips}
use Rattle.mg_engine_change_laws.specs.rows.Walks.{OthersWalkOn}
use Rattle.mg_engine_meaning_laws.specs.PlainTables.{HasPlainTables}
use Rattle.mg_engine_meaning_laws.specs.Standings.{HasTips, Numbers, Tables, asked_in, sessions_in, standing_of}
use Rattle.mg_engine_step_laws.specs.commits.ListShows.{ListsStay, TipsStayOn}
use Rattle.mg_engine_step_laws.specs.standing.Standing.{Standing, Stands}
use Rattle.mg_engine_step_laws.specs.tables.TablePages.{data_there, table_there}
use Rattle.mg_engine_step_laws.specs.writes.Batches.{ReadsLast, RowsLastStill}
use Rattle.mg_generation_laws.specs.Laws.{CoveredMayGo, ErasedMayGo}
use Rattle.mg_heap.specs.TableLaws.{table_once}
use Rattle.mg_image.specs.Form.{Pages, packed_coding, packed_form}
use Rattle.mg_image.specs.ReadingLaws.{RowsAreOne}
use Rattle.mg_image.specs.Sound.{IsSoundBy}
use Rattle.mg_image.specs.Tables.{Layout, stands_of, table_at}
use Rattle.mg_image_overlay_laws.specs.tables.Growing.{IsTableOf}
use Rattle.mg_image_overlay_laws.specs.tables.OneLayout.{StandsOneWay}
use Rattle.mg_image_overlay_laws.specs.tables.OneTable.{stands_in}
use Rattle.mg_image_overlay_laws.specs.tables.TableOwners.{IsOneOf, named_other}
use Rattle.mg_lasting_laws.specs.Crashes.{HoldsAcknowledged, LeavesSince}
use Rattle.mg_lasting_laws.specs.Lasting.{LastsOn}
use Rattle.mg_lasting_laws.specs.PoolLaws.{HoldsOne}
use Rattle.mg_model.specs.Catalog.{catalog_name}
use Rattle.mg_model.specs.History.{Entries}
use Rattle.mg_model.specs.Laws.{OpeningsBegin}
use Rattle.mg_model.specs.Openings.{everyone}
use Rattle.mg_model.specs.declared.opening.Opening.{Opening}
use Rattle.mg_model.specs.declared.table.Table.{Table}
use Rattle.mg_overlay_laws.specs.Overlays.{left_state}
use Rattle.mg_pool.specs.Dirty.{DirtyPages}
use Rattle.mg_pool.specs.Pool.{IsPool, shown}
use Rattle.mg_pool.specs.declared.pool.Pool.{Pool}
use Rattle.mg_seek.specs.AmongLaws.{page_among}
use Rattle.mg_seek.specs.TableRecords.{AreTableRecords, IsAmong, records_in}
use Rattle.mg_space.specs.Taking.{IsGeometry}
use Rattle.mg_space.specs.View.{KeepsStore, Tells}
use Rattle.mg_space.specs.ViewLaws.{tells_on}
use Rattle.mg_space.specs.declared.links.FireLinks.{FireLinks}
use Rattle.mg_txlist.specs.TxList.{said}
use Rattle.mg_engine_collecting_laws.specs.PlaceNamed.{named}
use Rattle.mg_engine_collecting_laws.specs.RunStays.{steps_on, steps_pool, steps_stay}
use Rattle.mg_engine_collecting_laws.specs.StandStill.{IsPageIn, IsTableIn, StandStill, still_here, still_then}
use Rattle.mg_engine_collecting_laws.specs.StepStays.{IsInNamed, StepStays}

-- ---- what the pages of a store show

-- The pages of a store of a core show a history, its cache lasts with it, and no page write has failed.
pub record HasShown {D : Type 0} (m : Meaning D) (old : Core D) (o : Opening) (h : Entries) (numbers : Numbers)
    (tables : Tables) (store : Pool D FireLinks) : Type 0 where
  pub image : Image
  pub tells : Tells m store.disk image
  pub up : store.offline ≡ None
  pub pool : IsPool m store
  pub geometry : IsGeometry store.geometry
  pub stands : Stands packed_form store.geometry.size o h (standing_of old numbers tables)
      (Some (shown store.dirty image))
  pub lasts : LastsOn m packed_form o h store (asked_in old.works) (sessions_in old.works)
  pub tips : HasTips old.list store.geometry.size (shown store.dirty image)
  pub plain : HasPlainTables store.geometry.size (said old.list) (shown store.dirty image)

-- Behind a store another one shows the history, too: a crash leaves what it left, whoever works walks on, directories are
-- complete still, and tables stand where they stood.
pub record IsBehind {D : Type 0} (m : Meaning D) (old : Core D) (o : Opening) (h : Entries) (numbers : Numbers)
    (tables : Tables) (before : Pool D FireLinks) (was : Pages) (after : Pool D FireLinks) : Type 0 where
  pub shown_then : HasShown m old o h numbers tables after
  pub on : StoreOn m before after
  pub keeps : KeepsTips before.geometry.size was (shown after.dirty shown_then.image)
  pub leaves : LeavesSince m before.disk after.disk (HoldsAcknowledged packed_form before.dirty.size o h)
  pub others : (t : ℕ) → OthersWalkOn before.geometry.size (standing_of old numbers tables) was
      (shown after.dirty shown_then.image) t
  pub known : StaysKnown before.geometry.size (said old.list) was (shown after.dirty shown_then.image)
  pub still : StandStill before.geometry.size (said old.list) was (shown after.dirty shown_then.image)

-- a table beside the catalog stands in a store's pages, and a page is one of its data pages
abbrev pub StandsAt : {D : Type 0} → Meaning D → (ℕ → TxState) → Pool D FireLinks → Table → Type 0
StandsAt m state store table = (image : Image) → Tells m store.disk image
    → IsTableIn store.geometry.size state (shown store.dirty image) table

abbrev pub IsPageAt : {D : Type 0} → Meaning D → (ℕ → TxState) → Pool D FireLinks → ℕ → Table → Type 0
IsPageAt m state store n table = (image : Image) → Tells m store.disk image
    → IsPageIn store.geometry.size state (shown store.dirty image) n table

-- each of these records is on a page of the table
abbrev pub AreOf : {D : Type 0} → Meaning D → (ℕ → TxState) → Pool D FireLinks → Table → List RecId → Type 0
AreOf m state store table records = (rec : RecId) → IsAmong records rec → IsPageAt m state store rec.page.0 table

-- A table has the name of one that stands in a store's pages, and begins where that does.
pub record HasStanding {D : Type 0} (m : Meaning D) (state : ℕ → TxState) (store : Pool D FireLinks) (table : Table)
    : Type 0 where
  pub its : Table
  pub named : its.name ≡ table.name
  pub same : its.pointer ≡ table.pointer
  pub stands : StandsAt m state store its

abbrev pub HaveStandings : {D : Type 0} → Meaning D → (ℕ → TxState) → Pool D FireLinks → List Table → Type 0
HaveStandings m state store tables = (table : Table) → IsOneOf tables table → HasStanding m state store table

pub one_image : {D : Type 0} (m : Meaning D) (disk : D) (i j : Image) → Tells m disk i → Tells m disk j → i ≡ j
one_image m disk i j one other = let both : Some i ≡ Some j = sym one.held ∙ other.held in cc

among_front : (done : List RecId) (next rec : RecId) → IsAmong done rec → IsAmong (done ++ next ∷ []) rec
among_front [] next rec is = absurd is
among_front (x ∷ done) next rec (inl same) = inl same
among_front (x ∷ done) next rec (inr more) = inr (among_front done next rec more)

among_last : (done : List RecId) (next : RecId) → IsAmong (done ++ next ∷ []) next
among_last [] next = inl refl
among_last (x ∷ done) next = inr (among_last done next)

one_front : (done : List Table) (next table : Table) → IsOneOf done table → IsOneOf (done ++ next ∷ []) table
one_front [] next table is = absurd is
one_front (x ∷ done) next table (inl same) = inl same
one_front (x ∷ done) next table (inr more) = inr (one_front done next table more)

one_last : (done : List Table) (next : Table) → IsOneOf (done ++ next ∷ []) next
one_last [] next = inl refl
one_last (x ∷ done) next = inr (one_last done next)

module _ (on_tips : TipsStayOn) {D : Type 0} (m : Meaning D) (old : Core D) (o : Opening) (h : Entries)
    (numbers : Numbers) (tables : Tables) where
  abbrev s : Standing
  s = standing_of old numbers tables

  abbrev Behind : Pool D FireLinks → Pages → Pool D FireLinks → Type 0
  Behind before was after = IsBehind m old o h numbers tables before was after

  -- a store is behind itself
  pub here_behind : (store : Pool D FireLinks) (it : HasShown m old o h numbers tables store)
      → IsBehind m old o h numbers tables store (shown store.dirty it.image) store
  here_behind store it = record {
    shown_then = it;
    on = stays_on m store it.up;
    keeps = record { tips = λ sequence below. (refl, refl); next = refl; catalog = refl };
    leaves = record {
      since = started m store.disk (HoldsAcknowledged packed_form store.dirty.size o h) it.lasts.left;
      left = it.lasts.left;
    };
    others = λ t u ne works x after rows comes. comes;
    known = λ from dirs was_known. was_known;
    still = still_here store.geometry.size (said old.list) (shown store.dirty it.image);
  }

  -- what is behind one that is behind is behind
  pub behind_then : (a b c : Pool D FireLinks) (was : Pages) (first : IsBehind m old o h numbers tables a was b)
      → IsBehind m old o h numbers tables b (shown b.dirty first.shown_then.image) c
      → IsBehind m old o h numbers tables a was c
  behind_then a b c was first next = record {
    shown_then = next.shown_then;
    on = on_then m a b c first.on next.on;
    keeps = tips_then on_tips a.geometry.size was mid now first.keeps
        (subst (λ (g : Geometry). KeepsTips g.size mid now) first.on.goes.geometry next.keeps);
    leaves = record {
      since = joined m a.disk b.disk c.disk (HoldsAcknowledged packed_form a.dirty.size o h) first.leaves.since
          on_it.since;
      left = on_it.left;
    };
    others = λ t u ne works x from rows comes. subst (λ (g : Geometry). OthersWalkOn g.size s mid now t)
        first.on.goes.geometry (next.others t) u ne works x from rows (first.others t u ne works x from rows comes);
    known = λ from dirs was_known. subst (λ (g : Geometry). StaysKnown g.size s.state mid now) first.on.goes.geometry
        next.known from dirs (first.known from dirs was_known);
    still = still_then a.geometry.size s.state was mid now first.still
        (subst (λ (g : Geometry). StandStill g.size s.state mid now) first.on.goes.geometry next.still);
  }
    where
      mid : Pages
      mid = shown b.dirty first.shown_then.image

      now : Pages
      now = shown c.dirty next.shown_then.image

      on_it : LeavesSince m b.disk c.disk (HoldsAcknowledged packed_form a.dirty.size o h)
      on_it = subst (λ (n : ℕ). LeavesSince m b.disk c.disk (HoldsAcknowledged packed_form n o h)) first.on.goes.size
          next.leaves

  -- tables and pages stand behind as they stood
  module _ (a b : Pool D FireLinks) (it : HasShown m old o h numbers tables a)
      (behind : IsBehind m old o h numbers tables a (shown a.dirty it.image) b) where
    image_is : (image : Image) → Tells m b.disk image → behind.shown_then.image ≡ image
    image_is image tells = one_image m b.disk behind.shown_then.image image behind.shown_then.tells tells

    pub table_on : (table : Table) → StandsAt m (said old.list) a table → StandsAt m (said old.list) b table
    table_on table stands image tells = subst (λ (i : Image). IsTableIn b.geometry.size (said old.list)
        (shown b.dirty i) table) (image_is image tells)
        (subst (λ (g : Geometry). IsTableIn g.size (said old.list) (shown b.dirty behind.shown_then.image) table)
        (sym behind.on.goes.geometry) (behind.still.tables table (stands it.image it.tells)))

    pub page_on : (n : ℕ) (table : Table) → IsPageAt m (said old.list) a n table
        → IsPageAt m (said old.list) b n table
    page_on n table its image tells = subst (λ (i : Image). IsPageIn b.geometry.size (said old.list)
        (shown b.dirty i) n table) (image_is image tells)
        (subst (λ (g : Geometry). IsPageIn g.size (said old.list) (shown b.dirty behind.shown_then.image) n table)
        (sym behind.on.goes.geometry) (behind.still.pages n table (its it.image it.tells)))

    pub standings_on : (all : List Table) → HaveStandings m (said old.list) a all
        → HaveStandings m (said old.list) b all
    standings_on all have table among = let it_stands = have table among in record {
      its = it_stands.its;
      named = it_stands.named;
      same = it_stands.same;
      stands = table_on it_stands.its it_stands.stands;
    }

  -- the data pages of a table that stands, as a list of its records tells them
  module _ (store : Pool D FireLinks) (it : HasShown m old o h numbers tables store) (table : Table)
      (stands : StandsAt m (said old.list) store table) where
    abbrev layout : Layout
    layout = it.stands.shows.layout

    abbrev pages : Pages
    pages = shown store.dirty it.image

    sound : IsSoundBy packed_form store.geometry.size (left_state everyone (said old.list))
        (shown store.dirty it.image) it.stands.shows.layout it.stands.shows.reading
    sound = it.stands.shows.sound

    one_of : IsOneOf (map (λ stand. stand.table) it.stands.shows.layout.tables) table
    one_of = stands it.image it.tells it.stands.shows.layout it.stands.shows.reading it.stands.shows.sound

    pub there : IsTableOf it.stands.shows.layout table
    there = stands_in it.stands.shows.layout table (inr one_of)

    pub other_name : table.name ≢ catalog_name
    other_name same = named_other packed_form store.geometry.size (left_state everyone (said old.list))
        (shown store.dirty it.image) it.stands.shows.layout it.stands.shows.reading it.stands.shows.sound table one_of same

    pub records_are : (records : List RecId) → AreTableRecords (shown store.dirty it.image) table.pointer.0 records
        → records ≡ records_in (shown store.dirty it.image) there.stand.data_pages
    records_are records of = of.are ∙ ap (records_in (shown store.dirty it.image))
        (table_once (shown store.dirty it.image) table.pointer.0 of.pointers of.data_pages there.stand.pointers
        there.stand.data_pages of.table (table_there store.geometry.size (left_state everyone (said old.list))
        (shown store.dirty it.image) it.stands.shows.layout it.stands.shows.reading it.stands.shows.sound table there))

    -- each of its records is on one of its pages
    pub records_of : (records : List RecId)
        → ((image : Image) → Tells m store.disk image
        → AreTableRecords (shown store.dirty image) table.pointer.0 records)
        → AreOf m (said old.list) store table records
    records_of records are rec among image tells other q other_sound =
        (data_there store.geometry.size (left_state everyone (said old.list)) (shown store.dirty image) other q other_sound
        table its rec.page.0).1 (page_among (shown store.dirty image) its.stand.data_pages rec
        (subst (λ (xs : List RecId). IsAmong xs rec) listed among))
      where
        its : IsTableOf other table
        its = stands_in other table (inr (stands image tells other q other_sound))

        listed : records ≡ records_in (shown store.dirty image) its.stand.data_pages
        listed = (are image tells).are ∙ ap (records_in (shown store.dirty image))
            (table_once (shown store.dirty image) table.pointer.0 (are image tells).pointers
            (are image tells).data_pages its.stand.pointers its.stand.data_pages (are image tells).table
            (table_there store.geometry.size (left_state everyone (said old.list)) (shown store.dirty image) other q
            other_sound table its))

-- ---- behind what is collected

module _ (one : RowsAreOne packed_coding) (one_way : StandsOneWay packed_form) (on_tips : TipsStayOn) (lists : ListsStay)
    (keep_plain : WritesKeepPlain) (covered : CoveredMayGo) (erased : ErasedMayGo) (begins : OpeningsBegin)
    {D : Type 0} (m : Meaning D) (last : RowsLastStill D FireLinks m packed_form)
    (reads_last : ReadsLast D FireLinks m packed_form) (holds : HoldsOne D m) (old : Core D) (o : Opening) (h : Entries)
    (numbers : Numbers) (tables : Tables) where
  -- pages were read
  pub read_behind : (a b : Pool D FireLinks) (it : HasShown m old o h numbers tables a) → KeepsStore m a b
      → IsBehind m old o h numbers tables a (shown a.dirty it.image) b
  read_behind a b it keeps = record {
    shown_then = record {
      image = it.image;
      tells = tells_on m a b it.image keeps it.tells;
      up = keeps.offline ∙ it.up;
      pool = keeps.pool;
      geometry = subst IsGeometry (sym keeps.geometry) it.geometry;
      stands = subst (λ (g : Geometry). Stands packed_form g.size o h (standing_of old numbers tables)
          (Some (shown b.dirty it.image))) (sym keeps.geometry)
          (subst (λ (d : DirtyPages). Stands packed_form a.geometry.size o h (standing_of old numbers tables)
          (Some (shown d it.image))) (sym keeps.dirty) it.stands);
      lasts = read.0;
      tips = subst (λ (g : Geometry). HasTips old.list g.size (shown b.dirty it.image)) (sym keeps.geometry)
          (subst (λ (d : DirtyPages). HasTips old.list a.geometry.size (shown d it.image)) (sym keeps.dirty) it.tips);
      plain = subst (λ (g : Geometry). HasPlainTables g.size (said old.list) (shown b.dirty it.image))
          (sym keeps.geometry) (subst (λ (d : DirtyPages). HasPlainTables a.geometry.size (said old.list)
          (shown d it.image)) (sym keeps.dirty) it.plain);
    };
    on = read_on m a b keeps (keeps.offline ∙ it.up);
    keeps = subst (λ (d : DirtyPages). KeepsTips a.geometry.size (shown a.dirty it.image) (shown d it.image))
        (sym keeps.dirty) keeps_here;
    leaves = read.1;
    others = λ t. subst (λ (d : DirtyPages). OthersWalkOn a.geometry.size (standing_of old numbers tables)
        (shown a.dirty it.image) (shown d it.image) t) (sym keeps.dirty) (others_here t);
    known = subst (λ (d : DirtyPages). StaysKnown a.geometry.size (said old.list) (shown a.dirty it.image)
        (shown d it.image)) (sym keeps.dirty) known_here;
    still = subst (λ (d : DirtyPages). StandStill a.geometry.size (said old.list) (shown a.dirty it.image)
        (shown d it.image)) (sym keeps.dirty) (still_here a.geometry.size (said old.list) (shown a.dirty it.image));
  }
    where
      read : LastsOn m packed_form o h b (asked_in old.works) (sessions_in old.works)
          × LeavesSince m a.disk b.disk (HoldsAcknowledged packed_form a.dirty.size o h)
      read = reads_last o h a b (asked_in old.works) (sessions_in old.works) (begins o it.stands.opening)
          it.stands.legal it.tells.told keeps it.lasts

      keeps_here : KeepsTips a.geometry.size (shown a.dirty it.image) (shown a.dirty it.image)
      keeps_here = record { tips = λ sequence below. (refl, refl); next = refl; catalog = refl }

      others_here : (t : ℕ) → OthersWalkOn a.geometry.size (standing_of old numbers tables) (shown a.dirty it.image)
          (shown a.dirty it.image) t
      others_here t u ne works x after rows comes = comes

      known_here : StaysKnown a.geometry.size (said old.list) (shown a.dirty it.image) (shown a.dirty it.image)
      known_here from dirs was_known = was_known

  -- the steps of one record
  pub steps_behind : (a b : Pool D FireLinks) (it : HasShown m old o h numbers tables a) (rec : RecId) (table : Table)
      → IsInNamed a.geometry.size (said old.list) (shown a.dirty it.image) it.stands.shows.layout
      it.stands.shows.reading rec table → (some : Bool) → Steps m (said old.list) old.live rec a some b
      → IsBehind m old o h numbers tables a (shown a.dirty it.image) b
  steps_behind a b it rec table here some steps = record {
    shown_then = record {
      image = then_.image;
      tells = record { told = on_it.goes.time.tells ∙ it.tells.told; held = then_.held };
      up = on_it.online;
      pool = steps_pool m (said old.list) old.live rec a it.pool some b steps;
      geometry = subst IsGeometry (sym on_it.goes.geometry) it.geometry;
      stands = then_.shows.stands;
      lasts = then_.lasts;
      tips = then_.shows.tips;
      plain = then_.shows.plain;
    };
    on = on_it;
    keeps = then_.keeps;
    leaves = then_.leaves;
    others = then_.others;
    known = then_.known;
    still = then_.still;
  }
    where
      on_it : StoreOn m a b
      on_it = steps_on m (said old.list) old.live rec a it.up some b steps

      then_ : StepStays m o h (standing_of old numbers tables) old.list a b (shown a.dirty it.image)
          (asked_in old.works) (sessions_in old.works) rec table
      then_ = steps_stay one one_way on_tips lists keep_plain covered erased begins m last reads_last holds o h
          (standing_of old numbers tables) old.list a it.image (asked_in old.works) (sessions_in old.works) it.stands
          it.lasts it.pool it.geometry it.tells it.up rec table here it.plain it.tips some b steps

  -- where a record has something settled its table is one that a committed row names
  pub named_in : (a : Pool D FireLinks) (it : HasShown m old o h numbers tables a) (rec : RecId) (table : Table)
      → table.name ≢ catalog_name → IsPageAt m (said old.list) a rec.page.0 table
      → IsSettled (shown a.dirty it.image) (said old.list) rec
      → IsInNamed a.geometry.size (said old.list) (shown a.dirty it.image) it.stands.shows.layout
      it.stands.shows.reading rec table
  named_in a it rec table other page settled = record {
    of = of;
    no_catalog = λ same. other (ap (λ (x : Table). x.name) (same ∙ it.stands.shows.sound.catalog));
    named = named a.geometry.size (said old.list) (shown a.dirty it.image) it.stands.shows.layout
        it.stands.shows.reading it.stands.shows.sound rec table of other settled;
  }
    where
      of : table_at (stands_of it.stands.shows.layout) rec.page.0 ≡ Some table
      of = page it.image it.tells it.stands.shows.layout it.stands.shows.reading it.stands.shows.sound

  -- what is known of a record is known where pages were read
  pub settled_on : (a b : Pool D FireLinks) (keeps : KeepsStore m a b) (rec : RecId)
      → ((image : Image) → Tells m a.disk image → IsSettled (shown a.dirty image) (said old.list) rec)
      → (image : Image) → Tells m b.disk image → IsSettled (shown b.dirty image) (said old.list) rec
  settled_on a b keeps rec settled image tells = subst (λ (d : DirtyPages). IsSettled (shown d image) (said old.list) rec)
      (sym keeps.dirty) (settled image (record {
        told = sym keeps.disk.tells ∙ tells.told;
        held = sym keeps.disk.held ∙ tells.held;
      }))

  -- behind a part of what one record comes to: pages were read, and some steps were made
  pub part_behind : (a ready b : Pool D FireLinks) (it : HasShown m old o h numbers tables a) (rec : RecId)
      (table : Table) → table.name ≢ catalog_name → IsPageAt m (said old.list) a rec.page.0 table
      → KeepsStore m a ready
      → ((image : Image) → Tells m a.disk image → IsSettled (shown a.dirty image) (said old.list) rec)
      → (some : Bool) → Steps m (said old.list) old.live rec ready some b
      → IsBehind m old o h numbers tables a (shown a.dirty it.image) b
  part_behind a ready b it rec table other page keeps settled some steps =
      behind_then on_tips m old o h numbers tables a ready b (shown a.dirty it.image) first
      (steps_behind ready b first.shown_then rec table (named_in ready first.shown_then rec table other
      (page_on on_tips m old o h numbers tables a ready it first rec.page.0 table page)
      (settled_on a ready keeps rec settled first.shown_then.image first.shown_then.tells)) some steps)
    where
      first : IsBehind m old o h numbers tables a (shown a.dirty it.image) ready
      first = read_behind a ready it keeps

  pub listed_behind : (a b : Pool D FireLinks) (it : HasShown m old o h numbers tables a) (rec : RecId) (table : Table)
      (gone : Bool) → table.name ≢ catalog_name → IsPageAt m (said old.list) a rec.page.0 table
      → CollectsListed m (said old.list) old.live rec gone a b
      → IsBehind m old o h numbers tables a (shown a.dirty it.image) b
  listed_behind a b it rec table gone other page (left_alone none keeps online why) = read_behind a b it keeps
  listed_behind a b it rec table gone other page (is_collected ready keeps online settled collected) =
      part_behind a ready b it rec table other page keeps settled gone collected.collected.steps

  -- the records of a table, one after another
  each_more : (a mid b : Pool D FireLinks) (it : HasShown m old o h numbers tables a) (table : Table)
      → table.name ≢ catalog_name → (next : RecId) → IsPageAt m (said old.list) a next.page.0 table
      → (first : IsBehind m old o h numbers tables a (shown a.dirty it.image) mid)
      → CollectsOne m (said old.list) old.live next mid b
      → IsBehind m old o h numbers tables a (shown a.dirty it.image) b
  each_more a mid b it table other next page first made =
      behind_then on_tips m old o h numbers tables a mid b (shown a.dirty it.image) first
      (listed_behind mid b first.shown_then next table made.0 other
      (page_on on_tips m old o h numbers tables a mid it first next.page.0 table page) made.1)

  pub each_behind : (a : Pool D FireLinks) (it : HasShown m old o h numbers tables a) (table : Table)
      → table.name ≢ catalog_name → (records : List RecId) (b : Pool D FireLinks)
      → GoesThrough (CollectsOne m (said old.list) old.live) a records b
      → AreOf m (said old.list) a table records → IsBehind m old o h numbers tables a (shown a.dirty it.image) b
  each_behind a it table other records b none_yet of = here_behind on_tips m old o h numbers tables a it
  each_behind a it table other records b (one_more done next mid now goes made) of =
      each_more a mid now it table other next (of next (among_last done next))
      (each_behind a it table other done mid goes (λ rec among. of rec (among_front done next rec among))) made

  -- those of a table that stands
  pub ready_of : (a ready : Pool D FireLinks) (it : HasShown m old o h numbers tables a) (table : Table)
      (standing : HasStanding m (said old.list) a table) → KeepsStore m a ready → (records : List RecId)
      → ((image : Image) → Tells m a.disk image → AreTableRecords (shown a.dirty image) table.pointer.0 records)
      → AreOf m (said old.list) ready standing.its records
  ready_of a ready it table standing keeps records are rec among =
      page_on on_tips m old o h numbers tables a ready it (read_behind a ready it keeps) rec.page.0 standing.its
      (records_of on_tips m old o h numbers tables a it standing.its standing.stands records
      (λ image tells. subst (λ (p : PageNo). AreTableRecords (shown a.dirty image) p.0 records) (sym standing.same)
      (are image tells)) rec among)

  pub table_behind : (a b : Pool D FireLinks) (it : HasShown m old o h numbers tables a) (table : Table)
      → HasStanding m (said old.list) a table → CollectsTable m (said old.list) old.live table a b
      → IsBehind m old o h numbers tables a (shown a.dirty it.image) b
  table_behind a b it table standing made = behind_then on_tips m old o h numbers tables a made.ready b
      (shown a.dirty it.image) first
      (each_behind made.ready first.shown_then standing.its
      (other_name on_tips m old o h numbers tables a it standing.its standing.stands) made.records b made.goes
      (ready_of a made.ready it table standing made.keeps made.records made.are))
    where
      first : IsBehind m old o h numbers tables a (shown a.dirty it.image) made.ready
      first = read_behind a made.ready it made.keeps

  -- and of tables that stand, one after another
  tables_more : (a mid b : Pool D FireLinks) (it : HasShown m old o h numbers tables a) (all : List Table)
      → HaveStandings m (said old.list) a all → (next : Table) → IsOneOf all next
      → (first : IsBehind m old o h numbers tables a (shown a.dirty it.image) mid)
      → CollectsTable m (said old.list) old.live next mid b
      → IsBehind m old o h numbers tables a (shown a.dirty it.image) b
  tables_more a mid b it all have next among first made =
      behind_then on_tips m old o h numbers tables a mid b (shown a.dirty it.image) first
      (table_behind mid b first.shown_then next
      (standings_on on_tips m old o h numbers tables a mid it first all have next among) made)

  pub tables_behind : (a : Pool D FireLinks) (it : HasShown m old o h numbers tables a) (all : List Table)
      (b : Pool D FireLinks) → GoesThrough (CollectsTable m (said old.list) old.live) a all b
      → HaveStandings m (said old.list) a all → IsBehind m old o h numbers tables a (shown a.dirty it.image) b
  tables_behind a it all b none_yet have = here_behind on_tips m old o h numbers tables a it
  tables_behind a it all b (one_more done next mid now goes made) have =
      tables_more a mid now it (done ++ next ∷ []) have next (one_last done next)
      (tables_behind a it done mid goes (λ table among. have table (one_front done next table among))) made
