-- Entries that are laid while a transaction takes its changes back.
use Rattle.std.proofs.Common.{◌≡◌, ◌≢◌, ◌∙◌, ◌++◌, ap, refl, sym, subst, ℕ, true, List, [], ◌∷◌, Option, None, Some}
use Rattle.std.proofs.lemmas.Bool.{false≢true}
use Rattle.std.proofs.lemmas.List.{append_assoc}
use Rattle.mg_base.specs.Disk.{MayLeave, Meaning}
use Rattle.mg_base.specs.Image.{Image}
use Rattle.mg_base.specs.declared.geometry.Geometry.{Geometry}
use Rattle.mg_base.specs.declared.numbers.RecId.{RecId}
use Rattle.mg_batches.specs.Batches.{ChangesOwn}
use Rattle.mg_engine_change_laws.specs.rows.Answered.{no_catalog}
use Rattle.mg_engine_change_laws.specs.entries.BackEntries.{EntersMidway, HasEnteredBack, KeysEnterMidway}
use Rattle.mg_engine_change_laws.specs.keys.BackTables.{ItsTablesMayBeWritten}
use Rattle.mg_engine_change_laws.specs.entries.EnteredAllLaws.{found_more, found_on, root_in}
use Rattle.mg_engine_change_laws.specs.entries.EntryStages.{entries_keep_tips, table_roots}
use Rattle.mg_engine_change_laws.specs.keys.Found.{IsItsRecord}
use Rattle.mg_engine_change_laws.specs.keys.KeyStepLaws.{was_changed}
use Rattle.mg_engine_change_laws.specs.rows.PlainLaws.{grown_keeps_plain}
use Rattle.mg_engine_change_laws.specs.keys.Takings.{KnowsCache}
use Rattle.mg_engine_change_laws.specs.keys.TakingStepLaws.{entry_on}
use Rattle.mg_engine_change_laws.specs.keys.TakingSteps.{LaysEntryOf, StandsEntered, StandsMidway, keys_then, no_keys, one_entry}
use Rattle.mg_engine_change_laws.specs.keys.WrittenLaws.{kept_in, kept_itself, one_in}
use Rattle.mg_engine_meaning_laws.specs.Standings.{KeepsWritten, written_kept}
use Rattle.mg_engine_step_laws.specs.backs.Again.{again}
use Rattle.mg_engine_step_laws.specs.writes.GoesOnLaws.{pool_is_kept}
use Rattle.mg_engine_step_laws.specs.writes.Knowing.{MayWriteInto}
use Rattle.mg_engine_step_laws.specs.backs.Midway.{GoesBack}
use Rattle.mg_engine_step_laws.specs.backs.Shown.{ShowsMidway}
use Rattle.mg_engine_step_laws.specs.standing.Standing.{IsSeenAs, Remembers, ShowsHistory, Standing}
use Rattle.mg_entries.specs.Entries.{LaysAll, LaysEntry, no_index, one_more}
use Rattle.mg_entry_overlay_laws.specs.Entered.{KeepsRoots}
use Rattle.mg_entry_step_laws.specs.EntryMidway.{EntriesStayMidway}
use Rattle.mg_entry_tie_laws.specs.IndexPlaces.{HasRoot}
use Rattle.mg_image.specs.Form.{Pages, Row, packed_coding, packed_form}
use Rattle.mg_image.specs.Indexes.{index_entry}
use Rattle.mg_image.specs.ReadingLaws.{RowsAreOne}
use Rattle.mg_image.specs.Records.{Reading, record_key}
use Rattle.mg_image.specs.Tables.{Layout, stands_of, table_at}
use Rattle.mg_image_overlay_laws.specs.tables.Growing.{IsTableOf}
use Rattle.mg_image_overlay_laws.specs.tables.OneLayout.{StandsOneWay}
use Rattle.mg_lasting_laws.specs.PoolLaws.{HoldsOne}
use Rattle.mg_model.specs.Answers.{catalog_of, told}
use Rattle.mg_model.specs.Catalog.{catalog_name}
use Rattle.mg_model.specs.Changes.{same_name}
use Rattle.mg_model.specs.History.{Entries, Entry}
use Rattle.mg_model.specs.Legal.{IsLegal, MayBegin}
use Rattle.mg_model.specs.Openings.{everyone}
use Rattle.mg_model.specs.ReadLaws.{same_name_itself}
use Rattle.mg_model.specs.declared.change.Change.{Change}
use Rattle.mg_model.specs.declared.change.Point.{Point}
use Rattle.mg_model.specs.declared.opening.Opening.{Opening}
use Rattle.mg_model.specs.declared.table.Index.{Index}
use Rattle.mg_model.specs.declared.table.Table.{Table}
use Rattle.mg_overlay_laws.specs.Overlays.{left_state}
use Rattle.mg_pool.specs.Batch.{Changed}
use Rattle.mg_pool.specs.Pool.{IsPool, shown}
use Rattle.mg_pool.specs.declared.pool.Pool.{Pool}
use Rattle.mg_pool_overlay_laws.specs.Needs.{Asked, Sessions}
use Rattle.mg_records.specs.Reading.{shape_seen}
use Rattle.mg_space.specs.Taking.{IsGeometry}
use Rattle.mg_space.specs.declared.links.FireLinks.{FireLinks}
use Rattle.mg_value.specs.declared.shape.Shape.{Shape}
use Rattle.mg_value.specs.declared.value.Value.{Value}
use Rattle.mg_works.specs.Works.{Working, work_of, written_to}
use Rattle.mg_engine_change_laws.specs.keys.Found.{ItsRecordIsFound}
use Rattle.mg_engine_change_laws.specs.keys.KeySteps.{FindsIts}
use Rattle.mg_engine_change_laws.specs.keys.TakingStepLaws.{read_midway}
use Rattle.mg_engine_meaning_laws.specs.PlainTables.{HasPlainTables}
use Rattle.mg_engine_step_laws.specs.writes.Batches.{ReadsLast}
use Rattle.mg_image.specs.Sound.{IsSoundBy}
use Rattle.mg_pool.specs.Dirty.{DirtyPages}
use Rattle.mg_seek.specs.Versions.{IsFirst, wants}
use Rattle.mg_seek.specs.declared.walk.Placed.{Placed}
use Rattle.mg_seek.specs.declared.whose.Wanted.TheVariants.{Any}
use Rattle.mg_space.specs.View.{KeepsStore}
use Rattle.mg_taking_back.specs.Keys.{IsOwn, IsOwnAt}

-- ---- a batch of its own

-- What follows of a batch that was changed, whatever it has.
pub record HasChanged {D : Type 0} (m : Meaning D) (before after : Pool D FireLinks) : Type 0 where
  pub pool : IsPool m after
  pub geometry : after.geometry ≡ before.geometry
  pub online : after.offline ≡ None
  pub told : m.tells after.disk ≡ true

pub has_changed : {D : Type 0} (m : Meaning D) (before after : Pool D FireLinks) (fills : Image → Changed → Type 0)
    → m.tells before.disk ≡ true → ChangesOwn m before after fills → HasChanged m before after
has_changed m before after fills told own_batch = record {
  pool = own_batch.changed.pool;
  geometry = own_batch.changed.geometry ∙ own_batch.keeps.geometry;
  online = own_batch.changed.online.1;
  told = ap m.tells (own_batch.changed.changes.enters.disk ∙ own_batch.changed.changes.puts.disk)
      ∙ (own_batch.changed.changes.written.tells ∙ (own_batch.keeps.disk.tells ∙ told));
}

-- ---- the record

-- the record of a key is so on other pages that have the same records and tables
pub its_on : (size : ℕ) (o : Opening) (h : Entries) (e : Entry) (t : ℕ) (whole left : List Change) (s : Standing)
    (begun pages later : Pages) (first : ShowsHistory packed_form size o h s begun)
    (midway : ShowsMidway packed_form size o h e t whole left s begun first pages)
    (then_ : ShowsMidway packed_form size o h e t whole left s begun first later) (its : Table) (key : Value)
    (rec : RecId) → then_.reading ≡ midway.reading
    → table_at (stands_of then_.layout) rec.page.0 ≡ table_at (stands_of midway.layout) rec.page.0
    → IsItsRecord size o h e t whole left s begun pages first midway its key rec
    → IsItsRecord size o h e t whole left s begun later first then_ its key rec
its_on size o h e t whole left s begun pages later first midway then_ its key rec same owner is = record {
  of_table = owner ∙ is.of_table;
  keyed = subst (λ (r : Reading). record_key its (r rec) ≡ key) (sym same) is.keyed;
  newest = is.newest;
  older = is.older;
  read = ap (λ (r : Reading). r rec) same ∙ is.read;
  own = is.own;
  spoken = is.spoken;
}

-- ---- a table that is kept

seen_shape : (name : List ℕ) (table : Table) (said : Option Shape) → IsSeenAs name said (Some table)
    → said ≡ Some table.shape
seen_shape name table None is = absurd is
seen_shape name table (Some shape) is = ap Some (sym is.1)

module _ {D : Type 0} (m : Meaning D) (one : RowsAreOne packed_coding) (one_way : StandsOneWay packed_form)
    (holds : HoldsOne D m) (stay : EntriesStayMidway packed_form D FireLinks m) (may_write : ItsTablesMayBeWritten)
    (size : ℕ) (o : Opening) (h : Entries) (e : Entry) (point : Point) (t : ℕ) (whole left : List Change) (s : Standing)
    (start : Pool D FireLinks) (begun : Pages) (first : ShowsHistory packed_form size o h s begun) (asked : Asked)
    (session : Sessions) (opening : MayBegin o) (legal : IsLegal o h) (memory : Remembers o h s)
    (goes : GoesBack o h e point s asked t) (catalog : ℕ) (works : List Working)
    (keeps : KeepsWritten catalog works s.table) (number : ℕ) (table : Table)
    (kept : written_to works t number ≡ Some table) where
  seen : s.table t table.name ≡ Some table
  seen = keeps.seen t table (one_in (written_kept (work_of works t)) number table (kept_in works t number table kept))

  pub off_catalog : table.name ≢ catalog_name
  off_catalog same = false≢true (sym (no_catalog (catalog_of (told o h) t) table.name table.shape
      (seen_shape table.name table (shape_seen o h t table.name)
      (subst (IsSeenAs table.name (shape_seen o h t table.name)) seen
      ((memory.active t (sym (memory.state t) ∙ goes.active)).table table.name))))
      ∙ (ap (λ (n : List ℕ). same_name n catalog_name) same ∙ same_name_itself catalog_name))

  -- it stands, with all its indexes, wherever the cache is known
  module _ (b : Pool D FireLinks) (k : Image)
      (here : StandsMidway m size o h e t whole left s start b begun first k asked session)
      (knows : KnowsCache m size s b k) where
    pub stands_here : IsTableOf here.pages.layout table
    stands_here = kept_itself o h s t here.pages.layout catalog works (here.pages.tables t goes.active) keeps number table
        kept

    pub may_here : (key : Value) (rec : RecId)
        → IsItsRecord size o h e t whole left s begun (shown b.dirty k) first here.pages table key rec
        → MayWriteInto packed_form size s.state (shown b.dirty k) here.pages.layout here.pages.reading t table
    may_here key rec is = may_write size o (again t left (e ∷ h)) s (shown b.dirty k) here.pages.layout
        here.pages.reading here.pages.sound (λ chosen. pool_is_kept packed_form D FireLinks size o (again t left (e ∷ h))
        s.state asked session b k chosen here.cache.kept) knows.plain t goes.active table off_catalog rec is.newest
        is.older is.of_table is.read is.own

  -- ---- the record of a key, once pages were read

  module _ (reads : ReadsLast D FireLinks m packed_form) (found : ItsRecordIsFound) (before : Pool D FireLinks) (i : Image)
      (midway : StandsMidway m size o h e t whole left s start before begun first i asked session)
      (knows : KnowsCache m size s before i) (key : Value) (rec : RecId)
      (own_at : IsOwnAt s.state s.live t (shown before.dirty i) table key rec) where
    pub finds : FindsIts s (shown before.dirty i) t table key rec
    finds = at own_at.newest refl own_at.own
      where
        at : (x : Option Placed) → own_at.newest ≡ x → IsOwn t x → FindsIts s (shown before.dirty i) t table key rec
        at None none is = absurd is
        at (Some p) some is = record {
          spoken = own_at.spoken;
          newest = p;
          is_first = subst (λ (x : Option Placed). IsFirst (shown before.dirty i) (wants s.state s.live Any) rec x) some
              own_at.first;
          own = is;
        }

    pub record_is : IsItsRecord size o h e t whole left s begun (shown before.dirty i) first midway.pages table key rec
    record_is = found size o h e t whole left s begun (shown before.dirty i) first midway.pages memory goes.active table
        (stands_here before i midway knows) key rec finds.newest finds.spoken finds.is_first finds.own

    pub page_size : before.dirty.size ≡ size
    page_size = knows.pool_is.page_size ∙ knows.size_is

    module _ (ready : Pool D FireLinks) (same : KeepsStore m before ready) (up : ready.offline ≡ None) where
      pub ready_midway : StandsMidway m size o h e t whole left s start ready begun first i asked session
      ready_midway = read_midway m reads size o h e point s start before ready begun first i asked session t whole left
          opening legal goes same knows.tells.told page_size midway

      pub ready_knows : KnowsCache m size s ready i
      ready_knows = record {
        pool_is = same.pool;
        size_is = ap (λ (g : Geometry). g.size) same.geometry ∙ knows.size_is;
        geometry = subst IsGeometry (sym same.geometry) knows.geometry;
        online = up;
        tells = record { told = same.disk.tells ∙ knows.tells.told; held = same.disk.held ∙ knows.tells.held };
        plain = subst (λ (d : DirtyPages). HasPlainTables size s.state (shown d i)) (sym same.dirty) knows.plain;
      }

      read_once : (ready_midway.pages.layout ≡ midway.pages.layout)
          × (ready_midway.pages.reading ≡ midway.pages.reading)
      read_once = one_way size (left_state everyone s.state) (shown before.dirty i) ready_midway.pages.layout
          midway.pages.layout ready_midway.pages.reading midway.pages.reading
          (subst (λ (d : DirtyPages). IsSoundBy packed_form size (left_state everyone s.state) (shown d i)
          ready_midway.pages.layout ready_midway.pages.reading) same.dirty ready_midway.pages.sound) midway.pages.sound

      pub ready_is : IsItsRecord size o h e t whole left s begun (shown ready.dirty i) first ready_midway.pages table key rec
      ready_is = its_on size o h e t whole left s begun (shown before.dirty i) (shown ready.dirty i) first midway.pages
          ready_midway.pages table key rec read_once.1
          (ap (λ (l : Layout). table_at (stands_of l) rec.page.0) read_once.0) record_is

  -- ---- its entries

  module _ (pool : Pool D FireLinks) (i : Image)
      (midway : StandsMidway m size o h e t whole left s start pool begun first i asked session)
      (knows : KnowsCache m size s pool i) (key : Value) (rec : RecId)
      (is : IsItsRecord size o h e t whole left s begun (shown pool.dirty i) first midway.pages table key rec) where
    -- one entry more
    module _ (front later : List Index) (index : Index) (split : table.indexes ≡ front ++ (index ∷ later)) (row : Row)
        (mid b : Pool D FireLinks)
        (rest : EntersMidway m size o h e t whole left s start pool mid begun first i asked session midway front rec row)
        (lays : LaysEntry m mid b index.root.0 (index_entry index rec row)) where
      changed : HasChanged m mid b
      changed = has_changed m mid b _ rest.knows.tells.told lays

      got : (image : Image) × (m.held b.disk ≡ Some image) × MayLeave m b.disk image
      got = holds b.disk changed.told

      its : IsItsRecord size o h e t whole left s begun (shown mid.dirty rest.image) first rest.then_.pages table key rec
      its = its_on size o h e t whole left s begun (shown pool.dirty i) (shown mid.dirty rest.image) first midway.pages
          rest.then_.pages table key rec rest.reading (rest.owners rec.page.0) is

      abbrev entry : LaysEntryOf m size s t mid b rest.image got.0
      entry = record {
        size_is = rest.knows.size_is;
        batch = lays.batch;
        was = was_changed m mid b _ rest.image got.0 lays rest.knows.pool_is rest.knows.geometry rest.knows.tells got.1
            changed.told;
        table = table;
        root = index.root.0;
        entry = index_entry index rec row;
        puts = lays.filled rest.image rest.knows.tells;
        stands = λ l r sound. subst (λ (x : Layout). IsTableOf x table)
            (one_way size (left_state everyone s.state) (shown mid.dirty rest.image) rest.then_.pages.layout l
            rest.then_.pages.reading r rest.then_.pages.sound sound).0
            (stands_here mid rest.image rest.then_ rest.knows);
        has = subst (λ (xs : List Index). HasRoot xs index.root.0) (sym split) (root_in front index later);
        whose = (may_here mid rest.image rest.then_ rest.knows key rec its).whose;
      }

      on : StandsEntered m size o h e t whole left s start mid b begun first rest.image got.0 asked session rest.then_
          index.root.0 (index_entry index rec row)
      on = entry_on m stay o h e point s start begun asked session t whole left opening legal memory goes size first mid b
          rest.image got.0 entry rest.then_

      one_midway : EntersMidway m size o h e t whole left s start pool b begun first i asked session midway
          (front ++ index ∷ []) rec row
      one_midway = record {
        image = got.0;
        steps = keys_then m size o h e t s first.versions.speaker [] [] left left left pool mid b i rest.image got.0
            rest.steps (one_entry b got.0 entry no_keys);
        then_ = on.then_;
        knows = record {
          pool_is = changed.pool;
          size_is = ap (λ (g : Geometry). g.size) changed.geometry ∙ rest.knows.size_is;
          geometry = subst IsGeometry (sym changed.geometry) rest.knows.geometry;
          online = changed.online;
          tells = record { told = changed.told; held = got.1 };
          plain = grown_keeps_plain one size o (again t left (e ∷ h)) s.state (shown mid.dirty rest.image)
              (shown b.dirty got.0) rest.then_.pages.layout on.entries.layout rest.then_.pages.reading rec
              rest.then_.pages.sound on.entries.sound on.entries.grown (λ chosen. pool_is_kept packed_form D FireLinks
              size o (again t left (e ∷ h)) s.state asked session mid rest.image chosen rest.then_.cache.kept)
              rest.knows.plain;
        };
        catalog = (entries_keep_tips packed_form size (left_state everyone s.state) (shown mid.dirty rest.image)
            (shown b.dirty got.0) rest.then_.pages.layout rest.then_.pages.reading on.entries).catalog ∙ rest.catalog;
        reading = on.reading ∙ rest.reading;
        owners = λ n. ap (λ (l : Layout). table_at (stands_of l) n) on.layout ∙ (on.entries.owners n ∙ rest.owners n);
        found = found_more (shown b.dirty got.0) front index rec row (found_on (shown mid.dirty rest.image)
            (shown b.dirty got.0) front (index ∷ later) rec row
            (subst (λ (xs : List Index). KeepsRoots (shown mid.dirty rest.image) (shown b.dirty got.0) xs) split
            (table_roots packed_form size (left_state everyone s.state) (shown mid.dirty rest.image)
            (shown b.dirty got.0) rest.then_.pages.layout rest.then_.pages.reading on.entries table
            (stands_here mid rest.image rest.then_ rest.knows))) rest.found) on.has;
        geometry = changed.geometry ∙ rest.geometry;
      }

    pub all_midway : (indexes later : List Index) → table.indexes ≡ indexes ++ later → (row : Row) (b : Pool D FireLinks)
        → LaysAll m indexes rec row pool b
        → EntersMidway m size o h e t whole left s start pool b begun first i asked session midway indexes rec row
    all_midway indexes later parts row b (no_index p_ row_ store) = record {
      image = i;
      steps = no_keys;
      then_ = midway;
      knows = knows;
      catalog = refl;
      reading = refl;
      owners = λ n. refl;
      found = tt;
      geometry = refl;
    }
    all_midway indexes later parts row b (one_more front index p_ row_ a_ mid b_ laid lays) = one_midway front later index
        (parts ∙ append_assoc front (index ∷ []) later) row mid b
        (all_midway front (index ∷ later) (parts ∙ append_assoc front (index ∷ []) later) row mid laid) lays

-- ---- the law

module _ {D : Type 0} (m : Meaning D) (one : RowsAreOne packed_coding) (one_way : StandsOneWay packed_form)
    (holds : HoldsOne D m) (stay : EntriesStayMidway packed_form D FireLinks m) (may_write : ItsTablesMayBeWritten)
    (reads : ReadsLast D FireLinks m packed_form) (found : ItsRecordIsFound) (size : ℕ) (o : Opening) (h : Entries)
    (e : Entry) (point : Point) (t : ℕ) (whole left : List Change) (s : Standing)
    (start before ready now : Pool D FireLinks) (begun : Pages) (first : ShowsHistory packed_form size o h s begun)
    (i : Image) (asked : Asked) (session : Sessions) (opening : MayBegin o) (legal : IsLegal o h)
    (memory : Remembers o h s) (goes : GoesBack o h e point s asked t) (catalog : ℕ) (works : List Working)
    (keeps : KeepsWritten catalog works s.table) (number : ℕ) (table : Table)
    (kept : written_to works t number ≡ Some table)
    (midway : StandsMidway m size o h e t whole left s start before begun first i asked session)
    (knows : KnowsCache m size s before i) (key : Value) (rec : RecId)
    (own_at : IsOwnAt s.state s.live t (shown before.dirty i) table key rec) (same : KeepsStore m before ready)
    (up : ready.offline ≡ None) (indexes later : List Index) (parts : table.indexes ≡ indexes ++ later) (row : Row)
    (laid : LaysAll m indexes rec row ready now) where
  abbrev its_midway : StandsMidway m size o h e t whole left s start ready begun first i asked session
  its_midway = ready_midway m one one_way holds stay may_write size o h e point t whole left s start begun first
      asked session opening legal memory goes catalog works keeps number table kept
      reads found before i midway knows key rec own_at ready same up

  its_record : IsItsRecord size o h e t whole left s begun (shown ready.dirty i) first its_midway.pages table key rec
  its_record = ready_is m one one_way holds stay may_write size o h e point t whole left s start begun first
      asked session opening legal memory goes catalog works keeps number table kept
      reads found before i midway knows key rec own_at ready same up

  abbrev its_entries : EntersMidway m size o h e t whole left s start ready now begun first i asked session its_midway
      indexes rec row
  its_entries = all_midway m one one_way holds stay may_write size o h e point t whole left s start begun first
      asked session opening legal memory goes catalog works keeps number table kept
      ready i its_midway (ready_knows m one one_way holds stay may_write size o h e point t whole left s start begun first
      asked session opening legal memory goes catalog works keeps number table kept
      reads found before i midway knows key rec own_at ready same up) key rec its_record indexes later parts row now laid

  pub enters_midway : HasEnteredBack m size o h e t whole left s start ready now begun first i asked session table key rec
      indexes row
  enters_midway = record {
    midway = its_midway;
    enters = its_entries;
    stands = stands_here m one one_way holds stay may_write size o h e point t whole left s start begun first
        asked session opening legal memory goes catalog works keeps number table kept
        now its_entries.image its_entries.then_ its_entries.knows;
    is = its_on size o h e t whole left s begun (shown ready.dirty i) (shown now.dirty its_entries.image) first
        its_midway.pages its_entries.then_.pages table key rec its_entries.reading (its_entries.owners rec.page.0)
        its_record;
  }

pub keys_enter_midway : {D : Type 0} (m : Meaning D) → HoldsOne D m → RowsAreOne packed_coding → StandsOneWay packed_form
    → ReadsLast D FireLinks m packed_form → EntriesStayMidway packed_form D FireLinks m → ItsRecordIsFound
    → ItsTablesMayBeWritten → KeysEnterMidway D m
keys_enter_midway m holds one one_way reads stay found may_write size o h e point t whole left s start before ready now
    begun first i asked session opening legal memory goes catalog works keeps number table kept midway knows key rec own_at
    same up indexes later parts row laid = enters_midway m one one_way holds stay may_write reads found size o h e point t
    whole left s start before ready now begun first i asked session opening legal memory goes catalog works keeps number
    table kept midway knows key rec own_at same up indexes later parts row laid
