-- The record of a key is collected by the engine: nothing comes of it to any history.
use Rattle.std.proofs.Common.{◌≡◌, ◌⊎◌, ◌∙◌, ◌<◌, ◌^◌, inl, inr, ℕ, Bool, false, Option, None, Some, Result, Ok, Err, ap, refl, subst, sym}
use Rattle.std.specs.Prelude.{IfOk}
use Rattle.mg_base.specs.Disk.{Meaning}
use Rattle.mg_base.specs.Image.{Image}
use Rattle.mg_base.specs.declared.numbers.RecId.{RecId}
use Rattle.mg_base.specs.declared.numbers.TxNo.{TxNo}
use Rattle.mg_collecting_damage_laws.specs.Undamaged.{CollectionsMeetNone, CollectionsMissNone}
use Rattle.mg_collecting_room_laws.specs.Room.{CollectionsTakeNone}
use Rattle.mg_core.specs.Cores.{Continues, IsCore, RefusesCall}
use Rattle.mg_core.specs.Reading.{OnlyReads}
use Rattle.mg_core.specs.Writing.{KnowsKey, WhyOfKnown}
use Rattle.mg_core.specs.declared.parts.Core.{Core}
use Rattle.mg_core.specs.declared.scanning.Place.{Place}
use Rattle.mg_core_collecting.specs.Places.{CollectsPlace}
use Rattle.mg_engine.proofs.CollectLemmas.{collected_apart}
use Rattle.mg_engine.proofs.BehindLemmas.{quiet_behind, reads_behind, room_behind, sessions_behind, told_behind, undamaged_behind}
use Rattle.mg_engine.proofs.GivenLemmas.{given_there}
use Rattle.mg_engine.specs.KeyCollecting.{CollectsAtKey, CollectsBeside, CollectsFound, FindsAndCollects, IsBesideAll, KeyCollectionsGoOn}
use Rattle.mg_engine.specs.Keyed.{FailsKey, GivesRow, KeysGoOn}
use Rattle.mg_engine.specs.Noting.{OnlyLooks}
use Rattle.mg_engine.specs.Places.{places}
use Rattle.mg_engine_change_laws.specs.rows.StopLaws.{fault_outer}
use Rattle.mg_engine_collecting_laws.specs.PlaceLeaves.{CollectionsLeave}
use Rattle.mg_engine_collecting_laws.specs.PlaceStays.{CollectionsAreNobodys, IsNobodysEvent}
use Rattle.mg_engine_collecting_laws.specs.PlaceTells.{CollectionsTell}
use Rattle.mg_engine_collecting_laws.specs.Versions.{HasKept, collecting}
use Rattle.mg_engine_meaning_laws.specs.Counts.{HasCounts}
use Rattle.mg_engine_meaning_laws.specs.DirectoryLaws.{knows_key}
use Rattle.mg_engine_meaning_laws.specs.Meaning.{means, means_with_room}
use Rattle.mg_engine_meaning_laws.specs.Standings.{ShowsIt, StandsFor, standing_of}
use Rattle.mg_engine_meaning_laws.specs.StepLaws.{shows_of}
use Rattle.mg_heap.specs.Listed.{IsRecordOf}
use Rattle.mg_heap.specs.Stands.{TablesAreWalked}
use Rattle.mg_image.specs.Form.{Pages}
use Rattle.mg_model.specs.History.{Entries}
use Rattle.mg_model.specs.declared.opening.Opening.{Opening}
use Rattle.mg_model.specs.declared.refusal.Refusal.{Refusal}
use Rattle.mg_model.specs.declared.refusal.Refusal.TheVariants.{DatabaseFull}
use Rattle.mg_model.specs.declared.table.Table.{Table}
use Rattle.mg_no_damage_laws.specs.CoreSpendingLaws.{unread_other}
use Rattle.mg_pool.specs.Dirty.{DirtyPages}
use Rattle.mg_pool.specs.Pool.{shown}
use Rattle.mg_records.specs.Asking.{TakesNoPage}
use Rattle.mg_records.specs.Keeping.{refusal_in}
use Rattle.mg_row_writes.specs.declared.finding.RowAt.{RowAt}
use Rattle.mg_seek.specs.Readings.{SpeakersOfReadings}
use Rattle.mg_seek.specs.Speaking.{IsSpeaker}
use Rattle.mg_space.specs.View.{Tells}
use Rattle.mg_space.specs.ViewLaws.{tells_on}
use Rattle.mg_tending.specs.Collecting.{Collects, CollectsKey, SpokenIsCollected}
use Rattle.mg_txlist.specs.TxList.{said}
use Rattle.mg_value.specs.declared.value.Value.{Value}
use Rattle.mg_works.specs.Works.{AreApart, given_to}

-- What is known of engines that collect the record of a key.
pub record KeyCollectParts {D : Type 0} (m : Meaning D) : Type 0 where
  pub keys : KeysGoOn D m
  pub nobodys : CollectionsAreNobodys D Place m
  pub leave : CollectionsLeave D Place m
  pub tell : CollectionsTell D m
  pub none : CollectionsTakeNone D m
  pub meet : CollectionsMeetNone D m
  pub miss : CollectionsMissNone D m
  pub walked : TablesAreWalked
  pub speaks : SpeakersOfReadings

-- ---- the collection alone

-- a collection that was made or refused is beside all
collected_beside : {D : Type 0} (m : Meaning D) → KeyCollectParts m → (old new : Core D) (t : TxNo) (table : Table)
    (rec : RecId) (result : Result Bool Refusal) → IsCore m old → HasCounts old
    → given_to old.works t.0 table.name ≡ Some table → CollectsPlace m old new t table rec result
    → IsBesideAll m old new result
collected_beside {D} m parts old new t table rec result core counts given is = record {
  outside = it.outside;
  reads = it.reads;
  crash = it.crash;
  sessions = it.sessions;
  told = parts.tell old new t table rec result is;
  undamaged = parts.meet old new t table rec result core given is;
  room = parts.none old new t table rec result core is;
  unpaged = parts.miss old new t table rec result core given is;
}
  where
    it : IsNobodysEvent m places old new result
    it = parts.nobodys places old new t table rec result core counts given is

-- one that was refused before anything was read is so whatever the record is
refused_beside : {D : Type 0} (m : Meaning D) → KeyCollectParts m → (old new : Core D) (t : TxNo) (table : Table)
    (refusal : Refusal) → IsCore m old → HasCounts old → given_to old.works t.0 table.name ≡ Some table
    → RefusesCall old t.0 refusal → new ≡ old → IsBesideAll m old new (Err refusal)
refused_beside m parts old new t table refusal core counts given refuses same = collected_beside m parts old new t table
    (record { page = record { 0 = 0 }; slot = 0 }) (Err refusal) core counts given (inl (refuses, same))

-- ---- behind what was read

looks_of : {D : Type 0} (m : Meaning D) (old new : Core D) (t : TxNo) (table : Table) (key : Value) (found : RowAt)
    → GivesRow m places old new t table key (Ok found.row) → OnlyLooks m places old new None
looks_of m old new t table key found gives = record {
  reads = gives.reads;
  crash = gives.crash;
  sessions = gives.sessions;
  told = gives.told;
  undamaged = gives.undamaged;
  room = gives.room;
  unwritten = gives.unwritten;
}

beside_behind : {D : Type 0} (m : Meaning D) (old between new : Core D) (result : Result Bool Refusal)
    → OnlyLooks m places old between None → IsBesideAll m between new result → IsBesideAll m old new result
beside_behind m old between new result first second = record {
  outside = second.outside;
  reads = reads_behind (means m places) old between new first.reads (refusal_in result) None second.reads;
  crash = quiet_behind (means m places) old between new first.reads (refusal_in result) second.reads.keeps first.crash
      second.crash;
  sessions = sessions_behind (means m places) old between new first.reads None None first.sessions second.sessions;
  told = told_behind m places old between new first (refusal_in result) second.told;
  undamaged = undamaged_behind m places old between new first second.undamaged;
  room = room_behind m places old between new first (refusal_in result) 0 second.room;
  unpaged = λ o h stands. second.unpaged o h (first.reads.stays o h stands);
}

-- nothing but a reading is
looked_beside : {D : Type 0} (m : Meaning D) (old new : Core D) → OnlyLooks m places old new None
    → IsBesideAll m old new (Ok false)
looked_beside m old new looks = record {
  outside = tt;
  reads = looks.reads;
  crash = looks.crash;
  sessions = looks.sessions;
  told = looks.told;
  undamaged = looks.undamaged;
  room = looks.room;
  unpaged = λ o h stands limit full. absurd (none limit full);
}
  where
    none : (limit : ℕ) → None ≡ Some (DatabaseFull limit) → ⊥
    none limit full = cc

-- ---- what is collected

module _ {D : Type 0} (m : Meaning D) (old between new : Core D) (reads : OnlyReads m old between) where
  tells_back : (image : Image) → Tells m between.store.disk image → Tells m old.store.disk image
  tells_back image tells = record {
    told = sym reads.keeps.disk.tells ∙ tells.told;
    held = sym reads.keeps.disk.held ∙ tells.held;
  }

  tells_now : (image : Image) → Tells m old.store.disk image → Tells m between.store.disk image
  tells_now image tells = tells_on m old.store between.store image reads.keeps tells

  -- what is shown of the pages is the same
  shown_now : (P : Pages → Type 0) (image : Image) → P (shown old.store.dirty image) → P (shown between.store.dirty image)
  shown_now P image holds = subst (λ (d : DirtyPages). P (shown d image)) (sym reads.keeps.dirty) holds

  shown_back : (P : Pages → Type 0) (image : Image) → P (shown between.store.dirty image)
      → P (shown old.store.dirty image)
  shown_back P image holds = subst (λ (d : DirtyPages). P (shown d image)) reads.keeps.dirty holds

  -- so is what is kept of a record
  collects_behind : ((o : Opening) (h : Entries) → StandsFor m old o h → StandsFor m between o h) → (table : Table)
      (place : Place) (gone : Bool) → Collects (means m places) (collecting m places) between new table place gone
      → Collects (means m places) (collecting m places) old new table place gone
  collects_behind stays table place gone it = record {
    record_left = λ o h stands has versions kept. let left = it.record_left o h (stays o h stands)
        (λ image tells. shown_now (λ ps. IsRecordOf ps table.pointer.0 place.rec) image (has image (tells_back image tells)))
        versions
        (λ image tells. shown_now (λ ps. HasKept ps place.rec versions) image (kept image (tells_back image tells)))
        in record { left = left.left; kept = left.kept; is = left.is; is_told = left.is_told };
    other_left = λ none. let left = it.other_left
        (λ has. none (λ image tells. shown_back (λ ps. IsRecordOf ps table.pointer.0 place.rec) image
        (has image (tells_now image tells)))) in (
          left.0,
          λ versions kept. left.1 versions (λ image tells. shown_now (λ ps. HasKept ps place.rec versions) image
              (kept image (tells_back image tells))),
        );
  }

module _ {D : Type 0} (m : Meaning D) (parts : KeyCollectParts m) (old new : Core D) (t : TxNo) (table : Table)
    (key : Value) (core : IsCore m old) (counts : HasCounts old)
    (given : given_to old.works t.0 table.name ≡ Some table) where
  -- the record that was found speaks for the key
  module _ (continues : Continues old t.0) (o : Opening) (h : Entries) (stands : StandsFor m old o h) where
    abbrev shows : ShowsIt m old o h (standing_of old stands.numbers stands.tables)
    shows = shows_of m old o h stands continues.0

    known : KnowsKey old table key (shown old.store.dirty (shows_of m old o h stands continues.0).image)
    known = knows_key m old o h stands.numbers stands.tables shows parts.walked table
        (given_there m places old t table given o h stands continues shows) parts.speaks key

    known_in : (image : Image) → Tells m old.store.disk image → KnowsKey old table key (shown old.store.dirty image)
    known_in image tells = subst (λ (i : Image). KnowsKey old table key (shown old.store.dirty i)) one known
      where
        one : shows.image ≡ image
        one = let both : Some shows.image ≡ Some image = sym shows.held ∙ tells.held in cc

  module _ (result : Result Bool Refusal) (is : FindsAndCollects m old new t table key result) where
    gives : GivesRow m places old is.between t table key (Ok is.found.row)
    gives = parts.keys places old is.between t table key (Ok is.found.row) counts given (record {
      noted = old;
      core = core;
      notes = inl refl;
      goes = record { continues = is.continues; found = is.found; reads = is.reads; is = refl };
    })

    looks : OnlyLooks m places old is.between None
    looks = looks_of m old is.between t table key is.found gives

    given_now : given_to is.between.works t.0 table.name ≡ Some table
    given_now = ap (λ (c : Core D). given_to c.works t.0 table.name) is.reads.reads.same ∙ given

    counts_now : HasCounts is.between
    counts_now = subst (HasCounts {D = D}) (sym is.reads.reads.same)
        (record { damage = counts.damage; shortages = counts.shortages })

    spoken : (o : Opening) (h : Entries) → StandsFor m old o h → (image : Image) → Tells m old.store.disk image
        → IsSpeaker (said old.list) old.live (shown old.store.dirty image) table key is.found.rec
    spoken o h stands image tells = (is.reads.told image tells (known_in is.continues o h stands image tells)).spoken

    found_beside : (rec : Option RecId) → CollectsFound m is.between new t table rec result
        → IsBesideAll m old new result
    found_beside None (same, none) = subst (λ (r : Result Bool Refusal). IsBesideAll m old new r) (sym none)
        (looked_beside m old new (subst (λ (c : Core D). OnlyLooks m places old c None) (sym same) looks))
    found_beside (Some rec) collects = beside_behind m old is.between new result looks
        (collected_beside m parts is.between new t table rec result is.core counts_now given_now collects)

    -- what remains of it is left
    found_left : (gone : Bool) → result ≡ Ok gone → (rec : Option RecId) → is.found.rec ≡ rec
        → CollectsFound m is.between new t table rec result
        → CollectsKey (means m places) (collecting m places) old new table key gone
    found_left gone its None at (same, none) o h stands = inr (
      λ image tells. subst (λ (r : Option RecId). IsSpeaker (said old.list) old.live (shown old.store.dirty image) table
          key r) at (spoken o h stands image tells),
      (let both : ◌≡◌ {A = Result Bool Refusal} (Ok gone) (Ok false) = sym its ∙ none in cc),
    )
    found_left gone its (Some rec) at collects o h stands = inl (record {
      place = record { rec = rec; sequence = 0 };
      speaks = λ image tells. subst (λ (r : Option RecId). IsSpeaker (said old.list) old.live
          (shown old.store.dirty image) table key r) at (spoken o h stands image tells);
      collects = collects_behind m old is.between new is.reads.reads looks.reads.stays table
          (record { rec = rec; sequence = 0 }) gone
          (parts.leave places is.between new t table (record { rec = rec; sequence = 0 }) gone is.core given_now
          (subst (λ (r : Result Bool Refusal). CollectsPlace m is.between new t table rec r) its collects));
    })

  -- ---- the call

  -- its row was not read
  unread_beside : (refusal : Refusal) → FailsKey m old new t table key refusal → IsBesideAll m old new (Err refusal)
  unread_beside refusal is = record {
    outside = fault_outer is.fails.fault refusal is.fails.is;
    reads = gives.reads;
    crash = gives.crash;
    sessions = gives.sessions;
    told = gives.told;
    undamaged = gives.undamaged;
    room = gives.room;
    unpaged = λ o h stands limit full. unread_other m old new (WhyOfKnown m old t table key) refusal is.fails limit
        (one limit full);
  }
    where
      one : (limit : ℕ) → Some refusal ≡ Some (DatabaseFull limit) → refusal ≡ DatabaseFull limit
      one limit full = cc

      gives : GivesRow m places old new t table key (Err refusal)
      gives = parts.keys places old new t table key (Err refusal) counts given (inr (record {
        noted = old;
        core = core;
        notes = inl refl;
        goes = inr is;
      }))

  goes_on : (result : Result Bool Refusal) → CollectsAtKey m old new t table key result
      → CollectsBeside m old new table key result
  goes_on (Ok gone) is = record {
    beside = found_beside (Ok gone) is is.found.rec is.collects;
    collects = found_left (Ok gone) is gone refl is.found.rec refl is.collects;
  }
  goes_on (Err refusal) (inl (refuses, same)) = record {
    beside = refused_beside m parts old new t table refusal core counts given refuses same;
    collects = tt;
  }
  goes_on (Err refusal) (inr (inl fails)) = record { beside = unread_beside refusal fails; collects = tt }
  goes_on (Err refusal) (inr (inr is)) =
      record { beside = found_beside (Err refusal) is is.found.rec is.collects; collects = tt }

pub key_collections_go_on : {D : Type 0} (m : Meaning D) → KeyCollectParts m → KeyCollectionsGoOn D m
key_collections_go_on m parts old new t table key result core counts given is =
    goes_on m parts old new t table key core counts given result is

-- what was found was collected, or was refused
pub found_at_key : {D : Type 0} (m : Meaning D) (old new : Core D) (t : TxNo) (table : Table) (key : Value)
    (result : Result Bool Refusal) → FindsAndCollects m old new t table key result
    → CollectsAtKey m old new t table key result
found_at_key m old new t table key (Ok gone) is = is
found_at_key m old new t table key (Err refusal) is = inr (inr is)

-- ---- the engine

-- its core is its value
pub beside_as : {D : Type 0} (m : Meaning D) (inside old new : Core D) → inside ≡ old → IsCore m inside
    → inside.damage < 2 ^ 64 → inside.shortages < 2 ^ 64 → KeyCollectionsGoOn D m → (t : TxNo) (table : Table) (key : Value)
    (result : Result Bool Refusal) → given_to old.works t.0 table.name ≡ Some table
    → CollectsAtKey m inside new t table key result → CollectsBeside m old new table key result
beside_as {D} m inside old new same core damage shortages law t table key result given is =
    subst (λ (c : Core D). CollectsBeside m c new table key result) same
    (law inside new t table key result core (record { damage = damage; shortages = shortages })
    (subst (λ (c : Core D). given_to c.works t.0 table.name ≡ Some table) (sym same) given) is)

-- with the room that openings promise
pub key_with : {D : Type 0} (m : Meaning D) (old new : Core D) (table : Table) (key : Value)
    (result : Result Bool Refusal) → IfOk result (CollectsKey (means m places) (collecting m places) old new table key)
    → IfOk result (CollectsKey (means_with_room m places) (collecting m places) old new table key)
key_with m old new table key (Ok gone) collects = λ o h has. on (collects o h has.stands)
  where
    on : SpokenIsCollected (means m places) (collecting m places) old new table key gone
        ⊎ ((collecting m places).silent old table key × (gone ≡ false))
        → SpokenIsCollected (means_with_room m places) (collecting m places) old new table key gone
        ⊎ ((collecting m places).silent old table key × (gone ≡ false))
    on (inl it) = inl (record {
      place = it.place;
      speaks = it.speaks;
      collects = record {
        record_left = λ o h stands. it.collects.record_left o h stands.stands;
        other_left = it.collects.other_left;
      };
    })
    on (inr none) = inr none
key_with m old new table key (Err refusal) collects = tt

pub unpaged_with : {D : Type 0} (m : Meaning D) (old : Core D) (refusal : Option Refusal)
    → ((o : Opening) (h : Entries) → StandsFor m old o h → TakesNoPage refusal) → (o : Opening) (h : Entries)
    → (means_with_room m places).stands old o h → TakesNoPage refusal
unpaged_with m old refusal unpaged o h has = unpaged o h has.stands

-- each session has one active transaction at most
found_apart : {D : Type 0} (m : Meaning D) (old new : Core D) (t : TxNo) (table : Table) (rec : Option RecId)
    (result : Result Bool Refusal) → CollectsFound m old new t table rec result → AreApart old.works
    → AreApart new.works
found_apart {D} m old new t table None result (same, none) apart =
    subst AreApart (sym (ap (λ (c : Core D). c.works) same)) apart
found_apart m old new t table (Some rec) result is apart = collected_apart m old new t table rec result is apart

pub key_collected_apart : {D : Type 0} (m : Meaning D) (old new : Core D) (t : TxNo) (table : Table) (key : Value)
    (result : Result Bool Refusal) → CollectsAtKey m old new t table key result → AreApart old.works
    → AreApart new.works
key_collected_apart {D} m old new t table key (Ok gone) is apart =
    found_apart m is.between new t table is.found.rec (Ok gone) is.collects
    (subst AreApart (sym (ap (λ (c : Core D). c.works) is.reads.reads.same)) apart)
key_collected_apart {D} m old new t table key (Err refusal) (inl (refuses, same)) apart =
    subst AreApart (sym (ap (λ (c : Core D). c.works) same)) apart
key_collected_apart {D} m old new t table key (Err refusal) (inr (inl is)) apart =
    subst AreApart (sym (ap (λ (c : Core D). c.works) is.fails.same)) apart
key_collected_apart {D} m old new t table key (Err refusal) (inr (inr is)) apart =
    found_apart m is.between new t table is.found.rec (Err refusal) is.collects
    (subst AreApart (sym (ap (λ (c : Core D). c.works) is.reads.reads.same)) apart)
