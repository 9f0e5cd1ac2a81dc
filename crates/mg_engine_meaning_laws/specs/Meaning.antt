-- What an engine means as a keeper of records.
use Rattle.std.specs.Prelude.{◌≡◌, ◌-◌, ◌^◌, ◌==◌, ℕ, true, false, length, min, Option, None, Some}
use Rattle.mg_base.specs.Disk.{Meaning}
use Rattle.mg_base.specs.Image.{Image}
use Rattle.mg_base.specs.declared.numbers.RecId.{RecId}
use Rattle.mg_base.specs.declared.transaction.TxState.TheVariants.{Active}
use Rattle.mg_engine_step_laws.specs.reads.Walking.{AreToCome, WalkPlace}
use Rattle.mg_heap.specs.Walk.{is_primary}
use Rattle.mg_image.specs.Form.{packed_form}
use Rattle.mg_lasting_laws.specs.Crashes.{HoldsFrom, asked}
use Rattle.mg_model.specs.declared.opening.Opening.{Opening}
use Rattle.mg_model.specs.declared.table.Table.{Table}
use Rattle.mg_model.specs.Changes.{KeyedRows}
use Rattle.mg_model.specs.History.{Entries}
use Rattle.mg_model.specs.Machine.{state_of}
use Rattle.mg_pool.specs.Dirty.{is_marked}
use Rattle.mg_pool.specs.Pool.{shown}
use Rattle.mg_records.specs.Meaning.{Means}
use Rattle.mg_records.specs.Needed.{with_room}
use Rattle.mg_slots.specs.DataPage.{cell_of}
use Rattle.mg_space.specs.View.{Tells}
use Rattle.mg_engine_step_laws.specs.standing.Standing.{Standing}
use Rattle.mg_works.specs.Works.{MayBeGiven, Working, given_to, has_session, work_of}
use Rattle.mg_core.specs.declared.parts.Core.{Core}
use Rattle.mg_engine_meaning_laws.specs.FreePages.{CoreHasFree}
use Rattle.mg_engine_meaning_laws.specs.Standings.{StandsFor, asked_in, sessions_in, standing_of}

-- ---- walks

-- what a place is: its record, the sequence of its data page, and its rank among the places of a walk, which
-- ascends with each visit
pub record Places (P : Type 0) : Type 0 where
  pub rec : P → RecId
  pub sequence : P → ℕ
  pub rank : P → ℕ

abbrev pub place_at : {P : Type 0} → Places P → Option P → Option WalkPlace
place_at places None = None
place_at places (Some place) = Some (record { rec = places.rec place; sequence = places.sequence place })

-- no place has a greater rank
abbrev pub MOST_RANK : ℕ
MOST_RANK = 2 ^ 48

abbrev pub rank_left : {P : Type 0} → Places P → Option P → ℕ
rank_left places None = MOST_RANK
rank_left places (Some place) = MOST_RANK - 1 - places.rank place

-- the rows that are to come are known by the pages, as long as no page write has failed; after that no walk
-- goes on
abbrev pub AreNext : {D : Type 0} → Meaning D → Core D → Standing → ℕ → Table → Option WalkPlace → KeyedRows
    → Option ℕ → Type 0
AreNext m core s t table after rows None = (image : Image)
    × (m.held core.store.disk ≡ Some image)
    × AreToCome core.store.geometry.size s (shown core.store.dirty image) t table after rows
AreNext m core s t table after rows (Some faults) = Unit {0}

-- An active transaction of an engine that stands for a history still comes to these rows of a table, which was
-- given to it. (A table that others have made, and that it does not see, may go while it walks.)
pub record ComesTo {D : Type 0} (m : Meaning D) (core : Core D) (t : ℕ) (table : Table)
    (after : Option WalkPlace) (rows : KeyedRows) : Type 0 where
  pub opening : Opening
  pub entries : Entries
  pub stands : StandsFor m core opening entries
  pub active : state_of opening entries t ≡ Active
  pub seen : given_to core.works t table.name ≡ Some table
  pub next : AreNext m core (standing_of core stands.numbers stands.tables) t table after rows
      core.store.offline

-- where the pages are told, a slot is the primary one of a record
abbrev pub HasRecordAt : {D : Type 0} → Meaning D → Core D → RecId → Type 0
HasRecordAt m core rec = (image : Image) → Tells m core.store.disk image
    → is_primary (cell_of (shown core.store.dirty image rec.page.0) rec.slot) ≡ true

-- ---- sessions and commits

-- an active transaction was begun by a session
pub record WorksFor {D : Type 0} (core : Core D) (t session : ℕ) : Type 0 where
  pub work : Working
  pub its : work_of core.works t ≡ Some work
  pub by : work.session ≡ session

-- a transaction has asked for its commit, and of the pages that were marked for it none is left to be written
pub record HasWrittenAll {D : Type 0} (core : Core D) (t : ℕ) : Type 0 where
  pub asked : asked_in core.works t ≡ true
  pub none : (page : ℕ) → is_marked core.store.dirty page (sessions_in core.works t) ≡ false

-- ---- the whole

abbrev pub means : {D P : Type 0} → Meaning D → Places P → Means (Core D) P
means m places = record {
  stands = λ core o h. StandsFor m core o h;
  table = λ core t name. given_to core.works t name;
  is_free = λ core session. has_session core.works session ≡ false;
  works = λ core t session. WorksFor core t session;
  was_given = λ core table. MayBeGiven table;
  is_place = λ core table place. Unit {0};
  has_record = λ core t table place. HasRecordAt m core (places.rec place);
  to_come = λ core t table after rows. ComesTo m core t table (place_at places after) rows;
  still = λ core t table after. rank_left places after;
  unwritten = λ core. min 512 (length core.store.dirty.pages);
  is_asked = λ core t. asked_in core.works t ≡ true;
  is_written = λ core t. HasWrittenAll core t;
  tells = λ core. m.tells core.store.disk;
  moment = λ core. m.moment core.store.disk;
  left = λ core t image. m.left core.store.disk t image;
  holds = λ core o h least image.
      HoldsFrom packed_form core.store.dirty.size o (asked h) least image;
  faults = λ core. m.faults core.store.disk;
  failed_writes = λ core. m.failed_writes core.store.disk;
  damage = λ core. core.damage;
  shortages = λ core. core.shortages;
  page_limit = λ core. core.store.geometry.limit;
  has_free = λ core count. CoreHasFree m core count;
  reserves_ends = true;
  asked = λ core. m.asked core.store.disk;
  most_writes = λ core. m.most_writes core.store.disk;
  down = λ core. core.store.offline;
  is_size = λ core size. core.store.geometry.size == size;
}

-- what it means with the room that the openings of its histories promise: so it is a keeper of records
abbrev pub means_with_room : {D P : Type 0} → Meaning D → Places P → Means (Core D) P
means_with_room m places = with_room (means m places)
