-- A walk over the records of a table.
use Rattle.std.specs.Prelude.{◌≡◌, ◌⊎◌, ◌<◌, ◌+◌, ◌*◌, ℕ, [], Option, None, Some, Result, Ok, Err}
use Rattle.mg_base.specs.Disk.{Meaning}
use Rattle.mg_base.specs.Fields.{u32_at}
use Rattle.mg_base.specs.Image.{Image}
use Rattle.mg_base.specs.declared.damage.Damaged.{Damaged}
use Rattle.mg_base.specs.declared.damage.Field.TheVariants as fields
use Rattle.mg_base.specs.declared.fields.TheConstants.{SEQUENCE_AT}
use Rattle.mg_base.specs.declared.numbers.RecId.{RecId}
use Rattle.mg_base.specs.declared.numbers.TxNo.{TxNo}
use Rattle.mg_base.specs.declared.transaction.TxState.{TxState}
use Rattle.mg_chain.specs.Refusals.{damage}
use Rattle.mg_heap.specs.Reading.{ReadsData}
use Rattle.mg_image.specs.Form.{Pages, Row}
use Rattle.mg_image.specs.Records.{key_of}
use Rattle.mg_model.specs.declared.refusal.Refusal.{Refusal}
use Rattle.mg_model.specs.declared.table.Table.{Table}
use Rattle.mg_pool.specs.Fault.{TellsFault}
use Rattle.mg_pool.specs.Pool.{shown}
use Rattle.mg_pool.specs.declared.fault.PoolFault.TheVariants.{Memory}
use Rattle.mg_pool.specs.declared.pool.Pool.{Pool}
use Rattle.mg_records.specs.declared.found.Found.{Found}
use Rattle.mg_records.specs.Reading.{FindsFitting, StandsUnderKey}
use Rattle.mg_seek.specs.Refusals.{RefusesVisit}
use Rattle.mg_seek.specs.Versions.{wants}
use Rattle.mg_seek.specs.Views.{IsVisit}
use Rattle.mg_seek.specs.declared.views.Visit.{Visit}
use Rattle.mg_seek.specs.declared.whose.Wanted.TheVariants.{SeenBy}
use Rattle.mg_snap.specs.Live.{State as Bases}
use Rattle.mg_space.specs.View.{KeepsStore, RefusesRead, Tells, pool_answer}
use Rattle.mg_space.specs.declared.fault.SpaceFault.{SpaceFault}
use Rattle.mg_space.specs.declared.fault.SpaceFault.TheVariants as space
use Rattle.mg_space.specs.declared.links.FireLinks.{FireLinks}
use Rattle.mg_txlist.specs.TxList.{said}
use Rattle.mg_value.specs.Rows.{RowFits}
use Rattle.mg_value.specs.declared.value.Value.{Value}
use Rattle.mg_value.specs.declared.value.Value.TheVariants.{Null}
use Rattle.mg_core.specs.declared.parts.Core.{Core}
use Rattle.mg_core.specs.declared.scanning.Place.{Place}
use Rattle.mg_core.specs.Cores.{Continues, RefusesCall}
use Rattle.mg_core.specs.Refusing.{CountsFault, IsRefusal}
use Rattle.mg_core.specs.Tables.{ReadsPages}

-- ---- places

-- the record of a place, if there is one
abbrev pub record_of : Option Place → Option RecId
record_of None = None
record_of (Some place) = Some place.rec

-- the rank of a place: by the sequence of its data page, and then by its slot, which has two bytes
abbrev pub rank : Place → ℕ
rank place = place.sequence * 65536 + place.rec.slot

-- a place comes behind another in the walk over its table
abbrev pub IsBehind : Option Place → Place → Type 0
IsBehind None place = Unit {0}
IsBehind (Some former) place = rank former < rank place

-- a place names the sequence that its page has
abbrev pub sequence_in : Pages → RecId → ℕ
sequence_in view rec = u32_at (view rec.page.0) SEQUENCE_AT

-- the damage of a page that comes again, or too early: its sequence is too low behind a former place
abbrev pub early_damage : Place → Place → Damaged
early_damage former place =
    damage place.rec.page.0 fields.Sequence place.sequence (former.sequence + 1)

-- a place is not behind the former one
abbrev pub IsEarly : Option Place → Place → SpaceFault → Type 0
IsEarly None place fault = ⊥
IsEarly (Some former) place fault = (rank former < rank place → ⊥)
    × (fault ≡ space.Damaged (early_damage former place))

-- ---- what is visited

-- a row with its key, if there is one
abbrev pub HasKey : Table → Option Row → Option (Value × Row) → Type 0
HasKey table None keyed = keyed ≡ None
HasKey table (Some row) keyed = keyed ≡ Some (key_of table row, row)

-- the damage of a record whose row has no key
abbrev pub keyless_damage : ℕ → Damaged
keyless_damage page = damage page fields.Key 0 1

-- a row has no key
abbrev pub LacksKey : Table → ℕ → Option Row → SpaceFault → Type 0
LacksKey table page None fault = ⊥
LacksKey table page (Some row) fault = (key_of table row ≡ Null)
    × (fault ≡ space.Damaged (keyless_damage page))

-- the damage of a record whose row does not fit its table
abbrev pub unfit_damage : ℕ → Damaged
unfit_damage page = damage page fields.Row 0 1

-- a row does not fit the columns of its table
abbrev pub IsUnfit : Table → ℕ → Option Row → SpaceFault → Type 0
IsUnfit table page None fault = ⊥
IsUnfit table page (Some row) fault = (RowFits table.shape.columns row → ⊥)
    × (fault ≡ space.Damaged (unfit_damage page))

-- the record behind a place was found, with its row and that one's key and with the sequence of its page;
-- or there is none
abbrev pub IsFound : (ℕ → TxState) → Bases → TxNo → Pages → Table → Option Place
    → Option (Found Place) → Type 0
IsFound state live t view table after None = IsVisit state live t view table (record_of after) None
IsFound state live t view table after (Some found) = (row : Option Row)
    × IsVisit state live t view table (record_of after)
    (Some (record { rec = found.place.rec; row = row }))
    × HasKey table row found.row × (found.place.sequence ≡ sequence_in view found.place.rec)

-- what is found comes behind the former place
abbrev pub GoesOn : Option Place → Option (Found Place) → Type 0
GoesOn after None = Unit {0}
GoesOn after (Some found) = IsBehind after found.place

-- Why a walk goes no further, but for faults of the cache: the next record is not found, or its row is not
-- read; its page is missing; it does not come behind the former place; its row has no key; or it does not fit the
-- table.
pub data IsStepDamage {D : Type 0} (m : Meaning D) (store : Pool D FireLinks)
    (state : ℕ → TxState) (live : Bases) (t : TxNo) (view : Pages) (table : Table)
    (after : Option Place) : SpaceFault → Type 0 where
  no_visit : (fault : SpaceFault)
      → RefusesVisit m store view (wants state live (SeenBy t)) table (record_of after) fault
      → IsStepDamage m store state live t view table after fault
  no_page : (visit : Visit) (fault : SpaceFault)
      → IsVisit state live t view table (record_of after) (Some visit)
      → RefusesRead {T = Unit {0}} m store [] visit.rec.page (Err fault)
      → IsStepDamage m store state live t view table after fault
  early : (visit : Visit) (fault : SpaceFault)
      → IsVisit state live t view table (record_of after) (Some visit)
      → IsEarly after (record { rec = visit.rec; sequence = sequence_in view visit.rec }) fault
      → IsStepDamage m store state live t view table after fault
  no_key : (visit : Visit) (fault : SpaceFault)
      → IsVisit state live t view table (record_of after) (Some visit)
      → LacksKey table visit.rec.page.0 visit.row fault
      → IsStepDamage m store state live t view table after fault
  unfit : (visit : Visit) (fault : SpaceFault)
      → IsVisit state live t view table (record_of after) (Some visit)
      → IsUnfit table visit.rec.page.0 visit.row fault
      → IsStepDamage m store state live t view table after fault

-- ---- the call

-- what is found, where the pages are told
abbrev pub GivesFound : {D : Type 0} → Meaning D → Core D → TxNo → Table → Option Place
    → Option (Found Place) → Type 0
GivesFound m core t table after found = (image : Image) → Tells m core.store.disk image
    → IsFound (said core.list) core.live t (shown core.store.dirty image) table after found

-- why nothing is found, where the pages are told
abbrev pub WhyNoStep : {D : Type 0} → Meaning D → Core D → Pool D FireLinks → TxNo → Table
    → Option Place → SpaceFault → Type 0
WhyNoStep m core store t table after fault = (image : Image) → Tells m core.store.disk image
    → IsStepDamage m store (said core.list) core.live t
    (shown core.store.dirty image) table after fault

-- Pages were read: the next record was found, which comes behind the former place, or there is none. Its row may stand
-- in the table, whatever the pages tell.
pub record ScansOn {D : Type 0} (m : Meaning D) (old new : Core D) (t : TxNo) (table : Table)
    (after : Option Place) (found : Option (Found Place)) : Type 0 where
  pub continues : Continues old t.0
  pub gives : GivesFound m old t table after found
  pub behind : GoesOn after found
  pub fits : FindsFitting table.shape (Ok found)
  pub reads : ReadsPages m old new
  pub same : new ≡ record old { store = new.store }

-- The walk goes no further: pages were read, and the fault is counted.
pub record FailsScan {D : Type 0} (m : Meaning D) (old new : Core D) (t : TxNo) (table : Table)
    (after : Option Place) (refusal : Refusal) : Type 0 where
  pub continues : Continues old t.0
  pub fault : SpaceFault
  pub is : IsRefusal fault refusal
  pub own : ReadsData {T = Unit {0}} (Err fault)
  pub keeps : KeepsStore m old.store new.store
  pub told : TellsFault m old.store new.store (pool_answer {T = Unit {0}} (Err fault))
  pub why : WhyNoStep m old new.store t table after fault
  pub counts : CountsFault fault old.damage new.damage old.shortages new.shortages
  pub same : new ≡ record old {
    store = new.store;
    damage = new.damage;
    shortages = new.shortages;
  }

-- a walk comes to the next record, or is refused
abbrev pub Scans : {D : Type 0} → Meaning D → Core D → Core D → TxNo → Table → Option Place
    → Result (Option (Found Place)) Refusal → Type 0
Scans m old new t table after (Ok found) = ScansOn m old new t table after found
Scans m old new t table after (Err refusal) = (RefusesCall old t.0 refusal × (new ≡ old))
    ⊎ FailsScan m old new t table after refusal

-- ---- the steps of the call

-- the next record is found on the pages, or it is not
abbrev pub VisitsNext : {D : Type 0} → Meaning D → Core D → Core D → TxNo → Table → Option Place
    → Result (Option (Found Place)) SpaceFault → Type 0
VisitsNext m old new t table after (Ok found) = GivesFound m old t table after found
    × GoesOn after found × ReadsPages m old new × (new ≡ record old { store = new.store })
    × FindsFitting table.shape (Ok found)
VisitsNext m old new t table after (Err fault) = KeepsStore m old.store new.store
    × TellsFault m old.store new.store (pool_answer {T = Unit {0}} (Err fault))
    × WhyNoStep m old new.store t table after fault × (new ≡ record old { store = new.store })
    × ReadsData {T = Unit {0}} (Err fault)

-- the place of a record behind another one, or that it is none
abbrev pub PlacesBehind : {D : Type 0} → Meaning D → Pool D FireLinks → Pages → RecId → Option Place
    → Result Place SpaceFault → Type 0
PlacesBehind m store view rec after (Ok place) = place ≡ record { rec = rec; sequence = sequence_in view rec }
PlacesBehind m store view rec after (Err fault) =
    RefusesRead {T = Unit {0}} m store [] rec.page (Err fault)
    ⊎ IsEarly after (record { rec = rec; sequence = sequence_in view rec }) fault

-- a row with its key, which may stand in the table; or that it has none, or does not fit, or that there was no memory
abbrev pub KeysRow : Table → ℕ → Option Row → Result (Option (Value × Row)) SpaceFault → Type 0
KeysRow table page row (Ok keyed) = HasKey table row keyed × StandsUnderKey table.shape keyed
KeysRow table page row (Err fault) =
    LacksKey table page row fault ⊎ IsUnfit table page row fault ⊎ (fault ≡ space.Pool Memory)

-- a row fits the columns of its table, or it is damaged
abbrev pub ChecksFit : Table → ℕ → Row → Result (Unit {0}) Damaged → Type 0
ChecksFit table page row (Ok x) = RowFits table.shape.columns row
ChecksFit table page row (Err it) = (RowFits table.shape.columns row → ⊥) × (it ≡ unfit_damage page)

-- a place comes behind another one, or the damage that it does not
abbrev pub ChecksBehind : Option Place → Place → Result (Unit {0}) Damaged → Type 0
ChecksBehind after place (Ok x) = IsBehind after place
ChecksBehind after place (Err it) = IsEarly after place (space.Damaged it)
