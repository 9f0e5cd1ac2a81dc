-- What every call of a keeper of records keeps, and the causes of refusals from outside the machine.
use Rattle.std.specs.Prelude.{◌≡◌, ℕ, ◌≤◌, List, true, false, Option, Some, None, Result, Ok, Err}
use Rattle.mg_base.specs.Image.{Image}
use Rattle.mg_base.specs.Disk.{Rose}
use Rattle.mg_faults.specs.Faults.{tells_failed_write, tells_fault}
use Rattle.mg_model.specs.declared.opening.Opening.{Opening}
use Rattle.mg_model.specs.declared.refusal.Refusal.{Refusal}
use Rattle.mg_model.specs.declared.refusal.Refusal.TheVariants.{DatabaseFull, DiskRead, DiskWrite, Offline, Damaged, Memory}
use Rattle.mg_model.specs.declared.table.Table.{Table}
use Rattle.mg_model.specs.Changes.{KeyedRows}
use Rattle.mg_model.specs.History.{Entries}
use Rattle.mg_model.specs.Machine.{is_of}
use Rattle.mg_records.specs.Meaning.{Means}

-- why a call was refused, none where it was not
abbrev pub refusal_in : {T : Type 0} → Result T Refusal → Option Refusal
refusal_in (Ok x) = None
refusal_in (Err r) = Some r

-- the disk's counts of faults have not fallen
abbrev pub FaultsGrow : {R P : Type 0} → Means R P → R → R → Type 0
FaultsGrow m old new = (m.faults old ≤ m.faults new) × (m.failed_writes old ≤ m.failed_writes new)

-- a page write failed, or its settling: both have risen
abbrev pub WriteFailed : {R P : Type 0} → Means R P → R → R → Type 0
WriteFailed m old new = Rose (m.faults old) (m.faults new) × Rose (m.failed_writes old) (m.failed_writes new)

-- a refusal has no other cause than this; want of pages names the page limit
abbrev pub Causes : {R P : Type 0} → Means R P → R → R → Option Refusal → Type 0
Causes m old new (Some (DiskRead count)) = Rose (m.faults old) (m.faults new)
Causes m old new (Some (DiskWrite count)) = WriteFailed m old new
Causes m old new (Some (Damaged page field found wanted)) = Rose (m.damage old) (m.damage new)
Causes m old new (Some (DatabaseFull limit)) = Rose (m.shortages old) (m.shortages new) × (limit ≡ m.page_limit old)
Causes m old new (Some (Offline count)) = m.down old ≡ Some count
Causes m old new refusal = Unit {0}

-- once a page write has failed, each call is refused so, with its count, or for want of memory
abbrev pub IsOffline : Option ℕ → Option Refusal → Type 0
IsOffline None refusal = Unit {0}
IsOffline (Some count) (Some (Offline named)) = named ≡ count
IsOffline (Some count) (Some Memory) = Unit {0}
IsOffline (Some count) refusal = ⊥

-- the count of a failed page write after a call
abbrev pub down_after : Option ℕ → Option Refusal → Option ℕ
down_after before (Some (DiskWrite count)) = Some count
down_after before refusal = before

-- time goes on: what a crash might have left before it might still have left
pub record Elapses {R P : Type 0} (m : Means R P) (old new : R) : Type 0 where
  pub later : m.moment old ≤ m.moment new
  pub keeps : (t : ℕ) (c : Image) → t ≤ m.moment old → m.left old t c → m.left new t c

-- What every call keeps, whatever it answers.
pub record Keeps {R P : Type 0} (m : Means R P) (old new : R) (refusal : Option Refusal)
    : Type 0 where
  pub faults : FaultsGrow m old new
  pub damage : m.damage old ≤ m.damage new
  pub shortages : m.shortages old ≤ m.shortages new
  pub cause : Causes m old new refusal
  pub offline : IsOffline (m.down old) refusal
  pub down : m.down new ≡ down_after (m.down old) refusal
  pub tells : m.tells new ≡ m.tells old
  pub most_writes : m.most_writes new ≡ m.most_writes old
  pub page_limit : m.page_limit new ≡ m.page_limit old
  pub time : m.tells old ≡ true → Elapses m old new
  pub sizes : (size : ℕ) → m.is_size new size ≡ m.is_size old size
  pub holds : (o : Opening) (h : Entries) (least : ℕ) (c : Image) → m.holds old o h least c
      → m.holds new o h least c
  pub given : (table : Table) → m.was_given old table → m.was_given new table
  pub places : (table : Table) (place : P) → m.is_place old table place → m.is_place new table place

-- A fault of the disk is told, and as what it is: where the refusal tells none, the disk's count of faults stands, and
-- where it tells no failed page write, none failed.
abbrev pub FaultsAreTold : {R P : Type 0} → Means R P → R → R → Option Refusal → Type 0
FaultsAreTold m old new refusal = (tells_fault refusal ≡ false → m.faults new ≡ m.faults old)
    × (tells_failed_write refusal ≡ false → m.failed_writes new ≡ m.failed_writes old)

-- where it is told what a crash may leave, no page is found damaged
abbrev pub FindsNoDamage : {R P : Type 0} → Means R P → R → R → Type 0
FindsNoDamage m old new = m.tells old ≡ true → m.damage new ≡ m.damage old

-- no page is found damaged in the call, where the keeper stood for a history and tells what a crash may
-- leave
abbrev pub MeetsNoDamage : {R P : Type 0} → Means R P → R → R → Type 0
MeetsNoDamage m old new = (o : Opening) (h : Entries) → m.stands old o h → FindsNoDamage m old new

-- a table that was given to a transaction is given to it still, but for one transaction, if one is
-- named
abbrev pub TablesStay : {R P : Type 0} → Means R P → R → R → Option ℕ → Type 0
TablesStay m old new who = (u : ℕ) (name : List ℕ) (table : Table) → is_of u who ≡ false
    → m.table old u name ≡ Some table → m.table new u name ≡ Some table

-- the walks of transactions go on as they would have, but for those of one, if one is named
abbrev pub WalksStay : {R P : Type 0} → Means R P → R → R → Option ℕ → Type 0
WalksStay {P = P} m old new who = (u : ℕ) (table : Table) (after : Option P) (rows : KeyedRows)
    → is_of u who ≡ false → m.to_come old u table after rows → m.to_come new u table after rows

-- commits that were asked for stay so, and what was written for them stays written, but for one
-- transaction, if one is named
pub record CommitsStay {R P : Type 0} (m : Means R P) (old new : R) (who : Option ℕ) : Type 0 where
  pub asked : (u : ℕ) → is_of u who ≡ false → m.is_asked old u → m.is_asked new u
  pub written : (u : ℕ) → is_of u who ≡ false → m.is_written old u → m.is_written new u

-- A call that adds no entry: it stands for what it stood for, and tables stay. The walks of one
-- transaction may have gone on, or its commit been asked for.
pub record Reads {R P : Type 0} (m : Means R P) (old new : R) (refusal : Option Refusal)
    (walks : Option ℕ) : Type 0 where
  pub stays : (o : Opening) (h : Entries) → m.stands old o h → m.stands new o h
  pub keeps : Keeps m old new refusal
  pub tables : TablesStay m old new None
  pub walks_stay : WalksStay m old new walks
  pub commits : CommitsStay m old new walks

-- A call that gives events: the tables of one transaction may come to be others, and its walks.
pub record Leaves {R P : Type 0} (m : Means R P) (old new : R) (refusal : Option Refusal)
    (tables walks : Option ℕ) : Type 0 where
  pub keeps : Keeps m old new refusal
  pub tables_stay : TablesStay m old new tables
  pub walks_stay : WalksStay m old new walks
  pub commits : CommitsStay m old new walks
