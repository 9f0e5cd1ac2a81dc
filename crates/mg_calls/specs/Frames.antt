-- What the calls for one transaction leave of all others and of the keeper as a whole, however many
-- calls they are.
use Rattle.std.specs.Prelude.{◌≡◌, ◌⊎◌, ℕ, ◌≤◌, true, false, Option, Some}
use Rattle.mg_base.specs.Disk.{Rose}
use Rattle.mg_model.specs.declared.refusal.Refusal.{Refusal}
use Rattle.mg_model.specs.declared.refusal.Refusal.TheVariants.{DatabaseFull, DiskRead, DiskWrite, Offline, Damaged}
use Rattle.mg_model.specs.declared.table.Table.{Table}
use Rattle.mg_faults.specs.Faults.{FaultCount, each_fault, failed_writes, tells_rise}
use Rattle.mg_records.specs.Meaning.{Means}
use Rattle.mg_records.specs.Keeping.{CommitsStay, Elapses, FaultsGrow, TablesStay, WalksStay, WriteFailed}

-- one of the two counts of its disk's faults
abbrev pub fault_count : {R P : Type 0} → Means R P → FaultCount → R → ℕ
fault_count m each_fault r = m.faults r
fault_count m failed_writes r = m.failed_writes r

-- The cause of a refusal that is answered after some calls: a fault of the disk, damage or want of
-- pages since then, which names the page limit; or a page write had failed before, or did since then.
abbrev pub Blames : {R P : Type 0} → Means R P → R → R → Option Refusal → Type 0
Blames m old new (Some (DiskRead count)) = Rose (m.faults old) (m.faults new)
Blames m old new (Some (DiskWrite count)) = WriteFailed m old new
Blames m old new (Some (Damaged page field found wanted)) = Rose (m.damage old) (m.damage new)
Blames m old new (Some (DatabaseFull limit)) = Rose (m.shortages old) (m.shortages new) × (limit ≡ m.page_limit old)
Blames m old new (Some (Offline count)) =
    (m.down old ≡ Some count) ⊎ WriteFailed m old new
Blames m old new refusal = Unit {0}

-- What calls for a transaction keep, and why the refusal that they answer came.
pub record Frames {R P : Type 0} (m : Means R P) (old new : R) (t : ℕ) (refusal : Option Refusal)
    : Type 0 where
  pub faults : FaultsGrow m old new
  -- a fault of the disk is told, and as what it is
  pub steady : (k : FaultCount) → tells_rise k refusal ≡ false → fault_count m k new ≡ fault_count m k old
  pub damage : m.damage old ≤ m.damage new
  pub shortages : m.shortages old ≤ m.shortages new
  pub cause : Blames m old new refusal
  pub down : (m.down new ≡ m.down old) ⊎ WriteFailed m old new
  pub tells : m.tells new ≡ m.tells old
  pub most_writes : m.most_writes new ≡ m.most_writes old
  pub page_limit : m.page_limit new ≡ m.page_limit old
  pub time : m.tells old ≡ true → Elapses m old new
  pub sizes : (size : ℕ) → m.is_size new size ≡ m.is_size old size
  pub given : (table : Table) → m.was_given old table → m.was_given new table
  pub places : (table : Table) (place : P) → m.is_place old table place → m.is_place new table place
  -- the tables that other transactions see stay, their walks go on, and their commits
  pub tables : TablesStay m old new (Some t)
  pub walks : WalksStay m old new (Some t)
  pub commits : CommitsStay m old new (Some t)
