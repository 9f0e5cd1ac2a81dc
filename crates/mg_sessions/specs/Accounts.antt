-- What lines leave of the keeper as a whole, whatever they do.
use Rattle.std.specs.Prelude.{◌≡◌, ◌⊎◌, ℕ, ◌≤◌, false, Option}
use Rattle.mg_model.specs.declared.refusal.Refusal.{Refusal}
use Rattle.mg_faults.specs.Faults.{FaultCount, tells_rise}
use Rattle.mg_records.specs.Keeping.{FaultsGrow, WriteFailed}
use Rattle.mg_records.specs.Meaning.{Means}
use Rattle.mg_calls.specs.Frames.{Blames, fault_count}

-- Counts never fall, and the refusal that is answered has its cause in them; where it tells no fault of the disk, there
-- was none, and where it tells no failed page write, none failed.
pub record Accounts {R P : Type 0} (m : Means R P) (old new : R) (refusal : Option Refusal) : Type 0
  where
    pub faults : FaultsGrow m old new
    pub steady : (k : FaultCount) → tells_rise k refusal ≡ false → fault_count m k new ≡ fault_count m k old
    pub damage : m.damage old ≤ m.damage new
    pub shortages : m.shortages old ≤ m.shortages new
    pub cause : Blames m old new refusal
    pub down : (m.down new ≡ m.down old) ⊎ WriteFailed m old new
    pub most_writes : m.most_writes new ≡ m.most_writes old
    pub page_limit : m.page_limit new ≡ m.page_limit old
    pub sizes : (size : ℕ) → m.is_size new size ≡ m.is_size old size
