-- What the answer of a call tells of the pool's faults.
use Rattle.std.specs.Prelude.{◌≡◌, ℕ, ◌+◌, ◌-◌, ◌^◌, min, Some, None, Result, Ok, Err}
use Rattle.mg_base.specs.Disk.{FailsNoWrite, Meaning, Rose}
use Rattle.mg_pool.specs.declared.pool.Pool.{Pool}
use Rattle.mg_pool.specs.declared.fault.PoolFault.{PoolFault}
use Rattle.mg_pool.specs.declared.fault.PoolFault.TheVariants.{DiskRead, DiskWrite, Offline, Absent, Memory}

-- the pool's own count of faults, that of its disk, and how many of those were of page writes or of settling
abbrev pub fault_counts : {D L : Type 0} → Meaning D → Pool D L → ℕ × ℕ × ℕ
fault_counts m pool = (pool.faults, m.faults pool.disk, m.failed_writes pool.disk)

-- the pool counted no fault, and its disk's counts stand
abbrev pub MeetsNoFault : {D L : Type 0} → Meaning D → Pool D L → Pool D L → Type 0
MeetsNoFault m old new = fault_counts m new ≡ fault_counts m old

-- the pool was not refused before, isn't from now on, and met no fault
abbrev pub StaysOnline : {D L : Type 0} → Meaning D → Pool D L → Pool D L → Type 0
StaysOnline m old new = (old.offline ≡ None) × (new.offline ≡ None) × MeetsNoFault m old new

-- the disk's count of faults rose in the call, and the pool counted one fault, which it tells
abbrev pub Counts : {D L : Type 0} → Meaning D → Pool D L → Pool D L → ℕ → Type 0
Counts m old new n = (new.faults ≡ n) × (n ≡ min (old.faults + 1) (2 ^ 64 - 1))
    × Rose (m.faults old.disk) (m.faults new.disk)

-- Offline comes exactly where an earlier call answered DiskWrite, with the count that was told
-- then. DiskRead and DiskWrite come exactly where the disk's count of faults rose in the call: DiskRead where
-- no page write failed, nor a settling, and DiskWrite where one did.
abbrev pub TellsFault : {D L T : Type 0} → Meaning D → Pool D L → Pool D L → Result T PoolFault
    → Type 0
TellsFault m old new (Ok x) = StaysOnline m old new
TellsFault m old new (Err (DiskRead n)) =
    (old.offline ≡ None) × (new.offline ≡ None) × Counts m old new n × FailsNoWrite m old.disk new.disk
TellsFault m old new (Err (DiskWrite n)) =
    (old.offline ≡ None) × (new.offline ≡ Some n) × Counts m old new n
    × Rose (m.failed_writes old.disk) (m.failed_writes new.disk)
TellsFault m old new (Err (Offline n)) =
    (old.offline ≡ Some n) × (new.offline ≡ Some n) × MeetsNoFault m old new
TellsFault m old new (Err (Absent pages)) = StaysOnline m old new
TellsFault m old new (Err Memory) = StaysOnline m old new

-- a call that reads nothing and takes no memory tells no other faults than these two
abbrev pub OnlyWrites : {T : Type 0} → Result T PoolFault → Type 0
OnlyWrites (Ok x) = Unit {0}
OnlyWrites (Err (DiskRead n)) = ⊥
OnlyWrites (Err (DiskWrite n)) = Unit {0}
OnlyWrites (Err (Offline n)) = Unit {0}
OnlyWrites (Err (Absent pages)) = ⊥
OnlyWrites (Err Memory) = ⊥

-- a refusal is Offline and nothing else
abbrev pub OnlyRefuses : {T : Type 0} → Result T PoolFault → Type 0
OnlyRefuses (Ok x) = Unit {0}
OnlyRefuses (Err (DiskRead n)) = ⊥
OnlyRefuses (Err (DiskWrite n)) = ⊥
OnlyRefuses (Err (Offline n)) = Unit {0}
OnlyRefuses (Err (Absent pages)) = ⊥
OnlyRefuses (Err Memory) = ⊥
