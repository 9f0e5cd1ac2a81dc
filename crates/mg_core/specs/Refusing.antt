-- Faults of the cache as refusals.
use Rattle.std.specs.Prelude.{◌≡◌, ◌+◌, ◌-◌, ◌^◌, ℕ, min}
use Rattle.mg_base.specs.declared.damage.Field.TheVariants.{Presence}
use Rattle.mg_model.specs.declared.refusal.Refusal.{Refusal}
use Rattle.mg_model.specs.declared.refusal.Refusal.TheVariants as refusals
use Rattle.mg_pool.specs.declared.fault.PoolFault.{PoolFault}
use Rattle.mg_pool.specs.declared.fault.PoolFault.TheVariants as faults
use Rattle.mg_space.specs.declared.fault.SpaceFault.{SpaceFault}
use Rattle.mg_space.specs.declared.fault.SpaceFault.TheVariants as space

-- the refusal that a fault of the cache is; an absent page is told as damage, and never so
abbrev pub IsRefusalOf : PoolFault → Refusal → Type 0
IsRefusalOf (faults.DiskRead n) refusal = refusal ≡ refusals.DiskRead n
IsRefusalOf (faults.DiskWrite n) refusal = refusal ≡ refusals.DiskWrite n
IsRefusalOf (faults.Offline n) refusal = refusal ≡ refusals.Offline n
IsRefusalOf (faults.Absent n) refusal = ⊥
IsRefusalOf faults.Memory refusal = refusal ≡ refusals.Memory

-- it is told for want of pages
abbrev pub IsFull : Refusal → Type 0
IsFull (refusals.DatabaseFull limit) = Unit {0}
IsFull refusal = ⊥

-- The refusal that a fault of a call on the pages is; an absent page of the cache's is damage, too. Which page limit want
-- of pages names is said by `NamesLimit`.
abbrev pub IsRefusal : SpaceFault → Refusal → Type 0
IsRefusal (space.Full most) refusal = IsFull refusal
IsRefusal (space.Damaged damage) refusal =
    refusal ≡ refusals.Damaged damage.page damage.field damage.found damage.wanted
IsRefusal (space.Pool (faults.Absent pages)) refusal =
    refusal ≡ refusals.Damaged (record { 0 = 0 }) Presence pages pages
IsRefusal (space.Pool fault) refusal = IsRefusalOf fault refusal

-- want of pages names the page limit
abbrev pub NamesLimit : ℕ → Refusal → Type 0
NamesLimit limit (refusals.DatabaseFull named) = named ≡ limit
NamesLimit limit refusal = Unit {0}

-- a count has risen by one, but for one that stands at its end
abbrev pub OneMore : ℕ → ℕ → Type 0
OneMore old new = new ≡ min (old + 1) (2 ^ 64 - 1)

-- damage is counted, and so is want of pages
abbrev pub CountsFault : SpaceFault → ℕ → ℕ → ℕ → ℕ → Type 0
CountsFault (space.Full limit) damage now shortages later = (now ≡ damage) × OneMore shortages later
CountsFault (space.Damaged d) damage now shortages later = OneMore damage now × (later ≡ shortages)
CountsFault (space.Pool (faults.Absent n)) damage now shortages later = OneMore damage now × (later ≡ shortages)
CountsFault (space.Pool fault) damage now shortages later = (now ≡ damage) × (later ≡ shortages)
