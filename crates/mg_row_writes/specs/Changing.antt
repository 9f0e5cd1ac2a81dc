-- A row is changed in a batch of its own.
use Rattle.std.specs.Prelude.{ℕ}
use Rattle.mg_base.specs.Disk.{Meaning}
use Rattle.mg_base.specs.declared.numbers.RecId.{RecId}
use Rattle.mg_batches.specs.Batches.{ChangesOwn, FailsOwn, nothing_yet}
use Rattle.mg_chain.specs.Writing.{GivesSpot, MakesRecord, Pushes, Replaces, TakesOut}
use Rattle.mg_chain.specs.WritingRefusals.{RefusesBackOut, RefusesFirst, RefusesPush, RefusesReplace, RefusesSpot}
use Rattle.mg_pool.specs.declared.pool.Pool.{Pool}
use Rattle.mg_space.specs.declared.fault.SpaceFault.{SpaceFault}
use Rattle.mg_space.specs.declared.links.FireLinks.{FireLinks}
use Rattle.mg_version.specs.declared.cell.Version.{Version}

-- a place for a record is taken
abbrev pub TakesPlace : {D : Type 0} → Meaning D → Pool D FireLinks → Pool D FireLinks → ℕ → RecId → Type 0
TakesPlace m before after owner at =
    ChangesOwn m before after (λ image batch. GivesSpot before image nothing_yet batch owner at)

abbrev pub FailsPlace : {D : Type 0} → Meaning D → Pool D FireLinks → Pool D FireLinks → ℕ → SpaceFault → Type 0
FailsPlace m before after owner fault =
    FailsOwn m before after (λ image batch. (at : RecId) × GivesSpot before image nothing_yet batch owner at)
    (λ image f. RefusesSpot m before after image nothing_yet owner f) fault

-- a record is made at a place, with its first version
abbrev pub MakesFirst : {D : Type 0} → Meaning D → Pool D FireLinks → Pool D FireLinks → ℕ → RecId → Version
    → Type 0
MakesFirst m before after owner at v =
    ChangesOwn m before after (λ image batch. MakesRecord before image nothing_yet batch owner at v)

abbrev pub FailsFirst : {D : Type 0} → Meaning D → Pool D FireLinks → Pool D FireLinks → ℕ → RecId → Version
    → SpaceFault → Type 0
FailsFirst m before after owner at v fault =
    FailsOwn m before after (λ image batch. MakesRecord before image nothing_yet batch owner at v)
    (λ image f. RefusesFirst m before after image nothing_yet owner at v f) fault

-- a version is pushed over the newest one
abbrev pub PushesOver : {D : Type 0} → Meaning D → Pool D FireLinks → Pool D FireLinks → RecId → Version → Type 0
PushesOver m before after rec v =
    ChangesOwn m before after (λ image batch. Pushes before image nothing_yet batch rec v)

abbrev pub FailsOver : {D : Type 0} → Meaning D → Pool D FireLinks → Pool D FireLinks → RecId → Version
    → SpaceFault → Type 0
FailsOver m before after rec v fault =
    FailsOwn m before after (λ image batch. Pushes before image nothing_yet batch rec v)
    (λ image f. RefusesPush m before after image nothing_yet rec v f) fault

-- a transaction's own newest version is replaced
abbrev pub ReplacesNewest : {D : Type 0} → Meaning D → Pool D FireLinks → Pool D FireLinks → RecId → Version
    → Type 0
ReplacesNewest m before after rec v =
    ChangesOwn m before after (λ image batch. Replaces before image nothing_yet batch rec v)

abbrev pub FailsReplacing : {D : Type 0} → Meaning D → Pool D FireLinks → Pool D FireLinks → RecId → Version
    → SpaceFault → Type 0
FailsReplacing m before after rec v fault =
    FailsOwn m before after (λ image batch. Replaces before image nothing_yet batch rec v)
    (λ image f. RefusesReplace m before after image nothing_yet rec v f) fault

-- the newest version is taken out
abbrev pub TakesNewestOut : {D : Type 0} → Meaning D → Pool D FireLinks → Pool D FireLinks → RecId → Type 0
TakesNewestOut m before after rec =
    ChangesOwn m before after (λ image batch. TakesOut before image nothing_yet batch rec)

abbrev pub FailsTakingOut : {D : Type 0} → Meaning D → Pool D FireLinks → Pool D FireLinks → RecId → SpaceFault
    → Type 0
FailsTakingOut m before after rec fault =
    FailsOwn m before after (λ image batch. TakesOut before image nothing_yet batch rec)
    (λ image f. RefusesBackOut m before after image nothing_yet rec f) fault
