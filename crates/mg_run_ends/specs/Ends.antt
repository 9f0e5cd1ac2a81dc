-- How a run ends: its status, and what is printed of a fault outside the lines.
use Rattle.std.specs.Prelude.{◌≡◌, ◌⊎◌, ℕ, Bool, true, false, List, [], ◌∷◌, ◌++◌, Option, None, Some, codes}
use Rattle.mg_base.specs.Disk.{FailsNoWrite, Meaning, Rose}
use Rattle.mg_model.specs.declared.refusal.Refusal.{Refusal}
use Rattle.mg_model.specs.declared.refusal.Refusal.TheVariants as refusals
use Rattle.mg_script.specs.Texts.{outside_text}
use Rattle.mg_run_ends.specs.declared.ending.RunEnd.{RunEnd}
use Rattle.mg_run_ends.specs.declared.ending.RunEnd.TheVariants.{Whole, InLine, Outside, Stream, ScriptTooLong}
use Rattle.mg_run_ends.specs.declared.status.Status.{Status}

abbrev pub status : ℕ → Status
status number = record { 0 = number }

-- the status of a run that a refusal has ended: 3 for the disk, 4 for what it holds, 6 for want of memory
abbrev pub refused_status : Refusal → Status
refused_status (refusals.DiskRead faults) = status 3
refused_status (refusals.DiskWrite faults) = status 3
refused_status (refusals.Offline faults) = status 3
refused_status (refusals.NotADatabase field found) = status 4
refused_status (refusals.Damaged page field found wanted) = status 4
refused_status refusals.Memory = status 6
refused_status refusal = status 1

abbrev pub status_of : RunEnd → Status
status_of (Whole true) = status 0
status_of (Whole false) = status 1
status_of (InLine refusal) = refused_status refusal
status_of (Outside refusal) = refused_status refusal
status_of Stream = status 5
status_of ScriptTooLong = status 7

-- the line behind all others, that says why a run has ended; of a fault within a line the transcript tells
abbrev pub last_line : RunEnd → List ℕ
last_line (Whole fine) = []
last_line (InLine refusal) = []
last_line (Outside refusal) = outside_text refusal
last_line Stream = []
last_line ScriptTooLong = codes "mgdb: SCRIPT TOO LONG" ++ (10 ∷ [])

-- the line of such a refusal is fixed, and takes no memory
abbrev pub has_fixed_line : Refusal → Bool
has_fixed_line (refusals.DiskRead faults) = true
has_fixed_line (refusals.DiskWrite faults) = true
has_fixed_line (refusals.Offline faults) = true
has_fixed_line refusals.Memory = true
has_fixed_line refusal = false

-- a refusal outside the lines ends the run; or there is no memory for its line, and that ends it
abbrev pub IsOutside : Refusal → RunEnd → Type 0
IsOutside refusal end =
    (end ≡ Outside refusal) ⊎ ((has_fixed_line refusal ≡ false) × (end ≡ Outside refusals.Memory))

-- A refusal by the disk comes only where its count of faults rose, and any other only where it stands. A read fault is
-- told only where no page write failed, nor the settling; a write fault, and that the disk is offline, only where one did.
abbrev pub FailsWith : {D : Type 0} → Meaning D → D → D → Refusal → Type 0
FailsWith m old new (refusals.DiskRead faults) = Rose (m.faults old) (m.faults new) × FailsNoWrite m old new
FailsWith m old new (refusals.DiskWrite faults) =
    Rose (m.faults old) (m.faults new) × Rose (m.failed_writes old) (m.failed_writes new)
FailsWith m old new (refusals.Offline faults) =
    Rose (m.faults old) (m.faults new) × Rose (m.failed_writes old) (m.failed_writes new)
FailsWith m old new refusal = m.faults new ≡ m.faults old

-- where nothing was refused, it stands
abbrev pub FailsBy : {D : Type 0} → Meaning D → D → D → Option Refusal → Type 0
FailsBy m old new None = m.faults new ≡ m.faults old
FailsBy m old new (Some refusal) = FailsWith m old new refusal

-- so an end by a refusal comes, and any other end
abbrev pub EndsWith : {D : Type 0} → Meaning D → D → D → RunEnd → Type 0
EndsWith m old new (InLine refusal) = FailsWith m old new refusal
EndsWith m old new (Outside refusal) = FailsWith m old new refusal
EndsWith m old new end = m.faults new ≡ m.faults old
