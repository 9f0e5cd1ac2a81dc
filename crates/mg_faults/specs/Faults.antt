-- Which refusals tell a fault of the disk, and which of two is answered.
use Rattle.std.specs.Prelude.{Bool, true, false, not, ◌&&◌, Option, Some, if◌then◌else◌}
use Rattle.mg_model.specs.declared.refusal.Refusal.{Refusal}
use Rattle.mg_model.specs.declared.refusal.Refusal.TheVariants.{DiskRead, DiskWrite}

-- what is counted of a disk: how often it failed, and how often that was a page write or its settling
pub data FaultCount : Type 0 where
  each_fault : FaultCount
  failed_writes : FaultCount

-- a read that failed is counted among the faults alone
abbrev pub counts_reads : FaultCount → Bool
counts_reads each_fault = true
counts_reads failed_writes = false

-- a refusal tells that a count rose in the call; where there is none, nothing is told
abbrev pub tells_rise : FaultCount → Option Refusal → Bool
tells_rise k (Some (DiskRead count)) = counts_reads k
tells_rise k (Some (DiskWrite count)) = true
tells_rise k refusal = false

-- that the disk failed in the call
abbrev pub tells_fault : Option Refusal → Bool
tells_fault refusal = tells_rise each_fault refusal

-- that a page write failed in the call, or its settling
abbrev pub tells_failed_write : Option Refusal → Bool
tells_failed_write refusal = tells_rise failed_writes refusal

-- what is answered where a call was refused first, and what was to take it back later: the later refusal, but a fault
-- of the disk stays told; a failed read is not told where a page write failed behind it
abbrev pub worse : Refusal → Refusal → Refusal
worse first later =
    if tells_fault (Some first) && not (tells_failed_write (Some later)) then first else later
