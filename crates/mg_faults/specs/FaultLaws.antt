-- What is told of two refusals, of which the worse is answered.
use Rattle.std.specs.Prelude.{◌≡◌, Bool, true, false, not, ◌&&◌, Option, None, Some, if◌then◌else◌}
use Rattle.std.proofs.Common.{refl, sym, ◌∙◌}
use Rattle.std.proofs.lemmas.Bool.{false≢true}
use Rattle.mg_model.specs.declared.refusal.Refusal.{Refusal}
use Rattle.mg_model.specs.declared.refusal.Refusal.TheVariants.{DiskRead, DiskWrite}
use Rattle.mg_faults.specs.Faults.{FaultCount, each_fault, failed_writes, tells_failed_write, tells_fault, tells_rise, worse}

-- where no fault is told, neither count has risen
pub none_told : (k : FaultCount) (refusal : Option Refusal) → tells_fault refusal ≡ false → tells_rise k refusal ≡ false
none_told each_fault refusal quiet = quiet
none_told failed_writes None quiet = refl
none_told failed_writes (Some (DiskRead count)) quiet = refl
none_told failed_writes (Some (DiskWrite count)) quiet = quiet
none_told failed_writes (Some refusal) quiet = refl

-- a failed page write is a fault
pub write_told : (k : FaultCount) (refusal : Option Refusal) → tells_failed_write refusal ≡ true → tells_rise k refusal ≡ true
write_told failed_writes refusal told = told
write_told each_fault None told = told
write_told each_fault (Some (DiskRead count)) told = refl
write_told each_fault (Some (DiskWrite count)) told = refl
write_told each_fault (Some refusal) told = told

-- what the worse of two does not tell neither of them tells
pub worse_tells : (k : FaultCount) (first later : Refusal) → tells_rise k (Some (worse first later)) ≡ false
    → (tells_rise k (Some first) ≡ false) × (tells_rise k (Some later) ≡ false)
worse_tells k first later quiet = at (tells_fault (Some first)) (tells_failed_write (Some later)) refl refl quiet
  where
    -- a fault was told first, and no failed page write later
    read_first : (k : FaultCount) → tells_fault (Some first) ≡ true → tells_failed_write (Some later) ≡ false
        → tells_rise k (Some first) ≡ false → tells_rise k (Some later) ≡ false
    read_first each_fault told none not_ = absurd (false≢true (sym not_ ∙ told))
    read_first failed_writes told none not_ = none

    at : (a b : Bool) → tells_fault (Some first) ≡ a → tells_failed_write (Some later) ≡ b
        → tells_rise k (Some (if a && not b then first else later)) ≡ false
        → (tells_rise k (Some first) ≡ false) × (tells_rise k (Some later) ≡ false)
    at true true told wrote not_ = absurd (false≢true (sym not_ ∙ write_told k (Some later) wrote))
    at true false told none not_ = (not_, read_first k told none not_)
    at false b told wrote not_ = (none_told k (Some first) told, not_)
