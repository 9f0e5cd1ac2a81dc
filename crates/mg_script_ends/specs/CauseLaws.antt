-- Refusals with their causes: earlier calls and later ones take nothing from them.
use Rattle.std.specs.Prelude.{◌≡◌, ◌≤◌, ◌⊎◌, ◌-◌, ◌^◌, ℕ, List, [], ◌∷◌, ◌++◌, Option, None, Some}
use Rattle.std.proofs.Common.{inl, inr, arith}
use Rattle.mg_base.specs.Disk.{Rose}
use Rattle.mg_model.specs.declared.refusal.Refusal.{Refusal}
use Rattle.mg_model.specs.declared.refusal.Refusal.TheVariants.{DatabaseFull, DiskRead, DiskWrite, Offline, Damaged}
use Rattle.mg_records.specs.Meaning.{Means}
use Rattle.mg_calls.specs.FrameLaws.{failed_before}
use Rattle.mg_calls.specs.Frames.{Blames}
use Rattle.mg_sessions.specs.AccountLaws.{account_blames}
use Rattle.mg_sessions.specs.Accounts.{Accounts}
use Rattle.mg_script_ends.specs.Ends.{AreCaused}

at_most : (a b c : ℕ) → a ≤ b → b ≤ c → a ≤ c
at_most a b c first second = omega (arith, first, second)

rose_then : (a b c : ℕ) → Rose a b → b ≤ c → Rose a c
rose_then a b c (inl is) le = inl (omega (arith, is, le))
rose_then a b c (inr is) le = inr (at_most (2 ^ 64 - 1) b c is le)

module _ {R P : Type 0} (m : Means R P) (old mid new : R) where
  -- the counts never fall, so a cause stays one
  caused_once : (x : Option Refusal) → Accounts m mid new x → (refusal : Refusal) → Blames m old mid (Some refusal)
      → Blames m old new (Some refusal)
  caused_once x later (DiskRead count) cause =
      rose_then (m.faults old) (m.faults mid) (m.faults new) cause later.faults.0
  caused_once x later (DiskWrite count) cause = failed_before m old mid new cause later.faults
  caused_once x later (Damaged page field found wanted) cause =
      rose_then (m.damage old) (m.damage mid) (m.damage new) cause later.damage
  caused_once x later (DatabaseFull limit) cause =
      (rose_then (m.shortages old) (m.shortages mid) (m.shortages new) cause.0 later.shortages, cause.1)
  caused_once x later (Offline count) (inl down) = inl down
  caused_once x later (Offline count) (inr rose) = inr (failed_before m old mid new rose later.faults)
  caused_once x later refusal cause = tt

  -- later calls
  pub caused_then : (x : Option Refusal) → Accounts m mid new x → (refusals : List Refusal)
      → AreCaused m old mid refusals → AreCaused m old new refusals
  caused_then x later [] are = tt
  caused_then x later (refusal ∷ more) are =
      (caused_once x later refusal are.0, caused_then x later more are.1)

  -- earlier calls
  pub caused_since : (x y : Option Refusal) → Accounts m old mid x → Accounts m mid new y → (refusals : List Refusal)
      → AreCaused m mid new refusals → AreCaused m old new refusals
  caused_since x y first later [] are = tt
  caused_since x y first later (refusal ∷ more) are = (
    account_blames m old mid new x (Some refusal) first later.faults are.0,
    caused_since x y first later more are.1,
  )

-- one more behind them
pub caused_also : {R P : Type 0} (m : Means R P) (old new : R) (refusals : List Refusal) (refusal : Refusal)
    → AreCaused m old new refusals → Blames m old new (Some refusal) → AreCaused m old new (refusals ++ refusal ∷ [])
caused_also m old new [] refusal are cause = (cause, tt)
caused_also m old new (x ∷ more) refusal are cause = (are.0, caused_also m old new more refusal are.1 cause)
