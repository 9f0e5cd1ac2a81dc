-- One call, several calls, and none.
use Rattle.std.specs.Prelude.{◌≡◌, ◌⊎◌, ◌-◌, ◌^◌, ℕ, ◌≤◌, false, Option, Some, None, refl}
use Rattle.std.proofs.Common.{inl, inr, sym, ◌∙◌, arith}
use Rattle.mg_base.specs.Disk.{Rose}
use Rattle.mg_model.specs.declared.refusal.Refusal.{Refusal}
use Rattle.mg_model.specs.declared.refusal.Refusal.TheVariants.{DatabaseFull, DiskRead, DiskWrite, Offline, Damaged}
use Rattle.mg_faults.specs.FaultLaws.{none_told}
use Rattle.mg_faults.specs.Faults.{tells_fault}
use Rattle.mg_records.specs.Keeping.{FaultsGrow, WriteFailed}
use Rattle.mg_records.specs.Meaning.{Means}
use Rattle.mg_calls.specs.FrameLaws.{blames_first, failed_before, failed_behind, goes_down, grow_then}
use Rattle.mg_calls.specs.Frames.{Blames, Frames}
use Rattle.mg_sessions.specs.Accounts.{Accounts}

pub account_of : {R P : Type 0} (m : Means R P) (old new : R) (t : ℕ) (refusal : Option Refusal)
    → Frames m old new t refusal → Accounts m old new refusal
account_of m old new t refusal frames = record {
  faults = frames.faults;
  steady = frames.steady;
  damage = frames.damage;
  shortages = frames.shortages;
  cause = frames.cause;
  down = frames.down;
  most_writes = frames.most_writes;
  page_limit = frames.page_limit;
  sizes = frames.sizes;
}

-- no call was made
pub no_account : {R P : Type 0} (m : Means R P) (r : R) (refusal : Option Refusal)
    → Blames m r r refusal → Accounts m r r refusal
no_account m r refusal cause = record {
  faults = (omega arith, omega arith);
  steady = λ k quiet. refl;
  damage = omega arith;
  shortages = omega arith;
  cause = cause;
  down = inl refl;
  most_writes = refl;
  page_limit = refl;
  sizes = λ size. refl;
}

-- ---- several calls

at_most : (a b c : ℕ) → a ≤ b → b ≤ c → a ≤ c
at_most a b c first second = omega (arith, first, second)

then_rose : (a b c : ℕ) → a ≤ b → Rose b c → Rose a c
then_rose a b c le (inl is) = inl (omega (arith, is, le))
then_rose a b c le (inr is) = inr is

blamed_last : {R P : Type 0} (m : Means R P) (old mid new : R) (refusal : Option Refusal)
    → FaultsGrow m old mid → m.damage old ≤ m.damage mid → m.shortages old ≤ m.shortages mid
    → FaultsGrow m mid new
    → (m.down mid ≡ m.down old) ⊎ WriteFailed m old mid → m.page_limit mid ≡ m.page_limit old
    → Blames m mid new refusal → Blames m old new refusal
blamed_last m old mid new None f d s g down limits cause = tt
blamed_last m old mid new (Some (DiskRead count)) f d s g down limits cause =
    then_rose (m.faults old) (m.faults mid) (m.faults new) f.0 cause
blamed_last m old mid new (Some (DiskWrite count)) f d s g down limits cause = failed_behind m old mid new f cause
blamed_last m old mid new (Some (Damaged page field found wanted)) f d s g down limits cause =
    then_rose (m.damage old) (m.damage mid) (m.damage new) d cause
blamed_last m old mid new (Some (DatabaseFull limit)) f d s g down limits cause =
    (then_rose (m.shortages old) (m.shortages mid) (m.shortages new) s cause.0, cause.1 ∙ limits)
blamed_last m old mid new (Some (Offline count)) f d s g down limits cause = by down cause
  where
    by : (m.down mid ≡ m.down old) ⊎ WriteFailed m old mid
        → (m.down mid ≡ Some count) ⊎ WriteFailed m mid new
        → (m.down old ≡ Some count) ⊎ WriteFailed m old new
    by (inl same) (inl is) = inl (sym same ∙ is)
    by (inr rose) is = inr (failed_before m old mid new rose g)
    by (inl same) (inr rose) = inr (failed_behind m old mid new f rose)
blamed_last m old mid new (Some refusal) f d s g down limits cause = tt

-- the cause of what the second of two answers
pub account_blames : {R P : Type 0} (m : Means R P) (old mid new : R) (a refusal : Option Refusal)
    → Accounts m old mid a → FaultsGrow m mid new → Blames m mid new refusal → Blames m old new refusal
account_blames m old mid new a refusal first later cause =
    blamed_last m old mid new refusal first.faults first.damage first.shortages later first.down first.page_limit
    cause

-- the second of two says what is answered, and the first has told no fault
pub account_then : {R P : Type 0} (m : Means R P) (old mid new : R) (a refusal : Option Refusal)
    → tells_fault a ≡ false → Accounts m old mid a → Accounts m mid new refusal → Accounts m old new refusal
account_then m old mid new a refusal quiet first second = record {
  faults = grow_then m old mid new first.faults second.faults;
  steady = λ k told. second.steady k told ∙ first.steady k (none_told k a quiet);
  damage = at_most (m.damage old) (m.damage mid) (m.damage new) first.damage second.damage;
  shortages = at_most (m.shortages old) (m.shortages mid) (m.shortages new) first.shortages second.shortages;
  cause = account_blames m old mid new a refusal first second.faults second.cause;
  down = goes_down m old mid new first.faults second.faults first.down second.down;
  most_writes = second.most_writes ∙ first.most_writes;
  page_limit = second.page_limit ∙ first.page_limit;
  sizes = λ size. second.sizes size ∙ first.sizes size;
}

-- behind lines that were not refused
pub account_after : {R P : Type 0} (m : Means R P) (old mid new : R) (refusal : Option Refusal)
    → Accounts m old mid None → Accounts m mid new refusal → Accounts m old new refusal
account_after m old mid new refusal first second = account_then m old mid new None refusal refl first second

-- the first of two says what is answered, and the second has told no fault
pub account_first : {R P : Type 0} (m : Means R P) (old mid new : R) (refusal b : Option Refusal)
    → tells_fault b ≡ false → Accounts m old mid refusal → Accounts m mid new b → Accounts m old new refusal
account_first m old mid new refusal b quiet first second = record {
  faults = grow_then m old mid new first.faults second.faults;
  steady = λ k told. second.steady k (none_told k b quiet) ∙ first.steady k told;
  damage = at_most (m.damage old) (m.damage mid) (m.damage new) first.damage second.damage;
  shortages = at_most (m.shortages old) (m.shortages mid) (m.shortages new) first.shortages second.shortages;
  cause = blames_first m old mid new refusal second.faults second.damage second.shortages first.cause;
  down = goes_down m old mid new first.faults second.faults first.down second.down;
  most_writes = second.most_writes ∙ first.most_writes;
  page_limit = second.page_limit ∙ first.page_limit;
  sizes = λ size. second.sizes size ∙ first.sizes size;
}

-- a refusal that tells no fault is not told on
pub untold_account : {R P : Type 0} (m : Means R P) (old new : R) (refusal : Option Refusal)
    → tells_fault refusal ≡ false → Accounts m old new refusal → Accounts m old new None
untold_account m old new refusal quiet accounts = record {
  faults = accounts.faults;
  steady = λ k told. accounts.steady k (none_told k refusal quiet);
  damage = accounts.damage;
  shortages = accounts.shortages;
  cause = tt;
  down = accounts.down;
  most_writes = accounts.most_writes;
  page_limit = accounts.page_limit;
  sizes = accounts.sizes;
}
