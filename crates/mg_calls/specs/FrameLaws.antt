-- What one call leaves, and what several calls leave together.
use Rattle.std.proofs.Common.{◌≡◌, ℕ, ◌-◌, ◌^◌, ◌≤◌, false, Option, Some, None, inl, inr, refl, sym, ◌∙◌, arith}
use Rattle.std.specs.Prelude.{◌⊎◌}
use Rattle.mg_base.specs.Disk.{Rose}
use Rattle.mg_model.specs.declared.refusal.Refusal.{Refusal}
use Rattle.mg_model.specs.declared.refusal.Refusal.TheVariants.{DatabaseFull, DiskRead, DiskWrite, Offline, Damaged}
use Rattle.mg_faults.specs.Faults.{FaultCount, each_fault, failed_writes, tells_rise}
use Rattle.mg_records.specs.Meaning.{Means}
use Rattle.mg_records.specs.Keeping.{Causes, CommitsStay, Elapses, FaultsAreTold, FaultsGrow, Keeps, Leaves, Reads, TablesStay, WalksStay, WriteFailed, down_after}
use Rattle.mg_calls.specs.Frames.{Blames, Frames, fault_count}

-- ---- one call

blamed : {R P : Type 0} (m : Means R P) (old new : R) (refusal : Option Refusal)
    → Causes m old new refusal → Blames m old new refusal
blamed m old new None cause = tt
blamed m old new (Some (DiskRead count)) cause = cause
blamed m old new (Some (DiskWrite count)) cause = cause
blamed m old new (Some (Damaged page field found wanted)) cause = cause
blamed m old new (Some (DatabaseFull limit)) cause = cause
blamed m old new (Some (Offline count)) cause = inl cause
blamed m old new (Some refusal) cause = tt

fallen : {R P : Type 0} (m : Means R P) (old new : R) (refusal : Option Refusal)
    → Causes m old new refusal → m.down new ≡ down_after (m.down old) refusal
    → (m.down new ≡ m.down old) ⊎ WriteFailed m old new
fallen m old new None cause down = inl down
fallen m old new (Some (DiskWrite count)) cause down = inr cause
fallen m old new (Some refusal) cause down = inl down

steady_by : {R P : Type 0} (m : Means R P) (old new : R) (refusal : Option Refusal) → FaultsAreTold m old new refusal
    → (k : FaultCount) → tells_rise k refusal ≡ false → fault_count m k new ≡ fault_count m k old
steady_by m old new refusal told each_fault quiet = told.0 quiet
steady_by m old new refusal told failed_writes quiet = told.1 quiet

framed : {R P : Type 0} (m : Means R P) (old new : R) (t : ℕ) (refusal : Option Refusal)
    → Keeps m old new refusal → FaultsAreTold m old new refusal → TablesStay m old new (Some t)
    → WalksStay m old new (Some t) → CommitsStay m old new (Some t) → Frames m old new t refusal
framed m old new t refusal keeps told tables walks commits = record {
  faults = keeps.faults;
  steady = steady_by m old new refusal told;
  damage = keeps.damage;
  shortages = keeps.shortages;
  cause = blamed m old new refusal keeps.cause;
  down = fallen m old new refusal keeps.cause keeps.down;
  tells = keeps.tells;
  most_writes = keeps.most_writes;
  page_limit = keeps.page_limit;
  time = keeps.time;
  sizes = keeps.sizes;
  given = keeps.given;
  places = keeps.places;
  tables = tables;
  walks = walks;
  commits = commits;
}

-- what stays for each transaction stays for all but one
tables_for : {R P : Type 0} (m : Means R P) (old new : R) (t : ℕ) → TablesStay m old new None
    → TablesStay m old new (Some t)
tables_for m old new t stay u name table other was = stay u name table refl was

walks_for : {R P : Type 0} (m : Means R P) (old new : R) (t : ℕ) → WalksStay m old new None
    → WalksStay m old new (Some t)
walks_for m old new t stay u table after rows other come = stay u table after rows refl come

commits_for : {R P : Type 0} (m : Means R P) (old new : R) (t : ℕ) → CommitsStay m old new None
    → CommitsStay m old new (Some t)
commits_for m old new t stay = record {
  asked = λ u other was. stay.asked u refl was;
  written = λ u other was. stay.written u refl was;
}

-- a call that adds no entry
pub frames_reads : {R P : Type 0} (m : Means R P) (old new : R) (t : ℕ) (refusal : Option Refusal)
    → Reads m old new refusal (Some t) → FaultsAreTold m old new refusal → Frames m old new t refusal
frames_reads m old new t refusal reads told =
    framed m old new t refusal reads.keeps told (tables_for m old new t reads.tables) reads.walks_stay
    reads.commits

pub frames_reads_nothing : {R P : Type 0} (m : Means R P) (old new : R) (t : ℕ)
    (refusal : Option Refusal) → Reads m old new refusal None → FaultsAreTold m old new refusal → Frames m old new t refusal
frames_reads_nothing m old new t refusal reads told =
    framed m old new t refusal reads.keeps told (tables_for m old new t reads.tables)
    (walks_for m old new t reads.walks_stay) (commits_for m old new t reads.commits)

-- a call that gives events, after which nothing, walks, or tables too of the transaction may be other
pub frames_leaves : {R P : Type 0} (m : Means R P) (old new : R) (t : ℕ) (refusal : Option Refusal)
    → Leaves m old new refusal None None → FaultsAreTold m old new refusal → Frames m old new t refusal
frames_leaves m old new t refusal leaves told =
    framed m old new t refusal leaves.keeps told (tables_for m old new t leaves.tables_stay)
    (walks_for m old new t leaves.walks_stay) (commits_for m old new t leaves.commits)

pub frames_writes : {R P : Type 0} (m : Means R P) (old new : R) (t : ℕ) (refusal : Option Refusal)
    → Leaves m old new refusal None (Some t) → FaultsAreTold m old new refusal → Frames m old new t refusal
frames_writes m old new t refusal leaves told =
    framed m old new t refusal leaves.keeps told (tables_for m old new t leaves.tables_stay)
    leaves.walks_stay leaves.commits

pub frames_changes : {R P : Type 0} (m : Means R P) (old new : R) (t : ℕ) (refusal : Option Refusal)
    → Leaves m old new refusal (Some t) (Some t) → FaultsAreTold m old new refusal → Frames m old new t refusal
frames_changes m old new t refusal leaves told =
    framed m old new t refusal leaves.keeps told leaves.tables_stay leaves.walks_stay leaves.commits

-- ---- two calls

at_most : (a b c : ℕ) → a ≤ b → b ≤ c → a ≤ c
at_most a b c less more = omega (arith, less, more)

rose_before : (a b c : ℕ) → Rose a b → b ≤ c → Rose a c
rose_before a b c (inl less) more = inl (omega (arith, less, more))
rose_before a b c (inr end) more = inr (at_most (2 ^ 64 - 1) b c end more)

rose_behind : (a b c : ℕ) → a ≤ b → Rose b c → Rose a c
rose_behind a b c less (inl more) = inl (omega (arith, less, more))
rose_behind a b c less (inr end) = inr end

pub grow_then : {R P : Type 0} (m : Means R P) (old mid new : R) → FaultsGrow m old mid → FaultsGrow m mid new → FaultsGrow m old new
grow_then m old mid new first second = (
  at_most (m.faults old) (m.faults mid) (m.faults new) first.0 second.0,
  at_most (m.failed_writes old) (m.failed_writes mid) (m.failed_writes new) first.1 second.1,
)

pub failed_before : {R P : Type 0} (m : Means R P) (old mid new : R) → WriteFailed m old mid → FaultsGrow m mid new
    → WriteFailed m old new
failed_before m old mid new rose more = (
  rose_before (m.faults old) (m.faults mid) (m.faults new) rose.0 more.0,
  rose_before (m.failed_writes old) (m.failed_writes mid) (m.failed_writes new) rose.1 more.1,
)

pub failed_behind : {R P : Type 0} (m : Means R P) (old mid new : R) → FaultsGrow m old mid → WriteFailed m mid new
    → WriteFailed m old new
failed_behind m old mid new less rose = (
  rose_behind (m.faults old) (m.faults mid) (m.faults new) less.0 rose.0,
  rose_behind (m.failed_writes old) (m.failed_writes mid) (m.failed_writes new) less.1 rose.1,
)

pub goes_down : {R P : Type 0} (m : Means R P) (old mid new : R) → FaultsGrow m old mid → FaultsGrow m mid new
    → (m.down mid ≡ m.down old) ⊎ WriteFailed m old mid → (m.down new ≡ m.down mid) ⊎ WriteFailed m mid new
    → (m.down new ≡ m.down old) ⊎ WriteFailed m old new
goes_down m old mid new less more (inl same) (inl stays) = inl (stays ∙ same)
goes_down m old mid new less more (inl same) (inr rose) = inr (failed_behind m old mid new less rose)
goes_down m old mid new less more (inr rose) second = inr (failed_before m old mid new rose more)

-- the cause of what the first of two calls answered, and of what the second did
pub blames_first : {R P : Type 0} (m : Means R P) (old mid new : R) (refusal : Option Refusal)
    → FaultsGrow m mid new → m.damage mid ≤ m.damage new → m.shortages mid ≤ m.shortages new
    → Blames m old mid refusal → Blames m old new refusal
blames_first m old mid new None faults damage shortages cause = tt
blames_first m old mid new (Some (DiskRead count)) faults damage shortages cause =
    rose_before (m.faults old) (m.faults mid) (m.faults new) cause faults.0
blames_first m old mid new (Some (DiskWrite count)) faults damage shortages cause =
    failed_before m old mid new cause faults
blames_first m old mid new (Some (Damaged page field found wanted)) faults damage shortages cause =
    rose_before (m.damage old) (m.damage mid) (m.damage new) cause damage
blames_first m old mid new (Some (DatabaseFull limit)) faults damage shortages cause =
    (rose_before (m.shortages old) (m.shortages mid) (m.shortages new) cause.0 shortages, cause.1)
blames_first m old mid new (Some (Offline count)) faults damage shortages (inl was) = inl was
blames_first m old mid new (Some (Offline count)) faults damage shortages (inr rose) =
    inr (failed_before m old mid new rose faults)
blames_first m old mid new (Some refusal) faults damage shortages cause = tt

was_down : {R P : Type 0} (m : Means R P) (old mid new : R) (count : ℕ)
    → FaultsGrow m old mid → FaultsGrow m mid new
    → (m.down mid ≡ m.down old) ⊎ WriteFailed m old mid
    → (m.down mid ≡ Some count) ⊎ WriteFailed m mid new
    → (m.down old ≡ Some count) ⊎ WriteFailed m old new
was_down m old mid new count less more (inl same) (inl was) = inl (sym same ∙ was)
was_down m old mid new count less more (inr rose) (inl was) = inr (failed_before m old mid new rose more)
was_down m old mid new count less more first (inr rose) = inr (failed_behind m old mid new less rose)

blames_last : {R P : Type 0} (m : Means R P) (old mid new : R) (refusal other : Option Refusal) (t : ℕ)
    → Frames m old mid t other → FaultsGrow m mid new
    → Blames m mid new refusal → Blames m old new refusal
blames_last m old mid new None other t first faults cause = tt
blames_last m old mid new (Some (DiskRead count)) other t first faults cause =
    rose_behind (m.faults old) (m.faults mid) (m.faults new) first.faults.0 cause
blames_last m old mid new (Some (DiskWrite count)) other t first faults cause =
    failed_behind m old mid new first.faults cause
blames_last m old mid new (Some (Damaged page field found wanted)) other t first faults cause =
    rose_behind (m.damage old) (m.damage mid) (m.damage new) first.damage cause
blames_last m old mid new (Some (DatabaseFull limit)) other t first faults cause = (
  rose_behind (m.shortages old) (m.shortages mid) (m.shortages new) first.shortages cause.0,
  cause.1 ∙ first.page_limit,
)
blames_last m old mid new (Some (Offline count)) other t first faults cause =
    was_down m old mid new count first.faults faults first.down cause
blames_last m old mid new (Some refusal) other t first faults cause = tt

pub elapses_then : {R P : Type 0} (m : Means R P) (old mid new : R) → Elapses m old mid
    → Elapses m mid new → Elapses m old new
elapses_then m old mid new first second = record {
  later = at_most (m.moment old) (m.moment mid) (m.moment new) first.later second.later;
  keeps = λ t c within was. second.keeps t c
      (at_most t (m.moment old) (m.moment mid) within first.later) (first.keeps t c within was);
}

-- two in a row, where this is the cause of what is answered, and no fault of the two is lost
joined : {R P : Type 0} (m : Means R P) (old mid new : R) (t : ℕ) (a b refusal : Option Refusal)
    → ((k : FaultCount) → tells_rise k refusal ≡ false → tells_rise k a ≡ false)
    → ((k : FaultCount) → tells_rise k refusal ≡ false → tells_rise k b ≡ false)
    → Frames m old mid t a → Frames m mid new t b → Blames m old new refusal
    → Frames m old new t refusal
joined m old mid new t a b refusal not_first not_second first second cause = record {
  faults = grow_then m old mid new first.faults second.faults;
  steady = λ k quiet. second.steady k (not_second k quiet) ∙ first.steady k (not_first k quiet);
  damage = at_most (m.damage old) (m.damage mid) (m.damage new) first.damage second.damage;
  shortages = at_most (m.shortages old) (m.shortages mid) (m.shortages new) first.shortages second.shortages;
  cause = cause;
  down = goes_down m old mid new first.faults second.faults first.down second.down;
  tells = second.tells ∙ first.tells;
  most_writes = second.most_writes ∙ first.most_writes;
  page_limit = second.page_limit ∙ first.page_limit;
  time = λ told. elapses_then m old mid new (first.time told) (second.time (first.tells ∙ told));
  sizes = λ size. second.sizes size ∙ first.sizes size;
  given = λ table was. second.given table (first.given table was);
  places = λ table place was. second.places table place (first.places table place was);
  tables = λ u name table other was. second.tables u name table other
      (first.tables u name table other was);
  walks = λ u table after rows other come.
      second.walks u table after rows other (first.walks u table after rows other come);
  commits = record {
    asked = λ u other was. second.commits.asked u other (first.commits.asked u other was);
    written = λ u other was. second.commits.written u other (first.commits.written u other was);
  };
}

-- the second of two calls says what is answered, and the first has told no fault that is lost
pub frames_then : {R P : Type 0} (m : Means R P) (old mid new : R) (t : ℕ) (a refusal : Option Refusal)
    → ((k : FaultCount) → tells_rise k refusal ≡ false → tells_rise k a ≡ false)
    → Frames m old mid t a → Frames m mid new t refusal → Frames m old new t refusal
frames_then m old mid new t a refusal not_first first second =
    joined m old mid new t a refusal refusal not_first (λ k quiet. quiet) first second
    (blames_last m old mid new refusal a t first second.faults second.cause)

-- behind a call that was not refused
pub frames_after : {R P : Type 0} (m : Means R P) (old mid new : R) (t : ℕ) (refusal : Option Refusal)
    → Frames m old mid t None → Frames m mid new t refusal → Frames m old new t refusal
frames_after m old mid new t refusal first second =
    frames_then m old mid new t None refusal (λ k quiet. refl) first second

-- the first of two calls says what is answered, and the second has told no fault that is lost
pub frames_first : {R P : Type 0} (m : Means R P) (old mid new : R) (t : ℕ) (refusal b : Option Refusal)
    → ((k : FaultCount) → tells_rise k refusal ≡ false → tells_rise k b ≡ false)
    → Frames m old mid t refusal → Frames m mid new t b → Frames m old new t refusal
frames_first m old mid new t refusal b not_second first second =
    joined m old mid new t refusal b refusal (λ k quiet. quiet) not_second first second
    (blames_first m old mid new refusal second.faults second.damage second.shortages first.cause)
