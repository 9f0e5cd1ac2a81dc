-- The steps of a commit, and page writes.
use Rattle.std.specs.Prelude.{◌≡◌, ◌<◌, ◌+◌, ℕ, Bool, true, false, length, Option, None, Some, Result, Ok, Err}
use Rattle.mg_base.specs.Disk.{Meaning}
use Rattle.mg_base.specs.declared.numbers.PageNo.{PageNo}
use Rattle.mg_careful.specs.Graph.{IsFirstReady}
use Rattle.mg_model.specs.declared.refusal.Refusal.{Refusal}
use Rattle.mg_model.specs.declared.refusal.Refusal.TheVariants.{DiskWrite, Offline}
use Rattle.mg_pool.specs.declared.fault.PoolFault.TheVariants as faults
use Rattle.mg_pool.specs.Dirty.{IsLeastPage, MarksAll, is_dirty, is_marked}
use Rattle.mg_pool.specs.Fault.{TellsFault}
use Rattle.mg_pool.specs.Refusal.{FailsWrites}
use Rattle.mg_pool.specs.Run.{HasWritten}
use Rattle.mg_works.specs.Works.{Working, has_asked, with_work, work_of}
use Rattle.mg_core.specs.declared.parts.Core.{Core}
use Rattle.mg_core.specs.Cores.{Continues, RefusesCall}

-- One dirty page was written, the first that may be towards a goal, and nothing else has happened.
pub record WritesOne {D : Type 0} (m : Meaning D) (old new : Core D) (goal page : ℕ) : Type 0 where
  pub first : IsFirstReady old.store.graph goal page
  pub run : HasWritten m old.store new.store
  pub out : is_dirty new.store.dirty page ≡ false
  pub fewer : length new.store.dirty.pages + 1 ≡ length old.store.dirty.pages
  pub others : new ≡ record old { store = new.store }

-- a page write failed: pages and orders are as before, and the disk's count of faults rose
pub record FailsOne {D : Type 0} (m : Meaning D) (old new : Core D) (count : ℕ) : Type 0 where
  pub fails : FailsWrites m old.store new.store (faults.DiskWrite count)
  pub told : TellsFault {T = Unit {0}} m old.store new.store (Err (faults.DiskWrite count))
  pub others : new ≡ record old { store = new.store }

-- one page is written, towards the least dirty one; none exactly where no page is dirty
abbrev pub WritesPage : {D : Type 0} → Meaning D → Core D → Core D → Result (Option PageNo) Refusal
    → Type 0
WritesPage m old new (Ok None) = (new ≡ old) × (old.store.offline ≡ None)
    × IsLeastPage (is_dirty old.store.dirty) None
WritesPage m old new (Ok (Some page)) = (goal : ℕ) × (old.store.offline ≡ None)
    × IsLeastPage (is_dirty old.store.dirty) (Some goal) × WritesOne m old new goal page.0
WritesPage m old new (Err (DiskWrite count)) = FailsOne m old new count
WritesPage m old new (Err (Offline count)) = (new ≡ old) × (old.store.offline ≡ Some count)
WritesPage m old new (Err refusal) = ⊥

-- an active transaction was begun by a session
pub record HasSession {D : Type 0} (core : Core D) (t session : ℕ) : Type 0 where
  pub continues : Continues core t
  pub work : Working
  pub its : work_of core.works t ≡ Some work
  pub session_is : work.session ≡ session
  pub below : session < 32

-- a commit is asked for: each dirty page has the mark of the transaction's session, and no other page
pub record Asks {D : Type 0} (old new : Core D) (t : ℕ) : Type 0 where
  pub session : ℕ
  pub of_session : HasSession old t session
  pub marks : MarksAll old.store.dirty new.store.dirty session
  pub store : new.store ≡ record old.store { dirty = new.store.dirty }
  pub same : new ≡ record old { store = new.store; works = with_work t has_asked old.works }

abbrev pub AsksCommit : {D : Type 0} → Core D → Core D → ℕ → Result (Unit {0}) Refusal → Type 0
AsksCommit old new t (Ok x) = Asks old new t
AsksCommit old new t (Err refusal) = RefusesCall old t refusal × (new ≡ old)

-- one page is written, towards the least one that has the mark of the session; none exactly where none has
abbrev pub StepsFor : {D : Type 0} → Meaning D → Core D → Core D → ℕ → Bool → Type 0
StepsFor m old new session true = (new ≡ old)
    × IsLeastPage (λ page. is_marked old.store.dirty page session) None
StepsFor m old new session false = (goal : ℕ) × (page : ℕ)
    × IsLeastPage (λ page. is_marked old.store.dirty page session) (Some goal)
    × WritesOne m old new goal page

abbrev pub StepsCommit : {D : Type 0} → Meaning D → Core D → Core D → ℕ → Result Bool Refusal → Type 0
StepsCommit m old new t (Ok done) = (session : ℕ) × HasSession old t session
    × StepsFor m old new session done
StepsCommit m old new t (Err (DiskWrite count)) = FailsOne m old new count
StepsCommit m old new t (Err refusal) = RefusesCall old t refusal × (new ≡ old)
