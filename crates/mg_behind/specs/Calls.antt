-- What a call does to a disk behind a writer.
use Rattle.std.specs.Prelude.{◌≡◌, ◌⊎◌, ℕ, true, false, List, length}
use Rattle.mg_base.specs.Disk.{Counts}
use Rattle.mg_base.specs.declared.disk.Disk as disk
use Rattle.mg_behind.specs.Behind.{jobs_of, receipts_of}
use Rattle.mg_behind.specs.Jobs.{any_failed, next_job}
use Rattle.mg_behind.specs.declared.started.Started as started
use Rattle.mg_behind.specs.declared.behind.Behind.{Behind}
use Rattle.mg_behind.specs.declared.job.Task.TheVariants.{Write, Settle}

module _ {D R J : Type 0} {d : disk.Ghosts D} {j : started.Ghosts J D} where
  -- a page write is the next job, and no receipt of a failure was read
  pub record IssuesWrite (old new : Behind D R J d j) (page : ℕ) (bytes : List ℕ) : Type 0 where
    pub jobs : jobs_of new ≡ next_job (jobs_of old) (Write page bytes)
    pub calm : any_failed (receipts_of new) ≡ false
    pub refused : new.refused ≡ old.refused
    pub past : new.past ≡ old.past

  -- a receipt of a failure was read: no job is issued, and the mirror stays as it is
  pub record RefusesWrite (old new : Behind D R J d j) : Type 0 where
    pub cause : any_failed (receipts_of new) ≡ true
    pub jobs : jobs_of new ≡ jobs_of old
    pub mirror : new.mirror ≡ old.mirror
    pub refused : Counts old.refused new.refused
    pub past : new.past ≡ old.past

  -- the page lies past the room: nothing changes but the count of such writes
  pub record RefusesPage (old new : Behind D R J d j) : Type 0 where
    pub line : new.line ≡ old.line
    pub mirror : new.mirror ≡ old.mirror
    pub refused : new.refused ≡ old.refused
    pub past : Counts old.past new.past

  -- a settle was the next job, and there is a receipt of each job, none of a failure
  pub record Settles (old new : Behind D R J d j) : Type 0 where
    pub jobs : jobs_of new ≡ next_job (jobs_of old) Settle
    pub each : length (receipts_of new) ≡ length (jobs_of new)
    pub calm : any_failed (receipts_of new) ≡ false
    pub mirror : new.mirror ≡ old.mirror
    pub refused : new.refused ≡ old.refused
    pub past : new.past ≡ old.past

  -- a receipt of a failure was read, and no job was issued but the settle
  pub record RefusesSettle (old new : Behind D R J d j) : Type 0 where
    pub cause : any_failed (receipts_of new) ≡ true
    pub jobs : (jobs_of new ≡ jobs_of old) ⊎ (jobs_of new ≡ next_job (jobs_of old) Settle)
    pub mirror : new.mirror ≡ old.mirror
    pub refused : Counts old.refused new.refused
    pub past : new.past ≡ old.past
