-- What jobs make of the pages of a disk, and what a worker has done of them.
use Rattle.std.specs.Prelude.{◌≡◌, ◌≢◌, ◌+◌, ◌-◌, ◌^◌, ◌<◌, ◌≤◌, ◌||◌, take, ℕ, Bool, true, false, Some, List, [], ◌∷◌, ◌++◌, length, fold, All}
use Rattle.mg_base.specs.Image.{Image, written}
use Rattle.mg_base.specs.Disk.{Meaning, MayLeave, KeepsReads}
use Rattle.mg_behind.specs.declared.job.Task.{Task}
use Rattle.mg_behind.specs.declared.job.Task.TheVariants.{Write, Settle}
use Rattle.mg_behind.specs.declared.job.Job.{Job}
use Rattle.mg_behind.specs.declared.job.Receipt.{Receipt}
use Rattle.mg_behind.specs.declared.worker.State.{State}
use Rattle.mg_behind.specs.declared.worker.State.TheVariants.{Works, Failed, Odd}

-- what a task makes of the pages
abbrev pub done : Image → Task → Image
done image (Write page bytes) = written (length bytes) image page bytes
done image Settle = image

abbrev pub made : Image → Job → Image
made image job = done image job.task

-- one job more, with the next number
abbrev pub next_job : List Job → Task → List Job
next_job jobs task = jobs ++ record { number = length jobs + 1; task = task } ∷ []

abbrev pub page_write : Task → ℕ
page_write (Write page bytes) = 1
page_write Settle = 0

-- how many of the jobs are page writes
abbrev pub page_writes : List Job → ℕ
page_writes [] = 0
page_writes (job ∷ jobs) = page_write job.task + page_writes jobs

-- what jobs make of the pages, the first of them first
abbrev pub after : Image → List Job → Image
after image jobs = fold made image jobs

abbrev pub IsWhole : ℕ → Task → Type 0
IsWhole size task = (page : ℕ) (bytes : List ℕ) → task ≡ Write page bytes → length bytes ≡ size

-- each page write is of one page
abbrev pub EachWhole : ℕ → List Job → Type 0
EachWhole size jobs = All (λ job. IsWhole size job.task) jobs

-- one of the receipts is of a failure
abbrev pub any_failed : List Receipt → Bool
any_failed [] = false
any_failed (r ∷ rs) = r.failed || any_failed rs

abbrev pub IsSettle : Task → Type 0
IsSettle (Write page bytes) = ⊥
IsSettle Settle = Unit {0}

-- the last job was a settle
abbrev pub EndsSettled : List Job → Type 0
EndsSettled jobs = (before : List Job) × (last : Job) × (jobs ≡ before ++ last ∷ []) × IsSettle last.task

-- each job was done
pub record Fine {D : Type 0} (m : Meaning D) (first now : D) (all : List Job) : Type 0 where
  pub faults : m.faults now ≡ m.faults first
  pub held : (image : Image) → m.held first ≡ Some image → m.held now ≡ Some (after image all)
  pub settled : EndsSettled all → m.tells now ≡ true → (c : Image) → MayLeave m now c → m.held now ≡ Some c

-- a count has risen, or stands at its end
abbrev pub HasRisen : ℕ → ℕ → Type 0
HasRisen before now = (now ≤ before → 2 ^ 64 - 1 ≤ now)

-- the device failed at the last job, which it may have done or not
pub record Broke {D : Type 0} (m : Meaning D) (first now : D) (all : List Job) : Type 0 where
  pub rose : HasRisen (m.faults first) (m.faults now)
  pub some : 0 < length all
  pub held : (image : Image) → m.held first ≡ Some image → m.held now ≢ Some (after image all) → m.held now ≡ Some (after image (take (length all - 1) all))

-- what became of the device by the jobs that were taken
pub record Did {D : Type 0} (m : Meaning D) (first now : D) (size : ℕ) (all : List Job) (state : State) : Type 0 where
  pub never_falls : m.faults first ≤ m.faults now
  pub tells : m.tells now ≡ m.tells first
  pub measured : m.size first ≡ Some size
  -- it was asked for no page write but those of the jobs, and for no page read
  pub asked : m.asked now ≤ m.asked first + page_writes all
  pub unread : KeepsReads m first now
  pub works : state ≡ Works → Fine m first now all
  pub failed : state ≡ Failed → Broke m first now all
  pub odd : state ≡ Odd → EachWhole size all → ⊥
