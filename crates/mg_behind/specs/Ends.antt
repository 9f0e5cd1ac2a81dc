-- What the device holds in the end.
use Rattle.std.specs.Prelude.{◌≡◌, ◌≢◌, ℕ, ◌+◌, ◌-◌, ◌<◌, ◌≤◌, true, false, Some, List, length, take}
use Rattle.mg_base.specs.Image.{Image}
use Rattle.mg_base.specs.Disk.{Meaning, MayLeave, KeepsReads}
use Rattle.mg_behind.specs.declared.job.Job.{Job}
use Rattle.mg_behind.specs.declared.job.Receipt.{Receipt}
use Rattle.mg_behind.specs.Jobs.{after, any_failed, page_writes, EndsSettled, HasRisen}

-- The device was given the first j of the jobs. `first` is the device as it was at the start, `receipts` are those
-- that were read, and `refused` is how many calls were refused but for a page past the room.
pub record Ends {D : Type 0} (m : Meaning D) (first now : D) (jobs : List Job) (receipts : List Receipt) (j : ℕ) (mirror : Image) (refused : ℕ) : Type 0 where
  pub never_falls : m.faults first ≤ m.faults now
  pub tells : m.tells now ≡ m.tells first
  -- it holds what these jobs, in their order, make of what it held; or the last of them is missing, its faults rose, and
  -- where the receipt of that job was read, it told of a failure
  pub content : (image : Image) → m.held first ≡ Some image → m.held now ≢ Some (after image (take j jobs))
      → HasRisen (m.faults first) (m.faults now) × (m.held now ≡ Some (after image (take (j - 1) jobs))) × (length receipts ≡ j → any_failed receipts ≡ true)
  -- it was asked for no page write but those of these jobs, and for no page read
  pub asked : m.asked now ≤ m.asked first + page_writes (take j jobs)
  pub unread : KeepsReads m first now
  -- where its faults did not rise, it was given each job, and holds the mirror
  pub all : (HasRisen (m.faults first) (m.faults now) → ⊥) → j ≡ length jobs
  pub mirror_held : (HasRisen (m.faults first) (m.faults now) → ⊥) → (image : Image) → m.held first ≡ Some image → m.held now ≡ Some mirror
  -- and where the last job was a settle, a crash leaves that alone
  pub settled : (HasRisen (m.faults first) (m.faults now) → ⊥) → EndsSettled jobs → m.tells first ≡ true → (c : Image) → MayLeave m now c → m.held now ≡ Some c
  -- a receipt is of a job that it was given; where there is one of each job, and none of a failure, its faults did not rise
  pub answered : length receipts ≤ j
  pub calm : length receipts ≡ length jobs → any_failed receipts ≡ false → m.faults now ≡ m.faults first
  -- where a call was refused, but for a page past the room, its faults rose
  pub cause : 0 < refused → HasRisen (m.faults first) (m.faults now)
