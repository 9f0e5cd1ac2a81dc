-- What a crash leaves, in the terms of the history.
use Rattle.std.specs.Prelude.{◌≤◌, ℕ, ◌&&◌, Bool, true, false, [], ◌∷◌, if◌then◌else◌}
use Rattle.mg_base.specs.Disk.{MayLeave, Meaning}
use Rattle.mg_base.specs.Image.{Image, page_at}
use Rattle.mg_base.specs.Moments.{LeavesOnly}
use Rattle.mg_model.specs.declared.answer.Answer.{Answer}
use Rattle.mg_model.specs.declared.answer.Answer.TheVariants.{Fine, Tx, Rows, No}
use Rattle.mg_model.specs.declared.opening.Opening.{Opening}
use Rattle.mg_model.specs.declared.refusal.Refusal.TheVariants.{DiskWrite}
use Rattle.mg_model.specs.History.{Entries, Entry}
use Rattle.mg_model.specs.Legal.{IsLegal, after_durable, durable_count, is_lasting, with_asked}
use Rattle.mg_image.specs.Form.{Form}
use Rattle.mg_image.specs.Histories.{HoldsDurable}

-- ---- the durable event that is under way

-- a call was answered that a page write had failed
abbrev pub is_failed_write : Answer → Bool
is_failed_write (No (DiskWrite faults)) = true
is_failed_write (No refusal) = false
is_failed_write Fine = false
is_failed_write (Tx t) = false
is_failed_write (Rows rows) = false

-- an entry is of a durable event whose call ended in a failed page write: its bits may have reached the
-- disk
abbrev pub may_last : Entry → Bool
may_last e = is_lasting e.event && is_failed_write e.answer

-- the history with the durable event taken as effective whose call ended in a failed page write, if
-- there is one
abbrev pub asked : Entries → Entries
asked [] = []
asked (e ∷ h) = if may_last e then with_asked h e.event else e ∷ asked h

-- ---- images

-- an image is blank or sound, and holds what outlasts a crash after the k-th durable event of a history
abbrev pub HoldsAt : Form → ℕ → Opening → Entries → ℕ → Image → Type 0
HoldsAt form size o h k image = HoldsDurable form size (page_at size image) o h k

-- An image is blank or sound, and holds what outlasts a crash after some durable event of a history, and
-- after so many at least; the history up to that event is legal, also where the event is one that is under way.
pub record HoldsFrom (form : Form) (size : ℕ) (o : Opening) (h : Entries) (least : ℕ)
    (image : Image) : Type 0 where
  pub k : ℕ
  pub at_least : least ≤ k
  pub at_most : k ≤ durable_count h
  pub holds : HoldsAt form size o h k image
  pub legal : IsLegal o (after_durable h k)

-- it does after all durable events that were acknowledged, and perhaps the one under way
abbrev pub HoldsAcknowledged : Form → ℕ → Opening → Entries → Image → Type 0
HoldsAcknowledged form size o h image = HoldsFrom form size o (asked h) (durable_count h) image

-- ---- what calls leave

-- Since a start each image that a crash might have left has a property, and so has each that a crash
-- now may leave.
pub record LeavesSince {D : Type 0} (m : Meaning D) (start now : D) (P : Image → Type 0) : Type 0
  where
    pub since : LeavesOnly m start now P
    pub left : (c : Image) → MayLeave m now c → P c

-- What a call leaves that adds entries to a history: each image that a crash might have left since its
-- start holds the longer history, and no fewer durable events than were acknowledged before; each that a
-- crash may leave at its end has those that are acknowledged then.
pub record LeavesHistory {D : Type 0} (m : Meaning D) (old new : D) (form : Form) (size : ℕ)
    (o : Opening) (before after : Entries) : Type 0 where
  pub since : LeavesOnly m old new (HoldsFrom form size o (asked after) (durable_count before))
  pub left : (c : Image) → MayLeave m new c → HoldsAcknowledged form size o after c
