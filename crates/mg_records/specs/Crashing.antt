-- What a crash leaves of a keeper of records that tells it.
use Rattle.std.specs.Prelude.{◌≡◌, ◌⊎◌, ℕ, ◌≤◌, true, false, ◌∷◌, None}
use Rattle.mg_base.specs.Image.{Image}
use Rattle.mg_model.specs.declared.answer.Answer.{Answer}
use Rattle.mg_model.specs.declared.answer.Answer.TheVariants.{No}
use Rattle.mg_model.specs.declared.event.Event.{Event}
use Rattle.mg_model.specs.declared.opening.Opening.{Opening}
use Rattle.mg_model.specs.declared.refusal.Refusal.TheVariants.{DiskWrite}
use Rattle.mg_model.specs.History.{Entries, Entry, entry}
use Rattle.mg_model.specs.Legal.{durable_count, is_lasting}
use Rattle.mg_records.specs.Meaning.{Means}

-- each image that a crash now may leave holds the history, with all its durable events
abbrev pub CrashesHold : {R P : Type 0} → Means R P → Type 0
CrashesHold {R = R} m = (r : R) (o : Opening) (h : Entries) → m.stands r o h → m.tells r ≡ true
    → (c : Image) → m.left r (m.moment r) c → m.holds r o h (durable_count h) c

-- ---- what a call leaves

-- Each image that a crash since the start of a call might have left has a property. One that a crash
-- since an earlier moment might have left might have been left before the call, or has it too.
pub record LeavesOnly {R P : Type 0} (m : Means R P) (old new : R) (Q : Image → Type 0) : Type 0 where
  pub each : (c : Image) → m.left new (m.moment old) c → Q c
  pub before : (t : ℕ) (c : Image) → t ≤ m.moment old → m.left new t c → m.left old t c ⊎ Q c

-- they hold the history from before the call, with all durable events that it had then
abbrev pub LeavesQuietly : {R P : Type 0} → Means R P → R → R → Type 0
LeavesQuietly m old new = (o : Opening) (h : Entries) → m.stands old o h → m.tells old ≡ true
    → LeavesOnly m old new (m.holds new o h (durable_count h))

-- they hold the history with an entry more, whose event was under way, with all durable events from
-- before
abbrev pub LeavesWith : {R P : Type 0} → Means R P → R → R → Event → Answer → Type 0
LeavesWith m old new event answer = (o : Opening) (h : Entries) → m.stands old o h
    → m.tells old ≡ true
    → LeavesOnly m old new (m.holds new o (entry event answer ∷ h) (durable_count h))

-- ---- what holds goes on

-- What an image holds of a history.
pub record HoldsOn {R P : Type 0} (m : Means R P) : Type 0 where
  -- events that no crash can lose make no difference
  pub more : (r : R) (o : Opening) (h : Entries) (e : Entry) (least : ℕ) (c : Image)
      → is_lasting e.event ≡ false → m.holds r o h least c → m.holds r o (e ∷ h) least c
  pub fewer : (r : R) (o : Opening) (h : Entries) (e : Entry) (least : ℕ) (c : Image)
      → is_lasting e.event ≡ false → m.holds r o (e ∷ h) least c → m.holds r o h least c
  -- what holds a history holds each longer one, but for a second page write that failed
  pub longer : (r : R) (o : Opening) (h : Entries) (e : Entry) (least : ℕ) (c : Image)
      → m.stands r o h
      → (m.down r ≡ None) ⊎ ((faults : ℕ) → e.answer ≡ No (DiskWrite faults) → ⊥)
      → m.holds r o h least c → m.holds r o (e ∷ h) least c
  -- with so many durable events it has as many as are fewer
  pub least : (r : R) (o : Opening) (h : Entries) (few many : ℕ) (c : Image) → few ≤ many
      → m.holds r o h many c → m.holds r o h few c
