-- What calls leave of crashes and of damage, by which a history goes on to a longer one.
use Rattle.std.specs.Prelude.{◌≡◌, ℕ, ◌≤◌, true, Bool, false, List, [], ◌∷◌, if◌then◌else◌}
use Rattle.mg_base.specs.Image.{Image}
use Rattle.mg_base.specs.declared.numbers.TxNo.{TxNo}
use Rattle.mg_model.specs.declared.event.Event.{Event}
use Rattle.mg_model.specs.declared.opening.Opening.{Opening}
use Rattle.mg_model.specs.History.{Entries}
use Rattle.mg_model.specs.Legal.{durable_count, is_lasting}
use Rattle.mg_records.specs.Meaning.{Means}
use Rattle.mg_records.specs.Crashing.{LeavesOnly}
use Rattle.mg_records.specs.Keeping.{FindsNoDamage}
use Rattle.mg_transcript.specs.Courses.{Course, Begun, Writing, Making, Committing}
use Rattle.mg_courses.specs.Running.{RunMeans}

-- A history has gone on to a longer one, no page was found damaged, and no crash loses what was durable.
pub record Carries {R P : Type 0} (m : Means R P) (old new : R) (o : Opening) (h after : Entries)
    : Type 0 where
  -- what held the history holds the longer one
  pub holds : (least : ℕ) (c : Image) → m.holds old o h least c → m.holds new o after least c
  pub count : durable_count h ≤ durable_count after
  pub tells : m.tells new ≡ m.tells old
  pub later : m.tells old ≡ true → m.moment old ≤ m.moment new
  pub undamaged : FindsNoDamage m old new
  -- each image that a crash since then might have left holds the longer one, with all events that
  -- were durable before
  pub leaves : m.tells old ≡ true → LeavesOnly m old new (m.holds new o after (durable_count h))

-- ---- statements that no crash could lose

-- none of these events outlasts a crash
abbrev pub are_quiet : List Event → Bool
are_quiet [] = true
are_quiet (event ∷ events) = if is_lasting event then false else are_quiet events

-- what is left of a statement gives no event that outlasts a crash: it is no COMMIT
abbrev pub is_quiet : Course → Bool
is_quiet (Begun s taken) = true
is_quiet (Writing events outcome) = are_quiet events
is_quiet (Making events outcome) = are_quiet events
is_quiet (Committing written) = false

-- what held a history holds it still
abbrev pub HoldsStill : {R P : Type 0} → Means R P → R → R → Type 0
HoldsStill m old new = (o : Opening) (h : Entries) (least : ℕ) (c : Image) → m.holds old o h least c
    → m.holds new o h least c

-- what a crash since then might have left holds the history from before
abbrev pub LeavesHolding : {R P : Type 0} → Means R P → R → R → Opening → Entries → Type 0
LeavesHolding m old new o h = m.tells old ≡ true → LeavesOnly m old new (m.holds new o h (durable_count h))

-- so is what is left of each run
abbrev pub RunsAreQuiet : {R Run : Type 0} → RunMeans R Run → Type 0
RunsAreQuiet {R = R} {Run = Run} runs = (r : R) (o : Opening) (h : Entries) (t : TxNo) (run : Run)
    (course : Course) → runs.is_at r o h t run course → is_quiet course ≡ true
