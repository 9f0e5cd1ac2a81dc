-- How a statement comes nearer to its end.
use Rattle.std.specs.Prelude.{◌≡◌, ℕ, ◌<◌, ◌≤◌, ◌+◌, ◌*◌, length, Ok}
use Rattle.mg_records.specs.Meaning.{Means}
use Rattle.mg_exec.specs.declared.phase.Changing.{Changing}
use Rattle.mg_exec.specs.declared.phase.Phase.{Phase}
use Rattle.mg_exec.specs.declared.phase.Phase.TheVariants as phases
use Rattle.mg_exec.specs.declared.phase.Step.TheVariants.{More}
use Rattle.mg_exec.specs.declared.phase.Turn.{Turn}

-- A number that falls with each step after which there is more to do. A reading visits what is to come,
-- and then each row that it kept may be written.
abbrev pub still_at : {R P : Type 0} → Means R P → R → ℕ → Phase P → ℕ
still_at m r t (phases.Reading reading) = 2 * m.still r t reading.walk.table reading.walk.place
    + length reading.kept.items + 2
still_at m r t (phases.Changing c) = length c.writes.left.items + 1
still_at m r t (phases.Inserting i) = 2
still_at m r t phases.Ended = 0
still_at m r t phases.RolledBack = 0
still_at m r t phase = 1

-- a step visited one further record, or it made one write: the next one, or the first of all
abbrev pub IsOneDeed : {R P : Type 0} → Means R P → R → R → ℕ → Phase P → Phase P → Type 0
IsOneDeed m old new t (phases.Reading before) (phases.Reading after) =
    (after.walk.table ≡ before.walk.table)
    × (m.still new t after.walk.table after.walk.place < m.still old t before.walk.table before.walk.place)
IsOneDeed m old new t (phases.Changing before) (phases.Changing after) =
    (after.count ≡ before.count) × (length before.writes.left.items ≡ length after.writes.left.items + 1)
IsOneDeed m old new t before (phases.Changing after) = after.count ≡ length after.writes.left.items + 1
IsOneDeed m old new t before after = ⊥

-- what a step does after which there is more to do
pub record Advances {R P : Type 0} (m : Means R P) (old new : R) (t : ℕ) (before after : Phase P)
    : Type 0 where
  pub one : IsOneDeed m old new t before after
  pub nearer : still_at m new t after < still_at m old t before

abbrev pub Nears : {R P : Type 0} → Means R P → R → R → ℕ → Phase P → Turn P → Type 0
Nears m old new t before turn = turn.answer ≡ Ok More → Advances m old new t before turn.phase

-- ---- the parts of a step

-- there is no more to do
abbrev pub IsAtEnd : {P : Type 0} → Turn P → Type 0
IsAtEnd turn = turn.answer ≡ Ok More → ⊥

-- the first of so many writes at most was made
abbrev pub IsOneOf : {P : Type 0} → ℕ → Phase P → Type 0
IsOneOf most (phases.Changing c) = (c.count ≡ length c.writes.left.items + 1) × (c.count ≤ most)
IsOneOf most phase = ⊥

abbrev pub IsBehind : {P : Type 0} → ℕ → Turn P → Type 0
IsBehind most turn = turn.answer ≡ Ok More → IsOneOf most turn.phase

-- the next write was made
abbrev pub HasOneLess : {P : Type 0} → Changing → Phase P → Type 0
HasOneLess before (phases.Changing after) =
    (after.count ≡ before.count) × (length before.writes.left.items ≡ length after.writes.left.items + 1)
HasOneLess before phase = ⊥

abbrev pub MakesOneWrite : {P : Type 0} → Changing → Turn P → Type 0
MakesOneWrite before turn = turn.answer ≡ Ok More → HasOneLess before turn.phase
