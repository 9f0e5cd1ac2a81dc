-- What a transaction has to take back, and what is given back.
use Rattle.std.specs.Prelude.{◌≡◌, ℕ, ◌-◌, ◌≤◌, ◌==◌, ◌&&◌, ◌||◌, nat_lt, Bool, true, false, List, [], ◌∷◌, length, take, drop, Option, Some, None, unwrap_or, if◌then◌else◌}
use Rattle.std.specs.List.{list_any}
use Rattle.mg_value.specs.declared.value.Value.{Value}
use Rattle.mg_model.specs.Changes.{same_name, same_key}
use Rattle.mg_undo.specs.declared.changes.Was.{Was}
use Rattle.mg_undo.specs.declared.changes.Change.{Change}
use Rattle.mg_undo.specs.declared.points.Standing.{Standing}

-- the changes that are kept and the points that stand, the newest first
pub record State : Type 0 where
  pub changes : List Change
  pub points : List Standing
  -- a savepoint was named to which the changes are taken back
  pub going_back : Bool

abbrev pub state_of : List Change → List Standing → Bool → State
state_of changes points going_back =
    record { changes = changes; points = points; going_back = going_back }

-- ---- points

-- a point is a savepoint of the name, or a mark where no name is given
abbrev pub is_named : Option (List ℕ) → Option (List ℕ) → Bool
is_named None None = true
is_named None (Some own) = false
is_named (Some name) None = false
is_named (Some name) (Some own) = same_name name own

abbrev pub is_goal : Option (List ℕ) → Standing → Bool
is_goal name point = is_named name point.name

-- a savepoint of the name stands, or a mark where no name is given
abbrev pub has_point : State → Option (List ℕ) → Bool
has_point state name = list_any (is_goal name) state.points

-- the points from the last savepoint of the name on, or from the last mark
abbrev pub from_goal : Option (List ℕ) → List Standing → List Standing
from_goal name [] = []
from_goal name (p ∷ ps) = if is_goal name p then p ∷ ps else from_goal name ps

-- how many changes had been kept when the first of these points was set
abbrev pub floor_of : List Standing → Option ℕ
floor_of [] = None
floor_of (p ∷ ps) = Some p.at

-- no point stands higher than the changes, or than a newer point
abbrev pub AreWithin : ℕ → List Standing → Type 0
AreWithin most [] = Unit {0}
AreWithin most (p ∷ ps) = (p.at ≤ most) × AreWithin p.at ps

-- ---- what is kept

-- a change is kept
abbrev pub after_keep : State → ℕ → Value → Was → State
after_keep state table key was = record {
  changes = record { table = table; key = key; was = was } ∷ state.changes;
  points = state.points;
  going_back = false;
}

-- the changes without the newest one, if there are more than the first so many
abbrev pub without_newest : ℕ → List Change → List Change
without_newest floor changes = if nat_lt floor (length changes) then drop 1 changes else changes

-- the last change that was kept is dropped, if it was kept since the newest point
abbrev pub after_retract : State → State
after_retract state = record {
  changes = without_newest (unwrap_or (floor_of state.points) 0) state.changes;
  points = state.points;
  going_back = state.going_back;
}

-- what was kept and is then taken back leaves the changes and points that there were
abbrev pub RetractTakesKeepBack : Type 0
RetractTakesKeepBack = (state : State) (table : ℕ) (key : Value) (was : Was)
    → AreWithin (length state.changes) state.points
    → after_retract (after_keep state table key was)
    ≡ record { changes = state.changes; points = state.points; going_back = false }

-- a mark is set, or a savepoint of the name
abbrev pub after_point : State → Option (List ℕ) → State
after_point state name = record {
  changes = state.changes;
  points = record { name = name; at = length state.changes } ∷ state.points;
  going_back = false;
}

-- the last savepoint of the name is gone back to, if there is one
abbrev pub after_back_to : State → List ℕ → State
after_back_to state name =
    if has_point state (Some name)
    then record {
      changes = state.changes;
      points = from_goal (Some name) state.points;
      going_back = true;
    }
    else state

-- ---- what is given back

-- two changes are of the same key of the same table
abbrev pub is_same_place : Change → Change → Bool
is_same_place a b = b.table == a.table && same_key b.key a.key

-- the changes but the first so many, the newest first
abbrev pub since : ℕ → List Change → List Change
since floor changes = take (length changes - floor) changes

-- the newest change is of a key that was changed before, after the first so many changes
abbrev pub repeats : ℕ → List Change → Bool
repeats floor [] = false
repeats floor (c ∷ cs) = list_any (is_same_place c) (since floor cs)

-- the changes without the newest ones that repeat an earlier one
abbrev pub settled : ℕ → List Change → List Change
settled floor [] = []
settled floor (c ∷ cs) =
    if nat_lt floor (length (c ∷ cs)) && repeats floor (c ∷ cs) then settled floor cs else c ∷ cs

-- what one step of taking back gives, and what is left then
pub record Taken : Type 0 where
  pub given : Option Change
  pub after : State

-- it has come to the point gone back to: a mark ends, and a savepoint stays
abbrev pub arrived_at : Bool → Standing → List Standing → List Change → Taken
arrived_at going_back p ps rest = record {
  given = None;
  after = record {
    changes = rest;
    points = if going_back then p ∷ ps else ps;
    going_back = false;
  };
}

-- the newest change is given, if it is one since the point
abbrev pub give_newest : Bool → Standing → List Standing → List Change → Taken
give_newest going_back p ps [] = arrived_at going_back p ps []
give_newest going_back p ps (c ∷ cs) =
    if nat_lt p.at (length (c ∷ cs))
    then record {
      given = Some c;
      after = record { changes = cs; points = p ∷ ps; going_back = going_back };
    }
    else arrived_at going_back p ps (c ∷ cs)

-- taking back to the first of these points; where there is none, nothing is given
abbrev pub take_to : State → List Standing → Taken
take_to state [] = record {
  given = None;
  after = record { changes = state.changes; points = state.points; going_back = false };
}
take_to state (p ∷ ps) = give_newest state.going_back p ps (settled p.at state.changes)

-- the points from the one gone back to on: that of a `back_to`, or else the last mark
abbrev pub goal_of : Bool → List Standing → List Standing
goal_of true points = points
goal_of false points = from_goal None points

abbrev pub goal_points : State → List Standing
goal_points state = goal_of state.going_back state.points

-- one step of taking back
abbrev pub take_back : State → Taken
take_back state = take_to state (goal_points state)

-- the newest of some changes
abbrev pub newest : List Change → Option Change
newest [] = None
newest (c ∷ cs) = Some c

-- a change as it is given
abbrev pub given_as : Option Change → Option (ℕ × Value × Was)
given_as None = None
given_as (Some c) = Some (c.table, c.key, c.was)

-- ---- what all steps give

-- the first change of each key, the newest first
abbrev pub first_changes : List Change → List Change
first_changes [] = []
first_changes (c ∷ cs) =
    if list_any (is_same_place c) cs then first_changes cs else c ∷ first_changes cs

-- steps of taking back from one state to another, the last of which gives none, with what the others
-- gave, in turn
pub data TakesBack : State → List Change → State → Type 0 where
  ends : {old new : State} → (take_back old).given ≡ None → (take_back old).after ≡ new
      → TakesBack old [] new
  gives : {old new : State} {given : List Change} (c : Change) → (take_back old).given ≡ Some c
      → TakesBack (take_back old).after given new → TakesBack old (c ∷ given) new

-- taking back to a point gives the first change of each key since the point, the newest first; what
-- was before the point is left, and the point itself if it is a savepoint
abbrev pub GivesFirstChanges : Type 0
GivesFirstChanges = (old new : State) (given : List Change) (p : Standing) (ps : List Standing)
    → AreWithin (length old.changes) old.points → goal_points old ≡ p ∷ ps → TakesBack old given new
    → (given ≡ first_changes (since p.at old.changes))
    × (new ≡ record {
      changes = drop (length old.changes - p.at) old.changes;
      points = if old.going_back then p ∷ ps else ps;
      going_back = false;
    })

-- ---- a table among what is given

-- one of these changes is of the table that begins at a page
abbrev pub has_table : ℕ → List Change → Bool
has_table number [] = false
has_table number (c ∷ cs) = c.table == number || has_table number cs

-- whether one of all those that are given from a state on is
abbrev pub TellsTable : ℕ → State → Bool → Type 0
TellsTable number state some = (given : List Change) (end : State) → TakesBack state given end
    → some ≡ has_table number given
