-- What is kept and given back, by what a transaction did in the history machine.
use Rattle.std.specs.Prelude.{◌≡◌, ℕ, ◌||◌, Bool, true, false, List, [], ◌∷◌, length, map, Option, Some, None, if◌then◌else◌}
use Rattle.mg_value.specs.declared.value.Value.{Value}
use Rattle.mg_model.specs.declared.change.Change.{Change as AnyChange}
use Rattle.mg_model.specs.declared.change.Deed.{Deed}
use Rattle.mg_model.specs.declared.change.Deed.TheVariants.{Changed, Marked, Saved}
use Rattle.mg_model.specs.declared.change.Point.{Point}
use Rattle.mg_model.specs.declared.change.Point.TheVariants.{LastMark, SavepointNamed}
use Rattle.mg_model.specs.Changes.{Cells, same_name, is_at}
use Rattle.mg_model.specs.Machine.{changes_in, is_point}
use Rattle.mg_model.specs.Effects.{has_deed, deeds_left}
use Rattle.mg_undo.specs.declared.changes.Was.{Was}
use Rattle.mg_undo.specs.declared.changes.Was.TheVariants.{Untouched, Deleted, Row}
use Rattle.mg_undo.specs.declared.changes.Change.{Change}
use Rattle.mg_undo.specs.declared.points.Standing.{Standing}
use Rattle.mg_undo.specs.Undo.{State, after_keep, after_point, after_back_to, has_point, TakesBack}

-- the row that a change gave, or none, as what was
abbrev pub was_given : Option Cells → Was
was_given None = Deleted
was_given (Some row) = Row row

-- what a transaction's own changes have at a key of a table
abbrev pub was_in : List AnyChange → List ℕ → Value → Was
was_in [] table key = Untouched
was_in (c ∷ cs) table key = if is_at c table key then was_given c.row else was_in cs table key

-- the changes among deeds as they are kept, each with what the own changes before it had at its key.
-- `number` gives the number of a table
abbrev pub changes_of : (List ℕ → ℕ) → List Deed → List Change
changes_of number [] = []
changes_of number (Changed c ∷ deeds) =
    record { table = number c.table; key = c.key; was = was_in (changes_in deeds) c.table c.key }
    ∷ changes_of number deeds
changes_of number (Marked ∷ deeds) = changes_of number deeds
changes_of number (Saved name ∷ deeds) = changes_of number deeds

-- the points among deeds, each with the number of changes before it
abbrev pub points_of : List Deed → List Standing
points_of [] = []
points_of (Changed c ∷ deeds) = points_of deeds
points_of (Marked ∷ deeds) =
    record { name = None; at = length (changes_in deeds) } ∷ points_of deeds
points_of (Saved name ∷ deeds) =
    record { name = Some name; at = length (changes_in deeds) } ∷ points_of deeds

-- the list of a transaction that did this
abbrev pub undo_of : (List ℕ → ℕ) → List Deed → State
undo_of number deeds = record {
  changes = changes_of number deeds;
  points = points_of deeds;
  going_back = false;
}

-- each deed is kept or set as it is made
pub record NotesDeeds : Type 0 where
  pub changed : (number : List ℕ → ℕ) (c : AnyChange) (deeds : List Deed)
      → undo_of number (Changed c ∷ deeds)
      ≡ after_keep (undo_of number deeds) (number c.table) c.key
      (was_in (changes_in deeds) c.table c.key)
  pub marked : (number : List ℕ → ℕ) (deeds : List Deed)
      → undo_of number (Marked ∷ deeds) ≡ after_point (undo_of number deeds) None
  pub saved : (number : List ℕ → ℕ) (name : List ℕ) (deeds : List Deed)
      → undo_of number (Saved name ∷ deeds) ≡ after_point (undo_of number deeds) (Some name)
  pub found : (number : List ℕ → ℕ) (name : List ℕ) (deeds : List Deed)
      → has_point (undo_of number deeds) (Some name) ≡ has_deed (SavepointNamed name) deeds

-- from where the steps of taking back to a point begin
abbrev pub going_to : State → Point → State
going_to state LastMark = state
going_to state (SavepointNamed name) = after_back_to state name

-- the changes since a point, the newest first
abbrev pub changes_since : Point → List Deed → List AnyChange
changes_since point [] = []
changes_since point (Changed c ∷ deeds) = c ∷ changes_since point deeds
changes_since point (Marked ∷ deeds) =
    if is_point point Marked then [] else changes_since point deeds
changes_since point (Saved name ∷ deeds) =
    if is_point point (Saved name) then [] else changes_since point deeds

-- some change is of the same key of the same table
abbrev pub has_same : AnyChange → List AnyChange → Bool
has_same c [] = false
has_same c (d ∷ ds) = is_at d c.table c.key || has_same c ds

-- the first change of each key, the newest first
abbrev pub first_of : List AnyChange → List AnyChange
first_of [] = []
first_of (c ∷ cs) = if has_same c cs then first_of cs else c ∷ first_of cs

-- a change as it is given: its table and key, with what some changes have there
abbrev pub given_from : (List ℕ → ℕ) → List AnyChange → AnyChange → Change
given_from number changes c =
    record { table = number c.table; key = c.key; was = was_in changes c.table c.key }

-- the table of a change is told apart from those of others by its number
abbrev pub TellsFrom : (List ℕ → ℕ) → AnyChange → List AnyChange → Type 0
TellsFrom number c [] = Unit {0}
TellsFrom number c (d ∷ ds) = (number d.table ≡ number c.table → same_name d.table c.table ≡ true)
    × TellsFrom number c ds

-- the tables of these changes are told apart by their numbers
abbrev pub TellsApart : (List ℕ → ℕ) → List AnyChange → Type 0
TellsApart number [] = Unit {0}
TellsApart number (c ∷ cs) = TellsFrom number c cs × TellsApart number cs

-- once all is taken back to a point, the list is that of what the machine leaves
abbrev pub GoesBackAsTheMachine : Type 0
GoesBackAsTheMachine = (number : List ℕ → ℕ) (deeds : List Deed) (point : Point)
    (new : State) (given : List Change) → has_deed point deeds ≡ true
    → TakesBack (going_to (undo_of number deeds) point) given new
    → new ≡ undo_of number (deeds_left point deeds)

-- and what was given is, for each key that was changed since the point, what the own changes that
-- are left have there: each key once, and the one that was changed first comes last
abbrev pub GivesWhatWas : Type 0
GivesWhatWas = (number : List ℕ → ℕ) (deeds : List Deed) (point : Point)
    (new : State) (given : List Change) → TellsApart number (changes_since point deeds)
    → has_deed point deeds ≡ true
    → TakesBack (going_to (undo_of number deeds) point) given new
    → given ≡ map (given_from number (changes_in (deeds_left point deeds)))
    (first_of (changes_since point deeds))
