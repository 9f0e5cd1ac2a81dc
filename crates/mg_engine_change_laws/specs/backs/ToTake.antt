-- Which changes a transaction takes back to a point, and which are still to be taken back after some keys.
use Rattle.std.specs.Prelude.{◌≡◌, ℕ, Bool, true, false, List, [], ◌∷◌, Option, None, Some}
use Rattle.mg_engine_step_laws.specs.backs.Again.{AreTaken, without_key}
use Rattle.mg_image.specs.Histories.{newest_at}
use Rattle.mg_image.specs.Records as records
use Rattle.mg_model.specs.Changes.{has_change}
use Rattle.mg_model.specs.Effects.{has_deed}
use Rattle.mg_model.specs.History.{Entries, Entry, TakesBack, effect_of}
use Rattle.mg_model.specs.Machine.{deeds_by, steps}
use Rattle.mg_model.specs.declared.change.Change.{Change}
use Rattle.mg_model.specs.declared.change.Deed.{Deed}
use Rattle.mg_model.specs.declared.change.Point.{Point}
use Rattle.mg_model.specs.declared.opening.Opening.{Opening}
use Rattle.mg_undo.specs.Machine.{changes_since, first_of, has_same, was_in}
use Rattle.mg_undo.specs.declared.changes.Was.{Was}
use Rattle.mg_undo.specs.declared.changes.Was.TheVariants.{Deleted, Row, Untouched}
use Rattle.mg_value.specs.declared.value.Value.{Value}

-- the changes since a point, none where that does not stand
abbrev pub since_if : Bool → Point → List Deed → List Change
since_if true point deeds = changes_since point deeds
since_if false point deeds = []

abbrev pub since_point : Point → List Deed → List Change
since_point point deeds = since_if (has_deed point deeds) point deeds

-- over those that the transaction is left with they are all that it has made
abbrev pub SinceAreTaken : Type 0
SinceAreTaken = (o : Opening) (h : Entries) (e : Entry) (t : ℕ) (point : Point)
    → effect_of e ≡ TakesBack t point → AreTaken o h e t (since_point point (deeds_by t (steps o h)))

-- what was at a key, by the newest change there
abbrev pub was_of : Option records.Change → Was
was_of None = Untouched
was_of (Some (records.Puts row)) = Row row
was_of (Some records.Erases) = Deleted

-- so it is told by what the transaction is left with
abbrev pub WasIsTold : Type 0
WasIsTold = (cs : List Change) (name : List ℕ) (key : Value) → was_in cs name key ≡ was_of (newest_at cs name key)

-- ---- keys one after another

-- each of these changes has a property
abbrev pub EachChange : (Change → Type 0) → List Change → Type 0
EachChange P [] = Unit {0}
EachChange P (c ∷ cs) = P c × EachChange P cs

-- no two of these are of one key of a table
abbrev pub AreOfOtherKeys : List Change → Type 0
AreOfOtherKeys [] = Unit {0}
AreOfOtherKeys (c ∷ cs) = (has_same c cs ≡ false) × AreOfOtherKeys cs

-- The keys of some changes are those that others are of, each once.
pub record AreKeysOf (keys left : List Change) : Type 0 where
  pub each : EachChange (λ c. has_change left c.table c.key ≡ true) keys
  pub apart : AreOfOtherKeys keys
  pub whole : (name : List ℕ) (key : Value) → has_change left name key ≡ true
      → has_change keys name key ≡ true

-- The first change of each key tells the keys; each is taken back in turn, and at the end none is left.
pub record KeysAreTaken : Type 0 where
  pub first : (cs : List Change) → AreKeysOf (first_of cs) cs
  pub next : (c : Change) (keys left : List Change) → AreKeysOf (c ∷ keys) left
      → AreKeysOf keys (without_key c.table c.key left)
  pub end : (left : List Change) → AreKeysOf [] left → left ≡ []
