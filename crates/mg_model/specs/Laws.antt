-- The laws of the history machine.
use Rattle.std.specs.Prelude.{◌≡◌, ◌⊎◌, ℕ, ◌<◌, ◌≤◌, true, false, List, ◌∷◌, ◌++◌, Option, Some, None, cond}
use Rattle.mg_base.specs.declared.transaction.TxState.TheVariants.{Dead}
use Rattle.mg_value.specs.declared.value.Value.{Value}
use Rattle.mg_model.specs.declared.change.Change.{Change}
use Rattle.mg_model.specs.declared.event.Event.{Event}
use Rattle.mg_model.specs.declared.opening.Opening.{Opening}
use Rattle.mg_model.specs.Changes.{Cells, has_change, row_at, rows_of}
use Rattle.mg_model.specs.Catalog.{key_in}
use Rattle.mg_model.specs.History.{Entry, Entries, transaction_of, Point, Makes, Gives, TakesBack, effect_of}
use Rattle.mg_model.specs.Machine.{next_number, mode_of, state_of, is_of, deeds_by, steps, database, base, own, view, cut_at_base}
use Rattle.mg_model.specs.Answers.{told, is_committed, can_hinder, obstacle, waits_on, leads_to, catalog_of}
use Rattle.mg_model.specs.Legal.{MayBegin, IsLegal, is_limbo, after_durable, durable_count, durable_database, durable_limbo, durable_changes}
use Rattle.mg_model.specs.NewDatabase.{new_opening}
use Rattle.mg_model.specs.Openings.{IsOpening}
use Rattle.mg_model.specs.declared.opening.TheConstants.{MOST_TRANSACTIONS}
use Rattle.mg_model.specs.Scenarios.{run}
use Rattle.mg_model.specs.DeedLaws.{deeds_after}
use Rattle.mg_model.specs.WrittenLaws.{change_by, LeavesKey}
use Rattle.mg_model.specs.Effects.{drawn, commits, changes_of, is_its, has_deed, points_since, StaysWithin, setting}
use Rattle.mg_model.specs.RowLaws.{IsAscending, row_in}
use Rattle.mg_model.specs.CommitLaws.{Has, IsSettled}
use Rattle.mg_model.specs.OverlapLaws.{BothChange, AreInTurn}

-- ---- views and bases

-- the view of a transaction does not change by an event that is not its own and does not draw its
-- number
abbrev pub ViewStands : Type 0
ViewStands = (o : Opening) (h : Entries) (e : Entry) (t : ℕ)
    → is_of t (transaction_of e.event) ≡ false → is_of t (drawn (effect_of e)) ≡ false
    → view o (e ∷ h) t ≡ view o h t

-- an entry that does nothing of a transaction and does not begin it leaves its deeds, its state, its
-- mode and its base, and where it took that
abbrev pub OthersLeaveIt : Type 0
OthersLeaveIt = (o : Opening) (h : Entries) (e : Entry) (t : ℕ) → is_its t e ≡ false
    → (deeds_by t (steps o (e ∷ h)) ≡ deeds_by t (steps o h))
    × (state_of o (e ∷ h) t ≡ state_of o h t) × (mode_of (e ∷ h) t ≡ mode_of h t)
    × (base o (e ∷ h) t ≡ base o h t) × (cut_at_base (e ∷ h) t ≡ cut_at_base h t)

-- a transaction that reads by one snapshot takes no other base
abbrev pub SnapshotStands : Type 0
SnapshotStands = (o : Opening) (h : Entries) (e : Entry) (t : ℕ)
    → (mode_of h t).snapshot ≡ true → is_of t (drawn (effect_of e)) ≡ false
    → base o (e ∷ h) t ≡ base o h t

-- an entry adds one deed to a transaction's, takes back some, or leaves them
abbrev pub DeedsFollow : Type 0
DeedsFollow = (o : Opening) (h : Entries) (e : Entry) (t : ℕ)
    → deeds_by t (steps o (e ∷ h))
    ≡ deeds_after (effect_of e) t (catalog_of (told o h) t) (deeds_by t (steps o h))

-- in a legal history no number is drawn twice
abbrev pub IsDrawnOnce : Type 0
IsDrawnOnce = (o : Opening) (h : Entries) (e : Entry) (t : ℕ) → IsLegal o (e ∷ h)
    → t < next_number o h → is_of t (drawn (effect_of e)) ≡ false

-- the database after an event is the database before it, with the changes of the transaction that
-- it commits, if it commits one
abbrev pub OnlyCommitsCount : Type 0
OnlyCommitsCount = (o : Opening) (h : Entries) (e : Entry)
    → database o (e ∷ h) ≡ changes_of (commits (effect_of e)) (own o h) ++ database o h

-- a base is the database of the history cut where it was taken
abbrev pub BaseIsCut : Type 0
BaseIsCut = (o : Opening) (h : Entries) (t : ℕ) → base o h t ≡ database o (cut_at_base h t)

-- what outlasts a crash after all durable events is the database that there is
abbrev pub DurableIsAll : Type 0
DurableIsAll = (o : Opening) (h : Entries)
    → durable_database o h (durable_count h) ≡ database o h

-- in a legal history, who is committed after all durable events is who is committed
abbrev pub CommittedOutlast : Type 0
CommittedOutlast = (o : Opening) (h : Entries) (t : ℕ) → MayBegin o → IsLegal o h
    → is_committed (state_of o (after_durable h (durable_count h)) t) ≡ is_committed (state_of o h t)

-- in a legal history, who is in limbo after all durable events is who is in limbo
abbrev pub LimboOutlasts : Type 0
LimboOutlasts = (o : Opening) (h : Entries) (t : ℕ) → MayBegin o → IsLegal o h
    → durable_limbo o h (durable_count h) t ≡ is_limbo (state_of o h t)

-- and the changes of who is in limbo are those that it has
abbrev pub LimboChangesOutlast : Type 0
LimboChangesOutlast = (o : Opening) (h : Entries) (t : ℕ) → MayBegin o → IsLegal o h
    → is_limbo (state_of o h t) ≡ true → durable_changes o h (durable_count h) t ≡ own o h t

-- a history may begin with an opening that a database gives
abbrev pub OpeningsBegin : Type 0
OpeningsBegin = (o : Opening) → IsOpening o → MayBegin o

-- a new database is an opening
abbrev pub NewIsOpening : Type 0
NewIsOpening = (limit free : ℕ) → 1 ≤ limit → limit ≤ MOST_TRANSACTIONS → IsOpening (new_opening limit free)

-- a legal history in which the machine goes on to answer stays legal
abbrev pub GoesOnLegally : Type 0
GoesOnLegally = (o : Opening) (h : Entries) (events : List Event) → IsLegal o h
    → IsLegal o (run o h events)

-- ---- what a transaction wrote

-- what a transaction gives a key it reads there
abbrev pub ReadsGiven : Type 0
ReadsGiven = (o : Opening) (h : Entries) (e : Entry) (t : ℕ) (table : List ℕ) (key : Value)
    (row : Option Cells) → effect_of e ≡ Gives t table key row
    → row_at (view o (e ∷ h) t) table key ≡ row

-- a row that a transaction makes it reads at its key
abbrev pub ReadsMade : Type 0
ReadsMade = (o : Opening) (h : Entries) (e : Entry) (t : ℕ) (table : List ℕ) (row : Cells)
    → effect_of e ≡ Makes t table row
    → row_at (view o (e ∷ h) t) table (key_in (catalog_of (told o h) t) table row) ≡ Some row

-- what a transaction wrote it reads after any events in which it is not taken back to before the
-- write and doesn't write the key again
abbrev pub ReadsWritten : Type 0
ReadsWritten = (o : Opening) (h : Entries) (e : Entry) (t : ℕ) (c : Change) (since : Entries)
    → change_by (effect_of e) t (catalog_of (told o h) t) ≡ Some c → StaysWithin t since
    → LeavesKey o (e ∷ h) t c.table c.key since
    → row_at (view o (since ++ (e ∷ h)) t) c.table c.key ≡ c.row

-- as long as its own changes have a key, a transaction reads what they have there
abbrev pub ReadsOwn : Type 0
ReadsOwn = (o : Opening) (h : Entries) (t : ℕ) (table : List ℕ) (key : Value)
    → has_change (own o h t) table key ≡ true
    → row_at (view o h t) table key ≡ row_at (own o h t) table key

-- at each other key it reads its base
abbrev pub ReadsBase : Type 0
ReadsBase = (o : Opening) (h : Entries) (t : ℕ) (table : List ℕ) (key : Value)
    → has_change (own o h t) table key ≡ false
    → row_at (view o h t) table key ≡ row_at (base o h t) table key

-- ---- taking back

-- a transaction sets a mark or a savepoint, then come events since, in which it is taken back only
-- to points that it set in them and sets no such point that stands, and then it is taken back to it
pub record IsTakenBack (t : ℕ) (point : Point) (sets : Entry) (since : Entries) (undoes : Entry)
    : Type 0 where
  pub sets_it : effect_of sets ≡ setting t point
  pub within : StaysWithin t since
  pub is_last : has_deed point (points_since t since) ≡ false
  pub undoes_it : effect_of undoes ≡ TakesBack t point

-- then its own changes are those from before the point
abbrev pub OwnIsRestored : Type 0
OwnIsRestored = (o : Opening) (h : Entries) (t : ℕ) (point : Point) (sets : Entry) (since : Entries)
    (undoes : Entry) → IsTakenBack t point sets since undoes
    → own o (undoes ∷ (since ++ (sets ∷ h))) t ≡ own o h t

-- and if it reads by one snapshot, so is its view
abbrev pub ViewIsRestored : Type 0
ViewIsRestored = (o : Opening) (h : Entries) (t : ℕ) (point : Point) (sets : Entry)
    (since : Entries) (undoes : Entry) → IsTakenBack t point sets since undoes
    → (mode_of h t).snapshot ≡ true
    → view o (undoes ∷ (since ++ (sets ∷ h))) t ≡ view o h t

-- ---- several transactions

-- in a legal history, of two transactions that stand and have both changed a key, one was committed
-- when the other took its base
abbrev pub WritersTakeTurns : Type 0
WritersTakeTurns = (o : Opening) (h : Entries) (t u : ℕ) (table : List ℕ) (key : Value)
    → MayBegin o → IsLegal o h → BothChange o h t u table key → AreInTurn o h t u

-- in a legal history each change in a view is the transaction's own, the opening's, or one of a
-- transaction that was committed when the base was taken
abbrev pub ViewIsSettled : Type 0
ViewIsSettled = (o : Opening) (h : Entries) (t : ℕ) (c : Change) → MayBegin o → IsLegal o h
    → Has (view o h t) c → Has (own o h t) c ⊎ IsSettled o (cut_at_base h t) c

-- in a legal history committed stays committed, with the same changes
abbrev pub CommittedStays : Type 0
CommittedStays = (o : Opening) (h : Entries) (e : Entry) (t : ℕ) → MayBegin o → IsLegal o (e ∷ h)
    → is_committed (state_of o h t) ≡ true
    → (state_of o (e ∷ h) t ≡ state_of o h t) × (own o (e ∷ h) t ≡ own o h t)

-- in a legal history dead stays dead, once the number is drawn
abbrev pub DeadStays : Type 0
DeadStays = (o : Opening) (h : Entries) (e : Entry) (t : ℕ) → MayBegin o → IsLegal o (e ∷ h)
    → t < next_number o h → state_of o h t ≡ Dead → state_of o (e ∷ h) t ≡ Dead

-- in a legal history, following who waits for whom from one for whom a transaction waits never
-- comes back to it
abbrev pub WaitsEnd : Type 0
WaitsEnd = (o : Opening) (h : Entries) (t u most : ℕ) → MayBegin o → IsLegal o h
    → waits_on (told o h) t ≡ Some u → leads_to (waits_on (told o h)) most u t ≡ false

-- an obstacle is a transaction that can be in the way, and its own changes have the key
abbrev pub ObstacleIsThere : Type 0
ObstacleIsThere = (o : Opening) (h : Entries) (t : ℕ) (table : List ℕ) (key : Value) (u : ℕ)
    → obstacle (told o h) t table key ≡ Some u
    → (can_hinder (told o h) t u ≡ true) × (has_change (own o h u) table key ≡ true)

-- where there is none, nobody whose own changes have the key can be in the way
abbrev pub NoneIsThere : Type 0
NoneIsThere = (o : Opening) (h : Entries) (t : ℕ) (table : List ℕ) (key : Value) (u : ℕ)
    → obstacle (told o h) t table key ≡ None → has_change (own o h u) table key ≡ true
    → can_hinder (told o h) t u ≡ false

-- ---- rows

-- the rows of a table come in ascending key order, and no key twice
abbrev pub RowsAscend : Type 0
RowsAscend = (cs : List Change) (table : List ℕ) → IsAscending (rows_of cs table)

-- the row with a key among them is the one that the changes have there
abbrev pub RowsAreThose : Type 0
RowsAreThose = (cs : List Change) (table : List ℕ) (key : Value)
    → row_in (rows_of cs table) key ≡ row_at cs table key

-- where changes are laid over others, a key has the upper row if one of them is of it
abbrev pub UpperDecides : Type 0
UpperDecides = (xs ys : List Change) (table : List ℕ) (key : Value)
    → row_at (xs ++ ys) table key
    ≡ cond (has_change xs table key) (row_at xs table key) (row_at ys table key)
