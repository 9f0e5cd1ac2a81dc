-- The active transactions that are in memory, and what calls make of them.
use Rattle.std.specs.Prelude.{◌≡◌, ◌≢◌, ◌<◌, ◌≤◌, ◌==◌, ◌||◌, ◌∷◌, ℕ, Bool, true, false, not, List, [], length, Option, None, Some, if◌then◌else◌, slice_index_or}
use Rattle.std.specs.List.{filter}
use Rattle.mg_base.specs.declared.geometry.TheConstants.{GREATEST_LIMIT}
use Rattle.mg_value.specs.declared.shape.TheConstants.{MOST_COLUMNS}
use Rattle.mg_model.specs.declared.event.Mode.{Mode}
use Rattle.mg_model.specs.declared.table.Table.{Table}
use Rattle.mg_model.specs.Catalog.{table_key}
use Rattle.mg_model.specs.Changes.{same_name}
use Rattle.mg_undo.specs.Undo.{State as Undo, after_back_to, after_keep, after_point, after_retract, has_point, take_back}
use Rattle.mg_undo.specs.Whole.{is_one_of}
use Rattle.mg_undo.specs.declared.changes.Change.{Change}
use Rattle.mg_undo.specs.declared.changes.Was.{Was}
use Rattle.mg_value.specs.declared.value.Value.{Value}

-- What is known of an active transaction.
pub record Working : Type 0 where
  pub number : ℕ
  pub session : ℕ
  pub mode : Mode
  -- what it has to take back
  pub undo : Undo
  -- the tables that were given to it, the last one first
  pub tables : List Table
  -- those that it has written into, the last one first; what it has to take back names each by its first page
  pub written : List Table
  -- whether it has asked for its commit
  pub asked : Bool

-- a transaction that has just begun
abbrev pub begun : ℕ → ℕ → Mode → Working
begun number session mode = record {
  number = number;
  session = session;
  mode = mode;
  undo = record { changes = []; points = []; going_back = false };
  tables = [];
  written = [];
  asked = false;
}

-- what is known of a transaction, none where it is not active
abbrev pub work_of : List Working → ℕ → Option Working
work_of [] t = None
work_of (w ∷ works) t = if w.number == t then Some w else work_of works t

-- whether a session has an active transaction
abbrev pub has_session : List Working → ℕ → Bool
has_session [] session = false
has_session (w ∷ works) session = w.session == session || has_session works session

-- the works, with another one in place of a transaction's, if it is active
abbrev pub with_work : ℕ → (Working → Working) → List Working → List Working
with_work t made [] = []
with_work t made (w ∷ works) = (if w.number == t then made w else w) ∷ with_work t made works

-- the works of the others
abbrev pub without_work : ℕ → List Working → List Working
without_work t works = filter (λ w. not (w.number == t)) works

-- the table of a name among those that were given
abbrev pub given_in : List Table → List ℕ → Option Table
given_in [] name = None
given_in (table ∷ tables) name = if same_name name table.name then Some table else given_in tables name

abbrev pub given_by : Option Working → List ℕ → Option Table
given_by None name = None
given_by (Some w) name = given_in w.tables name

-- the table of a name that was given to a transaction
abbrev pub given_to : List Working → ℕ → List ℕ → Option Table
given_to works t name = given_by (work_of works t) name

-- the table that begins at a page among those that were written into
abbrev pub written_in : List Table → ℕ → Option Table
written_in [] number = None
written_in (table ∷ tables) number = if table.pointer.0 == number then Some table else written_in tables number

abbrev pub written_by : Option Working → ℕ → Option Table
written_by None number = None
written_by (Some w) number = written_in w.written number

-- the table that begins at a page, if the transaction has written into it
abbrev pub written_to : List Working → ℕ → ℕ → Option Table
written_to works t number = written_by (work_of works t) number

-- ---- what a work becomes

-- a mark is set where no name is given, else a savepoint of the name
abbrev pub with_point : Option (List ℕ) → Working → Working
with_point name w = record w { undo = after_point w.undo name }

-- a change of a key of a table is kept, with what was before
abbrev pub with_change : ℕ → Value → Was → Working → Working
with_change table key was w = record w { undo = after_keep w.undo table key was }

-- the last change that was kept is not made after all
abbrev pub without_change : Working → Working
without_change w = record w { undo = after_retract w.undo }

-- the last savepoint of the name is gone back to, if there is one
abbrev pub going_back_to : List ℕ → Working → Working
going_back_to name w = record w { undo = after_back_to w.undo name }

-- one step of taking back was made
abbrev pub with_step_back : Working → Working
with_step_back w = record w { undo = (take_back w.undo).after }

-- what it has to take back is this now
abbrev pub with_undo : Undo → Working → Working
with_undo undo w = record w { undo = undo }

-- the change that the next step of taking back gives, none where the transaction is not active
abbrev pub given_back : Option Working → Option Change
given_back None = None
given_back (Some w) = (take_back w.undo).given

-- whether a savepoint of the name stands
abbrev pub has_savepoint : Option Working → List ℕ → Bool
has_savepoint None name = false
has_savepoint (Some w) name = has_point w.undo (Some name)

-- the tables that were given are no longer known
abbrev pub without_tables : Working → Working
without_tables w = record w { tables = [] }

-- a table was given
abbrev pub with_table : Table → Working → Working
with_table table w = record w { tables = table ∷ w.tables }

-- a table was written into
abbrev pub with_written : Table → Working → Working
with_written table w = record w { written = table ∷ w.written }

-- the tables without those whose rows of the catalog have one of these keys
abbrev pub tables_left : List Value → List Table → List Table
tables_left keys tables = filter (λ table. not (is_one_of keys (table_key table.name))) tables

-- the tables that were written into without those whose rows of the catalog go, under these keys
abbrev pub without_written : List Value → Working → Working
without_written keys w = record w { written = tables_left keys w.written }

-- the commit was asked for
abbrev pub has_asked : Working → Working
has_asked w = record w { asked = true }

-- the commit is no longer asked for
abbrev pub unasked : Working → Working
unasked w = record w { asked = false }

-- ---- what always holds

-- A table that may be given: its columns are no more than tables have, and its first page lies below the
-- greatest limit.
pub record MayBeGiven (table : Table) : Type 0 where
  pub columns : length table.shape.columns ≤ MOST_COLUMNS
  pub pointer : table.pointer.0 < GREATEST_LIMIT

abbrev pub AllMayBeGiven : List Table → Type 0
AllMayBeGiven [] = Unit {0}
AllMayBeGiven (table ∷ tables) = MayBeGiven table × AllMayBeGiven tables

-- what is known of a transaction is lawful by itself
pub record IsWork (w : Working) : Type 0 where
  pub session_below : w.session < 32
  pub lawful : AllMayBeGiven w.tables
  pub written_lawful : AllMayBeGiven w.written

-- each transaction and each session stands once
abbrev pub AreApart : List Working → Type 0
AreApart [] = Unit {0}
AreApart (w ∷ works) = (work_of works w.number ≡ None) × (has_session works w.session ≡ false)
    × IsWork w × AreApart works

-- A place is the first one of a transaction.
pub record IsPlaceOf (works : List Working) (t place : ℕ) : Type 0 where
  pub inside : place < length works
  pub its : (d : Working) → (slice_index_or works place d).number ≡ t
  pub first : (k : ℕ) (d : Working) → k < place → (slice_index_or works k d).number ≢ t

-- no place is a transaction's
abbrev pub IsNowhere : List Working → ℕ → Type 0
IsNowhere works t = (k : ℕ) (d : Working) → k < length works → (slice_index_or works k d).number ≢ t
