-- A table is kept as one that a transaction writes into.
use Rattle.std.specs.Prelude.{◌≡◌, ℕ, true, List, Some, is_some}
use Rattle.mg_base.specs.Disk.{Meaning}
use Rattle.mg_model.specs.declared.opening.Opening.{Opening}
use Rattle.mg_model.specs.declared.table.Table.{Table}
use Rattle.mg_model.specs.History.{Entries}
use Rattle.mg_works.specs.Works.{Working, given_to, has_session, work_of, written_to}
use Rattle.mg_core.specs.declared.parts.Core.{Core}
use Rattle.mg_engine_meaning_laws.specs.Standings.{StandsFor, asked_kept, mode_kept, session_kept, undo_kept}
use Rattle.mg_taking_back.specs.Noting.{noted, with_noted}

-- What counts of the works is as it was: how each transaction runs, by which session, what it has to take back, whether
-- it has asked for its commit, the tables that were given to it, and which sessions have one.
pub record WorksStay (works now : List Working) : Type 0 where
  pub mode : (u : ℕ) → mode_kept (work_of now u) ≡ mode_kept (work_of works u)
  pub session : (u : ℕ) → session_kept (work_of now u) ≡ session_kept (work_of works u)
  pub undo : (u : ℕ) → undo_kept (work_of now u) ≡ undo_kept (work_of works u)
  pub asked : (u : ℕ) → asked_kept (work_of now u) ≡ asked_kept (work_of works u)
  pub given : (u : ℕ) (name : List ℕ) → given_to now u name ≡ given_to works u name
  pub free : (session : ℕ) → has_session now session ≡ has_session works session

abbrev pub NotedWorksStay : Type 0
NotedWorksStay = (t : ℕ) (table : Table) (works : List Working) → WorksStay works (noted t table works)

-- the table is kept then, by its first page
abbrev pub NotedTablesAreKept : Type 0
NotedTablesAreKept = (t : ℕ) (table : Table) (works : List Working) (work : Working) → work_of works t ≡ Some work
    → is_some (written_to (noted t table works) t table.pointer.0) ≡ true

-- a table that was given to its transaction is kept: the engine stands for the history that it stood for
abbrev pub NotesStay : (D : Type 0) → Meaning D → Type 0
NotesStay D m = (core : Core D) (t : ℕ) (table : Table) (o : Opening) (h : Entries)
    → given_to core.works t table.name ≡ Some table → StandsFor m core o h
    → StandsFor m (with_noted t table core) o h
