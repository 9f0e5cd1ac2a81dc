-- What a keeper of records means.
use Rattle.std.specs.Prelude.{ℕ, Bool, List, Option}
use Rattle.mg_base.specs.Image.{Image}
use Rattle.mg_model.specs.declared.opening.Opening.{Opening}
use Rattle.mg_model.specs.declared.table.Table.{Table}
use Rattle.mg_model.specs.Changes.{KeyedRows}
use Rattle.mg_model.specs.History.{Entries}

-- What is known of a keeper of records. Moments are numbers of its own clock, which never falls.
pub record Means (R P : Type 0) : Type 1 where
  -- it stands for the history that begins so and has these entries; read from what it holds now
  pub stands : R → Opening → Entries → Type 0
  -- the table of a name that was given to a transaction and that it still sees
  pub table : R → ℕ → List ℕ → Option Table
  -- no active transaction was begun by this session; this active transaction was begun by this session
  pub is_free : R → ℕ → Type 0
  pub works : R → ℕ → ℕ → Type 0
  -- this table was given; this place was given for the table
  pub was_given : R → Table → Type 0
  pub is_place : R → Table → P → Type 0
  -- the rows of a table, with their keys, that a transaction still comes to behind a place, none for
  -- the beginning, in the order in which they are visited
  pub to_come : R → ℕ → Table → Option P → KeyedRows → Type 0
  -- a record stands at this place, to which a transaction's walk over the table has come
  pub has_record : R → ℕ → Table → P → Type 0
  -- a number that falls with each visit, so that a walk ends
  pub still : R → ℕ → Table → Option P → ℕ
  -- how many pages are changed and not written
  pub unwritten : R → ℕ
  -- a transaction's commit was asked for; all that was noted for it was written since
  pub is_asked : R → ℕ → Type 0
  pub is_written : R → ℕ → Type 0
  -- whether it tells what a crash may leave, and what a crash at that moment or a later one might
  -- have left
  pub tells : R → Bool
  pub moment : R → ℕ
  pub left : R → ℕ → Image → Type 0
  -- an image holds what outlasts a crash after some durable event of a history, and after so many at
  -- least
  pub holds : R → Opening → Entries → ℕ → Image → Type 0
  -- how often the disk failed, and how many of these faults were of page writes or of settling; how often a page was
  -- found damaged, and how often pages were short
  pub faults : R → ℕ
  pub failed_writes : R → ℕ
  pub damage : R → ℕ
  pub shortages : R → ℕ
  -- how many pages it may have at most
  pub page_limit : R → ℕ
  -- so many pages are free at least
  pub has_free : R → ℕ → Type 0
  -- whether the room that the end of a transaction needs is taken when it begins
  pub reserves_ends : Bool
  -- how many page writes the disk was asked for
  pub asked : R → ℕ
  -- how many page writes pass in all, where there is such a limit
  pub most_writes : R → Option ℕ
  -- the count with which a page write failed, once one has
  pub down : R → Option ℕ
  -- the sizes of its pages; one that has no pages has each size
  pub is_size : R → ℕ → Bool
