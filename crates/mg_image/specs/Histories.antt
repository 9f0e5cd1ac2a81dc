-- What an image holds, in the terms of histories.
use Rattle.std.specs.Prelude.{◌≡◌, ◌<◌, ◌≤◌, ℕ, Bool, true, false, List, [], ◌∷◌, Option, Some, None, if◌then◌else◌}
use Rattle.mg_value.specs.declared.value.Value.{Value}
use Rattle.mg_model.specs.declared.change.Change.{Change}
use Rattle.mg_model.specs.declared.opening.Opening.{Opening}
use Rattle.mg_model.specs.Changes.{is_at, row_at}
use Rattle.mg_model.specs.History.{Entries}
use Rattle.mg_model.specs.Answers.{is_committed}
use Rattle.mg_model.specs.Legal.{after_durable, durable_changes, durable_database, durable_limbo, is_limbo}
use Rattle.mg_model.specs.Machine.{opening_rows, opening_state, own, state_of}
use Rattle.mg_model.specs.Openings.{IsOpening}
use Rattle.mg_image.specs.Form.{Form, Pages, Row}
use Rattle.mg_image.specs.Opening.{Holds, Opened}
use Rattle.mg_image.specs.Records as records

-- what a transaction does to a row that it gives, or deletes
abbrev pub row_change : Option Row → records.Change
row_change None = records.Erases
row_change (Some row) = records.Puts row

-- the newest of some changes at a key of a table, if there is one
abbrev pub newest_at : List Change → List ℕ → Value → Option records.Change
newest_at [] table key = None
newest_at (c ∷ cs) table key =
    if is_at c table key then Some (row_change c.row) else newest_at cs table key

-- A history begins with what an image holds.
pub record Begins (opened : Opened) (o : Opening) : Type 0 where
  pub rows : (name : List ℕ) (key : Value)
      → opened.rows name key ≡ row_at (opening_rows o) name key
  pub limbo : (t : ℕ) (name : List ℕ) (key : Value)
      → opened.limbo t name key ≡ newest_at (own o [] t) name key
  pub next : opened.next ≡ o.next.0
  pub state : (t : ℕ) → t < opened.next → opened.state t ≡ opening_state o t

-- Opening an image gives this to begin a history with: what the image holds, and it is whole. Laws
-- that need less of an opening take `Begins` alone.
pub record GivesOpening (form : Form) (size : ℕ) (pages : Pages) (o : Opening) : Type 0 where
  pub opened : Opened
  pub holds : Holds form size pages opened
  pub begins : Begins opened o
  pub whole : IsOpening o

-- a transaction is committed after the k-th durable event of a history
abbrev pub durable_committed : Opening → Entries → ℕ → ℕ → Bool
durable_committed o h k t = is_committed (state_of o (after_durable h k) t)

-- An image holds what outlasts a crash after the k-th durable event of a history: the database,
-- which transactions are committed and which in limbo, and the changes of those.
pub record HoldsDurable (form : Form) (size : ℕ) (pages : Pages) (o : Opening) (h : Entries) (k : ℕ)
    : Type 0 where
  pub opened : Opened
  pub holds : Holds form size pages opened
  pub rows : (name : List ℕ) (key : Value)
      → opened.rows name key ≡ row_at (durable_database o h k) name key
  pub committed : (t : ℕ) → t < opened.next
      → is_committed (opened.state t) ≡ durable_committed o h k t
  pub limbo : (t : ℕ) → t < opened.next → is_limbo (opened.state t) ≡ durable_limbo o h k t
  -- no transaction is from the image's Next on
  pub undrawn : (t : ℕ) → opened.next ≤ t
      → (durable_committed o h k t ≡ false) × (durable_limbo o h k t ≡ false)
  pub changes : (t : ℕ) (name : List ℕ) (key : Value) → durable_limbo o h k t ≡ true
      → opened.limbo t name key ≡ newest_at (durable_changes o h k t) name key
