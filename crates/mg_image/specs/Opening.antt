-- What opening an image gives: what it holds, and what has become of each transaction.
use Rattle.std.specs.Prelude.{◌≡◌, ◌⊎◌, ◌<◌, ◌≤◌, ℕ, List, Option, None}
use Rattle.mg_base.specs.Image.{blank}
use Rattle.mg_base.specs.declared.geometry.TheConstants.{GREATEST_LIMIT}
use Rattle.mg_base.specs.declared.transaction.TxState.{TxState}
use Rattle.mg_base.specs.declared.transaction.TxState.TheVariants.{Committed}
use Rattle.mg_value.specs.declared.value.Value.{Value}
use Rattle.mg_model.specs.Changes.{row_at}
use Rattle.mg_model.specs.Machine.{opening_rows}
use Rattle.mg_model.specs.NewDatabase.{new_opening}
use Rattle.mg_image.specs.Form.{Form, Pages, Row}
use Rattle.mg_image.specs.Held.{AreChanges, Changes, Database, IsHeld}
use Rattle.mg_image.specs.Inventory.{next_of, state_at}
use Rattle.mg_image.specs.NewDatabase.{IsNewPage}
use Rattle.mg_image.specs.RecordRules.{committed_in}
use Rattle.mg_image.specs.Records.{Reading}
use Rattle.mg_image.specs.Sound.{IsSound, facts_of}
use Rattle.mg_image.specs.Tables.{Layout}

-- What opening an image gives: a database, the changes of limbo transactions, the number of the
-- next transaction, and what has become of each one below it.
pub record Opened : Type 0 where
  pub rows : Database
  pub limbo : Changes
  pub next : ℕ
  pub state : ℕ → TxState

-- A database may be made on an image: page 0 is all zero, and each other page is too, or it is that
-- page of a new database. A crash while a database is made leaves such an image; one whose header
-- was damaged is not.
pub record IsUnmade (form : Form) (size : ℕ) (pages : Pages) : Type 0 where
  pub header : pages 0 ≡ blank size
  pub others : (n : ℕ) → 1 ≤ n → n < GREATEST_LIMIT
      → (pages n ≡ blank size) ⊎ IsNewPage form.coding size n (pages n)

-- the row of a new database at a key of a table
abbrev pub new_row : List ℕ → Value → Option Row
new_row name key = row_at (opening_rows (new_opening 1 0)) name key

-- What opening an image gives on which a database is made: a new database.
pub record IsNew (opened : Opened) : Type 0 where
  pub rows : (name : List ℕ) (key : Value) → opened.rows name key ≡ new_row name key
  pub limbo : (t : ℕ) (name : List ℕ) (key : Value) → opened.limbo t name key ≡ None
  pub next : opened.next ≡ 1
  pub state : opened.state 0 ≡ Committed

-- A sound image gives this.
pub record IsOpened (form : Form) (size : ℕ) (pages : Pages) (opened : Opened) : Type 0 where
  pub layout : Layout
  pub reading : Reading
  pub sound : IsSound form size pages layout reading
  pub held : IsHeld (facts_of size pages layout) (committed_in (facts_of size pages layout)) reading
      opened.rows
  pub limbo : AreChanges (facts_of size pages layout) reading opened.limbo
  pub next : opened.next ≡ next_of pages
  pub state : (t : ℕ) → t < opened.next → opened.state t ≡ state_at size pages t

-- a database may be made on an image, which holds a new one so, or it is sound and holds what its records show
pub data Holds (form : Form) (size : ℕ) (pages : Pages) (opened : Opened) : Type 0 where
  unmade_image : IsUnmade form size pages → IsNew opened → Holds form size pages opened
  sound_image : IsOpened form size pages opened → Holds form size pages opened
