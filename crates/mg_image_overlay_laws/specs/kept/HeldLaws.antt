-- Each sound image holds a database, with the changes of its transactions in limbo.
use Rattle.std.proofs.Common.{ℕ}
use Rattle.mg_base.specs.declared.transaction.TxState.{TxState}
use Rattle.mg_image.specs.Form.{Form, Pages}
use Rattle.mg_image.specs.Held.{AreChanges, Changes, Database, IsHeld}
use Rattle.mg_image.specs.Opening.{Holds, Opened}
use Rattle.mg_image.specs.RecordRules.{Facts, committed_in}
use Rattle.mg_image.specs.Records.{Reading}
use Rattle.mg_image.specs.Sound.{IsSound, IsSoundBy, facts_by}
use Rattle.mg_image.specs.Tables.{Layout}

-- What a reading of an image holds.
pub record HoldsSome (f : Facts) (r : Reading) : Type 0 where
  pub rows : Database
  pub held : IsHeld f (committed_in f) r rows
  pub changes : Changes
  pub changed : AreChanges f r changes

-- under a given state of the transactions
abbrev pub SoundHolds : Form → Type 0
SoundHolds form = (size : ℕ) (state : ℕ → TxState) (pages : Pages) (layout : Layout) (r : Reading)
    → IsSoundBy form size state pages layout r → HoldsSome (facts_by state pages layout) r

-- and by its own bits: opening it gives something
abbrev pub SoundOpens : Form → Type 0
SoundOpens form = (size : ℕ) (pages : Pages) (layout : Layout) (r : Reading)
    → IsSound form size pages layout r → (opened : Opened) × Holds form size pages opened
