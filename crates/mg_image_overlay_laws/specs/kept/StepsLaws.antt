-- The laws of one image that counts among the engine's promises, for a form.
use Rattle.std.proofs.Common.{◌≡◌, ◌≢◌, ◌≤◌, ◌/◌, ◌%◌, ℕ}
use Rattle.mg_base.specs.declared.transaction.TxState.{TxState}
use Rattle.mg_base.specs.declared.transaction.TxState.TheVariants.{Limbo}
use Rattle.mg_tip.specs.TipPage.{places}
use Rattle.mg_image.specs.Form.{Form, Pages}
use Rattle.mg_image.specs.Held.{AreChanges, Changes, Database, IsHeld}
use Rattle.mg_image.specs.Indexes.{EachPage}
use Rattle.mg_image.specs.Inventory.{last_sequence, next_of, tip_page}
use Rattle.mg_image.specs.RecordRules.{committed_in}
use Rattle.mg_image.specs.Records.{Reading}
use Rattle.mg_image.specs.Sound.{IsSoundBy, facts_by}
use Rattle.mg_image.specs.Tables.{Layout}
use Rattle.mg_image_overlay_laws.specs.transactions.Bits.{ChangesTip}
use Rattle.mg_image_overlay_laws.specs.transactions.CommitSound.{committing}
use Rattle.mg_image_overlay_laws.specs.pages.DataSound.{KeepsTrees}
use Rattle.mg_image.specs.OwnTables.{HasOwnChanges}

-- a sound image stays sound where a transaction in limbo is committed
abbrev pub CommitStaysSound : Form → Type 0
CommitStaysSound form = (size : ℕ) (state : ℕ → TxState) (t : ℕ) (pages : Pages) (layout : Layout)
    (r : Reading) → state t ≡ Limbo → IsSoundBy form size state pages layout r
    → IsSoundBy form size (committing t state) pages layout r

-- under a given state it stays sound where the bits of a drawn transaction are others
abbrev pub BitsStaySound : Form → Type 0
BitsStaySound form = (size : ℕ) (state : ℕ → TxState) (old new : Pages) (b k : ℕ) (layout : Layout)
    (r : Reading) → IsSoundBy form size state old layout r → ChangesTip old new b k
    → ((t : ℕ) → next_of old ≤ t → t / places size ≡ last_sequence size old
    → tip_page size old (last_sequence size old) ≡ b → t % places size ≢ k)
    → KeepsTrees old new size layout
    → EachPage (λ n. form.sequence_page (new n) n) layout.sequences
    → IsSoundBy form size state new layout r

-- whose versions a table of it has, in terms of the database and of the changes that it holds
abbrev pub TablesHaveMakers : Form → Type 0
TablesHaveMakers form = (size : ℕ) (state : ℕ → TxState) (pages : Pages) (layout : Layout)
    (r : Reading) → IsSoundBy form size state pages layout r → (db : Database) (changes : Changes)
    → IsHeld (facts_by state pages layout) (committed_in (facts_by state pages layout)) r db
    → AreChanges (facts_by state pages layout) r changes
    → HasOwnChanges (facts_by state pages layout) r db changes
