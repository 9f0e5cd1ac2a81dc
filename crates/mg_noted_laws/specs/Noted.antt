-- What a complete directory is: it has each record of a table that has versions, under the bytes of the key of its
-- versions. It may have others.
use Rattle.std.specs.Prelude.{◌≡◌, ◌≢◌, ℕ, [], Some}
use Rattle.mg_base.specs.declared.numbers.RecId.{RecId}
use Rattle.mg_base.specs.declared.transaction.TxState.{TxState}
use Rattle.mg_directory.specs.Candidates.{ByKey, ByTable, IsCandidate, Kept, by_table}
use Rattle.mg_image.specs.Form.{Form, Pages, packed_form}
use Rattle.mg_image.specs.RecordRules.{Facts, table_in}
use Rattle.mg_image.specs.Records.{Reading, record_key}
use Rattle.mg_image.specs.Sound.{IsSoundBy, facts_by}
use Rattle.mg_image.specs.Tables.{Layout}
use Rattle.mg_model.specs.Openings.{everyone}
use Rattle.mg_model.specs.declared.table.Table.{Table}
use Rattle.mg_overlay_laws.specs.Overlays.{left_state}
use Rattle.mg_sortkey.specs.KeyBytes.{key_bytes}

-- each record of the table that begins with a pointer page is in the directory, under the key of its versions
abbrev pub IsNoted : Facts → Reading → ℕ → ByKey → Type 0
IsNoted f r first dir = (p : RecId) (table : Table) → table_in f p ≡ Some table → table.pointer.0 ≡ first
    → r p ≢ [] → IsCandidate (dir (key_bytes (record_key table (r p)))) p

-- each table that has a directory has a complete one
abbrev pub AreNoted : Facts → Reading → ByTable → Type 0
AreNoted f r dirs = (first : ℕ) (dir : ByKey) → dirs first ≡ Some dir → IsNoted f r first dir

-- under each layout and reading by which pages are sound, the directories are complete
abbrev pub HasNoted : Form → ℕ → (ℕ → TxState) → Pages → ByTable → Type 0
HasNoted form size state pages dirs = (layout : Layout) (r : Reading)
    → IsSoundBy form size state pages layout r → AreNoted (facts_by state pages layout) r dirs

-- the directories that an engine keeps are complete, where each active transaction counts as in limbo
abbrev pub HasDirectories : ℕ → (ℕ → TxState) → Pages → Kept → Type 0
HasDirectories size state pages kept =
    HasNoted packed_form size (left_state everyone state) pages (by_table kept.dirs)
