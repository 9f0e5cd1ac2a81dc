-- The walk over the versions of a record, from the newest back: how far it comes, and what is found
-- where it can't go on.
use Rattle.std.specs.Prelude.{◌≡◌, ◌≢◌, ◌<◌, ◌==◌, ◌-◌, ◌^◌, ◌/◌, ◌&&◌, ◌||◌, ℕ, Bool, true, false, List, [], ◌∷◌, Option, None, Some, length}
use Rattle.std.proofs.Common.{get_or}
use Rattle.mg_base.specs.declared.damage.Field.{Field}
use Rattle.mg_base.specs.declared.damage.Field.TheVariants as fields
use Rattle.mg_base.specs.declared.numbers.RecId.{RecId}
use Rattle.mg_check_data.specs.DataRung.{wanted_of}
use Rattle.mg_findings.specs.declared.finding.Finding.{Finding}
use Rattle.mg_findings.specs.declared.finding.Rule.TheVariants.{Damage}
use Rattle.mg_image.specs.declared.entry.Entry.{Entry}
use Rattle.mg_image.specs.Form.{Row}
use Rattle.mg_image.specs.RecordRules.{IsKeyAlone, columns_for}
use Rattle.mg_image.specs.Records.{Cells}
use Rattle.mg_image.specs.Tables.{Has}
use Rattle.mg_model.specs.declared.table.Table.{Table}
use Rattle.mg_rle.specs.Runs.{BreaksAt}
use Rattle.mg_rowcode.specs.Faults.{DecodesTo, RefusesRow}
use Rattle.mg_rowcode.specs.Storable.{AreStorable}
use Rattle.mg_value.specs.declared.shape.Column.{Column}
use Rattle.mg_value.specs.declared.value.Value.TheVariants.{Null}
use Rattle.mg_value.specs.Rows.{columns_of, row_len_of}
use Rattle.mg_version.specs.declared.cell.Cell.{Cell}
use Rattle.mg_version.specs.declared.cell.Cell.TheVariants as cells
use Rattle.mg_version.specs.declared.cell.Link.{Link}
use Rattle.mg_version.specs.declared.cell.Version.{Version}

-- ---- which cells were met

-- whether a cell was met before, in this record or in one before it
abbrev pub Met : Type 0
Met = RecId → Bool

-- whether two places are one
abbrev pub is_place : RecId → RecId → Bool
is_place x y = (x.page.0 == y.page.0) && (x.slot == y.slot)

-- one cell more
abbrev pub and_met : RecId → Met → Met
and_met x met y = is_place x y || met y

-- those of these versions more
abbrev pub all_met : List Entry → Met → Met
all_met [] met = met
all_met (e ∷ es) met = all_met es (and_met e.at met)

-- ---- findings

-- a damage at a cell
abbrev pub at_cell : RecId → Field → ℕ → ℕ → Finding
at_cell x field found wanted = record {
  page = x.page;
  slot = x.slot;
  what = Damage field;
  found = found;
  wanted = wanted;
}

-- of a link that leads to no data page of its table, or to a cell that was met before: told at the
-- cell that holds it
abbrev pub link_finding : RecId → Link → Finding
link_finding holder l = at_cell holder fields.Link l.rec.page.0 0

-- the transaction that is found in a cell, 2^32 - 1 where it is no version
abbrev pub writer_found : Option Cell → ℕ
writer_found None = 2 ^ 32 - 1
writer_found (Some (cells.Anchor link)) = 2 ^ 32 - 1
writer_found (Some (cells.Version v)) = v.tx.0

-- of a link that meets no version of its transaction: told where it leads
abbrev pub target_finding : Option Cell → Link → Finding
target_finding cell l = at_cell l.rec fields.Target (writer_found cell) l.tx.0

-- the columns under which the body of a version stands
abbrev pub stored_columns : Table → Version → List Column
stored_columns table v = columns_of (columns_for table v.deleted) v.format

-- in the row of a deletion this is the first place but the key's that has a value
pub record IsFirstKept (table : Table) (row : Row) (i : ℕ) : Type 0 where
  pub other : i ≢ table.shape.key
  pub kept : get_or row i Null ≢ Null
  pub before : (k : ℕ) → k < i → k ≢ table.shape.key → get_or row k Null ≡ Null

-- What is found of a version of a table, by its place: its format is not the first; its body is no
-- packed text; or unpacked it is no row; or, of a deletion, the row of more than its key, so that the
-- bit of a column is not that of one without a value.
pub data IsBodyFinding (table : Table) (x : RecId) (v : Version) (f : Finding) : Type 0 where
  of_format : v.format ≢ 1 → f ≡ at_cell x fields.Format v.format 1 → IsBodyFinding table x v f
  of_run : (at : ℕ) → v.format ≡ 1 → BreaksAt v.body at
      → f ≡ at_cell x fields.Run at (wanted_of at (length v.body)) → IsBodyFinding table x v f
  of_row : (at : ℕ) → v.format ≡ 1 → RefusesRow (stored_columns table v) v.body at
      → f ≡ at_cell x fields.Row at (wanted_of at (row_len_of (stored_columns table v)))
      → IsBodyFinding table x v f
  of_rest : (i : ℕ) (row : Row) → v.format ≡ 1 → v.deleted ≡ true
      → DecodesTo (columns_for table v.deleted) v.format v.body row → IsFirstKept table row i
      → f ≡ at_cell x fields.Row (i / 8) (row_len_of (stored_columns table v))
      → IsBodyFinding table x v f

-- A version is stored as its table wants it.
pub record IsStoredAs (table : Table) (v : Version) (row : Row) : Type 0 where
  pub format : v.format ≡ 1
  pub spelled : DecodesTo (columns_for table v.deleted) v.format v.body row
  pub storable : AreStorable row
  pub erased : v.deleted ≡ true → IsKeyAlone table row

-- A link of a table with these data pages meets this version.
pub record Meets (h : Cells) (ns : List ℕ) (l : Link) (v : Version) : Type 0 where
  pub placed : Has ns l.rec.page.0
  pub cell : h l.rec ≡ Some (cells.Version v)
  pub tx : v.tx ≡ l.tx

-- What is found of a link that meets none: it leads to no data page of the table, or to a cell that
-- is no version of its transaction.
pub data IsMissed (h : Cells) (ns : List ℕ) (holder : RecId) (l : Link) (f : Finding) : Type 0 where
  outside : (Has ns l.rec.page.0 → ⊥) → f ≡ link_finding holder l → IsMissed h ns holder l f
  strange : Has ns l.rec.page.0 → ((v : Version) → Meets h ns l v → ⊥)
      → f ≡ target_finding (h l.rec) l → IsMissed h ns holder l f

-- What is found of a link and of the version that it meets: it meets none; it meets one that was met
-- before; or the version is not stored as the table wants it.
pub data IsStop (h : Cells) (table : Table) (ns : List ℕ) (met : Met) (holder : RecId) (l : Link)
    (f : Finding) : Type 0 where
  missed : IsMissed h ns holder l f → IsStop h table ns met holder l f
  again : (v : Version) → Meets h ns l v → met l.rec ≡ true → f ≡ link_finding holder l
      → IsStop h table ns met holder l f
  unread : (v : Version) → Meets h ns l v → met l.rec ≡ false → IsBodyFinding table l.rec v f
      → IsStop h table ns met holder l f

-- ---- the walk

-- A walk from a link on, which a cell holds, where these cells were met before: over these versions,
-- the newest first, to the end of the chain, or to a link or version of which this is found.
pub data IsWalk (h : Cells) (table : Table) (ns : List ℕ)
    : Met → RecId → Option Link → List Entry → Option Finding → Type 0 where
  ended : (met : Met) (holder : RecId) → IsWalk h table ns met holder None [] None
  stopped : (met : Met) (holder : RecId) (l : Link) (f : Finding)
      → IsStop h table ns met holder l f → IsWalk h table ns met holder (Some l) [] (Some f)
  goes : (met : Met) (holder : RecId) (l : Link) (e : Entry) (es : List Entry) (end : Option Finding)
      → e.at ≡ l.rec → Meets h ns l e.version → met l.rec ≡ false
      → IsStoredAs table e.version e.row
      → IsWalk h table ns (and_met e.at met) e.at e.version.back es end
      → IsWalk h table ns met holder (Some l) (e ∷ es) end
