-- The texts of refusals, each with its numbers.
use Rattle.std.specs.Prelude.{ℕ, List, [], ◌∷◌, ◌++◌, codes, decimal}
use Rattle.mg_base.specs.declared.damage.Field.{Field}
use Rattle.mg_base.specs.declared.damage.Field.TheVariants as fields
use Rattle.mg_base.specs.declared.transaction.TxState.{TxState}
use Rattle.mg_base.specs.declared.transaction.TxState.TheVariants as states
use Rattle.mg_model.specs.declared.refusal.Refusal.{Refusal}
use Rattle.mg_model.specs.declared.refusal.Refusal.TheVariants as refusals
use Rattle.mg_rows.specs.declared.statement_fault.StatementFault.{StatementFault}
use Rattle.mg_rows.specs.declared.statement_fault.StatementFault.TheVariants as faults

-- the word for what has become of a transaction
abbrev pub state_word : TxState → List ℕ
state_word states.Active = codes "ACTIVE"
state_word states.Limbo = codes "LIMBO"
state_word states.Dead = codes "DEAD"
state_word states.Committed = codes "COMMITTED"

-- the word for a field of a page
abbrev pub field_word : Field → List ℕ
field_word fields.Presence = codes "PRESENCE"
field_word fields.Kind = codes "KIND"
field_word fields.Flags = codes "FLAGS"
field_word fields.Zero = codes "ZERO"
field_word fields.Own = codes "OWN"
field_word fields.Owner = codes "OWNER"
field_word fields.Sequence = codes "SEQUENCE"
field_word fields.Magic = codes "MAGIC"
field_word fields.Major = codes "MAJOR"
field_word fields.Minor = codes "MINOR"
field_word fields.PageSize = codes "PAGE SIZE"
field_word fields.Next = codes "NEXT"
field_word fields.Oit = codes "OIT"
field_word fields.Oat = codes "OAT"
field_word fields.Ost = codes "OST"
field_word fields.Link = codes "LINK"
field_word fields.Count = codes "COUNT"
field_word fields.Offset = codes "OFFSET"
field_word fields.Cell = codes "CELL"
field_word fields.Row = codes "ROW"
field_word fields.Run = codes "RUN"
field_word fields.Target = codes "TARGET"
field_word fields.Entry = codes "ENTRY"
field_word fields.Catalog = codes "CATALOG"
field_word fields.Bit = codes "BIT"
field_word fields.Indexed = codes "INDEXED"
field_word fields.Fence = codes "FENCE"
field_word fields.State = codes "STATE"
field_word fields.Key = codes "KEY"
field_word fields.Level = codes "LEVEL"
field_word fields.Format = codes "FORMAT"

-- the text of a refusal
abbrev pub refusal_text : Refusal → List ℕ
refusal_text (refusals.UpdateConflict by) = codes "UPDATE CONFLICT BY " ++ decimal by.0
refusal_text (refusals.LockConflict by) = codes "LOCK CONFLICT BY " ++ decimal by.0
refusal_text (refusals.Waits on) = codes "WAITS ON " ++ decimal on.0
refusal_text (refusals.Deadlock by) = codes "DEADLOCK BY " ++ decimal by.0
refusal_text (refusals.InLimbo by) = codes "IN LIMBO " ++ decimal by.0
refusal_text refusals.DuplicateKey = codes "DUPLICATE KEY"
refusal_text refusals.NoRow = codes "NO ROW"
refusal_text refusals.ReadOnly = codes "READ ONLY"
refusal_text refusals.NoTransaction = codes "NO TRANSACTION"
refusal_text (refusals.NotActive state) = codes "NOT ACTIVE " ++ state_word state
refusal_text refusals.NoTable = codes "NO TABLE"
refusal_text refusals.TableExists = codes "TABLE EXISTS"
refusal_text (refusals.RowTooLong len limit) =
    codes "ROW TOO LONG " ++ decimal len ++ codes " LIMIT " ++ decimal limit
refusal_text (refusals.DatabaseFull limit) = codes "DATABASE FULL LIMIT " ++ decimal limit
refusal_text refusals.TransactionLimit = codes "TRANSACTION LIMIT"
refusal_text (refusals.DiskRead faults) = codes "DISK READ FAULT"
refusal_text (refusals.DiskWrite faults) = codes "DISK WRITE FAULT"
refusal_text (refusals.Offline faults) = codes "OFFLINE"
refusal_text (refusals.NotADatabase field found) =
    codes "NOT A DATABASE " ++ field_word field ++ codes " FOUND " ++ decimal found
refusal_text (refusals.Damaged page field found wanted) = codes "DAMAGED PAGE " ++ decimal page.0
    ++ codes " " ++ field_word field ++ codes " FOUND " ++ decimal found ++ codes " WANTED "
    ++ decimal wanted
refusal_text refusals.Memory = codes "OUT OF MEMORY"

-- the line of a refusal that comes outside the lines of a script
abbrev pub outside_text : Refusal → List ℕ
outside_text refusal = codes "mgdb: " ++ (refusal_text refusal ++ (10 ∷ []))

-- the text of a statement's refusal
abbrev pub fault_text : StatementFault → List ℕ
fault_text (faults.Engine refusal) = refusal_text refusal
fault_text (faults.Syntax at) = codes "SYNTAX AT " ++ decimal at
fault_text (faults.NameTooLong at) = codes "NAME TOO LONG AT " ++ decimal at
fault_text (faults.NumberTooLarge at) = codes "NUMBER TOO LARGE AT " ++ decimal at
fault_text (faults.TooDeep at) = codes "TOO DEEP AT " ++ decimal at
fault_text faults.NoColumn = codes "NO COLUMN"
fault_text faults.TypeMismatch = codes "TYPE MISMATCH"
fault_text faults.Arithmetic = codes "ARITHMETIC"
fault_text faults.NullNotAllowed = codes "NULL NOT ALLOWED"
fault_text (faults.TextTooLong len most) =
    codes "TEXT TOO LONG " ++ decimal len ++ codes " LIMIT " ++ decimal most
fault_text faults.KeyChange = codes "KEY CHANGE"
fault_text (faults.TooMany limit) = codes "TOO MANY LIMIT " ++ decimal limit
fault_text (faults.KeyTooLong len limit) =
    codes "KEY TOO LONG " ++ decimal len ++ codes " LIMIT " ++ decimal limit
fault_text faults.NoSavepoint = codes "NO SAVEPOINT"
fault_text faults.Busy = codes "BUSY"
fault_text faults.ColumnExists = codes "COLUMN EXISTS"
fault_text faults.InTransaction = codes "IN TRANSACTION"
fault_text faults.OneKey = codes "ONE KEY"
fault_text faults.CountMismatch = codes "COUNT MISMATCH"
fault_text faults.NothingHeld = codes "NOTHING HELD"
