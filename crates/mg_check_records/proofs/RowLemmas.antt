-- The rows of versions, as they are read.
use Rattle.std.specs.Prelude.{◌≡◌, ◌≢◌, ◌⊎◌, ◌<◌, ◌≤◌, ◌+◌, ◌/◌, ℕ, Bool, true, false, List, [], ◌∷◌, length, Result, Ok, Err, IfErr, IfOk}
use Rattle.std.proofs.Common.{refl, sym, ap, ◌∙◌, inl, inr, arith, subst, get_or}
use Rattle.std.proofs.lemmas.Bool.{cases_lt}
use Rattle.std.proofs.lemmas.List.{get_or_past}
use Rattle.mg_base.specs.declared.damage.Field.TheVariants as fields
use Rattle.mg_base.specs.declared.memory.Memory.{Memory}
use Rattle.mg_base.specs.declared.numbers.RecId.{RecId}
use Rattle.mg_check_data.specs.DataRung.{wanted_of}
use Rattle.mg_check_records.specs.Reads.{IsCoded, IsCodedFinding, IsRead, bad_row, bad_run}
use Rattle.mg_check_records.specs.Walks.{IsBodyFinding, IsFirstKept, IsStoredAs, at_cell, of_format, of_rest, of_row, of_run}
use Rattle.mg_check_records.specs.declared.rows.Read.{Read}
use Rattle.mg_check_records.specs.declared.rows.Read.TheVariants as reads
use Rattle.mg_findings.specs.declared.finding.Finding.{Finding}
use Rattle.mg_image.specs.Form.{Row}
use Rattle.mg_image.specs.RecordRules.{IsKeyAlone, columns_for}
use Rattle.mg_model.specs.declared.table.Table.{Table}
use Rattle.mg_rowcode.specs.Faults.{DecodesTo, Refuses}
use Rattle.mg_rowcode.specs.Storable.{AreStorable}
use Rattle.mg_rowcode.specs.declared.fault.RowFault.{RowFault}
use Rattle.mg_rowcode.specs.declared.fault.RowFault.TheVariants as row_faults
use Rattle.mg_value.specs.declared.shape.Column.{Column}
use Rattle.mg_value.specs.declared.value.Value.TheVariants.{Null}
use Rattle.mg_value.specs.Rows.{columns_of, row_len_of}
use Rattle.mg_version.specs.declared.cell.Version.{Version}

-- ---- what is told of a body

pub run_told : (columns : List Column) (x : RecId) (v : Version) (result : Result Row RowFault)
    (fault : RowFault) (at len : ℕ) (f : Finding)
    → IfErr result (Refuses (columns_of columns v.format) v.body) → result ≡ Err fault
    → fault ≡ row_faults.BadRun at → f ≡ at_cell x fields.Run at (wanted_of at len)
    → len ≡ length v.body → IsCodedFinding columns x v f
run_told columns x v result fault at len f refuses is same told long =
    let why : Refuses (columns_of columns v.format) v.body (row_faults.BadRun at) =
    rw (is ∙ ap (λ (it : RowFault). Err it) same) at refuses in
    bad_run at why (told ∙ ap (λ (n : ℕ). at_cell x fields.Run at (wanted_of at n)) long)

pub row_told : (columns : List Column) (x : RecId) (v : Version) (result : Result Row RowFault)
    (fault : RowFault) (at len : ℕ) (f : Finding)
    → IfErr result (Refuses (columns_of columns v.format) v.body) → result ≡ Err fault
    → fault ≡ row_faults.BadRow at → f ≡ at_cell x fields.Row at (wanted_of at len)
    → len ≡ row_len_of (columns_of columns v.format) → IsCodedFinding columns x v f
row_told columns x v result fault at len f refuses is same told long =
    let why : Refuses (columns_of columns v.format) v.body (row_faults.BadRow at) =
    rw (is ∙ ap (λ (it : RowFault). Err it) same) at refuses in
    bad_row at why (told ∙ ap (λ (n : ℕ). at_cell x fields.Row at (wanted_of at n)) long)

-- ---- a version of the first format

-- what is found of its body is found of it
pub body_found : (table : Table) (columns : List Column) (x : RecId) (v : Version) (f : Finding)
    → v.format ≡ 1 → columns ≡ columns_for table v.deleted → IsCodedFinding columns x v f
    → IsBodyFinding table x v f
body_found table columns x v f first same found =
    at (subst (λ (cs : List Column). IsCodedFinding cs x v f) same found)
  where
    at : IsCodedFinding (columns_for table v.deleted) x v f → IsBodyFinding table x v f
    at (bad_run k breaks told) = of_run k first breaks told
    at (bad_row k refuses told) = of_row k first refuses told

-- one that is no deletion has the row that its body codes
pub row_stored : (table : Table) (v : Version) (it : Row) → v.format ≡ 1 → v.deleted ≡ false
    → DecodesTo table.shape.columns v.format v.body it → AreStorable it → IsStoredAs table v it
row_stored table v it first kept coded storable = record {
  format = first;
  spelled = subst (λ (cs : List Column). DecodesTo cs v.format v.body it)
      (ap (columns_for table) (sym kept)) coded;
  storable = storable;
  erased = λ deleted. absurd (let both = sym kept ∙ deleted in cc);
}

pub coded_read : (table : Table) (x : RecId) (v : Version) (it : Read) → v.format ≡ 1
    → v.deleted ≡ false → IsCoded table.shape.columns x v it → IsRead table x v it
coded_read table x v (reads.Row it) first kept coded =
    row_stored table v it first kept coded.0 coded.1
coded_read table x v (reads.Stopped f) first kept found = body_found table table.shape.columns x v f
    first (ap (columns_for table) (sym kept)) found

-- a deletion has it, where it is of the key alone
pub erased_stored : (table : Table) (columns : List Column) (v : Version) (it : Row) → v.format ≡ 1
    → columns ≡ columns_for table true → v.deleted ≡ true
    → DecodesTo columns v.format v.body it → AreStorable it → IsKeyAlone table it
    → IsStoredAs table v it
erased_stored table columns v it first same deleted coded storable alone = record {
  format = first;
  spelled = subst (λ (cs : List Column). DecodesTo cs v.format v.body it)
      (same ∙ ap (columns_for table) (sym deleted)) coded;
  storable = storable;
  erased = λ is. alone;
}

-- and else this is found
pub erased_found : (table : Table) (columns : List Column) (x : RecId) (v : Version) (it : Row)
    (i len place wanted : ℕ) (f : Finding) → v.format ≡ 1 → columns ≡ columns_for table true
    → v.deleted ≡ true → DecodesTo columns v.format v.body it → IsFirstKept table it i
    → len ≡ row_len_of (columns_of columns v.format) → place ≡ i / 8 → wanted ≡ len
    → f ≡ at_cell x fields.Row place wanted → IsBodyFinding table x v f
erased_found table columns x v it i len place wanted f first same deleted coded kept long at as_ told =
    of_rest i it first deleted
    (subst (λ (cs : List Column). DecodesTo cs v.format v.body it) stand coded) kept (told ∙ number)
  where
    stand : columns ≡ columns_for table v.deleted
    stand = same ∙ ap (columns_for table) (sym deleted)

    number : at_cell x fields.Row place wanted
        ≡ at_cell x fields.Row (i / 8) (row_len_of (columns_of (columns_for table v.deleted) v.format))
    number = ap (λ (n : ℕ). at_cell x fields.Row n wanted) at
        ∙ ap (λ (n : ℕ). at_cell x fields.Row (i / 8) n)
        (as_ ∙ (long ∙ ap (λ (cs : List Column). row_len_of (columns_of cs v.format)) stand))

pub format_found : (table : Table) (x : RecId) (v : Version) (format : ℕ) (f : Finding)
    → v.format ≢ 1 → format ≡ v.format → f ≡ at_cell x fields.Format format 1
    → IsBodyFinding table x v f
format_found table x v format f other same told =
    of_format other (told ∙ ap (λ (n : ℕ). at_cell x fields.Format n 1) same)

-- past the end of a row nothing is kept
pub alone_from : (table : Table) (it : Row) (count : ℕ) → length it ≤ count
    → ((k : ℕ) → k < count → k ≢ table.shape.key → get_or it k Null ≡ Null) → IsKeyAlone table it
alone_from table it count all before k other = elim (cases_lt k count) [
  | inl below ↦ before k below other
  | inr past ↦ get_or_past it k Null (omega (arith, all, past))
]

-- ---- the results of calls

pub coded_result : (table : Table) (x : RecId) (v : Version) (result : Result Read Memory)
    → v.format ≡ 1 → v.deleted ≡ false → IfOk result (IsCoded table.shape.columns x v)
    → IfOk result (IsRead table x v)
coded_result table x v (Ok it) first kept coded = coded_read table x v it first kept coded
coded_result table x v (Err fault) first kept coded = tt

-- of a deletion, whose body codes no row
pub deleted_found : (table : Table) (columns : List Column) (x : RecId) (v : Version) (it : Read)
    (f : Finding) → v.format ≡ 1 → columns ≡ columns_for table true → v.deleted ≡ true
    → IsCoded columns x v it → it ≡ reads.Stopped f → IsBodyFinding table x v f
deleted_found table columns x v it f first same deleted coded is =
    body_found table columns x v f first (same ∙ ap (columns_for table) (sym deleted))
    (subst (IsCoded columns x v) is coded)

-- or one of more than its key
pub deleted_told : (table : Table) (columns : List Column) (x : RecId) (v : Version) (it : Read)
    (values : Row) (i len : ℕ) (f : Finding) → v.format ≡ 1 → columns ≡ columns_for table true
    → v.deleted ≡ true → IsCoded columns x v it → it ≡ reads.Row values
    → IsFirstKept table values i → len ≡ row_len_of (columns_of columns v.format)
    → f ≡ at_cell x fields.Row (i / 8) len → IsBodyFinding table x v f
deleted_told table columns x v it values i len f first same deleted coded is kept long told =
    let row_is : DecodesTo columns v.format v.body values × AreStorable values =
    subst (IsCoded columns x v) is coded in
    erased_found table columns x v values i len (i / 8) len f first same deleted row_is.0 kept long
    refl refl told
