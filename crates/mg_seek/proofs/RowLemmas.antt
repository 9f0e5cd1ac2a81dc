-- Lemmas on rows as they are decoded.
use Rattle.std.proofs.Common.{◌≡◌, ℕ, sym, subst, List, Result, Ok, Err, ◌∙◌, ap, length}
use Rattle.std.specs.Prelude.{IfErr, IfOk, MatchResult}
use Rattle.mg_base.specs.declared.damage.Damaged.{Damaged}
use Rattle.mg_base.specs.declared.damage.Field.TheVariants as fields
use Rattle.mg_chain.specs.Refusals.{damage, length_wanted}
use Rattle.mg_image.specs.Form.{Row}
use Rattle.mg_image.specs.RecordRules.{columns_for}
use Rattle.mg_model.specs.declared.table.Table.{Table}
use Rattle.mg_rowcode.specs.Faults.{DecodesTo, Refuses}
use Rattle.mg_rowcode.specs.declared.fault.RowFault.{RowFault}
use Rattle.mg_rowcode.specs.declared.fault.RowFault.TheVariants as row_faults
use Rattle.mg_rowcode.specs.Storable.{AreStorable}
use Rattle.mg_space.specs.declared.fault.SpaceFault.{SpaceFault}
use Rattle.mg_space.specs.declared.fault.SpaceFault.TheVariants as faults
use Rattle.mg_value.specs.declared.shape.Column.{Column}
use Rattle.mg_value.specs.Rows.{columns_of, row_len_of}
use Rattle.mg_seek.specs.declared.walk.Placed.{Placed}
use Rattle.mg_seek.specs.Rows.{GivesRow, IsBodyDamage, RefusesBody, RefusesRowOf, bad_row, bad_run}

-- the row of a body under the columns of a version is that of the version
pub row_given : (table : Table) (p : Placed) (columns : List Column) (result : Result Row SpaceFault)
    → columns ≡ columns_for table p.version.deleted
    → IfOk result (λ row. DecodesTo columns p.version.format p.version.body row)
    → IfOk result AreStorable → IfErr result (RefusesBody columns p)
    → MatchResult result (GivesRow table p.version) (RefusesRowOf table p)
row_given table p columns (Ok row) is coded storable refused = record {
  coded = subst (λ (cs : List Column). DecodesTo cs p.version.format p.version.body row) is coded;
  storable = storable;
}
row_given table p columns (Err fault) is coded storable refused =
    subst (λ (cs : List Column). RefusesBody cs p fault) is refused

-- ---- damage

-- a body that is no packed text, as it is told
pub run_told : (columns : List Column) (p : Placed) (result : Result Row RowFault) (fault : RowFault)
    (at len : ℕ) (it : Damaged)
    → IfErr result (Refuses (columns_of columns p.version.format) p.version.body)
    → result ≡ Err fault → fault ≡ row_faults.BadRun at
    → it ≡ damage p.at.page.0 fields.Run at (length_wanted at len) → len ≡ length p.version.body
    → IsBodyDamage columns p it
run_told columns p result fault at len it refuses is same told long =
    let why : Refuses (columns_of columns p.version.format) p.version.body (row_faults.BadRun at) =
    rw (is ∙ ap (λ (f : RowFault). Err f) same) at refuses in
    subst (IsBodyDamage columns p) (sym (told ∙ ap (λ (n : ℕ). damage p.at.page.0 fields.Run at (length_wanted at n)) long)) (bad_run at why)

-- a body that is no row, as it is told
pub row_told : (columns : List Column) (p : Placed) (result : Result Row RowFault) (fault : RowFault)
    (at len : ℕ) (it : Damaged)
    → IfErr result (Refuses (columns_of columns p.version.format) p.version.body)
    → result ≡ Err fault → fault ≡ row_faults.BadRow at
    → it ≡ damage p.at.page.0 fields.Row at (length_wanted at len) → len ≡ row_len_of (columns_of columns p.version.format)
    → IsBodyDamage columns p it
row_told columns p result fault at len it refuses is same told long =
    let why : Refuses (columns_of columns p.version.format) p.version.body (row_faults.BadRow at) =
    rw (is ∙ ap (λ (f : RowFault). Err f) same) at refuses in
    subst (IsBodyDamage columns p) (sym (told ∙ ap (λ (n : ℕ). damage p.at.page.0 fields.Row at (length_wanted at n)) long)) (bad_row at why)
