-- The rows of lawful records are read.
use Rattle.std.proofs.Common.{◌≡◌, ℕ, Bool, true, false, List, [], ◌∷◌, Some, sym, ap, subst, cond}
use Rattle.mg_base.specs.Disk.{Meaning}
use Rattle.mg_base.specs.declared.damage.Damaged.{Damaged}
use Rattle.mg_chain.specs.Chains.{newest_link}
use Rattle.mg_chain.specs.Views.{first_entry}
use Rattle.mg_heap.specs.Stands.{WalksMeetNoDamage}
use Rattle.mg_image.specs.Form.{Row, packed_coding}
use Rattle.mg_image.specs.RecordRules.{Each, IsVersion, columns_for, erased_from}
use Rattle.mg_image.specs.Records.{cells_of, record_key, writer}
use Rattle.mg_image.specs.declared.entry.Entry.{Entry}
use Rattle.mg_model.specs.declared.table.Table.{Table}
use Rattle.mg_rle.specs.Runs.{BreaksAt, StandsFor}
use Rattle.mg_rowcode.specs.Faults.{DecodesTo}
use Rattle.mg_seek.specs.Readings.{PlacesOfReadings, placed_if}
use Rattle.mg_seek.specs.Refusals.{bad_body, bad_chain}
use Rattle.mg_seek.specs.Rows.{IsBodyDamage, bad_row, bad_run}
use Rattle.mg_seek.specs.Versions.{placed}
use Rattle.mg_seek.specs.declared.walk.Placed.{Placed}
use Rattle.mg_space.specs.View.{viewed}
use Rattle.mg_value.specs.Rows.{columns_of, row_bytes}
use Rattle.mg_value.specs.declared.shape.Column.{Column}
use Rattle.mg_value.specs.declared.shape.Shape.{Shape}
use Rattle.mg_no_damage_laws.specs.Records.{RowsAreRead}
use Rattle.mg_no_damage_laws.proofs.ChainLemmas.{chain_whole}

-- a version that is found is one of these
found_in : (P : Entry → Type 0) (takes : ℕ → Bool) (es : List Entry) (p : Placed) → Each P es
    → placed_if (first_entry takes es) ≡ Some p → (e : Entry) × P e × (placed e.at e.version ≡ p)
found_in P takes [] p each is = absurd cc
found_in P takes (e ∷ es) p each is = at (takes (writer e)) is (found_in P takes es p each.1)
  where
    at : (b : Bool) → placed_if (cond b (Some e) (first_entry takes es)) ≡ Some p
        → (placed_if (first_entry takes es) ≡ Some p → (d : Entry) × P d × (placed d.at d.version ≡ p))
        → (d : Entry) × P d × (placed d.at d.version ≡ p)
    at true found more = let same : placed e.at e.version ≡ p = cc in (e, each.0, same)
    at false found more = more found

same_columns : (a b : Table) (deleted : Bool) → a.shape ≡ b.shape → columns_for a deleted ≡ columns_for b deleted
same_columns a b true same = ap (λ (s : Shape). erased_from s.key 0 s.columns) same
same_columns a b false same = ap (λ (s : Shape). s.columns) same

module _ (one_plain : (packed first second : List ℕ) → StandsFor packed first → StandsFor packed second
    → first ≡ second)
    (accepted : (packed plain : List ℕ) (at : ℕ) → StandsFor packed plain → BreaksAt packed at → ⊥) where
  -- a body that codes a row is read
  body_whole : (columns : List Column) (p : Placed) (row : Row)
      → DecodesTo columns p.version.format p.version.body row → (it : Damaged) → IsBodyDamage columns p it → ⊥
  body_whole columns p row codes _ (bad_run at breaks) = accepted p.version.body
      (row_bytes (columns_of columns p.version.format) codes.values) at codes.stands breaks
  body_whole columns p row codes _ (bad_row at refuses) = refuses.breaks.refused codes.values (record {
    fits = codes.fits;
    spelled = one_plain p.version.body refuses.plain
        (row_bytes (columns_of columns p.version.format) codes.values) refuses.stands codes.stands;
  })

  pub row_read : {D : Type 0} (m : Meaning D) → WalksMeetNoDamage m → PlacesOfReadings → RowsAreRead m
  row_read m walks places store image batch f r sees takes rec table other of same _ (bad_chain it damaged) =
      chain_whole m walks store image batch f r sees rec table of it damaged
  row_read m walks places store image batch f r sees takes rec table other of same _ (bad_body p it first damaged) =
      at (found_in (IsVersion packed_coding f table (record_key table (r rec))) takes (r rec) p
      (sees.lawful.records.each rec table of).each
      (sym (places (cells_of (viewed store image batch)) takes (newest_link (viewed store image batch) rec)
      (Some p) (r rec) first (sees.lawful.records.reads rec table of))))
    where
      at : (e : Entry) × IsVersion packed_coding f table (record_key table (r rec)) e
          × (placed e.at e.version ≡ p) → ⊥
      at (e, its, is) = body_whole (columns_for other p.version.deleted) p e.row
          (subst (λ (columns : List Column). DecodesTo columns p.version.format p.version.body e.row)
          (same_columns table other p.version.deleted same)
          (subst (λ (q : Placed). DecodesTo (columns_for table q.version.deleted) q.version.format
          q.version.body e.row) is its.spelled)) it damaged
