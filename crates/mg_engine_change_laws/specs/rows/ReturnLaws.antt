-- Values of a row by their places.
use Rattle.std.proofs.Common.{◌≡◌, ◌==◌, ◌+◌, ℕ, zero, suc, Bool, true, false, List, [], ◌∷◌, get_or}
use Rattle.std.specs.Prelude.{if◌then◌else◌, slice_get}
use Rattle.mg_engine_meaning_laws.specs.Formers.{IsOfKind}
use Rattle.mg_image.specs.RecordRules.{allowing_null, erased_from}
use Rattle.mg_value.specs.Rows.{FitsColumn, FitsKind, RowFits}
use Rattle.mg_value.specs.declared.shape.Column.{Column}
use Rattle.mg_value.specs.declared.value.Value.{Value}
use Rattle.mg_value.specs.declared.value.Value.TheVariants.{Null}

-- in the row of a deletion it is of the kind of its column
pub kind_at : (key at : ℕ) (columns : List Column) (row : List Value) (i : ℕ) → RowFits (erased_from key at columns) row
    → IsOfKind (slice_get columns i) (get_or row i Null)
kind_at key at [] row i fits = tt
kind_at key at (c ∷ cs) [] i fits = absurd fits
kind_at key at (c ∷ cs) (v ∷ vs) zero fits = on (at == key) fits.0
  where
    on : (b : Bool) → FitsColumn (if b then c else allowing_null c) v → FitsKind c.kind v
    on true it = it.kind
    on false it = it.kind
kind_at key at (c ∷ cs) (v ∷ vs) (suc i) fits = kind_at key (at + 1) cs vs i fits.1
