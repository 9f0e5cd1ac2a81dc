-- The bodies of the three rows of a new database's catalog.
use Rattle.std.proofs.Common.{◌≡◌, ◌≢◌, ◌≤◌, ◌-◌, ℕ, true, List, [], ◌∷◌, ◌++◌, length, refl, sym, ◌∙◌, subst, arith, append-nil}
use Rattle.std.specs.Prelude.{replicate}
use Rattle.mg_base.specs.Fields.{byte}
use Rattle.mg_image.specs.Form.{Row, packed_coding}
use Rattle.mg_image.specs.NewDatabase.{IsCatalogBody, key_row, table_row, value_row}
use Rattle.mg_model.specs.Catalog.{catalog_shape}
use Rattle.mg_rle.specs.Runs.{StandsFor}
use Rattle.mg_value.specs.Rows.{RowFits, row_bytes}
use Rattle.mg_value.specs.declared.shape.Column.{Column}
use Rattle.mg_value.specs.declared.value.Value.TheVariants.{Null}
use Rattle.mg_version.specs.Cells.{AreBytes}
use Rattle.mg_new_database_laws.specs.PackedLaws.{IsBody, all_small, body_is, small_from}

length_fits : (columns : List Column) (row : Row) → RowFits columns row → length row ≡ length columns
length_fits [] [] fits = refl
length_fits [] (v ∷ vs) fits = absurd fits
length_fits (c ∷ cs) [] fits = absurd fits
length_fits (c ∷ cs) (v ∷ vs) fits = let rest = length_fits cs vs fits.1 in omega (arith, rest)

no_more : (row : Row) (count : ℕ) → count ≡ 0 → row ≡ row ++ replicate count Null
no_more row count none = rw (none, append-nil) refl

-- a row of the catalog has a value for each column
whole_row : (row : Row) → RowFits catalog_shape.columns row
    → row ≡ row ++ replicate (length catalog_shape.columns - length row) Null
whole_row row fits =
    let len : length row ≡ 6 = length_fits catalog_shape.columns row fits in
    no_more row (length catalog_shape.columns - length row) (omega (arith, len))

stands : (row : Row) (body : List ℕ) → IsCatalogBody packed_coding row body
    → StandsFor body (row_bytes catalog_shape.columns row)
stands row body is = subst (λ (r : Row). StandsFor body (row_bytes catalog_shape.columns r))
    (whole_row is.values is.fits ∙ sym is.whole) is.stands

-- What a body of a row has.
pub record IsRowBody (body : List ℕ) : Type 0 where
  pub bytes : AreBytes body
  pub least : 3 ≤ length body
  pub most : length body ≤ 216

row_body : (row : Row) (body : List ℕ) → IsCatalogBody packed_coding row body
    → all_small (row_bytes catalog_shape.columns row) ≡ true → length (row_bytes catalog_shape.columns row) ≡ 108
    → byte (row_bytes catalog_shape.columns row) 0 ≢ byte (row_bytes catalog_shape.columns row) 1 → IsRowBody body
row_body row body is small long differ = record {
  bytes = has.bytes;
  least = has.least;
  most = let most = has.most in omega (arith, most, long);
}
  where
    has : IsBody (row_bytes catalog_shape.columns row) body
    has = body_is (row_bytes catalog_shape.columns row) body (stands row body is)
        (small_from (row_bytes catalog_shape.columns row) small) (omega (arith, long)) differ

pub table_body_is : (body : List ℕ) → IsCatalogBody packed_coding table_row body → IsRowBody body
table_body_is body is = row_body table_row body is refl refl (λ same. absurd cc)

pub key_body_is : (body : List ℕ) → IsCatalogBody packed_coding key_row body → IsRowBody body
key_body_is body is = row_body key_row body is refl refl (λ same. absurd cc)

pub value_body_is : (body : List ℕ) → IsCatalogBody packed_coding value_row body → IsRowBody body
value_body_is body is = row_body value_row body is refl refl (λ same. absurd cc)
