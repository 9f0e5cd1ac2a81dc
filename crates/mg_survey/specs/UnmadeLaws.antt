-- The page of each number in a new database is one page, and a comparison of bytes tells it.
use Rattle.std.proofs.Common.{◌≡◌, ◌≢◌, ◌≤◌, ◌-◌, IsTrue, inl, inr, refl, sym, ◌∙◌, subst, arith, ℕ, zero, suc, Bool, false, List, [], ◌∷◌, ◌++◌, length, append-nil}
use Rattle.std.proofs.lemmas.Bool.{false≢true}
use Rattle.std.specs.Prelude.{◌↔◌, replicate}
use Rattle.mg_base.specs.Image.{blank}
use Rattle.mg_image.specs.Form.{Row, packed_coding}
use Rattle.mg_image.specs.NewDatabase.{IsCatalogBody, IsNewCatalogPage, IsNewPage, first_data_page, record_cells}
use Rattle.mg_model.specs.Catalog.{catalog_shape}
use Rattle.mg_rle.specs.Runs.{StandsFor}
use Rattle.mg_value.specs.Rows.{RowFits, row_bytes}
use Rattle.mg_value.specs.declared.shape.Column.{Column}
use Rattle.mg_value.specs.declared.value.Value.TheVariants.{Null}
use Rattle.mg_survey.specs.Survey.{IsUnmadeAt}

-- a text has one packed text
abbrev pub OnePacked : Type 0
OnePacked = (plain first second : List ℕ) → StandsFor first plain → StandsFor second plain
    → first ≡ second

-- ---- the catalog's data page

length_fits : (columns : List Column) (row : Row) → RowFits columns row
    → length row ≡ length columns
length_fits [] [] fits = refl
length_fits [] (v ∷ vs) fits = absurd fits
length_fits (c ∷ cs) [] fits = absurd fits
length_fits (c ∷ cs) (v ∷ vs) fits =
    let rest = length_fits cs vs fits.1 in omega (arith, rest)

no_more : (row : Row) (count : ℕ) → count ≡ 0 → row ≡ row ++ replicate count Null
no_more row count none = rw (none, append-nil) refl

-- a row of the catalog has a value for each column
whole_row : (row : Row) → RowFits catalog_shape.columns row
    → row ≡ row ++ replicate (length catalog_shape.columns - length row) Null
whole_row row fits =
    let len : length row ≡ 6 = length_fits catalog_shape.columns row fits in
    no_more row (length catalog_shape.columns - length row) (omega (arith, len))

body_is_one : OnePacked → (row : Row) (b c : List ℕ) → IsCatalogBody packed_coding row b
    → IsCatalogBody packed_coding row c → b ≡ c
body_is_one one row b c is too = one (row_bytes catalog_shape.columns row) b c
    (subst (λ (r : Row). StandsFor b (row_bytes catalog_shape.columns r))
    (whole_row is.values is.fits ∙ sym is.whole) is.stands)
    (subst (λ (r : Row). StandsFor c (row_bytes catalog_shape.columns r))
    (whole_row too.values too.fits ∙ sym too.whole) too.stands)

catalog_page_is_one : OnePacked → (size : ℕ) (b c : List ℕ) → IsNewCatalogPage packed_coding size b
    → IsNewCatalogPage packed_coding size c → b ≡ c
catalog_page_is_one one size b c is too = is.bytes ∙ (same ∙ sym too.bytes)
  where
    same : first_data_page size 4 3
        (record_cells 0 is.table ++ record_cells 2 is.key ++ record_cells 4 is.value)
        ≡ first_data_page size 4 3
        (record_cells 0 too.table ++ record_cells 2 too.key ++ record_cells 4 too.value)
    same = rw (
      body_is_one one _ is.table too.table is.codes_table too.codes_table,
      body_is_one one _ is.key too.key is.codes_key too.codes_key,
      body_is_one one _ is.value too.value is.codes_value too.codes_value,
    ) refl

-- ---- all pages

new_page_is_one : OnePacked → (size n : ℕ) (b c : List ℕ) → IsNewPage packed_coding size n b
    → IsNewPage packed_coding size n c → b ≡ c
new_page_is_one one size zero b c is too = is ∙ sym too
new_page_is_one one size (suc zero) b c is too = is ∙ sym too
new_page_is_one one size (suc (suc zero)) b c is too = is ∙ sym too
new_page_is_one one size (suc (suc (suc zero))) b c is too = is ∙ sym too
new_page_is_one one size (suc (suc (suc (suc zero)))) b c is too = catalog_page_is_one one size b c is too
new_page_is_one one size (suc (suc (suc (suc (suc zero))))) b c is too = is ∙ sym too
new_page_is_one one size (suc (suc (suc (suc (suc (suc zero)))))) b c is too = is ∙ sym too
new_page_is_one one size (suc (suc (suc (suc (suc (suc (suc n))))))) b c is too = is ∙ sym too

-- a page behind the seventh is zero
pub new_behind : (size n : ℕ) (b : List ℕ) (is : Bool) → 7 ≤ n → (IsTrue is ↔ (b ≡ blank size))
    → IsTrue is ↔ IsNewPage packed_coding size n b
new_behind size zero b is past told = absurd (omega (arith, past))
new_behind size (suc zero) b is past told = absurd (omega (arith, past))
new_behind size (suc (suc zero)) b is past told = absurd (omega (arith, past))
new_behind size (suc (suc (suc zero))) b is past told = absurd (omega (arith, past))
new_behind size (suc (suc (suc (suc zero)))) b is past told = absurd (omega (arith, past))
new_behind size (suc (suc (suc (suc (suc zero))))) b is past told = absurd (omega (arith, past))
new_behind size (suc (suc (suc (suc (suc (suc zero)))))) b is past told = absurd (omega (arith, past))
new_behind size (suc (suc (suc (suc (suc (suc (suc n))))))) b is past told = told

-- a page is that of a number exactly where it has the bytes of the one that was made
pub told_new : OnePacked → (size len n : ℕ) (b made : List ℕ) (is : Bool) → len ≡ size
    → IsNewPage packed_coding len n made → (IsTrue is ↔ (b ≡ made))
    → IsTrue is ↔ IsNewPage packed_coding size n b
told_new one size len n b made is same new told = (
  λ yes. subst (IsNewPage packed_coding size n) (sym (told.0 yes)) its,
  λ is_new. told.1 (new_page_is_one one size n b made is_new its),
)
  where
    its : IsNewPage packed_coding size n made
    its = subst (λ (k : ℕ). IsNewPage packed_coding k n made) same new

-- ---- pages on which a database may be made

-- a zero page is one
pub zero_is_unmade : (size n : ℕ) (b : List ℕ) → b ≡ blank size → IsUnmadeAt size n b
zero_is_unmade size zero b is = is
zero_is_unmade size (suc n) b is = inl is

-- page 0 is not, unless it is zero
pub header_told : (size n : ℕ) (b : List ℕ) → n ≡ 0 → (b ≡ blank size → ⊥)
    → IsTrue false ↔ IsUnmadeAt size n b
header_told size zero b is some_ = (λ not_. absurd (false≢true not_), λ zero_. absurd (some_ zero_))
header_told size (suc n) b is some_ = absurd (omega (arith, is))

-- another page that is not zero is one exactly where it is one of a new database
pub told_unmade : (size n : ℕ) (b : List ℕ) (is : Bool) → n ≢ 0 → (b ≡ blank size → ⊥)
    → (IsTrue is ↔ IsNewPage packed_coding size n b) → IsTrue is ↔ IsUnmadeAt size n b
told_unmade size zero b is some_ other told = absurd (some_ refl)
told_unmade size (suc n) b is some_ other told = (λ yes. inr (told.0 yes), back)
  where
    back : IsUnmadeAt size (suc n) b → IsTrue is
    back (inl none) = absurd (other none)
    back (inr new) = told.1 new
