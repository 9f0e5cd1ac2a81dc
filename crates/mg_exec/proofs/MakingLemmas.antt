-- As many values as places.
use Rattle.std.proofs.Common.{◌+◌, ◌++◌, ◌==◌, ◌≢◌, take, get_or, sym, subst, ◌≡◌, ℕ, zero, ◌<◌, arith, suc, ◌&&◌, Bool, true, false, List, [], ◌∷◌, length, map, Option, Result, Ok, Err, refl, ap, ◌∙◌}
use Rattle.std.specs.Prelude.{All, slice_get, slice_index_or}
use Rattle.mg_value.specs.declared.value.Value.TheVariants.{Null}
use Rattle.mg_value.specs.Rows.{RowFits}
use Rattle.mg_value.specs.declared.shape.Shape.{Shape}
use Rattle.mg_model.specs.Catalog.{key_of}
use Rattle.mg_model.specs.Changes.{Cells}
use Rattle.mg_rows.specs.declared.fault.NewRowFault.{NewRowFault}
use Rattle.mg_rows.specs.BoundLaws.{set_sorts}
use Rattle.mg_rows.specs.NewRowLaws.{key_stays, updated_fits}
use Rattle.mg_rows.specs.NewRows.{before, new_row, updated}
use Rattle.mg_exec.specs.Phases.{AllMayStand}
use Rattle.std.specs.List.{list_any}
use Rattle.mg_records.specs.declared.write.Write.{Write}
use Rattle.mg_records.specs.Reading.{MayStand}
use Rattle.mg_records.specs.Writing.{IsOfColumn}
use Rattle.std.proofs.lemmas.List.{map-append, take_more}
use Rattle.std.proofs.lemmas.List.Elements.{All-append, All-nil}
use Rattle.std.proofs.lemmas.Bool.{false≢true}
use Rattle.mg_value.specs.declared.shape.Column.{Column}
use Rattle.mg_expr.specs.declared.expr.Expr.{Expr}
use Rattle.mg_expr.specs.Trees.{Tree, tree_of}
use Rattle.mg_expr.specs.Typing.{Sort, sort_of}
use Rattle.mg_statements.specs.declared.statement.Assign.{Assign}
use Rattle.mg_statements.specs.Plain.{assign_of}
use Rattle.mg_plan.specs.Types.{fit_places, fits_column, is_filter_truth}

pub first : (a b : Bool) → (a && b) ≡ true → a ≡ true
first true b is = refl
first false b is = absurd (false≢true is)

second : (a b : Bool) → (a && b) ≡ true → b ≡ true
second true b is = is
second false b is = absurd (false≢true is)

fit_lengths : (columns : List Column) (places : List ℕ) (sorts : List (Option Sort))
    → fit_places columns places sorts ≡ true → length places ≡ length sorts
fit_lengths columns [] [] fit = refl
fit_lengths columns [] (sort ∷ sorts) fit = absurd (false≢true fit)
fit_lengths columns (place ∷ places) [] fit = absurd (false≢true fit)
fit_lengths columns (place ∷ places) (sort ∷ sorts) fit =
    ap suc (fit_lengths columns places sorts
    (second (fits_column (slice_get columns place) sort) (fit_places columns places sorts) fit))

sorts_length : (es : List Expr) → length (map (λ t. sort_of t []) (map tree_of es)) ≡ length es
sorts_length [] = refl
sorts_length (e ∷ es) = ap suc (sorts_length es)

sorts_made : (columns : List Column) (sets : List Assign)
    → length (map (λ t. sort_of t columns) (map (λ set. tree_of set.value) sets)) ≡ length sets
sorts_made columns [] = refl
sorts_made columns (set ∷ sets) = ap suc (sorts_made columns sets)

-- the values of an INSERT
pub values_lengths : (columns : List Column) (places : List ℕ) (values : List Expr)
    → fit_places columns places (map (λ t. sort_of t []) (map tree_of values)) ≡ true
    → length places ≡ length values
values_lengths columns places values typed =
    fit_lengths columns places (map (λ t. sort_of t []) (map tree_of values)) typed
    ∙ sorts_length values

-- what an UPDATE sets is of the columns' types
pub sets_typed : (columns : List Column) (places : List ℕ) (sets : List Assign) (filter : Option Tree)
    → (fit_places columns places (map (λ set. sort_of set.1 columns) (map assign_of sets))
    && is_filter_truth columns filter) ≡ true
    → fit_places columns places (map (λ t. sort_of t columns) (map (λ set. tree_of set.value) sets)) ≡ true
sets_typed columns places sets filter typed =
    ap (fit_places columns places) (sym (set_sorts columns sets)) ∙ first _ (is_filter_truth columns filter) typed

-- as many places as there are values to be set
pub sets_lengths : (columns : List Column) (places : List ℕ) (sets : List Assign)
    → fit_places columns places (map (λ t. sort_of t columns) (map (λ set. tree_of set.value) sets)) ≡ true
    → length places ≡ length sets
sets_lengths columns places sets typed =
    fit_lengths columns places (map (λ t. sort_of t columns) (map (λ set. tree_of set.value) sets)) typed
    ∙ sorts_made columns sets

-- the value in a column of a row that fits is of the column's kind
pub fits_at : (columns : List Column) (row : Cells) (place : ℕ) → RowFits columns row
    → place < length row → IsOfColumn (slice_get columns place) (slice_index_or row place Null)
fits_at [] [] place fit below = absurd (omega (arith, below))
fits_at [] (value ∷ row) place fit below = absurd fit
fits_at (column ∷ columns) [] place fit below = absurd fit
fits_at (column ∷ columns) (value ∷ row) zero fit below = fit.0.kind
fits_at (column ∷ columns) (value ∷ row) (suc place) fit below =
    fits_at columns row place fit.1 (omega (arith, below))

-- a row whose key is not NULL has its column
key_there : (row : Cells) (place : ℕ) → slice_index_or row place Null ≢ Null → place < length row
key_there [] place keyed = absurd (keyed refl)
key_there (value ∷ row) zero keyed = omega arith
key_there (value ∷ row) (suc place) keyed = let less = key_there row place keyed in omega (arith, less)

-- the key of a row that may stand in a table is of its column's kind
pub key_fits : (shape : Shape) (row : Cells) → MayStand shape row
    → IsOfColumn (slice_get shape.columns shape.key) (key_of shape row)
key_fits shape row may = fits_at shape.columns row shape.key may.fits (key_there row shape.key may.keyed)

-- ---- the rows that an UPDATE makes

-- a row that an UPDATE makes may stand where the old one does
made_may_stand : (shape : Shape) (places : List ℕ) (ts : List Tree) (row made : Cells)
    → fit_places shape.columns places (map (λ t. sort_of t shape.columns) ts) ≡ true
    → list_any (λ place. place == shape.key) places ≡ false → MayStand shape row
    → new_row shape.columns places ts row ≡ Ok made → MayStand shape made
made_may_stand shape places ts row made typed keys may is = record {
  fits = updated_fits shape.columns places ts row made may.fits typed is;
  keyed = λ none. may.keyed (sym (key_stays shape.columns places ts shape.key row made keys is) ∙ none);
}

all_more : (shape : Shape) (row : Cells) (rows : List Cells) → MayStand shape row → AllMayStand shape rows
    → AllMayStand shape (row ∷ rows)
all_more shape row rows may all zero d below = may
all_more shape row rows may all (suc k) d below = all k d (omega (arith, below))

all_behind : (shape : Shape) (row : Cells) (rows : List Cells) → AllMayStand shape (row ∷ rows)
    → AllMayStand shape rows
all_behind shape row rows all k d below = all (suc k) d (omega (arith, below))

-- so may all of them
pub all_made : (shape : Shape) (places : List ℕ) (ts : List Tree) (rows made : List Cells)
    → fit_places shape.columns places (map (λ t. sort_of t shape.columns) ts) ≡ true
    → list_any (λ place. place == shape.key) places ≡ false → AllMayStand shape rows
    → updated shape.columns places ts rows ≡ Ok made → AllMayStand shape made
all_made shape places ts [] made typed keys all is =
    let none : [] ≡ made = cc in subst (AllMayStand shape) none (All-nil (MayStand shape))
all_made shape places ts (row ∷ rows) made typed keys all is =
    at (new_row shape.columns places ts row) refl (updated shape.columns places ts rows)
    (λ others are. all_made shape places ts rows others typed keys (all_behind shape row rows all) are) is
  where
    at : (one : Result Cells NewRowFault) → new_row shape.columns places ts row ≡ one
        → (others : Result (List Cells) NewRowFault)
        → ((them : List Cells) → others ≡ Ok them → AllMayStand shape them)
        → before one others ≡ Ok made → AllMayStand shape made
    at (Ok one) one_is (Ok others) fit both =
        let are : one ∷ others ≡ made = cc in
        subst (AllMayStand shape) are (all_more shape one others
        (made_may_stand shape places ts row one typed keys (all zero row (omega arith)) one_is)
        (fit others refl))
    at (Ok one) one_is (Err fault) fit both = absurd cc
    at (Err fault) one_is others fit both = absurd cc

-- ---- one write more

pub fits_alone : (fits : Write → Type 0) (w : Write) → fits w → All fits (w ∷ [])
fits_alone fits w is zero d below = is
fits_alone fits w is (suc k) d below = absurd (omega (arith, below))

-- what is made so far, and one write more
pub fits_more : (fits : Write → Type 0) (made more : List Write) (w : Write) → All fits made → fits w
    → more ≡ made ++ w ∷ [] → All fits more
fits_more fits made more w all is pushed =
    subst (All fits) (sym pushed) (All-append fits made (w ∷ []) all (fits_alone fits w is))

pub one_more : (f : Cells → Write) (fits : Write → Type 0) (rows : List Cells) (i : ℕ) (row : Cells)
    (w : Write) (made more : List Write) → i < length rows → row ≡ get_or rows i row → w ≡ f row → fits w
    → (made ≡ map f (take i rows)) × All fits made → more ≡ made ++ w ∷ []
    → (more ≡ map f (take (i + 1) rows)) × All fits more
one_more f fits rows i row w made more below is equal fit so_far pushed = (
  pushed ∙ ap (λ (ws : List Write). ws ++ w ∷ []) so_far.0
      ∙ ap (λ (x : Write). map f (take i rows) ++ x ∷ []) equal
      ∙ sym (map-append f (take i rows) (row ∷ []))
      ∙ ap (map f) (sym (take_more rows i row below ∙ ap (λ (x : Cells). take i rows ++ x ∷ []) (sym is))),
  fits_more fits made more w so_far.1 fit pushed,
)
