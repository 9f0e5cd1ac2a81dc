-- The types of columns at their places, and of no values.
use Rattle.std.proofs.Common.{◌≡◌, ℕ, zero, suc, ◌==◌, ◌&&◌, Bool, true, false, List, [], ◌∷◌, length, map, Option}
use Rattle.std.proofs.Common.{refl, ap, sym, ◌∙◌, arith}
use Rattle.std.proofs.lemmas.Bool.{ne_eqb}
use Rattle.std.specs.Prelude.{slice_get}
use Rattle.mg_value.specs.declared.shape.Column.{Column}
use Rattle.mg_expr.specs.Typing.{Sort, column_sort}
use Rattle.mg_plan.specs.Types.{fit_places, fits_column, sort_if_there}

pub column_sort_get : (columns : List Column) (place : ℕ)
    → sort_if_there (slice_get columns place) ≡ column_sort columns place
column_sort_get [] place = refl
column_sort_get (column ∷ columns) zero = refl
column_sort_get (column ∷ columns) (suc place) = column_sort_get columns place

-- no value fits exactly where there is no place
pub fits_none : {X Y : Type 0} (columns : List Column) (places : List ℕ) (f : Y → Option Sort) (g : X → Y)
    (values : List X) → length values ≡ 0
    → (length places == 0) ≡ fit_places columns places (map f (map g values))
fits_none columns [] f g [] none = refl
fits_none columns (place ∷ places) f g [] none =
    ne_eqb (length (place ∷ places)) 0 (λ e. absurd (omega (arith, e)))
fits_none columns places f g (value ∷ values) none = absurd (omega arith)

-- ---- the next value at the next place

pub fits_next : {X Y : Type 0} (columns : List Column) (places others : List ℕ) (place : ℕ) (f : Y → Option Sort)
    (g : X → Y) (values later : List X) (value : X) (passes whole : Bool) → values ≡ value ∷ later
    → places ≡ place ∷ others → passes ≡ fits_column (slice_get columns place) (f (g value)) → passes ≡ true
    → fit_places columns places (map f (map g values)) ≡ whole
    → fit_places columns others (map f (map g later)) ≡ whole
fits_next columns places others place f g values later value passes whole is at tests right so_far =
    sym (ap (λ b. b && fit_places columns others (map f (map g later))) (sym tests ∙ right))
    ∙ sym (ap (λ ps. fit_places columns ps (map f (map g (value ∷ later)))) at)
    ∙ sym (ap (λ vs. fit_places columns places (map f (map g vs))) is) ∙ so_far

pub fits_not : {X Y : Type 0} (columns : List Column) (places others : List ℕ) (place : ℕ) (f : Y → Option Sort)
    (g : X → Y) (values later : List X) (value : X) (passes whole : Bool) → values ≡ value ∷ later
    → places ≡ place ∷ others → passes ≡ fits_column (slice_get columns place) (f (g value)) → passes ≡ false
    → fit_places columns places (map f (map g values)) ≡ whole → false ≡ whole
fits_not columns places others place f g values later value passes whole is at tests wrong so_far =
    sym (ap (λ b. b && fit_places columns others (map f (map g later))) (sym tests ∙ wrong))
    ∙ sym (ap (λ ps. fit_places columns ps (map f (map g (value ∷ later)))) at)
    ∙ sym (ap (λ vs. fit_places columns places (map f (map g vs))) is) ∙ so_far

-- there is no place for it
pub fits_nowhere : {X Y : Type 0} (columns : List Column) (places : List ℕ) (f : Y → Option Sort) (g : X → Y)
    (values later : List X) (value : X) (whole : Bool) → values ≡ value ∷ later → length places ≡ 0
    → fit_places columns places (map f (map g values)) ≡ whole → false ≡ whole
fits_nowhere columns [] f g values later value whole is none so_far =
    sym (ap (λ vs. fit_places columns [] (map f (map g vs))) is) ∙ so_far
fits_nowhere columns (place ∷ places) f g values later value whole is none so_far = absurd (omega (arith, none))
