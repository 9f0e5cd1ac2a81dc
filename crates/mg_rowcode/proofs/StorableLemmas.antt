-- Values that the program has, with one more, or NULL some times, behind them; and those that are put one after another.
use Rattle.std.proofs.Common.{◌≡◌, ◌≤◌, ◌++◌, ◌∷◌, [], ℕ, List, drop, length, replicate, subst, suc, sym, zero}
use Rattle.std.proofs.lemmas.List.{drop_all}
use Rattle.mg_rowcode.specs.Storable.{AreStorable, IsStorable}
use Rattle.mg_value.specs.Rows.{RowFits}
use Rattle.mg_value.specs.declared.shape.Column.{Column}
use Rattle.mg_value.specs.declared.value.Value.{Value}
use Rattle.mg_value.specs.declared.value.Value.TheVariants.{Null}

pub storable_one : (values : List Value) (value : Value) → AreStorable values → IsStorable value
    → AreStorable (values ++ value ∷ [])
storable_one [] value all one = (one, tt)
storable_one (first ∷ values) value all one = (all.0, storable_one values value all.1 one)

pub storable_nulls : (values : List Value) (count : ℕ) → AreStorable values
    → AreStorable (values ++ replicate count Null)
storable_nulls [] zero all = tt
storable_nulls [] (suc count) all = (tt, storable_nulls [] count all)
storable_nulls (first ∷ values) count all = (all.0, storable_nulls values count all.1)

-- one value more is put
pub values_storable : (values rest later : List Value) (value : Value) → rest ≡ value ∷ later
    → (AreStorable rest → AreStorable values) → IsStorable value → AreStorable later → AreStorable values
values_storable values rest later value front whole one more = whole (subst AreStorable (sym front) (one, more))

-- where no column is left there is no value
pub none_left : (columns : List Column) (i : ℕ) (rest : List Value) → length columns ≤ i
    → RowFits (drop i columns) rest → AreStorable rest
none_left columns i rest past fits = at rest (subst (λ (cs : List Column). RowFits cs rest) (drop_all i columns past) fits)
  where
    at : (values : List Value) → RowFits [] values → AreStorable values
    at [] none = tt
    at (value ∷ values) none = absurd none
