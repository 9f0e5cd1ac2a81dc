-- Each row that a transaction sees stands under its own key.
use Rattle.std.proofs.Common.{◌≡◌, ℕ, Bool, true, false, List, [], ◌∷◌, Some, Result, Ok, Err, get_or, refl, sym, ap, ◌∙◌, cond}
use Rattle.std.specs.Prelude.{OnOk}
use Rattle.mg_value.specs.declared.value.Value.{Value}
use Rattle.mg_value.specs.declared.value.Value.TheVariants.{Null}
use Rattle.mg_model.specs.declared.change.Change.{Change}
use Rattle.mg_model.specs.declared.table.Table.{Table}
use Rattle.mg_model.specs.Changes.{Cells, KeyedRows, row_at, rows_of, same_key}
use Rattle.mg_model.specs.RowLaws.{row_in, row_in-rows_of, same_from_same_key}
use Rattle.mg_plain.specs.declared.plain.Plain.{Plain}
use Rattle.mg_plain.specs.Keeping.{told_in}
use Rattle.mg_plain.specs.Kept.{kept}
use Rattle.mg_plain.specs.Records.{stand_under, means}
use Rattle.mg_plain.specs.RecordsLaws.{same_view}
use Rattle.mg_tending.specs.Keyed.{HaveTheirKeys}

-- the row with a key has it
own_in : (place : ℕ) (rows : KeyedRows) (key : Value) (row : Cells) → stand_under place rows ≡ true
    → row_in rows key ≡ Some row → get_or row place Null ≡ key
own_in place [] key row stand is = absurd cc
own_in place (r ∷ rows) key row stand is =
    at (same_key (get_or r.1 place Null) r.0) refl stand (λ later more. own_in place rows key row later more)
  where
    at : (c : Bool) → same_key (get_or r.1 place Null) r.0 ≡ c → cond c (stand_under place rows) false ≡ true
        → (stand_under place rows ≡ true → row_in rows key ≡ Some row → get_or row place Null ≡ key)
        → get_or row place Null ≡ key
    at false other none later = absurd cc
    at true own stands later = by (same_key r.0 key) refl is
      where
        by : (b : Bool) → same_key r.0 key ≡ b → cond b (Some r.1) (row_in rows key) ≡ Some row
            → get_or row place Null ≡ key
        by true same here =
            let its : r.1 ≡ row = cc in
            ap (λ (cells : Cells). get_or cells place Null) (sym its)
            ∙ (same_from_same_key (get_or r.1 place Null) r.0 own ∙ same_from_same_key r.0 key same)
        by false elsewhere more = later stands more

pub own_at : (place : ℕ) (changes : List Change) (name : List ℕ) (rows : KeyedRows) → rows ≡ rows_of changes name
    → stand_under place rows ≡ true → (key : Value) (row : Cells) → row_at changes name key ≡ Some row
    → get_or row place Null ≡ key
own_at place changes name rows are stand key row is =
    own_in place (rows_of changes name) key row (ap (stand_under place) (sym are) ∙ stand)
    (row_in-rows_of changes name key ∙ is)

-- so it is by each history that the machine stands for
pub own_told : (p : Plain) (t : ℕ) (table : Table)
    → ((key : Value) (row : Cells) → row_at ((told_in (kept p)).view t) table.name key ≡ Some row
    → get_or row table.shape.key Null ≡ key) → HaveTheirKeys means p t table
own_told p t table own = λ o h s active key row is.
    own key row (ap (λ (cs : List Change). row_at cs table.name key) (same_view o h (kept p) t s) ∙ is)

-- what holds whatever is answered holds where it is answered
pub on_ok : {T E : Type 0} {P : Type 0} (result : Result T E) → P → OnOk result P
on_ok (Ok x) holds = holds
on_ok (Err e) holds = tt
