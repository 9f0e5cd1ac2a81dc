-- What a transaction reads of what it wrote.
use Rattle.std.specs.Prelude.{◌≡◌, ℕ, ◌==◌, nat_eq, true, false, List, [], ◌∷◌, ◌++◌, Option, Some, cond, refl}
use Rattle.std.proofs.Common.{ap}
use Rattle.std.proofs.lemmas.Bool.{eq-eqb}
use Rattle.std.specs.Ordering.{is_eq}
use Rattle.std.proofs.lemmas.Cmp.{tied_itself}
use Rattle.mg_value.specs.declared.value.Value.{Value}
use Rattle.mg_value.specs.OrderLaws.{value_cmp_total}
use Rattle.mg_model.specs.declared.change.Change.{Change}
use Rattle.mg_model.specs.declared.change.Step.{Step}
use Rattle.mg_model.specs.declared.opening.Opening.{Opening}
use Rattle.mg_model.specs.Changes.{Cells, same_name, same_key, is_at, has_change, row_at}
use Rattle.mg_model.specs.Catalog.{catalog_name, key_in}
use Rattle.mg_model.specs.History.{Entry, Entries, Effect, Makes, Gives, effect_of}
use Rattle.mg_model.specs.Machine.{mode_of, changes_by, changed, step, steps_after, takes_base, steps, database, base, own, view}
use Rattle.mg_model.specs.Answers.{told, catalog_of}
use Rattle.mg_model.specs.RowLaws.{row_at-append}

-- ---- what it wrote it reads

-- a transaction has its own row at each key that its own changes have
pub reads_own : (o : Opening) (h : Entries) (t : ℕ) (table : List ℕ) (key : Value)
    → has_change (own o h t) table key ≡ true
    → row_at (view o h t) table key ≡ row_at (own o h t) table key
reads_own o h t table key has =
    rw (row_at-append (own o h t) (base o h t) table key, has)

-- at any other key it has the row of its base
pub reads_base : (o : Opening) (h : Entries) (t : ℕ) (table : List ℕ) (key : Value)
    → has_change (own o h t) table key ≡ false
    → row_at (view o h t) table key ≡ row_at (base o h t) table key
reads_base o h t table key has_not =
    rw (row_at-append (own o h t) (base o h t) table key, has_not)

pub same_name_itself : (name : List ℕ) → same_name name name ≡ true
same_name_itself [] = refl
same_name_itself (b ∷ name) =
    let here : nat_eq b b ≡ true = eq-eqb b b refl in rw here (same_name_itself name)

pub is_at_itself : (table : List ℕ) (key : Value) (row : Option Cells)
    → is_at (record { table = table; key = key; row = row }) table key ≡ true
is_at_itself table key row =
    let name : same_name table table ≡ true = same_name_itself table in
    let at_key : same_key key key ≡ true = ap is_eq (tied_itself value_cmp_total key) in
    rw name at_key

itself : (t : ℕ) → (t == t) ≡ true
itself t = eq-eqb t t refl

-- the own changes after a write are those before it with the new row in front
own_after : (t : ℕ) (table : List ℕ) (key : Value) (row : Option Cells) (all : List Step)
    → changes_by t (step t (changed table key row) ∷ all)
    ≡ record { table = table; key = key; row = row } ∷ changes_by t all
own_after t table key row all = let its : (t == t) ≡ true = itself t in rw its refl

front_row : (table : List ℕ) (key : Value) (row : Option Cells) (cs rest : List Change)
    → cs ≡ record { table = table; key = key; row = row } ∷ rest → row_at cs table key ≡ row
front_row table key row cs rest is =
    let here : is_at (record { table = table; key = key; row = row }) table key ≡ true =
    is_at_itself table key row in
    rw is (rw here refl)

-- what is given a key is read at it
pub reads_given : (o : Opening) (h : Entries) (e : Entry) (t : ℕ) (table : List ℕ) (key : Value)
    (row : Option Cells) → effect_of e ≡ Gives t table key row
    → row_at (view o (e ∷ h) t) table key ≡ row
reads_given o h e t table key row is =
    front_row table key row (view o (e ∷ h) t) (own o h t ++ base o h t)
    (at (effect_of e) is)
  where
    at : (f : Effect) → f ≡ Gives t table key row
        → changes_by t (steps_after f
        (λ u. row_at (changes_by u (steps o h) ++ base o h u) catalog_name) (steps o h))
        ++ cond (takes_base f t (mode_of h t).snapshot) (database o h) (base o h t)
        ≡ record { table = table; key = key; row = row } ∷ (own o h t ++ base o h t)
    at f is = rw is (ap (λ cs. cs ++ base o h t) (own_after t table key row (steps o h)))

-- a row that is made is read at its key
pub reads_made : (o : Opening) (h : Entries) (e : Entry) (t : ℕ) (table : List ℕ) (row : Cells)
    → effect_of e ≡ Makes t table row
    → row_at (view o (e ∷ h) t) table (key_in (catalog_of (told o h) t) table row) ≡ Some row
reads_made o h e t table row is =
    front_row table key (Some row) (view o (e ∷ h) t) (own o h t ++ base o h t)
    (at (effect_of e) is)
  where
    key : Value
    key = key_in (catalog_of (told o h) t) table row

    at : (f : Effect) → f ≡ Makes t table row
        → changes_by t (steps_after f
        (λ u. row_at (changes_by u (steps o h) ++ base o h u) catalog_name) (steps o h))
        ++ cond (takes_base f t (mode_of h t).snapshot) (database o h) (base o h t)
        ≡ record { table = table; key = key; row = Some row } ∷ (own o h t ++ base o h t)
    at f is = rw is (ap (λ cs. cs ++ base o h t) (own_after t table key (Some row) (steps o h)))
