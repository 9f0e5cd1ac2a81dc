-- The changes of transactions in limbo that are chosen, and the rows that an opening places.
use Rattle.std.proofs.Common.{◌≡◌, ◌⊎◌, inl, inr, ap, sym, ◌∙◌, refl, ◌==◌, ℕ, Bool, true, false, List, [], ◌∷◌, ◌++◌, Option, None, Some, map}
use Rattle.std.specs.Cmp.Lexicographic.{same_text}
use Rattle.std.specs.Prelude.{if◌then◌else◌}
use Rattle.mg_value.specs.declared.value.Value.{Value}
use Rattle.mg_model.specs.Catalog.{CatalogRows, catalog_name, catalog_shape, key_in, key_of}
use Rattle.mg_model.specs.Changes.{Cells, is_at, row_at, same_key, same_name}
use Rattle.mg_model.specs.Machine.{catalog_changes, changes_by, limbo_step, placed}
use Rattle.mg_model.specs.Openings.{Each, chosen_changes, everyone}
use Rattle.mg_model.specs.declared.change.Change.{Change}
use Rattle.mg_model.specs.declared.opening.LimboChange.{LimboChange}
use Rattle.mg_model.specs.declared.opening.PlacedRow.{PlacedRow}
use Rattle.mg_image.specs.Histories.{newest_at, row_change}
use Rattle.mg_image_opening_laws.specs.Gathered.{IsIn, at_names, names_at}

-- a change of a transaction in limbo as a change
abbrev pub any_change : LimboChange → Change
any_change c = record { table = c.table; key = c.key; row = c.row }

-- A chosen change is of a key of a table.
pub record IsChosen (chosen : ℕ → Bool) (ls : List LimboChange) (rest : List Change) (name : List ℕ)
    (key : Value) : Type 0 where
  pub c : LimboChange
  pub there : IsIn ls c
  pub is_chosen : chosen c.by.0 ≡ true
  pub named : c.table ≡ name
  pub keyed : c.key ≡ key
  pub row_is : row_at (chosen_changes chosen ls ++ rest) name key ≡ c.row
  pub newest : newest_at (chosen_changes chosen ls) name key ≡ Some (row_change c.row)

-- None is.
pub record IsNotChosen (chosen : ℕ → Bool) (ls : List LimboChange) (rest : List Change) (name : List ℕ)
    (key : Value) : Type 0 where
  pub row_is : row_at (chosen_changes chosen ls ++ rest) name key ≡ row_at rest name key
  pub newest : newest_at (chosen_changes chosen ls) name key ≡ None
  pub never : (c : LimboChange) → IsIn ls c → chosen c.by.0 ≡ true → c.table ≡ name → c.key ≡ key → ⊥

-- the changes with one in front, if it is chosen
abbrev pub chosen_with : Bool → LimboChange → List Change → List Change
chosen_with b c cs = if b then any_change c ∷ cs else cs

module _ (chosen : ℕ → Bool) (rest : List Change) (name : List ℕ) (key : Value) where
  pub chosen_or_not : (ls : List LimboChange)
      → IsChosen chosen ls rest name key ⊎ IsNotChosen chosen ls rest name key
  chosen_or_not [] = inr (record {
    row_is = refl;
    newest = refl;
    never = λ c there is named keyed. there;
  })
  chosen_or_not (d ∷ ds) = at (chosen d.by.0) refl (is_at (any_change d) name key) refl (chosen_or_not ds)
    where
      at : (b : Bool) → chosen d.by.0 ≡ b → (a : Bool) → is_at (any_change d) name key ≡ a
          → IsChosen chosen ds rest name key ⊎ IsNotChosen chosen ds rest name key
          → IsChosen chosen (d ∷ ds) rest name key ⊎ IsNotChosen chosen (d ∷ ds) rest name key
      at true is true here more = let both = at_names (any_change d) name key here in inl (record {
        c = d;
        there = inl refl;
        is_chosen = is;
        named = both.0;
        keyed = both.1;
        row_is = rw (is, here) refl;
        newest = rw (is, here) refl;
      })
      at true is false other (inl it) = inl (record {
        c = it.c;
        there = inr it.there;
        is_chosen = it.is_chosen;
        named = it.named;
        keyed = it.keyed;
        row_is = rw (is, other) it.row_is;
        newest = rw (is, other) it.newest;
      })
      at true is false other (inr not_) = inr (record {
        row_is = rw (is, other) not_.row_is;
        newest = rw (is, other) not_.newest;
        never = never;
      })
        where
          never : (c : LimboChange) → IsIn (d ∷ ds) c → chosen c.by.0 ≡ true → c.table ≡ name
              → c.key ≡ key → ⊥
          never c (inr there) chosen_ named keyed = not_.never c there chosen_ named keyed
          never c (inl same) chosen_ named keyed =
              let both : false ≡ true = sym other
              ∙ (ap (λ (x : LimboChange). is_at (any_change x) name key) same
              ∙ names_at (any_change c) name key named keyed) in absurd cc
      at false out a other (inl it) = inl (record {
        c = it.c;
        there = inr it.there;
        is_chosen = it.is_chosen;
        named = it.named;
        keyed = it.keyed;
        row_is = rw out it.row_is;
        newest = rw out it.newest;
      })
      at false out a other (inr not_) = inr (record {
        row_is = rw out not_.row_is;
        newest = rw out not_.newest;
        never = never;
      })
        where
          never : (c : LimboChange) → IsIn (d ∷ ds) c → chosen c.by.0 ≡ true → c.table ≡ name
              → c.key ≡ key → ⊥
          never c (inr there) chosen_ named keyed = not_.never c there chosen_ named keyed
          never c (inl same) chosen_ named keyed =
              let both : false ≡ true = sym out
              ∙ (ap (λ (x : LimboChange). chosen x.by.0) same ∙ chosen_) in absurd cc

-- the changes of one transaction are those that are chosen where it alone is
pub own_is : (t : ℕ) (ls : List LimboChange)
    → changes_by t (map limbo_step ls) ≡ chosen_changes (λ u. u == t) ls
own_is t [] = refl
own_is t (c ∷ cs) = at (c.by.0 == t) refl (own_is t cs)
  where
    at : (b : Bool) → (c.by.0 == t) ≡ b
        → changes_by t (map limbo_step cs) ≡ chosen_changes (λ u. u == t) cs
        → changes_by t (map limbo_step (c ∷ cs)) ≡ chosen_changes (λ u. u == t) (c ∷ cs)
    at true is more = rw is (ap (λ (xs : List Change). any_change c ∷ xs) more)
    at false is more = rw is more

pub nobody_is : (ls : List LimboChange) → chosen_changes (λ t. false) ls ≡ []
nobody_is [] = refl
nobody_is (c ∷ cs) = nobody_is cs

pub everyone_is : (ls : List LimboChange) → chosen_changes everyone ls ≡ map any_change ls
everyone_is [] = refl
everyone_is (c ∷ cs) = ap (λ (xs : List Change). any_change c ∷ xs) (everyone_is cs)

-- ---- rows that are placed

-- A row of a table with its key.
pub record KeyedRow : Type 0 where
  pub table : List ℕ
  pub key : Value
  pub row : Cells

abbrev pub as_change : KeyedRow → Change
as_change k = record { table = k.table; key = k.key; row = Some k.row }

abbrev pub as_placed : KeyedRow → PlacedRow
as_placed k = record { table = k.table; row = k.row }

-- by a catalog by which each has its key, these are the rows that are placed
pub placed_is : (catalog : CatalogRows) (ks : List KeyedRow)
    → ((k : KeyedRow) → IsIn ks k → key_in catalog k.table k.row ≡ k.key)
    → placed catalog (map as_placed ks) ≡ map as_change ks
placed_is catalog [] keys = refl
placed_is catalog (k ∷ ks) keys =
    let more : placed catalog (map as_placed ks) ≡ map as_change ks =
    placed_is catalog ks (λ j there. keys j (inr there)) in
    let key : key_in catalog k.table k.row ≡ k.key = keys k (inl refl) in
    λ i. record { table = k.table; key = key i; row = Some k.row } ∷ more i

-- and the catalog is that of the rows of the catalog
pub catalog_is : (ks : List KeyedRow)
    → ((k : KeyedRow) → IsIn ks k → k.table ≡ catalog_name → key_of catalog_shape k.row ≡ k.key)
    → (key : Value) → row_at (catalog_changes (map as_placed ks)) catalog_name key
    ≡ row_at (map as_change ks) catalog_name key
catalog_is [] keys key = refl
catalog_is (k ∷ ks) keys key = at (same_name k.table catalog_name) refl
    (catalog_is ks (λ j there. keys j (inr there)) key)
  where
    at : (b : Bool) → same_name k.table catalog_name ≡ b
        → row_at (catalog_changes (map as_placed ks)) catalog_name key
        ≡ row_at (map as_change ks) catalog_name key
        → row_at (catalog_changes (map as_placed (k ∷ ks))) catalog_name key
        ≡ row_at (map as_change (k ∷ ks)) catalog_name key
    at false other more = rw other more
    at true same more =
        let its : key_of catalog_shape k.row ≡ k.key =
        keys k (inl refl) (same_text k.table catalog_name (sym same)) in
        rw (same, same, its) (ap (λ (x : Option Cells). if same_key k.key key then Some k.row else x) more)

-- ---- each of a list

pub each_in : {A : Type 0} (P : A → Type 0) (cs : List A) → ((c : A) → IsIn cs c → P c) → Each P cs
each_in P [] each = tt
each_in P (c ∷ cs) each = (each c (inl refl), each_in P cs (λ d there. each d (inr there)))

pub each_mapped : {A B : Type 0} (P : B → Type 0) (g : A → B) (cs : List A)
    → ((c : A) → IsIn cs c → P (g c)) → Each P (map g cs)
each_mapped P g [] each = tt
each_mapped P g (c ∷ cs) each = (each c (inl refl), each_mapped P g cs (λ d there. each d (inr there)))
