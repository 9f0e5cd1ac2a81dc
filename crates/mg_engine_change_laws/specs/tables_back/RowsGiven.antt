-- What a transaction's list gives to take back: the changes of other tables, and then the rows of the catalog.
use Rattle.std.specs.Prelude.{◌≡◌, ◌==◌, ◌++◌, ◌∷◌, ℕ, None, true, false, List, [], if◌then◌else◌, map}
use Rattle.mg_value.specs.declared.value.Value.{Value}
use Rattle.mg_model.specs.declared.change.Change.{Change}
use Rattle.mg_model.specs.Catalog.{catalog_name}
use Rattle.mg_model.specs.Changes.{has_change, same_name}
use Rattle.mg_model.specs.History.{Entries, Entry}
use Rattle.mg_model.specs.Machine.{own}
use Rattle.mg_model.specs.declared.opening.Opening.{Opening}
use Rattle.mg_undo.specs.Machine.{given_from}
use Rattle.mg_engine_step_laws.specs.backs.Again.{AreTaken}
use Rattle.mg_image.specs.Histories.{newest_at}
use Rattle.mg_engine_step_laws.specs.tables_back.Outs.{is_among}
use Rattle.mg_engine_step_laws.specs.tables_back.TablesBack.{AreRowsLeft}
use Rattle.mg_engine_change_laws.specs.backs.ToTake.{AreKeysOf, EachChange}
use Rattle.mg_table_takings.specs.Keys.{keys_of, others_of}
use Rattle.mg_engine_change_laws.specs.tables_back.ListsTell.{KeysGoWhole}

-- those of some changes that are of the catalog
abbrev pub of_catalog : List Change → List Change
of_catalog [] = []
of_catalog (c ∷ cs) = if same_name c.table catalog_name then c ∷ of_catalog cs else of_catalog cs

-- and those of other tables
abbrev pub of_others : List Change → List Change
of_others [] = []
of_others (c ∷ cs) = if same_name c.table catalog_name then of_others cs else c ∷ of_others cs

-- those of these changes that are of the catalog have its first page as their number, and no others
abbrev pub TellsCatalog : (List ℕ → ℕ) → ℕ → List Change → Type 0
TellsCatalog number catalog cs = EachChange (λ c. (number c.table == catalog) ≡ same_name c.table catalog_name) cs

-- What is given of both kinds, where the first page of the catalog tells them apart.
pub record GivenApart : Type 0 where
  pub others : (number : List ℕ → ℕ) (catalog : ℕ) (left cs : List Change) → TellsCatalog number catalog cs
      → others_of catalog (map (given_from number left) cs) ≡ map (given_from number left) (of_others cs)
  pub rows : (number : List ℕ → ℕ) (catalog : ℕ) (left cs : List Change) → TellsCatalog number catalog cs
      → keys_of catalog (map (given_from number left) cs) ≡ map (λ c. c.key) (of_catalog cs)
  -- they are all, the rows last
  pub all : (keys left : List Change) → AreKeysOf keys left → AreKeysOf (of_others keys ++ of_catalog keys) left
  -- so where no row goes there is no change of the catalog
  pub none : (keys left : List Change) → AreKeysOf keys left → (key : Value)
      → is_among (map (λ c. c.key) (of_catalog keys)) key ≡ false → newest_at left catalog_name key ≡ None

-- what is left to take back once the changes of other tables are: the rows of the catalog, of whole tables, each made by the
-- transaction
abbrev pub RowsAreLeft : Type 0
RowsAreLeft = (o : Opening) (h : Entries) (e : Entry) (t : ℕ) (keys whole left : List Change) → AreTaken o h e t whole
    → ((name : List ℕ) (key : Value) → has_change left name key ≡ true → has_change whole name key ≡ true)
    → AreKeysOf (of_catalog keys) left → EachChange (λ c. has_change (own o h t) c.table c.key ≡ true) keys
    → EachChange (λ c. c.table ≡ catalog_name → newest_at (own o (e ∷ h) t) catalog_name c.key ≡ None) keys
    → KeysGoWhole (own o h t) (map (λ c. c.key) (of_catalog keys))
    → AreRowsLeft o h e t left (map (λ c. c.key) (of_catalog keys))
