-- Histories in which rows of the catalog are made, and never given another row or none: what is committed of the
-- catalog stays as it is.
use Rattle.std.specs.Prelude.{◌≡◌, ◌≢◌, ◌==◌, ◌&&◌, ◌||◌, ◌-◌, ℕ, Bool, true, false, not, List, [], ◌∷◌, length, take, None, Some, IsSome, if◌then◌else◌}
use Rattle.mg_base.specs.declared.transaction.TxState.TheVariants.{Active}
use Rattle.mg_value.specs.declared.value.Value.{Value}
use Rattle.mg_model.specs.declared.opening.LimboChange.{LimboChange}
use Rattle.mg_model.specs.declared.opening.Opening.{Opening}
use Rattle.mg_model.specs.Answers.{is_open}
use Rattle.mg_model.specs.Catalog.{catalog_name, catalog_shape, key_of, text_of}
use Rattle.mg_model.specs.Changes.{Cells, has_change, row_at, same_name}
use Rattle.mg_model.specs.History.{Begins, Effect, Ends, Entries, Entry, Gives, Looks, Makes, Marks, Nothing, Saves, TakesBack, effect_of}
use Rattle.mg_model.specs.Legal.{IsLegal, MayBegin}
use Rattle.mg_model.specs.Machine.{base, database, own, state_of, view}
use Rattle.mg_model.specs.Openings.{Each, opening_catalog}

-- ---- the rows of a table come one after another

-- the text of the key of a row of the catalog
abbrev pub key_text : Cells → List ℕ
key_text row = text_of (key_of catalog_shape row)

-- the name of the table of a column, by what stands behind the letter in such a text: all but a point and two digits
abbrev pub columns_table : List ℕ → List ℕ
columns_table rest = take (length rest - 3) rest

-- a row with this text says the table of a name, or a column of it
abbrev pub says_of : List ℕ → List ℕ → Bool
says_of name [] = false
says_of name (letter ∷ rest) =
    if letter == 84 then same_name rest name else letter == 67 && same_name (columns_table rest) name

-- an effect makes such a row, for a transaction
abbrev pub makes_of : ℕ → List ℕ → Effect → Bool
makes_of t name (Begins u mode) = false
makes_of t name (Looks u) = false
makes_of t name (Makes u table row) = u == t && (same_name table catalog_name && says_of name (key_text row))
makes_of t name (Gives u table key row) = false
makes_of t name (Marks u) = false
makes_of t name (Saves u saved) = false
makes_of t name (TakesBack u point) = false
makes_of t name (Ends u end) = false
makes_of t name Nothing = false

-- the last entry does
abbrev pub last_makes : ℕ → List ℕ → Entries → Bool
last_makes t name [] = false
last_makes t name (e ∷ h) = makes_of t name (effect_of e)

-- a row with this text comes with its table: it says a table, or a column right behind another row of its table
abbrev pub comes_with_table : ℕ → List ℕ → Entries → Bool
comes_with_table t [] h = false
comes_with_table t (letter ∷ rest) h = letter == 84 || (letter == 67 && last_makes t (columns_table rest) h)

-- ---- such histories

-- after a history an effect gives no row of the catalog another one, nor none, and one that it makes comes with its table
abbrev pub makes_alone : Entries → Effect → Bool
makes_alone h (Begins t mode) = true
makes_alone h (Looks t) = true
makes_alone h (Makes t table row) = not (same_name table catalog_name) || comes_with_table t (key_text row) h
makes_alone h (Gives t table key row) = not (same_name table catalog_name)
makes_alone h (Marks t) = true
makes_alone h (Saves t name) = true
makes_alone h (TakesBack t point) = true
makes_alone h (Ends t end) = true
makes_alone h Nothing = true

abbrev pub EachMakes : Entries → Type 0
EachMakes [] = Unit {0}
EachMakes (e ∷ h) = (makes_alone h (effect_of e) ≡ true) × EachMakes h

-- a change of a transaction in limbo makes a row, if it is of the catalog, where that has none
abbrev pub IsMaking : Opening → LimboChange → Type 0
IsMaking o c = same_name c.table catalog_name ≡ true
    → IsSome c.row × (opening_catalog o c.key ≡ None)

-- Rows of the catalog are only made: by the transactions that are in limbo when a history begins, and by its
-- entries, which make those of a table one after another. (CREATE TABLE makes them all in one call, and no other
-- statement writes the catalog.)
pub record CatalogGrows (o : Opening) (h : Entries) : Type 0 where
  pub limbo : Each (IsMaking o) o.limbo
  pub entries : EachMakes h

-- ---- what follows

-- a row of the catalog that is committed stays
abbrev pub CommittedRowsStay : Type 0
CommittedRowsStay = (o : Opening) (h : Entries) (e : Entry) (key : Value) (row : Cells) → MayBegin o
    → IsLegal o (e ∷ h) → CatalogGrows o h → row_at (database o h) catalog_name key ≡ Some row
    → row_at (database o (e ∷ h)) catalog_name key ≡ Some row

-- so what a base has of the catalog the database has, however old it is
abbrev pub BasesAreWithin : Type 0
BasesAreWithin = (o : Opening) (h : Entries) (t : ℕ) (key : Value) (row : Cells) → MayBegin o
    → IsLegal o h → CatalogGrows o h → row_at (base o h t) catalog_name key ≡ Some row
    → row_at (database o h) catalog_name key ≡ Some row

-- what a transaction that has not ended has changed in the catalog are rows, where the database has none
abbrev pub OwnRowsAreNew : Type 0
OwnRowsAreNew = (o : Opening) (h : Entries) (t : ℕ) (key : Value) → MayBegin o → IsLegal o h
    → CatalogGrows o h → is_open (state_of o h t) ≡ true
    → has_change (own o h t) catalog_name key ≡ true
    → IsSome (row_at (own o h t) catalog_name key)
    × (row_at (database o h) catalog_name key ≡ None)

-- a row of the catalog that an active transaction sees no other one has made that has not ended
abbrev pub SeenIsNotMade : Type 0
SeenIsNotMade = (o : Opening) (h : Entries) (t u : ℕ) (key : Value) (row : Cells) → MayBegin o
    → IsLegal o h → CatalogGrows o h → is_open (state_of o h t) ≡ true → state_of o h u ≡ Active
    → t ≢ u → row_at (view o h u) catalog_name key ≡ Some row
    → has_change (own o h t) catalog_name key ≡ false
