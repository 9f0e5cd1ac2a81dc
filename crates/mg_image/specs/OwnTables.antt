-- Whose versions a table has, in the terms of the database that an image holds and of the changes
-- of its transactions in limbo.
use Rattle.std.specs.Prelude.{◌≡◌, ◌≢◌, ◌⊎◌, ℕ, List, Option, None, Some, IsSome}
use Rattle.mg_base.specs.declared.numbers.RecId.{RecId}
use Rattle.mg_model.specs.Catalog.{catalog_name, table_key}
use Rattle.mg_model.specs.declared.table.Table.{Table}
use Rattle.mg_image.specs.declared.entry.Entry.{Entry}
use Rattle.mg_image.specs.Held.{Changes, Database, HasLimbo, HasTable}
use Rattle.mg_image.specs.RecordRules.{Facts, committed_in, table_in}
use Rattle.mg_image.specs.Records.{Change, Erases, Puts, Reading, shown, writer}

-- a change puts a row
abbrev pub IsPut : Option Change → Type 0
IsPut None = ⊥
IsPut (Some (Puts row)) = Unit {0}
IsPut (Some Erases) = ⊥

-- Tables of one name are one, and one that is named as the catalog is the catalog.
pub record AreNamedOnce (f : Facts) (catalog : Table) : Type 0 where
  pub tables : (p q : RecId) (a b : Table) → table_in f p ≡ Some a → table_in f q ≡ Some b
      → a.name ≡ b.name → a ≡ b
  pub itself : (p : RecId) (a : Table) → table_in f p ≡ Some a → a.name ≡ catalog_name
      → a ≡ catalog

-- What a table has that the database has not: nothing is shown of it, and its limbo versions are of
-- transactions whose changes put its row; and no transaction in limbo takes a table away.
pub record HasOwnChanges (f : Facts) (r : Reading) (db : Database) (changes : Changes)
    : Type 0 where
  pub own : (p : RecId) (table : Table) → table_in f p ≡ Some table
      → HasTable db table.name ⊎ (shown (committed_in f) (r p) ≡ None)
  pub made : (p : RecId) (table : Table) (e : Entry) → HasLimbo f r p table e
      → HasTable db table.name ⊎ IsPut (changes (writer e) catalog_name (table_key table.name))
  pub kept : (t : ℕ) (name : List ℕ) → IsSome (db catalog_name (table_key name))
      → changes t catalog_name (table_key name) ≢ Some Erases
