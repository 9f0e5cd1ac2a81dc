-- What is held depends on what the records show alone.
use Rattle.std.proofs.Common.{◌≡◌, sym, ◌∙◌, ℕ, Bool, List, Some}
use Rattle.mg_base.specs.declared.numbers.RecId.{RecId}
use Rattle.mg_value.specs.declared.value.Value.{Value}
use Rattle.mg_model.specs.declared.table.Table.{Table}
use Rattle.mg_image.specs.Form.{Row, Rows}
use Rattle.mg_image.specs.Held.{AreRows, Database, IsHeld, IsHeldAt, Shows}
use Rattle.mg_image.specs.RecordRules.{Facts, table_in}
use Rattle.mg_image.specs.Records.{Reading, key_of, shown}

-- Of each slot two images show the same row of the same table.
pub record ShowsSame (f g : Facts) (old new : ℕ → Bool) (r s : Reading) : Type 0 where
  pub tables : (p : RecId) → table_in g p ≡ table_in f p
  pub rows : (p : RecId) → shown new (s p) ≡ shown old (r p)

shows_on : (f g : Facts) (old new : ℕ → Bool) (r s : Reading) → ShowsSame f g old new r s
    → (p : RecId) (table : Table) (row : Row) → Shows f old r p table row
    → Shows g new s p table row
shows_on f g old new r s same p table row shows = record {
  of_table = same.tables p ∙ shows.of_table;
  row_shown = same.rows p ∙ shows.row_shown;
}

shows_back : (f g : Facts) (old new : ℕ → Bool) (r s : Reading) → ShowsSame f g old new r s
    → ShowsSame g f new old s r
shows_back f g old new r s same = record {
  tables = λ p. sym (same.tables p);
  rows = λ p. sym (same.rows p);
}

-- the same rows of a table
pub same_rows : (f g : Facts) (old new : ℕ → Bool) (r s : Reading) (table : Table) (rows : Rows)
    → ShowsSame f g old new r s → AreRows f old r table rows → AreRows g new s table rows
same_rows f g old new r s table rows same are = record {
  there = λ p row shows.
      are.there p row (shows_on g f new old s r (shows_back f g old new r s same) p
      table row shows);
  whole = λ key row is. whole key row is (are.whole key row is);
}
  where
    whole : (key : Value) (row : Row) → rows key ≡ Some row
        → (p : RecId) × Shows f old r p table row × (key_of table row ≡ key)
        → (p : RecId) × Shows g new s p table row × (key_of table row ≡ key)
    whole key row is (p, shows, keyed) =
        (p, shows_on f g old new r s same p table row shows, keyed)

-- the same database
pub same_held : (f g : Facts) (old new : ℕ → Bool) (r s : Reading) (db : Database)
    → ShowsSame f g old new r s → IsHeld f old r db → IsHeld g new s db
same_held f g old new r s db same held = record {
  there = λ p table row shows has. held.there p table row (shows_on g f new old s r
      (shows_back f g old new r s same) p table row shows) has;
  whole = λ name key row is. held_at name key row (held.whole name key row is);
  tables = held.tables;
}
  where
    held_at : (name : List ℕ) (key : Value) (row : Row) → IsHeldAt f old r name key row
        → IsHeldAt g new s name key row
    held_at name key row at = record {
      place = at.place;
      table = at.table;
      stored = at.stored;
      shows = shows_on f g old new r s same at.place at.table at.stored at.shows;
      named = at.named;
      keyed = at.keyed;
      told = at.told;
    }
