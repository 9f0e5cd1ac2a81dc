-- A new database holds the rows of its catalog, and opening it gives what opening a blank image gives.
use Rattle.std.proofs.Common.{◌≡◌, ◌&&◌, inl, refl, sym, ℕ, Bool, true, false, List, Option, None, Some}
use Rattle.std.specs.Cmp.Lexicographic.{same_text}
use Rattle.std.specs.Prelude.{if◌then◌else◌}
use Rattle.mg_base.specs.Image.{Image, page_at}
use Rattle.mg_base.specs.declared.numbers.RecId.{RecId}
use Rattle.mg_image.specs.Form.{Row}
use Rattle.mg_image.specs.Held.{AreChanges, IsHeld, IsHeldAt, Shows, told_row}
use Rattle.mg_image.specs.Inventory.{state_at}
use Rattle.mg_image.specs.NewDatabase.{key_row, table_row, value_row}
use Rattle.mg_image.specs.Opening.{Opened, new_row}
use Rattle.mg_image.specs.RecordRules.{Facts, committed_in}
use Rattle.mg_image.specs.Records.{Cells, key_of, writer}
use Rattle.mg_image.specs.Sound.{facts_of}
use Rattle.mg_image.specs.Records.{cells_of}
use Rattle.mg_model.specs.Catalog.{catalog_name, column_key, table_key}
use Rattle.mg_model.specs.Changes.{same_key, same_name}
use Rattle.mg_model.specs.NewDatabase.{kv_name}
use Rattle.mg_model.specs.RowLaws.{same_from_same_key}
use Rattle.mg_model.specs.declared.table.Table.{Table}
use Rattle.mg_value.specs.declared.value.Value.{Value}
use Rattle.mg_new_database_laws.specs.NameLaws.{system_in}
use Rattle.mg_new_database_laws.specs.NewDatabase.{Bodies, catalog_slot, new_layout, new_reading}
use Rattle.mg_new_database_laws.specs.PageLaws.{bodies, least, new_image, next, none_in_limbo, system_committed}
use Rattle.mg_new_database_laws.specs.RecordLaws.{IsNewImage, cat}
use Rattle.mg_new_database_laws.specs.RowLaws.{Showing, of_key, of_table, of_value, shows_key, shows_one, shows_table, shows_value}
use Rattle.mg_new_database_laws.specs.Soundness.{NewAreOpened}
use Rattle.mg_new_database_laws.specs.SoundnessLaws.{new_sound}

-- ---- the rows of a new database

abbrev some_row : Row → Option Row
some_row row = Some row

-- A row of a new database is one of three of the catalog, with page numbers read as 0.
data IsNewRow (name : List ℕ) (key : Value) (row : Row) : Type 0 where
  of_column_k : name ≡ catalog_name → key ≡ column_key kv_name 0 → row ≡ told_row cat key_row
      → IsNewRow name key row
  of_column_v : name ≡ catalog_name → key ≡ column_key kv_name 1 → row ≡ told_row cat value_row
      → IsNewRow name key row
  of_kv : name ≡ catalog_name → key ≡ table_key kv_name → row ≡ told_row cat table_row
      → IsNewRow name key row

new_row_is : (name : List ℕ) (key : Value) (row : Row) → new_row name key ≡ Some row → IsNewRow name key row
new_row_is name key row is = at (same_name catalog_name name) refl (same_key (column_key kv_name 0) key) refl
    (same_key (column_key kv_name 1) key) refl (same_key (table_key kv_name) key) refl is
  where
    one : (a c : Row) → some_row a ≡ Some c → c ≡ a
    one a c e = cc

    named : same_name catalog_name name ≡ true → name ≡ catalog_name
    named is = sym (same_text catalog_name name (sym is))

    at : (n : Bool) → same_name catalog_name name ≡ n → (a : Bool) → same_key (column_key kv_name 0) key ≡ a
        → (b : Bool) → same_key (column_key kv_name 1) key ≡ b → (c : Bool) → same_key (table_key kv_name) key ≡ c
        → (if n && a then some_row (told_row cat key_row) else (if n && b then some_row (told_row cat value_row)
        else (if n && c then some_row (told_row cat table_row) else None))) ≡ Some row
        → IsNewRow name key row
    at true n true i b j c k e = of_column_k (named n) (sym (same_from_same_key (column_key kv_name 0) key i))
        (one (told_row cat key_row) row e)
    at true n false i true j c k e = of_column_v (named n) (sym (same_from_same_key (column_key kv_name 1) key j))
        (one (told_row cat value_row) row e)
    at true n false i false j true k e = of_kv (named n) (sym (same_from_same_key (table_key kv_name) key k))
        (one (told_row cat table_row) row e)
    at true n false i false j false k e = absurd cc
    at false n a i b j c k e = absurd cc

module _ (b : Bodies) (f : Facts) (h : Cells) (new : IsNewImage b f h) (system : committed_in f 0 ≡ true) where
  at_row : (table : Table) (row stored : Row) → table ≡ cat → row ≡ stored
      → new_row cat.name (key_of cat stored) ≡ Some (told_row cat stored)
      → new_row table.name (key_of table row) ≡ Some (told_row table row)
  at_row table row stored of is there = rw (of, is) there

  held_there : (p : RecId) (table : Table) (row : Row) → Showing p table row
      → new_row table.name (key_of table row) ≡ Some (told_row table row)
  held_there p table row (of_table place of is) = at_row table row table_row of is refl
  held_there p table row (of_key place of is) = at_row table row key_row of is refl
  held_there p table row (of_value place of is) = at_row table row value_row of is refl

  held_at : (p : RecId) (stored : Row) → Shows f (committed_in f) (new_reading b) p cat stored
      → (name : List ℕ) (key : Value) (row : Row) → name ≡ catalog_name → key ≡ key_of cat stored
      → row ≡ told_row cat stored → IsHeldAt f (committed_in f) (new_reading b) name key row
  held_at p stored shows name key row named keyed told = record {
    place = p;
    table = cat;
    stored = stored;
    shows = shows;
    named = sym named;
    keyed = sym keyed;
    told = sym told;
  }

  pub new_held : IsHeld f (committed_in f) (new_reading b) new_row
  new_held = record {
    there = λ p table row shows has. held_there p table row
        (shows_one b f h new (committed_in f) system p table row shows);
    whole = λ name key row is. whole name key row (new_row_is name key row is);
    tables = λ name key row is. inl (named name key row (new_row_is name key row is));
  }
    where
      whole : (name : List ℕ) (key : Value) (row : Row) → IsNewRow name key row
          → IsHeldAt f (committed_in f) (new_reading b) name key row
      whole name key row (of_column_k n k r) = held_at (catalog_slot 2) key_row
          (shows_key b f h new (committed_in f) system) name key row n k r
      whole name key row (of_column_v n k r) = held_at (catalog_slot 4) value_row
          (shows_value b f h new (committed_in f) system) name key row n k r
      whole name key row (of_kv n k r) = held_at (catalog_slot 0) table_row
          (shows_table b f h new (committed_in f) system) name key row n k r

      named : (name : List ℕ) (key : Value) (row : Row) → IsNewRow name key row → name ≡ catalog_name
      named name key row (of_column_k n k r) = n
      named name key row (of_column_v n k r) = n
      named name key row (of_kv n k r) = n

-- ---- what opening it gives

abbrev pub new_opened : ℕ → Image → Opened
new_opened size image = record {
  rows = new_row;
  limbo = λ t name key. None;
  next = 1;
  state = state_at size (page_at size image);
}

pub new_are_opened : NewAreOpened
new_are_opened size image lawful made whole = (
  new_opened size image,
  record {
    layout = new_layout;
    reading = new_reading (bodies size image lawful made);
    sound = new_sound size image lawful made whole;
    held = new_held (bodies size image lawful made) (facts_of size (page_at size image) new_layout)
        (cells_of (page_at size image)) its (system_in size
        (least size image lawful made) (bodies size image lawful made) (facts_of size (page_at size image) new_layout)
        (cells_of (page_at size image)) its);
    limbo = none;
    next = sym (next size image lawful made);
    state = λ t below. refl;
  },
  record {
    rows = λ name key. refl;
    limbo = λ t name key. refl;
    next = refl;
    state = system_committed size image lawful made;
  },
)
  where
    its : IsNewImage (bodies size image lawful made) (facts_of size (page_at size image) new_layout)
        (cells_of (page_at size image))
    its = new_image size image lawful made

    none : AreChanges (facts_of size (page_at size image) new_layout) (new_reading (bodies size image lawful made))
        (λ t name key. None)
    none = record {
      there = λ p table e has. absurd (none_in_limbo size image lawful made (writer e) has.limbo);
      whole = λ t name key change is. absurd cc;
    }
