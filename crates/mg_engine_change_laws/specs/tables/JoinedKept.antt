-- The pages with a new table are what they have to be for the history with its rows, where its maker counts as in
-- limbo: the database is as it was, and the maker has their changes.
use Rattle.std.proofs.Common.{◌≡◌, ◌≢◌, ◌⊎◌, inl, inr, refl, sym, ap, ◌∙◌, subst, ◌&&◌, ◌==◌, ℕ, Bool, true, false, List, [], ◌∷◌, Option, None, Some}
use Rattle.std.specs.Prelude.{if◌then◌else◌, map}
use Rattle.std.specs.Cmp.Lexicographic.{same_text}
use Rattle.std.proofs.lemmas.Bool.{cases_eq, eq-eqb, ne_eqb}
use Rattle.mg_base.specs.declared.numbers.RecId.{RecId}
use Rattle.mg_base.specs.declared.numbers.TxNo.{TxNo}
use Rattle.mg_base.specs.declared.transaction.TxState.{TxState}
use Rattle.mg_base.specs.declared.transaction.TxState.TheVariants.{Limbo}
use Rattle.mg_value.specs.declared.value.Value.{Value}
use Rattle.mg_catalog.specs.ByKey.{HasKey, HaveOwnKeys, row_key}
use Rattle.mg_catalog.specs.KeyLaws.{keys_equal, same_key_other, same_key_self}
use Rattle.mg_model.specs.declared.change.Change.{Change as OwnChange}
use Rattle.mg_model.specs.declared.opening.Opening.{Opening}
use Rattle.mg_model.specs.declared.table.Table.{Table}
use Rattle.mg_model.specs.Catalog.{catalog_name}
use Rattle.mg_model.specs.Changes.{Cells, row_at, same_key, same_name}
use Rattle.mg_model.specs.History.{Entries}
use Rattle.mg_model.specs.Machine.{database, own}
use Rattle.mg_image.specs.declared.entry.Entry.{Entry}
use Rattle.mg_image.specs.Form.{Form, Pages, Row}
use Rattle.mg_image.specs.Held.{Changes, HasLimbo, HasTable, IsChangedAt, IsHeld, IsHeldAt, Shows, told_change, told_row}
use Rattle.mg_image.specs.Histories.{newest_at}
use Rattle.mg_image.specs.RecordRules.{Facts, TakesKey, committed_in, table_in}
use Rattle.mg_image.specs.Records.{Change, Erases, Puts, Reading, change_in, key_of, record_key, shown, writer}
use Rattle.mg_image.specs.Sound.{IsSoundBy, facts_by}
use Rattle.mg_image.specs.Tables.{Layout, Stand, has, table_at}
use Rattle.mg_image_overlay_laws.specs.transactions.Begins.{Raises}
use Rattle.mg_image_overlay_laws.specs.kept.KeptImages.{IsKept}
use Rattle.mg_image_overlay_laws.specs.kept.StartLaws.{kept_by_itself}
use Rattle.mg_engine_change_laws.specs.tables.Joined.{IsMade, JoinedAreKept, Joins, layout_with, rows_stored}
use Rattle.mg_engine_change_laws.specs.tables.JoinedNames.{cat_is, of_catalog, of_other, read_still, was_of_catalog, was_other}
use Rattle.mg_engine_change_laws.specs.tables.JoinedRows.{cases_made, catalog_named, other_name, reading_at}
use Rattle.mg_engine_change_laws.specs.tables.JoinedSound.{joined_sound}
use Rattle.mg_engine_change_laws.specs.tables.Rows.{MadeRow, key_at, reading_with, row_entry, row_told, with_rows}
use Rattle.mg_engine_change_laws.specs.tables.MakingRowsLaws.{key_as_told}

-- ---- the changes

-- a change at a key of a table, with those of these rows after it
abbrev its_change : List MadeRow → List ℕ → Value → Option Change → Option Change
its_change [] name key old = old
its_change (row ∷ rows) name key old = its_change rows name key
    (if same_name catalog_name name && same_key (key_at row) key then Some (Puts (row_told row)) else old)

pub own_now : (o : Opening) (h : Entries) (t : TxNo) (row : MadeRow) → own o (row_entry t (row_told row) ∷ h) t.0
    ≡ record { table = catalog_name; key = key_at row; row = Some (row_told row) } ∷ own o h t.0
own_now o h t row = rw (eq-eqb t.0 t.0 refl) (ap (λ (k : Value). record {
  table = catalog_name;
  key = k;
  row = Some (row_told row);
} ∷ own o h t.0) (key_as_told row.first.row))

own_other : (o : Opening) (h : Entries) (t : TxNo) (row : Cells) (u : ℕ) → u ≢ t.0
    → own o (row_entry t row ∷ h) u ≡ own o h u
own_other o h t row u ne = rw (ne_eqb t.0 u (λ same. ne (sym same))) refl

its_newest : (o : Opening) (t : TxNo) (rows : List MadeRow) (h : Entries) (name : List ℕ) (key : Value)
    → newest_at (own o (with_rows t (map row_told rows) h) t.0) name key
    ≡ its_change rows name key (newest_at (own o h t.0) name key)
its_newest o t [] h name key = refl
its_newest o t (row ∷ rows) h name key = its_newest o t rows (row_entry t (row_told row) ∷ h) name key
    ∙ ap (λ (cs : List OwnChange). its_change rows name key (newest_at cs name key)) (own_now o h t row)

pub others_newest : (o : Opening) (t : TxNo) (rows : List MadeRow) (h : Entries) (u : ℕ) → u ≢ t.0
    → own o (with_rows t (map row_told rows) h) u ≡ own o h u
others_newest o t [] h u ne = refl
others_newest o t (row ∷ rows) h u ne = others_newest o t rows (row_entry t (row_told row) ∷ h) u ne
    ∙ own_other o h t (row_told row) u ne

database_same : (o : Opening) (t : TxNo) (rows : List Cells) (h : Entries)
    → database o (with_rows t rows h) ≡ database o h
database_same o t [] h = refl
database_same o t (row ∷ rows) h = database_same o t rows (row_entry t row ∷ h)

-- a key that none of them has keeps its change
its_else : (rows : List MadeRow) (name : List ℕ) (key : Value) (old : Option Change)
    → ((row : MadeRow) → IsMade rows row → (same_name catalog_name name && same_key (key_at row) key) ≡ false)
    → its_change rows name key old ≡ old
its_else [] name key old none = refl
its_else (row ∷ rows) name key old none = its_else rows name key
    (if same_name catalog_name name && same_key (key_at row) key then Some (Puts (row_told row)) else old)
    (λ other is. none other (inr is))
    ∙ ap (λ (b : Bool). if b then Some (Puts (row_told row)) else old) (none row (inl refl))

has_key : (rows : List MadeRow) (row : MadeRow) → IsMade rows row → HasKey (rows_stored rows) (key_at row)
has_key [] row is = is
has_key (first ∷ rows) row (inl same) = inl (ap key_at same)
has_key (first ∷ rows) row (inr more) = inr (has_key rows row more)

-- each is made
its_there : (rows : List MadeRow) → HaveOwnKeys (rows_stored rows) → (row : MadeRow) → IsMade rows row
    → (old : Option Change) → its_change rows catalog_name (key_at row) old ≡ Some (Puts (row_told row))
its_there [] own_ row is old = absurd is
its_there (first ∷ rows) own_ row (inl same) old =
    its_else rows catalog_name (key_at row) (if same_name catalog_name catalog_name
    && same_key (key_at first) (key_at row) then Some (Puts (row_told first)) else old)
    (λ other is. same_key_other (key_at other) (key_at row)
    (λ keys. own_.0 (subst (HasKey (rows_stored rows)) (keys ∙ sym (ap key_at same)) (has_key rows other is))))
    ∙ (subst (λ (x : MadeRow). (if same_name catalog_name catalog_name && same_key (key_at first) (key_at x)
    then Some (Puts (row_told first)) else old) ≡ Some (Puts (row_told x))) same
    (rw (same_key_self (key_at first)) refl))
its_there (first ∷ rows) own_ row (inr more) old = its_there rows own_.1 row more
    (if same_name catalog_name catalog_name && same_key (key_at first) (key_at row) then Some (Puts (row_told first))
    else old)

-- a change is of one of them, or was there
its_cases : (rows : List MadeRow) (name : List ℕ) (key : Value) (old : Option Change)
    → ((row : MadeRow) × IsMade rows row × (catalog_name ≡ name) × (key_at row ≡ key)
    × (its_change rows name key old ≡ Some (Puts (row_told row))))
    ⊎ (its_change rows name key old ≡ old)
its_cases [] name key old = inr refl
its_cases (row ∷ rows) name key old = at (same_name catalog_name name) refl (same_key (key_at row) key) refl
    (its_cases rows name key
    (if same_name catalog_name name && same_key (key_at row) key then Some (Puts (row_told row)) else old))
  where
    at : (b : Bool) → same_name catalog_name name ≡ b → (c : Bool) → same_key (key_at row) key ≡ c
        → ((x : MadeRow) × IsMade rows x × (catalog_name ≡ name) × (key_at x ≡ key)
        × (its_change rows name key (if same_name catalog_name name && same_key (key_at row) key
        then Some (Puts (row_told row)) else old) ≡ Some (Puts (row_told x))))
        ⊎ (its_change rows name key (if same_name catalog_name name && same_key (key_at row) key
        then Some (Puts (row_told row)) else old)
        ≡ (if same_name catalog_name name && same_key (key_at row) key then Some (Puts (row_told row)) else old))
        → ((x : MadeRow) × IsMade (row ∷ rows) x × (catalog_name ≡ name) × (key_at x ≡ key)
        × (its_change (row ∷ rows) name key old ≡ Some (Puts (row_told x))))
        ⊎ (its_change (row ∷ rows) name key old ≡ old)
    at b is c also (inl (x, its, named, keyed, reads)) = inl (x, inr its, named, keyed, reads)
    at true is true also (inr same) = inl (
      row,
      inl refl,
      same_text catalog_name name (sym is),
      keys_equal (key_at row) key also,
      same ∙ rw (is, also) refl,
    )
    at true is false also (inr same) = inr (same ∙ rw (is, also) refl)
    at false is c also (inr same) = inr (same ∙ rw is refl)

-- ---- the image

module _ (form : Form) (size : ℕ) (o : Opening) (h : Entries) (state now : ℕ → TxState) (t : TxNo) (old new : Pages)
    (c : Layout) (rc : Reading) (made : List MadeRow) (stand : Stand) (raises : Raises state now t.0)
    (kept : IsKept form size o h now old old) (after : IsSoundBy form size state new c rc)
    (joins : Joins form size now t.0 old new kept.layout c kept.reading rc made stand) where
  abbrev a : Layout
  a = kept.layout

  abbrev r : Reading
  r = kept.reading

  abbrev before : IsSoundBy form size now old kept.layout kept.reading
  before = kept.sound

  abbrev f : Facts
  f = facts_by now old kept.layout

  abbrev g : Facts
  g = facts_by now new (layout_with kept.layout c stand)

  abbrev cat : Table
  cat = kept.layout.catalog.table

  abbrev s : Reading
  s = reading_with made kept.reading

  on_catalog : (n : ℕ) → has c.catalog.data_pages n ≡ true → g.table_of n ≡ Some kept.layout.catalog.table
  on_catalog n on = of_catalog form size state now t.0 old new a c r rc made stand raises before after joins n on

  still_read : (p : RecId) → kept.reading p ≢ [] → reading_with made kept.reading p ≡ kept.reading p
  still_read p some = read_still form size state now t.0 old new a c r rc made stand raises before after joins p some

  -- a page of a table is so still
  table_on : (n : ℕ) (table : Table) → f.table_of n ≡ Some table → g.table_of n ≡ Some table
  table_on n table is = at (has kept.layout.catalog.data_pages n) refl is
    where
      at : (b : Bool) → has kept.layout.catalog.data_pages n ≡ b
          → (if b then Some kept.layout.catalog.table else table_at kept.layout.tables n) ≡ Some table
          → g.table_of n ≡ Some table
      at true on is_ = on_catalog n (joins.grown n on) ∙ is_
      at false off is_ = of_other form size state now t.0 old new a c r rc made stand raises before after joins n
          (joins.apart n table is_) ∙ is_

  -- and it was one, where a record had versions
  table_back : (p : RecId) (table : Table) → kept.reading p ≢ [] → table_in g p ≡ Some table → table_in f p ≡ Some table
  table_back p table some is = at (has c.catalog.data_pages p.page.0) refl
    where
      at : (b : Bool) → has c.catalog.data_pages p.page.0 ≡ b → table_in f p ≡ Some table
      at true on = by (joins.fresh p on)
        where
          by : (has kept.layout.catalog.data_pages p.page.0 ≡ true) ⊎ (kept.reading p ≡ []) → table_in f p ≡ Some table
          by (inl was) = was_of_catalog form size state now t.0 old new a c r rc made stand raises before after joins
              p.page.0 was ∙ (sym (on_catalog p.page.0 on) ∙ is)
          by (inr none) = absurd (some none)
      at false off = was_other form size state now t.0 old new a c r rc made stand raises before after joins p.page.0 off
          ∙ (sym (of_other form size state now t.0 old new a c r rc made stand raises before after joins p.page.0 off) ∙ is)

  -- ---- the database

  new_shows_none : (x : MadeRow) → IsMade made x → shown (committed_in g) (x.first ∷ []) ≡ None
  new_shows_none x is = let off : committed_in g (writer x.first) ≡ false =
      ap (committed_in g) (joins.rows x is).its ∙ rw raises.limbo refl in rw off refl

  held_on : IsHeld g (committed_in g) s kept.rows
  held_on = record {
    there = λ p table row shows has_. there p table row shows has_ (cases_made made r p);
    whole = λ name key row is. whole name key row (kept.held.whole name key row is);
    tables = kept.held.tables;
  }
    where
      there : (p : RecId) (table : Table) (row : Row) → Shows g (committed_in g) s p table row
          → HasTable kept.rows table.name
          → ((x : MadeRow) × IsMade made x × (x.at ≡ p) × (reading_with made r p ≡ x.first ∷ []))
          ⊎ (reading_with made r p ≡ r p) → kept.rows table.name (key_of table row) ≡ Some (told_row table row)
      there p table row shows has_ (inl (x, is, here, reads)) =
          let both : None ≡ Some row = sym (new_shows_none x is)
          ∙ (ap (shown (committed_in g)) (sym reads) ∙ shows.row_shown) in absurd cc
      there p table row shows has_ (inr same) =
          let it : shown (committed_in f) (r p) ≡ Some row = ap (shown (committed_in f)) (sym same) ∙ shows.row_shown in
          let some : r p ≢ [] = λ none.
          let both : None ≡ Some row = sym (ap (shown (committed_in f)) none) ∙ it in absurd cc in
          kept.held.there p table row (record {
            of_table = table_back p table some shows.of_table;
            row_shown = it;
          }) has_

      whole : (name : List ℕ) (key : Value) (row : Row) → IsHeldAt f (committed_in f) r name key row
          → IsHeldAt g (committed_in g) s name key row
      whole name key row it = record {
        place = it.place;
        table = it.table;
        stored = it.stored;
        shows = record {
          of_table = table_on it.place.page.0 it.table it.shows.of_table;
          row_shown = ap (shown (committed_in g)) (still_read it.place some) ∙ it.shows.row_shown;
        };
        named = it.named;
        keyed = it.keyed;
        told = it.told;
      }
        where
          some : r it.place ≢ []
          some none = let both : None ≡ Some it.stored = sym (ap (shown (committed_in f)) none)
              ∙ it.shows.row_shown in absurd cc

  -- ---- the changes

  abbrev changes_now : Changes
  changes_now u name key = if u == t.0 then its_change made name key (kept.changes u name key)
      else kept.changes u name key

  cat_told : (x : MadeRow) → told_row kept.layout.catalog.table x.first.row ≡ row_told x
  cat_told x = ap (λ (y : Table). told_row y x.first.row) before.catalog

  key_here : (row : Row) → key_of kept.layout.catalog.table row ≡ row_key row
  key_here row = cat_is form size state now t.0 old new a c r rc made stand raises before after joins row

  -- an older change is of another key
  other_key : (p : RecId) (table : Table) (e : Entry) → HasLimbo f r p table e → (x : MadeRow) → IsMade made x
      → (same_name catalog_name table.name && same_key (key_at x) (key_of table e.row)) ≡ false
  other_key p table e has_ x is = at (same_name catalog_name table.name) refl (same_key (key_at x) (key_of table e.row)) refl
    where
      at : (b : Bool) → same_name catalog_name table.name ≡ b → (d : Bool)
          → same_key (key_at x) (key_of table e.row) ≡ d
          → (same_name catalog_name table.name && same_key (key_at x) (key_of table e.row)) ≡ false
      at false is_ d also = rw is_ refl
      at true is_ false also = rw (is_, also) refl
      at true is_ true also = absurd (by (has kept.layout.catalog.data_pages p.page.0) refl has_.of_table)
        where
          by : (b : Bool) → has kept.layout.catalog.data_pages p.page.0 ≡ b
              → (if b then Some kept.layout.catalog.table else table_at kept.layout.tables p.page.0) ≡ Some table → ⊥
          by false off of = other_name form size now old a r before p.page.0 table of
              (sym (same_text catalog_name table.name (sym is_)))
          by true on of =
              let same : kept.layout.catalog.table ≡ table = cc in
              let keyed : key_of kept.layout.catalog.table e.row ≡ key_of kept.layout.catalog.table x.first.row =
              ap (λ (y : Table). key_of y e.row) same
              ∙ (sym (keys_equal (key_at x) (key_of table e.row) also) ∙ sym (key_here x.first.row)) in
              (joins.rows x is).free p (was_of_catalog form size state now t.0 old new a c r rc made stand raises before
              after joins p.page.0 on) (ap (record_key kept.layout.catalog.table) has_.newest ∙ keyed)
              (subst (TakesKey f) (sym has_.newest) (inr has_.limbo))

  -- a change is told of the transaction itself, or of another one
  told_change_of : (x : MadeRow) → IsMade made x
      → told_change kept.layout.catalog.table (change_in x.first) ≡ Puts (row_told x)
  told_change_of x is = ap (λ (b : Bool). told_change kept.layout.catalog.table (if b then Erases else Puts x.first.row))
      (joins.rows x is).stays ∙ ap Puts (cat_told x)

  own_changes : (name : List ℕ) (key : Value) (u : ℕ) → u ≡ t.0
      → changes_now u name key ≡ its_change made name key (kept.changes u name key)
  own_changes name key u same = rw (eq-eqb u t.0 same) refl

  other_changes : (name : List ℕ) (key : Value) (u : ℕ) → u ≢ t.0 → changes_now u name key ≡ kept.changes u name key
  other_changes name key u ne = rw (ne_eqb u t.0 ne) refl

  changed_there : (p : RecId) (table : Table) (e : Entry) → HasLimbo g s p table e
      → changes_now (writer e) table.name (key_of table e.row) ≡ Some (told_change table (change_in e))
  changed_there p table e has_ = at (cases_made made r p)
    where
      new_one : (x : MadeRow) → IsMade made x → x.at ≡ p → x.first ≡ e
          → changes_now (writer e) table.name (key_of table e.row) ≡ Some (told_change table (change_in e))
      new_one x is here first = subst (λ (y : Entry). changes_now (writer y) table.name (key_of table y.row)
          ≡ Some (told_change table (change_in y))) first
          (subst (λ (y : Table). changes_now (writer x.first) y.name (key_of y x.first.row)
          ≡ Some (told_change y (change_in x.first))) its_table
          (own_changes kept.layout.catalog.table.name (key_of kept.layout.catalog.table x.first.row) (writer x.first)
          (joins.rows x is).its
          ∙ (ap (λ (n : List ℕ). its_change made n (key_of kept.layout.catalog.table x.first.row) (kept.changes
          (writer x.first) kept.layout.catalog.table.name (key_of kept.layout.catalog.table x.first.row)))
          (catalog_named form size now old a r before)
          ∙ (ap (λ (k : Value). its_change made catalog_name k (kept.changes
          (writer x.first) kept.layout.catalog.table.name (key_of kept.layout.catalog.table x.first.row)))
          (key_here x.first.row)
          ∙ (its_there made joins.keys x is (kept.changes (writer x.first) kept.layout.catalog.table.name
          (key_of kept.layout.catalog.table x.first.row))
          ∙ ap (λ (d : Change). Some d) (sym (told_change_of x is)))))))
        where
          its_table : kept.layout.catalog.table ≡ table
          its_table = let both : Some kept.layout.catalog.table ≡ Some table =
              sym (on_catalog x.at.page.0 (joins.rows x is).placed)
              ∙ (ap (λ (y : RecId). table_in g y) here ∙ has_.of_table) in cc

      old_one : HasLimbo f r p table e
          → changes_now (writer e) table.name (key_of table e.row) ≡ Some (told_change table (change_in e))
      old_one was = by (cases_eq (writer e) t.0)
        where
          by : (writer e ≡ t.0) ⊎ (writer e ≢ t.0)
              → changes_now (writer e) table.name (key_of table e.row) ≡ Some (told_change table (change_in e))
          by (inr ne) = other_changes table.name (key_of table e.row) (writer e) ne
              ∙ kept.changed.there p table e was
          by (inl same) = own_changes table.name (key_of table e.row) (writer e) same
              ∙ (its_else made table.name (key_of table e.row)
              (kept.changes (writer e) table.name (key_of table e.row)) (λ x is. other_key p table e was x is)
              ∙ kept.changed.there p table e was)

      at : ((x : MadeRow) × IsMade made x × (x.at ≡ p) × (reading_with made r p ≡ x.first ∷ []))
          ⊎ (reading_with made r p ≡ r p)
          → changes_now (writer e) table.name (key_of table e.row) ≡ Some (told_change table (change_in e))
      at (inl (x, is, here, reads)) =
          let both : x.first ∷ [] ≡ e ∷ has_.older = sym reads ∙ has_.newest in
          let first : x.first ≡ e = cc in new_one x is here first
      at (inr same) =
          let newest : r p ≡ e ∷ has_.older = sym same ∙ has_.newest in
          let some : r p ≢ [] = λ none. let both : [] ≡ e ∷ has_.older = sym none ∙ newest in absurd cc in
          old_one (record {
            of_table = table_back p table some has_.of_table;
            older = has_.older;
            newest = newest;
            limbo = has_.limbo;
          })

  moved : (u : ℕ) (name : List ℕ) (key : Value) (change : Change) → IsChangedAt f r u name key change
      → IsChangedAt g s u name key change
  moved u name key change it = record {
    place = it.place;
    table = it.table;
    version = it.version;
    limbo = record {
      of_table = table_on it.place.page.0 it.table it.limbo.of_table;
      older = it.limbo.older;
      newest = still_read it.place some ∙ it.limbo.newest;
      limbo = it.limbo.limbo;
    };
    its_own = it.its_own;
    named = it.named;
    keyed = it.keyed;
    told = it.told;
  }
    where
      some : r it.place ≢ []
      some none = let both : [] ≡ it.version ∷ it.limbo.older = sym none ∙ it.limbo.newest in absurd cc

  changed_whole : (u : ℕ) (name : List ℕ) (key : Value) (change : Change) → changes_now u name key ≡ Some change
      → IsChangedAt g s u name key change
  changed_whole u name key change is = at (cases_eq u t.0)
    where
      at : (u ≡ t.0) ⊎ (u ≢ t.0) → IsChangedAt g s u name key change
      at (inr ne) = moved u name key change (kept.changed.whole u name key change
          (sym (other_changes name key u ne) ∙ is))
      at (inl same) = by (its_cases made name key (kept.changes u name key))
        where
          its : its_change made name key (kept.changes u name key) ≡ Some change
          its = sym (own_changes name key u same) ∙ is

          by : ((x : MadeRow) × IsMade made x × (catalog_name ≡ name) × (key_at x ≡ key)
              × (its_change made name key (kept.changes u name key) ≡ Some (Puts (row_told x))))
              ⊎ (its_change made name key (kept.changes u name key) ≡ kept.changes u name key)
              → IsChangedAt g s u name key change
          by (inr older) = moved u name key change (kept.changed.whole u name key change (sym older ∙ its))
          by (inl (x, made_, named, keyed, puts)) = record {
            place = x.at;
            table = kept.layout.catalog.table;
            version = x.first;
            limbo = record {
              of_table = on_catalog x.at.page.0 (joins.rows x made_).placed;
              older = [];
              newest = reading_at made joins.places r x made_;
              limbo = ap now (joins.rows x made_).its ∙ raises.limbo;
            };
            its_own = (joins.rows x made_).its ∙ sym same;
            named = catalog_named form size now old a r before ∙ named;
            keyed = key_here x.first.row ∙ keyed;
            told = let both : Some (Puts (row_told x)) ≡ Some change = sym puts ∙ its in
                let one : Puts (row_told x) ≡ change = cc in told_change_of x made_ ∙ one;
          }

  changes_told : (u : ℕ) (name : List ℕ) (key : Value) → now u ≡ Limbo
      → changes_now u name key ≡ newest_at (own o (with_rows t (map row_told made) h) u) name key
  changes_told u name key limbo = at (cases_eq u t.0)
    where
      at : (u ≡ t.0) ⊎ (u ≢ t.0)
          → changes_now u name key ≡ newest_at (own o (with_rows t (map row_told made) h) u) name key
      at (inr ne) = other_changes name key u ne ∙ (kept.changes_are u name key limbo
          ∙ ap (λ (cs : List OwnChange). newest_at cs name key) (sym (others_newest o t made h u ne)))
      at (inl same) = own_changes name key u same
          ∙ (ap (its_change made name key) (kept.changes_are u name key limbo)
          ∙ (ap (λ (v : ℕ). its_change made name key (newest_at (own o h v) name key)) same
          ∙ (sym (its_newest o t made h name key)
          ∙ ap (λ (v : ℕ). newest_at (own o (with_rows t (map row_told made) h) v) name key) (sym same))))

  pub joined_kept : IsKept form size o (with_rows t (map row_told made) h) now new new
  joined_kept = kept_by_itself form size o (with_rows t (map row_told made) h) now new (layout_with a c stand) s
      kept.rows changes_now
      (joined_sound form size state now t.0 old new a c r rc made stand raises before after joins) held_on
      (λ name key. kept.rows_are name key
      ∙ ap (λ (cs : List OwnChange). row_at cs name key) (sym (database_same o t (map row_told made) h)))
      (record { there = changed_there; whole = changed_whole }) changes_told

pub joined_are_kept : (form : Form) → JoinedAreKept form
joined_are_kept form size o h state now t old new c rc made stand raises kept after joins =
    joined_kept form size o h state now t old new c rc made stand raises kept after joins
