-- The rows that records show, and the changes of transactions in limbo, gathered from the places of an
-- image.
use Rattle.std.proofs.Common.{◌≡◌, ◌⊎◌, inl, inr, ap, sym, subst, ◌∙◌, refl, ◌||◌, ◌==◌, ℕ, Bool, true, false, List, [], ◌∷◌, Option, None, Some, map}
use Rattle.std.proofs.lemmas.Bool.{eq-eqb, eqb-true, false≢true}
use Rattle.std.specs.Cmp.Lexicographic.{same_text}
use Rattle.std.specs.Prelude.{IsSome, if◌then◌else◌, is_some}
use Rattle.mg_base.specs.declared.numbers.RecId.{RecId}
use Rattle.mg_base.specs.declared.transaction.TxState.{TxState}
use Rattle.mg_value.specs.declared.value.Value.{Value}
use Rattle.mg_model.specs.Catalog.{catalog_name, table_key}
use Rattle.mg_model.specs.Changes.{has_change, row_at}
use Rattle.mg_model.specs.Legal.{is_limbo}
use Rattle.mg_model.specs.Openings.{chosen_changes}
use Rattle.mg_model.specs.declared.opening.LimboChange.{LimboChange}
use Rattle.mg_model.specs.declared.table.Table.{Table}
use Rattle.mg_image.specs.declared.entry.Entry.{Entry}
use Rattle.mg_image.specs.Form.{Form, Pages, Row}
use Rattle.mg_image.specs.Held.{AreChanges, Changes, Database, HasLimbo, HasTable, IsHeld, Shows, told_change, told_row}
use Rattle.mg_image.specs.Histories.{newest_at, row_change}
use Rattle.mg_image.specs.RecordRules.{Facts, committed_in, table_in}
use Rattle.mg_image.specs.Records.{Change, Erases, Puts, Reading, change_in, key_of, shown, writer}
use Rattle.mg_image.specs.Sound.{IsSoundBy, facts_by}
use Rattle.mg_image.specs.Tables.{Layout, stands_of}
use Rattle.mg_image_overlay_laws.specs.kept.HeldSome.{limbo_true, not_empty, one_limbo, one_record}
use Rattle.mg_image_overlay_laws.specs.records.Listed.{is_catalog}
use Rattle.mg_image_overlay_laws.specs.records.Places.{has_place, places_of}
use Rattle.mg_image_opening_laws.specs.Chosen.{IsChosen, IsNotChosen, KeyedRow, any_change, as_change, chosen_or_not}
use Rattle.mg_image_opening_laws.specs.Gathered.{IsFirst, IsGathering, IsIn, first_of, gathered, gathering, has_it, kept, none_of}

-- ---- rows

abbrev pub keyed_row : Table → Row → KeyedRow
keyed_row table row = record { table = table.name; key = key_of table row; row = told_row table row }

abbrev pub row_of_table : (List ℕ → Bool) → Option Row → Option Table → Option KeyedRow
row_of_table named row None = None
row_of_table named None (Some table) = None
row_of_table named (Some row) (Some table) =
    if named table.name then Some (keyed_row table row) else None

-- the row that a record shows, of a table that is named
abbrev pub row_given : Facts → Reading → (List ℕ → Bool) → RecId → Option KeyedRow
row_given f r named p = row_of_table named (shown (committed_in f) (r p)) (table_in f p)

-- ---- changes

abbrev pub told_of : Table → Change → Option Row
told_of table (Puts row) = Some (told_row table row)
told_of table Erases = None

abbrev pub limbo_change : Table → Entry → LimboChange
limbo_change table e = record {
  by = e.version.tx;
  table = table.name;
  key = key_of table e.row;
  row = told_of table (change_in e);
}

abbrev pub limbo_of : Facts → Option Table → List Entry → Option LimboChange
limbo_of f None es = None
limbo_of f (Some table) [] = None
limbo_of f (Some table) (e ∷ es) =
    if is_limbo (f.state (writer e)) then Some (limbo_change table e) else None

-- the change of a record's newest version, where it is of a transaction in limbo
abbrev pub limbo_given : Facts → Reading → RecId → Option LimboChange
limbo_given f r p = limbo_of f (table_in f p) (r p)

pub told_so : (table : Table) (c : Change) → row_change (told_of table c) ≡ told_change table c
told_so table (Puts row) = refl
told_so table Erases = refl

-- whether a database names a table
abbrev pub names : Database → List ℕ → Bool
names db name = is_catalog name || is_some (db catalog_name (table_key name))

module _ (f : Facts) (r : Reading) where
  -- A record shows this row.
  pub record GivesRow (named : List ℕ → Bool) (p : RecId) (c : KeyedRow) : Type 0 where
    pub table : Table
    pub row : Row
    pub shows : Shows f (committed_in f) r p table row
    pub is_named : named table.name ≡ true
    pub is : keyed_row table row ≡ c

  pub gives_row : (named : List ℕ → Bool) (p : RecId) (c : KeyedRow)
      → row_given f r named p ≡ Some c → GivesRow named p c
  gives_row named p c is = by (table_in f p) refl (shown (committed_in f) (r p)) refl is
    where
      by : (t : Option Table) → table_in f p ≡ t → (x : Option Row) → shown (committed_in f) (r p) ≡ x
          → row_of_table named x t ≡ Some c → GivesRow named p c
      by None out x shows is_ = absurd cc
      by (Some table) of None shows is_ = absurd cc
      by (Some table) of (Some row) shows is_ = at (named table.name) refl is_
        where
          at : (b : Bool) → named table.name ≡ b
              → (if b then Some (keyed_row table row) else None) ≡ Some c → GivesRow named p c
          at true on same = record {
            table = table;
            row = row;
            shows = record { of_table = of; row_shown = shows };
            is_named = on;
            is = let it : keyed_row table row ≡ c = cc in it;
          }
          at false off same = absurd cc

  pub row_gives : (named : List ℕ → Bool) (p : RecId) (table : Table) (row : Row)
      → Shows f (committed_in f) r p table row → named table.name ≡ true
      → row_given f r named p ≡ Some (keyed_row table row)
  row_gives named p table row shows is =
      let here : row_of_table named (Some row) (Some table) ≡ Some (keyed_row table row) = rw is refl in
      ap (row_of_table named (shown (committed_in f) (r p))) shows.of_table
      ∙ (ap (λ (x : Option Row). row_of_table named x (Some table)) shows.row_shown ∙ here)

  -- A record's newest version is in limbo, and makes this change.
  pub record GivesLimbo (p : RecId) (c : LimboChange) : Type 0 where
    pub table : Table
    pub e : Entry
    pub has : HasLimbo f r p table e
    pub is : limbo_change table e ≡ c

  pub gives_limbo : (p : RecId) (c : LimboChange) → limbo_given f r p ≡ Some c → GivesLimbo p c
  gives_limbo p c is = by (table_in f p) refl (r p) refl is
    where
      by : (t : Option Table) → table_in f p ≡ t → (es : List Entry) → r p ≡ es
          → limbo_of f t es ≡ Some c → GivesLimbo p c
      by None out es first is_ = absurd cc
      by (Some table) of [] first is_ = absurd cc
      by (Some table) of (e ∷ es) first is_ = at (is_limbo (f.state (writer e))) refl is_
        where
          at : (b : Bool) → is_limbo (f.state (writer e)) ≡ b
              → (if b then Some (limbo_change table e) else None) ≡ Some c → GivesLimbo p c
          at true on same = record {
            table = table;
            e = e;
            has = record {
              of_table = of;
              older = es;
              newest = first;
              limbo = limbo_true (f.state (writer e)) on;
            };
            is = let it : limbo_change table e ≡ c = cc in it;
          }
          at false off same = absurd cc

  pub limbo_gives : (p : RecId) (table : Table) (e : Entry) → HasLimbo f r p table e
      → limbo_given f r p ≡ Some (limbo_change table e)
  limbo_gives p table e has =
      let on : is_limbo (f.state (writer e)) ≡ true = ap is_limbo has.limbo in
      let here : limbo_of f (Some table) (e ∷ has.older) ≡ Some (limbo_change table e) = rw on refl in
      ap (λ (t : Option Table). limbo_of f t (r p)) has.of_table
      ∙ (ap (limbo_of f (Some table)) has.newest ∙ here)

-- ---- of a sound image

module _ (form : Form) (size : ℕ) (state : ℕ → TxState) (pages : Pages) (layout : Layout) (r : Reading)
    (sound : IsSoundBy form size state pages layout r) (db : Database)
    (held : IsHeld (facts_by state pages layout) (committed_in (facts_by state pages layout)) r db)
    (changes : Changes) (changed : AreChanges (facts_by state pages layout) r changes) where
  abbrev pub f_of : Facts
  f_of = facts_by state pages layout

  abbrev pub places : List RecId
  places = places_of pages (stands_of layout)

  -- the rows, and the changes
  abbrev pub rows_of : List KeyedRow
  rows_of = kept as_change (gathered (row_given f_of r (names db)) places)

  abbrev pub limbo_list : List LimboChange
  limbo_list = kept any_change (gathered (limbo_given f_of r) places)

  pub rows_gathered : IsGathering as_change (row_given f_of r (names db)) places rows_of
  rows_gathered = gathering as_change (row_given f_of r (names db)) places one
    where
      one : (p q : RecId) (c d : KeyedRow) → row_given f_of r (names db) p ≡ Some c
          → row_given f_of r (names db) q ≡ Some d → c.table ≡ d.table → c.key ≡ d.key → c ≡ d
      one p q c d first second name key =
          let a = gives_row f_of r (names db) p c first in
          let b = gives_row f_of r (names db) q d second in
          let same : p ≡ q = one_record form size state pages layout r sound p q a.table b.table a.row b.row
          a.shows b.shows
          (ap (λ (x : KeyedRow). x.table) a.is ∙ (name ∙ ap (λ (x : KeyedRow). x.table) (sym b.is)))
          (ap (λ (x : KeyedRow). x.key) a.is ∙ (key ∙ ap (λ (x : KeyedRow). x.key) (sym b.is))) in
          let both : Some c ≡ Some d =
          sym first ∙ (ap (row_given f_of r (names db)) same ∙ second) in cc

  pub limbo_gathered : IsGathering any_change (limbo_given f_of r) places limbo_list
  limbo_gathered = gathering any_change (limbo_given f_of r) places one
    where
      one : (p q : RecId) (c d : LimboChange) → limbo_given f_of r p ≡ Some c
          → limbo_given f_of r q ≡ Some d → c.table ≡ d.table → c.key ≡ d.key → c ≡ d
      one p q c d first second name key =
          let a = gives_limbo f_of r p c first in
          let b = gives_limbo f_of r q d second in
          let same : p ≡ q = one_limbo form size state pages layout r sound p q a.table b.table a.e b.e
          a.has b.has
          (ap (λ (x : LimboChange). x.table) a.is ∙ (name ∙ ap (λ (x : LimboChange). x.table) (sym b.is)))
          (ap (λ (x : LimboChange). x.key) a.is ∙ (key ∙ ap (λ (x : LimboChange). x.key) (sym b.is))) in
          let both : Some c ≡ Some d = sym first ∙ (ap (limbo_given f_of r) same ∙ second) in cc

  -- ---- all of them

  some_there : (x : Option Row) → IsSome x → is_some x ≡ true
  some_there None is = absurd cc
  some_there (Some row) is = refl

  pub table_named_ : (name : List ℕ) → HasTable db name → names db name ≡ true
  table_named_ name (inl same) = ap (names db) same ∙ refl
  table_named_ name (inr some) = at (is_catalog name)
    where
      at : (b : Bool) → (b || is_some (db catalog_name (table_key name))) ≡ true
      at true = refl
      at false = some_there (db catalog_name (table_key name)) some

  pub row_listed : (p : RecId) (table : Table) (row : Row) → Shows f_of (committed_in f_of) r p table row
      → HasTable db table.name → IsIn rows_of (keyed_row table row)
  row_listed p table row shows has = rows_gathered.whole p (keyed_row table row)
      (has_place form.coding f_of pages (stands_of layout) r sound.records (λ n. refl) p table
      shows.of_table (not_empty form size state pages layout r sound p row shows.row_shown))
      (row_gives f_of r (names db) p table row shows (table_named_ table.name has))

  pub limbo_listed : (p : RecId) (table : Table) (e : Entry) → HasLimbo f_of r p table e
      → IsIn limbo_list (limbo_change table e)
  limbo_listed p table e has = limbo_gathered.whole p (limbo_change table e)
      (has_place form.coding f_of pages (stands_of layout) r sound.records (λ n. refl) p table
      has.of_table (λ none. no_version none has.newest))
      (limbo_gives f_of r p table e has)
    where
      no_version : r p ≡ [] → r p ≡ e ∷ has.older → ⊥
      no_version none is = let both : [] ≡ e ∷ has.older = sym none ∙ is in absurd cc

  pub row_from : (c : KeyedRow) → IsIn rows_of c
      → (p : RecId) × GivesRow f_of r (names db) p c
  row_from c there = on (rows_gathered.from c there)
    where
      on : (p : RecId) × (row_given f_of r (names db) p ≡ Some c)
          → (p : RecId) × GivesRow f_of r (names db) p c
      on (p, is) = (p, gives_row f_of r (names db) p c is)

  pub limbo_from : (c : LimboChange) → IsIn limbo_list c → (p : RecId) × GivesLimbo f_of r p c
  limbo_from c there = on (limbo_gathered.from c there)
    where
      on : (p : RecId) × (limbo_given f_of r p ≡ Some c) → (p : RecId) × GivesLimbo f_of r p c
      on (p, is) = (p, gives_limbo f_of r p c is)

  pub has_named : (name : List ℕ) → names db name ≡ true → HasTable db name
  has_named name is = at (is_catalog name) refl is
    where
      some_so : (x : Option Row) → is_some x ≡ true → IsSome x
      some_so None none = absurd cc
      some_so (Some row) some = refl

      at : (b : Bool) → is_catalog name ≡ b → (b || is_some (db catalog_name (table_key name))) ≡ true
          → HasTable db name
      at true same on = inl (catalog_same name same)
        where
          catalog_same : (n : List ℕ) → is_catalog n ≡ true → n ≡ catalog_name
          catalog_same n so = same_text n catalog_name (sym so)
      at false other on = inr (some_so (db catalog_name (table_key name)) on)

  -- the rows are those of the database
  pub rows_are : (name : List ℕ) (key : Value) → row_at (map as_change rows_of) name key ≡ db name key
  rows_are name key = at (has_change (map as_change rows_of) name key) refl
    where
      at : (b : Bool) → has_change (map as_change rows_of) name key ≡ b
          → row_at (map as_change rows_of) name key ≡ db name key
      at true is = let it = first_of as_change rows_of name key is in
          by it (row_from it.c it.there)
        where
          by : (it : IsFirst as_change rows_of name key)
              → (p : RecId) × GivesRow f_of r (names db) p it.c
              → row_at (map as_change rows_of) name key ≡ db name key
          by it (p, gives) =
              let there : db gives.table.name (key_of gives.table gives.row)
              ≡ Some (told_row gives.table gives.row) = held.there p gives.table gives.row gives.shows
              (has_named gives.table.name gives.is_named) in
              it.row_is ∙ (ap (λ (x : KeyedRow). Some x.row) (sym gives.is) ∙ (sym there
              ∙ (ap (λ (x : KeyedRow). db x.table x.key) gives.is
              ∙ (ap (λ (n : List ℕ). db n it.c.key) it.named ∙ ap (db name) it.keyed))))
      at false none = none_of as_change rows_of name key none ∙ sym (missing (db name key) refl)
        where
          never : (row : Row) → db name key ≡ Some row → ⊥
          never row is =
              let it = held.whole name key row is in
              let in_it : IsIn rows_of (keyed_row it.table it.stored) =
              row_listed it.place it.table it.stored it.shows
              (subst (HasTable db) (sym it.named) (held.tables name key row is)) in
              false≢true (sym none ∙ has_it as_change rows_of (keyed_row it.table it.stored) name key in_it
              it.named it.keyed)

          missing : (x : Option Row) → db name key ≡ x → db name key ≡ None
          missing None is = is
          missing (Some row) is = absurd (never row is)

  -- and the changes are those of the transactions in limbo
  pub changes_are : (t : ℕ) (name : List ℕ) (key : Value)
      → changes t name key ≡ newest_at (chosen_changes (λ u. u == t) limbo_list) name key
  changes_are t name key = at (chosen_or_not (λ u. u == t) [] name key limbo_list)
    where
      at : IsChosen (λ u. u == t) limbo_list [] name key
          ⊎ IsNotChosen (λ u. u == t) limbo_list [] name key
          → changes t name key ≡ newest_at (chosen_changes (λ u. u == t) limbo_list) name key
      at (inl it) = by (limbo_from it.c it.there)
        where
          by : (p : RecId) × GivesLimbo f_of r p it.c
              → changes t name key ≡ newest_at (chosen_changes (λ u. u == t) limbo_list) name key
          by (p, gives) =
              let there : changes (writer gives.e) gives.table.name (key_of gives.table gives.e.row)
              ≡ Some (told_change gives.table (change_in gives.e)) =
              changed.there p gives.table gives.e gives.has in
              let its : writer gives.e ≡ t = ap (λ (x : LimboChange). x.by.0) gives.is
              ∙ eqb-true it.c.by.0 t it.is_chosen in
              let named : gives.table.name ≡ name =
              ap (λ (x : LimboChange). x.table) gives.is ∙ it.named in
              let keyed : key_of gives.table gives.e.row ≡ key =
              ap (λ (x : LimboChange). x.key) gives.is ∙ it.keyed in
              ap (λ (u : ℕ). changes u name key) (sym its)
              ∙ (ap (λ (n : List ℕ). changes (writer gives.e) n key) (sym named)
              ∙ (ap (changes (writer gives.e) gives.table.name) (sym keyed)
              ∙ (there ∙ (ap (λ (c : Change). Some c) (sym (told_so gives.table (change_in gives.e))
              ∙ ap (λ (x : LimboChange). row_change x.row) gives.is) ∙ sym it.newest))))
      at (inr not_) = missing (changes t name key) refl ∙ sym not_.newest
        where
          never : (c : Change) → changes t name key ≡ Some c → ⊥
          never c is =
              let it = changed.whole t name key c is in
              not_.never (limbo_change it.table it.version)
              (limbo_listed it.place it.table it.version it.limbo)
              (eq-eqb (writer it.version) t it.its_own) it.named it.keyed

          missing : (x : Option Change) → changes t name key ≡ x → changes t name key ≡ None
          missing None is = is
          missing (Some c) is = absurd (never c is)
