-- A sound image holds the rows that its records show, and the changes of its versions in limbo.
use Rattle.std.proofs.Common.{◌≡◌, ◌≢◌, ◌⊎◌, inl, inr, ap, sym, subst, ◌∙◌, refl, ◌==◌, ◌&&◌, ◌||◌, ℕ, Bool, true, false, List, [], ◌∷◌, Option, None, Some}
use Rattle.std.proofs.lemmas.Bool.{eq-eqb, eqb-true}
use Rattle.std.specs.Cmp.Lexicographic.{same_text}
use Rattle.std.specs.Prelude.{IsSome, if◌then◌else◌, is_some}
use Rattle.mg_base.specs.declared.numbers.RecId.{RecId}
use Rattle.mg_base.specs.declared.transaction.TxState.{TxState}
use Rattle.mg_base.specs.declared.transaction.TxState.TheVariants.{Active, Committed, Dead, Limbo}
use Rattle.mg_value.specs.declared.value.Value.{Value}
use Rattle.mg_model.specs.Catalog.{catalog_name, table_key}
use Rattle.mg_model.specs.Changes.{same_key, same_name}
use Rattle.mg_model.specs.Legal.{is_limbo}
use Rattle.mg_model.specs.ReadLaws.{same_name_itself}
use Rattle.mg_model.specs.declared.table.Table.{Table}
use Rattle.mg_catalog.specs.KeyLaws.{keys_equal, same_key_self}
use Rattle.mg_image.specs.declared.entry.Entry.{Entry}
use Rattle.mg_image.specs.FactLaws.{shown_keyed}
use Rattle.mg_image.specs.Form.{Form, Pages, Row}
use Rattle.mg_image.specs.Held.{AreChanges, HasLimbo, HasTable, IsChangedAt, IsHeld, IsHeldAt, Shows, told_change, told_row}
use Rattle.mg_image.specs.Inventory.{next_of, state_at}
use Rattle.mg_image.specs.Opening.{sound_image}
use Rattle.mg_image.specs.RecordRules.{Facts, TakesKey, committed_in, table_in}
use Rattle.mg_image.specs.Records.{Change, Reading, change_in, key_of, record_key, shown, writer}
use Rattle.mg_image.specs.Sound.{IsSoundBy, facts_by}
use Rattle.mg_image.specs.Tables.{Layout, stands_of}
use Rattle.mg_image_overlay_laws.specs.tables.TableOwners.{one_of_name}
use Rattle.mg_image_overlay_laws.specs.kept.HeldLaws.{HoldsSome, SoundHolds, SoundOpens}
use Rattle.mg_image_overlay_laws.specs.records.Listed.{change_here, change_of_table, change_under, changes_at, database_at, either, is_catalog, is_named, row_here, row_of, row_under, rows_at}
use Rattle.mg_image_overlay_laws.specs.records.Places.{HasPlace, has_place, places_of}

both_true : (a b : Bool) → (a && b) ≡ true → (a ≡ true) × (b ≡ true)
both_true true b is = (refl, is)
both_true false b is = absurd cc

pub limbo_true : (s : TxState) → is_limbo s ≡ true → s ≡ Limbo
limbo_true Active is = absurd cc
limbo_true Limbo is = refl
limbo_true Dead is = absurd cc
limbo_true Committed is = absurd cc

abbrev no_row : Option Row
no_row = None

nothing_either : (a : Bool) → (if a then no_row else no_row) ≡ no_row
nothing_either true = refl
nothing_either false = refl

module _ (form : Form) (size : ℕ) (state : ℕ → TxState) (pages : Pages) (layout : Layout) (r : Reading)
    (sound : IsSoundBy form size state pages layout r) where
  abbrev f : Facts
  f = facts_by state pages layout

  abbrev ps : List RecId
  ps = places_of pages (stands_of layout)

  -- ---- a row of a record

  -- The record shows this row, told, under a table's name and a key.
  record RowHere (named : List ℕ → Bool) (p : RecId) (name : List ℕ) (key : Value) (told : Row) : Type 0
    where
      table : Table
      row : Row
      shows : Shows f (committed_in f) r p table row
      is_named_ : named table.name ≡ true
      name_is : table.name ≡ name
      key_is : key_of table row ≡ key
      told_is : told_row table row ≡ told

  row_from : (named : List ℕ → Bool) (p : RecId) (name : List ℕ) (key : Value) (told : Row)
      → row_here f r named p name key ≡ Some told → RowHere named p name key told
  row_from named p name key told is = by (table_in f p) refl (shown (committed_in f) (r p)) refl is
    where
      by : (t : Option Table) → table_in f p ≡ t → (x : Option Row) → shown (committed_in f) (r p) ≡ x
          → row_of named name key x t ≡ Some told → RowHere named p name key told
      by None out x shows is_ = absurd cc
      by (Some table) of None shows is_ = at (named table.name) is_
        where
          at : (c : Bool) → (if c then None else None) ≡ Some told → RowHere named p name key told
          at true none = absurd cc
          at false none = absurd cc
      by (Some table) of (Some row) shows is_ = at (named table.name) refl
          (same_name table.name name && same_key (key_of table row) key) refl is_
        where
          at : (c : Bool) → named table.name ≡ c → (d : Bool)
              → (same_name table.name name && same_key (key_of table row) key) ≡ d
              → (if c then (if d then Some (told_row table row) else None) else None) ≡ Some told
              → RowHere named p name key told
          at true c_is true d_is same =
              let tests = both_true (same_name table.name name) (same_key (key_of table row) key) d_is in
              record {
                table = table;
                row = row;
                shows = record { of_table = of; row_shown = shows };
                is_named_ = c_is;
                name_is = same_text table.name name (sym tests.0);
                key_is = keys_equal (key_of table row) key tests.1;
                told_is = let it : told_row table row ≡ told = cc in it;
              }
          at true c_is false d_is same = absurd cc
          at false c_is d d_is same = absurd cc

  row_to : (named : List ℕ → Bool) (p : RecId) (table : Table) (row : Row)
      → Shows f (committed_in f) r p table row → named table.name ≡ true
      → row_here f r named p table.name (key_of table row) ≡ Some (told_row table row)
  row_to named p table row shows is =
      let tests : (same_name table.name table.name && same_key (key_of table row) (key_of table row)) ≡ true
      = rw (same_name_itself table.name) (same_key_self (key_of table row)) in
      let here : row_under table table.name (key_of table row) (Some row) ≡ Some (told_row table row) =
      rw tests refl in
      ap (row_of named table.name (key_of table row) (shown (committed_in f) (r p))) shows.of_table
      ∙ (ap (λ (x : Option Row). if named table.name then row_under table table.name (key_of table row) x
      else None) shows.row_shown ∙ rw is here)

  -- one record shows a row under a name and a key
  pub one_record : (p q : RecId) (a b : Table) (x y : Row) → Shows f (committed_in f) r p a x
      → Shows f (committed_in f) r q b y → a.name ≡ b.name → key_of a x ≡ key_of b y → p ≡ q
  one_record p q a b x y first second names keys_same =
      let same : a ≡ b = one_of_name form size state pages layout r sound p q a b first.of_table
      second.of_table names in
      let of_q : table_in f q ≡ Some a = second.of_table ∙ ap Some (sym same) in
      let key_p : key_of a x ≡ record_key a (r p) = shown_keyed form.coding f a (record_key a (r p))
      (committed_in f) (r p) x (sound.records.each p a first.of_table).each first.row_shown in
      let key_q : key_of a y ≡ record_key a (r q) = shown_keyed form.coding f a (record_key a (r q))
      (committed_in f) (r q) y (sound.records.each q a of_q).each second.row_shown in
      sound.records.keys p q a first.of_table of_q (inl (x, first.row_shown)) (inl (y, second.row_shown))
      (sym key_p ∙ (keys_same ∙ (ap (λ (t : Table). key_of t y) (sym same) ∙ key_q)))

  -- so whoever shows one under them shows the same
  one_row : (named : List ℕ → Bool) (p q : RecId) (name : List ℕ) (key : Value) (told other : Row)
      → row_here f r named p name key ≡ Some told → row_here f r named q name key ≡ Some other
      → other ≡ told
  one_row named p q name key told other first second =
      let a = row_from named p name key told first in
      let b = row_from named q name key other second in
      let same : p ≡ q = one_record p q a.table b.table a.row b.row a.shows b.shows
      (a.name_is ∙ sym b.name_is) (a.key_is ∙ sym b.key_is) in
      let both : Some told ≡ Some other =
      sym first ∙ (ap (λ (x : RecId). row_here f r named x name key) same ∙ second) in cc

  listed_row : (named : List ℕ → Bool) (qs : List RecId) (p : RecId) (name : List ℕ) (key : Value)
      (told : Row) → HasPlace qs p → row_here f r named p name key ≡ Some told
      → rows_at f r named qs name key ≡ Some told
  listed_row named [] p name key told there is = absurd there
  listed_row named (q ∷ qs) p name key told there is =
      by (row_here f r named q name key) refl there (λ more. listed_row named qs p name key told more is)
    where
      by : (x : Option Row) → row_here f r named q name key ≡ x → (q ≡ p) ⊎ HasPlace qs p
          → (HasPlace qs p → rows_at f r named qs name key ≡ Some told)
          → either x (rows_at f r named qs name key) ≡ Some told
      by (Some other) here place rest = ap Some (one_row named p q name key told other is here)
      by None none (inl same) rest =
          let both : None ≡ Some told = sym none
          ∙ (ap (λ (x : RecId). row_here f r named x name key) same ∙ is) in absurd cc
      by None none (inr more) rest = rest more

  row_listed : (named : List ℕ → Bool) (qs : List RecId) (name : List ℕ) (key : Value) (told : Row)
      → rows_at f r named qs name key ≡ Some told
      → (p : RecId) × (row_here f r named p name key ≡ Some told)
  row_listed named [] name key told is = absurd cc
  row_listed named (q ∷ qs) name key told is =
      by (row_here f r named q name key) refl is (row_listed named qs name key told)
    where
      by : (x : Option Row) → row_here f r named q name key ≡ x
          → either x (rows_at f r named qs name key) ≡ Some told
          → (rows_at f r named qs name key ≡ Some told
          → (p : RecId) × (row_here f r named p name key ≡ Some told))
          → (p : RecId) × (row_here f r named p name key ≡ Some told)
      by (Some other) here is_ rest = (q, here ∙ is_)
      by None none is_ rest = rest is_

  -- ---- which tables there are

  -- the catalog's rows do not depend on which tables are named, as long as the catalog is
  catalog_here : (named : List ℕ → Bool) → named catalog_name ≡ true → (p : RecId) (key : Value)
      → row_here f r named p catalog_name key ≡ row_here f r is_catalog p catalog_name key
  catalog_here named on p key = by (table_in f p)
    where
      by : (t : Option Table) → row_of named catalog_name key (shown (committed_in f) (r p)) t
          ≡ row_of is_catalog catalog_name key (shown (committed_in f) (r p)) t
      by None = refl
      by (Some table) = at (same_name table.name catalog_name) refl (shown (committed_in f) (r p))
        where
          at : (c : Bool) → same_name table.name catalog_name ≡ c → (x : Option Row)
              → row_of named catalog_name key x (Some table)
              ≡ row_of is_catalog catalog_name key x (Some table)
          at true same x =
              let it : named table.name ≡ true =
              ap named (same_text table.name catalog_name (sym same)) ∙ on in rw (it, same) refl
          at false other None = nothing_either (named table.name)
              ∙ sym (nothing_either (is_catalog table.name))
          at false other (Some row) = off (named table.name)
            where
              off : (a : Bool)
                  → (if a then (if same_name table.name catalog_name && same_key (key_of table row) key
                  then Some (told_row table row) else None) else None)
                  ≡ (if is_catalog table.name then (if same_name table.name catalog_name
                  && same_key (key_of table row) key then Some (told_row table row) else None) else None)
              off true = rw other refl
              off false = rw other refl

  catalog_rows : (named : List ℕ → Bool) → named catalog_name ≡ true → (qs : List RecId) (key : Value)
      → rows_at f r named qs catalog_name key ≡ rows_at f r is_catalog qs catalog_name key
  catalog_rows named on [] key = refl
  catalog_rows named on (q ∷ qs) key =
      ap (λ (x : Option Row). either x (rows_at f r named qs catalog_name key)) (catalog_here named on q key)
      ∙ ap (either (row_here f r is_catalog q catalog_name key)) (catalog_rows named on qs key)

  abbrev named : List ℕ → Bool
  named = is_named f r ps

  catalog_named : named catalog_name ≡ true
  catalog_named = rw (same_name_itself catalog_name) refl

  some_there : (x : Option Row) → IsSome x → is_some x ≡ true
  some_there None is = absurd cc
  some_there (Some row) is = refl

  there_some : (x : Option Row) → is_some x ≡ true → IsSome x
  there_some None is = absurd cc
  there_some (Some row) is = refl

  named_of : (name : List ℕ) → HasTable (database_at f r ps) name → named name ≡ true
  named_of name (inl same) = ap named same ∙ catalog_named
  named_of name (inr some) =
      let here : is_some (rows_at f r is_catalog ps catalog_name (table_key name)) ≡ true =
      some_there (rows_at f r is_catalog ps catalog_name (table_key name))
      (subst IsSome (catalog_rows named catalog_named ps (table_key name)) some) in
      at (is_catalog name) here
    where
      at : (c : Bool) → is_some (rows_at f r is_catalog ps catalog_name (table_key name)) ≡ true
          → (c || is_some (rows_at f r is_catalog ps catalog_name (table_key name))) ≡ true
      at true here = refl
      at false here = here

  of_named : (name : List ℕ) → named name ≡ true → HasTable (database_at f r ps) name
  of_named name is = at (is_catalog name) refl is
    where
      at : (c : Bool) → is_catalog name ≡ c
          → (c || is_some (rows_at f r is_catalog ps catalog_name (table_key name))) ≡ true
          → HasTable (database_at f r ps) name
      at true same on = inl (same_text name catalog_name (sym same))
      at false other on = inr (subst IsSome (sym (catalog_rows named catalog_named ps (table_key name)))
          (there_some (rows_at f r is_catalog ps catalog_name (table_key name)) on))

  -- ---- what is held

  pub not_empty : (p : RecId) (row : Row) → shown (committed_in f) (r p) ≡ Some row → r p ≢ []
  not_empty p row is none =
      let both : None ≡ Some row = ap (shown (committed_in f)) (sym none) ∙ is in absurd cc

  pub held_database : IsHeld f (committed_in f) r (database_at f r ps)
  held_database = record {
    there = λ p table row shows has. listed_row named ps p table.name (key_of table row)
        (told_row table row)
        (has_place form.coding f pages (stands_of layout) r sound.records (λ n. refl) p table shows.of_table
        (not_empty p row shows.row_shown))
        (row_to named p table row shows (named_of table.name has));
    whole = λ name key row is. whole name key row (row_listed named ps name key row is);
    tables = λ name key row is. tables name key row (row_listed named ps name key row is);
  }
    where
      whole : (name : List ℕ) (key : Value) (row : Row)
          → (p : RecId) × (row_here f r named p name key ≡ Some row)
          → IsHeldAt f (committed_in f) r name key row
      whole name key row (p, is) = let it = row_from named p name key row is in record {
        place = p;
        table = it.table;
        stored = it.row;
        shows = it.shows;
        named = it.name_is;
        keyed = it.key_is;
        told = it.told_is;
      }

      tables : (name : List ℕ) (key : Value) (row : Row)
          → (p : RecId) × (row_here f r named p name key ≡ Some row) → HasTable (database_at f r ps) name
      tables name key row (p, is) = let it = row_from named p name key row is in
          of_named name (ap named (sym it.name_is) ∙ it.is_named_)

  -- ---- changes

  -- The record's newest version makes this change of a transaction in limbo.
  change_from : (p : RecId) (t : ℕ) (name : List ℕ) (key : Value) (change : Change)
      → change_here f r p t name key ≡ Some change → IsChangedAt f r t name key change
  change_from p t name key change is = by (table_in f p) refl (r p) refl is
    where
      by : (x : Option Table) → table_in f p ≡ x → (es : List Entry) → r p ≡ es
          → change_of_table f t name key es x ≡ Some change → IsChangedAt f r t name key change
      by None out es first is_ = absurd cc
      by (Some table) of [] first is_ = absurd cc
      by (Some table) of (e ∷ es) first is_ = at (is_limbo (f.state (writer e)) && (writer e == t
          && (same_name table.name name && same_key (key_of table e.row) key))) refl is_
        where
          at : (c : Bool) → (is_limbo (f.state (writer e)) && (writer e == t
              && (same_name table.name name && same_key (key_of table e.row) key))) ≡ c
              → (if c then Some (told_change table (change_in e)) else None) ≡ Some change
              → IsChangedAt f r t name key change
          at true c_is same =
              let one = both_true (is_limbo (f.state (writer e))) (writer e == t
              && (same_name table.name name && same_key (key_of table e.row) key)) c_is in
              let two = both_true (writer e == t)
              (same_name table.name name && same_key (key_of table e.row) key) one.1 in
              let three = both_true (same_name table.name name) (same_key (key_of table e.row) key) two.1 in
              record {
                place = p;
                table = table;
                version = e;
                limbo = record {
                  of_table = of;
                  older = es;
                  newest = first;
                  limbo = limbo_true (f.state (writer e)) one.0;
                };
                its_own = eqb-true (writer e) t two.0;
                named = same_text table.name name (sym three.0);
                keyed = keys_equal (key_of table e.row) key three.1;
                told = let it : told_change table (change_in e) ≡ change = cc in it;
              }
          at false c_is same = absurd cc

  change_to : (p : RecId) (table : Table) (e : Entry) → HasLimbo f r p table e
      → change_here f r p (writer e) table.name (key_of table e.row)
      ≡ Some (told_change table (change_in e))
  change_to p table e has =
      let limbo : is_limbo (f.state (writer e)) ≡ true = ap is_limbo has.limbo in
      let its : (writer e == writer e) ≡ true = eq-eqb (writer e) (writer e) refl in
      let here : change_under f (writer e) table table.name (key_of table e.row) (e ∷ has.older)
      ≡ Some (told_change table (change_in e)) =
      rw (limbo, its, same_name_itself table.name, same_key_self (key_of table e.row)) refl in
      ap (change_of_table f (writer e) table.name (key_of table e.row) (r p)) has.of_table
      ∙ (ap (change_under f (writer e) table table.name (key_of table e.row)) has.newest ∙ here)

  -- one record has a limbo version under a name and a key
  pub one_limbo : (p q : RecId) (a b : Table) (d e : Entry) → HasLimbo f r p a d → HasLimbo f r q b e
      → a.name ≡ b.name → key_of a d.row ≡ key_of b e.row → p ≡ q
  one_limbo p q a b d e first second names keys_same =
      let same : a ≡ b = one_of_name form size state pages layout r sound p q a b first.of_table
      second.of_table names in
      let of_q : table_in f q ≡ Some a = second.of_table ∙ ap Some (sym same) in
      sound.records.keys p q a first.of_table of_q
      (subst (TakesKey f) (sym first.newest) (inr first.limbo))
      (subst (TakesKey f) (sym second.newest) (inr second.limbo))
      (ap (record_key a) first.newest ∙ (keys_same ∙ (ap (λ (t : Table). key_of t e.row) (sym same)
      ∙ ap (record_key a) (sym second.newest))))

  one_change : (p q : RecId) (t : ℕ) (name : List ℕ) (key : Value) (change other : Change)
      → change_here f r p t name key ≡ Some change → change_here f r q t name key ≡ Some other
      → other ≡ change
  one_change p q t name key change other first second =
      let same : p ≡ q = by_places (change_place p t name key change first)
      (change_place q t name key other second) in
      let both : Some change ≡ Some other =
      sym first ∙ (ap (λ (x : RecId). change_here f r x t name key) same ∙ second) in cc
    where
      change_place : (x : RecId) (t : ℕ) (name : List ℕ) (key : Value) (c : Change)
          → change_here f r x t name key ≡ Some c
          → (table : Table) × (e : Entry) × HasLimbo f r x table e × (table.name ≡ name)
          × (key_of table e.row ≡ key)
      change_place x t name key c is = by (table_in f x) refl (r x) refl is
        where
          by : (y : Option Table) → table_in f x ≡ y → (es : List Entry) → r x ≡ es
              → change_of_table f t name key es y ≡ Some c
              → (table : Table) × (e : Entry) × HasLimbo f r x table e × (table.name ≡ name)
              × (key_of table e.row ≡ key)
          by None out es first_ is_ = absurd cc
          by (Some table) of [] first_ is_ = absurd cc
          by (Some table) of (e ∷ es) first_ is_ = at (is_limbo (f.state (writer e)) && (writer e == t
              && (same_name table.name name && same_key (key_of table e.row) key))) refl is_
            where
              at : (d : Bool) → (is_limbo (f.state (writer e)) && (writer e == t
                  && (same_name table.name name && same_key (key_of table e.row) key))) ≡ d
                  → (if d then Some (told_change table (change_in e)) else None) ≡ Some c
                  → (table : Table) × (e : Entry) × HasLimbo f r x table e × (table.name ≡ name)
                  × (key_of table e.row ≡ key)
              at true d_is same =
                  let one = both_true (is_limbo (f.state (writer e))) (writer e == t
                  && (same_name table.name name && same_key (key_of table e.row) key)) d_is in
                  let two = both_true (writer e == t)
                  (same_name table.name name && same_key (key_of table e.row) key) one.1 in
                  let three = both_true (same_name table.name name) (same_key (key_of table e.row) key)
                  two.1 in (
                    table,
                    e,
                    record {
                      of_table = of;
                      older = es;
                      newest = first_;
                      limbo = limbo_true (f.state (writer e)) one.0;
                    },
                    same_text table.name name (sym three.0),
                    keys_equal (key_of table e.row) key three.1,
                  )
              at false d_is same = absurd cc

      by_places : (table : Table) × (e : Entry) × HasLimbo f r p table e × (table.name ≡ name)
          × (key_of table e.row ≡ key)
          → (table : Table) × (e : Entry) × HasLimbo f r q table e × (table.name ≡ name)
          × (key_of table e.row ≡ key) → p ≡ q
      by_places (a, d, first_, name_a, key_a) (b, e, second_, name_b, key_b) =
          one_limbo p q a b d e first_ second_ (name_a ∙ sym name_b) (key_a ∙ sym key_b)

  listed_change : (qs : List RecId) (p : RecId) (t : ℕ) (name : List ℕ) (key : Value) (change : Change)
      → HasPlace qs p → change_here f r p t name key ≡ Some change
      → changes_at f r qs t name key ≡ Some change
  listed_change [] p t name key change there is = absurd there
  listed_change (q ∷ qs) p t name key change there is =
      by (change_here f r q t name key) refl there (λ more. listed_change qs p t name key change more is)
    where
      by : (x : Option Change) → change_here f r q t name key ≡ x → (q ≡ p) ⊎ HasPlace qs p
          → (HasPlace qs p → changes_at f r qs t name key ≡ Some change)
          → either x (changes_at f r qs t name key) ≡ Some change
      by (Some other) here place rest = ap Some (one_change p q t name key change other is here)
      by None none (inl same) rest =
          let both : None ≡ Some change = sym none
          ∙ (ap (λ (x : RecId). change_here f r x t name key) same ∙ is) in absurd cc
      by None none (inr more) rest = rest more

  change_listed : (qs : List RecId) (t : ℕ) (name : List ℕ) (key : Value) (change : Change)
      → changes_at f r qs t name key ≡ Some change → IsChangedAt f r t name key change
  change_listed [] t name key change is = absurd cc
  change_listed (q ∷ qs) t name key change is =
      by (change_here f r q t name key) refl is (change_listed qs t name key change)
    where
      by : (x : Option Change) → change_here f r q t name key ≡ x
          → either x (changes_at f r qs t name key) ≡ Some change
          → (changes_at f r qs t name key ≡ Some change → IsChangedAt f r t name key change)
          → IsChangedAt f r t name key change
      by (Some other) here is_ rest = change_from q t name key change (here ∙ is_)
      by None none is_ rest = rest is_

  pub held_changes : AreChanges f r (changes_at f r ps)
  held_changes = record {
    there = λ p table e has. listed_change ps p (writer e) table.name (key_of table e.row)
        (told_change table (change_in e))
        (has_place form.coding f pages (stands_of layout) r sound.records (λ n. refl) p table has.of_table
        (λ none. no_version p e has.older none has.newest))
        (change_to p table e has);
    whole = λ t name key change is. change_listed ps t name key change is;
  }
    where
      no_version : (p : RecId) (e : Entry) (older : List Entry) → r p ≡ [] → r p ≡ e ∷ older → ⊥
      no_version p e older none is = let both : [] ≡ e ∷ older = sym none ∙ is in absurd cc

pub sound_holds : (form : Form) → SoundHolds form
sound_holds form size state pages layout r sound = record {
  rows = database_at (facts_by state pages layout) r (places_of pages (stands_of layout));
  held = held_database form size state pages layout r sound;
  changes = changes_at (facts_by state pages layout) r (places_of pages (stands_of layout));
  changed = held_changes form size state pages layout r sound;
}

pub sound_opens : (form : Form) → SoundOpens form
sound_opens form size pages layout r sound = (
  record {
    rows = some.rows;
    limbo = some.changes;
    next = next_of pages;
    state = state_at size pages;
  },
  sound_image (record {
    layout = layout;
    reading = r;
    sound = sound;
    held = some.held;
    limbo = some.changed;
    next = refl;
    state = λ t below. refl;
  }),
)
  where
    some : HoldsSome (facts_by (state_at size pages) pages layout) r
    some = sound_holds form size (state_at size pages) pages layout r sound
