-- A transaction in limbo is committed: the database is changed by its changes.
use Rattle.mg_image.specs.OwnTables.{HasOwnChanges, IsPut}
use Rattle.mg_base.specs.declared.numbers.RecId.{RecId}
use Rattle.mg_base.specs.declared.transaction.TxState.TheVariants.{Committed, Limbo}
use Rattle.mg_image.specs.FactLaws.{CommitsFacts, shown_alike}
use Rattle.mg_image.specs.Form.{Coding, Row}
use Rattle.mg_image.specs.Held.{AreChanges, Changes, Database, HasLimbo, HasTable, IsChangedAt, IsHeld, IsHeldAt, Shows, told_change, told_row}
use Rattle.mg_image.specs.RecordRules.{AreRecords, Each, EachBack, Facts, IsInLimbo, IsRecord, IsVersion, committed_in, table_in}
use Rattle.mg_image.specs.Records.{Cells, Change, Erases, Puts, Reading, change_in, key_of, record_key, shown, writer}
use Rattle.mg_image.specs.declared.entry.Entry.{Entry}
use Rattle.mg_model.specs.Answers.{is_committed}
use Rattle.mg_model.specs.Catalog.{catalog_name, table_key}
use Rattle.mg_model.specs.declared.table.Table.{Table}
use Rattle.mg_value.specs.declared.value.Value.{Value}
use Rattle.std.proofs.Common.{Bool, List, None, Option, Some, [], ap, false, inl, inr, refl, subst, sym, true, ℕ, ◌==◌, ◌∙◌, ◌∷◌, ◌≡◌, ◌≢◌, ◌⊎◌}
use Rattle.std.proofs.lemmas.Bool.{cases_eq, eq-eqb, ne_eqb}
use Rattle.std.specs.Prelude.{IsSome, if◌then◌else◌}

-- what a change makes of a row
abbrev pub after_change : Option Change → Option Row → Option Row
after_change None old = old
after_change (Some (Puts row)) old = Some row
after_change (Some Erases) old = None

-- a database changed by a transaction
abbrev pub changed_by : ℕ → Changes → Database → Database
changed_by t changes db name key = after_change (changes t name key) (db name key)

-- the changes of the others
abbrev pub changes_without : ℕ → Changes → Changes
changes_without t changes u name key = if u == t then None else changes u name key

module _ (coding : Coding) (f g : Facts) (h : Cells) (r : Reading) (t : ℕ) (db : Database)
    (changes : Changes) (are : AreRecords coding f h r) (limbo : f.state t ≡ Limbo)
    (commits : CommitsFacts f g t) (held : IsHeld f (committed_in f) r db)
    (made : AreChanges f r changes) (owns : HasOwnChanges f r db changes)
    (one_name : (p q : RecId) (a b : Table) → table_in f p ≡ Some a → table_in f q ≡ Some b
    → a.name ≡ b.name → a ≡ b) where
  -- who isn't t counts as before
  counts_same : (u : ℕ) → u ≢ t → committed_in g u ≡ committed_in f u
  counts_same u ne = ap is_committed (commits.others u ne)

  t_counts : committed_in g t ≡ true
  t_counts = ap is_committed commits.state

  not_t : (u : ℕ) → f.state u ≡ Committed → u ≢ t
  not_t u is same = let both : Limbo ≡ Committed = sym limbo ∙ (ap f.state (sym same) ∙ is) in absurd cc

  backs_same : (es : List Entry) → Each (λ e. f.state (writer e) ≡ Committed) es
      → Each (λ e. committed_in g (writer e) ≡ committed_in f (writer e)) es
  backs_same [] each = tt
  backs_same (e ∷ es) each =
      (counts_same (writer e) (not_t (writer e) each.0), backs_same es each.1)

  -- a record whose newest version isn't t's shows what it did
  same_shown : (e : Entry) (es : List Entry) → writer e ≢ t
      → Each (λ d. f.state (writer d) ≡ Committed) es
      → shown (committed_in g) (e ∷ es) ≡ shown (committed_in f) (e ∷ es)
  same_shown e es ne backs = shown_alike (committed_in f) (committed_in g) (e ∷ es)
      (counts_same (writer e) ne, backs_same es backs)

  table_same : (p : RecId) → table_in g p ≡ table_in f p
  table_same p = commits.tables p.page.0

  -- the key of a version is that of its record
  head_key : (p : RecId) (table : Table) (e : Entry) (es : List Entry) → table_in f p ≡ Some table
      → r p ≡ e ∷ es → record_key table (r p) ≡ key_of table e.row
  head_key p table e es of is = ap (record_key table) is

  -- the row that is shown has it, too
  shown_key : (table : Table) (key : Value) (es : List Entry) (row : Row)
      → Each (IsVersion coding f table key) es → shown (committed_in f) es ≡ Some row
      → key_of table row ≡ key
  shown_key table key [] row each is = absurd cc
  shown_key table key (e ∷ es) row each is = by (committed_in f (writer e)) e.version.deleted
      (shown_key table key es row each.1) is
    where
      by : (counts deleted : Bool)
          → (shown (committed_in f) es ≡ Some row → key_of table row ≡ key)
          → (if counts then (if deleted then None else Some e.row) else shown (committed_in f) es)
          ≡ Some row → key_of table row ≡ key
      by true true older is = absurd cc
      by true false older is =
          let same : e.row ≡ row = cc in ap (key_of table) (sym same) ∙ each.0.keyed
      by false deleted older is = older is

  -- t has changed a key: the record is the one that shows it
  one_record : (p q : RecId) (table other : Table) (row : Row) (e : Entry)
      → Shows f (committed_in f) r p table row → HasLimbo f r q other e → table.name ≡ other.name
      → key_of table row ≡ key_of other e.row → p ≡ q
  one_record p q table other row e shows has name key =
      let same : table ≡ other = one_name p q table other shows.of_table has.of_table name in
      are.keys p q table shows.of_table (has.of_table ∙ ap Some (sym same)) (inl (row, shows.row_shown))
      (inr (subst (IsInLimbo f) (sym has.newest) has.limbo))
      (sym (shown_key table (record_key table (r p)) (r p) row ((are.each p table shows.of_table).each)
      shows.row_shown) ∙ (key ∙ (ap (λ (o : Table). key_of o e.row) (sym same)
      ∙ sym (head_key q table e has.older (has.of_table ∙ ap Some (sym same)) has.newest))))

  -- what the changed database has where t has changed nothing, and where it has
  unchanged : (name : List ℕ) (key : Value) → changes t name key ≡ None
      → changed_by t changes db name key ≡ db name key
  unchanged name key none = ap (λ (c : Option Change). after_change c (db name key)) none

  changed : (name : List ℕ) (key : Value) (c : Change) → changes t name key ≡ Some c
      → changed_by t changes db name key ≡ after_change (Some c) (db name key)
  changed name key c is = ap (λ (c : Option Change). after_change c (db name key)) is

  -- a table that the changed database has and the old one has not is t's
  has_still : (name : List ℕ) → HasTable db name → HasTable (changed_by t changes db) name
  has_still name (inl is) = inl is
  has_still name (inr there) = inr (at (changes t catalog_name (table_key name)) refl)
    where
      at : (c : Option Change) → changes t catalog_name (table_key name) ≡ c
          → IsSome (changed_by t changes db catalog_name (table_key name))
      at None none = subst IsSome (sym (unchanged catalog_name (table_key name) none)) there
      at (Some (Puts row)) is = subst IsSome (sym (changed catalog_name (table_key name) (Puts row) is)) refl
      at (Some Erases) is = absurd (owns.kept t name there is)

  -- where the old database has no table of a record's, the record shows what t wrote
  there : (p : RecId) (table : Table) (row : Row) → Shows g (committed_in g) r p table row
      → HasTable (changed_by t changes db) table.name
      → changed_by t changes db table.name (key_of table row) ≡ Some (told_row table row)
  there p table row shows has = by (r p) refl
    where
      of : table_in f p ≡ Some table
      of = sym (table_same p) ∙ shows.of_table

      by : (es : List Entry) → r p ≡ es
          → changed_by t changes db table.name (key_of table row) ≡ Some (told_row table row)
      by [] none = let empty = ap (shown (committed_in g)) (sym none) ∙ shows.row_shown in absurd cc
      by (e ∷ es) is = by_writer (cases_eq (writer e) t)
        where
          backs : Each (λ d. f.state (writer d) ≡ Committed) es
          backs = subst (EachBack (λ d. f.state (writer d) ≡ Committed)) is (are.each p table of).backs

          by_writer : (writer e ≡ t) ⊎ (writer e ≢ t)
              → changed_by t changes db table.name (key_of table row) ≡ Some (told_row table row)
          by_writer (inl its) =
              by_deleted e.version.deleted refl (ap (shown (committed_in g)) (sym is) ∙ shows.row_shown)
            where
              has_limbo : HasLimbo f r p table e
              has_limbo = record {
                of_table = of;
                older = es;
                newest = is;
                limbo = ap f.state its ∙ limbo;
              }

              counts : committed_in g (writer e) ≡ true
              counts = ap (committed_in g) its ∙ t_counts

              change : changes t table.name (key_of table e.row) ≡ Some (told_change table (change_in e))
              change = ap (λ (u : ℕ). changes u table.name (key_of table e.row)) (sym its)
                  ∙ made.there p table e has_limbo

              by_deleted : (d : Bool) → e.version.deleted ≡ d
                  → shown (committed_in g) (e ∷ es) ≡ Some row
                  → changed_by t changes db table.name (key_of table row) ≡ Some (told_row table row)
              by_deleted true deleted shown_ =
                  let none : shown (committed_in g) (e ∷ es) ≡ None = rw (counts, deleted) refl in
                  let both = sym none ∙ shown_ in absurd cc
              by_deleted false alive shown_ =
                  let gives : shown (committed_in g) (e ∷ es) ≡ Some e.row = rw (counts, alive) refl in
                  let both : Some e.row ≡ Some row = sym gives ∙ shown_ in
                  let same : e.row ≡ row = cc in
                  let puts : change_in e ≡ Puts e.row = rw alive refl in
                  subst (λ (x : Row). changed_by t changes db table.name (key_of table x)
                  ≡ Some (told_row table x)) same
                  (changed table.name (key_of table e.row) (Puts (told_row table e.row))
                  (change ∙ ap (λ (c : Change). Some (told_change table c)) puts))
          by_writer (inr other) = by_table (owns.own p table of)
            where
              was : shown (committed_in f) (r p) ≡ Some row
              was = ap (shown (committed_in f)) is ∙ (sym (same_shown e es other backs)
                  ∙ (ap (shown (committed_in g)) (sym is) ∙ shows.row_shown))

              shows_f : Shows f (committed_in f) r p table row
              shows_f = record { of_table = of; row_shown = was }

              by_table : HasTable db table.name ⊎ (shown (committed_in f) (r p) ≡ None)
                  → changed_by t changes db table.name (key_of table row) ≡ Some (told_row table row)
              by_table (inr none) = let both = sym was ∙ none in absurd cc
              by_table (inl has_) = by_change (changes t table.name (key_of table row)) refl
                where
                  by_change : (c : Option Change) → changes t table.name (key_of table row) ≡ c
                      → changed_by t changes db table.name (key_of table row)
                      ≡ Some (told_row table row)
                  by_change None none = unchanged table.name (key_of table row) none
                      ∙ held.there p table row shows_f has_
                  by_change (Some c) some_ =
                      at (made.whole t table.name (key_of table row) c some_)
                    where
                      at : IsChangedAt f r t table.name (key_of table row) c
                          → changed_by t changes db table.name (key_of table row)
                          ≡ Some (told_row table row)
                      at it =
                          let same : p ≡ it.place = one_record p it.place table it.table row it.version
                          shows_f it.limbo (sym it.named) (sym it.keyed) in
                          let heads : e ∷ es ≡ it.version ∷ it.limbo.older =
                          sym is ∙ (ap r same ∙ it.limbo.newest) in
                          let head : e ≡ it.version = cc in
                          absurd (other (ap writer head ∙ it.its_own))

  whole : (name : List ℕ) (key : Value) (row : Row) → changed_by t changes db name key ≡ Some row
      → IsHeldAt g (committed_in g) r name key row
  whole name key row is = by (changes t name key) refl
    where
      from_change : (c : Row) → IsChangedAt f r t name key (Puts c) → c ≡ row
          → IsHeldAt g (committed_in g) r name key row
      from_change c it same = by_deleted it.version.version.deleted refl
        where
          counts : committed_in g (writer it.version) ≡ true
          counts = ap (committed_in g) it.its_own ∙ t_counts

          by_deleted : (d : Bool) → it.version.version.deleted ≡ d
              → IsHeldAt g (committed_in g) r name key row
          by_deleted true deleted =
              let erases : change_in it.version ≡ Erases = rw deleted refl in
              let both : Erases ≡ Puts c =
              sym (ap (told_change it.table) erases) ∙ it.told in absurd cc
          by_deleted false alive =
              let puts : change_in it.version ≡ Puts it.version.row = rw alive refl in
              let both : Puts (told_row it.table it.version.row) ≡ Puts c =
              sym (ap (told_change it.table) puts) ∙ it.told in
              let told : told_row it.table it.version.row ≡ c = cc in
              record {
                place = it.place;
                table = it.table;
                stored = it.version.row;
                shows = record {
                  of_table = table_same it.place ∙ it.limbo.of_table;
                  row_shown = ap (shown (committed_in g)) it.limbo.newest ∙ rw (counts, alive) refl;
                };
                named = it.named;
                keyed = it.keyed;
                told = told ∙ same;
              }

      from_old : IsHeldAt f (committed_in f) r name key row → changes t name key ≡ None
          → IsHeldAt g (committed_in g) r name key row
      from_old it none = record {
        place = it.place;
        table = it.table;
        stored = it.stored;
        shows = record {
          of_table = table_same it.place ∙ it.shows.of_table;
          row_shown = at (r it.place) refl;
        };
        named = it.named;
        keyed = it.keyed;
        told = it.told;
      }
        where
          record_ : IsRecord coding f it.table (r it.place)
          record_ = are.each it.place it.table it.shows.of_table

          at : (es : List Entry) → r it.place ≡ es
              → shown (committed_in g) (r it.place) ≡ Some it.stored
          at [] empty =
              let both = ap (shown (committed_in f)) (sym empty) ∙ it.shows.row_shown in absurd cc
          at (e ∷ es) first = by_writer (cases_eq (writer e) t)
            where
              by_writer : (writer e ≡ t) ⊎ (writer e ≢ t)
                  → shown (committed_in g) (r it.place) ≡ Some it.stored
              by_writer (inr other) = ap (shown (committed_in g)) first
                  ∙ (same_shown e es other (subst (EachBack (λ d. f.state (writer d) ≡ Committed)) first
                  record_.backs) ∙ (ap (shown (committed_in f)) (sym first) ∙ it.shows.row_shown))
              by_writer (inl its) =
                  let stored : key_of it.table e.row ≡ key =
                  sym (head_key it.place it.table e es it.shows.of_table first)
                  ∙ (sym (shown_key it.table (record_key it.table (r it.place)) (r it.place) it.stored
                  record_.each it.shows.row_shown) ∙ it.keyed) in
                  let there_ = made.there it.place it.table e (record {
                    of_table = it.shows.of_table;
                    older = es;
                    newest = first;
                    limbo = ap f.state its ∙ limbo;
                  }) in
                  let some_ : changes t name key ≡ Some (told_change it.table (change_in e)) =
                  ap (λ (k : Value). changes t name k) (sym stored)
                  ∙ (ap (λ (n : List ℕ). changes t n (key_of it.table e.row)) (sym it.named)
                  ∙ (ap (λ (u : ℕ). changes u it.table.name (key_of it.table e.row)) (sym its)
                  ∙ there_)) in
                  let both = sym none ∙ some_ in absurd cc

      by : (c : Option Change) → changes t name key ≡ c → IsHeldAt g (committed_in g) r name key row
      by None none = from_old (held.whole name key row (sym (unchanged name key none) ∙ is)) none
      by (Some (Puts c)) some_ =
          let both : Some c ≡ Some row = sym (changed name key (Puts c) some_) ∙ is in
          let same : c ≡ row = cc in
          from_change c (made.whole t name key (Puts c) some_) same
      by (Some Erases) some_ =
          let both = sym (changed name key Erases some_) ∙ is in absurd cc

  tables : (name : List ℕ) (key : Value) (row : Row) → changed_by t changes db name key ≡ Some row
      → HasTable (changed_by t changes db) name
  tables name key row is = by (changes t name key) refl
    where
      by : (c : Option Change) → changes t name key ≡ c → HasTable (changed_by t changes db) name
      by None none = has_still name (held.tables name key row (sym (unchanged name key none) ∙ is))
      by (Some c) some_ = at (made.whole t name key c some_)
        where
          at : IsChangedAt f r t name key c → HasTable (changed_by t changes db) name
          at it = by_table (owns.made it.place it.table it.version it.limbo)
            where
              by_table : HasTable db it.table.name
                  ⊎ IsPut (changes (writer it.version) catalog_name (table_key it.table.name))
                  → HasTable (changed_by t changes db) name
              by_table (inl has) = subst (HasTable (changed_by t changes db)) it.named
                  (has_still it.table.name has)
              by_table (inr puts) = inr (put (changes t catalog_name (table_key name)) refl
                  (subst (λ (n : List ℕ). IsPut (changes t catalog_name (table_key n))) it.named
                  (subst (λ (u : ℕ). IsPut (changes u catalog_name (table_key it.table.name)))
                  it.its_own puts)))
                where
                  put : (d : Option Change) → changes t catalog_name (table_key name) ≡ d
                      → IsPut (changes t catalog_name (table_key name))
                      → IsSome (changed_by t changes db catalog_name (table_key name))
                  put None none puts = absurd (subst IsPut none puts)
                  put (Some Erases) erases puts = absurd (subst IsPut erases puts)
                  put (Some (Puts row)) is puts = subst IsSome
                      (sym (changed catalog_name (table_key name) (Puts row) is)) refl

  -- the records hold the changed database
  pub commit_held : IsHeld g (committed_in g) r (changed_by t changes db)
  commit_held = record { there = there; whole = whole; tables = tables }

  -- and the changes of the others
  pub commit_changes : AreChanges g r (changes_without t changes)
  commit_changes = record { there = their; whole = their_whole }
    where
      still : (u : ℕ) → g.state u ≡ Limbo → u ≢ t
      still u is same = let both : Limbo ≡ Committed = sym is ∙ (ap g.state same ∙ commits.state) in absurd cc

      their : (p : RecId) (table : Table) (e : Entry) → HasLimbo g r p table e
          → changes_without t changes (writer e) table.name (key_of table e.row)
          ≡ Some (told_change table (change_in e))
      their p table e has =
          let ne : writer e ≢ t = still (writer e) has.limbo in
          rw (ne_eqb (writer e) t ne) (made.there p table e (record {
            of_table = sym (table_same p) ∙ has.of_table;
            older = has.older;
            newest = has.newest;
            limbo = sym (commits.others (writer e) ne) ∙ has.limbo;
          }))

      their_whole : (u : ℕ) (name : List ℕ) (key : Value) (c : Change)
          → changes_without t changes u name key ≡ Some c → IsChangedAt g r u name key c
      their_whole u name key c is = by (cases_eq u t)
        where
          by : (u ≡ t) ⊎ (u ≢ t) → IsChangedAt g r u name key c
          by (inl e) =
              let none : changes_without t changes u name key ≡ None = rw (eq-eqb u t e) refl in
              let both = sym none ∙ is in absurd cc
          by (inr ne) = at (made.whole u name key c (sym (rw (ne_eqb u t ne) refl) ∙ is))
            where
              at : IsChangedAt f r u name key c → IsChangedAt g r u name key c
              at it = record {
                place = it.place;
                table = it.table;
                version = it.version;
                limbo = record {
                  of_table = table_same it.place ∙ it.limbo.of_table;
                  older = it.limbo.older;
                  newest = it.limbo.newest;
                  limbo = commits.others (writer it.version)
                      (λ same. ne (sym it.its_own ∙ same)) ∙ it.limbo.limbo;
                };
                its_own = it.its_own;
                named = it.named;
                keyed = it.keyed;
                told = it.told;
              }
