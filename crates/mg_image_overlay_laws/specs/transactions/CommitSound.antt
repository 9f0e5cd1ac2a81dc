-- A transaction in limbo is committed: a sound image stays sound.
use Rattle.mg_base.specs.declared.numbers.RecId.{RecId}
use Rattle.mg_base.specs.declared.transaction.TxState.{TxState}
use Rattle.mg_base.specs.declared.transaction.TxState.TheVariants.{Committed, Dead, Limbo}
use Rattle.mg_image.specs.Catalog.{CatalogNames, HasMade, HasNames, HasOwnTables, IsNamed, committed_with}
use Rattle.mg_image.specs.FactLaws.{CommitsFacts, records_commit, shown_alike, shown_keyed}
use Rattle.mg_image.specs.Form.{Coding, Form, Pages, Row, Rows}
use Rattle.mg_image.specs.Held.{AreRows, HasLimbo, Shows}
use Rattle.mg_image.specs.Indexes.{IsFoundIn}
use Rattle.mg_image.specs.RecordRules.{AreRecords, Each, EachBack, Facts, IsRecord, TakesKey, committed_in}
use Rattle.mg_image.specs.Records.{Cells, Reading, cells_of, key_of, record_key, shown, writer}
use Rattle.mg_image.specs.Sound.{IsIndexed, IsSoundBy, facts_by}
use Rattle.mg_image.specs.Tables.{Layout}
use Rattle.mg_image.specs.declared.entry.Entry.{Entry}
use Rattle.mg_image_overlay_laws.specs.tables.TableOwners.{no_table_erased, own_tables_stay}
use Rattle.mg_model.specs.Answers.{is_committed}
use Rattle.mg_model.specs.Legal.{is_limbo}
use Rattle.mg_model.specs.declared.table.Table.{Table}
use Rattle.mg_value.specs.declared.value.Value.{Value}
use Rattle.std.proofs.Common.{Bool, List, None, Some, [], ap, false, inl, inr, refl, subst, sym, true, ℕ, ◌&&◌, ◌==◌, ◌||◌, ◌∙◌, ◌∷◌, ◌≡◌, ◌≢◌, ◌⊎◌}
use Rattle.std.proofs.Math.Path.{fun_ext}
use Rattle.std.proofs.lemmas.Bool.{cases_eq, eq-eqb, ne_eqb}
use Rattle.std.specs.Prelude.{if◌then◌else◌, map}

-- what has become of the transactions once t is committed
abbrev pub committing : ℕ → (ℕ → TxState) → ℕ → TxState
committing t state u = if u == t then Committed else state u

module _ (state : ℕ → TxState) (t : ℕ) (limbo : state t ≡ Limbo) where
  here : committing t state t ≡ Committed
  here = rw (eq-eqb t t refl) refl

  other : (u : ℕ) → u ≢ t → committing t state u ≡ state u
  other u ne = rw (ne_eqb u t ne) refl

  not_t : (u : ℕ) → state u ≡ Committed → u ≢ t
  not_t u is same = let both : Limbo ≡ Committed = sym limbo ∙ (ap state (sym same) ∙ is) in absurd cc

  -- whoever counts with t committed counted where t was chosen
  abbrev chosen_with : (ℕ → Bool) → ℕ → Bool
  chosen_with chosen u = u == t || chosen u

  same_counts : (chosen : ℕ → Bool) (u : ℕ)
      → (is_committed (state u) || (is_limbo (state u) && chosen_with chosen u))
      ≡ (is_committed (committing t state u) || (is_limbo (committing t state u) && chosen u))
  same_counts chosen u = at (cases_eq u t)
    where
      at : (u ≡ t) ⊎ (u ≢ t)
          → (is_committed (state u) || (is_limbo (state u) && chosen_with chosen u))
          ≡ (is_committed (committing t state u) || (is_limbo (committing t state u) && chosen u))
      at (inl e) = rw (e, limbo, eq-eqb t t refl) refl
      at (inr ne) = rw (ne_eqb u t ne) refl

  module _ (pages : Pages) (layout : Layout) where
    abbrev f : Facts
    f = facts_by state pages layout

    abbrev g : Facts
    g = facts_by (committing t state) pages layout

    commits : CommitsFacts f g t
    commits = record {
      tables = λ n. refl;
      next = refl;
      oldest = refl;
      state = here;
      others = other;
    }

    same_with : (chosen : ℕ → Bool) → committed_with f (chosen_with chosen) ≡ committed_with g chosen
    same_with chosen = fun_ext (same_counts chosen)

    rows_as : (counts now : ℕ → Bool) (r : Reading) (table : Table) (rows : Rows) → counts ≡ now
        → AreRows f counts r table rows → AreRows g now r table rows
    rows_as counts now r table rows same are = at (subst (λ (c : ℕ → Bool). AreRows f c r table rows) same are)
      where
        at : AreRows f now r table rows → AreRows g now r table rows
        at are = record {
          there = λ p row shows. are.there p row (record { of_table = shows.of_table; row_shown = shows.row_shown });
          whole = λ key row is. whole key row (are.whole key row is);
        }
          where
            whole : (key : Value) (row : Row)
                → (p : RecId) × Shows f now r p table row × (key_of table row ≡ key)
                → (p : RecId) × Shows g now r p table row × (key_of table row ≡ key)
            whole key row (p, shows, keyed) =
                (p, record { of_table = shows.of_table; row_shown = shows.row_shown }, keyed)

    names_commit : (size : ℕ) (r : Reading) (catalog : Table) (tables : List Table)
        → HasNames size f r catalog tables → HasNames size g r catalog tables
    names_commit size r catalog tables names = record {
      named = λ chosen. names.named (chosen_with chosen);
      lawful = λ chosen. moved (chosen_with chosen) chosen (names.named (chosen_with chosen))
          (same_with chosen) (names.lawful (chosen_with chosen));
      all = moved (λ u. true) (λ u. true) tables all_chosen names.all;
      stay = λ chosen more within. names.stay (chosen_with chosen) (chosen_with more)
          (λ u. either (u == t) (chosen u) (more u) (within u));
    }
      where
        either : (a b c : Bool) → (b ≡ true → c ≡ true) → (a || b) ≡ true → (a || c) ≡ true
        either true b c gives is = refl
        either false b c gives is = gives is

        moved : (before chosen : ℕ → Bool) (named : List Table)
            → committed_with f before ≡ committed_with g chosen
            → CatalogNames size f (committed_with f before) r catalog named
            → CatalogNames size g (committed_with g chosen) r catalog named
        moved before chosen named same is = record {
          rows = is.rows;
          are_rows = rows_as (committed_with f before) (committed_with g chosen) r catalog is.rows same
              is.are_rows;
          are_tables = is.are_tables;
          fit = is.fit;
        }

        all_chosen : committed_with f (λ u. true) ≡ committed_with g (λ u. true)
        all_chosen = fun_ext (λ u. at u (cases_eq u t))
          where
            at : (u : ℕ) → (u ≡ t) ⊎ (u ≢ t)
                → committed_with f (λ u. true) u ≡ committed_with g (λ u. true) u
            at u (inl e) = rw (e, limbo, eq-eqb t t refl) refl
            at u (inr ne) = rw (ne_eqb u t ne) refl

    backs_same : (es : List Entry) → Each (λ e. state (writer e) ≡ Committed) es
        → Each (λ e. committed_in g (writer e) ≡ committed_in f (writer e)) es
    backs_same [] each = tt
    backs_same (e ∷ es) each = (
      ap is_committed (other (writer e) (not_t (writer e) each.0)),
      backs_same es each.1,
    )

    -- what a record shows then, it showed, or its limbo version gives it
    shown_by_commit : (e : Entry) (es : List Entry) (row : Row)
        → Each (λ d. state (writer d) ≡ Committed) es
        → shown (committed_in g) (e ∷ es) ≡ Some row
        → (shown (committed_in f) (e ∷ es) ≡ Some row)
        ⊎ ((writer e ≡ t) × ((e.version.deleted ≡ false) × (e.row ≡ row)))
    shown_by_commit e es row backs is = at (cases_eq (writer e) t)
      where
        at : (writer e ≡ t) ⊎ (writer e ≢ t)
            → (shown (committed_in f) (e ∷ es) ≡ Some row)
            ⊎ ((writer e ≡ t) × ((e.version.deleted ≡ false) × (e.row ≡ row)))
        at (inr ne) = inl (sym (shown_alike (committed_in f) (committed_in g) (e ∷ es)
            (ap is_committed (other (writer e) ne), backs_same es backs)) ∙ is)
        at (inl its) = by e.version.deleted refl
          where
            counts : committed_in g (writer e) ≡ true
            counts = ap (committed_in g) its ∙ ap is_committed here

            by : (d : Bool) → e.version.deleted ≡ d
                → (shown (committed_in f) (e ∷ es) ≡ Some row)
                ⊎ ((writer e ≡ t) × ((e.version.deleted ≡ false) × (e.row ≡ row)))
            by true deleted =
                let none : shown (committed_in g) (e ∷ es) ≡ None = rw (counts, deleted) refl in
                let both = sym none ∙ is in absurd cc
            by false alive =
                let some_ : shown (committed_in g) (e ∷ es) ≡ Some e.row = rw (counts, alive) refl in
                let both : Some e.row ≡ Some row = sym some_ ∙ is in
                let same : e.row ≡ row = cc in inr (its, (alive, same))

    takes_commit : (coding : Coding) (table : Table) (es : List Entry) → IsRecord coding f table es
        → TakesKey g es → TakesKey f es
    takes_commit coding table [] is (inl (row, shows)) = absurd cc
    takes_commit coding table [] is (inr limbo_) = inr limbo_
    takes_commit coding table (e ∷ es) is (inl (row, shows)) =
        at (shown_by_commit e es row is.backs shows)
      where
        at : (shown (committed_in f) (e ∷ es) ≡ Some row)
            ⊎ ((writer e ≡ t) × ((e.version.deleted ≡ false) × (e.row ≡ row))) → TakesKey f (e ∷ es)
        at (inl was) = inl (row, was)
        at (inr its) = inr (ap state its.0 ∙ limbo)
    takes_commit coding table (e ∷ es) is (inr limbo_) = at (cases_eq (writer e) t)
      where
        at : (writer e ≡ t) ⊎ (writer e ≢ t) → TakesKey f (e ∷ es)
        at (inl its) = inr (ap state its ∙ limbo)
        at (inr ne) = inr (sym (other (writer e) ne) ∙ limbo_)

    records_committed : (coding : Coding) (h : Cells) (r : Reading) → AreRecords coding f h r
        → AreRecords coding g h r
    records_committed coding h r are = records_commit coding f g h r t commits
        (λ p q table of_p of_q takes_p takes_q same. are.keys p q table of_p of_q
        (takes_commit coding table (r p) (are.each p table of_p) takes_p)
        (takes_commit coding table (r q) (are.each q table of_q) takes_q) same) are

    indexed_commit : (coding : Coding) (h : Cells) (r : Reading) → AreRecords coding f h r
        → IsIndexed f pages r → IsIndexed g pages r
    indexed_commit coding h r are indexed = record { committed = committed; limbo = limbo_ }
      where
        committed : (p : RecId) (table : Table) (row : Row) → Shows g (committed_in g) r p table row
            → IsFoundIn pages table.indexes p row
        committed p table row shows = by (r p) refl
          where
            by : (es : List Entry) → r p ≡ es → IsFoundIn pages table.indexes p row
            by [] none =
                let empty = ap (shown (committed_in g)) (sym none) ∙ shows.row_shown in absurd cc
            by (e ∷ es) is = at (shown_by_commit e es row
                (subst (EachBack (λ d. state (writer d) ≡ Committed)) is
                (are.each p table shows.of_table).backs)
                (ap (shown (committed_in g)) (sym is) ∙ shows.row_shown))
              where
                at : (shown (committed_in f) (e ∷ es) ≡ Some row)
                    ⊎ ((writer e ≡ t) × ((e.version.deleted ≡ false) × (e.row ≡ row)))
                    → IsFoundIn pages table.indexes p row
                at (inl was) = indexed.committed p table row (record {
                  of_table = shows.of_table;
                  row_shown = ap (shown (committed_in f)) is ∙ was;
                })
                at (inr its) = subst (IsFoundIn pages table.indexes p) its.1.1
                    (indexed.limbo p table e (record {
                      of_table = shows.of_table;
                      older = es;
                      newest = is;
                      limbo = ap state its.0 ∙ limbo;
                    }) its.1.0)

        limbo_ : (p : RecId) (table : Table) (e : Entry) → HasLimbo g r p table e
            → e.version.deleted ≡ false → IsFoundIn pages table.indexes p e.row
        limbo_ p table e has alive = indexed.limbo p table e (record {
          of_table = has.of_table;
          older = has.older;
          newest = has.newest;
          limbo = sym (other (writer e) (not_here has.limbo)) ∙ has.limbo;
        }) alive
          where
            not_here : committing t state (writer e) ≡ Limbo → writer e ≢ t
            not_here is same =
                let both : Committed ≡ Limbo = sym here ∙ (ap (committing t state) (sym same) ∙ is) in
                absurd cc

    -- a table is named still, or it is now
    own_tables_commit : (coding : Coding) (size : ℕ) (h : Cells) (r : Reading) (catalog : Table)
        (tables : List Table) → HasNames size f r catalog tables → AreRecords coding f h r
        → HasOwnTables f r catalog → HasOwnTables g r catalog
    own_tables_commit coding size h r catalog tables names are owns = own_tables_stay f g r r catalog
        (record { named = named; made = made; dead = dead }) owns
      where
        dead : (u : ℕ) → state u ≡ Dead → committing t state u ≡ Dead
        dead u is = other u (λ same. let both : Limbo ≡ Dead = sym limbo ∙ (ap state (sym same) ∙ is) in
            absurd cc) ∙ is

        named : (name : List ℕ) → IsNamed f r catalog name → IsNamed g r catalog name
        named name is = by (r is.place) refl
          where
            by : (es : List Entry) → r is.place ≡ es → IsNamed g r catalog name
            by [] none =
                let empty = ap (shown (committed_in f)) (sym none) ∙ is.shows.row_shown in absurd cc
            by (e ∷ es) first = by_writer (cases_eq (writer e) t)
              where
                was : shown (committed_in f) (e ∷ es) ≡ Some is.row
                was = ap (shown (committed_in f)) (sym first) ∙ is.shows.row_shown

                lawful : IsRecord coding f catalog (r is.place)
                lawful = are.each is.place catalog is.shows.of_table

                by_writer : (writer e ≡ t) ⊎ (writer e ≢ t) → IsNamed g r catalog name
                by_writer (inr ne) = record {
                  place = is.place;
                  row = is.row;
                  shows = record {
                    of_table = is.shows.of_table;
                    row_shown = ap (shown (committed_in g)) first ∙ (shown_alike (committed_in f)
                        (committed_in g) (e ∷ es) (
                          ap is_committed (other (writer e) ne),
                          backs_same es (subst (EachBack (λ d. state (writer d) ≡ Committed)) first
                              lawful.backs),
                        ) ∙ was);
                  };
                  keyed = is.keyed;
                }
                by_writer (inl its) = by_deleted e.version.deleted refl
                  where
                    by_deleted : (d : Bool) → e.version.deleted ≡ d → IsNamed g r catalog name
                    by_deleted true erased = absurd (no_table_erased coding size f h r catalog tables names
                        are is.place e es is.row name is.shows.of_table first (ap state its ∙ limbo) erased
                        is.shows.row_shown is.keyed)
                    by_deleted false alive = record {
                      place = is.place;
                      row = e.row;
                      shows = record {
                        of_table = is.shows.of_table;
                        row_shown = ap (shown (committed_in g)) first ∙ gives;
                      };
                      keyed = sym (ap (record_key catalog) first)
                          ∙ (sym (shown_keyed coding f catalog (record_key catalog (r is.place))
                          (committed_in f) (r is.place) is.row lawful.each is.shows.row_shown) ∙ is.keyed);
                    }
                      where
                        counts : committed_in g (writer e) ≡ true
                        counts = ap (committed_in g) its ∙ ap is_committed here

                        gives : shown (committed_in g) (e ∷ es) ≡ Some e.row
                        gives = rw (counts, alive) refl

        made : (u : ℕ) (name : List ℕ) → HasMade f r catalog u name
            → IsNamed g r catalog name ⊎ HasMade g r catalog u name
        made u name is = by (cases_eq u t)
          where
            by : (u ≡ t) ⊎ (u ≢ t) → IsNamed g r catalog name ⊎ HasMade g r catalog u name
            by (inl same) = inl (record {
              place = is.place;
              row = is.version.row;
              shows = record {
                of_table = is.limbo.of_table;
                row_shown = ap (shown (committed_in g)) is.limbo.newest ∙ gives;
              };
              keyed = is.keyed;
            })
              where
                counts : committed_in g (writer is.version) ≡ true
                counts = ap (committed_in g) (is.its_own ∙ same) ∙ ap is_committed here

                gives : shown (committed_in g) (is.version ∷ is.limbo.older) ≡ Some is.version.row
                gives = rw (counts, is.alive) refl
            by (inr ne) = inr (record {
              place = is.place;
              version = is.version;
              limbo = record {
                of_table = is.limbo.of_table;
                older = is.limbo.older;
                newest = is.limbo.newest;
                limbo = other (writer is.version) (λ same. ne (sym is.its_own ∙ same)) ∙ is.limbo.limbo;
              };
              its_own = is.its_own;
              alive = is.alive;
              keyed = is.keyed;
            })

  -- the image is sound
  pub commit_sound : (form : Form) (size : ℕ) (pages : Pages) (layout : Layout) (r : Reading)
      → IsSoundBy form size state pages layout r
      → IsSoundBy form size (committing t state) pages layout r
  commit_sound form size pages layout r sound = record {
    header = sound.header;
    transactions = sound.transactions;
    inventory = sound.inventory;
    catalog = sound.catalog;
    tables = sound.tables;
    sequences = sound.sequences;
    names = names_commit pages layout size r layout.catalog.table
        (map (λ stand. stand.table) layout.tables) sound.names;
    once = sound.once;
    records = records_committed pages layout form.coding (cells_of pages) r sound.records;
    limbo = λ u old is. sound.limbo u old (was u is (cases_eq u t));
    own_tables = own_tables_commit pages layout form.coding size (cells_of pages) r layout.catalog.table
        (map (λ stand. stand.table) layout.tables) sound.names sound.records sound.own_tables;
    indexed = indexed_commit pages layout form.coding (cells_of pages) r sound.records sound.indexed;
  }
    where
      was : (u : ℕ) → committing t state u ≡ Limbo → (u ≡ t) ⊎ (u ≢ t) → state u ≡ Limbo
      was u is (inl e) = ap state e ∙ limbo
      was u is (inr ne) = sym (other u ne) ∙ is
