-- A sound image has its own tables, in the terms of the database that it holds.
use Rattle.std.proofs.Common.{◌≡◌, ◌≢◌, ◌⊎◌, inl, inr, refl, sym, ap, ◌∙◌, subst, ◌==◌, ◌&&◌, ◌||◌, ℕ, Bool, true, false, List, [], ◌∷◌, Option, None, Some}
use Rattle.std.specs.Prelude.{if◌then◌else◌, IsSome}
use Rattle.std.proofs.lemmas.Bool.{eq-eqb}
use Rattle.mg_base.specs.declared.numbers.RecId.{RecId}
use Rattle.mg_base.specs.declared.transaction.TxState.{TxState}
use Rattle.mg_base.specs.declared.transaction.TxState.TheVariants.{Active, Limbo, Dead, Committed}
use Rattle.mg_value.specs.declared.value.Value.{Value}
use Rattle.mg_model.specs.Answers.{is_committed}
use Rattle.mg_model.specs.Catalog.{catalog_name, table_key}
use Rattle.mg_model.specs.CatalogRules.{EachTable, HasTableOf, IsTable}
use Rattle.mg_model.specs.Legal.{is_limbo}
use Rattle.mg_model.specs.declared.table.Table.{Table}
use Rattle.mg_image.specs.declared.entry.Entry.{Entry}
use Rattle.mg_image.specs.Catalog.{CatalogNames, HasMade, HasNames, HasOwnTables, IsNamed, MayStandIn, StaysAmong, committed_with}
use Rattle.mg_image.specs.FactLaws.{shown_keyed}
use Rattle.mg_image.specs.Form.{Coding, Row}
use Rattle.mg_image.specs.Held.{AreChanges, Changes, Database, HasLimbo, HasTable, IsChangedAt, IsHeld, IsHeldAt, Shows, told_change, told_row}
use Rattle.mg_image.specs.OwnTables.{AreNamedOnce, HasOwnChanges, IsPut}
use Rattle.mg_image.specs.RecordRules.{AreRecords, Each, EachBack, Facts, IsInLimbo, IsRecord, TakesKey, committed_in, table_in}
use Rattle.mg_image.specs.Records.{Cells, Change, Erases, Puts, Reading, change_in, key_of, record_key, shown, writer}

-- what is in limbo is neither committed nor dead
not_committed : (s : TxState) → s ≡ Limbo → is_committed s ≡ false
not_committed s is = rw is refl

-- the state of one that is not committed, as a test
uncounted : (s : TxState) → (s ≡ Dead) ⊎ (s ≡ Limbo) → is_committed s ≡ false
uncounted s (inl dead) = rw dead refl
uncounted s (inr limbo) = rw limbo refl

module _ (coding : Coding) (size : ℕ) (f : Facts) (h : Cells) (r : Reading) (catalog : Table)
    (tables : List Table) (db : Database) (changes : Changes) (are : AreRecords coding f h r)
    (names : HasNames size f r catalog tables) (owns : HasOwnTables f r catalog)
    (once : AreNamedOnce f catalog) (held : IsHeld f (committed_in f) r db)
    (made : AreChanges f r changes) (itself : catalog.name ≡ catalog_name) where
  -- a table that a committed row names is one of the database
  has_named : (name : List ℕ) → IsNamed f r catalog name → HasTable db name
  has_named name named = inr (subst IsSome (sym there) refl)
    where
      there : db catalog_name (table_key name) ≡ Some (told_row catalog named.row)
      there = ap (λ (n : List ℕ). db n (table_key name)) (sym itself)
          ∙ (ap (db catalog.name) (sym named.keyed)
          ∙ held.there named.place catalog named.row named.shows (inl itself))

  -- a table that a transaction in limbo has made is put by its changes
  put_made : (t : ℕ) (name : List ℕ) → HasMade f r catalog t name
      → IsPut (changes t catalog_name (table_key name))
  put_made t name made_ = subst IsPut (sym there) tt
    where
      puts : change_in made_.version ≡ Puts made_.version.row
      puts = rw made_.alive refl

      there : changes t catalog_name (table_key name) ≡ Some (told_change catalog (Puts made_.version.row))
      there = ap (λ (u : ℕ). changes u catalog_name (table_key name)) (sym made_.its_own)
          ∙ (ap (λ (n : List ℕ). changes (writer made_.version) n (table_key name)) (sym itself)
          ∙ (ap (changes (writer made_.version) catalog.name) (sym made_.keyed)
          ∙ (made.there made_.place catalog made_.version made_.limbo
          ∙ ap (λ (c : Change). Some (told_change catalog c)) puts)))

  -- each version of a table that the database has not is of a dead transaction, or of one in limbo
  unshown : (table : Table) (es : List Entry) → Each (MayStandIn f r catalog table) es
      → HasTable db table.name ⊎ (shown (committed_in f) es ≡ None)
  unshown table [] each = inr refl
  unshown table (e ∷ es) each = at each.0 (unshown table es each.1)
    where
      behind : (f.state (writer e) ≡ Dead) ⊎ (f.state (writer e) ≡ Limbo)
          → HasTable db table.name ⊎ (shown (committed_in f) es ≡ None)
          → HasTable db table.name ⊎ (shown (committed_in f) (e ∷ es) ≡ None)
      behind is (inl has) = inl has
      behind is (inr none) =
          inr (rw (uncounted (f.state (writer e)) is) none)

      at : MayStandIn f r catalog table e
          → HasTable db table.name ⊎ (shown (committed_in f) es ≡ None)
          → HasTable db table.name ⊎ (shown (committed_in f) (e ∷ es) ≡ None)
      at (inl is) rest = inl (inl is)
      at (inr (inl named)) rest = inl (has_named table.name named)
      at (inr (inr (inl dead))) rest = behind (inl dead) rest
      at (inr (inr (inr made_))) rest = behind (inr
          (subst (λ (u : ℕ). f.state u ≡ Limbo) made_.its_own made_.limbo.limbo)) rest

  made_by : (p : RecId) (table : Table) (e : Entry) → HasLimbo f r p table e
      → HasTable db table.name ⊎ IsPut (changes (writer e) catalog_name (table_key table.name))
  made_by p table e has = at first
    where
      first : MayStandIn f r catalog table e
      first = (subst (Each (MayStandIn f r catalog table)) has.newest
          (owns p table has.of_table)).0

      at : MayStandIn f r catalog table e
          → HasTable db table.name ⊎ IsPut (changes (writer e) catalog_name (table_key table.name))
      at (inl is) = inl (inl is)
      at (inr (inl named)) = inl (has_named table.name named)
      at (inr (inr (inl dead))) = let limbo = has.limbo in absurd cc
      at (inr (inr (inr made_))) = inr (put_made (writer e) table.name made_)

  -- ---- no table is taken away

  -- whether a transaction is one
  abbrev only : ℕ → ℕ → Bool
  only t u = u == t

  -- nobody is chosen
  abbrev nobody : ℕ → Bool
  nobody u = false

  same_table : (ts : List Table) (name : List ℕ) → HasTableOf ts name → (us : List Table)
      → EachTable (StaysAmong us) ts → HasTableOf us name
  same_table [] name has us each = absurd has
  same_table (t ∷ ts) name (inl is) us each = among us each.0
    where
      among : (us : List Table) → StaysAmong us t → HasTableOf us name
      among [] none = absurd none
      among (u ∷ us) (inl same) = inl (same.name ∙ is)
      among (u ∷ us) (inr later) = inr (among us later)
  same_table (t ∷ ts) name (inr later) us each = same_table ts name later us each.1

  row_there : (ts : List Table) (name : List ℕ) → HasTableOf ts name
      → (rows : Value → Option Row) → EachTable (IsTable rows) ts
      → (row : Row) × (rows (table_key name) ≡ Some row)
  row_there [] name has rows each = absurd has
  row_there (t ∷ ts) name (inl is) rows each =
      (each.0.row, ap (λ (n : List ℕ). rows (table_key n)) (sym is) ∙ each.0.there)
  row_there (t ∷ ts) name (inr later) rows each = row_there ts name later rows each.1

  -- who is committed counts, whoever is chosen
  counts_still : (chosen : ℕ → Bool) (s : TxState) (b : Bool) → is_committed s ≡ true
      → (is_committed s || (is_limbo s && b)) ≡ true
  counts_still chosen s b is = rw is refl

  -- with nobody chosen, the committed ones count
  nobody_counts : (s : TxState) → (is_committed s || (is_limbo s && false)) ≡ is_committed s
  nobody_counts Active = refl
  nobody_counts Limbo = refl
  nobody_counts Dead = refl
  nobody_counts Committed = refl

  nobody_shown : (es : List Entry)
      → shown (committed_with f nobody) es ≡ shown (committed_in f) es
  nobody_shown [] = refl
  nobody_shown (e ∷ es) = rw (nobody_counts (f.state (writer e)), nobody_shown es) refl

  -- the versions that show a row under a choice take their key
  takes : (chosen : ℕ → Bool) (es : List Entry) (row : Row)
      → EachBack (λ e. f.state (writer e) ≡ Committed) es
      → shown (committed_with f chosen) es ≡ Some row → TakesKey f es
  takes chosen [] row backs shows = absurd cc
  takes chosen (e ∷ es) row backs shows = at (f.state (writer e)) refl
    where
      backs_shown : (es : List Entry) → Each (λ e. f.state (writer e) ≡ Committed) es
          → shown (committed_with f chosen) es ≡ shown (committed_in f) es
      backs_shown [] each = refl
      backs_shown (d ∷ ds) each = rw (each.0) refl

      plain : (s : TxState) → f.state (writer e) ≡ s
          → (is_committed s || (is_limbo s && chosen (writer e))) ≡ is_committed s
          → TakesKey f (e ∷ es)
      plain s is same = inl (
        row,
        sym (whole s is same) ∙ shows,
      )
        where
          whole : (s : TxState) → f.state (writer e) ≡ s
              → (is_committed s || (is_limbo s && chosen (writer e))) ≡ is_committed s
              → shown (committed_with f chosen) (e ∷ es) ≡ shown (committed_in f) (e ∷ es)
          whole s is same = rw (is, same, backs_shown es backs) refl

      at : (s : TxState) → f.state (writer e) ≡ s → TakesKey f (e ∷ es)
      at Active is = plain Active is refl
      at Limbo is = inr is
      at Dead is = plain Dead is refl
      at Committed is = plain Committed is refl

  kept : (t : ℕ) (name : List ℕ) → IsSome (db catalog_name (table_key name))
      → changes t catalog_name (table_key name) ≢ Some Erases
  kept t name some erases = at (db catalog_name (table_key name)) refl some
    where
      gone : IsChangedAt f r t catalog_name (table_key name) Erases → (row : Row)
          → IsHeldAt f (committed_in f) r catalog_name (table_key name) row → ⊥
      gone it row on = no_row (names.lawful (only t))
        where
          of_catalog : it.table ≡ catalog
          of_catalog = once.itself it.place it.table it.limbo.of_table it.named

          on_catalog : on.table ≡ catalog
          on_catalog = once.itself on.place on.table on.shows.of_table on.named

          place_in : table_in f it.place ≡ Some catalog
          place_in = it.limbo.of_table ∙ ap Some of_catalog

          shows : Shows f (committed_in f) r on.place catalog on.stored
          shows = record {
            of_table = on.shows.of_table ∙ ap Some on_catalog;
            row_shown = on.shows.row_shown;
          }

          deleted : (d : Bool) → it.version.version.deleted ≡ d → d ≡ true
          deleted true is = refl
          deleted false is =
              let puts : change_in it.version ≡ Puts it.version.row = rw is refl in
              let both : Puts _ ≡ Erases =
              sym (ap (told_change it.table) puts) ∙ it.told in absurd cc

          it_key : record_key catalog (r it.place) ≡ table_key name
          it_key = ap (record_key catalog) it.limbo.newest
              ∙ (ap (λ (u : Table). key_of u it.version.row) (sym of_catalog) ∙ it.keyed)

          -- the record with the deletion is the only one that takes the key
          one : (q : RecId) → table_in f q ≡ Some catalog → TakesKey f (r q)
              → record_key catalog (r q) ≡ table_key name → it.place ≡ q
          one q of takes_ key = are.keys it.place q catalog place_in of
              (inr (subst (IsInLimbo f) (sym it.limbo.newest) it.limbo.limbo)) takes_
              (it_key ∙ sym key)

          none_shown : shown (committed_with f (only t)) (r it.place) ≡ None
          none_shown = ap (shown (committed_with f (only t))) it.limbo.newest
              ∙ rw (
                it.limbo.limbo,
                eq-eqb (writer it.version) t it.its_own,
                deleted it.version.version.deleted refl,
              ) refl

          named : HasTableOf (names.named nobody) name
          named = (names.lawful nobody).are_tables.whole name on.stored
              (ap (names.lawful nobody).rows (sym (ap (λ (u : Table). key_of u on.stored)
              (sym on_catalog) ∙ on.keyed))
              ∙ (names.lawful nobody).are_rows.there on.place on.stored (record {
                of_table = shows.of_table;
                row_shown = nobody_shown (r on.place) ∙ shows.row_shown;
              }))

          no_row : CatalogNames size f (committed_with f (only t)) r catalog (names.named (only t)) → ⊥
          no_row is = from (row_there (names.named (only t)) name
              (same_table (names.named nobody) name named (names.named (only t))
              (names.stay nobody (only t) (λ u no. absurd cc))) is.rows is.are_tables.each)
            where
              from : (row : Row) × (is.rows (table_key name) ≡ Some row) → ⊥
              from (row, there) =
                  let (q, showing, keyed) = is.are_rows.whole (table_key name) row there in
                  let lawful = are.each q catalog showing.of_table in
                  let key : record_key catalog (r q) ≡ table_key name =
                  sym (shown_keyed coding f catalog (record_key catalog (r q))
                  (committed_with f (only t)) (r q) row lawful.each showing.row_shown) ∙ keyed in
                  let same : it.place ≡ q = one q showing.of_table
                  (takes (only t) (r q) row lawful.backs showing.row_shown) key in
                  let both : None ≡ Some row = sym none_shown
                  ∙ (ap (λ (p : RecId). shown (committed_with f (only t)) (r p)) same
                  ∙ showing.row_shown) in cc

      at : (row : Option Row) → db catalog_name (table_key name) ≡ row → IsSome row → ⊥
      at None none is = absurd cc
      at (Some row) there is = gone (made.whole t catalog_name (table_key name) Erases erases) row
          (held.whole catalog_name (table_key name) row there)

  pub own_changes : HasOwnChanges f r db changes
  own_changes = record {
    own = λ p table of. unshown table (r p) (owns p table of);
    made = made_by;
    kept = kept;
  }
