-- Whose versions a table has: how the rule goes on, and what it says of a database and of changes.
use Rattle.mg_image.specs.OwnTablesLaws.{own_changes}
use Rattle.mg_image.specs.OwnTables.{HasOwnChanges, IsPut}
use Rattle.mg_base.specs.declared.numbers.RecId.{RecId}
use Rattle.mg_base.specs.declared.transaction.TxState.{TxState}
use Rattle.mg_base.specs.declared.transaction.TxState.TheVariants.{Active, Committed, Dead, Limbo}
use Rattle.mg_catalog.specs.LawfulLaws.{table_row_of}
use Rattle.mg_catalog.specs.NameLaws.{all_after, ascend_split, not_before_self}
use Rattle.mg_catalog.specs.Names.{HasName}
use Rattle.mg_image.specs.Catalog.{HasMade, HasNames, HasOwnTables, IsNamed, MayStandIn, StaysAmong, committed_with}
use Rattle.mg_image.specs.FactLaws.{shown_alike, shown_keyed}
use Rattle.mg_image.specs.Form.{Coding, Form, Pages, Row}
use Rattle.mg_image.specs.Held.{AreChanges, Changes, Database, HasLimbo, HasTable, IsChangedAt, IsHeld, IsHeldAt, Shows, told_change}
use Rattle.mg_image.specs.RecordRules.{AreRecords, Each, EachBack, Facts, IsInLimbo, TakesKey, committed_in, table_in}
use Rattle.mg_image.specs.Records.{Cells, Change, Erases, Puts, Reading, cells_of, key_of, record_key, shown, writer}
use Rattle.mg_image.specs.Sound.{IsSoundBy, facts_by}
use Rattle.mg_image.specs.Tables.{Layout, Stand, has, stands_of, table_at}
use Rattle.mg_image.specs.declared.entry.Entry.{Entry}
use Rattle.mg_image_overlay_laws.specs.records.Fronts.{is_dead, living}
use Rattle.mg_model.specs.Answers.{is_committed}
use Rattle.mg_model.specs.Catalog.{catalog_name, table_key}
use Rattle.mg_model.specs.CatalogRules.{Ascend, EachTable, HasTableOf, IsBefore, IsTable, IsTableRow, table_names}
use Rattle.mg_model.specs.Legal.{is_limbo}
use Rattle.mg_model.specs.declared.table.Table.{Table}
use Rattle.std.proofs.Common.{Bool, List, None, Option, Some, [], ap, eq-eqb, false, inl, inr, refl, subst, sym, true, ℕ, ◌&&◌, ◌==◌, ◌||◌, ◌∙◌, ◌∷◌, ◌≡◌, ◌≢◌, ◌⊎◌}
use Rattle.std.proofs.Math.Path.{fun_ext}
use Rattle.std.specs.Prelude.{IsSome, if◌then◌else◌, map}

-- ---- how it goes on

-- What the catalog names it names still, and who has made a table has made it still, or the catalog
-- names it now.
pub record NamesStay (f g : Facts) (r s : Reading) (catalog : Table) : Type 0 where
  pub named : (name : List ℕ) → IsNamed f r catalog name → IsNamed g s catalog name
  pub made : (t : ℕ) (name : List ℕ) → HasMade f r catalog t name
      → IsNamed g s catalog name ⊎ HasMade g s catalog t name
  pub dead : (t : ℕ) → f.state t ≡ Dead → g.state t ≡ Dead

-- a version may stand in its table still
pub may_stand_still : (f g : Facts) (r s : Reading) (catalog : Table) → NamesStay f g r s catalog
    → (table : Table) (e : Entry) → MayStandIn f r catalog table e → MayStandIn g s catalog table e
may_stand_still f g r s catalog stay table e (inl is) = inl is
may_stand_still f g r s catalog stay table e (inr (inl is)) = inr (inl (stay.named table.name is))
may_stand_still f g r s catalog stay table e (inr (inr (inl is))) =
    inr (inr (inl (stay.dead (writer e) is)))
may_stand_still f g r s catalog stay table e (inr (inr (inr is))) =
    at (stay.made (writer e) table.name is)
  where
    at : IsNamed g s catalog table.name ⊎ HasMade g s catalog (writer e) table.name
        → MayStandIn g s catalog table e
    at (inl named) = inr (inl named)
    at (inr made) = inr (inr (inr made))

-- Of the catalog the same rows are shown, and the same versions are of transactions in limbo.
pub record CatalogStays (f g : Facts) (r s : Reading) (catalog : Table) : Type 0 where
  pub shows : (p : RecId) (row : Row) → Shows f (committed_in f) r p catalog row
      → Shows g (committed_in g) s p catalog row
  pub limbo : (p : RecId) (e : Entry) → HasLimbo f r p catalog e → HasLimbo g s p catalog e
  pub dead : (t : ℕ) → f.state t ≡ Dead → g.state t ≡ Dead

pub names_stay : (f g : Facts) (r s : Reading) (catalog : Table) → CatalogStays f g r s catalog
    → NamesStay f g r s catalog
names_stay f g r s catalog stays = record {
  named = λ name is. record {
    place = is.place;
    row = is.row;
    shows = stays.shows is.place is.row is.shows;
    keyed = is.keyed;
  };
  made = λ t name is. inr (record {
    place = is.place;
    version = is.version;
    limbo = stays.limbo is.place is.version is.limbo;
    its_own = is.its_own;
    alive = is.alive;
    keyed = is.keyed;
  });
  dead = stays.dead;
}

each_still : (P Q : Entry → Type 0) → ((e : Entry) → P e → Q e) → (es : List Entry) → Each P es
    → Each Q es
each_still P Q gives [] each = tt
each_still P Q gives (e ∷ es) each = (gives e each.0, each_still P Q gives es each.1)

-- a property of those versions that count, which each of a dead transaction has
pub each_living : (state : ℕ → TxState) (P : Entry → Type 0) (es : List Entry) → Each P es
    → Each P (living state es)
each_living state P [] each = tt
each_living state P (e ∷ es) each = by (is_dead (state (writer e)))
  where
    by : (b : Bool) → Each P (if b then es else e ∷ es)
    by true = each.1
    by false = each

pub each_of_living : (state : ℕ → TxState) (P : Entry → Type 0)
    → ((e : Entry) → state (writer e) ≡ Dead → P e) → (es : List Entry) → Each P (living state es)
    → Each P es
each_of_living state P dead [] each = tt
each_of_living state P dead (e ∷ es) each = by (state (writer e)) refl
  where
    part : (b : Bool) → is_dead (state (writer e)) ≡ b → Each P (if b then es else e ∷ es)
    part b is = subst (λ (c : Bool). Each P (if c then es else e ∷ es)) is each

    by : (s : TxState) → state (writer e) ≡ s → Each P (e ∷ es)
    by Active is = part false (ap is_dead is)
    by Limbo is = part false (ap is_dead is)
    by Committed is = part false (ap is_dead is)
    by Dead is = (dead e is, part true (ap is_dead is))

-- so the rule holds of those versions that might stand there before
pub own_tables_stay : (f g : Facts) (r s : Reading) (catalog : Table)
    → NamesStay f g r s catalog
    → ((p : RecId) (table : Table) → table_in g p ≡ Some table
    → Each (MayStandIn f r catalog table) (s p))
    → HasOwnTables g s catalog
own_tables_stay f g r s catalog stay each p table of =
    each_still (MayStandIn f r catalog table) (MayStandIn g s catalog table)
    (may_stand_still f g r s catalog stay table) (s p) (each p table of)

-- ---- no transaction in limbo takes a table away

-- a table of that name is one of these, and has a property that each has
pub table_named : (P : Table → Type 0) (tables : List Table) (name : List ℕ) → HasTableOf tables name
    → EachTable P tables → (t : Table) × ((t.name ≡ name) × P t)
table_named P [] name has_ each = absurd has_
table_named P (t ∷ ts) name (inl is) each = (t, (is, each.0))
table_named P (t ∷ ts) name (inr more) each = table_named P ts name more each.1

pub among_named : (tables : List Table) (table : Table) → StaysAmong tables table
    → HasTableOf tables table.name
among_named [] table stays = absurd stays
among_named (t ∷ ts) table (inl same) = inl same.name
among_named (t ∷ ts) table (inr more) = inr (among_named ts table more)

module _ (coding : Coding) (size : ℕ) (f : Facts) (h : Cells) (r : Reading) (catalog : Table)
    (tables : List Table) (names : HasNames size f r catalog tables) (are : AreRecords coding f h r)
  where
    -- a limbo deletion of a row of the catalog that counts is not that of a table's row
    pub no_table_erased : (p : RecId) (e : Entry) (older : List Entry) (row : Row) (name : List ℕ)
        → table_in f p ≡ Some catalog → r p ≡ e ∷ older → f.state (writer e) ≡ Limbo
        → e.version.deleted ≡ true → shown (committed_in f) (r p) ≡ Some row
        → key_of catalog row ≡ table_key name → ⊥
    no_table_erased p e older row name of first limbo deleted shows keyed =
        at (table_named (StaysAmong (names.named by_it)) (names.named nobody) name there
        (names.stay nobody by_it (λ t none. absurd (no none))))
      where
        no : false ≡ true → ⊥
        no is = cc

        nobody : ℕ → Bool
        nobody t = false

        by_it : ℕ → Bool
        by_it t = t == writer e

        same_counts : committed_with f nobody ≡ committed_in f
        same_counts = fun_ext (λ t. by (f.state t))
          where
            by : (s : TxState) → (is_committed s || (is_limbo s && false)) ≡ is_committed s
            by Active = refl
            by Limbo = refl
            by Dead = refl
            by Committed = refl

        row_now : (names.lawful nobody).rows (table_key name) ≡ Some row
        row_now = ap (names.lawful nobody).rows (sym keyed) ∙ (names.lawful nobody).are_rows.there p row
            (record {
              of_table = of;
              row_shown = ap (λ (c : ℕ → Bool). shown c (r p)) same_counts ∙ shows;
            })

        there : HasTableOf (names.named nobody) name
        there = (names.lawful nobody).are_tables.whole name row row_now

        key_of_p : record_key catalog (r p) ≡ table_key name
        key_of_p = sym (shown_keyed coding f catalog (record_key catalog (r p)) (committed_in f) (r p) row
            (are.each p catalog of).each shows) ∙ keyed

        in_limbo : IsInLimbo f (r p)
        in_limbo = subst (IsInLimbo f) (sym first) limbo

        counts_alike : (t : ℕ) → f.state t ≢ Limbo → committed_with f by_it t ≡ committed_in f t
        counts_alike t not_ = by (f.state t) not_
          where
            by : (s : TxState) → s ≢ Limbo
                → (is_committed s || (is_limbo s && by_it t)) ≡ is_committed s
            by Active none = refl
            by Limbo none = absurd (none refl)
            by Dead none = refl
            by Committed none = refl

        backs_alike : (es : List Entry) → Each (λ d. f.state (writer d) ≡ Committed) es
            → Each (λ d. committed_with f by_it (writer d) ≡ committed_in f (writer d)) es
        backs_alike [] backs = tt
        backs_alike (d ∷ ds) backs = (
          counts_alike (writer d) (λ is. let both : Committed ≡ Limbo = sym backs.0 ∙ is in absurd cc),
          backs_alike ds backs.1,
        )

        -- a record that shows a row with it takes its key
        takes : (es : List Entry) (now : Row) → EachBack (λ d. f.state (writer d) ≡ Committed) es
            → shown (committed_with f by_it) es ≡ Some now → TakesKey f es
        takes [] now backs is = absurd cc
        takes (d ∷ ds) now backs is = by (f.state (writer d)) refl
          where
            settled_ : f.state (writer d) ≢ Limbo → TakesKey f (d ∷ ds)
            settled_ not_ = inl (
              now,
              sym (shown_alike (committed_in f) (committed_with f by_it) (d ∷ ds)
                  (counts_alike (writer d) not_, backs_alike ds backs)) ∙ is,
            )

            by : (s : TxState) → f.state (writer d) ≡ s → TakesKey f (d ∷ ds)
            by Limbo state = inr state
            by Committed state = settled_ (λ other. let both = sym state ∙ other in absurd cc)
            by Active state = settled_ (λ other. let both = sym state ∙ other in absurd cc)
            by Dead state = settled_ (λ other. let both = sym state ∙ other in absurd cc)

        -- with it p shows nothing
        shows_none : shown (committed_with f by_it) (e ∷ older) ≡ None
        shows_none = rw (limbo, eq-eqb (writer e) (writer e) refl, deleted) refl

        none_shows : (q : RecId) (now : Row) → Shows f (committed_with f by_it) r q catalog now
            → key_of catalog now ≡ table_key name → ⊥
        none_shows q now shows_ keyed_ =
            let key_of_q : record_key catalog (r q) ≡ table_key name =
            sym (shown_keyed coding f catalog (record_key catalog (r q)) (committed_with f by_it) (r q) now
            (are.each q catalog shows_.of_table).each shows_.row_shown) ∙ keyed_ in
            let same : p ≡ q = are.keys p q catalog of shows_.of_table (inr in_limbo)
            (takes (r q) now (are.each q catalog shows_.of_table).backs shows_.row_shown)
            (key_of_p ∙ sym key_of_q) in
            let both : None ≡ Some now = sym shows_none ∙ (ap (shown (committed_with f by_it)) (sym first)
            ∙ (ap (λ (k : RecId). shown (committed_with f by_it) (r k)) same ∙ shows_.row_shown)) in
            absurd cc

        with_it : (t : Table) × ((t.name ≡ name) × IsTable (names.lawful by_it).rows t) → ⊥
        with_it (t, (is, it)) = found it.row (subst (λ (n : List ℕ). (names.lawful by_it).rows (table_key n)
            ≡ Some it.row) is it.there)
          where
            found : (now : Row) → (names.lawful by_it).rows (table_key name) ≡ Some now → ⊥
            found now there_ = shown_there ((names.lawful by_it).are_rows.whole (table_key name) now there_)
              where
                shown_there : (q : RecId) × Shows f (committed_with f by_it) r q catalog now
                    × (key_of catalog now ≡ table_key name) → ⊥
                shown_there (q, shows_, keyed_) = none_shows q now shows_ keyed_

        at : (t : Table) × ((t.name ≡ name) × StaysAmong (names.named by_it) t) → ⊥
        at (t, (is, stays)) = with_it (table_named (IsTable (names.lawful by_it).rows) (names.named by_it)
            name (subst (HasTableOf (names.named by_it)) is (among_named (names.named by_it) t stays))
            (names.lawful by_it).are_tables.each)

-- ---- tables of one name are one

-- a table is one of these
abbrev pub IsOneOf : List Table → Table → Type 0
IsOneOf [] table = ⊥
IsOneOf (t ∷ ts) table = (t ≡ table) ⊎ IsOneOf ts table

-- each of these is one of those that a list of stands has
pub has_stand : (stands : List Stand) (n : ℕ) (table : Table) → table_at stands n ≡ Some table
    → IsOneOf (map (λ s. s.table) stands) table
has_stand [] n table is = absurd cc
has_stand (s ∷ ss) n table is = at (has s.data_pages n) is (has_stand ss n table)
  where
    at : (c : Bool) → (if c then Some s.table else table_at ss n) ≡ Some table
        → (table_at ss n ≡ Some table → IsOneOf (map (λ s. s.table) ss) table)
        → (s.table ≡ table) ⊎ IsOneOf (map (λ s. s.table) ss) table
    at true here more = let same : s.table ≡ table = cc in inl same
    at false there more = inr (more there)

pub one_each : (P : Table → Type 0) (tables : List Table) (table : Table) → EachTable P tables
    → IsOneOf tables table → P table
one_each P [] table each is = absurd is
one_each P (t ∷ ts) table each (inl same) = subst P same each.0
one_each P (t ∷ ts) table each (inr more) = one_each P ts table each.1 more

one_name : (tables : List Table) (table : Table) → IsOneOf tables table
    → HasName (table_names tables) table.name
one_name [] table is = absurd is
one_name (t ∷ ts) table (inl same) = inl (ap (λ (x : Table). x.name) same)
one_name (t ∷ ts) table (inr more) = inr (one_name ts table more)

one_by_name : (tables : List Table) (a b : Table) → Ascend (table_names tables) → IsOneOf tables a
    → IsOneOf tables b → a.name ≡ b.name → a ≡ b
one_by_name [] a b ascend is also name = absurd is
one_by_name (t ∷ ts) a b ascend (inl same) (inl other) name = sym same ∙ other
one_by_name (t ∷ ts) a b ascend (inl same) (inr more) name =
    absurd (not_before_self t.name (subst (IsBefore t.name)
    (sym (ap (λ (x : Table). x.name) same ∙ name))
    (all_after t.name (table_names ts) b.name ascend (one_name ts b more))))
one_by_name (t ∷ ts) a b ascend (inr more) (inl same) name =
    absurd (not_before_self t.name (subst (IsBefore t.name)
    (sym (ap (λ (x : Table). x.name) same ∙ sym name))
    (all_after t.name (table_names ts) a.name ascend (one_name ts a more))))
one_by_name (t ∷ ts) a b ascend (inr more) (inr other) name =
    one_by_name ts a b (ascend_split t.name (table_names ts) ascend).1 more other name

module _ (form : Form) (size : ℕ) (state : ℕ → TxState) (pages : Pages) (layout : Layout)
    (r : Reading) (sound : IsSoundBy form size state pages layout r) where
  abbrev f : Facts
  f = facts_by state pages layout

  catalog_named : layout.catalog.table.name ≡ catalog_name
  catalog_named = ap (λ (x : Table). x.name) sound.catalog

  pub named_other : (table : Table) → IsOneOf (map (λ s. s.table) layout.tables) table
      → table.name ≢ catalog_name
  named_other table is same = lawful.other same
    where
      it : IsTable sound.names.all.rows table
      it = one_each (IsTable sound.names.all.rows) (map (λ s. s.table) layout.tables) table
          sound.names.all.are_tables.each is

      lawful : IsTableRow sound.names.all.rows table.name it.row
      lawful = table_row_of sound.names.all.rows table.name it.row
          (sound.names.all.are_tables.lawful (table_key table.name) it.row it.there)

  -- tables of one name are one
  pub one_of_name : (p q : RecId) (a b : Table) → table_in f p ≡ Some a → table_in f q ≡ Some b
      → a.name ≡ b.name → a ≡ b
  one_of_name p q a b of_a of_b name = at (has_stand (stands_of layout) p.page.0 a of_a)
      (has_stand (stands_of layout) q.page.0 b of_b)
    where
      at : (layout.catalog.table ≡ a) ⊎ IsOneOf (map (λ s. s.table) layout.tables) a
          → (layout.catalog.table ≡ b) ⊎ IsOneOf (map (λ s. s.table) layout.tables) b → a ≡ b
      at (inl is) (inl also) = sym is ∙ also
      at (inl is) (inr also) = absurd (named_other b also
          (sym name ∙ (ap (λ (x : Table). x.name) (sym is) ∙ catalog_named)))
      at (inr is) (inl also) = absurd (named_other a is
          (name ∙ (ap (λ (x : Table). x.name) (sym also) ∙ catalog_named)))
      at (inr is) (inr also) = one_by_name (map (λ s. s.table) layout.tables) a b
          sound.names.all.are_tables.ascending is also name

  -- a table with the name of the catalog is the catalog
  pub catalog_of : (p : RecId) (a : Table) → table_in f p ≡ Some a → a.name ≡ catalog_name
      → layout.catalog.table ≡ a
  catalog_of p a of name = at (has_stand (stands_of layout) p.page.0 a of)
    where
      at : (layout.catalog.table ≡ a) ⊎ IsOneOf (map (λ s. s.table) layout.tables) a
          → layout.catalog.table ≡ a
      at (inl is) = is
      at (inr is) = absurd (named_other a is name)

-- ---- in terms of a database and of changes

module _ (form : Form) (size : ℕ) (state : ℕ → TxState) (pages : Pages) (layout : Layout)
    (r : Reading) (sound : IsSoundBy form size state pages layout r) (db : Database)
    (changes : Changes)
    (held : IsHeld (facts_by state pages layout) (committed_in (facts_by state pages layout)) r db)
    (changed : AreChanges (facts_by state pages layout) r changes) where
  abbrev g : Facts
  g = facts_by state pages layout

  abbrev catalog : Table
  catalog = layout.catalog.table

  is_catalog : catalog.name ≡ catalog_name
  is_catalog = ap (λ (x : Table). x.name) sound.catalog

  -- the rule in terms of the database and of the changes
  pub owned : HasOwnChanges g r db changes
  owned = own_changes form.coding size g (cells_of pages) r layout.catalog.table
      (map (λ s. s.table) layout.tables) db changes sound.records sound.names sound.own_tables
      (record {
        tables = one_of_name form size state pages layout r sound;
        itself = λ p a of name. sym (catalog_of form size state pages layout r sound p a of name);
      }) held changed (ap (λ (x : Table). x.name) sound.catalog)

  -- a table that the database has, or that a transaction has put, may have its versions
  pub may_stand : (table : Table) (e : Entry) → HasTable db table.name
      ⊎ IsPut (changes (writer e) catalog_name (table_key table.name))
      → MayStandIn g r catalog table e
  may_stand table e (inl (inl is)) = inl is
  may_stand table e (inl (inr there)) = inr (inl (row_of (db catalog_name (table_key table.name)) refl))
    where
      named_by : (row : Row) → IsHeldAt g (committed_in g) r catalog_name (table_key table.name) row
          → IsNamed g r catalog table.name
      named_by row at =
          let same : catalog ≡ at.table = catalog_of form size state pages layout r sound at.place at.table
          at.shows.of_table at.named in
          record {
            place = at.place;
            row = at.stored;
            shows = record {
              of_table = at.shows.of_table ∙ ap Some (sym same);
              row_shown = at.shows.row_shown;
            };
            keyed = ap (λ (x : Table). key_of x at.stored) same ∙ at.keyed;
          }

      row_of : (row : Option Row) → db catalog_name (table_key table.name) ≡ row
          → IsNamed g r catalog table.name
      row_of None none = let no : IsSome {T = Row} None = subst IsSome none there in absurd cc
      row_of (Some row) some_ =
          named_by row (held.whole catalog_name (table_key table.name) row some_)
  may_stand table e (inr puts) =
      inr (inr (inr (made (changes (writer e) catalog_name (table_key table.name)) refl puts)))
    where
      made_at : (row : Row) → IsChangedAt g r (writer e) catalog_name (table_key table.name) (Puts row)
          → HasMade g r catalog (writer e) table.name
      made_at row it =
          let same : catalog ≡ it.table = catalog_of form size state pages layout r sound it.place it.table
          it.limbo.of_table it.named in
          record {
            place = it.place;
            version = it.version;
            limbo = record {
              of_table = it.limbo.of_table ∙ ap Some (sym same);
              older = it.limbo.older;
              newest = it.limbo.newest;
              limbo = it.limbo.limbo;
            };
            its_own = it.its_own;
            alive = alive it.version.version.deleted it.told;
            keyed = ap (λ (x : Table). key_of x it.version.row) same ∙ it.keyed;
          }
        where
          alive : (d : Bool)
              → told_change it.table (if d then Erases else Puts it.version.row) ≡ Puts row → d ≡ false
          alive true is = absurd cc
          alive false is = refl

      made : (c : Option Change) → changes (writer e) catalog_name (table_key table.name) ≡ c
          → IsPut (changes (writer e) catalog_name (table_key table.name))
          → HasMade g r catalog (writer e) table.name
      made None none is = absurd (subst IsPut none is)
      made (Some Erases) erases is = absurd (subst IsPut erases is)
      made (Some (Puts row)) some_ is =
          made_at row (changed.whole (writer e) catalog_name (table_key table.name) (Puts row) some_)
