-- What was read of the catalog says whose versions the tables have.
use Rattle.std.proofs.Common.{◌≡◌, inl, inr, refl, sym, ◌∙◌, subst, ℕ, Bool, true, false, List, [], ◌∷◌, None, Some, IsTrue, ◌↔◌}
use Rattle.mg_base.specs.declared.numbers.RecId.{RecId}
use Rattle.mg_model.specs.Catalog.{table_key}
use Rattle.mg_model.specs.declared.table.Table.{Table}
use Rattle.mg_image.specs.declared.entry.Entry.{Entry}
use Rattle.mg_image.specs.Catalog.{HasMade, HasOwnTables, IsNamed, MayStandIn, catalog_table}
use Rattle.mg_image.specs.FactLaws.{each_has}
use Rattle.mg_image.specs.Form.{Row}
use Rattle.mg_image.specs.RecordRules.{Each, Facts}
use Rattle.mg_image.specs.Records.{Reading, key_of, shown, writer}
use Rattle.mg_image.specs.StepLaws.{same_place}
use Rattle.mg_image.specs.Tables.{Layout, Stand, has, stands_of}
use Rattle.mg_catalog.specs.ByKey.{row_key}
use Rattle.mg_layout.specs.declared.standing.Standing.{Standing}
use Rattle.mg_layout.specs.declared.standing.TableStand.{TableStand}
use Rattle.mg_layout.specs.Standing.{layout_in, stand_in, stands_in}
use Rattle.mg_reading.specs.declared.found.Found.{Found}
use Rattle.mg_reading.specs.declared.image.Image.{Image}
use Rattle.mg_reading.specs.declared.rows.RowCoding.{RowCoding}
use Rattle.mg_reading.specs.Found.{AreOf, EachFound, committed_of, reading_of}
use Rattle.mg_reading.specs.StandLaws.{IsOneOf}
use Rattle.mg_soundness.specs.declared.records.TableRecords.{TableRecords}
use Rattle.mg_soundness.specs.Joined.{EachTable, IsTableRead, founds_in}
use Rattle.mg_soundness.specs.OwnRule.{AreOwned, IsOwn, IsOwned, MakesTable, ShowsTable, SomeFound}
use Rattle.mg_soundness.specs.Rungs.{HasReadingOf, MeetsDrawn, layout_facts}
use Rattle.mg_soundness.proofs.JoinLemmas.{map_tables, one_of_tables}
use Rattle.mg_soundness.proofs.RuleLemmas.{have_tables, tables_have}
use Rattle.mg_soundness.proofs.StepLemmas.{AreRead, reading_in, same_reading}

-- ---- a list of records, and the reading that it is

found_some : (P : List Entry → Type 0) (r : Reading) (found : List Found) → AreOf r found
    → SomeFound P found → (p : RecId) × P (r p)
found_some P r [] of some = absurd some
found_some P r (f ∷ fs) of (inl here) = (f.at, subst P (sym of.0) here)
found_some P r (f ∷ fs) of (inr later) = found_some P r fs of.1 later

some_found : (P : List Entry → Type 0) → (P [] → ⊥) → (found : List Found) (p : RecId)
    → P (reading_of found p) → SomeFound P found
some_found P none [] p is = none is
some_found P none (f ∷ fs) p is =
    at (same_place f.at p) refl (λ later. some_found P none fs p later)
  where
    at : (b : Bool) → same_place f.at p ≡ b → (P (reading_of fs p) → SomeFound P fs)
        → SomeFound P (f ∷ fs)
    at true e go = inl (rw e at is)
    at false e go = inr (go (rw e at is))

each_found : (P : List Entry → Type 0) → P [] → (found : List Found) → EachFound P found
    → (p : RecId) → P (reading_of found p)
each_found P none [] each p = none
each_found P none (f ∷ fs) each p =
    at (same_place f.at p) refl (each_found P none fs each.1 p)
  where
    at : (b : Bool) → same_place f.at p ≡ b → P (reading_of fs p) → P (reading_of (f ∷ fs) p)
    at true e later = rw e each.0
    at false e later = rw e later

found_each : (P : List Entry → Type 0) (r : Reading) (found : List Found) → AreOf r found
    → ((p : RecId) → P (r p)) → EachFound P found
found_each P r [] of each = tt
found_each P r (f ∷ fs) of each = (subst P of.0 (each f.at), found_each P r fs of.1 each)

-- ---- the catalog among all tables

module _ (coding : RowCoding) (image : Image) (layout : Layout) (first : List Found)
    (fs : List (List Found)) (read : AreRead coding image layout (first ∷ fs)) (pointer : ℕ)
    (is : layout.catalog.table ≡ catalog_table pointer) where
  abbrev f : Facts
  f = layout_facts image layout

  abbrev r : Reading
  r = reading_in layout (first ∷ fs)

  abbrev catalog : Table
  catalog = layout.catalog.table

  one : IsOneOf (stands_of layout) layout.catalog
  one = one_of_tables image (stands_of layout) read.tested layout.catalog (inl refl)

  part : (p : RecId) → has layout.catalog.data_pages p.page.0 ≡ true → r p ≡ reading_of first p
  part p there = rw there refl

  outside : (p : RecId) → has layout.catalog.data_pages p.page.0 ≡ false
      → reading_of first p ≡ []
  outside p none = read.each.0.versions.outside p (rw none refl)

  key : (row : Row) → key_of catalog row ≡ row_key row
  key row = rw is refl

  named_from : (name : List ℕ) → SomeFound (ShowsTable image name) first
      → IsNamed f r catalog name
  named_from name some =
      at (found_some (ShowsTable image name) (reading_of first) first read.each.0.settled some)
    where
      by : (p : RecId) (row : Row) → shown (committed_of image) (reading_of first p) ≡ Some row
          → row_key row ≡ table_key name → (b : Bool)
          → has layout.catalog.data_pages p.page.0 ≡ b → IsNamed f r catalog name
      by p row shows keyed true e = record {
        place = p;
        row = row;
        shows = record { of_table = one.mine p e; row_shown = rw (part p e) shows };
        keyed = key row ∙ keyed;
      }
      by p row shows keyed false e =
          let none : None ≡ Some row = rw (outside p e) at shows in absurd cc

      at : (p : RecId) × ShowsTable image name (reading_of first p) → IsNamed f r catalog name
      at (p, (row, shows, keyed)) =
          by p row shows keyed (has layout.catalog.data_pages p.page.0) refl

  shows_none : (name : List ℕ) → ShowsTable image name [] → ⊥
  shows_none name (row, shows, keyed) = let none : None ≡ Some row = shows in cc

  named_back : (name : List ℕ) → IsNamed f r catalog name
      → SomeFound (ShowsTable image name) first
  named_back name named =
      let there = one.back named.place named.shows.of_table in
      some_found (ShowsTable image name) (shows_none name) first named.place (
        named.row,
        rw (part named.place there) at named.shows.row_shown,
        sym (key named.row) ∙ named.keyed,
      )

  made_from : (t : ℕ) (name : List ℕ) → SomeFound (MakesTable image t name) first
      → HasMade f r catalog t name
  made_from t name some =
      let (p, makes) =
      found_some (MakesTable image t name) (reading_of first) first read.each.0.settled some in
      at p (reading_of first p) refl makes (has layout.catalog.data_pages p.page.0) refl
    where
      at : (p : RecId) (es : List Entry) → reading_of first p ≡ es → MakesTable image t name es
          → (b : Bool) → has layout.catalog.data_pages p.page.0 ≡ b → HasMade f r catalog t name
      at p [] reads makes b there = absurd makes
      at p (e ∷ older) reads makes true there = record {
        place = p;
        version = e;
        limbo = record {
          of_table = one.mine p there;
          older = older;
          newest = part p there ∙ reads;
          limbo = makes.limbo;
        };
        its_own = makes.its_own;
        alive = makes.alive;
        keyed = key e.row ∙ makes.keyed;
      }
      at p (e ∷ older) reads makes false there =
          let none : [] ≡ e ∷ older = sym (outside p there) ∙ reads in absurd cc

  made_back : (t : ℕ) (name : List ℕ) → HasMade f r catalog t name
      → SomeFound (MakesTable image t name) first
  made_back t name made =
      let there = one.back made.place made.limbo.of_table in
      some_found (MakesTable image t name) (λ none. none) first made.place
      (subst (MakesTable image t name) (sym (sym (part made.place there) ∙ made.limbo.newest))
      (record {
        limbo = made.limbo.limbo;
        its_own = made.its_own;
        alive = made.alive;
        keyed = sym (key made.version.row) ∙ made.keyed;
      }))

  own_from : (table : Table) (e : Entry) → IsOwn image first table.name e
      → MayStandIn f r catalog table e
  own_from table e (inl itself) = inl itself
  own_from table e (inr (inl named)) = inr (inl (named_from table.name named))
  own_from table e (inr (inr (inl dead))) = inr (inr (inl dead))
  own_from table e (inr (inr (inr made))) =
      inr (inr (inr (made_from (writer e) table.name made)))

  own_back : (table : Table) (e : Entry) → MayStandIn f r catalog table e
      → IsOwn image first table.name e
  own_back table e (inl itself) = inl itself
  own_back table e (inr (inl named)) = inr (inl (named_back table.name named))
  own_back table e (inr (inr (inl dead))) = inr (inr (inl dead))
  own_back table e (inr (inr (inr made))) =
      inr (inr (inr (made_back (writer e) table.name made)))

  -- the versions of each place of a table may stand there
  abbrev StandAt : Stand → List Found → Type 0
  StandAt s found = (p : RecId) → Each (MayStandIn f r catalog s.table) (reading_of found p)

  pub owned_all : EachTable (IsOwned image first) (stands_of layout) (first ∷ fs)
      → HasOwnTables f r catalog
  owned_all owned = tables_have (λ t p es. Each (MayStandIn f r catalog t) es) image
      (stands_of layout) (first ∷ fs) read.tested (map_tables (IsOwned image first) StandAt
      (stands_of layout) (first ∷ fs) (λ s found among is_owned p. each_has
      (IsOwn image first s.table.name) (MayStandIn f r catalog s.table) (own_from s.table)
      (reading_of found p)
      (each_found (Each (IsOwn image first s.table.name)) tt found is_owned p)) owned)

  zip : (ss : List Stand) (gs : List (List Found)) → EachTable (IsTableRead coding image) ss gs
      → EachTable StandAt ss gs → EachTable (IsOwned image first) ss gs
  zip [] [] reads stand = tt
  zip [] (g ∷ gs) reads stand = reads
  zip (s ∷ ss) [] reads stand = reads
  zip (s ∷ ss) (g ∷ gs) reads stand = (
    found_each (Each (IsOwn image first s.table.name)) (reading_of g) g reads.0.settled
        (λ p. each_has (MayStandIn f r catalog s.table) (IsOwn image first s.table.name)
        (own_back s.table) (reading_of g p) (stand.0 p)),
    zip ss gs reads.1 stand.1,
  )

  pub owned_each : HasOwnTables f r catalog
      → EachTable (IsOwned image first) (stands_of layout) (first ∷ fs)
  owned_each own = zip (stands_of layout) (first ∷ fs) read.each
      (have_tables (λ t p es. Each (MayStandIn f r catalog t) es) (λ t p. tt) coding image
      (stands_of layout) (first ∷ fs) read.tested read.each (λ p t of. own p t of))

-- ---- all tables

pub own_all : (coding : RowCoding) (image : Image) (layout : Layout) (fs : List (List Found))
    (pointer : ℕ) → layout.catalog.table ≡ catalog_table pointer
    → AreRead coding image layout fs → AreOwned image (stands_of layout) fs
    → HasOwnTables (layout_facts image layout) (reading_in layout fs) layout.catalog.table
own_all coding image layout [] pointer is read owned = absurd owned
own_all coding image layout (f ∷ fs) pointer is read owned =
    owned_all coding image layout f fs read pointer is owned

own_each : (coding : RowCoding) (image : Image) (layout : Layout) (fs : List (List Found))
    (pointer : ℕ) → layout.catalog.table ≡ catalog_table pointer
    → AreRead coding image layout fs
    → HasOwnTables (layout_facts image layout) (reading_in layout fs) layout.catalog.table
    → AreOwned image (stands_of layout) fs
own_each coding image layout [] pointer is read own = absurd read.each
own_each coding image layout (f ∷ fs) pointer is read own =
    owned_each coding image layout f fs read pointer is own

pub own_must : (coding : RowCoding) (image : Image) (layout : Layout) (fs : List (List Found))
    (pointer : ℕ) → layout.catalog.table ≡ catalog_table pointer
    → AreRead coding image layout fs → HasReadingOf MeetsDrawn coding image layout
    → AreOwned image (stands_of layout) fs
own_must coding image layout fs pointer is read (s, met) =
    own_each coding image layout fs pointer is read
    (subst (λ (x : Reading). HasOwnTables (layout_facts image layout) x layout.catalog.table)
    (same_reading coding image layout fs read s met.0) met.3)

-- the same list that was read
pub owned_as : (image : Image) (ss : List Stand) (xs ys : List TableRecords) → xs ≡ ys
    → AreOwned image ss (founds_in xs) → AreOwned image ss (founds_in ys)
owned_as image ss xs ys same owned =
    subst (λ (zs : List TableRecords). AreOwned image ss (founds_in zs)) same owned

-- ---- table by table

pub tables_next : (P : Stand → List Found → Type 0) (All : Type 0) (rest later : List TableStand)
    (stand : TableStand) (left others : List TableRecords) (table : TableRecords)
    → (All ↔ EachTable P (stands_in rest) (founds_in left)) → rest ≡ stand ∷ later
    → left ≡ table ∷ others → P (stand_in stand) table.found.items
    → All ↔ EachTable P (stands_in later) (founds_in others)
tables_next P All rest later stand left others table both is read here =
    by (subst (λ (xs : List TableRecords). All ↔ EachTable P (stands_in (stand ∷ later)) (founds_in xs))
    read (subst (λ (xs : List TableStand). All ↔ EachTable P (stands_in xs) (founds_in left)) is both))
  where
    by : (All ↔ EachTable P (stands_in (stand ∷ later)) (founds_in (table ∷ others)))
        → All ↔ EachTable P (stands_in later) (founds_in others)
    by known = (λ all. (known.0 all).1, λ each. known.1 (here, each))

pub tables_refused : (P : Stand → List Found → Type 0) (All : Type 0)
    (rest later : List TableStand) (stand : TableStand) (left others : List TableRecords)
    (table : TableRecords) → (All ↔ EachTable P (stands_in rest) (founds_in left))
    → rest ≡ stand ∷ later → left ≡ table ∷ others
    → (P (stand_in stand) table.found.items → ⊥) → IsTrue false ↔ All
tables_refused P All rest later stand left others table both is read none =
    by (subst (λ (xs : List TableRecords). All ↔ EachTable P (stands_in (stand ∷ later)) (founds_in xs))
    read (subst (λ (xs : List TableStand). All ↔ EachTable P (stands_in xs) (founds_in left)) is both))
  where
    by : (All ↔ EachTable P (stands_in (stand ∷ later)) (founds_in (table ∷ others)))
        → IsTrue false ↔ All
    by known = (λ no. absurd cc, λ all. absurd (none ((known.0 all).0)))

pub owned_first : (image : Image) (standing : Standing) (records : List TableRecords)
    (catalog : TableRecords) (tables : List TableRecords) → records ≡ catalog ∷ tables
    → IsOwned image catalog.found.items (stand_in standing.catalog) catalog.found.items
    → (b : Bool) → (IsTrue b ↔ EachTable (IsOwned image catalog.found.items)
    (stands_in standing.tables.items) (founds_in tables))
    → IsTrue b ↔ AreOwned image (stands_of (layout_in standing)) (founds_in records)
owned_first image standing records first tables is here b both =
    subst (λ (xs : List TableRecords). IsTrue b
    ↔ AreOwned image (stands_of (layout_in standing)) (founds_in xs)) (sym is)
    (λ passed. (here, both.0 passed), λ owned. both.1 owned.1)

pub owned_not : (image : Image) (standing : Standing) (records : List TableRecords)
    (catalog : TableRecords) (tables : List TableRecords) → records ≡ catalog ∷ tables
    → (b : Bool) → b ≡ false
    → (IsOwned image catalog.found.items (stand_in standing.catalog) catalog.found.items
    → IsTrue b)
    → IsTrue b ↔ AreOwned image (stands_of (layout_in standing)) (founds_in records)
owned_not image standing records catalog tables is b failed gives =
    subst (λ (xs : List TableRecords). IsTrue b
    ↔ AreOwned image (stands_of (layout_in standing)) (founds_in xs)) (sym is)
    (λ passed. absurd (let no : IsTrue false = rw failed at passed in cc), λ owned. gives owned.0)
