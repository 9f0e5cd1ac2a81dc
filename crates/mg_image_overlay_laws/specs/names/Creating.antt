-- A table is made: its maker comes to count as in limbo, no page is changed, and the layout gets the
-- table.
use Rattle.mg_image_overlay_laws.specs.transactions.Begins.{Raises, committed_same, committed_still, dead_before, limbo_before}
use Rattle.mg_base.specs.declared.numbers.RecId.{RecId}
use Rattle.mg_base.specs.declared.transaction.TxState.{TxState}
use Rattle.mg_base.specs.declared.transaction.TxState.TheVariants.{Active, Dead, Limbo}
use Rattle.mg_careful.specs.CarefulWrite.{Cache, PageSet}
use Rattle.mg_careful.specs.Precedence.{Orders}
use Rattle.mg_image.specs.Catalog.{CatalogNames, HasNames, HasOwnTables, IsWithin, StaysAmong, committed_with}
use Rattle.mg_image.specs.FactLaws.{KeysOnce, records_under}
use Rattle.mg_image.specs.Form.{Form, Pages, Row, Rows}
use Rattle.mg_image.specs.Held.{AreChanges, AreRows, Changes, Database, HasLimbo, IsHeld, Shows}
use Rattle.mg_image.specs.HeldLaws.{same_held}
use Rattle.mg_image.specs.Histories.{newest_at}
use Rattle.mg_image.specs.Indexes.{IsFoundIn}
use Rattle.mg_image.specs.Inventory.{oldest_active_of}
use Rattle.mg_image.specs.Reached.{linked_pages}
use Rattle.mg_image.specs.RecordRules.{Facts, committed_in, table_in}
use Rattle.mg_image.specs.Records.{Reading, cells_of, key_of, newest_of, shown, writer}
use Rattle.mg_image.specs.Sound.{HasTablePages, IsSoundBy, facts_by}
use Rattle.mg_image.specs.Tables.{EachStand, Has, IsOnce, Layout, Stand, has, pages_of, stands_of, table_at}
use Rattle.mg_image.specs.declared.entry.Entry.{Entry}
use Rattle.mg_image_overlay_laws.specs.kept.KeptImages.{IsKept, keeping}
use Rattle.mg_image_overlay_laws.specs.kept.StartLaws.{kept_by_itself}
use Rattle.mg_model.specs.Answers.{is_committed}
use Rattle.mg_model.specs.CatalogRules.{EachTable}
use Rattle.mg_model.specs.Changes.{row_at}
use Rattle.mg_model.specs.History.{Entries}
use Rattle.mg_model.specs.Legal.{is_limbo}
use Rattle.mg_model.specs.Machine.{database, own}
use Rattle.mg_model.specs.declared.opening.Opening.{Opening}
use Rattle.mg_model.specs.declared.table.Table.{Table}
use Rattle.mg_overlay_laws.specs.BatchLaws.{change_keeps_raised}
use Rattle.mg_overlay_laws.specs.Overlays.{ChangesCache, EveryOverlay, KeepsNeeds, LaysBatch, NeedsAllDirty, laid, left_by, left_state, without}
use Rattle.mg_value.specs.declared.value.Value.{Value}
use Rattle.std.proofs.Common.{Bool, List, None, Option, Some, [], ap, arith, false, inl, inr, refl, subst, sym, true, ℕ, ◌&&◌, ◌++◌, ◌<◌, ◌||◌, ◌∙◌, ◌∷◌, ◌≡◌, ◌≢◌, ◌≤◌, ◌⊎◌}
use Rattle.std.proofs.Math.Path.{fun_ext}
use Rattle.std.proofs.lemmas.Bool.{cases_eq, eq-eqb, ne_eqb}
use Rattle.std.specs.Prelude.{if◌then◌else◌, map}

-- ---- a table more

each_more : (P : Stand → Type 0) (before after : List Stand) (stand : Stand) → P stand
    → EachStand P (before ++ after) → EachStand P (before ++ (stand ∷ after))
each_more P [] after stand is each = (is, each)
each_more P (other ∷ before) after stand is each = (each.0, each_more P before after stand is each.1)

-- ---- the names of tables, under every choice

-- With the rows of one more transaction, in each choice that has it, the catalog's rows are lawful and
-- name tables, those of each smaller choice among them; with the rows of all they name one table more.
pub record NamesMore (size : ℕ) (g : Facts) (t : ℕ) (r : Reading) (catalog : Table)
    (before : (ℕ → Bool) → List Table) (tables : List Table) : Type 0 where
  pub named : (ℕ → Bool) → List Table
  pub same : (chosen : ℕ → Bool) → chosen t ≡ false → named chosen ≡ before chosen
  pub lawful : (chosen : ℕ → Bool) → chosen t ≡ true
      → CatalogNames size g (committed_with g chosen) r catalog (named chosen)
  pub all : CatalogNames size g (committed_with g (λ u. true)) r catalog tables
  pub stay : (chosen more : ℕ → Bool) → IsWithin chosen more
      → EachTable (StaysAmong (named more)) (named chosen)

module _ (form : Form) (size : ℕ) (state now : ℕ → TxState) (t : ℕ) (raises : Raises state now t)
    (pages : Pages) (catalog : Stand) (sequences : List ℕ) (tables more : List Stand) (r : Reading) where
  abbrev pub layout : Layout
  layout = record { catalog = catalog; tables = tables; sequences = sequences }

  abbrev pub layout_more : Layout
  layout_more = record { catalog = catalog; tables = more; sequences = sequences }

  abbrev f : Facts
  f = facts_by state pages layout

  abbrev g : Facts
  g = facts_by now pages layout_more

  -- What tables that are made owe: each has its pages, which nothing else links, and none has a data page
  -- yet; the maker's versions take free keys and are found.
  pub record MakesTables : Type 0 where
    pub tables_pages : EachStand (HasTablePages form.in_primary size pages) more
    pub same : (k : ℕ) → table_at (catalog ∷ more) k ≡ table_at (catalog ∷ tables) k
    pub once : IsOnce (linked_pages size pages layout_more)
    pub oldest : oldest_active_of pages ≤ t
    pub own_tables : HasOwnTables g r catalog.table
    pub keys : KeysOnce g r
    pub found : (p : RecId) (table : Table) (e : Entry) → HasLimbo g r p table e → writer e ≡ t
        → e.version.deleted ≡ false → IsFoundIn pages table.indexes p e.row

  module _ (sound : IsSoundBy form size state pages layout r) (makes : MakesTables)
      (names : NamesMore size g t r catalog.table sound.names.named
      (map (λ s. s.table) more)) where
    tables_same : (k : ℕ) → table_at (stands_of layout_more) k ≡ table_at (stands_of layout) k
    tables_same k = makes.same k

    -- a choice without it is as it was
    counts_same : (chosen : ℕ → Bool) → chosen t ≡ false → (u : ℕ)
        → committed_with g chosen u ≡ committed_with f chosen u
    counts_same chosen off u = at (cases_eq u t)
      where
        at : (u ≡ t) ⊎ (u ≢ t) → committed_with g chosen u ≡ committed_with f chosen u
        at (inl e) =
            let now_is : now u ≡ Limbo = ap now e ∙ raises.limbo in
            let was : state u ≡ Dead = ap state e ∙ raises.dead in
            let out : chosen u ≡ false = ap chosen e ∙ off in rw (now_is, was, out) refl
        at (inr ne) = ap (λ (s : TxState). is_committed s || (is_limbo s && chosen u)) (raises.others u ne)

    rows_without : (chosen : ℕ → Bool) → chosen t ≡ false → (rows : Rows)
        → AreRows f (committed_with f chosen) r catalog.table rows
        → AreRows g (committed_with g chosen) r catalog.table rows
    rows_without chosen off rows are = record {
      there = λ p row shows. are.there p row (record {
        of_table = sym (tables_same p.page.0) ∙ shows.of_table;
        row_shown = ap (λ (c : ℕ → Bool). shown c (r p)) (sym counts) ∙ shows.row_shown;
      });
      whole = λ key row is. moved key row (are.whole key row is);
    }
      where
        counts : committed_with g chosen ≡ committed_with f chosen
        counts = fun_ext (counts_same chosen off)

        moved : (key : Value) (row : Row)
            → (p : RecId) × Shows f (committed_with f chosen) r p catalog.table row
            × (key_of catalog.table row ≡ key)
            → (p : RecId) × Shows g (committed_with g chosen) r p catalog.table row
            × (key_of catalog.table row ≡ key)
        moved key row (p, shows, keyed) = (
          p,
          record {
            of_table = tables_same p.page.0 ∙ shows.of_table;
            row_shown = ap (λ (c : ℕ → Bool). shown c (r p)) counts ∙ shows.row_shown;
          },
          keyed,
        )

    pub names_more : HasNames size g r catalog.table (map (λ s. s.table) more)
    names_more = record {
      named = names.named;
      lawful = λ chosen. lawful chosen (chosen t) refl;
      all = names.all;
      stay = names.stay;
    }
      where
        lawful : (chosen : ℕ → Bool) (c : Bool) → chosen t ≡ c
            → CatalogNames size g (committed_with g chosen) r catalog.table (names.named chosen)
        lawful chosen true on = names.lawful chosen on
        lawful chosen false off =
            let was : CatalogNames size f (committed_with f chosen) r catalog.table
            (sound.names.named chosen) = sound.names.lawful chosen in
            subst (CatalogNames size g (committed_with g chosen) r catalog.table)
            (sym (names.same chosen off)) (record {
              rows = was.rows;
              are_rows = rows_without chosen off was.rows was.are_rows;
              are_tables = was.are_tables;
              fit = was.fit;
            })

    limbo_was : (p : RecId) (table : Table) (e : Entry) → writer e ≢ t → HasLimbo g r p table e
        → HasLimbo f r p table e
    limbo_was p table e ne has = record {
      of_table = sym (tables_same p.page.0) ∙ has.of_table;
      older = has.older;
      newest = has.newest;
      limbo = limbo_before state now t raises (writer e) ne has.limbo;
    }

    committed_is : committed_in g ≡ committed_in f
    committed_is = fun_ext (committed_same state now t raises)

    pub raise_sound : IsSoundBy form size now pages layout_more r
    raise_sound = record {
      header = sound.header;
      transactions = sound.transactions;
      inventory = sound.inventory;
      catalog = sound.catalog;
      tables = (sound.tables.0, makes.tables_pages);
      sequences = sound.sequences;
      names = names_more;
      once = makes.once;
      records = records_under form.coding f g (cells_of pages) r (record {
        tables = λ n table is. tables_same n ∙ is;
        next = omega arith;
        oldest = λ u dead above. above;
        dead = dead_before state now t raises;
        committed = committed_still state now t raises;
      }) (λ p table none of. no_new p table none of) makes.keys sound.records;
      limbo = λ u below is. no_limbo u below is (cases_eq u t);
      own_tables = makes.own_tables;
      indexed = record {
        committed = λ p table row shows. sound.indexed.committed p table row (record {
          of_table = sym (tables_same p.page.0) ∙ shows.of_table;
          row_shown = ap (λ (c : ℕ → Bool). shown c (r p)) (sym committed_is) ∙ shows.row_shown;
        });
        limbo = λ p table e has alive. found p table e has alive (cases_eq (writer e) t);
      };
    }
      where
        no_new : (p : RecId) (table : Table) → table_in f p ≡ None → table_in g p ≡ Some table
            → newest_of p (cells_of pages p) ≡ None
        no_new p table none of =
            let same : table_in g p ≡ table_in f p = tables_same p.page.0 in absurd cc

        no_limbo : (u : ℕ) → u < oldest_active_of pages → now u ≡ Limbo → (u ≡ t) ⊎ (u ≢ t) → ⊥
        no_limbo u below is (inl e) = let least = makes.oldest in omega (arith, e, below, least)
        no_limbo u below is (inr ne) = sound.limbo u below (limbo_before state now t raises u ne is)

        found : (p : RecId) (table : Table) (e : Entry) → HasLimbo g r p table e
            → e.version.deleted ≡ false → (writer e ≡ t) ⊎ (writer e ≢ t)
            → IsFoundIn pages table.indexes p e.row
        found p table e has alive (inl is) = makes.found p table e has is alive
        found p table e has alive (inr ne) = sound.indexed.limbo p table e (limbo_was p table e ne has) alive

    -- the pool's own image: the database is the same, and the maker has its changes
    pub raise_kept : (o : Opening) (h : Entries) (rows : Database)
        → IsHeld f (committed_in f) r rows
        → ((name : List ℕ) (key : Value) → rows name key ≡ row_at (database o h) name key)
        → (changes : Changes) → AreChanges g r changes
        → ((u : ℕ) (name : List ℕ) (key : Value) → now u ≡ Limbo
        → changes u name key ≡ newest_at (own o h u) name key)
        → IsKept form size o h now pages pages
    raise_kept o h rows held rows_are changes changed changes_are =
        kept_by_itself form size o h now pages layout_more r rows changes raise_sound
        (same_held f g (committed_in f) (committed_in g) r r rows (record {
          tables = λ p. tables_same p.page.0;
          rows = λ p. ap (λ (c : ℕ → Bool). shown c (r p)) committed_is;
        }) held) rows_are changed changes_are

-- ---- one table

-- What one table that is made owes, in its place.
pub record MakesTable (form : Form) (size : ℕ) (state now : ℕ → TxState) (t : ℕ) (pages : Pages)
    (catalog : Stand) (sequences : List ℕ) (tables before after : List Stand) (stand : Stand)
    (r : Reading) : Type 0 where
  pub is_ : tables ≡ before ++ after
  pub table_pages : HasTablePages form.in_primary size pages stand
  pub empty : stand.data_pages ≡ []
  pub once : IsOnce (pages_of stand)
  pub apart : (m : ℕ) → Has (pages_of stand) m → Has (linked_pages size pages (record {
    catalog = catalog;
    tables = tables;
    sequences = sequences;
  })) m → ⊥
  pub oldest : oldest_active_of pages ≤ t
  pub own_tables : HasOwnTables (facts_by now pages (record {
    catalog = catalog;
    tables = before ++ (stand ∷ after);
    sequences = sequences;
  })) r catalog.table
  pub keys : KeysOnce (facts_by now pages (record {
    catalog = catalog;
    tables = before ++ (stand ∷ after);
    sequences = sequences;
  })) r
  pub found : (p : RecId) (table : Table) (e : Entry) → HasLimbo (facts_by now pages (record {
    catalog = catalog;
    tables = before ++ (stand ∷ after);
    sequences = sequences;
  })) r p table e → writer e ≡ t → e.version.deleted ≡ false → IsFoundIn pages table.indexes p e.row

-- ---- the batch of CREATE TABLE

-- What the statement knows of an image that has all its pages and in which its transaction counts as
-- dead: the tables with those that it has made, what they owe there, and the changes with them.
pub record CreatesTables (form : Form) (size : ℕ) (o : Opening) (h : Entries) (state now : ℕ → TxState)
    (t : ℕ) (raises : Raises state now t) (pages : Pages) (kept : IsKept form size o h state pages pages)
    : Type 0 where
  pub more : List Stand
  pub makes : MakesTables form size state now t raises pages kept.layout.catalog kept.layout.sequences
      kept.layout.tables more kept.reading
  -- the catalog's rows name them
  pub names : NamesMore size (facts_by now pages (record kept.layout { tables = more })) t kept.reading
      kept.layout.catalog.table kept.sound.names.named (map (λ s. s.table) more)
  pub changes : Changes
  pub changed : AreChanges (facts_by now pages (record kept.layout { tables = more })) kept.reading changes
  pub changes_are : (u : ℕ) (name : List ℕ) (key : Value) → now u ≡ Limbo
      → changes u name key ≡ newest_at (own o h u) name key

pub create_kept : (form : Form) (size : ℕ) (o : Opening) (h : Entries) (state now : ℕ → TxState) (t : ℕ)
    (raises : Raises state now t) (pages : Pages) (kept : IsKept form size o h state pages pages)
    → CreatesTables form size o h state now t raises pages kept → IsKept form size o h now pages pages
create_kept form size o h state now t raises pages kept creates = raise_kept form size state now t raises
    pages kept.layout.catalog kept.layout.sequences kept.layout.tables creates.more kept.reading kept.sound
    creates.makes creates.names o h kept.rows kept.held kept.rows_are creates.changes creates.changed
    creates.changes_are

-- in the family: the writer as in limbo, from the choice without it
pub without_raises : (state : ℕ → TxState) (t : ℕ) (chosen : ℕ → Bool) → state t ≡ Active
    → chosen t ≡ true → Raises (left_state (without t chosen) state) (left_state chosen state) t
without_raises state t chosen active is = record {
  dead = rw (eq-eqb t t refl, active) refl;
  limbo = rw (is, active) refl;
  others = λ u ne. ap (λ (c : Bool). left_by c (state u)) (sym (other u ne));
}
  where
    other : (u : ℕ) → u ≢ t → without t chosen u ≡ chosen u
    other u ne = rw (ne_eqb u t ne) refl

-- a table is made by an active transaction, maybe after others: where the batch is kept with its writer
-- dead, and the writer may come to count as in limbo with all tables that it has made, every overlay is
-- kept
abbrev pub CreateKeeps : Form → Type 0
CreateKeeps form = (size : ℕ) (o : Opening) (h later : Entries) (state : ℕ → TxState)
    (by : ℕ) (old new : Cache) (gone : PageSet) (batch : ℕ → Option (List ℕ)) (orders : Orders)
    (needs now : ℕ → PageSet)
    → ChangesCache old new gone batch orders → (active : state by ≡ Active)
    → KeepsNeeds old gone needs now
    → NeedsAllDirty new now by
    -- the half in which the writer counts as dead: rows of the catalog as pushes and first versions
    → ((chosen : ℕ → Bool) (set_ : PageSet) (image : Pages) → chosen by ≡ false
    → LaysBatch old.pool new.pool batch orders set_ image
    → IsKept form size o h (left_state chosen state) old.pool old.pool
    → IsKept form size o h (left_state chosen state) old.pool image
    → IsKept form size o later (left_state chosen state) new.pool (laid batch set_ image))
    -- the half in which it counts as in limbo
    → ((chosen : ℕ → Bool) (is : chosen by ≡ true)
    → IsKept form size o h (left_state chosen state) old.pool old.pool
    → (kept : IsKept form size o later (left_state (without by chosen) state) new.pool new.pool)
    → CreatesTables form size o later (left_state (without by chosen) state) (left_state chosen state) by
    (without_raises state by chosen active is) new.pool kept)
    → EveryOverlay (keeping form size o h) state old needs
    → EveryOverlay (keeping form size o later) state new now

pub create_every : (form : Form) → CreateKeeps form
create_every form size o h later state by old new gone batch orders needs now changes active left all part
    creates every = change_keeps_raised (keeping form size o h) (keeping form size o later) state by old new
    gone batch orders needs now changes active left all (record {
      part = part;
      raise = λ chosen is was kept. create_kept form size o later (left_state (without by chosen) state)
          (left_state chosen state) by (without_raises state by chosen active is) new.pool kept
          (creates chosen is was kept);
    }) every
