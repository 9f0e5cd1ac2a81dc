-- The same records under other facts, or over other cells.
use Rattle.std.specs.Prelude.{if◌then◌else◌}
use Rattle.std.proofs.Common.{◌≡◌, ◌≢◌, ◌⊎◌, inl, inr, refl, sym, ◌∙◌, ◌≤◌, arith, ℕ, Bool, true, List, [], ◌∷◌, Option, None, Some, ap, false}
use Rattle.std.proofs.Math.Path.{fun_ext}
use Rattle.std.proofs.lemmas.Bool.{cases_eq}
use Rattle.mg_base.specs.declared.numbers.RecId.{RecId}
use Rattle.mg_base.specs.declared.transaction.TxState.TheVariants.{Dead, Committed}
use Rattle.mg_value.specs.declared.value.Value.{Value}
use Rattle.mg_version.specs.declared.cell.Link.{Link}
use Rattle.mg_model.specs.declared.table.Table.{Table}
use Rattle.mg_image.specs.declared.entry.Entry.{Entry}
use Rattle.mg_image.specs.Form.{Coding, Row, Rows}
use Rattle.mg_image.specs.Catalog.{CatalogNames, HasNames, committed_with}
use Rattle.mg_image.specs.Held.{AreRows, Shows}
use Rattle.mg_image.specs.RecordRules.{AreRecords, Each, EachBack, Facts, IsInLimbo, IsRecord, IsVersion, TakesKey, table_in}
use Rattle.mg_image.specs.Records.{Cells, Chain, Reading, ended, goes, key_of, newest_of, record_key, shown, writer}

-- each version that has one property has another
pub each_has : (P Q : Entry → Type 0) → ((e : Entry) → P e → Q e) → (es : List Entry) → Each P es
    → Each Q es
each_has P Q gives [] each = tt
each_has P Q gives (e ∷ es) each = (gives e each.0, each_has P Q gives es each.1)

-- so has each but the newest
back_has : (P Q : Entry → Type 0) → ((e : Entry) → P e → Q e) → (es : List Entry)
    → EachBack P es → EachBack Q es
back_has P Q gives [] each = tt
back_has P Q gives (e ∷ es) each = each_has P Q gives es each

-- ---- other facts

-- What other facts keep: tables keep their pages and may have more, what was committed stays so,
-- what was not dead does too, and the oldest interesting transaction passes over none that is dead.
pub record KeepsFacts (f g : Facts) : Type 0 where
  pub tables : (n : ℕ) (table : Table) → f.table_of n ≡ Some table → g.table_of n ≡ Some table
  pub next : f.next ≤ g.next
  pub oldest : (t : ℕ) → g.state t ≡ Dead → f.oldest ≤ t → g.oldest ≤ t
  pub dead : (t : ℕ) → g.state t ≡ Dead → f.state t ≡ Dead
  pub committed : (t : ℕ) → f.state t ≡ Committed → g.state t ≡ Committed

-- no record begins on a page that a table has by the later facts alone
abbrev pub AreNewPagesEmpty : Facts → Facts → Cells → Type 0
AreNewPagesEmpty f g h = (p : RecId) (table : Table) → table_in f p ≡ None
    → table_in g p ≡ Some table → newest_of p (h p) ≡ None

-- no two records of a table take one key
abbrev pub KeysOnce : Facts → Reading → Type 0
KeysOnce f r = (p q : RecId) (table : Table) → table_in f p ≡ Some table → table_in f q ≡ Some table
    → TakesKey f (r p) → TakesKey f (r q) → record_key table (r p) ≡ record_key table (r q) → p ≡ q

version_under : (coding : Coding) (f g : Facts) (table : Table) (key : Value) → KeepsFacts f g
    → (e : Entry) → IsVersion coding f table key e → IsVersion coding g table key e
version_under coding f g table key keeps e is = record {
  placed = keeps.tables e.at.page.0 table is.placed;
  drawn = let drawn = is.drawn in let next = keeps.next in omega arith;
  dead = λ dead. keeps.oldest (writer e) dead (is.dead (keeps.dead (writer e) dead));
  format = is.format;
  spelled = is.spelled;
  storable = is.storable;
  erased = is.erased;
  keyed = is.keyed;
}

-- the same records are lawful under facts that keep the others, where no key is taken twice, and no
-- record begins on a page that a table comes to have
pub records_under : (coding : Coding) (f g : Facts) (h : Cells) (r : Reading) → KeepsFacts f g
    → AreNewPagesEmpty f g h → KeysOnce g r → AreRecords coding f h r → AreRecords coding g h r
records_under coding f g h r keeps empty once are = record {
  reads = λ p table of. reads p table of (table_in f p) refl;
  outside = λ p none. outside p none (table_in f p) refl;
  each = λ p table of. each p table of (table_in f p) refl;
  apart = are.apart;
  keys = once;
}
  where
    -- a table keeps its places
    same : (p : RecId) (table old : Table) → table_in g p ≡ Some table → table_in f p ≡ Some old
        → old ≡ table
    same p table old of was = let kept = keeps.tables p.page.0 old was in cc

    reads : (p : RecId) (table : Table) → table_in g p ≡ Some table → (was : Option Table)
        → table_in f p ≡ was → Chain h (newest_of p (h p)) (r p)
    reads p table of None was = rw (are.outside p was, empty p table was of) ended
    reads p table of (Some old) was = are.reads p old was

    outside : (p : RecId) → table_in g p ≡ None → (was : Option Table) → table_in f p ≡ was
        → r p ≡ []
    outside p none None was = are.outside p was
    outside p none (Some old) was = let kept = keeps.tables p.page.0 old was in absurd cc

    record_under : (table : Table) (es : List Entry) → IsRecord coding f table es
        → IsRecord coding g table es
    record_under table es is = record {
      once = is.once;
      each = each_has (IsVersion coding f table (record_key table es))
          (IsVersion coding g table (record_key table es))
          (version_under coding f g table (record_key table es) keeps) es is.each;
      backs = back_has (λ e. f.state (writer e) ≡ Committed) (λ e. g.state (writer e) ≡ Committed)
          (λ e. keeps.committed (writer e)) es is.backs;
    }

    none_lawful : (table : Table) → IsRecord coding g table []
    none_lawful table = record { once = tt; each = tt; backs = tt }

    each : (p : RecId) (table : Table) → table_in g p ≡ Some table → (was : Option Table)
        → table_in f p ≡ was → IsRecord coding g table (r p)
    each p table of None was = rw (are.outside p was) (none_lawful table)
    each p table of (Some old) was =
        record_under table (r p) (are.each p table (was ∙ ap Some (same p table old of was)))

-- facts with the same tables bring no pages
no_new_pages : (f g : Facts) (h : Cells) → ((n : ℕ) → g.table_of n ≡ f.table_of n)
    → AreNewPagesEmpty f g h
no_new_pages f g h tables p table none of =
    let same : table_in g p ≡ table_in f p = tables p.page.0 in absurd cc

-- Other facts differ in one transaction, which is committed.
pub record CommitsFacts (f g : Facts) (t : ℕ) : Type 0 where
  pub tables : (n : ℕ) → g.table_of n ≡ f.table_of n
  pub next : g.next ≡ f.next
  pub oldest : g.oldest ≡ f.oldest
  pub state : g.state t ≡ Committed
  pub others : (u : ℕ) → u ≢ t → g.state u ≡ f.state u

-- who was committed is so still
pub still_committed : (f g : Facts) (t : ℕ) → CommitsFacts f g t → (u : ℕ) → f.state u ≡ Committed
    → g.state u ≡ Committed
still_committed f g t commits u is = at (cases_eq u t)
  where
    at : (u ≡ t) ⊎ (u ≢ t) → g.state u ≡ Committed
    at (inl e) = rw e commits.state
    at (inr n) = commits.others u n ∙ is

-- the same records are lawful where a transaction is committed, and no key is taken twice then
pub records_commit : (coding : Coding) (f g : Facts) (h : Cells) (r : Reading) (t : ℕ)
    → CommitsFacts f g t → KeysOnce g r → AreRecords coding f h r → AreRecords coding g h r
records_commit coding f g h r t commits once are = records_under coding f g h r (record {
  tables = λ n table is. commits.tables n ∙ is;
  next = let same = commits.next in omega arith;
  oldest = λ u dead above. let same = commits.oldest in omega arith;
  dead = λ u dead. was_dead u dead (cases_eq u t);
  committed = still_committed f g t commits;
}) (no_new_pages f g h commits.tables) once are
  where
    was_dead : (u : ℕ) → g.state u ≡ Dead → (u ≡ t) ⊎ (u ≢ t) → f.state u ≡ Dead
    was_dead u dead (inl e) = let is = commits.state in let also = rw e at dead in absurd cc
    was_dead u dead (inr n) = sym (commits.others u n) ∙ dead

-- ---- other cells

-- a chain of versions that stand in cells of tables is one of other cells, which are the same there
chain_on : (coding : Coding) (f : Facts) (old new : Cells) (table : Table) (key : Value)
    → ((p : RecId) (of : Table) → table_in f p ≡ Some of → new p ≡ old p)
    → (l : Option Link) (es : List Entry) → Each (IsVersion coding f table key) es
    → Chain old l es → Chain new l es
chain_on coding f old new table key same l es each ended = ended
chain_on coding f old new table key same l es each (goes m e fs at is tx more) =
    goes m e fs at (same e.at table each.0.placed ∙ is) tx
    (chain_on coding f old new table key same e.version.back fs each.1 more)

-- the same records are lawful over other cells, which are the same at the places of tables
pub records_on_same_cells : (coding : Coding) (f : Facts) (old new : Cells) (r : Reading)
    → ((p : RecId) (table : Table) → table_in f p ≡ Some table → new p ≡ old p)
    → AreRecords coding f old r → AreRecords coding f new r
records_on_same_cells coding f old new r same are = record {
  reads = reads;
  outside = are.outside;
  each = are.each;
  apart = are.apart;
  keys = are.keys;
}
  where
    reads : (p : RecId) (table : Table) → table_in f p ≡ Some table
        → Chain new (newest_of p (new p)) (r p)
    reads p table of = rw (same p table of)
        (chain_on coding f old new table (record_key table (r p)) same (newest_of p (old p)) (r p)
        (are.each p table of).each (are.reads p table of))

-- ---- what is shown

-- versions whose transactions count as they did show the same row
pub shown_alike : (old new : ℕ → Bool) (es : List Entry)
    → Each (λ e. new (writer e) ≡ old (writer e)) es → shown new es ≡ shown old es
shown_alike old new [] each = refl
shown_alike old new (e ∷ es) each = rw (each.0, shown_alike old new es each.1) refl

-- Of each slot of one table two images show the same row.
pub record ShowsSameOf (table : Table) (f g : Facts) (old new : ℕ → Bool) (r s : Reading)
    : Type 0 where
  pub tables : (p : RecId) → table_in g p ≡ table_in f p
  pub rows : (p : RecId) → table_in f p ≡ Some table → shown new (s p) ≡ shown old (r p)

-- the same rows of that table
pub same_rows_of : (f g : Facts) (old new : ℕ → Bool) (r s : Reading) (table : Table) (rows : Rows)
    → ShowsSameOf table f g old new r s → AreRows f old r table rows → AreRows g new s table rows
same_rows_of f g old new r s table rows same are = record { there = there; whole = whole }
  where
    there : (p : RecId) (row : Row) → Shows g new s p table row
        → rows (key_of table row) ≡ Some row
    there p row shows =
        let of : table_in f p ≡ Some table = sym (same.tables p) ∙ shows.of_table in
        are.there p row (record {
          of_table = of;
          row_shown = sym (same.rows p of) ∙ shows.row_shown;
        })

    held : (key : Value) (row : Row)
        → (p : RecId) × Shows f old r p table row × (key_of table row ≡ key)
        → (p : RecId) × Shows g new s p table row × (key_of table row ≡ key)
    held key row (p, shows, keyed) = (
      p,
      record {
        of_table = same.tables p ∙ shows.of_table;
        row_shown = same.rows p shows.of_table ∙ shows.row_shown;
      },
      keyed,
    )

    whole : (key : Value) (row : Row) → rows key ≡ Some row
        → (p : RecId) × Shows g new s p table row × (key_of table row ≡ key)
    whole key row is = held key row (are.whole key row is)

-- the catalog names the same tables, where whoever is committed its rows are the same
pub same_names : (size : ℕ) (f g : Facts) (r s : Reading) (catalog : Table) (tables : List Table)
    → ((chosen : ℕ → Bool) → ShowsSameOf catalog f g (committed_with f chosen)
    (committed_with g chosen) r s)
    → HasNames size f r catalog tables → HasNames size g s catalog tables
same_names size f g r s catalog tables same names = record {
  named = names.named;
  lawful = λ chosen. moved chosen (names.named chosen) (names.lawful chosen);
  all = moved (λ t. true) tables names.all;
  stay = names.stay;
}
  where
    moved : (chosen : ℕ → Bool) (named : List Table)
        → CatalogNames size f (committed_with f chosen) r catalog named
        → CatalogNames size g (committed_with g chosen) s catalog named
    moved chosen named is = record {
      rows = is.rows;
      are_rows = same_rows_of f g (committed_with f chosen) (committed_with g chosen) r s catalog
          is.rows (same chosen) is.are_rows;
      are_tables = is.are_tables;
      fit = is.fit;
    }

-- the row that is shown has the key of its versions
pub shown_keyed : (coding : Coding) (f : Facts) (table : Table) (key : Value)
    (committed : ℕ → Bool) (es : List Entry) (row : Row) → Each (IsVersion coding f table key) es
    → shown committed es ≡ Some row → key_of table row ≡ key
shown_keyed coding f table key committed [] row each is = absurd cc
shown_keyed coding f table key committed (e ∷ es) row each is =
    at (committed (writer e)) e.version.deleted
    (shown_keyed coding f table key committed es row each.1) is
  where
    at : (counts deleted : Bool) → (shown committed es ≡ Some row → key_of table row ≡ key)
        → (if counts then (if deleted then None else Some e.row) else shown committed es)
        ≡ Some row → key_of table row ≡ key
    at true true older is = absurd cc
    at true false older is =
        let same : e.row ≡ row = cc in ap (key_of table) (sym same) ∙ each.0.keyed
    at false deleted older is = older is
