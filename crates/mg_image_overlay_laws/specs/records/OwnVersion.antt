-- What is known of a record whose newest version is a transaction's own, in the pool and in an overlay.
use Rattle.std.proofs.Common.{◌≡◌, ◌≢◌, inl, inr, sym, ap, ◌∙◌, subst, ◌≤◌, ◌<◌, ℕ, false, List, [], ◌∷◌, ◌++◌, Some}
use Rattle.std.specs.List.{flat_map}
use Rattle.mg_base.specs.declared.numbers.RecId.{RecId}
use Rattle.mg_base.specs.declared.transaction.TxState.{TxState}
use Rattle.mg_value.specs.declared.value.Value.{Value}
use Rattle.mg_version.specs.declared.cell.Version.{Version}
use Rattle.mg_model.specs.declared.opening.Opening.{Opening}
use Rattle.mg_model.specs.declared.table.Table.{Table}
use Rattle.mg_model.specs.History.{Entries, Entry as Event}
use Rattle.mg_model.specs.Machine.{own}
use Rattle.mg_base.specs.declared.transaction.TxState.TheVariants.{Limbo}
use Rattle.mg_image.specs.declared.entry.Entry.{Entry}
use Rattle.mg_image.specs.Catalog.{HasMade, MayStandIn}
use Rattle.mg_image.specs.Form.{Coding, Form, Pages}
use Rattle.mg_image.specs.Held.{Changes}
use Rattle.mg_image.specs.Histories.{newest_at}
use Rattle.mg_image.specs.Indexes.{IsFoundIn}
use Rattle.mg_image.specs.Reached.{tips_of}
use Rattle.mg_image.specs.ReadingLaws.{RowsAreOne}
use Rattle.mg_image.specs.RecordRules.{AreRecords, Each, Facts, IsVersion, columns_for, table_in}
use Rattle.mg_image.specs.Records.{Cells, Reading, key_of, record_key, writer}
use Rattle.mg_image.specs.Sound.{IsSoundBy, facts_by}
use Rattle.mg_image.specs.Tables.{IsOnce, Layout, pages_of, stands_of}
use Rattle.mg_image_overlay_laws.specs.kept.KeptImages.{IsKept}
use Rattle.mg_image_overlay_laws.specs.pages.Reach.{once_back, once_front, table_in_pool}
use Rattle.mg_image_overlay_laws.specs.records.Overwrite.{MayOverwrite}
use Rattle.mg_image_overlay_laws.specs.records.OwnWrites.{ChangesOwn}

-- The newest version of a record of a table stands at a place, with this content.
pub record FindsNewest (f : Facts) (r : Reading) (p : RecId) (table : Table) (x : RecId) (v : Version)
    : Type 0 where
  pub of : table_in f p ≡ Some table
  pub newest : Entry
  pub older : List Entry
  pub first : r p ≡ newest ∷ older
  pub at : newest.at ≡ x
  pub version : newest.version ≡ v

-- And another version is lawful in the record.
pub record FindsOwn (coding : Coding) (f : Facts) (r : Reading) (p : RecId) (table : Table)
    (x : RecId) (v : Version) (n : Entry) : Type 0 where
  pub found : FindsNewest f r p table x v
  pub lawful : IsVersion coding f table (record_key table (r p)) n

-- What a statement knows of a version that takes the place of one of its transaction: the writer's
-- changes are those of the longer history, and the row's entries were laid.
pub record RewritesRow (form : Form) (size : ℕ) (o : Opening) (h : Entries) (event : Event)
    (state : ℕ → TxState) (pages changed : Pages) (p : RecId) (table : Table) (n : Entry)
    (kept : IsKept form size o h state pages pages) : Type 0 where
  pub after : Changes
  pub turns : ChangesOwn (facts_by state pages kept.layout) table (writer n) (key_of table n.row)
      (n ∷ []) kept.changes after
  pub after_are : (u : ℕ) (name : List ℕ) (k : Value) → state u ≡ Limbo
      → after u name k ≡ newest_at (own o (event ∷ h) u) name k
  pub no_catalog : table ≢ kept.layout.catalog.table
  pub found : n.version.deleted ≡ false → IsFoundIn changed table.indexes p n.row

-- no page of a sound image is linked twice, so none by two tables
pub tables_once : (form : Form) (size : ℕ) (state : ℕ → TxState) (pages : Pages) (layout : Layout)
    (r : Reading) → IsSoundBy form size state pages layout r
    → IsOnce (flat_map pages_of (stands_of layout))
tables_once form size state pages layout r sound = once_back (tips_of size pages)
    (flat_map pages_of (stands_of layout)) (once_front (tips_of size pages
    ++ flat_map pages_of (stands_of layout)) layout.sequences sound.once)

-- whose version may stand in a table, is told by its writer
pub stands_as : (f : Facts) (r : Reading) (catalog table : Table) (d e : Entry) → writer d ≡ writer e
    → MayStandIn f r catalog table d → MayStandIn f r catalog table e
stands_as f r catalog table d e same (inl is) = inl is
stands_as f r catalog table d e same (inr (inl named)) = inr (inl named)
stands_as f r catalog table d e same (inr (inr (inl dead))) =
    inr (inr (inl (ap f.state (sym same) ∙ dead)))
stands_as f r catalog table d e same (inr (inr (inr made))) =
    inr (inr (inr (subst (λ (t : ℕ). HasMade f r catalog t table.name) same made)))

-- one cell's content is one row of a table, so what is lawful over the one version is over the other
module _ (coding : Coding) (one : RowsAreOne coding) (f g : Facts) (h : Cells) (r : Reading)
    (p : RecId) (table : Table) (v : Version) (n : Entry) (are : AreRecords coding f h r)
    (finds : FindsOwn coding f r p table n.at v n)
    (tables : (t : Table) → table_in g n.at ≡ Some t → table_in f n.at ≡ Some t)
    (tx : n.version.tx ≡ v.tx) where
  newest_lawful : IsVersion coding f table (record_key table (r p)) finds.found.newest
  newest_lawful = (subst (Each (IsVersion coding f table (record_key table (r p)))) finds.found.first
      (are.each p table finds.found.of).each).0

  over_table : (key : Value) (d : Entry) → d.at ≡ n.at → d.version ≡ v
      → IsVersion coding g table key d → IsVersion coding g table key n
  over_table key d at version is = record {
    placed = ap (table_in g) (sym at) ∙ is.placed;
    drawn = subst (λ (t : ℕ). t < g.next) writers is.drawn;
    dead = λ dead. subst (λ (t : ℕ). g.oldest ≤ t) writers (is.dead (ap g.state writers ∙ dead));
    format = finds.lawful.format;
    spelled = finds.lawful.spelled;
    storable = finds.lawful.storable;
    erased = finds.lawful.erased;
    keyed = finds.lawful.keyed ∙ (sym newest_lawful.keyed ∙ (ap (key_of table) (sym row) ∙ is.keyed));
  }
    where
      same : d.version ≡ finds.found.newest.version
      same = version ∙ sym finds.found.version

      writers : writer d ≡ writer n
      writers = ap (λ (w : Version). w.tx.0) version ∙ ap (λ t. t.0) (sym tx)

      row : d.row ≡ finds.found.newest.row
      row = one (columns_for table finds.found.newest.version.deleted) finds.found.newest.version.format
          finds.found.newest.version.body d.row finds.found.newest.row
          (subst (λ (w : Version). coding.row_spelled (columns_for table w.deleted) w.format w.body d.row)
          same is.spelled) newest_lawful.spelled is.storable newest_lawful.storable

  pub may_overwrite : MayOverwrite coding g v n
  may_overwrite other key d at version is =
      let in_pool : table_in f n.at ≡ Some other =
      tables other (ap (table_in g) (sym at) ∙ is.placed) in
      let both : Some table ≡ Some other = sym finds.lawful.placed ∙ in_pool in
      let same : table ≡ other = cc in
      subst (λ (t : Table). IsVersion coding g t key n) same
      (over_table key d at version (subst (λ (t : Table). IsVersion coding g t key d) (sym same) is))

-- an overlay's tables are tables of the pool
pub in_pool_too : (form : Form) (size : ℕ) (o : Opening) (h : Entries) (state : ℕ → TxState)
    (pool image : Pages) (kept : IsKept form size o h state pool image) (n : ℕ) (table : Table)
    → (facts_by state image kept.layout).table_of n ≡ Some table
    → (facts_by state pool kept.of_pool).table_of n ≡ Some table
in_pool_too form size o h state pool image kept n table is = table_in_pool (stands_of kept.layout)
    (stands_of kept.of_pool) kept.behind.stands
    (tables_once form size state pool kept.of_pool kept.in_pool kept.pool_sound) n table is
