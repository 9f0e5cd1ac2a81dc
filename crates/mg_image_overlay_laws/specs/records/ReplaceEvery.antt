-- A transaction replaces its own version of a record in its place, from the pool's change to every
-- overlay.
use Rattle.std.proofs.Common.{◌≡◌, ◌≢◌, ap, sym, subst, ◌∙◌, refl, inl, inr, ℕ, Bool, true, false, List, ◌∷◌, Option}
use Rattle.std.proofs.Math.Path.{fun_ext}
use Rattle.mg_base.specs.declared.numbers.RecId.{RecId}
use Rattle.mg_base.specs.declared.transaction.TxState.{TxState}
use Rattle.mg_base.specs.declared.transaction.TxState.TheVariants.{Active, Committed, Dead, Limbo}
use Rattle.mg_careful.specs.CarefulWrite.{Cache, PageSet}
use Rattle.mg_careful.specs.Precedence.{Orders}
use Rattle.mg_version.specs.declared.cell.Version.{Version}
use Rattle.mg_model.specs.declared.opening.Opening.{Opening}
use Rattle.mg_model.specs.declared.table.Table.{Table}
use Rattle.mg_model.specs.History.{Entries, Entry as Event}
use Rattle.mg_image.specs.declared.entry.Entry.{Entry}
use Rattle.mg_image.specs.Catalog.{MayStandIn}
use Rattle.mg_image.specs.FactLaws.{each_has}
use Rattle.mg_image.specs.Form.{Form, Pages}
use Rattle.mg_image.specs.Indexes.{IsFoundIn}
use Rattle.mg_image.specs.ReadingLaws.{RowsAreOne}
use Rattle.mg_image.specs.RecordRules.{AreRecords, Each, Facts, IsVersion, TakesKey, committed_in}
use Rattle.mg_image.specs.Records.{Reading, Stands, cells_of, key_of, record_key, shown, writer}
use Rattle.mg_image.specs.Sound.{IsSoundBy, facts_by}
use Rattle.mg_image.specs.StepLaws.{put_cases, put_reading}
use Rattle.mg_image.specs.Tables.{Layout}
use Rattle.mg_image_overlay_laws.specs.pages.Kinds.{HasNoSequences}
use Rattle.mg_image_overlay_laws.specs.kept.Rest.{LeavesRests}
use Rattle.mg_image_overlay_laws.specs.pages.Trees.{data_leaves, trees_stay}
use Rattle.mg_image_overlay_laws.specs.transactions.CommitLaws.{LeavesOthers}
use Rattle.mg_image_overlay_laws.specs.transactions.EndLaws.{longer_for}
use Rattle.mg_image_overlay_laws.specs.kept.KeptImages.{IsKept, keeping}
use Rattle.mg_overlay_laws.specs.BatchLaws.{change_keeps}
use Rattle.mg_overlay_laws.specs.Overlays.{ChangesCache, EveryOverlay, KeepsNeeds, LaysBatch, NeedsAllDirty, laid, left_state}
use Rattle.mg_image_overlay_laws.specs.records.OwnVersion.{FindsOwn, RewritesRow, may_overwrite, stands_as}
use Rattle.mg_image_overlay_laws.specs.records.Overwrite.{not_committed, over_at, over_not, over_reading, over_records, over_there}
use Rattle.mg_image_overlay_laws.specs.records.ReplacePart.{ReplacesPage, replace_part}
use Rattle.mg_image_overlay_laws.specs.records.OwnWrites.{own_kept}

-- ---- whole: on the pool's own image, with the writer in limbo

module _ (form : Form) (one : RowsAreOne form.coding) (size : ℕ) (o : Opening) (h : Entries)
    (event : Event) (by : ℕ) (state : ℕ → TxState) (pool changed : Pages) (p : RecId) (table : Table)
    (v : Version) (n : Entry) (replaces : ReplacesPage form.in_primary pool changed v n)
    (finds : (layout : Layout) (r : Reading) → IsSoundBy form size state pool layout r
    → FindsOwn form.coding (facts_by state pool layout) r p table n.at v n)
    (rest : LeavesRests form size n.at.page.0) (limbo : state (writer n) ≡ Limbo)
    (brings : LeavesOthers o h event by)
    (kept : IsKept form size o h state pool pool)
    (row : RewritesRow form size o h event state pool changed p table n kept) where
  abbrev g : Facts
  g = facts_by state pool kept.layout

  own_found : FindsOwn form.coding g kept.reading p table n.at v n
  own_found = finds kept.layout kept.reading kept.sound

  abbrev older : List Entry
  older = own_found.found.older

  open_ : state (writer n) ≢ Committed
  open_ is = let both : Limbo ≡ Committed = sym limbo ∙ is in absurd cc

  -- the newest version was the writer's
  writer_was : writer own_found.found.newest ≡ writer n
  writer_was = ap (λ (w : Version). w.tx.0) own_found.found.version
      ∙ ap (λ t. t.0) (sym replaces.over.tx)

  stood : Stands (kept.reading p) n.at
  stood = subst (λ (es : List Entry). Stands es n.at) (sym own_found.found.first)
      (inl own_found.found.at)

  reading_is : over_reading n kept.reading ≡ put_reading kept.reading p (n ∷ older)
  reading_is = fun_ext (put_cases kept.reading p (n ∷ older) (λ q fs. over_at n (kept.reading q) ≡ fs)
      (ap (over_at n) own_found.found.first
      ∙ over_there n own_found.found.newest older own_found.found.at)
      (λ q ne. over_not n (kept.reading q) (λ there. ne (kept.sound.records.apart q p n.at there stood))))

  records : AreRecords form.coding g (cells_of changed) (put_reading kept.reading p (n ∷ older))
  records = subst (AreRecords form.coding g (cells_of changed)) reading_is
      (over_records form.coding g (cells_of pool) (cells_of changed) kept.reading v n kept.sound.records
      replaces.over open_ (may_overwrite form.coding one g g (cells_of pool) kept.reading p table v n
      kept.sound.records own_found (λ t is. is) replaces.over.tx))

  keyed : Each (λ e. key_of table e.row ≡ key_of table n.row) (kept.reading p)
  keyed = each_has (IsVersion form.coding g table (record_key table (kept.reading p)))
      (λ e. key_of table e.row ≡ key_of table n.row) (λ e is. is.keyed ∙ sym own_found.lawful.keyed)
      (kept.reading p) (kept.sound.records.each p table own_found.found.of).each

  off : committed_in g (writer n) ≡ false
  off = not_committed (state (writer n)) open_

  shows : shown (committed_in g) (n ∷ older) ≡ shown (committed_in g) (kept.reading p)
  shows =
      let was_off : committed_in g (writer own_found.found.newest) ≡ false =
      ap (committed_in g) writer_was ∙ off in
      let new_ : shown (committed_in g) (n ∷ older) ≡ shown (committed_in g) older = rw off refl in
      let old_ : shown (committed_in g) (own_found.found.newest ∷ older) ≡ shown (committed_in g) older =
      rw was_off refl in
      new_ ∙ (sym old_ ∙ ap (shown (committed_in g)) (sym own_found.found.first))

  -- the record has the key, so no other one has
  taken : TakesKey g (kept.reading p)
  taken = subst (TakesKey g) (sym own_found.found.first) (inr (ap state writer_was ∙ limbo))

  pub replace_whole : IsKept form size o (event ∷ h) state changed changed
  replace_whole = own_kept form size o h event state pool changed n.at.page.0 p table (writer n)
      (key_of table n.row) (n ∷ older) kept row.after (record {
        page = replaces.page;
        rest = rest state pool changed kept.layout kept.reading kept.sound replaces.page;
        records = records;
        writes = record {
          of = own_found.found.of;
          was = record {
            keyed = keyed;
            its = λ e es first in_limbo.
                let heads : own_found.found.newest ∷ older ≡ e ∷ es = sym own_found.found.first ∙ first in
                let head : own_found.found.newest ≡ e = cc in ap writer (sym head) ∙ writer_was;
          };
          is_ = record {
            keyed = (
              refl,
              (subst (Each (λ e. key_of table e.row ≡ key_of table n.row)) own_found.found.first keyed).1,
            );
            its = λ e es first in_limbo. let head : n ≡ e = cc in ap writer (sym head);
          };
          shows = shows;
          free = λ q ne of takes same. ne (kept.sound.records.keys q p table of own_found.found.of takes
              taken (same ∙ own_found.lawful.keyed));
        };
        turns = record { here = row.turns.here; others = row.turns.others };
        rows = brings.rows;
        after_are = row.after_are;
        no_catalog = row.no_catalog;
        stands = (
          stands_as g kept.reading kept.layout.catalog.table table own_found.found.newest n writer_was may.0,
          may.1,
        );
        found = λ e es first in_limbo alive.
            let head : n ≡ e = cc in
            subst (λ (x : Entry). IsFoundIn changed table.indexes p x.row) head
            (row.found (ap (λ (x : Entry). x.version.deleted) head ∙ alive));
      })
    where
      may : Each (MayStandIn g kept.reading kept.layout.catalog.table table)
          (own_found.found.newest ∷ older)
      may = subst (Each (MayStandIn g kept.reading kept.layout.catalog.table table)) own_found.found.first
          (kept.sound.own_tables p table own_found.found.of)

-- ---- the batch

-- an active transaction replaces its own version of a record in its place: every overlay is kept, for
-- the history with that write
abbrev pub ReplaceKeeps : Form → Type 0
ReplaceKeeps form = (size : ℕ) (o : Opening) (h : Entries) (event : Event) (by : ℕ)
    (state : ℕ → TxState) (old new : Cache) (gone : PageSet)
    (batch : ℕ → Option (List ℕ)) (orders : Orders) (needs now : ℕ → PageSet) (p : RecId)
    (table : Table) (v : Version) (n : Entry)
    → ChangesCache old new gone batch orders → state by ≡ Active → writer n ≡ by
    → KeepsNeeds old gone needs now → NeedsAllDirty new now by
    -- the page, and the record
    → ReplacesPage form.in_primary old.pool new.pool v n
    → ((chosen : ℕ → Bool) (layout : Layout) (r : Reading)
    → IsSoundBy form size (left_state chosen state) old.pool layout r
    → FindsOwn form.coding (facts_by (left_state chosen state) old.pool layout) r p table n.at v n)
    -- the history, and the statement
    → LeavesOthers o h event by
    → ((chosen : ℕ → Bool) → chosen by ≡ true
    → (kept : IsKept form size o h (left_state chosen state) old.pool old.pool)
    → RewritesRow form size o h event (left_state chosen state) old.pool new.pool p table n kept)
    → EveryOverlay (keeping form size o h) state old needs
    → EveryOverlay (keeping form size o (event ∷ h)) state new now

pub replace_every : (form : Form) → RowsAreOne form.coding → HasNoSequences form → ReplaceKeeps form
replace_every form one none size o h event by state old new gone batch orders needs now p table v n changes
    active is_by left all replaces finds brings writes every =
    change_keeps (keeping form size o h) (keeping form size o (event ∷ h)) state by old new gone batch
    orders needs now changes active left all (record { part = part; whole = whole }) every
  where
    rest : LeavesRests form size n.at.page.0
    rest = data_leaves form size n.at.page.0 none (trees_stay form size)

    part : (chosen : ℕ → Bool) (set_ : PageSet) (image : Pages) → chosen by ≡ false
        → LaysBatch old.pool new.pool batch orders set_ image
        → IsKept form size o h (left_state chosen state) old.pool old.pool
        → IsKept form size o h (left_state chosen state) old.pool image
        → IsKept form size o (event ∷ h) (left_state chosen state) new.pool (laid batch set_ image)
    part chosen set_ image out lays of_pool was = longer_for form size o h event by
        (left_state chosen state) new.pool (laid batch set_ image) brings not_limbo
        (replace_part form one size o h (left_state chosen state) old.pool new.pool p table v n replaces
        (finds chosen) rest dead batch orders set_ image lays was)
      where
        dead : left_state chosen state (writer n) ≡ Dead
        dead = rw (is_by, out, active) refl

        not_limbo : left_state chosen state by ≢ Limbo
        not_limbo is =
            let gone_ : left_state chosen state by ≡ Dead = rw (out, active) refl in
            let both : Dead ≡ Limbo = sym gone_ ∙ is in absurd cc

    whole : (chosen : ℕ → Bool) → chosen by ≡ true
        → IsKept form size o h (left_state chosen state) old.pool old.pool
        → IsKept form size o (event ∷ h) (left_state chosen state) new.pool new.pool
    whole chosen is start = replace_whole form one size o h event by (left_state chosen state) old.pool
        new.pool p table v n replaces (finds chosen) rest limbo brings start (writes chosen is start)
      where
        limbo : left_state chosen state (writer n) ≡ Limbo
        limbo = rw (is_by, is, active) refl
