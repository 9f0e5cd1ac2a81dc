-- Versions of a record are skipped, from the pool to one overlay.
use Rattle.mg_base.specs.Fields.{byte}
use Rattle.mg_base.specs.declared.numbers.RecId.{RecId}
use Rattle.mg_base.specs.declared.transaction.TxState.{TxState}
use Rattle.mg_image.specs.Form.{Form, Pages}
use Rattle.mg_image.specs.Held.{AreChanges, IsHeld}
use Rattle.mg_image.specs.RecordRules.{AreOnce, Facts, committed_in, table_in}
use Rattle.mg_image.specs.Records.{Reading, cells_of, slot_cell}
use Rattle.mg_image.specs.Sound.{IsSoundBy, facts_by}
use Rattle.mg_image.specs.StepLaws.{put_reading}
use Rattle.mg_image_overlay_laws.specs.records.SkipFronts.{image_once, is_there, skip_fronts_in, skip_fronts_out, skip_records}
use Rattle.mg_image_overlay_laws.specs.records.SkipShown.{skip_changes, skip_held, skip_indexed, skip_owns, skip_shows_with}
use Rattle.mg_image_overlay_laws.specs.records.Skips.{IsCommittedAt, LeadsInto, RelinksCell, behind, skip_at, skip_sound}
use Rattle.mg_image_overlay_laws.specs.pages.DataPages.{ChangesData}
use Rattle.mg_image_overlay_laws.specs.pages.DataSound.{data_sound, facts_same}
use Rattle.mg_image_overlay_laws.specs.records.Fronts.{HasFronts}
use Rattle.mg_image_overlay_laws.specs.kept.Rest.{LeavesRest}
use Rattle.mg_image_overlay_laws.specs.kept.KeptImages.{IsKept}
use Rattle.mg_model.specs.History.{Entries}
use Rattle.mg_model.specs.declared.opening.Opening.{Opening}
use Rattle.mg_model.specs.declared.table.Table.{Table}
use Rattle.mg_overlay_laws.specs.Views.{LaysPage}
use Rattle.mg_image_overlay_laws.specs.pages.Behind.{behind_in, behind_out}
use Rattle.mg_slots.specs.DataPage.{cell_of}
use Rattle.mg_version.specs.declared.cell.Link.{Link}
use Rattle.mg_version.specs.declared.cell.Version.{Version}
use Rattle.std.proofs.Common.{Bool, List, Option, Some, ap, inl, inr, subst, sym, ℕ, ◌∙◌, ◌≡◌, ◌≢◌, ◌⊎◌}
use Rattle.std.proofs.lemmas.Bool.{cases_eq}

-- The pool's page b has the version at x, which leads on by this link, and else the cells that it had.
pub record RelinksPage (in_primary : Bool) (pool changed : Pages) (b : ℕ) (x : RecId) (v : Version)
    (back : Option Link) : Type 0 where
  pub page : ChangesData in_primary pool changed b
  pub cut : RelinksCell (cells_of pool) (cells_of changed) x v back
  pub here : x.page.0 ≡ b

module _ (in_primary : Bool) (pool changed image laid : Pages) (b : ℕ) (x : RecId) (v : Version)
    (back : Option Link) (cuts : RelinksPage in_primary pool changed b x v back) (lays : LaysPage pool changed image laid b) where
  pub laid_page : ChangesData in_primary image laid b
  laid_page = record {
    others = lays.others;
    below = cuts.page.below;
    kind = ap (λ (page : List ℕ). byte page 0) lays.was ∙ cuts.page.kind;
    common = rw (lays.is, lays.was) cuts.page.common;
    len = rw (lays.is, lays.was) cuts.page.len;
    lawful = rw lays.is cuts.page.lawful;
    cells = rw lays.is cuts.page.cells;
  }

  pub cells_was : (y : RecId) → y.page.0 ≡ b → cells_of image y ≡ cells_of pool y
  cells_was y on = ap (λ (page : List ℕ). slot_cell (cell_of page y.slot))
      (ap image on ∙ (lays.was ∙ ap pool (sym on)))

  pub cells_is : (y : RecId) → y.page.0 ≡ b → cells_of laid y ≡ cells_of changed y
  cells_is y on = ap (λ (page : List ℕ). slot_cell (cell_of page y.slot))
      (ap laid on ∙ (lays.is ∙ ap changed (sym on)))

  pub laid_cut : RelinksCell (cells_of image) (cells_of laid) x v back
  laid_cut = record {
    was = cells_was x cuts.here ∙ cuts.cut.was;
    change = record {
      here = cells_is x cuts.here ∙ cuts.cut.change.here;
      others = λ y ne. others y ne (cases_eq y.page.0 b);
    };
  }
    where
      others : (y : RecId) → y ≢ x → (y.page.0 ≡ b) ⊎ (y.page.0 ≢ b)
          → cells_of laid y ≡ cells_of image y
      others y ne (inl on) = cells_is y on ∙ (cuts.cut.change.others y ne ∙ sym (cells_was y on))
      others y ne (inr off) = ap (λ (page : List ℕ). slot_cell (cell_of page y.slot))
          (lays.others y.page.0 off)

module _ (form : Form) (size : ℕ) (o : Opening) (h : Entries) (state : ℕ → TxState)
    (pool changed image : Pages) (b : ℕ) (p x : RecId) (v : Version) (back : Option Link) (table : Table)
    (kept : IsKept form size o h state pool image)
    (cuts : RelinksPage form.in_primary pool changed b x v back)
    (of : table_in (facts_by state pool kept.of_pool) p ≡ Some table)
    (is : IsCommittedAt (facts_by state pool kept.of_pool) x (kept.in_pool p))
    (leads : LeadsInto back (behind x (kept.in_pool p)))
    (rest : LeavesRest form size pool changed kept.of_pool) where
  abbrev f : Facts
  f = facts_by state pool kept.of_pool

  abbrev g : Facts
  g = facts_by state image kept.layout

  once : AreOnce (kept.in_pool p)
  once = (kept.pool_sound.records.each p table of).once

  abbrev pool_reading : Reading
  pool_reading = put_reading kept.in_pool p (skip_at x back (kept.in_pool p))

  pub pool_after : IsSoundBy form size state changed kept.of_pool pool_reading
  pool_after = data_sound form size state pool changed b kept.of_pool kept.in_pool pool_reading
      kept.pool_sound cuts.page rest.trees
      (skip_sound form.coding f (cells_of pool) (cells_of changed) kept.in_pool p x v back table
      kept.pool_sound.records of cuts.cut is leads)
      (skip_shows_with f kept.in_pool p x back once is)
      (skip_owns f kept.in_pool p x back once is kept.of_pool.catalog.table kept.pool_sound.own_tables)
      (skip_indexed f kept.in_pool p x back once is changed pool rest.trees.found kept.pool_sound.indexed)
      rest.sequences

  pub pool_facts : facts_by state changed kept.of_pool ≡ f
  pool_facts = facts_same form size state pool changed b kept.of_pool kept.in_pool pool_reading
      kept.pool_sound cuts.page rest.trees

  -- an overlay without the page
  unfoldable pub skip_out : IsKept form size o h state changed image
  skip_out = record {
    of_pool = kept.of_pool;
    in_pool = pool_reading;
    layout = kept.layout;
    reading = kept.reading;
    sound = kept.sound;
    pool_sound = pool_after;
    behind = behind_out form.in_primary size state form pool changed b kept.of_pool kept.in_pool
        kept.pool_sound cuts.page image image kept.layout kept.reading kept.sound kept.behind;
    fronts = subst (λ (e : Facts). HasFronts e g pool_reading kept.reading) (sym pool_facts)
        (skip_fronts_out form.coding f g (cells_of pool) kept.in_pool kept.reading p x back table
        (cells_of image) kept.pool_sound.records kept.sound.records kept.fronts of is leads);
    rows = kept.rows;
    held = kept.held;
    rows_are = kept.rows_are;
    changes = kept.changes;
    changed = kept.changed;
    changes_are = kept.changes_are;
  }

  -- an overlay with it
  module _ (laid : Pages) (lays : LaysPage pool changed image laid b)
      (rest_laid : LeavesRest form size image laid kept.layout) where
    pub change : ChangesData form.in_primary image laid b
    change = laid_page form.in_primary pool changed image laid b x v back cuts lays

    pub there : IsCommittedAt g x (kept.reading p)
    there = is_there form.coding f g (cells_of pool) kept.in_pool kept.reading p x back table
        (cells_of image) kept.pool_sound.records kept.sound.records kept.fronts of is leads

    pub once_there : AreOnce (kept.reading p)
    once_there = image_once form.coding f g (cells_of pool) kept.in_pool kept.reading p x back table
        (cells_of image) kept.pool_sound.records kept.sound.records kept.fronts of is leads

    abbrev reading_after : Reading
    reading_after = put_reading kept.reading p (skip_at x back (kept.reading p))

    pub facts_after : facts_by state laid kept.layout ≡ g
    facts_after = facts_same form size state image laid b kept.layout kept.reading reading_after
        kept.sound change rest_laid.trees

    unfoldable pub skip_in : IsKept form size o h state changed laid
    skip_in = record {
      of_pool = kept.of_pool;
      in_pool = pool_reading;
      layout = kept.layout;
      reading = reading_after;
      sound = data_sound form size state image laid b kept.layout kept.reading reading_after
          kept.sound change rest_laid.trees
          (skip_records form.coding f g (cells_of pool) kept.in_pool kept.reading p x back table
          (cells_of image) kept.pool_sound.records kept.sound.records kept.fronts of is leads
          (cells_of laid) v (laid_cut form.in_primary pool changed image laid b x v back cuts lays))
          (skip_shows_with g kept.reading p x back once_there there)
          (skip_owns g kept.reading p x back once_there there kept.layout.catalog.table
          kept.sound.own_tables)
          (skip_indexed g kept.reading p x back once_there there laid image rest_laid.trees.found
          kept.sound.indexed) rest_laid.sequences;
      pool_sound = pool_after;
      behind = behind_in form.in_primary size state form pool changed b kept.of_pool kept.in_pool
          kept.pool_sound cuts.page image laid kept.layout kept.reading kept.sound kept.behind change;
      fronts = subst (λ (e : Facts). HasFronts e (facts_by state laid kept.layout) pool_reading
          reading_after) (sym pool_facts) (subst (λ (e : Facts). HasFronts f e pool_reading
          reading_after) (sym facts_after)
          (skip_fronts_in form.coding f g (cells_of pool) kept.in_pool kept.reading p x back table
          (cells_of image) kept.pool_sound.records kept.sound.records kept.fronts of is leads));
      rows = kept.rows;
      held = subst (λ (e : Facts). IsHeld e (committed_in e) reading_after kept.rows)
          (sym facts_after) (skip_held g kept.reading p x back once_there there kept.rows kept.held);
      rows_are = kept.rows_are;
      changes = kept.changes;
      changed = subst (λ (e : Facts). AreChanges e reading_after kept.changes) (sym facts_after)
          (skip_changes g kept.reading p x back once_there there kept.changes kept.changed);
      changes_are = kept.changes_are;
    }
