-- One data page is changed so that of each record the same versions count, or it goes and showed
-- nothing: what an overlay has to be it is afterwards.
use Rattle.mg_base.specs.declared.numbers.RecId.{RecId}
use Rattle.mg_base.specs.declared.transaction.TxState.{TxState}
use Rattle.mg_image.specs.Form.{Form, Pages}
use Rattle.mg_image.specs.Held.{AreChanges, IsHeld}
use Rattle.mg_image.specs.RecordRules.{AreRecords, Facts, committed_in}
use Rattle.mg_image.specs.Records.{Reading, cells_of}
use Rattle.mg_image.specs.Sound.{IsSoundBy, facts_by}
use Rattle.mg_image.specs.declared.entry.Entry.{Entry}
use Rattle.mg_image_overlay_laws.specs.pages.DataPages.{ChangesData}
use Rattle.mg_image_overlay_laws.specs.pages.DataSound.{data_sound, facts_same}
use Rattle.mg_image_overlay_laws.specs.records.Fronts.{HasFronts, IsFront, living}
use Rattle.mg_image_overlay_laws.specs.records.QuietVersions.{AreQuiet, IsQuiet, changes_still, held_still, indexed_still, owns_still, shows_with}
use Rattle.mg_image_overlay_laws.specs.kept.Rest.{LeavesRest}
use Rattle.mg_image_overlay_laws.specs.kept.KeptImages.{IsKept}
use Rattle.mg_model.specs.History.{Entries}
use Rattle.mg_model.specs.declared.opening.Opening.{Opening}
use Rattle.mg_image_overlay_laws.specs.pages.Behind.{behind_in, behind_out}
use Rattle.std.proofs.Common.{List, [], inl, inr, subst, sym, ℕ, ◌≡◌, ◌⊎◌}

-- One data page of an image is changed, its records are lawful, and each of them is as before, or goes
-- and showed nothing.
pub record StepsQuietly (form : Form) (state : ℕ → TxState) (size : ℕ) (old new : Pages) (b : ℕ)
    (f : Facts) (r s : Reading) : Type 0 where
  pub page : ChangesData form.in_primary old new b
  pub records : AreRecords form.coding f (cells_of new) s
  pub quiet : AreQuiet f r s

-- where a record goes from an image, the pool has no version of it that counts
abbrev pub GoesAsPool : Facts → Facts → Reading → Reading → Reading → Type 0
GoesAsPool f g pool_after r s = (q : RecId) → (living g.state (s q) ≡ living g.state (r q))
    ⊎ (living f.state (pool_after q) ≡ [])

module _ (form : Form) (size : ℕ) (o : Opening) (h : Entries) (state : ℕ → TxState)
    (pool changed image : Pages) (b : ℕ) (kept : IsKept form size o h state pool image)
    (pool_after : Reading)
    (step : StepsQuietly form state size pool changed b (facts_by state pool kept.of_pool) kept.in_pool
    pool_after)
    (rest : LeavesRest form size pool changed kept.of_pool) where
  abbrev f : Facts
  f = facts_by state pool kept.of_pool

  abbrev g : Facts
  g = facts_by state image kept.layout

  pub pool_sound_after : IsSoundBy form size state changed kept.of_pool pool_after
  pool_sound_after = data_sound form size state pool changed b kept.of_pool kept.in_pool pool_after
      kept.pool_sound step.page rest.trees step.records
      (shows_with form.coding f (cells_of pool) (cells_of changed) kept.in_pool pool_after
      kept.pool_sound.records step.records step.quiet)
      (owns_still form.coding f (cells_of pool) (cells_of changed) kept.in_pool pool_after
      kept.pool_sound.records step.records step.quiet kept.of_pool.catalog.table
      kept.pool_sound.own_tables)
      (indexed_still form.coding f (cells_of pool) (cells_of changed) kept.in_pool pool_after
      kept.pool_sound.records step.records step.quiet pool changed rest.trees.found
      kept.pool_sound.indexed) rest.sequences

  pub pool_facts : facts_by state changed kept.of_pool ≡ f
  pool_facts = facts_same form size state pool changed b kept.of_pool kept.in_pool pool_after
      kept.pool_sound step.page rest.trees

  pub fronts_out : HasFronts f g pool_after kept.reading
  fronts_out = record { state = kept.fronts.state; fronts = λ q. front q (step.quiet q) }
    where
      front : (q : RecId) → IsQuiet f (kept.in_pool q) (pool_after q)
          → IsFront state (living f.state (pool_after q)) (living g.state (kept.reading q))
      front q (inl same) = subst (λ (ds : List Entry). IsFront state ds (living g.state (kept.reading q)))
          (sym same) (kept.fronts.fronts q)
      front q (inr goes) = subst (λ (ds : List Entry). IsFront state ds (living g.state (kept.reading q)))
          (sym goes.gone) tt

  -- an overlay without the page
  unfoldable pub quiet_out : IsKept form size o h state changed image
  quiet_out = record {
    of_pool = kept.of_pool;
    in_pool = pool_after;
    layout = kept.layout;
    reading = kept.reading;
    sound = kept.sound;
    pool_sound = pool_sound_after;
    behind = behind_out form.in_primary size state form pool changed b kept.of_pool kept.in_pool
        kept.pool_sound step.page image image kept.layout kept.reading kept.sound kept.behind;
    fronts = subst (λ (e : Facts). HasFronts e g pool_after kept.reading) (sym pool_facts) fronts_out;
    rows = kept.rows;
    held = kept.held;
    rows_are = kept.rows_are;
    changes = kept.changes;
    changed = kept.changed;
    changes_are = kept.changes_are;
  }

  -- an overlay with it
  module _ (laid : Pages) (after : Reading)
      (also : StepsQuietly form state size image laid b g kept.reading after)
      (as_pool : GoesAsPool f g pool_after kept.reading after)
      (rest_laid : LeavesRest form size image laid kept.layout) where
    pub facts_after : facts_by state laid kept.layout ≡ g
    facts_after = facts_same form size state image laid b kept.layout kept.reading after kept.sound
        also.page rest_laid.trees

    pub fronts_in : HasFronts f g pool_after after
    fronts_in = record { state = kept.fronts.state; fronts = λ q. front q (as_pool q) }
      where
        front : (q : RecId) → (living g.state (after q) ≡ living g.state (kept.reading q))
            ⊎ (living f.state (pool_after q) ≡ [])
            → IsFront state (living f.state (pool_after q)) (living g.state (after q))
        front q (inl same) = subst (λ (es : List Entry). IsFront state (living f.state (pool_after q)) es)
            (sym same) (fronts_out.fronts q)
        front q (inr none) = subst (λ (ds : List Entry). IsFront state ds (living g.state (after q)))
            (sym none) tt

    unfoldable pub quiet_in : IsKept form size o h state changed laid
    quiet_in = record {
      of_pool = kept.of_pool;
      in_pool = pool_after;
      layout = kept.layout;
      reading = after;
      sound = data_sound form size state image laid b kept.layout kept.reading after kept.sound
          also.page rest_laid.trees also.records
          (shows_with form.coding g (cells_of image) (cells_of laid) kept.reading after
          kept.sound.records also.records also.quiet)
          (owns_still form.coding g (cells_of image) (cells_of laid) kept.reading after
          kept.sound.records also.records also.quiet kept.layout.catalog.table kept.sound.own_tables)
          (indexed_still form.coding g (cells_of image) (cells_of laid) kept.reading after
          kept.sound.records also.records also.quiet image laid rest_laid.trees.found
          kept.sound.indexed) rest_laid.sequences;
      pool_sound = pool_sound_after;
      behind = behind_in form.in_primary size state form pool changed b kept.of_pool kept.in_pool
          kept.pool_sound step.page image laid kept.layout kept.reading kept.sound kept.behind also.page;
      fronts = subst (λ (e : Facts). HasFronts e (facts_by state laid kept.layout) pool_after after)
          (sym pool_facts) (subst (λ (e : Facts). HasFronts f e pool_after after) (sym facts_after)
          fronts_in);
      rows = kept.rows;
      held = subst (λ (e : Facts). IsHeld e (committed_in e) after kept.rows) (sym facts_after)
          (held_still form.coding g (cells_of image) (cells_of laid) kept.reading after
          kept.sound.records also.records also.quiet kept.rows kept.held);
      rows_are = kept.rows_are;
      changes = kept.changes;
      changed = subst (λ (e : Facts). AreChanges e after kept.changes) (sym facts_after)
          (changes_still form.coding g (cells_of image) (cells_of laid) kept.reading after
          kept.sound.records also.records also.quiet kept.changes kept.changed);
      changes_are = kept.changes_are;
    }
