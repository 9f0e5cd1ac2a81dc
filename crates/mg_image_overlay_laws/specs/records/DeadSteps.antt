-- A writer that counts as dead changes one data page: what an overlay has to be it is afterwards.
use Rattle.mg_base.specs.declared.transaction.TxState.{TxState}
use Rattle.mg_image.specs.Form.{Form, Pages}
use Rattle.mg_image.specs.RecordRules.{AreRecords, Facts}
use Rattle.mg_image.specs.Records.{Reading, cells_of}
use Rattle.mg_image.specs.Sound.{facts_by}
use Rattle.mg_image_overlay_laws.specs.pages.DataPages.{ChangesData}
use Rattle.mg_image_overlay_laws.specs.records.QuietVersions.{SameLiving}
use Rattle.mg_image_overlay_laws.specs.kept.Rest.{LeavesRest}
use Rattle.mg_image_overlay_laws.specs.kept.KeptImages.{IsKept}
use Rattle.mg_model.specs.History.{Entries}
use Rattle.mg_model.specs.declared.opening.Opening.{Opening}
use Rattle.mg_image_overlay_laws.specs.records.QuietSteps.{StepsQuietly, quiet_in, quiet_out}
use Rattle.std.proofs.Common.{inl, ℕ}

-- One data page of an image is changed, its records are lawful, and of each the same versions count.
pub record StepsDead (form : Form) (state : ℕ → TxState) (size : ℕ) (old new : Pages) (b : ℕ)
    (f : Facts) (r s : Reading) : Type 0 where
  pub page : ChangesData form.in_primary old new b
  pub records : AreRecords form.coding f (cells_of new) s
  pub same : SameLiving f r s

pub quiet_step : (form : Form) (state : ℕ → TxState) (size : ℕ) (old new : Pages) (b : ℕ)
    (f : Facts) (r s : Reading) → StepsDead form state size old new b f r s
    → StepsQuietly form state size old new b f r s
quiet_step form state size old new b f r s step = record {
  page = step.page;
  records = step.records;
  quiet = λ q. inl (step.same q);
}

module _ (form : Form) (size : ℕ) (o : Opening) (h : Entries) (state : ℕ → TxState)
    (pool changed image : Pages) (b : ℕ) (kept : IsKept form size o h state pool image)
    (pool_after : Reading)
    (step : StepsDead form state size pool changed b (facts_by state pool kept.of_pool) kept.in_pool
    pool_after)
    (rest : LeavesRest form size pool changed kept.of_pool) where
  -- an overlay without the page
  unfoldable pub dead_out : IsKept form size o h state changed image
  dead_out = quiet_out form size o h state pool changed image b kept pool_after
      (quiet_step form state size pool changed b (facts_by state pool kept.of_pool) kept.in_pool pool_after
      step) rest

  -- an overlay with it
  unfoldable pub dead_in : (laid : Pages) (after : Reading)
      → StepsDead form state size image laid b (facts_by state image kept.layout) kept.reading after
      → LeavesRest form size image laid kept.layout → IsKept form size o h state changed laid
  dead_in laid after also rest_laid = quiet_in form size o h state pool changed image b kept pool_after
      (quiet_step form state size pool changed b (facts_by state pool kept.of_pool) kept.in_pool pool_after
      step) rest laid after
      (quiet_step form state size image laid b (facts_by state image kept.layout) kept.reading after also)
      (λ q. inl (also.same q)) rest_laid
