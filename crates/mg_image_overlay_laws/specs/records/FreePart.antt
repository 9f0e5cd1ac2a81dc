-- A cell that no record reads any longer is freed: on an image that has the page of the slot that led to
-- it, or on one that has neither.
use Rattle.std.proofs.Common.{◌≡◌, sym, subst, ◌∙◌, refl, ℕ, Bool, true, false, None, Some}
use Rattle.mg_base.specs.declared.numbers.RecId.{RecId}
use Rattle.mg_base.specs.declared.transaction.TxState.{TxState}
use Rattle.mg_careful.specs.CarefulWrite.{PageSet}
use Rattle.mg_version.specs.declared.cell.Cell.TheVariants as cells
use Rattle.mg_version.specs.declared.cell.Version.{Version}
use Rattle.mg_model.specs.declared.opening.Opening.{Opening}
use Rattle.mg_model.specs.History.{Entries}
use Rattle.mg_image.specs.Form.{Form, Pages}
use Rattle.mg_image.specs.Records.{Changes, Reading, Stands, cells_of}
use Rattle.mg_image.specs.Sound.{IsSoundBy, facts_by}
use Rattle.mg_image.specs.Tables.{Layout}
use Rattle.mg_image_overlay_laws.specs.pages.DataPages.{ChangesData}
use Rattle.mg_image_overlay_laws.specs.kept.Rest.{LeavesRest, LeavesRests}
use Rattle.mg_image_overlay_laws.specs.kept.KeptImages.{IsKept}
use Rattle.mg_overlay_laws.specs.Views.{LaysPage, partly, step_in, step_out}
use Rattle.mg_image_overlay_laws.specs.records.TakeOut.{free_sound}
use Rattle.mg_image_overlay_laws.specs.records.DeadSteps.{StepsDead, dead_in, dead_out}
use Rattle.mg_image_overlay_laws.specs.records.PushPart.{cells_alike, cells_laid, page_laid}

-- A version's cell is freed on its page.
pub record FreesPage (in_primary : Bool) (old new : Pages) (x : RecId) (v : Version) : Type 0 where
  pub page : ChangesData in_primary old new x.page.0
  pub cell : cells_of old x ≡ Some (cells.Version v)
  pub apart : v.primary ≡ false
  pub freed : Changes (cells_of old) (cells_of new) x None

-- No record comes to a cell, in the pool, and in an image where that has the page of the slot that led to
-- it.
pub record IsTurned (form : Form) (size : ℕ) (o : Opening) (h : Entries) (state : ℕ → TxState)
    (pool : Pages) (x : RecId) (has_slot : Bool) (image : Pages) : Type 0 where
  pub kept : IsKept form size o h state pool image
  pub pool_unread : (q : RecId) → Stands (kept.in_pool q) x → ⊥
  pub unread : has_slot ≡ true → (q : RecId) → Stands (kept.reading q) x → ⊥

module _ (form : Form) (size : ℕ) (o : Opening) (h : Entries) (state : ℕ → TxState)
    (pool changed : Pages) (x : RecId) (v : Version)
    (frees : FreesPage form.in_primary pool changed x v) (rest : LeavesRests form size x.page.0) where
  free_step : (old new : Pages) (layout : Layout) (r : Reading) → IsSoundBy form size state old layout r
      → ChangesData form.in_primary old new x.page.0
      → cells_of old x ≡ Some (cells.Version v) → Changes (cells_of old) (cells_of new) x None
      → ((q : RecId) → Stands (r q) x → ⊥)
      → StepsDead form state size old new x.page.0 (facts_by state old layout) r r
  free_step old new layout r sound page cell freed unread = record {
    page = page;
    records = free_sound form.coding (facts_by state old layout) (cells_of old) (cells_of new) r x v
        sound.records cell frees.apart freed unread;
    same = λ q. refl;
  }

  module _ (has_slot : Bool) (image : Pages)
      (turned : IsTurned form size o h state pool x has_slot image) where
    rest_pool : LeavesRest form size pool changed turned.kept.of_pool
    rest_pool = rest state pool changed turned.kept.of_pool turned.kept.in_pool turned.kept.pool_sound
        frees.page

    pool_frees : StepsDead form state size pool changed x.page.0
        (facts_by state pool turned.kept.of_pool) turned.kept.in_pool turned.kept.in_pool
    pool_frees = free_step pool changed turned.kept.of_pool turned.kept.in_pool turned.kept.pool_sound
        frees.page frees.cell frees.freed turned.pool_unread

    pub free_out : IsKept form size o h state changed image
    free_out = dead_out form size o h state pool changed image x.page.0 turned.kept turned.kept.in_pool
        pool_frees rest_pool

    pub free_in : has_slot ≡ true → (laid_ : Pages) → LaysPage pool changed image laid_ x.page.0
        → IsKept form size o h state changed laid_
    free_in here laid_ lays = dead_in form size o h state pool changed image x.page.0 turned.kept
        turned.kept.in_pool pool_frees rest_pool laid_ turned.kept.reading
        (free_step image laid_ turned.kept.layout turned.kept.reading turned.kept.sound page
        (cells_alike pool image x x.page.0 refl lays.was ∙ frees.cell)
        (cells_laid pool changed image laid_ x.page.0 x None refl lays frees.freed) (turned.unread here))
        (rest state image laid_ turned.kept.layout turned.kept.reading turned.kept.sound page)
      where
        page : ChangesData form.in_primary image laid_ x.page.0
        page = page_laid form.in_primary pool changed image laid_ x.page.0 frees.page lays

  -- as a step of the views of a batch, where the freed cell's page comes only with the slot's
  pub free_views : (set_ : PageSet) (image : Pages) (slot_page : ℕ)
      → (set_ x.page.0 ≡ true → set_ slot_page ≡ true)
      → IsTurned form size o h state pool x (set_ slot_page) (partly set_ pool image)
      → IsKept form size o h state changed (partly set_ changed image)
  free_views set_ image slot_page with_slot turned = by (set_ x.page.0) refl
    where
      by : (c : Bool) → set_ x.page.0 ≡ c → IsKept form size o h state changed (partly set_ changed image)
      by true in_set = free_in (set_ slot_page) (partly set_ pool image) turned (with_slot in_set)
          (partly set_ changed image)
          (step_in set_ pool changed image x.page.0 frees.page.others in_set)
      by false out = subst (IsKept form size o h state changed)
          (sym (step_out set_ pool changed image x.page.0 frees.page.others out))
          (free_out (set_ slot_page) (partly set_ pool image) turned)
