-- Cells that no record reads any longer are freed, one after another.
use Rattle.std.proofs.Common.{◌≡◌, ◌≢◌, sym, subst, ◌∙◌, refl, ℕ, Bool, true, false, None}
use Rattle.mg_base.specs.declared.numbers.RecId.{RecId}
use Rattle.mg_base.specs.declared.transaction.TxState.{TxState}
use Rattle.mg_careful.specs.CarefulWrite.{PageSet}
use Rattle.mg_careful.specs.Precedence.{Orders}
use Rattle.mg_version.specs.declared.cell.Version.{Version}
use Rattle.mg_model.specs.declared.opening.Opening.{Opening}
use Rattle.mg_model.specs.History.{Entries}
use Rattle.mg_image.specs.Form.{Form, Pages}
use Rattle.mg_image.specs.Records.{Reading, Stands, cells_of}
use Rattle.mg_image.specs.Sound.{IsSoundBy, facts_by}
use Rattle.mg_image.specs.Tables.{Layout}
use Rattle.mg_image_overlay_laws.specs.kept.Rest.{LeavesRest, LeavesRests}
use Rattle.mg_image_overlay_laws.specs.kept.KeptImages.{IsKept}
use Rattle.mg_overlay_laws.specs.Views.{LaysPage, partly, step_in, step_out}
use Rattle.mg_image_overlay_laws.specs.records.FreePart.{FreesPage}
use Rattle.mg_image_overlay_laws.specs.records.TakeOut.{free_sound}
use Rattle.mg_image_overlay_laws.specs.records.DeadSteps.{StepsDead, dead_in, dead_out}
use Rattle.mg_image_overlay_laws.specs.records.PushPart.{cells_alike, cells_laid, page_laid}
use Rattle.mg_image_overlay_laws.specs.records.QuietSteps.{quiet_in, quiet_out}

-- some cells, as a test of their places
abbrev pub Places : Type 0
Places = RecId → Bool

-- These cells are freed, one after another: each is one of those that may be, and its page comes only
-- after a page.
pub data FreesAll (in_primary : Bool) (orders : Orders) (b : ℕ) (cells : Places) : Pages → Pages → Type 0
  where
    none_more : (pages : Pages) → FreesAll in_primary orders b cells pages pages
    one_more : (old mid new : Pages) (y : RecId) (v : Version) → cells y ≡ true
        → (y.page.0 ≢ b → orders b y.page.0 ≡ true) → FreesPage in_primary old mid y v
        → FreesAll in_primary orders b cells mid new → FreesAll in_primary orders b cells old new

-- No record comes to these cells, in the pool, and in an image where that has the page which led to them.
pub record IsUnread (form : Form) (size : ℕ) (o : Opening) (h : Entries) (state : ℕ → TxState)
    (pool : Pages) (cells : Places) (has_page : Bool) (image : Pages) : Type 0 where
  pub kept : IsKept form size o h state pool image
  pub pool_unread : (y : RecId) → cells y ≡ true → (q : RecId) → Stands (kept.in_pool q) y → ⊥
  pub unread : has_page ≡ true → (y : RecId) → cells y ≡ true → (q : RecId) → Stands (kept.reading q) y → ⊥

module _ (form : Form) (size : ℕ) (o : Opening) (h : Entries) (state : ℕ → TxState)
    (pool changed : Pages) (cells : Places) (y : RecId) (v : Version) (of : cells y ≡ true)
    (frees : FreesPage form.in_primary pool changed y v) (rest : LeavesRests form size y.page.0) where
  free_step : (old new : Pages) (layout : Layout) (r : Reading) → IsSoundBy form size state old layout r
      → FreesPage form.in_primary old new y v → ((q : RecId) → Stands (r q) y → ⊥)
      → StepsDead form state size old new y.page.0 (facts_by state old layout) r r
  free_step old new layout r sound freed unread = record {
    page = freed.page;
    records = free_sound form.coding (facts_by state old layout) (cells_of old) (cells_of new) r y v
        sound.records freed.cell freed.apart freed.freed unread;
    same = λ q. refl;
  }

  module _ (has_page : Bool) (image : Pages)
      (unread : IsUnread form size o h state pool cells has_page image) where
    rest_pool : LeavesRest form size pool changed unread.kept.of_pool
    rest_pool = rest state pool changed unread.kept.of_pool unread.kept.in_pool unread.kept.pool_sound
        frees.page

    pool_frees : StepsDead form state size pool changed y.page.0
        (facts_by state pool unread.kept.of_pool) unread.kept.in_pool unread.kept.in_pool
    pool_frees = free_step pool changed unread.kept.of_pool unread.kept.in_pool unread.kept.pool_sound frees
        (unread.pool_unread y of)

    free_out : IsUnread form size o h state changed cells has_page image
    unfolding dead_out quiet_out
    free_out = record {
      kept = dead_out form size o h state pool changed image y.page.0 unread.kept unread.kept.in_pool
          pool_frees rest_pool;
      pool_unread = unread.pool_unread;
      unread = unread.unread;
    }

    free_in : has_page ≡ true → (laid_ : Pages) → LaysPage pool changed image laid_ y.page.0
        → IsUnread form size o h state changed cells has_page laid_
    unfolding dead_in quiet_in
    free_in here laid_ lays = record {
      kept = dead_in form size o h state pool changed image y.page.0 unread.kept unread.kept.in_pool
          pool_frees rest_pool laid_ unread.kept.reading
          (free_step image laid_ unread.kept.layout unread.kept.reading unread.kept.sound there
          (unread.unread here y of))
          (rest state image laid_ unread.kept.layout unread.kept.reading unread.kept.sound there.page);
      pool_unread = unread.pool_unread;
      unread = unread.unread;
    }
      where
        there : FreesPage form.in_primary image laid_ y v
        there = record {
          page = page_laid form.in_primary pool changed image laid_ y.page.0 frees.page lays;
          cell = cells_alike pool image y y.page.0 refl lays.was ∙ frees.cell;
          apart = frees.apart;
          freed = cells_laid pool changed image laid_ y.page.0 y None refl lays frees.freed;
        }

  -- as a step of the views of a batch
  free_views : (set_ : PageSet) (image : Pages) (b : ℕ) → (set_ y.page.0 ≡ true → set_ b ≡ true)
      → IsUnread form size o h state pool cells (set_ b) (partly set_ pool image)
      → IsUnread form size o h state changed cells (set_ b) (partly set_ changed image)
  free_views set_ image b with_page unread = by (set_ y.page.0) refl
    where
      by : (c : Bool) → set_ y.page.0 ≡ c
          → IsUnread form size o h state changed cells (set_ b) (partly set_ changed image)
      by true in_set = free_in (set_ b) (partly set_ pool image) unread (with_page in_set)
          (partly set_ changed image) (step_in set_ pool changed image y.page.0 frees.page.others in_set)
      by false out = subst (IsUnread form size o h state changed cells (set_ b))
          (sym (step_out set_ pool changed image y.page.0 frees.page.others out))
          (free_out (set_ b) (partly set_ pool image) unread)

-- and all of them
pub free_all : (form : Form) (size : ℕ) (o : Opening) (h : Entries) (state : ℕ → TxState)
    (orders : Orders) (cells : Places) (set_ : PageSet) (image : Pages) (b : ℕ)
    → ((n : ℕ) → LeavesRests form size n)
    → ((n : ℕ) → (n ≢ b → orders b n ≡ true) → set_ n ≡ true → set_ b ≡ true)
    → (view next : Pages) → FreesAll form.in_primary orders b cells view next
    → IsUnread form size o h state view cells (set_ b) (partly set_ view image)
    → IsUnread form size o h state next cells (set_ b) (partly set_ next image)
free_all form size o h state orders cells set_ image b rest with_page view next (none_more pages) unread =
    unread
free_all form size o h state orders cells set_ image b rest with_page view next
    (one_more old mid new y v of ordered frees more) unread =
    free_all form size o h state orders cells set_ image b rest with_page mid new more
    (free_views form size o h state old mid cells y v of frees (rest y.page.0) set_ image b
    (with_page y.page.0 ordered) unread)
