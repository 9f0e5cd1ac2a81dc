-- A transaction's own version is replaced in its place, in part: on an image in which the writer counts
-- as dead, with the page or without.
use Rattle.std.proofs.Common.{◌≡◌, ◌≢◌, sym, subst, ◌∙◌, refl, ℕ, Bool, true, false, List, Option, Some}
use Rattle.mg_base.specs.declared.numbers.RecId.{RecId}
use Rattle.mg_base.specs.declared.transaction.TxState.{TxState}
use Rattle.mg_base.specs.declared.transaction.TxState.TheVariants.{Committed, Dead}
use Rattle.mg_careful.specs.CarefulWrite.{PageSet}
use Rattle.mg_careful.specs.Precedence.{Orders}
use Rattle.mg_version.specs.declared.cell.Cell.TheVariants as cells
use Rattle.mg_version.specs.declared.cell.Version.{Version}
use Rattle.mg_model.specs.declared.opening.Opening.{Opening}
use Rattle.mg_model.specs.declared.table.Table.{Table}
use Rattle.mg_model.specs.History.{Entries}
use Rattle.mg_image.specs.declared.entry.Entry.{Entry}
use Rattle.mg_image.specs.Form.{Form, Pages}
use Rattle.mg_image.specs.ReadingLaws.{RowsAreOne}
use Rattle.mg_image.specs.RecordRules.{Facts}
use Rattle.mg_image.specs.Records.{Reading, cells_of, writer}
use Rattle.mg_image.specs.Sound.{IsSoundBy, facts_by}
use Rattle.mg_image.specs.Tables.{Layout}
use Rattle.mg_image_overlay_laws.specs.pages.DataPages.{ChangesData}
use Rattle.mg_image_overlay_laws.specs.kept.Rest.{LeavesRest, LeavesRests}
use Rattle.mg_image_overlay_laws.specs.kept.KeptImages.{IsKept}
use Rattle.mg_overlay_laws.specs.Overlays.{LaysBatch, laid}
use Rattle.mg_overlay_laws.specs.Views.{LaysPage, first_view, last_view, partly, step_in, step_out}
use Rattle.mg_image_overlay_laws.specs.records.OwnVersion.{FindsOwn, in_pool_too, may_overwrite}
use Rattle.mg_image_overlay_laws.specs.records.Overwrite.{MayOverwrite, Overwrites, over_living, over_reading, over_records}
use Rattle.mg_image_overlay_laws.specs.records.DeadSteps.{StepsDead, dead_in, dead_out}
use Rattle.mg_image_overlay_laws.specs.records.PushPart.{cells_alike, cells_laid, page_laid}

-- A version is replaced on its page: the cell has another one of its transaction.
pub record ReplacesPage (in_primary : Bool) (pool changed : Pages) (v : Version) (n : Entry) : Type 0
  where
    pub page : ChangesData in_primary pool changed n.at.page.0
    pub over : Overwrites (cells_of pool) (cells_of changed) v n

module _ (form : Form) (one : RowsAreOne form.coding) (size : ℕ) (o : Opening) (h : Entries)
    (state : ℕ → TxState) (pool changed : Pages) (p : RecId) (table : Table) (v : Version) (n : Entry)
    (replaces : ReplacesPage form.in_primary pool changed v n)
    (finds : (layout : Layout) (r : Reading) → IsSoundBy form size state pool layout r
    → FindsOwn form.coding (facts_by state pool layout) r p table n.at v n)
    (rest : LeavesRests form size n.at.page.0) (dead : state (writer n) ≡ Dead) where
  open_ : state (writer n) ≢ Committed
  open_ is = let both : Dead ≡ Committed = sym dead ∙ is in absurd cc

  over_step : (old new : Pages) (layout : Layout) (r : Reading) → IsSoundBy form size state old layout r
      → ChangesData form.in_primary old new n.at.page.0
      → Overwrites (cells_of old) (cells_of new) v n
      → MayOverwrite form.coding (facts_by state old layout) v n
      → StepsDead form state size old new n.at.page.0 (facts_by state old layout) r (over_reading n r)
  over_step old new layout r sound page over may = record {
    page = page;
    records = over_records form.coding (facts_by state old layout) (cells_of old) (cells_of new) r v n
        sound.records over open_ may;
    same = over_living form.coding (facts_by state old layout) (cells_of old) (cells_of new) r v n
        sound.records over open_ may dead;
  }

  module _ (image : Pages) (kept : IsKept form size o h state pool image) where
    abbrev f : Facts
    f = facts_by state pool kept.of_pool

    abbrev g : Facts
    g = facts_by state image kept.layout

    found : FindsOwn form.coding f kept.in_pool p table n.at v n
    found = finds kept.of_pool kept.in_pool kept.pool_sound

    pool_step : StepsDead form state size pool changed n.at.page.0 f kept.in_pool
        (over_reading n kept.in_pool)
    pool_step = over_step pool changed kept.of_pool kept.in_pool kept.pool_sound replaces.page
        replaces.over (may_overwrite form.coding one f f (cells_of pool) kept.in_pool p table v n
        kept.pool_sound.records found (λ t is. is) replaces.over.tx)

    rest_pool : LeavesRest form size pool changed kept.of_pool
    rest_pool = rest state pool changed kept.of_pool kept.in_pool kept.pool_sound replaces.page

    replace_out : IsKept form size o h state changed image
    replace_out = dead_out form size o h state pool changed image n.at.page.0 kept
        (over_reading n kept.in_pool) pool_step rest_pool

    replace_in : (laid_ : Pages) → LaysPage pool changed image laid_ n.at.page.0
        → IsKept form size o h state changed laid_
    replace_in laid_ lays = dead_in form size o h state pool changed image n.at.page.0 kept
        (over_reading n kept.in_pool) pool_step rest_pool laid_ (over_reading n kept.reading)
        (over_step image laid_ kept.layout kept.reading kept.sound page over may)
        (rest state image laid_ kept.layout kept.reading kept.sound page)
      where
        page : ChangesData form.in_primary image laid_ n.at.page.0
        page = page_laid form.in_primary pool changed image laid_ n.at.page.0 replaces.page lays

        over : Overwrites (cells_of image) (cells_of laid_) v n
        over = record {
          was = cells_alike pool image n.at n.at.page.0 refl lays.was ∙ replaces.over.was;
          change = cells_laid pool changed image laid_ n.at.page.0 n.at (Some (cells.Version n.version))
              refl lays replaces.over.change;
          tx = replaces.over.tx;
          back = replaces.over.back;
          was_apart = replaces.over.was_apart;
          apart = replaces.over.apart;
        }

        may : MayOverwrite form.coding g v n
        may = may_overwrite form.coding one f g (cells_of pool) kept.in_pool p table v n
            kept.pool_sound.records found
            (λ t is. in_pool_too form size o h state pool image kept n.at.page.0 t is) replaces.over.tx

  -- as a step of the views of a batch
  pub replace_views : (set_ : PageSet) (image : Pages)
      → IsKept form size o h state pool (partly set_ pool image)
      → IsKept form size o h state changed (partly set_ changed image)
  replace_views set_ image start = by (set_ n.at.page.0) refl
    where
      by : (c : Bool) → set_ n.at.page.0 ≡ c → IsKept form size o h state changed (partly set_ changed image)
      by true in_set = replace_in (partly set_ pool image) start (partly set_ changed image)
          (step_in set_ pool changed image n.at.page.0 replaces.page.others in_set)
      by false out = subst (IsKept form size o h state changed)
          (sym (step_out set_ pool changed image n.at.page.0 replaces.page.others out))
          (replace_out (partly set_ pool image) start)

  -- as a batch of its own
  pub replace_part : (batch : ℕ → Option (List ℕ)) (orders : Orders) (set_ : PageSet) (image : Pages)
      → LaysBatch pool changed batch orders set_ image → IsKept form size o h state pool image
      → IsKept form size o h state changed (laid batch set_ image)
  replace_part batch orders set_ image lays was =
      subst (IsKept form size o h state changed) (last_view pool changed batch orders set_ image lays)
      (replace_views set_ image (subst (IsKept form size o h state pool)
      (sym (first_view pool changed batch orders set_ image lays)) was))
