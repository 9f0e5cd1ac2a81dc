-- The slot of a record is turned, which led to a version at some cell, and leads to others then: on an
-- image with the slot's page, or without.
use Rattle.std.proofs.Common.{◌≡◌, ◌⊎◌, inl, inr, refl, ℕ, true, false, List, []}
use Rattle.mg_base.specs.declared.numbers.RecId.{RecId}
use Rattle.mg_base.specs.declared.transaction.TxState.{TxState}
use Rattle.mg_model.specs.declared.opening.Opening.{Opening}
use Rattle.mg_model.specs.History.{Entries}
use Rattle.mg_image.specs.declared.entry.Entry.{Entry}
use Rattle.mg_image.specs.Form.{Form, Pages}
use Rattle.mg_image.specs.RecordRules.{AreRecords, Facts}
use Rattle.mg_image.specs.Records.{Reading, Stands, cells_of}
use Rattle.mg_image.specs.Sound.{facts_by}
use Rattle.mg_image.specs.StepLaws.{put_cases, put_reading}
use Rattle.mg_image_overlay_laws.specs.pages.DataPages.{ChangesData}
use Rattle.mg_image_overlay_laws.specs.records.Fronts.{living}
use Rattle.mg_image_overlay_laws.specs.records.QuietVersions.{IsQuiet}
use Rattle.mg_image_overlay_laws.specs.kept.Rest.{LeavesRest, LeavesRests}
use Rattle.mg_image_overlay_laws.specs.kept.KeptImages.{IsKept}
use Rattle.mg_overlay_laws.specs.Views.{LaysPage}
use Rattle.mg_image_overlay_laws.specs.records.FreePart.{IsTurned}
use Rattle.mg_image_overlay_laws.specs.records.PushPart.{page_laid}
use Rattle.mg_image_overlay_laws.specs.records.QuietSteps.{StepsQuietly, quiet_in, quiet_out}

-- A record's slot is turned: it has these versions then, quietly, and none reads the old cell.
pub record TurnsTo (form : Form) (f : Facts) (new : Pages) (r : Reading) (p x : RecId)
    (es : List Entry) : Type 0 where
  pub records : AreRecords form.coding f (cells_of new) (put_reading r p es)
  pub quiet : IsQuiet f (r p) es
  pub unread : (q : RecId) → Stands (put_reading r p es q) x → ⊥

module _ (form : Form) (size : ℕ) (o : Opening) (h : Entries) (state : ℕ → TxState)
    (pool turned image : Pages) (p x : RecId) (kept : IsKept form size o h state pool image)
    (page : ChangesData form.in_primary pool turned p.page.0) (rest : LeavesRests form size p.page.0)
    (pool_es : List Entry)
    (to : TurnsTo form (facts_by state pool kept.of_pool) turned kept.in_pool p x pool_es) where
  abbrev f : Facts
  f = facts_by state pool kept.of_pool

  abbrev g : Facts
  g = facts_by state image kept.layout

  abbrev pool_after : Reading
  pool_after = put_reading kept.in_pool p pool_es

  pool_step : StepsQuietly form state size pool turned p.page.0 f kept.in_pool pool_after
  pool_step = record {
    page = page;
    records = to.records;
    quiet = put_cases kept.in_pool p pool_es (λ q fs. IsQuiet f (kept.in_pool q) fs) to.quiet
        (λ q ne. inl refl);
  }

  rest_pool : LeavesRest form size pool turned kept.of_pool
  rest_pool = rest state pool turned kept.of_pool kept.in_pool kept.pool_sound page

  pub turn_out : IsTurned form size o h state turned x false image
  unfolding quiet_out
  turn_out = record {
    kept = quiet_out form size o h state pool turned image p.page.0 kept pool_after pool_step rest_pool;
    pool_unread = to.unread;
    unread = λ is. absurd (no is);
  }
    where
      no : false ≡ true → ⊥
      no is = cc

  pub turn_in : (laid_ : Pages) → LaysPage pool turned image laid_ p.page.0 → (es : List Entry)
      → TurnsTo form g laid_ kept.reading p x es
      → (living state es ≡ living state (kept.reading p)) ⊎ (living state pool_es ≡ [])
      → IsTurned form size o h state turned x true laid_
  unfolding quiet_in
  turn_in laid_ lays es there as_pool = record {
    kept = quiet_in form size o h state pool turned image p.page.0 kept pool_after pool_step rest_pool
        laid_ (put_reading kept.reading p es) (record {
          page = page_there;
          records = there.records;
          quiet = put_cases kept.reading p es (λ q fs. IsQuiet g (kept.reading q) fs) there.quiet
              (λ q ne. inl refl);
        }) goes (rest state image laid_ kept.layout kept.reading kept.sound page_there);
    pool_unread = to.unread;
    unread = λ is. there.unread;
  }
    where
      page_there : ChangesData form.in_primary image laid_ p.page.0
      page_there = page_laid form.in_primary pool turned image laid_ p.page.0 page lays

      pool_here : living state pool_es ≡ [] → living state (pool_after p) ≡ []
      pool_here none = put_cases kept.in_pool p pool_es (λ q fs. q ≡ p → living state fs ≡ [])
          (λ same. none) (λ q ne same. absurd (ne same)) p refl

      at_slot : (living state es ≡ living state (kept.reading p)) ⊎ (living state pool_es ≡ [])
          → (living state es ≡ living state (kept.reading p)) ⊎ (living state (pool_after p) ≡ [])
      at_slot (inl same) = inl same
      at_slot (inr none) = inr (pool_here none)

      goes : (q : RecId) → (living state (put_reading kept.reading p es q) ≡ living state (kept.reading q))
          ⊎ (living state (pool_after q) ≡ [])
      goes = put_cases kept.reading p es (λ q fs. (living state fs ≡ living state (kept.reading q))
          ⊎ (living state (pool_after q) ≡ [])) (at_slot as_pool) (λ q ne. inl refl)
