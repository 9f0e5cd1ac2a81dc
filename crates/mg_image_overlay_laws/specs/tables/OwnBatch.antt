-- A batch of a transaction that writes into a table, whose own it may be: from the pool's change to every
-- overlay.
use Rattle.mg_base.specs.declared.transaction.TxState.{TxState}
use Rattle.mg_base.specs.declared.transaction.TxState.TheVariants.{Active, Dead, Limbo}
use Rattle.mg_careful.specs.CarefulWrite.{Cache, PageSet}
use Rattle.mg_careful.specs.Precedence.{Orders}
use Rattle.mg_image.specs.Form.{Form, Pages}
use Rattle.mg_image.specs.ReadingLaws.{RowsAreOne}
use Rattle.mg_image.specs.Records.{Reading}
use Rattle.mg_image.specs.Sound.{IsSoundBy}
use Rattle.mg_image.specs.Tables.{Layout}
use Rattle.mg_image_overlay_laws.specs.pages.Kinds.{HasNoSequences}
use Rattle.mg_image_overlay_laws.specs.transactions.CommitLaws.{LeavesOthers}
use Rattle.mg_image_overlay_laws.specs.transactions.EndLaws.{longer_for}
use Rattle.mg_image_overlay_laws.specs.kept.KeptImages.{IsKept, keeping}
use Rattle.mg_model.specs.History.{Entries}
use Rattle.mg_model.specs.declared.opening.Opening.{Opening}
use Rattle.mg_overlay_laws.specs.BatchLaws.{change_keeps}
use Rattle.mg_overlay_laws.specs.Overlays.{ChangesCache, EveryOverlay, KeepsNeeds, LaysBatch, NeedsAllDirty, laid, left_state}
use Rattle.mg_image_overlay_laws.specs.tables.OutSteps.{IsKeptAt, everywhere, kept_after, kept_before}
use Rattle.std.proofs.Common.{Bool, List, Option, false, inl, inr, refl, sym, true, ℕ, ◌∙◌, ◌∷◌, ◌≡◌, ◌≢◌, ◌⊎◌}
use Rattle.mg_model.specs.History.{Entry as Event}

-- What a table's writer owes, where `There` says that the table stands in a layout, and `Beyond` that the
-- pages of the batch are of none of a layout's tables.
pub record WritesFor (form : Form) (size : ℕ) (o : Opening) (h : Entries) (event : Event) (by : ℕ)
    (state : ℕ → TxState) (pool changed : Pages) (batch : ℕ → Option (List ℕ)) (orders : Orders)
    (There : (ℕ → TxState) → Layout → Reading → Type 0) (Beyond : Layout → Type 0) : Type 0 where
  -- under each choice it is there, or its maker, the writer, counts as dead
  pub finds : (chosen : ℕ → Bool) (layout : Layout) (r : Reading)
      → IsSoundBy form size (left_state chosen state) pool layout r
      → There (left_state chosen state) layout r
      ⊎ ((left_state chosen state by ≡ Dead) × Beyond layout)
  -- in part, with the writer dead, where it is there
  pub part : (chosen : ℕ → Bool) (set_ : PageSet) (image : Pages)
      → left_state chosen state by ≡ Dead
      → (of_pool : IsKept form size o h (left_state chosen state) pool pool)
      → ((layout : Layout) (r : Reading) → IsSoundBy form size (left_state chosen state) pool layout r
      → There (left_state chosen state) layout r)
      → LaysBatch pool changed batch orders set_ image
      → IsKept form size o h (left_state chosen state) pool image
      → IsKept form size o h (left_state chosen state) changed (laid batch set_ image)
  -- and where it is not
  pub beyond : (chosen : ℕ → Bool) (set_ : PageSet) (image : Pages) (layout : Layout) (r : Reading)
      → Beyond layout → IsKeptAt form size o h (left_state chosen state) set_ image layout r pool
      → IsKeptAt form size o h (left_state chosen state) set_ image layout r changed
  -- whole, with the writer in limbo
  pub whole : (chosen : ℕ → Bool) → chosen by ≡ true → left_state chosen state by ≡ Limbo
      → (start : IsKept form size o h (left_state chosen state) pool pool)
      → ((layout : Layout) (r : Reading) → IsSoundBy form size (left_state chosen state) pool layout r
      → There (left_state chosen state) layout r)
      → IsKept form size o (event ∷ h) (left_state chosen state) changed changed

pub writes_for : (form : Form) → RowsAreOne form.coding → HasNoSequences form → (size : ℕ) (o : Opening)
    (h : Entries) (event : Event) (by : ℕ) (state : ℕ → TxState) (old new : Cache) (gone : PageSet)
    (batch : ℕ → Option (List ℕ)) (orders : Orders) (needs now : ℕ → PageSet)
    (There : (ℕ → TxState) → Layout → Reading → Type 0) (Beyond : Layout → Type 0)
    → ChangesCache old new gone batch orders → state by ≡ Active
    → KeepsNeeds old gone needs now → NeedsAllDirty new now by → LeavesOthers o h event by
    → WritesFor form size o h event by state old.pool new.pool batch orders There Beyond
    → EveryOverlay (keeping form size o h) state old needs
    → EveryOverlay (keeping form size o (event ∷ h)) state new now
writes_for form one none size o h event by state old new gone batch orders needs now There Beyond changes
    active left all brings writes every =
    change_keeps (keeping form size o h) (keeping form size o (event ∷ h)) state by old new gone batch
    orders needs now changes active left all (record { part = part; whole = whole }) every
  where
    same : (chosen : ℕ → Bool) (layout : Layout) (r : Reading)
        → IsSoundBy form size (left_state chosen state) old.pool layout r
        → There (left_state chosen state) layout r → (other : Layout) (s : Reading)
        → IsSoundBy form size (left_state chosen state) old.pool other s
        → There (left_state chosen state) other s
    same chosen = everywhere form one none size (left_state chosen state) old.pool
        (There (left_state chosen state))

    part : (chosen : ℕ → Bool) (set_ : PageSet) (image : Pages) → chosen by ≡ false
        → LaysBatch old.pool new.pool batch orders set_ image
        → IsKept form size o h (left_state chosen state) old.pool old.pool
        → IsKept form size o h (left_state chosen state) old.pool image
        → IsKept form size o (event ∷ h) (left_state chosen state) new.pool (laid batch set_ image)
    part chosen set_ image out lays of_pool was = longer_for form size o h event by
        (left_state chosen state) new.pool (laid batch set_ image) brings not_limbo
        (at (writes.finds chosen of_pool.layout of_pool.reading of_pool.sound))
      where
        dead : left_state chosen state by ≡ Dead
        dead = rw (out, active) refl

        not_limbo : left_state chosen state by ≢ Limbo
        not_limbo is = let both : Dead ≡ Limbo = sym dead ∙ is in absurd cc

        at : There (left_state chosen state) of_pool.layout of_pool.reading
            ⊎ ((left_state chosen state by ≡ Dead) × Beyond of_pool.layout)
            → IsKept form size o h (left_state chosen state) new.pool (laid batch set_ image)
        at (inl there) = writes.part chosen set_ image dead of_pool
            (same chosen of_pool.layout of_pool.reading of_pool.sound there) lays was
        at (inr (dead_, beyond)) = kept_after form size o h (left_state chosen state) old.pool new.pool batch
            orders set_ image of_pool.layout of_pool.reading lays
            (writes.beyond chosen set_ image of_pool.layout of_pool.reading beyond
            (kept_before form size o h (left_state chosen state) old.pool new.pool batch orders set_ image
            of_pool lays was))

    whole : (chosen : ℕ → Bool) → chosen by ≡ true
        → IsKept form size o h (left_state chosen state) old.pool old.pool
        → IsKept form size o (event ∷ h) (left_state chosen state) new.pool new.pool
    whole chosen is start = at (writes.finds chosen start.layout start.reading start.sound)
      where
        limbo : left_state chosen state by ≡ Limbo
        limbo = rw (is, active) refl

        at : There (left_state chosen state) start.layout start.reading
            ⊎ ((left_state chosen state by ≡ Dead) × Beyond start.layout)
            → IsKept form size o (event ∷ h) (left_state chosen state) new.pool new.pool
        at (inl there) = writes.whole chosen is limbo start
            (same chosen start.layout start.reading start.sound there)
        at (inr (dead, beyond)) = let both : Limbo ≡ Dead = sym limbo ∙ dead in absurd cc
