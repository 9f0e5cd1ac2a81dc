-- A table, or the catalog, gets pages in a batch of its own, from the pool's change to every overlay.
use Rattle.std.proofs.Common.{sym, subst, ℕ, Bool, List, Option}
use Rattle.mg_base.specs.declared.transaction.TxState.{TxState}
use Rattle.mg_careful.specs.CarefulWrite.{Cache, PageSet}
use Rattle.mg_careful.specs.Precedence.{Orders}
use Rattle.mg_model.specs.declared.opening.Opening.{Opening}
use Rattle.mg_model.specs.declared.table.Table.{Table}
use Rattle.mg_model.specs.History.{Entries}
use Rattle.mg_image.specs.Form.{Form}
use Rattle.mg_image.specs.ReadingLaws.{RowsAreOne}
use Rattle.mg_image.specs.Records.{Reading}
use Rattle.mg_image.specs.Sound.{IsSoundBy}
use Rattle.mg_image.specs.Tables.{Layout}
use Rattle.mg_image_overlay_laws.specs.pages.Kinds.{HasNoSequences}
use Rattle.mg_image_overlay_laws.specs.pages.Trees.{trees_stay}
use Rattle.mg_image_overlay_laws.specs.kept.KeptImages.{IsKept, keeping}
use Rattle.mg_image_overlay_laws.specs.tables.OneLayout.{sound_once}
use Rattle.mg_overlay_laws.specs.BatchLaws.{change_keeps_always}
use Rattle.mg_overlay_laws.specs.Overlays.{ChangesCache, EveryOverlay, KeepsLaidAlways, KeepsNeeds, left_state}
use Rattle.mg_overlay_laws.specs.Views.{first_view, last_view}
use Rattle.mg_image_overlay_laws.specs.tables.Growing.{EndsAt, Grows, TableEnd}
use Rattle.mg_image_overlay_laws.specs.tables.GrowingLaws.{grows_part}

-- a table, or the catalog, gets pages, by nobody's work: every overlay is kept
abbrev pub GrowthKeeps : Form → Type 0
GrowthKeeps form = (size : ℕ) (o : Opening) (h : Entries) (state : ℕ → TxState) (old new : Cache)
    (gone : PageSet) (batch : ℕ → Option (List ℕ)) (orders : Orders) (needs now : ℕ → PageSet)
    (table : Table) (end final : TableEnd)
    → ChangesCache old new gone batch orders → KeepsNeeds old gone needs now
    → Grows form.in_primary size table.pointer.0 orders batch old.pool end new.pool final
    → ((chosen : ℕ → Bool) (layout : Layout) (r : Reading)
    → IsSoundBy form size (left_state chosen state) old.pool layout r → EndsAt layout table end)
    → EveryOverlay (keeping form size o h) state old needs
    → EveryOverlay (keeping form size o h) state new now

pub growth_every : (form : Form) → RowsAreOne form.coding → HasNoSequences form → GrowthKeeps form
growth_every form one none size o h state old new gone batch orders needs now table end final changes left
    row finds every =
    change_keeps_always (keeping form size o h) (keeping form size o h) state old new gone batch orders
    needs now changes left part every
  where
    part : KeepsLaidAlways (keeping form size o h) (keeping form size o h) state old.pool new.pool batch orders
    part chosen set_ image lays of_pool kept = subst
        (IsKept form size o h (left_state chosen state) new.pool)
        (last_view old.pool new.pool batch orders set_ image lays)
        (grows_part form (sound_once form one none) none size (trees_stay form size)
        (left_state chosen state) table o h orders batch set_ image lays.together old.pool new.pool end final
        row kept.of_pool kept.in_pool kept.pool_sound
        (finds chosen kept.of_pool kept.in_pool kept.pool_sound)
        (subst (IsKept form size o h (left_state chosen state) old.pool)
        (sym (first_view old.pool new.pool batch orders set_ image lays)) kept))
