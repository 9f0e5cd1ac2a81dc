-- All catalog rows of tables that a transaction makes, in one batch: every overlay is kept.
use Rattle.mg_model.specs.History.{Entry as Event}
use Rattle.mg_base.specs.Disk.{Meaning}
use Rattle.mg_base.specs.Image.{Image}
use Rattle.mg_base.specs.declared.transaction.TxState.{TxState}
use Rattle.mg_base.specs.declared.transaction.TxState.TheVariants.{Active, Dead, Limbo}
use Rattle.mg_careful.specs.CarefulWrite.{PageSet}
use Rattle.mg_tie_laws.specs.Filled.{IsFilled, MayFill, catalog_of, fills_to}
use Rattle.mg_tie_laws.specs.Filling.{Fills, NewRow, fills_as}
use Rattle.mg_tie_laws.specs.FirstPages.{left_within}
use Rattle.mg_tie_laws.specs.PushTies.{written}
use Rattle.mg_tie_laws.specs.Rows.{ForEach}
use Rattle.mg_image_overlay_laws.specs.tables.Growing.{MayBeWritten}
use Rattle.mg_tie_laws.specs.Batches.{within_self}
use Rattle.mg_image.specs.Form.{Form, Pages}
use Rattle.mg_image.specs.ReadingLaws.{RowsAreOne}
use Rattle.mg_image.specs.Records.{key_of}
use Rattle.mg_image.specs.Sound.{facts_by}
use Rattle.mg_image_overlay_laws.specs.pages.Kinds.{HasNoSequences}
use Rattle.mg_image_overlay_laws.specs.transactions.CommitLaws.{LeavesOthers}
use Rattle.mg_image_overlay_laws.specs.transactions.EndLaws.{longer_for}
use Rattle.mg_image_overlay_laws.specs.kept.KeptImages.{IsKept}
use Rattle.mg_model.specs.History.{Entries}
use Rattle.mg_model.specs.declared.opening.Opening.{Opening}
use Rattle.mg_image_overlay_laws.specs.names.Making.{MakesNamed, make_every}
use Rattle.mg_overlay_laws.specs.Overlays.{LaysBatch, laid, left_state, without}
use Rattle.mg_overlay_laws.specs.Views.{first_view, last_view}
use Rattle.mg_image_overlay_laws.specs.names.Creating.{without_raises}
use Rattle.mg_pool.specs.Batch.{Changed, content_in, lists}
use Rattle.mg_pool.specs.Pool.{shown}
use Rattle.mg_pool.specs.declared.pool.Pool.{Pool}
use Rattle.mg_pool_overlay_laws.specs.Needs.{Asked, Sessions}
use Rattle.mg_space.specs.View.{viewed}
use Rattle.mg_tie_laws.specs.Changed.{BatchIsChanged, ChangesFresh, KeptIn, cache_over, changed_fresh, fresh, needs_all, needs_in}
use Rattle.std.proofs.Common.{Bool, None, ap, false, refl, subst, sym, true, ℕ, ◌∙◌, ◌∷◌, ◌≡◌, ◌≢◌}

-- What is known of each row: it is of the transaction, and may be written into the catalog.
abbrev pub IsRowOf : Form → ℕ → ℕ → (ℕ → TxState) → Pages → NewRow → Type 0
IsRowOf form size by state pages row = (row.version.tx.0 ≡ by) × ForEach form size state pages
    (λ s layout r. MayBeWritten form.coding (facts_by s pages layout) (catalog_of pages)
    (key_of (catalog_of pages) row.row) (written row.at row.version None row.row))

-- tables are made by an active transaction that has not asked for its commit, maybe after others: all rows of
-- the catalog that say them, and their first pages, are in one batch that the cache has changed. Where the
-- transaction may come to count as in limbo with these tables, every overlay is kept, for the history with
-- that entry
abbrev pub FilledCatalogKeeps : Form → (D L : Type 0) → Meaning D → Type 0
FilledCatalogKeeps form D L m = (before after : Pool D L) (i j : Image) (batch : Changed) (asked : Asked)
    (session : Sessions) (o : Opening) (h : Entries) (event : Event) (by : ℕ) (state : ℕ → TxState)
    → ChangesFresh m before after i j batch
    → Fills before i (catalog_of (shown before.dirty i)).pointer.0
    (IsRowOf form before.geometry.size by state (shown before.dirty i)) fresh batch
    → (active : state by ≡ Active) → asked by ≡ false
    -- the history
    → LeavesOthers o h event by
    -- the half in which the transaction counts as in limbo
    → ((chosen : ℕ → Bool) (is : chosen by ≡ true)
    → IsKept form before.geometry.size o h (left_state chosen state) (shown before.dirty i)
    (shown before.dirty i)
    → (kept : IsKept form before.geometry.size o (event ∷ h) (left_state (without by chosen) state)
    (shown after.dirty j) (shown after.dirty j))
    → MakesNamed form before.geometry.size o (event ∷ h) (left_state (without by chosen) state)
    (left_state chosen state) by (without_raises state by chosen active is) (shown after.dirty j) kept)
    → KeptIn form before.geometry.size o h state asked session before i
    → KeptIn form before.geometry.size o (event ∷ h) state asked session after j

pub filled_catalog_keeps : (form : Form) → RowsAreOne form.coding → HasNoSequences form → (D L : Type 0)
    (m : Meaning D) → FilledCatalogKeeps form D L m
filled_catalog_keeps form one none D L m before after i j batch asked session o h event by state changes fills
    active not_asked brings raises every =
    make_every form before.geometry.size o h (event ∷ h) state by (cache_over before i) (cache_over after j)
    it.gone (content_in batch.pages) (lists batch.orders) (needs_in asked session before)
    (needs_in asked session after) it.changes active it.left (needs_all after j asked session by not_asked)
    part raises every
  where
    it : BatchIsChanged before after i j batch asked session
    it = changed_fresh m before after i j batch asked session changes

    part : (chosen : ℕ → Bool) (set_ : PageSet) (image : Pages) → chosen by ≡ false
        → LaysBatch (shown before.dirty i) (shown after.dirty j) (content_in batch.pages)
        (lists batch.orders) set_ image
        → IsKept form before.geometry.size o h (left_state chosen state) (shown before.dirty i)
        (shown before.dirty i)
        → IsKept form before.geometry.size o h (left_state chosen state) (shown before.dirty i) image
        → IsKept form before.geometry.size o (event ∷ h) (left_state chosen state) (shown after.dirty j)
        (laid (content_in batch.pages) set_ image)
    part chosen set_ image out lays of_pool was = longer_for form before.geometry.size o h event by
        (left_state chosen state) (shown after.dirty j) (laid (content_in batch.pages) set_ image) brings
        not_limbo (subst (λ (pages : Pages). IsKept form before.geometry.size o h (left_state chosen state)
        pages (laid (content_in batch.pages) set_ image)) (sym it.pool)
        (subst (IsKept form before.geometry.size o h (left_state chosen state) (viewed before i batch))
        (last_view (shown before.dirty i) (viewed before i batch) (content_in batch.pages)
        (lists batch.orders) set_ image lays_view) done.kept))
      where
        dead : left_state chosen state by ≡ Dead
        dead = rw (out, active) refl

        not_limbo : left_state chosen state by ≢ Limbo
        not_limbo is = let both : Dead ≡ Limbo = sym dead ∙ is in absurd cc

        lays_view : LaysBatch (shown before.dirty i) (viewed before i batch) (content_in batch.pages)
            (lists batch.orders) set_ image
        lays_view = subst (λ (pages : Pages). LaysBatch (shown before.dirty i) pages
            (content_in batch.pages) (lists batch.orders) set_ image) it.pool lays

        left : (q : ℕ) → content_in batch.pages q ≡ None → shown before.dirty i q ≡ viewed before i batch q
        left q none_ = sym (left_within before i (content_in batch.pages) (lists batch.orders) batch
            (within_self batch) q none_)

        rows : Fills before i (catalog_of (shown before.dirty i)).pointer.0
            (MayFill form one none before i changes.geometry (left_state chosen state) o h
            (content_in batch.pages) (lists batch.orders) (viewed before i batch) set_ image lays_view left
            of_pool.layout) fresh batch
        rows = fills_as before i (catalog_of (shown before.dirty i)).pointer.0
            (IsRowOf form before.geometry.size by state (shown before.dirty i))
            (MayFill form one none before i changes.geometry (left_state chosen state) o h
            (content_in batch.pages) (lists batch.orders) (viewed before i batch) set_ image lays_view left
            of_pool.layout)
            (λ row is. (
              ap (left_state chosen state) is.0 ∙ dead,
              is.1 chosen of_pool.layout of_pool.reading of_pool.sound,
            )) fresh batch fills

        done : IsFilled form one none before i changes.geometry (left_state chosen state) o h
            (content_in batch.pages) (lists batch.orders) (viewed before i batch) set_ image lays_view left
            batch
        done = fills_to form one none before i changes.geometry (left_state chosen state) o h
            (content_in batch.pages) (lists batch.orders) (viewed before i batch) set_ image lays_view left
            of_pool.layout fresh batch rows (within_self batch) (record {
              kept = subst (IsKept form before.geometry.size o h (left_state chosen state)
                  (shown before.dirty i)) (sym (first_view (shown before.dirty i) (viewed before i batch)
                  (content_in batch.pages) (lists batch.orders) set_ image lays_view)) was;
              header = refl;
            })
