-- All catalog rows of tables that a transaction makes, in one batch, with an entry for each row: every overlay is kept.
use Rattle.mg_model.specs.History.{Entry as Event}
use Rattle.mg_base.specs.Disk.{Meaning}
use Rattle.mg_base.specs.Image.{Image}
use Rattle.mg_base.specs.declared.transaction.TxState.{TxState}
use Rattle.mg_base.specs.declared.transaction.TxState.TheVariants.{Active, Dead, Limbo}
use Rattle.mg_careful.specs.CarefulWrite.{PageSet}
use Rattle.mg_tie_laws.specs.CatalogRows.{IsRowOf}
use Rattle.mg_tie_laws.specs.Filled.{IsFilled, MayFill, catalog_of, fills_to}
use Rattle.mg_tie_laws.specs.Filling.{Fills, fills_as}
use Rattle.mg_tie_laws.specs.FirstPages.{left_within}
use Rattle.mg_tie_laws.specs.Batches.{within_self}
use Rattle.mg_image.specs.Form.{Form, Pages}
use Rattle.mg_image.specs.ReadingLaws.{RowsAreOne}
use Rattle.mg_image_overlay_laws.specs.pages.Kinds.{HasNoSequences}
use Rattle.mg_image_overlay_laws.specs.transactions.CommitLaws.{LeavesOthers}
use Rattle.mg_image_overlay_laws.specs.transactions.EndLaws.{longer_for}
use Rattle.mg_image_overlay_laws.specs.kept.KeptImages.{IsKept, keeping}
use Rattle.mg_model.specs.History.{Entries}
use Rattle.mg_model.specs.declared.opening.Opening.{Opening}
use Rattle.mg_image_overlay_laws.specs.names.Making.{MakesNamed, creates_of}
use Rattle.mg_overlay_laws.specs.Overlays.{LaysBatch, laid, left_state, without}
use Rattle.mg_overlay_laws.specs.Views.{first_view, last_view}
use Rattle.mg_image_overlay_laws.specs.names.Creating.{create_kept, without_raises}
use Rattle.mg_overlay_laws.specs.BatchLaws.{change_keeps_raised}
use Rattle.mg_pool.specs.Batch.{Changed, content_in, lists}
use Rattle.mg_pool.specs.Pool.{shown}
use Rattle.mg_pool.specs.declared.pool.Pool.{Pool}
use Rattle.mg_pool_overlay_laws.specs.Needs.{Asked, Sessions}
use Rattle.mg_space.specs.View.{viewed}
use Rattle.mg_tie_laws.specs.Changed.{BatchIsChanged, ChangesFresh, KeptIn, cache_over, changed_fresh, fresh, needs_all, needs_in}
use Rattle.std.proofs.Common.{Bool, None, ap, false, refl, subst, sym, true, ℕ, ◌∙◌, ◌∷◌, ◌≡◌, ◌≢◌}

-- entries come, one after another, each of which leaves the database and what all others have changed
pub data LeavesOthersEach (o : Opening) (by : ℕ) : Entries → Entries → Type 0 where
  no_entry : (h : Entries) → LeavesOthersEach o by h h
  one_more : (h later : Entries) (event : Event) → LeavesOthersEach o by h later → LeavesOthers o later event by
      → LeavesOthersEach o by h (event ∷ later)

-- an image stays what it has to be, where their transaction does not count as in limbo
each_longer : (form : Form) (size : ℕ) (o : Opening) (by : ℕ) (state : ℕ → TxState) (pool image : Pages)
    (h later : Entries) → LeavesOthersEach o by h later → state by ≢ Limbo → IsKept form size o h state pool image
    → IsKept form size o later state pool image
each_longer form size o by state pool image h later (no_entry same) out kept = kept
each_longer form size o by state pool image h later (one_more before last event each leaves) out kept =
    longer_for form size o last event by state pool image leaves out
    (each_longer form size o by state pool image before last each out kept)

-- tables are made by an active transaction that has not asked for its commit, maybe after others: all rows of
-- the catalog that say them, and their first pages, are in one batch that the cache has changed. Where the pool's own
-- image is what it has to be with the transaction in limbo too, every overlay is kept, for the history with an entry
-- for each row
abbrev pub FilledTablesGo : Form → (D L : Type 0) → Meaning D → Type 0
FilledTablesGo form D L m = (before after : Pool D L) (i j : Image) (batch : Changed) (asked : Asked)
    (session : Sessions) (o : Opening) (h later : Entries) (by : ℕ) (state : ℕ → TxState)
    → ChangesFresh m before after i j batch
    → Fills before i (catalog_of (shown before.dirty i)).pointer.0
    (IsRowOf form before.geometry.size by state (shown before.dirty i)) fresh batch
    → (active : state by ≡ Active) → asked by ≡ false
    -- the history
    → LeavesOthersEach o by h later
    -- the half in which the transaction counts as in limbo
    → ((chosen : ℕ → Bool) → chosen by ≡ true
    → IsKept form before.geometry.size o h (left_state chosen state) (shown before.dirty i)
    (shown before.dirty i)
    → IsKept form before.geometry.size o later (left_state (without by chosen) state)
    (shown after.dirty j) (shown after.dirty j)
    → IsKept form before.geometry.size o later (left_state chosen state) (shown after.dirty j)
    (shown after.dirty j))
    → KeptIn form before.geometry.size o h state asked session before i
    → KeptIn form before.geometry.size o later state asked session after j

-- the same, where the tables are all that the transaction has made, and none has a data page yet: it may come to count
-- as in limbo with them
abbrev pub FilledTablesKeep : Form → (D L : Type 0) → Meaning D → Type 0
FilledTablesKeep form D L m = (before after : Pool D L) (i j : Image) (batch : Changed) (asked : Asked)
    (session : Sessions) (o : Opening) (h later : Entries) (by : ℕ) (state : ℕ → TxState)
    → ChangesFresh m before after i j batch
    → Fills before i (catalog_of (shown before.dirty i)).pointer.0
    (IsRowOf form before.geometry.size by state (shown before.dirty i)) fresh batch
    → (active : state by ≡ Active) → asked by ≡ false
    -- the history
    → LeavesOthersEach o by h later
    -- the half in which the transaction counts as in limbo
    → ((chosen : ℕ → Bool) (is : chosen by ≡ true)
    → IsKept form before.geometry.size o h (left_state chosen state) (shown before.dirty i)
    (shown before.dirty i)
    → (kept : IsKept form before.geometry.size o later (left_state (without by chosen) state)
    (shown after.dirty j) (shown after.dirty j))
    → MakesNamed form before.geometry.size o later (left_state (without by chosen) state)
    (left_state chosen state) by (without_raises state by chosen active is) (shown after.dirty j) kept)
    → KeptIn form before.geometry.size o h state asked session before i
    → KeptIn form before.geometry.size o later state asked session after j

pub filled_tables_go : (form : Form) → RowsAreOne form.coding → HasNoSequences form → (D L : Type 0)
    (m : Meaning D) → FilledTablesGo form D L m
filled_tables_go form one none D L m before after i j batch asked session o h later by state changes fills
    active not_asked brings raises every =
    change_keeps_raised (keeping form before.geometry.size o h) (keeping form before.geometry.size o later) state by
    (cache_over before i) (cache_over after j) it.gone (content_in batch.pages) (lists batch.orders)
    (needs_in asked session before) (needs_in asked session after) it.changes active it.left
    (needs_all after j asked session by not_asked) (record { part = part; raise = raises }) every
  where
    it : BatchIsChanged before after i j batch asked session
    it = changed_fresh m before after i j batch asked session changes

    part : (chosen : ℕ → Bool) (set_ : PageSet) (image : Pages) → chosen by ≡ false
        → LaysBatch (shown before.dirty i) (shown after.dirty j) (content_in batch.pages)
        (lists batch.orders) set_ image
        → IsKept form before.geometry.size o h (left_state chosen state) (shown before.dirty i)
        (shown before.dirty i)
        → IsKept form before.geometry.size o h (left_state chosen state) (shown before.dirty i) image
        → IsKept form before.geometry.size o later (left_state chosen state) (shown after.dirty j)
        (laid (content_in batch.pages) set_ image)
    part chosen set_ image out lays of_pool was = each_longer form before.geometry.size o by
        (left_state chosen state) (shown after.dirty j) (laid (content_in batch.pages) set_ image) h later brings
        not_limbo (subst (λ (pages : Pages). IsKept form before.geometry.size o h (left_state chosen state)
        pages (laid (content_in batch.pages) set_ image)) (sym it.pool)
        (subst (IsKept form before.geometry.size o h (left_state chosen state) (viewed before i batch))
        (last_view (shown before.dirty i) (viewed before i batch) (content_in batch.pages)
        (lists batch.orders) set_ image lays_view) done.kept))
      where
        dead : left_state chosen state by ≡ Dead
        dead = rw (out, active) refl

        not_limbo : left_state chosen state by ≢ Limbo
        not_limbo is = let both : Dead ≡ Limbo = sym dead ∙ is in absurd cc

        lays_view : LaysBatch (shown before.dirty i) (viewed before i batch) (content_in batch.pages)
            (lists batch.orders) set_ image
        lays_view = subst (λ (pages : Pages). LaysBatch (shown before.dirty i) pages
            (content_in batch.pages) (lists batch.orders) set_ image) it.pool lays

        left : (q : ℕ) → content_in batch.pages q ≡ None → shown before.dirty i q ≡ viewed before i batch q
        left q none_ = sym (left_within before i (content_in batch.pages) (lists batch.orders) batch
            (within_self batch) q none_)

        rows : Fills before i (catalog_of (shown before.dirty i)).pointer.0
            (MayFill form one none before i changes.geometry (left_state chosen state) o h
            (content_in batch.pages) (lists batch.orders) (viewed before i batch) set_ image lays_view left
            of_pool.layout) fresh batch
        rows = fills_as before i (catalog_of (shown before.dirty i)).pointer.0
            (IsRowOf form before.geometry.size by state (shown before.dirty i))
            (MayFill form one none before i changes.geometry (left_state chosen state) o h
            (content_in batch.pages) (lists batch.orders) (viewed before i batch) set_ image lays_view left
            of_pool.layout)
            (λ row is. (
              ap (left_state chosen state) is.0 ∙ dead,
              is.1 chosen of_pool.layout of_pool.reading of_pool.sound,
            )) fresh batch fills

        done : IsFilled form one none before i changes.geometry (left_state chosen state) o h
            (content_in batch.pages) (lists batch.orders) (viewed before i batch) set_ image lays_view left
            batch
        done = fills_to form one none before i changes.geometry (left_state chosen state) o h
            (content_in batch.pages) (lists batch.orders) (viewed before i batch) set_ image lays_view left
            of_pool.layout fresh batch rows (within_self batch) (record {
              kept = subst (IsKept form before.geometry.size o h (left_state chosen state)
                  (shown before.dirty i)) (sym (first_view (shown before.dirty i) (viewed before i batch)
                  (content_in batch.pages) (lists batch.orders) set_ image lays_view)) was;
              header = refl;
            })

pub filled_tables_keep : (form : Form) → RowsAreOne form.coding → HasNoSequences form → (D L : Type 0)
    (m : Meaning D) → FilledTablesKeep form D L m
filled_tables_keep form one none D L m before after i j batch asked session o h later by state changes fills
    active not_asked brings makes every =
    filled_tables_go form one none D L m before after i j batch asked session o h later by state changes fills
    active not_asked brings (λ chosen is was kept. create_kept form before.geometry.size o later
    (left_state (without by chosen) state) (left_state chosen state) by
    (without_raises state by chosen active is) (shown after.dirty j) kept
    (creates_of form before.geometry.size o later (left_state (without by chosen) state) (left_state chosen state) by
    (without_raises state by chosen active is) (shown after.dirty j) kept (makes chosen is was kept))) every
