-- What a batch of catalog rows leaves of pages, and what it makes of those that it takes.
use Rattle.mg_base.specs.Disk.{Meaning}
use Rattle.mg_base.specs.Fields.{byte}
use Rattle.mg_base.specs.Image.{Image}
use Rattle.mg_base.specs.declared.transaction.TxState.{TxState}
use Rattle.mg_base.specs.declared.transaction.TxState.TheVariants.{Active, Dead}
use Rattle.mg_tie_laws.specs.CatalogRows.{IsRowOf}
use Rattle.mg_tie_laws.specs.Filled.{IsFilled, MayFill, catalog_of, fills_leave, fills_take}
use Rattle.mg_tie_laws.specs.Filling.{Fills, HasTaken, NewRow, fills_as, taken_as}
use Rattle.mg_tie_laws.specs.Others.{IsLeft, IsOther}
use Rattle.mg_tie_laws.specs.FirstPages.{left_within}
use Rattle.mg_heap.specs.Reading.{owner_in}
use Rattle.mg_tie_laws.specs.Batches.{within_self}
use Rattle.mg_image.specs.Form.{Form, Pages}
use Rattle.mg_image.specs.ReadingLaws.{RowsAreOne}
use Rattle.mg_image_overlay_laws.specs.pages.Kinds.{HasNoSequences}
use Rattle.mg_image_overlay_laws.specs.kept.KeptImages.{IsKept, keeping}
use Rattle.mg_model.specs.History.{Entries}
use Rattle.mg_model.specs.declared.opening.Opening.{Opening}
use Rattle.mg_overlay_laws.specs.BatchLaws.{good_of_pool}
use Rattle.mg_overlay_laws.specs.Overlays.{LaysBatch, left_state, nobody}
use Rattle.mg_pool.specs.Batch.{Changed, content_in, lists}
use Rattle.mg_pool.specs.Pool.{shown}
use Rattle.mg_pool.specs.declared.pool.Pool.{Pool}
use Rattle.mg_pool_overlay_laws.specs.Needs.{Asked, Sessions}
use Rattle.mg_space.specs.View.{viewed}
use Rattle.mg_tie_laws.specs.Changed.{BatchIsChanged, ChangesFresh, KeptIn, cache_over, changed_fresh, fresh, needs_in}
use Rattle.std.proofs.Common.{List, None, ap, false, refl, subst, sym, true, ℕ, ◌∙◌, ◌≡◌, ◌≢◌, ◌≤◌}

-- a page in use of another owner than the catalog is as it was, and is in use; and a page that was taken has
-- the bytes with which it was made
abbrev pub FilledPagesStay : Form → (D L : Type 0) → Meaning D → Type 0
FilledPagesStay form D L m = (before after : Pool D L) (i j : Image) (batch : Changed) (asked : Asked)
    (session : Sessions) (o : Opening) (h : Entries) (by : ℕ) (state : ℕ → TxState)
    → ChangesFresh m before after i j batch
    → (fills : Fills before i (catalog_of (shown before.dirty i)).pointer.0
    (IsRowOf form before.geometry.size by state (shown before.dirty i)) fresh batch)
    → state by ≡ Active → KeptIn form before.geometry.size o h state asked session before i
    → ((k : ℕ) → IsOther before.geometry.size (shown before.dirty i)
    (catalog_of (shown before.dirty i)).pointer.0 k
    → IsLeft before.geometry.size (shown before.dirty i) (shown after.dirty j)
    (catalog_of (shown before.dirty i)).pointer.0 k)
    × ((n : ℕ) (bytes : List ℕ) → HasTaken before i (catalog_of (shown before.dirty i)).pointer.0
    (IsRowOf form before.geometry.size by state (shown before.dirty i)) fresh batch fills n bytes
    → 3 ≤ byte bytes 0 → owner_in bytes ≢ (catalog_of (shown before.dirty i)).pointer.0
    → (shown after.dirty j n ≡ bytes)
    × IsOther before.geometry.size (shown after.dirty j) (catalog_of (shown before.dirty i)).pointer.0 n)

pub filled_pages_stay : (form : Form) → RowsAreOne form.coding → HasNoSequences form → (D L : Type 0)
    (m : Meaning D) → FilledPagesStay form D L m
filled_pages_stay form one none D L m before after i j batch asked session o h by state changes fills active
    every = (
      λ k other. subst (λ (pages : Pages). IsLeft before.geometry.size (shown before.dirty i) pages
          (catalog_of (shown before.dirty i)).pointer.0 k) (sym it.pool)
          (fills_leave form one none before i changes.geometry (left_state nobody state) o h
          (content_in batch.pages) (lists batch.orders) (viewed before i batch) (λ p. false)
          (shown before.dirty i) lays left start.layout fresh batch rows (within_self batch) begun k other),
      λ n bytes has_ kind owned. subst (λ (pages : Pages). (pages n ≡ bytes)
          × IsOther before.geometry.size pages (catalog_of (shown before.dirty i)).pointer.0 n) (sym it.pool)
          (fills_take form one none before i changes.geometry (left_state nobody state) o h
          (content_in batch.pages) (lists batch.orders) (viewed before i batch) (λ p. false)
          (shown before.dirty i) lays left start.layout fresh batch
          (fills_as before i (catalog_of (shown before.dirty i)).pointer.0
          (IsRowOf form before.geometry.size by state (shown before.dirty i))
          (MayFill form one none before i changes.geometry (left_state nobody state) o h
          (content_in batch.pages) (lists batch.orders) (viewed before i batch) (λ p. false)
          (shown before.dirty i) lays left start.layout) gives fresh batch fills)
          (within_self batch) begun n bytes
          (taken_as before i (catalog_of (shown before.dirty i)).pointer.0
          (IsRowOf form before.geometry.size by state (shown before.dirty i))
          (MayFill form one none before i changes.geometry (left_state nobody state) o h
          (content_in batch.pages) (lists batch.orders) (viewed before i batch) (λ p. false)
          (shown before.dirty i) lays left start.layout) gives fresh batch fills n bytes has_) kind owned),
    )
  where
    it : BatchIsChanged before after i j batch asked session
    it = changed_fresh m before after i j batch asked session changes

    start : IsKept form before.geometry.size o h (left_state nobody state) (shown before.dirty i)
        (shown before.dirty i)
    start = good_of_pool (keeping form before.geometry.size o h) state (cache_over before i)
        (needs_in asked session before) it.changes.was_clean (λ t p needs. (it.left t p needs).0) every
        nobody

    dead : left_state nobody state by ≡ Dead
    dead = rw active refl

    never : false ≡ true → ⊥
    never is = cc

    lays : LaysBatch (shown before.dirty i) (viewed before i batch) (content_in batch.pages)
        (lists batch.orders) (λ p. false) (shown before.dirty i)
    lays = record {
      was = λ p is. absurd (never is);
      is = λ p is. absurd (never is);
      first = λ a b ordered is. absurd (never is);
      together = λ a b ordered in_batch is. absurd (never is);
    }

    left : (q : ℕ) → content_in batch.pages q ≡ None → shown before.dirty i q ≡ viewed before i batch q
    left q none_ = sym (left_within before i (content_in batch.pages) (lists batch.orders) batch
        (within_self batch) q none_)

    gives : (row : NewRow) → IsRowOf form before.geometry.size by state (shown before.dirty i) row
        → MayFill form one none before i changes.geometry (left_state nobody state) o h
        (content_in batch.pages) (lists batch.orders) (viewed before i batch) (λ p. false)
        (shown before.dirty i) lays left start.layout row
    gives row is = (
      ap (left_state nobody state) is.0 ∙ dead,
      is.1 nobody start.layout start.reading start.sound,
    )

    rows : Fills before i (catalog_of (shown before.dirty i)).pointer.0
        (MayFill form one none before i changes.geometry (left_state nobody state) o h
        (content_in batch.pages) (lists batch.orders) (viewed before i batch) (λ p. false)
        (shown before.dirty i) lays left start.layout) fresh batch
    rows = fills_as before i (catalog_of (shown before.dirty i)).pointer.0
        (IsRowOf form before.geometry.size by state (shown before.dirty i))
        (MayFill form one none before i changes.geometry (left_state nobody state) o h
        (content_in batch.pages) (lists batch.orders) (viewed before i batch) (λ p. false)
        (shown before.dirty i) lays left start.layout) gives fresh batch fills

    begun : IsFilled form one none before i changes.geometry (left_state nobody state) o h
        (content_in batch.pages) (lists batch.orders) (viewed before i batch) (λ p. false)
        (shown before.dirty i) lays left fresh
    begun = record { kept = start; header = refl }
