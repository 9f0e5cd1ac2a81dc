-- A page that the heap gives to a table, in a batch of its own, keeps every overlay.
use Rattle.mg_base.specs.Disk.{Meaning}
use Rattle.mg_base.specs.Image.{Image}
use Rattle.mg_base.specs.declared.numbers.PageNo.{PageNo}
use Rattle.mg_base.specs.declared.transaction.TxState.{TxState}
use Rattle.mg_base.specs.declared.transaction.TxState.TheVariants.{Active}
use Rattle.mg_image_overlay_laws.specs.tables.Growing.{EndsAt, Grows, IsTableOf}
use Rattle.mg_image_overlay_laws.specs.tables.GrowthEvery.{growth_every}
use Rattle.mg_heap.specs.Room.{GivesRoom}
use Rattle.mg_tie_laws.specs.Batches.{within_self}
use Rattle.mg_tie_laws.specs.OutTies.{last_beyond}
use Rattle.mg_tie_laws.specs.RoomTies.{GrowsSome, end_of, ends_there, room_grows}
use Rattle.mg_image.specs.Form.{Form, Pages}
use Rattle.mg_image.specs.ReadingLaws.{RowsAreOne}
use Rattle.mg_image.specs.Records.{Reading}
use Rattle.mg_image.specs.Sound.{IsSoundBy}
use Rattle.mg_image.specs.Tables.{Has, Layout, stands_of}
use Rattle.mg_image_overlay_laws.specs.pages.Kinds.{HasNoSequences, pointers_of}
use Rattle.mg_image_overlay_laws.specs.kept.KeptImages.{IsKept, keeping}
use Rattle.mg_model.specs.History.{Entries}
use Rattle.mg_model.specs.declared.opening.Opening.{Opening}
use Rattle.mg_model.specs.declared.table.Table.{Table}
use Rattle.mg_overlay_laws.specs.BatchLaws.{good_of_pool}
use Rattle.mg_overlay_laws.specs.Overlays.{left_state, nobody}
use Rattle.mg_image_overlay_laws.specs.tables.GrowthFor.{growth_for_every}
use Rattle.mg_image_overlay_laws.specs.names.NotThere.{IsNotThere}
use Rattle.mg_image_overlay_laws.specs.names.Whose.{IsTableFor, alone, alone_is, maker_has}
use Rattle.mg_pool.specs.Batch.{Changed, content_in, lists}
use Rattle.mg_pool.specs.Pool.{shown}
use Rattle.mg_pool.specs.declared.pool.Pool.{Pool}
use Rattle.mg_pool_overlay_laws.specs.Needs.{Asked, Sessions}
use Rattle.mg_space.specs.View.{viewed}
use Rattle.mg_tie_laws.specs.Changed.{BatchIsChanged, ChangesFresh, KeptIn, cache_over, changed_fresh, fresh, needs_in}
use Rattle.std.proofs.Common.{Bool, inl, inr, subst, sym, ℕ, ◌≡◌, ◌⊎◌}

-- a page with room is given to a table, which may be one that an active transaction has made and not
-- committed, in a batch of its own that the cache has changed: every overlay is kept, and the history is as
-- it was
abbrev pub SpotRowKeepsFor : Form → (D L : Type 0) → Meaning D → Type 0
SpotRowKeepsFor form D L m = (before after : Pool D L) (i j : Image) (batch : Changed) (asked : Asked)
    (session : Sessions) (o : Opening) (h : Entries) (by : ℕ) (state : ℕ → TxState) (table : Table)
    (need : ℕ) (n : PageNo) → ChangesFresh m before after i j batch
    → GivesRoom before i fresh batch table.pointer.0 need n → state by ≡ Active
    → IsTableFor form before.geometry.size by state (shown before.dirty i) table
    → KeptIn form before.geometry.size o h state asked session before i
    → KeptIn form before.geometry.size o h state asked session after j

pub spot_row_keeps_for : (form : Form) → RowsAreOne form.coding → HasNoSequences form → (D L : Type 0)
    (m : Meaning D) → SpotRowKeepsFor form D L m
spot_row_keeps_for form one none D L m before after i j batch asked session o h by state table need n changes
    gives active whose every =
    growth_for_every form one none before.geometry.size o h state (cache_over before i) (cache_over after j)
    it.gone (content_in batch.pages) (lists batch.orders) (needs_in asked session before)
    (needs_in asked session after) table (end_of gives.pointers gives.data_pages) grown.final it.changes
    it.left (subst (λ (pages : Pages). Grows form.in_primary before.geometry.size table.pointer.0
    (lists batch.orders) (content_in batch.pages) (shown before.dirty i)
    (end_of gives.pointers gives.data_pages) pages grown.final) (sym it.pool) grown.grows)
    (λ chosen layout r sound. at chosen layout r sound (whose chosen layout r sound)) every
  where
    it : BatchIsChanged before after i j batch asked session
    it = changed_fresh m before after i j batch asked session changes

    start : IsKept form before.geometry.size o h (left_state (alone by) state) (shown before.dirty i)
        (shown before.dirty i)
    start = good_of_pool (keeping form before.geometry.size o h) state (cache_over before i)
        (needs_in asked session before) it.changes.was_clean (λ t p needs. (it.left t p needs).0) every
        (alone by)

    its : IsTableOf start.layout table
    its = maker_has form before.geometry.size by state (shown before.dirty i) table active whose (alone by)
        (alone_is by) start.layout start.reading start.sound

    grown : GrowsSome form.in_primary before.geometry.size table.pointer.0 (lists batch.orders)
        (content_in batch.pages) (shown before.dirty i) (end_of gives.pointers gives.data_pages)
        (viewed before i batch)
    grown = room_grows form before i (left_state (alone by) state) start.layout start.reading fresh batch
        table need n (lists batch.orders) (content_in batch.pages) changes.geometry start.sound its
        (within_self batch) gives

    at : (chosen : ℕ → Bool) (layout : Layout) (r : Reading)
        → IsSoundBy form before.geometry.size (left_state chosen state) (shown before.dirty i) layout r
        → IsTableOf layout table
        ⊎ IsNotThere by (left_state chosen state) (shown before.dirty i) layout table
        → EndsAt layout table (end_of gives.pointers gives.data_pages)
        ⊎ (Has (pointers_of (stands_of layout)) (end_of gives.pointers gives.data_pages).last → ⊥)
    at chosen layout r sound (inl stands_) = inl (ends_there form before.geometry.size
        (left_state chosen state) (shown before.dirty i) layout r sound table stands_ gives.pointers
        gives.data_pages gives.table)
    at chosen layout r sound (inr unmade) = inr (last_beyond form none before i fresh batch table need n
        changes.geometry gives (left_state (alone by) state) start.layout start.reading start.sound its
        (left_state chosen state) layout r sound unmade.out)

-- a page with room is given to a table, or to the catalog, in a batch of its own that the cache has
-- changed: every overlay is kept, and the history is as it was
abbrev pub SpotRowKeeps : Form → (D L : Type 0) → Meaning D → Type 0
SpotRowKeeps form D L m = (before after : Pool D L) (i j : Image) (batch : Changed) (asked : Asked)
    (session : Sessions) (o : Opening) (h : Entries) (state : ℕ → TxState) (table : Table) (need : ℕ)
    (n : PageNo) → ChangesFresh m before after i j batch
    → GivesRoom before i fresh batch table.pointer.0 need n
    → ((chosen : ℕ → Bool) (layout : Layout) (r : Reading) → IsSoundBy form before.geometry.size
    (left_state chosen state) (shown before.dirty i) layout r → IsTableOf layout table)
    → KeptIn form before.geometry.size o h state asked session before i
    → KeptIn form before.geometry.size o h state asked session after j

pub spot_row_keeps : (form : Form) → RowsAreOne form.coding → HasNoSequences form → (D L : Type 0)
    (m : Meaning D) → SpotRowKeeps form D L m
spot_row_keeps form one none D L m before after i j batch asked session o h state table need n changes gives
    its every =
    growth_every form one none before.geometry.size o h state (cache_over before i) (cache_over after j)
    it.gone (content_in batch.pages) (lists batch.orders) (needs_in asked session before)
    (needs_in asked session after) table (end_of gives.pointers gives.data_pages) grown.final it.changes
    it.left (subst (λ (pages : Pages). Grows form.in_primary before.geometry.size table.pointer.0
    (lists batch.orders) (content_in batch.pages) (shown before.dirty i)
    (end_of gives.pointers gives.data_pages) pages grown.final) (sym it.pool) grown.grows)
    (λ chosen layout r sound. ends_there form before.geometry.size (left_state chosen state)
    (shown before.dirty i) layout r sound table (its chosen layout r sound) gives.pointers
    gives.data_pages gives.table) every
  where
    it : BatchIsChanged before after i j batch asked session
    it = changed_fresh m before after i j batch asked session changes

    start : IsKept form before.geometry.size o h (left_state nobody state) (shown before.dirty i)
        (shown before.dirty i)
    start = good_of_pool (keeping form before.geometry.size o h) state (cache_over before i)
        (needs_in asked session before) it.changes.was_clean (λ t p needs. (it.left t p needs).0) every
        nobody

    grown : GrowsSome form.in_primary before.geometry.size table.pointer.0 (lists batch.orders)
        (content_in batch.pages) (shown before.dirty i) (end_of gives.pointers gives.data_pages)
        (viewed before i batch)
    grown = room_grows form before i (left_state nobody state) start.layout start.reading fresh batch table
        need n (lists batch.orders) (content_in batch.pages) changes.geometry start.sound
        (its nobody start.layout start.reading start.sound) (within_self batch) gives
