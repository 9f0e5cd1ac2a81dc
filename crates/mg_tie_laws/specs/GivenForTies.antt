-- The page that the heap gives to a table, which may be one that a transaction has made and not committed, is
-- the table's afterwards.
use Rattle.mg_base.specs.Disk.{Meaning}
use Rattle.mg_base.specs.Image.{Image}
use Rattle.mg_base.specs.declared.numbers.PageNo.{PageNo}
use Rattle.mg_base.specs.declared.transaction.TxState.{TxState}
use Rattle.mg_base.specs.declared.transaction.TxState.TheVariants.{Active}
use Rattle.mg_image_overlay_laws.specs.tables.Growing.{IsTableOf}
use Rattle.mg_image_overlay_laws.specs.tables.GrowingLaws.{grows_pool, table_of_end}
use Rattle.mg_image_overlay_laws.specs.kept.Knowing.{entered_of}
use Rattle.mg_heap.specs.Room.{GivesRoom}
use Rattle.mg_tie_laws.specs.Batches.{within_self}
use Rattle.mg_tie_laws.specs.GivenTies.{given_entered}
use Rattle.mg_tie_laws.specs.OutTies.{last_beyond}
use Rattle.mg_tie_laws.specs.RoomTies.{GrowsSome, end_of, ends_there, room_grows}
use Rattle.mg_image.specs.Form.{Form, Pages}
use Rattle.mg_image.specs.ReadingLaws.{RowsAreOne}
use Rattle.mg_image.specs.Records.{Reading}
use Rattle.mg_image.specs.Sound.{IsSoundBy}
use Rattle.mg_image.specs.Tables.{Layout, stands_of, table_at}
use Rattle.mg_image_overlay_laws.specs.pages.Kinds.{HasNoSequences}
use Rattle.mg_image_overlay_laws.specs.pages.Trees.{trees_stay}
use Rattle.mg_image_overlay_laws.specs.kept.KeptImages.{IsKept, keeping}
use Rattle.mg_model.specs.History.{Entries}
use Rattle.mg_model.specs.declared.opening.Opening.{Opening}
use Rattle.mg_model.specs.declared.table.Table.{Table}
use Rattle.mg_image_overlay_laws.specs.tables.OneLayout.{sound_once}
use Rattle.mg_overlay_laws.specs.BatchLaws.{good_of_pool}
use Rattle.mg_overlay_laws.specs.Overlays.{left_state}
use Rattle.mg_image_overlay_laws.specs.names.NotThere.{IsNotThere}
use Rattle.mg_image_overlay_laws.specs.tables.OutSteps.{IsKeptAt, grown_out}
use Rattle.mg_image_overlay_laws.specs.names.Whose.{IsTableFor, alone, alone_is, maker_has, not_both}
use Rattle.mg_pool.specs.Batch.{Changed, content_in, lists}
use Rattle.mg_pool.specs.Pool.{shown}
use Rattle.mg_pool.specs.declared.pool.Pool.{Pool}
use Rattle.mg_pool_overlay_laws.specs.Needs.{Asked, Sessions}
use Rattle.mg_space.specs.View.{viewed}
use Rattle.mg_tie_laws.specs.Changed.{BatchIsChanged, ChangesFresh, KeptIn, cache_over, changed_fresh, fresh, needs_in}
use Rattle.std.proofs.Common.{Bool, Some, false, inl, inr, refl, subst, ℕ, ◌≡◌, ◌⊎◌}

-- a page that was given to a table, which may be one that an active transaction has made and not committed,
-- is the table's in each layout afterwards that has the table
abbrev pub GivenPagesAreFor : Form → (D L : Type 0) → Meaning D → Type 0
GivenPagesAreFor form D L m = (before after : Pool D L) (i j : Image) (batch : Changed) (asked : Asked)
    (session : Sessions) (o : Opening) (h : Entries) (by : ℕ) (state : ℕ → TxState) (table : Table)
    (need : ℕ) (n : PageNo) → ChangesFresh m before after i j batch
    → GivesRoom before i fresh batch table.pointer.0 need n → state by ≡ Active
    → IsTableFor form before.geometry.size by state (shown before.dirty i) table
    → KeptIn form before.geometry.size o h state asked session before i
    → (chosen : ℕ → Bool) (layout : Layout) (r : Reading) → IsSoundBy form before.geometry.size
    (left_state chosen state) (shown after.dirty j) layout r → IsTableOf layout table
    → table_at (stands_of layout) n.0 ≡ Some table

pub given_pages_are_for : (form : Form) → RowsAreOne form.coding → HasNoSequences form → (D L : Type 0)
    (m : Meaning D) → GivenPagesAreFor form D L m
given_pages_are_for form one none D L m before after i j batch asked session o h by state table need n changes
    gives active whose every chosen layout r sound its =
    at (whose chosen start.layout start.reading start.sound)
  where
    it : BatchIsChanged before after i j batch asked session
    it = changed_fresh m before after i j batch asked session changes

    kept_of : (some : ℕ → Bool) → IsKept form before.geometry.size o h (left_state some state)
        (shown before.dirty i) (shown before.dirty i)
    kept_of some = good_of_pool (keeping form before.geometry.size o h) state (cache_over before i)
        (needs_in asked session before) it.changes.was_clean (λ t p needs. (it.left t p needs).0) every some

    start : IsKept form before.geometry.size o h (left_state chosen state) (shown before.dirty i)
        (shown before.dirty i)
    start = kept_of chosen

    made : IsKept form before.geometry.size o h (left_state (alone by) state) (shown before.dirty i)
        (shown before.dirty i)
    made = kept_of (alone by)

    its_made : IsTableOf made.layout table
    its_made = maker_has form before.geometry.size by state (shown before.dirty i) table active whose
        (alone by) (alone_is by) made.layout made.reading made.sound

    grown : GrowsSome form.in_primary before.geometry.size table.pointer.0 (lists batch.orders)
        (content_in batch.pages) (shown before.dirty i) (end_of gives.pointers gives.data_pages)
        (viewed before i batch)
    grown = room_grows form before i (left_state (alone by) state) made.layout made.reading fresh batch table
        need n (lists batch.orders) (content_in batch.pages) changes.geometry made.sound its_made
        (within_self batch) gives

    sound_there : IsSoundBy form before.geometry.size (left_state chosen state) (viewed before i batch) layout r
    sound_there = subst (λ (pages : Pages). IsSoundBy form before.geometry.size (left_state chosen state)
        pages layout r) it.pool sound

    -- where it was not there, the image is sound in the same layout then
    beyond : IsNotThere by (left_state chosen state) (shown before.dirty i) start.layout table
        → IsKeptAt form before.geometry.size o h (left_state chosen state) (λ k. false)
        (shown before.dirty i) start.layout start.reading (viewed before i batch)
    beyond unmade = grown_out form one none before.geometry.size o h (left_state chosen state) (λ k. false)
        (shown before.dirty i) start.layout start.reading table.pointer.0 (lists batch.orders)
        (content_in batch.pages) (shown before.dirty i) (viewed before i batch)
        (end_of gives.pointers gives.data_pages) grown.final grown.grows
        (last_beyond form none before i fresh batch table need n changes.geometry gives
        (left_state (alone by) state) made.layout made.reading made.sound its_made
        (left_state chosen state) start.layout start.reading start.sound unmade.out)
        (record { sound = start.sound; kept = start })

    at : IsTableOf start.layout table
        ⊎ IsNotThere by (left_state chosen state) (shown before.dirty i) start.layout table
        → table_at (stands_of layout) n.0 ≡ Some table
    at (inr unmade) = absurd (not_both form before.geometry.size (left_state chosen state)
        (shown before.dirty i) start.layout start.reading start.sound table
        (subst (λ (y : Layout). IsTableOf y table)
        (sound_once form one none before.geometry.size (left_state chosen state) (viewed before i batch)
        layout start.layout r start.reading sound_there (beyond unmade).sound).0 its) unmade.out)
    at (inl there) =
        let to = grows_pool form (sound_once form one none) none before.geometry.size
        (trees_stay form before.geometry.size) (left_state chosen state) table (lists batch.orders)
        (content_in batch.pages) (shown before.dirty i) (viewed before i batch)
        (end_of gives.pointers gives.data_pages) grown.final grown.grows start.layout start.reading
        start.sound (ends_there form before.geometry.size (left_state chosen state) (shown before.dirty i)
        start.layout start.reading start.sound table there gives.pointers gives.data_pages gives.table) in
        subst (λ (y : Layout). table_at (stands_of y) n.0 ≡ Some table)
        (sound_once form one none before.geometry.size (left_state chosen state) (viewed before i batch)
        to.layout layout start.reading r to.sound sound_there).0
        (entered_of form before.geometry.size (left_state chosen state) (viewed before i batch) to.layout
        start.reading to.sound table (table_of_end to.layout table grown.final to.ends) (λ k. Unit {0})
        (viewed before i batch) (λ k is. refl) n.0
        (given_entered form before i (left_state chosen state) start.layout start.reading fresh batch table
        need n changes.geometry start.sound there gives))
