-- Pages change that no table of a layout has: the image stays sound in that layout, and an image with a set
-- of the pages is what it has to be.
use Rattle.mg_base.specs.Fields.{byte}
use Rattle.mg_base.specs.declared.numbers.RecId.{RecId}
use Rattle.mg_base.specs.declared.transaction.TxState.{TxState}
use Rattle.mg_careful.specs.CarefulWrite.{PageSet}
use Rattle.mg_careful.specs.Precedence.{Orders}
use Rattle.mg_image_overlay_laws.specs.tables.Growing.{Grows, TableEnd, entered_end, enters, linked_end, links, stays}
use Rattle.mg_image.specs.FactLaws.{records_on_same_cells}
use Rattle.mg_image.specs.Form.{Form, Pages}
use Rattle.mg_image.specs.Inventory.{is_used}
use Rattle.mg_image.specs.Reached.{linked_pages, tips_of}
use Rattle.mg_image.specs.ReadingLaws.{RowsAreOne}
use Rattle.mg_image.specs.RecordRules.{AreRecords}
use Rattle.mg_image.specs.Records.{Reading, cells_of, slot_cell}
use Rattle.mg_image.specs.Sound.{IsSoundBy, facts_by}
use Rattle.mg_image.specs.Tables.{Has, IsOnce, Layout, Stand, pages_of, stands_of, table_at}
use Rattle.mg_image_overlay_laws.specs.pages.DataPages.{ChangesData}
use Rattle.mg_image_overlay_laws.specs.pages.DataSound.{data_sound}
use Rattle.mg_image_overlay_laws.specs.pages.Frame.{KeepsLinked, frame_sound}
use Rattle.mg_image_overlay_laws.specs.pages.Kinds.{HasNoSequences, linked_is, pointer_linked, pointers_of, stands_linked}
use Rattle.mg_image_overlay_laws.specs.kept.Rest.{LeavesRest, LeavesRests}
use Rattle.mg_image_overlay_laws.specs.pages.Trees.{data_leaves, trees_stay}
use Rattle.mg_image_overlay_laws.specs.kept.KeptImages.{AreFrontStands, IsKept}
use Rattle.mg_image_overlay_laws.specs.pages.Reach.{once_back, once_front, pointers_front, table_in_pool}
use Rattle.mg_model.specs.History.{Entries}
use Rattle.mg_model.specs.declared.opening.Opening.{Opening}
use Rattle.mg_model.specs.declared.table.Table.{Table}
use Rattle.mg_image_overlay_laws.specs.tables.OneLayout.{sound_once}
use Rattle.mg_overlay_laws.specs.Overlays.{LaysBatch, laid}
use Rattle.mg_overlay_laws.specs.Views.{LaysPage, first_view, last_view, partly, step_in, step_out}
use Rattle.mg_image_overlay_laws.specs.pages.FrameKept.{frame_kept}
use Rattle.mg_image_overlay_laws.specs.records.DeadSteps.{StepsDead, dead_in, dead_out}
use Rattle.mg_image_overlay_laws.specs.records.PushPart.{page_laid}
use Rattle.mg_slots.specs.DataPage.{cell_of}
use Rattle.mg_image_overlay_laws.specs.pages.PointerPage.{ChangesPointer, keeps_all, pointer_unlinked, used_on, used_same}
use Rattle.mg_image_overlay_laws.specs.pages.TakePart.{OccupiesPage, keeps_linked, take_views, taken_whole}
use Rattle.std.proofs.Common.{Bool, List, None, Option, Some, ap, false, length, refl, subst, sym, true, ℕ, ◌++◌, ◌∙◌, ◌≡◌, ◌≢◌}
use Rattle.std.specs.List.{flat_map}

-- what holds of the one layout of a sound image holds of each
pub everywhere : (form : Form) → RowsAreOne form.coding → HasNoSequences form → (size : ℕ)
    (state : ℕ → TxState) (pages : Pages) (P : Layout → Reading → Type 0) (layout : Layout) (r : Reading)
    → IsSoundBy form size state pages layout r → P layout r → (other : Layout) (s : Reading)
    → IsSoundBy form size state pages other s → P other s
everywhere form one none size state pages P layout r sound is other s so =
    let same = sound_once form one none size state pages layout other r s sound so in
    subst (λ (y : Reading). P other y) same.1 (subst (λ (y : Layout). P y r) same.0 is)

-- A view of the pool is sound in a layout, and an image that has a set of its pages is what it has to be.
pub record IsKeptAt (form : Form) (size : ℕ) (o : Opening) (h : Entries) (state : ℕ → TxState)
    (set_ : PageSet) (image : Pages) (layout : Layout) (r : Reading) (view : Pages) : Type 0 where
  pub sound : IsSoundBy form size state view layout r
  pub kept : IsKept form size o h state view (partly set_ view image)

-- no table of an overlay has a data page that none of the pool has
none_of_image : (images pools : List Stand) → AreFrontStands images pools → IsOnce (flat_map pages_of pools)
    → (b : ℕ) → table_at pools b ≡ None → table_at images b ≡ None
none_of_image images pools fronts once b none_ = at (table_at images b) refl
  where
    at : (t : Option Table) → table_at images b ≡ t → table_at images b ≡ None
    at None is = is
    at (Some table) is =
        let both : Some table ≡ None = sym (table_in_pool images pools fronts once b table is) ∙ none_ in
        absurd cc

module _ (form : Form) (one : RowsAreOne form.coding) (none : HasNoSequences form) (size : ℕ)
    (o : Opening) (h : Entries) (state : ℕ → TxState) (set_ : PageSet) (image : Pages)
    (layout : Layout) (r : Reading) where
  abbrev At : Pages → Type 0
  At view = IsKeptAt form size o h state set_ image layout r view

  -- ---- a data page

  module _ (view next : Pages) (b : ℕ) (page : ChangesData form.in_primary view next b)
      (out : table_at (stands_of layout) b ≡ None) (at : At view) where
    rests : LeavesRests form size b
    rests = data_leaves form size b none (trees_stay form size)

    -- the records of a layout that has no such data page
    records_still : (old new : Pages) (other : Layout) (s : Reading)
        → IsSoundBy form size state old other s → ChangesData form.in_primary old new b
        → table_at (stands_of other) b ≡ None
        → AreRecords form.coding (facts_by state old other) (cells_of new) s
    records_still old new other s sound change none_ =
        records_on_same_cells form.coding (facts_by state old other) (cells_of old) (cells_of new) s
        (λ p table of. ap (λ (bytes : List ℕ). slot_cell (cell_of bytes p.slot))
        (change.others p.page.0 (off p table of))) sound.records
      where
        off : (p : RecId) (table : Table) → table_at (stands_of other) p.page.0 ≡ Some table
            → p.page.0 ≢ b
        off p table of same =
            let both : Some table ≡ None = sym of ∙ (ap (table_at (stands_of other)) same ∙ none_) in
            absurd cc

    step_on : (old new : Pages) (other : Layout) (s : Reading)
        → IsSoundBy form size state old other s → ChangesData form.in_primary old new b
        → table_at (stands_of other) b ≡ None
        → StepsDead form state size old new b (facts_by state old other) s s
    step_on old new other s sound change none_ = record {
      page = change;
      records = records_still old new other s sound change none_;
      same = λ q. refl;
    }

    data_sound_out : IsSoundBy form size state next layout r
    data_sound_out = data_sound form size state view next b layout r r at.sound page rest.trees
        (records_still view next layout r at.sound page out) (λ chosen p. refl) at.sound.own_tables (record {
          committed = λ p t row shows. rest.trees.found t p row shows.of_table
              (at.sound.indexed.committed p t row shows);
          limbo = λ p t e has_ alive. rest.trees.found t p e.row has_.of_table
              (at.sound.indexed.limbo p t e has_ alive);
        }) rest.sequences
      where
        rest : LeavesRest form size view next layout
        rest = rests state view next layout r at.sound page

    out_pool : table_at (stands_of at.kept.of_pool) b ≡ None
    out_pool = everywhere form one none size state view (λ y s. table_at (stands_of y) b ≡ None) layout r
        at.sound out at.kept.of_pool at.kept.in_pool at.kept.pool_sound

    pool_step : StepsDead form state size view next b (facts_by state view at.kept.of_pool) at.kept.in_pool
        at.kept.in_pool
    pool_step = step_on view next at.kept.of_pool at.kept.in_pool at.kept.pool_sound page out_pool

    rest_pool : LeavesRest form size view next at.kept.of_pool
    rest_pool = rests state view next at.kept.of_pool at.kept.in_pool at.kept.pool_sound page

    stands_once : IsOnce (flat_map pages_of (stands_of at.kept.of_pool))
    stands_once = once_back (tips_of size view) (flat_map pages_of (stands_of at.kept.of_pool))
        (once_front (tips_of size view ++ flat_map pages_of (stands_of at.kept.of_pool))
        at.kept.of_pool.sequences at.kept.pool_sound.once)

    out_image : table_at (stands_of at.kept.layout) b ≡ None
    out_image = none_of_image (stands_of at.kept.layout) (stands_of at.kept.of_pool) at.kept.behind.stands
        stands_once b out_pool

    data_kept_out : (c : Bool) → set_ b ≡ c → IsKept form size o h state next (partly set_ next image)
    data_kept_out false off = subst (IsKept form size o h state next)
        (sym (step_out set_ view next image b page.others off))
        (dead_out form size o h state view next (partly set_ view image) b at.kept at.kept.in_pool pool_step
        rest_pool)
    data_kept_out true in_set = dead_in form size o h state view next (partly set_ view image) b at.kept
        at.kept.in_pool pool_step rest_pool (partly set_ next image) at.kept.reading
        (step_on (partly set_ view image) (partly set_ next image) at.kept.layout at.kept.reading
        at.kept.sound laid_page out_image)
        (rests state (partly set_ view image) (partly set_ next image) at.kept.layout at.kept.reading
        at.kept.sound laid_page)
      where
        laid_page : ChangesData form.in_primary (partly set_ view image) (partly set_ next image) b
        laid_page = page_laid form.in_primary view next (partly set_ view image) (partly set_ next image) b
            page (step_in set_ view next image b page.others in_set)

    pub data_out : At next
    data_out = record { sound = data_sound_out; kept = data_kept_out (set_ b) refl }

  -- ---- a pointer page

  module _ (view next : Pages) (q : ℕ) (change : ChangesPointer view next q)
      (out : Has (pointers_of (stands_of layout)) q → ⊥) (at : At view) where
    off_linked : (old : Pages) (other : Layout) (s : Reading) → IsSoundBy form size state old other s
        → byte (old q) 0 ≡ 4 → (Has (pointers_of (stands_of other)) q → ⊥)
        → Has (linked_pages size old other) q → ⊥
    off_linked old other s sound four out_ linked =
        out_ ((linked_is form size state old other s none sound q linked).pointer four)

    keeps_pool : (other : Layout) (s : Reading) → IsSoundBy form size state view other s
        → (Has (pointers_of (stands_of other)) q → ⊥) → KeepsLinked form size view next other
    keeps_pool other s sound out_ = pointer_unlinked form size state view next q other s none
        (trees_stay form size) sound change (off_linked view other s sound change.kind out_)

    out_of_pool : Has (pointers_of (stands_of at.kept.of_pool)) q → ⊥
    out_of_pool = everywhere form one none size state view
        (λ y s. Has (pointers_of (stands_of y)) q → ⊥) layout r at.sound out at.kept.of_pool
        at.kept.in_pool at.kept.pool_sound

    of_pool : KeepsLinked form size view next at.kept.of_pool
    of_pool = keeps_pool at.kept.of_pool at.kept.in_pool at.kept.pool_sound out_of_pool

    -- an overlay's pointer pages are the pool's
    out_of_image : Has (pointers_of (stands_of at.kept.layout)) q → ⊥
    out_of_image is = off_linked view at.kept.of_pool at.kept.in_pool at.kept.pool_sound change.kind
        out_of_pool (stands_linked size view at.kept.of_pool q
        (pointers_front (stands_of at.kept.layout) (stands_of at.kept.of_pool) at.kept.behind.stands q is))

    used_now : (n : ℕ) → is_used size (partly set_ view image) n ≡ true → is_used size next n ≡ true
    used_now n is = used_on form size state view next q at.kept.of_pool at.kept.in_pool none
        (trees_stay form size) at.kept.pool_sound change n (at.kept.behind.used n is)

    pointer_kept_out : (c : Bool) → set_ q ≡ c → IsKept form size o h state next (partly set_ next image)
    pointer_kept_out false off = subst (IsKept form size o h state next)
        (sym (step_out set_ view next image q change.others off))
        (frame_kept form size o h state view next (partly set_ view image) (partly set_ view image) at.kept
        of_pool (keeps_all form size state (partly set_ view image) at.kept.layout at.kept.reading
        (trees_stay form size) at.kept.sound) used_now)
    pointer_kept_out true in_set = frame_kept form size o h state view next (partly set_ view image)
        (partly set_ next image) at.kept of_pool
        (pointer_unlinked form size state (partly set_ view image) (partly set_ next image) q at.kept.layout
        at.kept.reading none (trees_stay form size) at.kept.sound laid_page
        (off_linked (partly set_ view image) at.kept.layout at.kept.reading at.kept.sound laid_page.kind
        out_of_image))
        (λ n is. used_now n (sym (used_same form size state (partly set_ view image)
        (partly set_ next image) q at.kept.layout at.kept.reading none (trees_stay form size) at.kept.sound
        laid_page n) ∙ is))
      where
        lays : LaysPage view next (partly set_ view image) (partly set_ next image) q
        lays = step_in set_ view next image q change.others in_set

        laid_page : ChangesPointer (partly set_ view image) (partly set_ next image) q
        laid_page = record {
          others = lays.others;
          below = change.below;
          kind = ap (λ (page : List ℕ). byte page 0) lays.was ∙ change.kind;
          len = ap length lays.is ∙ (change.len ∙ sym (ap length lays.was));
        }

    pub pointer_out : At next
    pointer_out = record {
      sound = frame_sound form size state view next layout r at.sound
          (keeps_pool layout r at.sound out);
      kept = pointer_kept_out (set_ q) refl;
    }

  -- ---- a free page

  module _ (view next : Pages) (i n : ℕ) (takes : OccupiesPage size view next i n) (at : At view) where
    pub occupied_out : At next
    occupied_out = record {
      sound = frame_sound form size state view next layout r at.sound
          (keeps_linked form size state view next view next i n none (trees_stay form size) takes layout r
          at.sound (λ m is. is) (taken_whole view next i n takes.others));
      kept = (take_views form size o h state view next set_ image i n none (trees_stay form size) takes
          at.kept).kept;
    }

    -- a page that was free is no pointer page of a table
    pub free_out : Has (pointers_of (stands_of layout)) n → ⊥
    free_out is =
        let used : is_used size view n ≡ true =
        (linked_is form size state view layout r none at.sound n (pointer_linked size view layout n is)).used
        in
        let both : true ≡ false = sym used ∙ takes.fresh in absurd cc

  -- ---- a table that the layout does not have grows

  pub grown_out : (owner : ℕ) (orders : Orders) (batch : ℕ → Option (List ℕ)) (view last : Pages)
      (end final : TableEnd) → Grows form.in_primary size owner orders batch view end last final
      → (Has (pointers_of (stands_of layout)) end.last → ⊥) → At view → At last
  grown_out owner orders batch view last end final (stays v e) out at = at
  grown_out owner orders batch view last end final
      (links v taken next l e f i n takes names order in_batch more) out at =
      grown_out owner orders batch next last (linked_end end n) final more (free_out view taken i n takes at)
      (pointer_out taken next end.last names.change out (occupied_out view taken i n takes at))
  grown_out owner orders batch view last end final
      (enters v taken next l e f i n takes names order in_batch more) out at =
      grown_out owner orders batch next last (entered_end end) final more out
      (pointer_out taken next end.last names.change out (occupied_out view taken i n takes at))

-- the pool's own view before a batch, and an image on which it is laid in part
pub kept_before : (form : Form) (size : ℕ) (o : Opening) (h : Entries) (state : ℕ → TxState)
    (pool changed : Pages) (batch : ℕ → Option (List ℕ)) (orders : Orders) (set_ : PageSet)
    (image : Pages) (of_pool : IsKept form size o h state pool pool)
    → LaysBatch pool changed batch orders set_ image → IsKept form size o h state pool image
    → IsKeptAt form size o h state set_ image of_pool.layout of_pool.reading pool
kept_before form size o h state pool changed batch orders set_ image of_pool lays was = record {
  sound = of_pool.sound;
  kept = subst (IsKept form size o h state pool)
      (sym (first_view pool changed batch orders set_ image lays)) was;
}

-- and after it
pub kept_after : (form : Form) (size : ℕ) (o : Opening) (h : Entries) (state : ℕ → TxState)
    (pool changed : Pages) (batch : ℕ → Option (List ℕ)) (orders : Orders) (set_ : PageSet)
    (image : Pages) (layout : Layout) (r : Reading) → LaysBatch pool changed batch orders set_ image
    → IsKeptAt form size o h state set_ image layout r changed
    → IsKept form size o h state changed (laid batch set_ image)
kept_after form size o h state pool changed batch orders set_ image layout r lays at =
    subst (IsKept form size o h state changed) (last_view pool changed batch orders set_ image lays) at.kept
