-- A record's newest version is taken out, in part: on an image in which its writer counts as dead. The
-- slot leads past it first, and then its cell is freed. The image has both pages, the first alone, or
-- none.
use Rattle.std.proofs.Common.{◌≡◌, ◌≢◌, ◌⊎◌, inl, inr, ap, sym, subst, ◌∙◌, refl, ℕ, Bool, true, false, List, [], Option, None, Some}
use Rattle.std.proofs.lemmas.Bool.{cases_eq}
use Rattle.mg_base.specs.declared.numbers.RecId.{RecId}
use Rattle.mg_base.specs.declared.transaction.TxState.{TxState}
use Rattle.mg_base.specs.declared.transaction.TxState.TheVariants.{Committed, Dead}
use Rattle.mg_careful.specs.CarefulWrite.{PageSet}
use Rattle.mg_careful.specs.Precedence.{Orders}
use Rattle.mg_version.specs.declared.cell.Cell.TheVariants as cells
use Rattle.mg_version.specs.declared.cell.Link.{Link}
use Rattle.mg_version.specs.declared.cell.Version.{Version}
use Rattle.mg_model.specs.declared.opening.Opening.{Opening}
use Rattle.mg_model.specs.declared.table.Table.{Table}
use Rattle.mg_model.specs.History.{Entries}
use Rattle.mg_image.specs.declared.entry.Entry.{Entry}
use Rattle.mg_image.specs.Form.{Form, Pages}
use Rattle.mg_image.specs.ReadingLaws.{RowsAreOne}
use Rattle.mg_image.specs.RecordRules.{Facts, table_in}
use Rattle.mg_image.specs.Records.{Chain, Changes, Reading, Stands, cells_of, newest_of, writer}
use Rattle.mg_image.specs.Sound.{IsSoundBy, facts_by}
use Rattle.mg_image.specs.StepLaws.{chain_stays, put_reading}
use Rattle.mg_image.specs.Tables.{Layout}
use Rattle.mg_image_overlay_laws.specs.pages.DataPages.{ChangesData}
use Rattle.mg_image_overlay_laws.specs.records.Fronts.{living}
use Rattle.mg_image_overlay_laws.specs.pages.Kinds.{HasNoSequences}
use Rattle.mg_image_overlay_laws.specs.kept.Rest.{LeavesRests}
use Rattle.mg_image_overlay_laws.specs.kept.KeptImages.{IsKept}
use Rattle.mg_image_overlay_laws.specs.pages.Reach.{IsEntered, entered_with}
use Rattle.mg_overlay_laws.specs.Overlays.{LaysBatch, laid}
use Rattle.mg_overlay_laws.specs.Views.{LaysPage, first_view, last_view, ordered_same, partly, step_in, step_out}
use Rattle.mg_image_overlay_laws.specs.records.FreePart.{FreesPage, IsTurned, free_views}
use Rattle.mg_image_overlay_laws.specs.records.OwnThere.{HasIt, dead_newest, dead_there, found_there, goes_quietly, has_it, none_reads, older_off, open_newest, open_there, pool_behind, pool_empty, reached, rest_leads}
use Rattle.mg_image_overlay_laws.specs.records.OwnVersion.{FindsNewest}
use Rattle.mg_image_overlay_laws.specs.records.SlotPart.{TurnsTo, turn_in, turn_out}
use Rattle.mg_image_overlay_laws.specs.records.TakeOut.{back_cell, back_leads, clear_sound, drop_living, drop_sound, slot_off}
use Rattle.mg_image_overlay_laws.specs.records.PushPart.{cells_alike, cells_laid}

-- A version is taken out on pages: the slot p, which led to it, leads where it led on, and its cell at x
-- is freed.
pub record TakesOutPages (in_primary : Bool) (pool mid changed : Pages) (p x : RecId) (v : Version)
    (l : Link) : Type 0 where
  pub slot_page : ChangesData in_primary pool mid p.page.0
  pub slot : cells_of pool p ≡ Some (cells.Anchor l)
  pub turn : Changes (cells_of pool) (cells_of mid) p (back_cell v.back)
  pub frees : FreesPage in_primary mid changed x v

-- The orders of its batch: the slot's page before that of the freed cell; and where no version lies
-- behind, the pointer pages by which the slot's page is reached before that.
pub record OrdersTakeOut (orders : Orders) (pool : Pages) (table : Table) (x p : RecId) (v : Version)
    : Type 0 where
  pub freed : x.page.0 ≢ p.page.0 → orders p.page.0 x.page.0 ≡ true
  pub pointers : v.back ≡ None → IsEntered (λ m. orders m p.page.0 ≡ true) pool p.page.0 table.pointer.0

-- ---- the two steps

module _ (form : Form) (one : RowsAreOne form.coding) (none : HasNoSequences form) (size : ℕ)
    (o : Opening) (h : Entries) (state : ℕ → TxState) (pool mid changed : Pages) (p x : RecId)
    (table : Table) (v : Version) (l : Link)
    (takes : TakesOutPages form.in_primary pool mid changed p x v l)
    (finds : (layout : Layout) (r : Reading) → IsSoundBy form size state pool layout r
    → FindsNewest (facts_by state pool layout) r p table x v)
    (rest_slot : LeavesRests form size p.page.0) (rest_free : LeavesRests form size x.page.0) where
  -- the first step, where the writer counts as dead
  module _ (dead : state v.tx.0 ≡ Dead) (of_pool : IsKept form size o h state pool pool) (image : Pages)
      (kept : IsKept form size o h state pool image) where
    abbrev f : Facts
    f = facts_by state pool kept.of_pool

    abbrev g : Facts
    g = facts_by state image kept.layout

    abbrev found : FindsNewest f kept.in_pool p table x v
    found = finds kept.of_pool kept.in_pool kept.pool_sound

    open_pool : state (writer found.newest) ≢ Committed
    open_pool = open_newest form one none size o h state pool image of_pool kept p x table v l found
        takes.slot dead

    pool_leads : Chain (cells_of mid) (newest_of p (back_cell v.back)) found.older
    pool_leads = subst (λ (k : Option Link). Chain (cells_of mid) k found.older)
        (sym (back_leads p v.back)) (chain_stays (cells_of pool) (cells_of mid) p (back_cell v.back)
        takes.turn v.back found.older behind_ (slot_off (cells_of pool) p l takes.slot v.back found.older
        behind_))
      where
        behind_ : Chain (cells_of pool) v.back found.older
        behind_ = pool_behind form one none size o h state pool image of_pool kept p x table v l found
            takes.slot dead

    pool_to : TurnsTo form f mid kept.in_pool p x found.older
    pool_to = record {
      records = drop_sound form.coding f (cells_of pool) (cells_of mid) kept.in_pool p table l
          (back_cell v.back) kept.pool_sound.records found.of takes.slot takes.turn found.newest
          found.older found.first open_pool pool_leads;
      quiet = inl (drop_living form.coding f (cells_of pool) (cells_of mid) kept.in_pool p table l
          (back_cell v.back) kept.pool_sound.records found.of takes.slot takes.turn found.newest
          found.older found.first open_pool pool_leads (dead_newest form one none size o h state pool image
          of_pool kept p x table v l found takes.slot dead));
      unread = none_reads form size state pool kept.of_pool kept.in_pool kept.pool_sound p table x v l
          found takes.slot found.older (older_off form size state pool kept.of_pool kept.in_pool
          kept.pool_sound p table x v l found takes.slot);
    }

    out : IsTurned form size o h state mid x false image
    out = turn_out form size o h state pool mid image p x kept takes.slot_page rest_slot found.older
        pool_to

    -- an image that has the slot's page
    module _ (laid_ : Pages) (lays : LaysPage pool mid image laid_ p.page.0)
        (entered : v.back ≡ None → IsEntered (λ m. image m ≡ pool m) pool p.page.0 table.pointer.0) where
      slot_there : cells_of image p ≡ Some (cells.Anchor l)
      slot_there = cells_alike pool image p p.page.0 refl lays.was ∙ takes.slot

      turn_there : Changes (cells_of image) (cells_of laid_) p (back_cell v.back)
      turn_there = cells_laid pool mid image laid_ p.page.0 p (back_cell v.back) refl lays takes.turn

      of : table_in g p ≡ Some table
      of = reached form one none size o h state pool image of_pool kept p x table v l found takes.slot dead
          slot_there entered

      abbrev it : HasIt form one none size o h state pool image of_pool kept p x table v l found takes.slot
          dead slot_there entered
      it = has_it form one none size o h state pool image of_pool kept p x table v l found takes.slot dead
          slot_there entered

      unread_with : (es : List Entry) → (Stands es x → ⊥) → (q : RecId)
          → Stands (put_reading kept.reading p es q) x → ⊥
      unread_with = none_reads form size state image kept.layout kept.reading kept.sound p table x
          it.first.version l (found_there form one none size o h state pool image of_pool kept p x table v l
          found takes.slot dead slot_there entered) slot_there

      go_on : (es : List Entry) → TurnsTo form g laid_ kept.reading p x es
          → (living state es ≡ living state (kept.reading p)) ⊎ (living state found.older ≡ [])
          → IsTurned form size o h state mid x true laid_
      go_on = turn_in form size o h state pool mid image p x kept takes.slot_page rest_slot found.older
          pool_to laid_ lays

      within : IsTurned form size o h state mid x true laid_
      within = by v.back refl
        where
          by : (b : Option Link) → v.back ≡ b → IsTurned form size o h state mid x true laid_
          by (Some m) some = go_on it.rest (record {
            records = drop_sound form.coding g (cells_of image) (cells_of laid_) kept.reading p table l
                (back_cell v.back) kept.sound.records of slot_there turn_there it.first it.rest it.is
                open_ leads;
            quiet = inl same;
            unread = unread_with it.rest (older_off form size state image kept.layout kept.reading kept.sound p
                table x it.first.version l (found_there form one none size o h state pool image of_pool kept p
                x table v l found takes.slot dead slot_there entered) slot_there);
          }) (inl same)
            where
              open_ : state (writer it.first) ≢ Committed
              open_ = open_there form one none size o h state pool image of_pool kept p x table v l found
                  takes.slot dead slot_there entered

              leads : Chain (cells_of laid_) (newest_of p (back_cell v.back)) it.rest
              leads = subst (λ (k : Option Link). Chain (cells_of laid_) k it.rest)
                  (sym (back_leads p v.back ∙ some))
                  (rest_leads form one none size o h state pool image of_pool kept p x table v l found
                  takes.slot dead slot_there entered (cells_of laid_) (back_cell v.back) turn_there m some)

              same : living state it.rest ≡ living state (kept.reading p)
              same = drop_living form.coding g (cells_of image) (cells_of laid_) kept.reading p table l
                  (back_cell v.back) kept.sound.records of slot_there turn_there it.first it.rest it.is
                  open_ leads (dead_there form one none size o h state pool image of_pool kept p x table v l
                  found takes.slot dead slot_there entered)
          by None nothing = go_on [] (record {
            records = clear_sound form.coding g (cells_of image) (cells_of laid_) kept.reading p table l
                (back_cell v.back) kept.sound.records of slot_there turn_there
                (back_leads p v.back ∙ nothing);
            quiet = inr (goes_quietly form one none size o h state pool image of_pool kept p x table v l
                found takes.slot dead slot_there entered nothing [] refl);
            unread = unread_with [] (λ there. there);
          }) (inr (ap (living state) (pool_empty form one none size o h state pool image of_pool kept p x
              table v l found takes.slot dead nothing)))

  -- ---- both, on an image with the pages of a set

  module _ (dead : state v.tx.0 ≡ Dead) (of_pool : IsKept form size o h state pool pool) where
    -- as two steps of the views of a batch
    pub take_out_views : (orders : Orders) (set_ : PageSet) (image : Pages)
        → (set_ x.page.0 ≡ true → set_ p.page.0 ≡ true)
        → ((m : ℕ) → orders m p.page.0 ≡ true → set_ p.page.0 ≡ true → partly set_ pool image m ≡ pool m)
        → OrdersTakeOut orders pool table x p v
        → IsKept form size o h state pool (partly set_ pool image)
        → IsKept form size o h state changed (partly set_ changed image)
    take_out_views orders set_ image with_slot same ordered start =
        free_views form size o h state mid changed x v takes.frees rest_free set_ image p.page.0 with_slot
        (middle (set_ p.page.0) refl)
      where
        middle : (c : Bool) → set_ p.page.0 ≡ c
            → IsTurned form size o h state mid x (set_ p.page.0) (partly set_ mid image)
        middle true in_set = subst (λ (c : Bool). IsTurned form size o h state mid x c
            (partly set_ mid image)) (sym in_set)
            (within dead of_pool (partly set_ pool image) start (partly set_ mid image)
            (step_in set_ pool mid image p.page.0 takes.slot_page.others in_set)
            (λ nothing. entered_with (λ m. orders m p.page.0 ≡ true)
            (λ m. partly set_ pool image m ≡ pool m) pool p.page.0 table.pointer.0
            (λ m before. same m before in_set) (ordered.pointers nothing)))
        middle false off = subst (λ (c : Bool). IsTurned form size o h state mid x c
            (partly set_ mid image)) (sym off)
            (subst (IsTurned form size o h state mid x false)
            (sym (step_out set_ pool mid image p.page.0 takes.slot_page.others off))
            (out dead of_pool (partly set_ pool image) start))

    -- as a batch of its own
    pub take_out_part : (batch : ℕ → Option (List ℕ)) (orders : Orders) (set_ : PageSet) (image : Pages)
        → batch p.page.0 ≢ None → ((m : ℕ) → batch m ≡ None → pool m ≡ changed m)
        → OrdersTakeOut orders pool table x p v
        → LaysBatch pool changed batch orders set_ image
        → IsKept form size o h state pool image
        → IsKept form size o h state changed (laid batch set_ image)
    take_out_part batch orders set_ image in_batch left ordered lays was =
        subst (IsKept form size o h state changed) (last_view pool changed batch orders set_ image lays)
        (take_out_views orders set_ image (λ in_set. with_slot in_set (cases_eq x.page.0 p.page.0))
        (λ m before in_set. ordered_same pool changed batch orders set_ image pool lays left m p.page.0
        before in_set) ordered (subst (IsKept form size o h state pool)
        (sym (first_view pool changed batch orders set_ image lays)) was))
      where
        with_slot : set_ x.page.0 ≡ true → (x.page.0 ≡ p.page.0) ⊎ (x.page.0 ≢ p.page.0)
            → set_ p.page.0 ≡ true
        with_slot in_set (inl one_) = sym (ap set_ one_) ∙ in_set
        with_slot in_set (inr two) =
            lays.together p.page.0 x.page.0 (ordered.freed two) in_batch in_set
