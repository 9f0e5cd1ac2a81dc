-- A push in part, on an image in which the writer counts as dead: the version's cell first, and then
-- the slot that leads to it. The image has both pages, the first alone, or none.
use Rattle.mg_base.specs.Fields.{byte}
use Rattle.mg_base.specs.declared.numbers.RecId.{RecId}
use Rattle.mg_base.specs.declared.transaction.TxState.{TxState}
use Rattle.mg_base.specs.declared.transaction.TxState.TheVariants.{Committed, Dead}
use Rattle.mg_careful.specs.CarefulWrite.{PageSet}
use Rattle.mg_careful.specs.Precedence.{Orders}
use Rattle.mg_header.specs.HeaderPage.{header_in}
use Rattle.mg_image.specs.Form.{Coding, Form, Pages}
use Rattle.mg_image.specs.Reached.{tips_of}
use Rattle.mg_image.specs.ReadingLaws.{Opens, chain_opens}
use Rattle.mg_image.specs.RecordRules.{Facts, IsVersion, table_in}
use Rattle.mg_image.specs.Records.{Chain, Changes, Reading, Stands, cells_of, key_of, newest_of, record_key, slot_cell, writer}
use Rattle.mg_image.specs.Sound.{IsSoundBy, facts_by}
use Rattle.mg_image.specs.StepLaws.{put_reading}
use Rattle.mg_image.specs.Tables.{IsOnce, Layout, pages_of, stands_of}
use Rattle.mg_image.specs.declared.entry.Entry.{Entry}
use Rattle.mg_image_overlay_laws.specs.pages.DataPages.{ChangesData}
use Rattle.mg_image_overlay_laws.specs.pages.DataSound.{facts_same}
use Rattle.mg_image_overlay_laws.specs.records.Fronts.{IsFront, living}
use Rattle.mg_image_overlay_laws.specs.records.Push.{PushesOver, free_unread, push_living, push_sound, put_sound}
use Rattle.mg_image_overlay_laws.specs.kept.Rest.{LeavesRest, LeavesRests}
use Rattle.mg_image_overlay_laws.specs.kept.KeptImages.{IsKept}
use Rattle.mg_image_overlay_laws.specs.pages.Reach.{IsEntered, entered_with, once_back, once_front, table_in_image, table_in_pool}
use Rattle.mg_model.specs.History.{Entries}
use Rattle.mg_model.specs.declared.opening.Opening.{Opening}
use Rattle.mg_model.specs.declared.table.Table.{Table}
use Rattle.mg_overlay_laws.specs.Overlays.{LaysBatch, laid}
use Rattle.mg_overlay_laws.specs.Views.{LaysPage, first_view, last_view, ordered_same, partly, step_in, step_out}
use Rattle.mg_image_overlay_laws.specs.records.DeadSteps.{StepsDead, dead_in, dead_out}
use Rattle.mg_image_overlay_laws.specs.records.QuietSteps.{quiet_in, quiet_out}
use Rattle.mg_slots.specs.DataPage.{cell_of}
use Rattle.mg_version.specs.declared.cell.Cell.{Cell}
use Rattle.mg_version.specs.declared.cell.Link.{Link}
use Rattle.mg_version.specs.declared.cell.Version.{Version}
use Rattle.std.proofs.Common.{Bool, List, None, Option, Some, [], ap, false, inl, inr, refl, subst, sym, true, ℕ, ◌++◌, ◌<◌, ◌∙◌, ◌∷◌, ◌≡◌, ◌≢◌, ◌≤◌, ◌⊎◌}
use Rattle.std.proofs.lemmas.Bool.{cases_eq}
use Rattle.std.specs.List.{flat_map}
use Rattle.mg_version.specs.declared.cell.Cell.TheVariants as cells

-- ---- a page of the pool is laid on an image that has it

pub page_laid : (in_primary : Bool) (pool changed image laid : Pages) (b : ℕ)
    → ChangesData in_primary pool changed b → LaysPage pool changed image laid b
    → ChangesData in_primary image laid b
page_laid in_primary pool changed image laid b page lays = record {
  others = lays.others;
  below = page.below;
  kind = ap (λ (bytes : List ℕ). byte bytes 0) lays.was ∙ page.kind;
  common = rw (lays.is, lays.was) page.common;
  len = rw (lays.is, lays.was) page.len;
  lawful = rw lays.is page.lawful;
  cells = rw lays.is page.cells;
}

-- the cells of a page that two images have alike
pub cells_alike : (old new : Pages) (x : RecId) (b : ℕ) → x.page.0 ≡ b → new b ≡ old b
    → cells_of new x ≡ cells_of old x
cells_alike old new x b on same = ap (λ (page : List ℕ). slot_cell (cell_of page x.slot))
    (ap new on ∙ (same ∙ ap old (sym on)))

pub cells_laid : (pool changed image laid : Pages) (b : ℕ) (x : RecId) (cell : Option Cell)
    → x.page.0 ≡ b → LaysPage pool changed image laid b
    → Changes (cells_of pool) (cells_of changed) x cell
    → Changes (cells_of image) (cells_of laid) x cell
cells_laid pool changed image laid b x cell on lays change = record {
  here = cells_alike changed laid x b on lays.is ∙ change.here;
  others = λ y ne. others y ne (cases_eq y.page.0 b);
}
  where
    others : (y : RecId) → y ≢ x → (y.page.0 ≡ b) ⊎ (y.page.0 ≢ b)
        → cells_of laid y ≡ cells_of image y
    others y ne (inl there) = cells_alike changed laid y b there lays.is
        ∙ (change.others y ne ∙ sym (cells_alike pool image y b there lays.was))
    others y ne (inr off) = ap (λ (page : List ℕ). slot_cell (cell_of page y.slot))
        (lays.others y.page.0 off)

-- ---- what a writer does, and what it knows

-- A push on pages: the version's cell comes to stand at x, and the slot p, which led to the record's
-- newest version, leads to it.
pub record PushesPages (in_primary : Bool) (pool mid changed : Pages) (x p : RecId) (v : Version)
    (l link : Link) : Type 0 where
  pub put_page : ChangesData in_primary pool mid x.page.0
  pub put : Changes (cells_of pool) (cells_of mid) x (Some (cells.Version v))
  pub free : cells_of pool x ≡ None
  pub apart : v.primary ≡ false
  pub slot_page : ChangesData in_primary mid changed p.page.0
  pub slot : cells_of mid p ≡ Some (cells.Anchor l)
  pub turn : Changes (cells_of mid) (cells_of changed) p (Some (cells.Anchor link))
  pub leads : (x ≡ link.rec) × (v.tx ≡ link.tx)
  pub back : v.back ≡ Some l

-- The orders of its batch: the header, the pointer pages by which the cell's page is reached, and
-- that page before the slot's.
pub record OrdersPush (orders : Orders) (pool : Pages) (table : Table) (x p : RecId) : Type 0 where
  pub header : orders 0 p.page.0 ≡ true
  pub cell : x.page.0 ≢ p.page.0 → orders x.page.0 p.page.0 ≡ true
  pub pointers : IsEntered (λ m. orders m p.page.0 ≡ true) pool x.page.0 table.pointer.0

-- What is known of the record: its newest version is committed, and the new one is lawful over it.
pub record FindsRecord (coding : Coding) (f : Facts) (r : Reading) (p : RecId) (table : Table)
    (n : Entry) : Type 0 where
  pub of : table_in f p ≡ Some table
  pub newest : Entry
  pub older : List Entry
  pub first : r p ≡ newest ∷ older
  pub settled : f.state (writer newest) ≡ Committed
  pub lawful : IsVersion coding f table (record_key table (r p)) n

-- the newest version is where the slot leads
pub newest_leads : (form : Form) (size : ℕ) (state : ℕ → TxState) (pages : Pages) (layout : Layout)
    (r : Reading) → IsSoundBy form size state pages layout r → (p : RecId) (table : Table) (n : Entry)
    (l : Link) (finds : FindsRecord form.coding (facts_by state pages layout) r p table n)
    → cells_of pages p ≡ Some (cells.Anchor l)
    → (finds.newest.at ≡ l.rec) × (finds.newest.version.tx ≡ l.tx)
newest_leads form size state pages layout r sound p table n l finds slot = (opens.0, opens.2)
  where
    opens : Opens (cells_of pages) (Some l) (finds.newest ∷ finds.older)
    opens = chain_opens (cells_of pages) (Some l) (finds.newest ∷ finds.older)
        (subst (Chain (cells_of pages) (Some l)) finds.first
        (subst (λ (c : Option Cell). Chain (cells_of pages) (newest_of p c) (r p)) slot
        (sound.records.reads p table finds.of)))

-- ---- the record in an overlay

module _ (form : Form) (size : ℕ) (o : Opening) (h : Entries) (state : ℕ → TxState)
    (pool image : Pages) (kept : IsKept form size o h state pool image) (p : RecId) (table : Table)
    (n : Entry) (l : Link)
    (finds : FindsRecord form.coding (facts_by state pool kept.of_pool) kept.in_pool p table n)
    (slot : cells_of pool p ≡ Some (cells.Anchor l)) where
  abbrev f : Facts
  f = facts_by state pool kept.of_pool

  abbrev g : Facts
  g = facts_by state image kept.layout

  leads_there : (finds.newest.at ≡ l.rec) × (finds.newest.version.tx ≡ l.tx)
  leads_there = newest_leads form size state pool kept.of_pool kept.in_pool kept.pool_sound p table n l
      finds slot

  pool_once : IsOnce (flat_map pages_of (stands_of kept.of_pool))
  pool_once = once_back (tips_of size pool) (flat_map pages_of (stands_of kept.of_pool))
      (once_front (tips_of size pool ++ flat_map pages_of (stands_of kept.of_pool))
      kept.of_pool.sequences kept.pool_sound.once)

  front : IsFront state (finds.newest ∷ finds.older) (living state (kept.reading p))
  front = subst (λ (ds : List Entry). IsFront state ds (living state (kept.reading p)))
      (ap (living state) finds.first ∙ stays) (kept.fronts.fronts p)
    where
      stays : living state (finds.newest ∷ finds.older) ≡ finds.newest ∷ finds.older
      stays = rw finds.settled refl

  -- where the overlay has the pages that the orders of a push name, it finds the record as well
  module _ (same_slot : cells_of image p ≡ cells_of pool p) (same_header : image 0 ≡ pool 0)
      (entered : IsEntered (λ m. image m ≡ pool m) pool n.at.page.0 table.pointer.0) where
    lawful_as : (es : List Entry) → record_key table es ≡ record_key table (kept.in_pool p)
        → IsVersion form.coding g table (record_key table es) n
    lawful_as es key = record {
      placed = table_in_image form.in_primary size pool image (stands_of kept.layout)
          (stands_of kept.of_pool) kept.behind.stands kept.sound.tables n.at.page.0 table entered
          finds.lawful.placed;
      drawn = subst (λ (page : List ℕ). writer n < (header_in page).next.0) (sym same_header)
          finds.lawful.drawn;
      dead = λ is. subst (λ (page : List ℕ). (header_in page).oit.0 ≤ writer n) (sym same_header)
          (finds.lawful.dead is);
      format = finds.lawful.format;
      spelled = finds.lawful.spelled;
      storable = finds.lawful.storable;
      erased = finds.lawful.erased;
      keyed = finds.lawful.keyed ∙ sym key;
    }

    pub finds_there : FindsRecord form.coding g kept.reading p table n
    finds_there = by (kept.reading p) refl (table_in g p) refl
      where
        by : (es : List Entry) → kept.reading p ≡ es → (t : Option Table) → table_in g p ≡ t
            → FindsRecord form.coding g kept.reading p table n
        by [] none t of = absurd (subst (λ (es : List Entry).
            IsFront state (finds.newest ∷ finds.older) (living state es)) none front)
        by (d ∷ ds) first None out =
            let both : [] ≡ d ∷ ds = sym (kept.sound.records.outside p out) ∙ first in absurd cc
        by (d ∷ ds) first (Some other) of = record {
          of = is_of;
          newest = d;
          older = ds;
          first = first;
          settled = settled;
          lawful = subst (λ (es : List Entry). IsVersion form.coding g table (record_key table es) n)
              (sym first) (lawful_as (d ∷ ds) key);
        }
          where
            in_pool : table_in f p ≡ Some other
            in_pool = table_in_pool (stands_of kept.layout) (stands_of kept.of_pool)
                kept.behind.stands pool_once p.page.0 other of

            is_of : table_in g p ≡ Some table
            is_of = of ∙ (sym in_pool ∙ finds.of)

            opens : Opens (cells_of image) (Some l) (d ∷ ds)
            opens = chain_opens (cells_of image) (Some l) (d ∷ ds)
                (subst (Chain (cells_of image) (Some l)) first
                (subst (λ (c : Option Cell). Chain (cells_of image) (newest_of p c) (kept.reading p))
                (same_slot ∙ slot) (kept.sound.records.reads p other of)))

            writers : writer d ≡ writer finds.newest
            writers = ap (λ (t : _). t.0) (opens.2 ∙ sym leads_there.1)

            settled : state (writer d) ≡ Committed
            settled = ap state writers ∙ finds.settled

            stays : living state (d ∷ ds) ≡ d ∷ ds
            stays = rw settled refl

            like : IsFront state (finds.newest ∷ finds.older) (d ∷ ds)
            like = subst (IsFront state (finds.newest ∷ finds.older)) (ap (living state) first ∙ stays) front

            key : record_key table (d ∷ ds) ≡ record_key table (kept.in_pool p)
            key = ap (key_of table) (sym like.0.row) ∙ ap (record_key table) (sym finds.first)

-- ---- the two steps

module _ (form : Form) (size : ℕ) (o : Opening) (h : Entries) (state : ℕ → TxState)
    (pool mid changed : Pages) (p : RecId) (table : Table) (n : Entry) (l link : Link)
    (pushes : PushesPages form.in_primary pool mid changed n.at p n.version l link)
    (finds : (layout : Layout) (r : Reading) → IsSoundBy form size state pool layout r
    → FindsRecord form.coding (facts_by state pool layout) r p table n)
    (rest_put : LeavesRests form size n.at.page.0) (rest_slot : LeavesRests form size p.page.0) where
  put_step : (old new : Pages) (layout : Layout) (r : Reading) → IsSoundBy form size state old layout r
      → ChangesData form.in_primary old new n.at.page.0
      → Changes (cells_of old) (cells_of new) n.at (Some (cells.Version n.version))
      → cells_of old n.at ≡ None
      → StepsDead form state size old new n.at.page.0 (facts_by state old layout) r r
  put_step old new layout r sound page put free = record {
    page = page;
    records = put_sound form.coding (facts_by state old layout) (cells_of old) (cells_of new) r n.at
        n.version sound.records free pushes.apart put;
    same = λ q. refl;
  }

  -- After the first step: no record comes to the new cell, in the pool, and in the image where that
  -- has the page.
  pub record IsPut (has_page : Bool) (image : Pages) : Type 0 where
    pub kept : IsKept form size o h state mid image
    pub finds_now : FindsRecord form.coding (facts_by state mid kept.of_pool) kept.in_pool p table n
    pub pool_unread : (q : RecId) → Stands (kept.in_pool q) n.at → ⊥
    pub unread : has_page ≡ true → (q : RecId) → Stands (kept.reading q) n.at → ⊥

  module _ (image : Pages) (kept : IsKept form size o h state pool image) where
    rest_pool : LeavesRest form size pool mid kept.of_pool
    rest_pool = rest_put state pool mid kept.of_pool kept.in_pool kept.pool_sound pushes.put_page

    pool_step : StepsDead form state size pool mid n.at.page.0 (facts_by state pool kept.of_pool)
        kept.in_pool kept.in_pool
    pool_step = put_step pool mid kept.of_pool kept.in_pool kept.pool_sound pushes.put_page pushes.put
        pushes.free

    finds_mid : FindsRecord form.coding (facts_by state mid kept.of_pool) kept.in_pool p table n
    finds_mid = subst (λ (e : Facts). FindsRecord form.coding e kept.in_pool p table n)
        (sym (facts_same form size state pool mid n.at.page.0 kept.of_pool kept.in_pool kept.in_pool
        kept.pool_sound pushes.put_page rest_pool.trees))
        (finds kept.of_pool kept.in_pool kept.pool_sound)

    out_of_pool : (q : RecId) → Stands (kept.in_pool q) n.at → ⊥
    out_of_pool = free_unread form.coding (facts_by state pool kept.of_pool) (cells_of pool) kept.in_pool
        n.at kept.pool_sound.records pushes.free

    put_out : IsPut false image
    unfolding dead_out quiet_out
    put_out = record {
      kept = dead_out form size o h state pool mid image n.at.page.0 kept kept.in_pool pool_step rest_pool;
      finds_now = finds_mid;
      pool_unread = out_of_pool;
      unread = λ is. absurd (no is);
    }
      where
        no : false ≡ true → ⊥
        no is = cc

    pub put_in : (laid_ : Pages) → LaysPage pool mid image laid_ n.at.page.0 → IsPut true laid_
    unfolding dead_in quiet_in
    put_in laid_ lays = record {
      kept = dead_in form size o h state pool mid image n.at.page.0 kept kept.in_pool pool_step rest_pool
          laid_ kept.reading (put_step image laid_ kept.layout kept.reading kept.sound page
          (cells_laid pool mid image laid_ n.at.page.0 n.at (Some (cells.Version n.version)) refl lays
          pushes.put) free)
          (rest_put state image laid_ kept.layout kept.reading kept.sound page);
      finds_now = finds_mid;
      pool_unread = out_of_pool;
      unread = λ is. free_unread form.coding (facts_by state image kept.layout) (cells_of image)
          kept.reading n.at kept.sound.records free;
    }
      where
        page : ChangesData form.in_primary image laid_ n.at.page.0
        page = page_laid form.in_primary pool mid image laid_ n.at.page.0 pushes.put_page lays

        free : cells_of image n.at ≡ None
        free = cells_alike pool image n.at n.at.page.0 refl lays.was ∙ pushes.free

  module _ (dead : state (writer n) ≡ Dead) where
    push_step : (old new : Pages) (layout : Layout) (r : Reading) → IsSoundBy form size state old layout r
        → ChangesData form.in_primary old new p.page.0
        → Changes (cells_of old) (cells_of new) p (Some (cells.Anchor link))
        → cells_of old p ≡ Some (cells.Anchor l)
        → cells_of old n.at ≡ Some (cells.Version n.version)
        → (found : FindsRecord form.coding (facts_by state old layout) r p table n)
        → (found.newest.at ≡ l.rec) × (found.newest.version.tx ≡ l.tx)
        → ((q : RecId) → Stands (r q) n.at → ⊥)
        → StepsDead form state size old new p.page.0 (facts_by state old layout) r
        (put_reading r p (n ∷ r p))
    push_step old new layout r sound page turn slot cell found behind unread = record {
      page = page;
      records = push_sound form.coding (facts_by state old layout) (cells_of old) (cells_of new) r p table
          n found.newest found.older l l link sound.records over;
      same = push_living form.coding (facts_by state old layout) (cells_of old) (cells_of new) r p table
          n found.newest found.older l l link over;
    }
      where
        over : PushesOver form.coding (facts_by state old layout) (cells_of old) (cells_of new) r p table
            n found.newest found.older l l link
        over = record {
          of = found.of;
          first = found.first;
          settled = found.settled;
          dead = dead;
          slot = slot;
          change = turn;
          cell = cell;
          leads = pushes.leads;
          back = pushes.back;
          behind = behind;
          unread = unread;
          lawful = found.lawful;
        }

    module _ (has_page : Bool) (image : Pages) (put : IsPut has_page image) where
      rest_mid : LeavesRest form size mid changed put.kept.of_pool
      rest_mid = rest_slot state mid changed put.kept.of_pool put.kept.in_pool put.kept.pool_sound
          pushes.slot_page

      abbrev pool_after : Reading
      pool_after = put_reading put.kept.in_pool p (n ∷ put.kept.in_pool p)

      pool_turns : StepsDead form state size mid changed p.page.0 (facts_by state mid put.kept.of_pool)
          put.kept.in_pool pool_after
      pool_turns = push_step mid changed put.kept.of_pool put.kept.in_pool put.kept.pool_sound
          pushes.slot_page pushes.turn pushes.slot pushes.put.here put.finds_now
          (newest_leads form size state mid put.kept.of_pool put.kept.in_pool put.kept.pool_sound p table n
          l put.finds_now pushes.slot)
          put.pool_unread

      turn_out : IsKept form size o h state changed image
      turn_out = dead_out form size o h state mid changed image p.page.0 put.kept pool_after pool_turns
          rest_mid

      module _ (here : has_page ≡ true) (laid_ : Pages) (lays : LaysPage mid changed image laid_ p.page.0)
          (same_cell : image n.at.page.0 ≡ mid n.at.page.0) (same_header : image 0 ≡ mid 0)
          (entered : IsEntered (λ m. image m ≡ mid m) mid n.at.page.0 table.pointer.0) where
        page : ChangesData form.in_primary image laid_ p.page.0
        page = page_laid form.in_primary mid changed image laid_ p.page.0 pushes.slot_page lays

        same_slot : cells_of image p ≡ cells_of mid p
        same_slot = cells_alike mid image p p.page.0 refl lays.was

        found : FindsRecord form.coding (facts_by state image put.kept.layout) put.kept.reading p table n
        found = finds_there form size o h state mid image put.kept p table n l put.finds_now pushes.slot
            same_slot same_header entered

        behind : (found.newest.at ≡ l.rec) × (found.newest.version.tx ≡ l.tx)
        behind = newest_leads form size state image put.kept.layout put.kept.reading put.kept.sound p
            table n l found (same_slot ∙ pushes.slot)

        turn_in : IsKept form size o h state changed laid_
        turn_in = dead_in form size o h state mid changed image p.page.0 put.kept pool_after pool_turns
            rest_mid laid_ (put_reading put.kept.reading p (n ∷ put.kept.reading p))
            (push_step image laid_ put.kept.layout put.kept.reading put.kept.sound page
            (cells_laid mid changed image laid_ p.page.0 p (Some (cells.Anchor link)) refl lays pushes.turn)
            (same_slot ∙ pushes.slot)
            (cells_alike mid image n.at n.at.page.0 refl same_cell ∙ pushes.put.here) found behind
            (put.unread here))
            (rest_slot state image laid_ put.kept.layout put.kept.reading put.kept.sound page)

    -- ---- both, on an image with the pages of a set

    -- as two steps of the views of a batch
    pub push_views : (orders : Orders) (set_ : PageSet) (image : Pages)
        → (set_ p.page.0 ≡ true → set_ n.at.page.0 ≡ true)
        → ((m : ℕ) → orders m p.page.0 ≡ true → set_ p.page.0 ≡ true → partly set_ mid image m ≡ mid m)
        → OrdersPush orders mid table n.at p
        → IsKept form size o h state pool (partly set_ pool image)
        → IsKept form size o h state changed (partly set_ changed image)
    push_views orders set_ image with_cell same ordered start = by_slot (set_ p.page.0) refl
      where
        middle : (c : Bool) → set_ n.at.page.0 ≡ c → IsPut c (partly set_ mid image)
        middle true in_set = put_in (partly set_ pool image) start (partly set_ mid image)
            (step_in set_ pool mid image n.at.page.0 pushes.put_page.others in_set)
        middle false out = subst (IsPut false)
            (sym (step_out set_ pool mid image n.at.page.0 pushes.put_page.others out))
            (put_out (partly set_ pool image) start)

        by_slot : (c : Bool) → set_ p.page.0 ≡ c → IsKept form size o h state changed (partly set_ changed image)
        by_slot true in_set = turn_in true (partly set_ mid image) (middle true (with_cell in_set)) refl
            (partly set_ changed image)
            (step_in set_ mid changed image p.page.0 pushes.slot_page.others in_set)
            (rw (with_cell in_set) refl) (same 0 ordered.header in_set)
            (entered_with (λ m. orders m p.page.0 ≡ true) (λ m. partly set_ mid image m ≡ mid m) mid
            n.at.page.0 table.pointer.0 (λ m before. same m before in_set) ordered.pointers)
        by_slot false out = subst (IsKept form size o h state changed)
            (sym (step_out set_ mid changed image p.page.0 pushes.slot_page.others out))
            (turn_out (set_ n.at.page.0) (partly set_ mid image) (middle (set_ n.at.page.0) refl))

    -- as a batch of its own
    pub push_part : (batch : ℕ → Option (List ℕ)) (orders : Orders) (set_ : PageSet) (image : Pages)
        → batch n.at.page.0 ≢ None → ((m : ℕ) → batch m ≡ None → mid m ≡ changed m)
        → OrdersPush orders mid table n.at p
        → LaysBatch pool changed batch orders set_ image
        → IsKept form size o h state pool image
        → IsKept form size o h state changed (laid batch set_ image)
    push_part batch orders set_ image in_batch left ordered lays was =
        subst (IsKept form size o h state changed) (last_view pool changed batch orders set_ image lays)
        (push_views orders set_ image (λ in_set. with_cell in_set (cases_eq n.at.page.0 p.page.0))
        (λ m before in_set. ordered_same pool changed batch orders set_ image mid lays left m p.page.0 before
        in_set) ordered (subst (IsKept form size o h state pool)
        (sym (first_view pool changed batch orders set_ image lays)) was))
      where
        with_cell : set_ p.page.0 ≡ true → (n.at.page.0 ≡ p.page.0) ⊎ (n.at.page.0 ≢ p.page.0)
            → set_ n.at.page.0 ≡ true
        with_cell in_set (inl one) = ap set_ one ∙ in_set
        with_cell in_set (inr two) =
            lays.together n.at.page.0 p.page.0 (ordered.cell two) in_batch in_set
