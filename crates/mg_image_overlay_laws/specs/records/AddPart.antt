-- A first version in part, on an image in which the writer counts as dead.
use Rattle.mg_base.specs.declared.numbers.RecId.{RecId}
use Rattle.mg_base.specs.declared.transaction.TxState.{TxState}
use Rattle.mg_base.specs.declared.transaction.TxState.TheVariants.{Dead, Limbo}
use Rattle.mg_careful.specs.CarefulWrite.{PageSet}
use Rattle.mg_careful.specs.Precedence.{Orders}
use Rattle.mg_header.specs.HeaderPage.{header_in}
use Rattle.mg_image.specs.Form.{Coding, Form, Pages}
use Rattle.mg_image.specs.RecordRules.{AreRecords, Facts, IsVersion, TakesKey, committed_in, table_in}
use Rattle.mg_image.specs.Records.{Cells, Chain, Changes, Reading, Stands, cells_of, ended, goes, key_of, shown, writer}
use Rattle.mg_image.specs.Sound.{IsSoundBy, facts_by}
use Rattle.mg_image.specs.StepLaws.{put_cases, put_reading}
use Rattle.mg_image.specs.Tables.{Layout, stands_of}
use Rattle.mg_image.specs.declared.entry.Entry.{Entry}
use Rattle.mg_image_overlay_laws.specs.pages.DataPages.{ChangesData}
use Rattle.mg_image_overlay_laws.specs.pages.DataSound.{facts_same}
use Rattle.mg_image_overlay_laws.specs.records.QuietVersions.{SameLiving}
use Rattle.mg_image_overlay_laws.specs.records.Fronts.{living}
use Rattle.mg_image_overlay_laws.specs.records.Push.{free_empty, free_unread, put_sound}
use Rattle.mg_image_overlay_laws.specs.records.Relink.{relink_sound}
use Rattle.mg_image_overlay_laws.specs.kept.Rest.{LeavesRest, LeavesRests}
use Rattle.mg_image_overlay_laws.specs.kept.KeptImages.{IsKept}
use Rattle.mg_image_overlay_laws.specs.pages.Reach.{IsEntered, entered_with, table_in_image}
use Rattle.mg_model.specs.History.{Entries}
use Rattle.mg_model.specs.declared.opening.Opening.{Opening}
use Rattle.mg_model.specs.declared.table.Table.{Table}
use Rattle.mg_overlay_laws.specs.Overlays.{LaysBatch, laid}
use Rattle.mg_overlay_laws.specs.Views.{LaysPage, first_view, last_view, ordered_same, partly, step_in, step_out}
use Rattle.mg_image_overlay_laws.specs.records.DeadSteps.{StepsDead, dead_in, dead_out}
use Rattle.mg_image_overlay_laws.specs.records.QuietSteps.{quiet_in, quiet_out}
use Rattle.mg_image_overlay_laws.specs.records.PushPart.{cells_alike, cells_laid, page_laid}
use Rattle.mg_version.specs.declared.cell.Link.{Link}
use Rattle.mg_version.specs.declared.cell.Version.{Version}
use Rattle.std.proofs.Common.{Bool, List, None, Option, Some, [], ap, false, inl, inr, refl, subst, sym, true, ℕ, ◌<◌, ◌∙◌, ◌∷◌, ◌≡◌, ◌≢◌, ◌≤◌, ◌⊎◌}
use Rattle.std.proofs.lemmas.Bool.{cases_eq}
use Rattle.mg_version.specs.declared.cell.Cell.TheVariants as cells

-- What the second step knows: the slot is free, and the version that it comes to lead to has none behind.
pub record AddsOver (coding : Coding) (f : Facts) (old new : Cells) (r : Reading) (p : RecId)
    (table : Table) (n : Entry) (link : Link) : Type 0 where
  pub of : table_in f p ≡ Some table
  pub dead : f.state (writer n) ≡ Dead
  pub blank : old p ≡ None
  pub change : Changes old new p (Some (cells.Anchor link))
  pub cell : old n.at ≡ Some (cells.Version n.version)
  pub leads : (n.at ≡ link.rec) × (n.version.tx ≡ link.tx)
  pub back : n.version.back ≡ None
  pub unread : (q : RecId) → Stands (r q) n.at → ⊥
  pub lawful : IsVersion coding f table (key_of table n.row) n

module _ (coding : Coding) (f : Facts) (old new : Cells) (r : Reading) (p : RecId) (table : Table)
    (n : Entry) (link : Link) (are : AreRecords coding f old r)
    (adds : AddsOver coding f old new r p table n link) where
  not_slot : n.at ≢ p
  not_slot same =
      let both : Some (cells.Version n.version) ≡ None = sym adds.cell ∙ (ap old same ∙ adds.blank) in absurd cc

  takes_none : TakesKey f (n ∷ []) → ⊥
  takes_none (inl (row, shows)) =
      let off : committed_in f (writer n) ≡ false = rw adds.dead refl in
      let none : shown (committed_in f) (n ∷ []) ≡ None = rw off refl in
      let both : None ≡ Some row = sym none ∙ shows in absurd cc
  takes_none (inr limbo) = let both : Dead ≡ Limbo = sym adds.dead ∙ limbo in absurd cc

  pub add_sound : AreRecords coding f new (put_reading r p (n ∷ []))
  add_sound = relink_sound coding f old new r p table (Some (cells.Anchor link)) (n ∷ []) are (record {
    of_table = adds.of;
    slot = slot;
    change = adds.change;
    reads = goes link n [] adds.leads.0 (adds.change.others n.at not_slot ∙ adds.cell) adds.leads.1
        (subst (λ (k : Option Link). Chain new k []) (sym adds.back) ended);
    lawful = record { once = ((λ none. none), tt); each = (adds.lawful, tt); backs = tt };
    apart = λ q y ne there also. apart q y there also;
    keys = λ takes. absurd (takes_none takes);
  })
    where
      slot : (w : Version) → old p ≢ Some (cells.Version w)
      slot w is = let both : None ≡ Some (cells.Version w) = sym adds.blank ∙ is in absurd cc

      apart : (q y : RecId) → Stands (n ∷ []) y → Stands (r q) y → ⊥
      apart q y (inl at) also = adds.unread q (subst (Stands (r q)) (sym at) also)
      apart q y (inr none) also = none

  pub add_living : SameLiving f r (put_reading r p (n ∷ []))
  add_living = put_cases r p (n ∷ []) (λ q fs. living f.state fs ≡ living f.state (r q)) here (λ q ne. refl)
    where
      dropped : living f.state (n ∷ []) ≡ []
      dropped = rw adds.dead refl

      here : living f.state (n ∷ []) ≡ living f.state (r p)
      here = dropped ∙ ap (living f.state) (sym (free_empty coding f old r p are adds.blank))

-- A first version on pages: its cell comes to stand at x, and the slot p, which was free, leads to it.
pub record AddsPages (in_primary : Bool) (pool mid changed : Pages) (x p : RecId) (v : Version)
    (link : Link) : Type 0 where
  pub put_page : ChangesData in_primary pool mid x.page.0
  pub put : Changes (cells_of pool) (cells_of mid) x (Some (cells.Version v))
  pub free : cells_of pool x ≡ None
  pub apart : v.primary ≡ false
  pub slot_page : ChangesData in_primary mid changed p.page.0
  pub blank : cells_of mid p ≡ None
  pub turn : Changes (cells_of mid) (cells_of changed) p (Some (cells.Anchor link))
  pub leads : (x ≡ link.rec) × (v.tx ≡ link.tx)
  pub back : v.back ≡ None

-- The orders of its batch: as for a push, and the pointer pages by which the slot's page is reached.
pub record OrdersAdd (orders : Orders) (pool : Pages) (table : Table) (x p : RecId) : Type 0 where
  pub header : orders 0 p.page.0 ≡ true
  pub cell : x.page.0 ≢ p.page.0 → orders x.page.0 p.page.0 ≡ true
  pub pointers : IsEntered (λ m. orders m p.page.0 ≡ true) pool x.page.0 table.pointer.0
  pub slot_pointers : IsEntered (λ m. orders m p.page.0 ≡ true) pool p.page.0 table.pointer.0

-- What is known of the place: it is the table's, and the version is lawful.
pub record FindsPlace (coding : Coding) (f : Facts) (p : RecId) (table : Table) (n : Entry) : Type 0 where
  pub of : table_in f p ≡ Some table
  pub lawful : IsVersion coding f table (key_of table n.row) n

module _ (form : Form) (size : ℕ) (o : Opening) (h : Entries) (state : ℕ → TxState)
    (pool mid changed : Pages) (p : RecId) (table : Table) (n : Entry) (link : Link)
    (adds : AddsPages form.in_primary pool mid changed n.at p n.version link)
    (finds : (layout : Layout) (r : Reading) → IsSoundBy form size state pool layout r
    → FindsPlace form.coding (facts_by state pool layout) p table n)
    (rest_put : LeavesRests form size n.at.page.0) (rest_slot : LeavesRests form size p.page.0) where
  put_step : (old new : Pages) (layout : Layout) (r : Reading) → IsSoundBy form size state old layout r
      → ChangesData form.in_primary old new n.at.page.0
      → Changes (cells_of old) (cells_of new) n.at (Some (cells.Version n.version))
      → cells_of old n.at ≡ None
      → StepsDead form state size old new n.at.page.0 (facts_by state old layout) r r
  put_step old new layout r sound page put free = record {
    page = page;
    records = put_sound form.coding (facts_by state old layout) (cells_of old) (cells_of new) r n.at
        n.version sound.records free adds.apart put;
    same = λ q. refl;
  }

  -- after the first step
  pub record IsPutThere (has_page : Bool) (image : Pages) : Type 0 where
    pub kept : IsKept form size o h state mid image
    pub finds_now : FindsPlace form.coding (facts_by state mid kept.of_pool) p table n
    pub pool_unread : (q : RecId) → Stands (kept.in_pool q) n.at → ⊥
    pub unread : has_page ≡ true → (q : RecId) → Stands (kept.reading q) n.at → ⊥

  module _ (image : Pages) (kept : IsKept form size o h state pool image) where
    rest_pool : LeavesRest form size pool mid kept.of_pool
    rest_pool = rest_put state pool mid kept.of_pool kept.in_pool kept.pool_sound adds.put_page

    pool_step : StepsDead form state size pool mid n.at.page.0 (facts_by state pool kept.of_pool)
        kept.in_pool kept.in_pool
    pool_step = put_step pool mid kept.of_pool kept.in_pool kept.pool_sound adds.put_page adds.put adds.free

    finds_mid : FindsPlace form.coding (facts_by state mid kept.of_pool) p table n
    finds_mid = subst (λ (e : Facts). FindsPlace form.coding e p table n)
        (sym (facts_same form size state pool mid n.at.page.0 kept.of_pool kept.in_pool kept.in_pool
        kept.pool_sound adds.put_page rest_pool.trees))
        (finds kept.of_pool kept.in_pool kept.pool_sound)

    out_of_pool : (q : RecId) → Stands (kept.in_pool q) n.at → ⊥
    out_of_pool = free_unread form.coding (facts_by state pool kept.of_pool) (cells_of pool) kept.in_pool
        n.at kept.pool_sound.records adds.free

    put_out : IsPutThere false image
    unfolding dead_out quiet_out
    put_out = record {
      kept = dead_out form size o h state pool mid image n.at.page.0 kept kept.in_pool pool_step rest_pool;
      finds_now = finds_mid;
      pool_unread = out_of_pool;
      unread = λ is. absurd (no is);
    }
      where
        no : false ≡ true → ⊥
        no is = cc

    pub put_in : (laid_ : Pages) → LaysPage pool mid image laid_ n.at.page.0 → IsPutThere true laid_
    unfolding dead_in quiet_in
    put_in laid_ lays = record {
      kept = dead_in form size o h state pool mid image n.at.page.0 kept kept.in_pool pool_step rest_pool
          laid_ kept.reading (put_step image laid_ kept.layout kept.reading kept.sound page
          (cells_laid pool mid image laid_ n.at.page.0 n.at (Some (cells.Version n.version)) refl lays
          adds.put) free)
          (rest_put state image laid_ kept.layout kept.reading kept.sound page);
      finds_now = finds_mid;
      pool_unread = out_of_pool;
      unread = λ is. free_unread form.coding (facts_by state image kept.layout) (cells_of image)
          kept.reading n.at kept.sound.records free;
    }
      where
        page : ChangesData form.in_primary image laid_ n.at.page.0
        page = page_laid form.in_primary pool mid image laid_ n.at.page.0 adds.put_page lays

        free : cells_of image n.at ≡ None
        free = cells_alike pool image n.at n.at.page.0 refl lays.was ∙ adds.free

  -- with the writer dead
  module _ (dead : state (writer n) ≡ Dead) where
    add_step : (old new : Pages) (layout : Layout) (r : Reading) → IsSoundBy form size state old layout r
        → ChangesData form.in_primary old new p.page.0
        → Changes (cells_of old) (cells_of new) p (Some (cells.Anchor link))
        → cells_of old p ≡ None → cells_of old n.at ≡ Some (cells.Version n.version)
        → FindsPlace form.coding (facts_by state old layout) p table n
        → ((q : RecId) → Stands (r q) n.at → ⊥)
        → StepsDead form state size old new p.page.0 (facts_by state old layout) r
        (put_reading r p (n ∷ []))
    add_step old new layout r sound page turn blank cell found unread = record {
      page = page;
      records = add_sound form.coding (facts_by state old layout) (cells_of old) (cells_of new) r p table n
          link sound.records over;
      same = add_living form.coding (facts_by state old layout) (cells_of old) (cells_of new) r p table n
          link sound.records over;
    }
      where
        over : AddsOver form.coding (facts_by state old layout) (cells_of old) (cells_of new) r p table n link
        over = record {
          of = found.of;
          dead = dead;
          blank = blank;
          change = turn;
          cell = cell;
          leads = adds.leads;
          back = adds.back;
          unread = unread;
          lawful = found.lawful;
        }

    module _ (has_page : Bool) (image : Pages) (put : IsPutThere has_page image) where
      rest_mid : LeavesRest form size mid changed put.kept.of_pool
      rest_mid = rest_slot state mid changed put.kept.of_pool put.kept.in_pool put.kept.pool_sound
          adds.slot_page

      pool_turns : StepsDead form state size mid changed p.page.0 (facts_by state mid put.kept.of_pool)
          put.kept.in_pool (put_reading put.kept.in_pool p (n ∷ []))
      pool_turns = add_step mid changed put.kept.of_pool put.kept.in_pool put.kept.pool_sound adds.slot_page
          adds.turn adds.blank adds.put.here put.finds_now put.pool_unread

      turn_out : IsKept form size o h state changed image
      turn_out = dead_out form size o h state mid changed image p.page.0 put.kept
          (put_reading put.kept.in_pool p (n ∷ [])) pool_turns rest_mid

      module _ (here : has_page ≡ true) (laid_ : Pages) (lays : LaysPage mid changed image laid_ p.page.0)
          (same_cell : image n.at.page.0 ≡ mid n.at.page.0) (same_header : image 0 ≡ mid 0)
          (entered : IsEntered (λ m. image m ≡ mid m) mid n.at.page.0 table.pointer.0)
          (slot_entered : IsEntered (λ m. image m ≡ mid m) mid p.page.0 table.pointer.0) where
        page : ChangesData form.in_primary image laid_ p.page.0
        page = page_laid form.in_primary mid changed image laid_ p.page.0 adds.slot_page lays

        same_slot : cells_of image p ≡ cells_of mid p
        same_slot = cells_alike mid image p p.page.0 refl lays.was

        there : (k : ℕ) → IsEntered (λ m. image m ≡ mid m) mid k table.pointer.0
            → (facts_by state mid put.kept.of_pool).table_of k ≡ Some table
            → (facts_by state image put.kept.layout).table_of k ≡ Some table
        there k entered_ of = table_in_image form.in_primary size mid image (stands_of put.kept.layout)
            (stands_of put.kept.of_pool) put.kept.behind.stands put.kept.sound.tables k table entered_ of

        found : FindsPlace form.coding (facts_by state image put.kept.layout) p table n
        found = record {
          of = there p.page.0 slot_entered put.finds_now.of;
          lawful = record {
            placed = there n.at.page.0 entered put.finds_now.lawful.placed;
            drawn = subst (λ (bytes : List ℕ). writer n < (header_in bytes).next.0) (sym same_header)
                put.finds_now.lawful.drawn;
            dead = λ is. subst (λ (bytes : List ℕ). (header_in bytes).oit.0 ≤ writer n) (sym same_header)
                (put.finds_now.lawful.dead is);
            format = put.finds_now.lawful.format;
            spelled = put.finds_now.lawful.spelled;
            storable = put.finds_now.lawful.storable;
            erased = put.finds_now.lawful.erased;
            keyed = put.finds_now.lawful.keyed;
          };
        }

        turn_in : IsKept form size o h state changed laid_
        turn_in = dead_in form size o h state mid changed image p.page.0 put.kept
            (put_reading put.kept.in_pool p (n ∷ [])) pool_turns rest_mid laid_
            (put_reading put.kept.reading p (n ∷ []))
            (add_step image laid_ put.kept.layout put.kept.reading put.kept.sound page
            (cells_laid mid changed image laid_ p.page.0 p (Some (cells.Anchor link)) refl lays adds.turn)
            (same_slot ∙ adds.blank)
            (cells_alike mid image n.at n.at.page.0 refl same_cell ∙ adds.put.here) found
            (put.unread here))
            (rest_slot state image laid_ put.kept.layout put.kept.reading put.kept.sound page)

    -- ---- both, on an image with the pages of a set

    -- as two steps of the views of a batch
    pub add_views : (orders : Orders) (set_ : PageSet) (image : Pages)
        → (set_ p.page.0 ≡ true → set_ n.at.page.0 ≡ true)
        → ((m : ℕ) → orders m p.page.0 ≡ true → set_ p.page.0 ≡ true → partly set_ mid image m ≡ mid m)
        → OrdersAdd orders mid table n.at p
        → IsKept form size o h state pool (partly set_ pool image)
        → IsKept form size o h state changed (partly set_ changed image)
    add_views orders set_ image with_cell same ordered start = by_slot (set_ p.page.0) refl
      where
        middle : (c : Bool) → set_ n.at.page.0 ≡ c → IsPutThere c (partly set_ mid image)
        middle true in_set = put_in (partly set_ pool image) start (partly set_ mid image)
            (step_in set_ pool mid image n.at.page.0 adds.put_page.others in_set)
        middle false out = subst (IsPutThere false)
            (sym (step_out set_ pool mid image n.at.page.0 adds.put_page.others out))
            (put_out (partly set_ pool image) start)

        by_slot : (c : Bool) → set_ p.page.0 ≡ c → IsKept form size o h state changed (partly set_ changed image)
        by_slot true in_set = turn_in true (partly set_ mid image) (middle true (with_cell in_set)) refl
            (partly set_ changed image)
            (step_in set_ mid changed image p.page.0 adds.slot_page.others in_set)
            (rw (with_cell in_set) refl) (same 0 ordered.header in_set)
            (entered_with (λ m. orders m p.page.0 ≡ true) (λ m. partly set_ mid image m ≡ mid m) mid
            n.at.page.0 table.pointer.0 (λ m before. same m before in_set) ordered.pointers)
            (entered_with (λ m. orders m p.page.0 ≡ true) (λ m. partly set_ mid image m ≡ mid m) mid
            p.page.0 table.pointer.0 (λ m before. same m before in_set) ordered.slot_pointers)
        by_slot false out = subst (IsKept form size o h state changed)
            (sym (step_out set_ mid changed image p.page.0 adds.slot_page.others out))
            (turn_out (set_ n.at.page.0) (partly set_ mid image) (middle (set_ n.at.page.0) refl))

    -- as a batch of its own
    pub add_part : (batch : ℕ → Option (List ℕ)) (orders : Orders) (set_ : PageSet) (image : Pages)
        → batch n.at.page.0 ≢ None → ((m : ℕ) → batch m ≡ None → mid m ≡ changed m)
        → OrdersAdd orders mid table n.at p
        → LaysBatch pool changed batch orders set_ image
        → IsKept form size o h state pool image
        → IsKept form size o h state changed (laid batch set_ image)
    add_part batch orders set_ image in_batch left ordered lays was =
        subst (IsKept form size o h state changed) (last_view pool changed batch orders set_ image lays)
        (add_views orders set_ image (λ in_set. with_cell in_set (cases_eq n.at.page.0 p.page.0))
        (λ m before in_set. ordered_same pool changed batch orders set_ image mid lays left m p.page.0 before
        in_set) ordered (subst (IsKept form size o h state pool)
        (sym (first_view pool changed batch orders set_ image lays)) was))
      where
        with_cell : set_ p.page.0 ≡ true → (n.at.page.0 ≡ p.page.0) ⊎ (n.at.page.0 ≢ p.page.0)
            → set_ n.at.page.0 ≡ true
        with_cell in_set (inl one) = ap set_ one ∙ in_set
        with_cell in_set (inr two) =
            lays.together n.at.page.0 p.page.0 (ordered.cell two) in_batch in_set
