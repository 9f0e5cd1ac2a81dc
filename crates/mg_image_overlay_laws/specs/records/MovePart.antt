-- A transaction's own version is replaced by one in another cell, in part: on an image in which the
-- writer counts as dead. The new cell is put first, then the slot comes to lead to it, and then the old
-- cell is freed. The image has all three pages, the first two, the first alone, or none.
use Rattle.std.proofs.Common.{◌≡◌, ◌≢◌, ◌⊎◌, inl, inr, ap, sym, subst, ◌∙◌, refl, ◌<◌, ◌≤◌, ℕ, Bool, true, false, List, [], ◌∷◌, Option, None, Some}
use Rattle.std.proofs.lemmas.Bool.{cases_eq}
use Rattle.mg_base.specs.declared.numbers.RecId.{RecId}
use Rattle.mg_base.specs.declared.transaction.TxState.{TxState}
use Rattle.mg_base.specs.declared.transaction.TxState.TheVariants.{Committed, Dead}
use Rattle.mg_careful.specs.CarefulWrite.{PageSet}
use Rattle.mg_careful.specs.Precedence.{Orders}
use Rattle.mg_value.specs.declared.value.Value.{Value}
use Rattle.mg_version.specs.declared.cell.Cell.TheVariants as cells
use Rattle.mg_version.specs.declared.cell.Link.{Link}
use Rattle.mg_version.specs.declared.cell.Version.{Version}
use Rattle.mg_model.specs.declared.opening.Opening.{Opening}
use Rattle.mg_model.specs.declared.table.Table.{Table}
use Rattle.mg_model.specs.History.{Entries}
use Rattle.mg_image.specs.declared.entry.Entry.{Entry}
use Rattle.mg_image.specs.Form.{Form, Pages}
use Rattle.mg_image.specs.ReadingLaws.{RowsAreOne}
use Rattle.mg_image.specs.RecordRules.{Each, Facts, IsVersion, table_in}
use Rattle.mg_image.specs.Records.{Chain, Changes, Reading, Stands, cells_of, ended, key_of, record_key, writer}
use Rattle.mg_image.specs.Sound.{IsSoundBy, facts_by}
use Rattle.mg_image.specs.StepLaws.{chain_stays, put_reading}
use Rattle.mg_image.specs.Tables.{Layout, stands_of}
use Rattle.mg_image_overlay_laws.specs.pages.DataPages.{ChangesData}
use Rattle.mg_image_overlay_laws.specs.pages.DataSound.{facts_same}
use Rattle.mg_image_overlay_laws.specs.records.Fronts.{living}
use Rattle.mg_image_overlay_laws.specs.pages.Kinds.{HasNoSequences}
use Rattle.mg_image_overlay_laws.specs.records.Push.{free_unread, put_sound}
use Rattle.mg_image_overlay_laws.specs.kept.Rest.{LeavesRest, LeavesRests}
use Rattle.mg_image_overlay_laws.specs.kept.KeptImages.{IsKept}
use Rattle.mg_image_overlay_laws.specs.pages.Reach.{IsEntered, entered_with, table_in_image}
use Rattle.mg_overlay_laws.specs.Overlays.{LaysBatch, laid}
use Rattle.mg_overlay_laws.specs.Views.{LaysPage, first_view, last_view, ordered_same, partly, step_in, step_out}
use Rattle.mg_image_overlay_laws.specs.records.FreePart.{FreesPage, IsTurned, free_views}
use Rattle.mg_image_overlay_laws.specs.records.MoveRecords.{Moves, move_living, move_sound, was_living}
use Rattle.mg_image_overlay_laws.specs.records.OwnThere.{HasIt, found_there, goes_quietly, has_it, none_reads, older_off, pool_behind, pool_empty, reached, rest_key, rest_leads, stood}
use Rattle.mg_image_overlay_laws.specs.records.OwnVersion.{FindsNewest, FindsOwn}
use Rattle.mg_image_overlay_laws.specs.records.SlotPart.{TurnsTo, turn_in, turn_out}
use Rattle.mg_image_overlay_laws.specs.records.TakeOut.{slot_off}
use Rattle.mg_image_overlay_laws.specs.records.DeadSteps.{StepsDead, dead_in, dead_out}
use Rattle.mg_image_overlay_laws.specs.records.PushPart.{cells_alike, cells_laid, page_laid}
use Rattle.mg_image_overlay_laws.specs.records.QuietSteps.{quiet_in, quiet_out}

-- A version is moved on pages: another one of its transaction, which leads on as it does, comes to stand
-- in a free cell; the slot p, which led to the old one at x, leads to that; and the old cell is freed.
pub record MovesPages (in_primary : Bool) (pool placed turned changed : Pages) (p x : RecId)
    (v : Version) (n : Entry) (l link : Link) : Type 0 where
  pub put_page : ChangesData in_primary pool placed n.at.page.0
  pub put : Changes (cells_of pool) (cells_of placed) n.at (Some (cells.Version n.version))
  pub free : cells_of pool n.at ≡ None
  pub apart : n.version.primary ≡ false
  pub tx : n.version.tx ≡ v.tx
  pub back : n.version.back ≡ v.back
  pub slot_page : ChangesData in_primary placed turned p.page.0
  pub slot : cells_of placed p ≡ Some (cells.Anchor l)
  pub turn : Changes (cells_of placed) (cells_of turned) p (Some (cells.Anchor link))
  pub leads : (n.at ≡ link.rec) × (n.version.tx ≡ link.tx)
  pub frees : FreesPage in_primary turned changed x v

-- The orders of its batch: the new cell's page, and the pointer pages by which it is reached, before the
-- slot's; that before the freed cell's; and where no version lies behind, the pointer pages by which the
-- slot's page is reached before that.
pub record OrdersMove (orders : Orders) (pages : Pages) (table : Table) (n : Entry) (p x : RecId)
    (v : Version) : Type 0 where
  pub cell : n.at.page.0 ≢ p.page.0 → orders n.at.page.0 p.page.0 ≡ true
  pub pointers : IsEntered (λ m. orders m p.page.0 ≡ true) pages n.at.page.0 table.pointer.0
  pub freed : x.page.0 ≢ p.page.0 → orders p.page.0 x.page.0 ≡ true
  pub slot_pointers : v.back ≡ None
      → IsEntered (λ m. orders m p.page.0 ≡ true) pages p.page.0 table.pointer.0

module _ (form : Form) (one : RowsAreOne form.coding) (none : HasNoSequences form) (size : ℕ)
    (o : Opening) (h : Entries) (state : ℕ → TxState) (pool placed turned changed : Pages)
    (p x : RecId) (table : Table) (v : Version) (n : Entry) (l link : Link)
    (moves : MovesPages form.in_primary pool placed turned changed p x v n l link)
    (finds : (layout : Layout) (r : Reading) → IsSoundBy form size state pool layout r
    → FindsOwn form.coding (facts_by state pool layout) r p table x v n)
    (rest_put : LeavesRests form size n.at.page.0) (rest_slot : LeavesRests form size p.page.0)
    (rest_free : LeavesRests form size x.page.0) where
  -- ---- the new cell

  put_step : (old new : Pages) (layout : Layout) (r : Reading) → IsSoundBy form size state old layout r
      → ChangesData form.in_primary old new n.at.page.0
      → Changes (cells_of old) (cells_of new) n.at (Some (cells.Version n.version))
      → cells_of old n.at ≡ None
      → StepsDead form state size old new n.at.page.0 (facts_by state old layout) r r
  put_step old new layout r sound page put free = record {
    page = page;
    records = put_sound form.coding (facts_by state old layout) (cells_of old) (cells_of new) r n.at
        n.version sound.records free moves.apart put;
    same = λ q. refl;
  }

  -- After it: no record comes to the new cell.
  pub record IsPlaced (has_cell : Bool) (image : Pages) : Type 0 where
    pub kept : IsKept form size o h state placed image
    pub finds_now : FindsOwn form.coding (facts_by state placed kept.of_pool) kept.in_pool p table x v n
    pub pool_unread : (q : RecId) → Stands (kept.in_pool q) n.at → ⊥
    pub unread : has_cell ≡ true → (q : RecId) → Stands (kept.reading q) n.at → ⊥

  module _ (image : Pages) (kept : IsKept form size o h state pool image) where
    rest_pool : LeavesRest form size pool placed kept.of_pool
    rest_pool = rest_put state pool placed kept.of_pool kept.in_pool kept.pool_sound moves.put_page

    pool_step : StepsDead form state size pool placed n.at.page.0 (facts_by state pool kept.of_pool)
        kept.in_pool kept.in_pool
    pool_step = put_step pool placed kept.of_pool kept.in_pool kept.pool_sound moves.put_page moves.put
        moves.free

    finds_placed : FindsOwn form.coding (facts_by state placed kept.of_pool) kept.in_pool p table x v n
    finds_placed = subst (λ (e : Facts). FindsOwn form.coding e kept.in_pool p table x v n)
        (sym (facts_same form size state pool placed n.at.page.0 kept.of_pool kept.in_pool kept.in_pool
        kept.pool_sound moves.put_page rest_pool.trees))
        (finds kept.of_pool kept.in_pool kept.pool_sound)

    out_of_pool : (q : RecId) → Stands (kept.in_pool q) n.at → ⊥
    out_of_pool = free_unread form.coding (facts_by state pool kept.of_pool) (cells_of pool) kept.in_pool
        n.at kept.pool_sound.records moves.free

    put_out : IsPlaced false image
    unfolding dead_out quiet_out
    put_out = record {
      kept = dead_out form size o h state pool placed image n.at.page.0 kept kept.in_pool pool_step
          rest_pool;
      finds_now = finds_placed;
      pool_unread = out_of_pool;
      unread = λ is. absurd (no is);
    }
      where
        no : false ≡ true → ⊥
        no is = cc

    pub move_put_in : (laid_ : Pages) → LaysPage pool placed image laid_ n.at.page.0 → IsPlaced true laid_
    unfolding dead_in quiet_in
    move_put_in laid_ lays = record {
      kept = dead_in form size o h state pool placed image n.at.page.0 kept kept.in_pool pool_step rest_pool
          laid_ kept.reading (put_step image laid_ kept.layout kept.reading kept.sound page
          (cells_laid pool placed image laid_ n.at.page.0 n.at (Some (cells.Version n.version)) refl lays
          moves.put) free) (rest_put state image laid_ kept.layout kept.reading kept.sound page);
      finds_now = finds_placed;
      pool_unread = out_of_pool;
      unread = λ is. free_unread form.coding (facts_by state image kept.layout) (cells_of image)
          kept.reading n.at kept.sound.records free;
    }
      where
        page : ChangesData form.in_primary image laid_ n.at.page.0
        page = page_laid form.in_primary pool placed image laid_ n.at.page.0 moves.put_page lays

        free : cells_of image n.at ≡ None
        free = cells_alike pool image n.at n.at.page.0 refl lays.was ∙ moves.free

  -- ---- the slot, where the writer counts as dead

  module _ (dead : state v.tx.0 ≡ Dead) (of_pool : IsKept form size o h state placed placed)
      (has_cell : Bool) (image : Pages) (put : IsPlaced has_cell image) where
    abbrev f : Facts
    f = facts_by state placed put.kept.of_pool

    abbrev g : Facts
    g = facts_by state image put.kept.layout

    abbrev found : FindsNewest f put.kept.in_pool p table x v
    found = put.finds_now.found

    lawful : IsVersion form.coding f table (record_key table (put.kept.in_pool p)) n
    lawful = put.finds_now.lawful

    dead_n : state (writer n) ≡ Dead
    dead_n = ap (λ t. state t.0) moves.tx ∙ dead

    open_n : state (writer n) ≢ Committed
    open_n is = let both : Dead ≡ Committed = sym dead_n ∙ is in absurd cc

    pool_moves : Moves form.coding f (cells_of placed) (cells_of turned) put.kept.in_pool p table l link n
        found.newest found.older found.older
    pool_moves = record {
      of = found.of;
      first = found.first;
      slot = moves.slot;
      change = moves.turn;
      cell = moves.put.here;
      leads = moves.leads;
      chain = subst (λ (k : Option Link). Chain (cells_of turned) k found.older) (sym moves.back)
          (chain_stays (cells_of placed) (cells_of turned) p (Some (cells.Anchor link)) moves.turn v.back
          found.older behind_ (slot_off (cells_of placed) p l moves.slot v.back found.older behind_));
      writers = ap (λ t. t.0) moves.tx ∙ ap (λ (w : Version). w.tx.0) (sym found.version);
      open_ = open_n;
      unread = put.pool_unread;
      lawful = subst (λ (k : Value). IsVersion form.coding f table k n) (sym lawful.keyed) lawful;
      behind = inl (refl, lawful.keyed);
    }
      where
        behind_ : Chain (cells_of placed) v.back found.older
        behind_ = pool_behind form one none size o h state placed image of_pool put.kept p x table v l found
            moves.slot dead

    off : Stands (n ∷ found.older) x → ⊥
    off (inl same) = put.pool_unread p (subst (Stands (put.kept.in_pool p)) (sym same)
        (stood form size state placed put.kept.of_pool put.kept.in_pool put.kept.pool_sound p table x v l
        found moves.slot))
    off (inr there) = older_off form size state placed put.kept.of_pool put.kept.in_pool
        put.kept.pool_sound p table x v l found moves.slot there

    pool_to : TurnsTo form f turned put.kept.in_pool p x (n ∷ found.older)
    pool_to = record {
      records = move_sound form.coding f (cells_of placed) (cells_of turned) put.kept.in_pool p table l link
          n found.newest found.older found.older put.kept.pool_sound.records pool_moves;
      quiet = inl (move_living form.coding f (cells_of placed) (cells_of turned) put.kept.in_pool p table l
          link n found.newest found.older found.older put.kept.pool_sound.records pool_moves dead_n
          ∙ sym (was_living form.coding f (cells_of placed) (cells_of turned) put.kept.in_pool p table l
          link n found.newest found.older found.older put.kept.pool_sound.records pool_moves dead_n));
      unread = none_reads form size state placed put.kept.of_pool put.kept.in_pool put.kept.pool_sound p
          table x v l found moves.slot (n ∷ found.older) off;
    }

    out : IsTurned form size o h state turned x false image
    out = turn_out form size o h state placed turned image p x put.kept moves.slot_page rest_slot
        (n ∷ found.older) pool_to

    -- an image that has the slot's page, and so the new cell's
    module _ (here : has_cell ≡ true) (laid_ : Pages) (lays : LaysPage placed turned image laid_ p.page.0)
        (same_cell : image n.at.page.0 ≡ placed n.at.page.0)
        (entered : IsEntered (λ m. image m ≡ placed m) placed n.at.page.0 table.pointer.0)
        (slot_entered : v.back ≡ None
        → IsEntered (λ m. image m ≡ placed m) placed p.page.0 table.pointer.0) where
      slot_there : cells_of image p ≡ Some (cells.Anchor l)
      slot_there = cells_alike placed image p p.page.0 refl lays.was ∙ moves.slot

      turn_there : Changes (cells_of image) (cells_of laid_) p (Some (cells.Anchor link))
      turn_there = cells_laid placed turned image laid_ p.page.0 p (Some (cells.Anchor link)) refl lays
          moves.turn

      of : table_in g p ≡ Some table
      of = reached form one none size o h state placed image of_pool put.kept p x table v l found moves.slot
          dead slot_there slot_entered

      abbrev it : HasIt form one none size o h state placed image of_pool put.kept p x table v l found
          moves.slot dead slot_there slot_entered
      it = has_it form one none size o h state placed image of_pool put.kept p x table v l found moves.slot
          dead slot_there slot_entered

      abbrev there : FindsNewest g put.kept.reading p table x it.first.version
      there = found_there form one none size o h state placed image of_pool put.kept p x table v l found
          moves.slot dead slot_there slot_entered

      writers : writer n ≡ writer it.first
      writers = ap (λ t. t.0) (moves.tx ∙ sym it.tx)

      first_lawful : IsVersion form.coding g table (record_key table (put.kept.reading p)) it.first
      first_lawful = (subst (Each (IsVersion form.coding g table (record_key table (put.kept.reading p))))
          it.is (put.kept.sound.records.each p table of).each).0

      lawful_there : IsVersion form.coding g table (key_of table n.row) n
      lawful_there = record {
        placed = table_in_image form.in_primary size placed image (stands_of put.kept.layout)
            (stands_of put.kept.of_pool) put.kept.behind.stands put.kept.sound.tables n.at.page.0 table
            entered lawful.placed;
        drawn = subst (λ (t : ℕ). t < g.next) (sym writers) first_lawful.drawn;
        dead = λ is. subst (λ (t : ℕ). g.oldest ≤ t) (sym writers)
            (first_lawful.dead (ap state (sym writers) ∙ is));
        format = lawful.format;
        spelled = lawful.spelled;
        storable = lawful.storable;
        erased = lawful.erased;
        keyed = refl;
      }

      cell_there : cells_of image n.at ≡ Some (cells.Version n.version)
      cell_there = cells_alike placed image n.at n.at.page.0 refl same_cell ∙ moves.put.here

      moves_there : (es : List Entry) → Chain (cells_of laid_) n.version.back es
          → ((es ≡ it.rest) × (key_of table n.row ≡ record_key table (put.kept.reading p)))
          ⊎ ((es ≡ []) × (state (writer n) ≡ Dead))
          → Moves form.coding g (cells_of image) (cells_of laid_) put.kept.reading p table l link n it.first
          it.rest es
      moves_there es chain behind_ = record {
        of = of;
        first = it.is;
        slot = slot_there;
        change = turn_there;
        cell = cell_there;
        leads = moves.leads;
        chain = chain;
        writers = writers;
        open_ = open_n;
        unread = put.unread here;
        lawful = lawful_there;
        behind = behind_;
      }

      off_there : (es : List Entry) → (Stands es x → ⊥) → Stands (n ∷ es) x → ⊥
      off_there es none_ (inl same) = put.unread here p (subst (Stands (put.kept.reading p)) (sym same)
          (stood form size state image put.kept.layout put.kept.reading put.kept.sound p table x
          it.first.version l there slot_there))
      off_there es none_ (inr more) = none_ more

      unread_with : (es : List Entry) → (Stands es x → ⊥) → (q : RecId)
          → Stands (put_reading put.kept.reading p (n ∷ es) q) x → ⊥
      unread_with es none_ = none_reads form size state image put.kept.layout put.kept.reading put.kept.sound
          p table x it.first.version l there slot_there (n ∷ es) (off_there es none_)

      go_on : (es : List Entry) → TurnsTo form g laid_ put.kept.reading p x es
          → (living state es ≡ living state (put.kept.reading p)) ⊎ (living state (n ∷ found.older) ≡ [])
          → IsTurned form size o h state turned x true laid_
      go_on = turn_in form size o h state placed turned image p x put.kept moves.slot_page rest_slot
          (n ∷ found.older) pool_to laid_ lays

      within : IsTurned form size o h state turned x true laid_
      within = by v.back refl
        where
          by : (b : Option Link) → v.back ≡ b → IsTurned form size o h state turned x true laid_
          by (Some m) some = go_on (n ∷ it.rest) (record {
            records = move_sound form.coding g (cells_of image) (cells_of laid_) put.kept.reading p table l
                link n it.first it.rest it.rest put.kept.sound.records go_moves;
            quiet = inl same;
            unread = unread_with it.rest (older_off form size state image put.kept.layout put.kept.reading
                put.kept.sound p table x it.first.version l there slot_there);
          }) (inl same)
            where
              go_moves : Moves form.coding g (cells_of image) (cells_of laid_) put.kept.reading p table l
                  link n it.first it.rest it.rest
              go_moves = moves_there it.rest
                  (subst (λ (k : Option Link). Chain (cells_of laid_) k it.rest)
                  (sym (moves.back ∙ some))
                  (rest_leads form one none size o h state placed image of_pool put.kept p x table v l found
                  moves.slot dead slot_there slot_entered (cells_of laid_) (Some (cells.Anchor link))
                  turn_there m some))
                  (inl (
                    refl,
                    lawful.keyed ∙ rest_key form one none size o h state placed image of_pool
                        put.kept p x table v l found moves.slot dead slot_there slot_entered m some,
                  ))

              same : living state (n ∷ it.rest) ≡ living state (put.kept.reading p)
              same = move_living form.coding g (cells_of image) (cells_of laid_) put.kept.reading p table l
                  link n it.first it.rest it.rest put.kept.sound.records go_moves dead_n
                  ∙ sym (was_living form.coding g (cells_of image) (cells_of laid_) put.kept.reading p table
                  l link n it.first it.rest it.rest put.kept.sound.records go_moves dead_n)
          by None nothing = go_on (n ∷ []) (record {
            records = move_sound form.coding g (cells_of image) (cells_of laid_) put.kept.reading p table l
                link n it.first it.rest [] put.kept.sound.records go_moves;
            quiet = inr (goes_quietly form one none size o h state placed image of_pool put.kept p x table v l
                found moves.slot dead slot_there slot_entered nothing (n ∷ []) (rw dead_n refl));
            unread = unread_with [] (λ more. more);
          }) (inr (rw dead_n (pool_empty form one none size o h state placed image of_pool put.kept p x table
              v l found moves.slot dead nothing)))
            where
              go_moves : Moves form.coding g (cells_of image) (cells_of laid_) put.kept.reading p table l
                  link n it.first it.rest []
              go_moves = moves_there [] (subst (λ (k : Option Link). Chain (cells_of laid_) k [])
                  (sym (moves.back ∙ nothing)) ended) (inr (refl, dead_n))

  -- ---- all three, on an image with the pages of a set

  module _ (dead : state v.tx.0 ≡ Dead) (of_pool : IsKept form size o h state pool pool) where
    placed_pool : IsKept form size o h state placed placed
    placed_pool = (move_put_in pool of_pool placed
        (record { was = refl; is = refl; others = moves.put_page.others })).kept

    -- as three steps of the views of a batch
    pub move_views : (orders : Orders) (set_ : PageSet) (image : Pages)
        → (set_ p.page.0 ≡ true → set_ n.at.page.0 ≡ true)
        → (set_ x.page.0 ≡ true → set_ p.page.0 ≡ true)
        → ((m : ℕ) → orders m p.page.0 ≡ true → set_ p.page.0 ≡ true
        → partly set_ placed image m ≡ placed m)
        → OrdersMove orders placed table n p x v
        → IsKept form size o h state pool (partly set_ pool image)
        → IsKept form size o h state changed (partly set_ changed image)
    move_views orders set_ image with_cell with_slot same ordered start =
        free_views form size o h state turned changed x v moves.frees rest_free set_ image p.page.0 with_slot
        (middle (set_ p.page.0) refl)
      where
        first : (c : Bool) → set_ n.at.page.0 ≡ c → IsPlaced c (partly set_ placed image)
        first true in_set = move_put_in (partly set_ pool image) start (partly set_ placed image)
            (step_in set_ pool placed image n.at.page.0 moves.put_page.others in_set)
        first false off_ = subst (IsPlaced false)
            (sym (step_out set_ pool placed image n.at.page.0 moves.put_page.others off_))
            (put_out (partly set_ pool image) start)

        middle : (c : Bool) → set_ p.page.0 ≡ c
            → IsTurned form size o h state turned x (set_ p.page.0) (partly set_ turned image)
        middle true in_set = subst (λ (c : Bool). IsTurned form size o h state turned x c
            (partly set_ turned image)) (sym in_set)
            (within dead placed_pool true (partly set_ placed image) (first true (with_cell in_set)) refl
            (partly set_ turned image)
            (step_in set_ placed turned image p.page.0 moves.slot_page.others in_set)
            (rw (with_cell in_set) refl)
            (entered_with (λ m. orders m p.page.0 ≡ true) (λ m. partly set_ placed image m ≡ placed m)
            placed n.at.page.0 table.pointer.0 (λ m before. same m before in_set) ordered.pointers)
            (λ nothing. entered_with (λ m. orders m p.page.0 ≡ true)
            (λ m. partly set_ placed image m ≡ placed m) placed p.page.0 table.pointer.0
            (λ m before. same m before in_set) (ordered.slot_pointers nothing)))
        middle false off_ = subst (λ (c : Bool). IsTurned form size o h state turned x c
            (partly set_ turned image)) (sym off_)
            (subst (IsTurned form size o h state turned x false)
            (sym (step_out set_ placed turned image p.page.0 moves.slot_page.others off_))
            (out dead placed_pool (set_ n.at.page.0) (partly set_ placed image)
            (first (set_ n.at.page.0) refl)))

    -- as a batch of its own
    pub move_part : (batch : ℕ → Option (List ℕ)) (orders : Orders) (set_ : PageSet) (image : Pages)
        → batch n.at.page.0 ≢ None → batch p.page.0 ≢ None
        → ((m : ℕ) → batch m ≡ None → placed m ≡ changed m)
        → OrdersMove orders placed table n p x v
        → LaysBatch pool changed batch orders set_ image
        → IsKept form size o h state pool image
        → IsKept form size o h state changed (laid batch set_ image)
    move_part batch orders set_ image cell_in slot_in left ordered lays was =
        subst (IsKept form size o h state changed) (last_view pool changed batch orders set_ image lays)
        (move_views orders set_ image (λ in_set. with_cell in_set (cases_eq n.at.page.0 p.page.0))
        (λ in_set. with_slot in_set (cases_eq x.page.0 p.page.0))
        (λ m before in_set. ordered_same pool changed batch orders set_ image placed lays left m p.page.0
        before in_set) ordered (subst (IsKept form size o h state pool)
        (sym (first_view pool changed batch orders set_ image lays)) was))
      where
        with_cell : set_ p.page.0 ≡ true → (n.at.page.0 ≡ p.page.0) ⊎ (n.at.page.0 ≢ p.page.0)
            → set_ n.at.page.0 ≡ true
        with_cell in_set (inl one_) = ap set_ one_ ∙ in_set
        with_cell in_set (inr two) =
            lays.together n.at.page.0 p.page.0 (ordered.cell two) cell_in in_set

        with_slot : set_ x.page.0 ≡ true → (x.page.0 ≡ p.page.0) ⊎ (x.page.0 ≢ p.page.0)
            → set_ p.page.0 ≡ true
        with_slot in_set (inl one_) = sym (ap set_ one_) ∙ in_set
        with_slot in_set (inr two) =
            lays.together p.page.0 x.page.0 (ordered.freed two) slot_in in_set
