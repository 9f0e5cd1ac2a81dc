-- A batch that takes a record out, on an image in which its writer counts as dead: what an image has to be that has a
-- set of the batch's pages is kept.
use Rattle.std.proofs.Common.{◌≡◌, ◌≢◌, ◌⊎◌, inl, inr, refl, sym, ap, ◌∙◌, subst, arith, ◌++◌, ℕ, Bool, true, false, List, [], ◌∷◌, Option, None, Some}
use Rattle.std.proofs.Math.Path.{fun_ext}
use Rattle.std.proofs.lemmas.Bool.{cases_eq, eq-eqb}
use Rattle.mg_base.specs.Disk.{Meaning}
use Rattle.mg_base.specs.Fields.{byte}
use Rattle.mg_base.specs.Image.{Image}
use Rattle.mg_base.specs.declared.numbers.RecId.{RecId}
use Rattle.mg_base.specs.declared.transaction.TxState.{TxState}
use Rattle.mg_base.specs.declared.transaction.TxState.TheVariants.{Committed, Dead}
use Rattle.mg_careful.specs.CarefulWrite.{PageSet}
use Rattle.mg_careful.specs.Precedence.{Orders}
use Rattle.mg_careful.specs.declared.graph.Order.{Order}
use Rattle.mg_chain.specs.Orders.{before_page, out_orders, unchanged_page}
use Rattle.mg_chain.specs.Writing.{SlotIsReached, TakesOut, TurnsBack}
use Rattle.mg_tie_laws.specs.FirstPages.{left_within}
use Rattle.mg_tie_laws.specs.FreeTies.{back_cells, back_has, back_page, frees_cells, frees_page, frees_within, version_apart}
use Rattle.mg_tie_laws.specs.Newest.{newest_found, newest_placed}
use Rattle.mg_tie_laws.specs.Rows.{ordered_page, reached_entered, walk_four, within_orders, within_put}
use Rattle.mg_heap.specs.Reach.{IsReached}
use Rattle.mg_tie_laws.specs.Batches.{IsWithin, lists_later, lists_sooner, viewed_same, within_self}
use Rattle.mg_tie_laws.specs.CellTies.{HasLawfulCells, cells_still, lawful_cells, owner_told}
use Rattle.mg_image.specs.Form.{Form, Pages}
use Rattle.mg_image.specs.ReadingLaws.{RowsAreOne}
use Rattle.mg_image.specs.declared.entry.Entry.{Entry}
use Rattle.mg_image.specs.RecordRules.{Facts}
use Rattle.mg_image.specs.Records.{Chain, Changes, Reading, Stands, cells_of, ended, newest_of, writer}
use Rattle.mg_image.specs.StepLaws.{chain_stays, put_cases, put_reading}
use Rattle.mg_image.specs.Sound.{IsSoundBy, facts_by}
use Rattle.mg_image.specs.Tables.{Has, Layout, stands_of, table_at}
use Rattle.mg_image_overlay_laws.specs.pages.DataPages.{ChangesData}
use Rattle.mg_image_overlay_laws.specs.pages.Kinds.{HasNoSequences}
use Rattle.mg_image_overlay_laws.specs.kept.KeptImages.{IsKept, keeping}
use Rattle.mg_image_overlay_laws.specs.pages.Reach.{IsEntered}
use Rattle.mg_image_overlay_laws.specs.pages.Trees.{data_leaves, trees_stay}
use Rattle.mg_model.specs.Catalog.{catalog_name}
use Rattle.mg_model.specs.History.{Entries}
use Rattle.mg_model.specs.declared.opening.Opening.{Opening}
use Rattle.mg_model.specs.declared.table.Table.{Table}
use Rattle.mg_overlay_laws.specs.BatchLaws.{change_keeps_always}
use Rattle.mg_overlay_laws.specs.Overlays.{LaysBatch, laid, left_by, left_state, without}
use Rattle.mg_overlay_laws.specs.Views.{first_view, last_view, ordered_same, partly}
use Rattle.mg_pool.specs.Batch.{Changed, content_in, lists}
use Rattle.mg_pool.specs.Pool.{shown}
use Rattle.mg_pool.specs.declared.pool.Pool.{Pool}
use Rattle.mg_space.specs.View.{viewed}
use Rattle.mg_tie_laws.specs.Changed.{BatchIsChanged, cache_over, changed_fresh, fresh, needs_in}
use Rattle.mg_image_overlay_laws.specs.records.BackPart.{OrdersTakeOut, TakesOutPages, take_out_views}
use Rattle.mg_image_overlay_laws.specs.pages.DataKept.{IsDataChanged, data_more, data_self}
use Rattle.mg_image_overlay_laws.specs.tables.OneLayout.{sound_once}
use Rattle.mg_image_overlay_laws.specs.records.OwnThere.{dead_newest, none_reads, older_off, open_newest, pool_behind}
use Rattle.mg_image_overlay_laws.specs.records.OwnVersion.{FindsNewest}
use Rattle.mg_image_overlay_laws.specs.records.TakeOut.{back_cell, back_leads, drop_living, drop_sound, free_sound, slot_off}
use Rattle.mg_image_overlay_laws.specs.records.QuietSteps.{StepsQuietly, pool_sound_after, quiet_out}
use Rattle.mg_image_overlay_laws.specs.records.QuietVersions.{IsQuiet}
use Rattle.mg_image_overlay_laws.specs.kept.Rest.{LeavesRest}
use Rattle.mg_version.specs.declared.cell.Version.{Version}
use Rattle.mg_version.specs.declared.cell.Cell.TheVariants as cells
use Rattle.mg_version.specs.declared.cell.Link.{Link}
use Rattle.mg_engine_step_laws.specs.tables_back.Outs.{GoesWhole, RowAwayKeeps}
use Rattle.mg_engine_step_laws.specs.writes.Claims.{left_dead, left_same}
use Rattle.mg_engine_step_laws.specs.tables_back.CatalogPages.{ChangesCatalogPages, catalog_page_named, changes_join, data_changes}

-- ---- what a step has is within what comes of it

turns_within : {D L : Type 0} (store : Pool D L) (image : Image) (contents : ℕ → Option (List ℕ)) (orders : Orders)
    (old new : Changed) (rec : RecId) (back : Option Link) → TurnsBack store image old new rec back
    → IsWithin contents orders new → IsWithin contents orders old
turns_within store image contents orders old new rec None turns within =
    frees_within store image contents orders old new rec turns within
turns_within store image contents orders old new rec (Some link) turns within =
    within_put contents orders old new rec.page.0 turns.puts.one.bytes turns.puts.one.puts within

pub out_within : {D L : Type 0} (store : Pool D L) (image : Image) (contents : ℕ → Option (List ℕ)) (orders : Orders)
    (old new : Changed) (rec : RecId) → TakesOut store image old new rec → IsWithin contents orders new
    → IsWithin contents orders old
out_within store image contents orders old new rec out within =
    turns_within store image contents orders old out.taken.swings.turned rec out.was.back out.taken.swings.turns
    (frees_within store image contents orders out.taken.swings.turned out.taken.freed out.newest.rec
    out.taken.swings.frees (within_orders contents orders out.taken.freed new
    (out_orders out.taken.freed.pages rec.page.0 out.was.back out.taken.slot_pointers out.newest.rec.page.0)
    out.taken.ordered within))

-- ---- a record is taken out

module _ (form : Form) (one : RowsAreOne form.coding) (none : HasNoSequences form)
    (no_primary : form.in_primary ≡ false) {D L : Type 0} (store : Pool D L) (image : Image) (state : ℕ → TxState)
    (o : Opening) (h : Entries) (contents : ℕ → Option (List ℕ)) (orders : Orders) (old new : Changed) (rec : RecId)
    (table : Table) (out : TakesOut store image old new rec) (dead : state out.was.tx.0 ≡ Dead)
    (placed : (layout : Layout) (r : Reading)
    → IsSoundBy form store.geometry.size state (viewed store image old) layout r
    → table_at (stands_of layout) rec.page.0 ≡ Some table)
    (within : IsWithin contents orders new)
    (start : IsKept form store.geometry.size o h state (viewed store image old) (viewed store image old)) where
  abbrev size : ℕ
  size = store.geometry.size

  abbrev pool : Pages
  pool = viewed store image old

  abbrev x : RecId
  x = out.newest.rec

  abbrev turned : Changed
  turned = out.taken.swings.turned

  abbrev freed : Changed
  freed = out.taken.freed

  of : table_at (stands_of start.layout) rec.page.0 ≡ Some table
  of = placed start.layout start.reading start.sound

  x_of : table_at (stands_of start.layout) x.page.0 ≡ Some table
  x_of = newest_placed form size state pool start.layout start.reading start.sound rec table of out.newest
      out.its.head.slot

  owner_is : out.owner ≡ table.pointer.0
  owner_is = out.its.head.owned.is ∙ owner_told form size state pool start.layout start.reading start.sound
      rec.page.0 table of

  rec_cells : HasLawfulCells form.in_primary pool rec.page.0
  rec_cells = lawful_cells form size state pool start.layout start.reading start.sound rec.page.0 table of

  x_cells : HasLawfulCells form.in_primary pool x.page.0
  x_cells = lawful_cells form size state pool start.layout start.reading start.sound x.page.0 table x_of

  abbrev os : List Order
  os = out_orders freed.pages rec.page.0 out.was.back out.taken.slot_pointers x.page.0

  within_freed : IsWithin contents orders freed
  within_freed = within_orders contents orders freed new os out.taken.ordered within

  within_turned : IsWithin contents orders turned
  within_turned = frees_within store image contents orders turned freed x out.taken.swings.frees within_freed

  within_old : IsWithin contents orders old
  within_old = out_within store image contents orders old new rec out within

  apart_x : x ≢ rec
  apart_x same =
      let both : Some (cells.Version out.was) ≡ Some (cells.Anchor out.newest) =
      sym out.its.meets.cell ∙ (ap (cells_of pool) same ∙ out.its.head.slot) in absurd cc

  slot_page : ChangesData form.in_primary pool (viewed store image turned) rec.page.0
  slot_page = back_page form.in_primary store image old turned rec out.newest out.its.head.slot rec_cells
      out.was.back out.taken.swings.turns

  turn : Changes (cells_of pool) (cells_of (viewed store image turned)) rec (back_cell out.was.back)
  turn = back_cells form.in_primary store image old turned rec out.newest out.its.head.slot rec_cells
      out.was.back out.taken.swings.turns

  x_there : cells_of (viewed store image turned) x ≡ Some (cells.Version out.was)
  x_there = turn.others x apart_x ∙ out.its.meets.cell

  pages : TakesOutPages form.in_primary pool (viewed store image turned) (viewed store image new) rec x out.was
      out.newest
  pages = subst (λ (p : Pages). TakesOutPages form.in_primary pool (viewed store image turned) p rec x out.was
      out.newest) (sym (viewed_same store image freed new out.taken.ordered.same_pages)) (record {
        slot_page = slot_page;
        slot = out.its.head.slot;
        turn = turn;
        frees = record {
          page = frees_page form.in_primary store image turned freed x out.taken.swings.frees
              (cells.Version out.was) x_there
              (cells_still form.in_primary pool (viewed store image turned) rec.page.0 x.page.0 slot_page x_cells);
          cell = x_there;
          apart = version_apart pool x out.was
              (subst (λ (b : Bool). HasLawfulCells b pool x.page.0) no_primary x_cells) out.its.meets.cell;
          freed = frees_cells form.in_primary store image turned freed x out.taken.swings.frees
              (cells.Version out.was) x_there;
        };
      })

  has_slot : contents rec.page.0 ≢ None
  has_slot = within_turned.pages rec.page.0 (back_has form.in_primary store image old turned rec out.newest
      out.its.head.slot rec_cells out.was.back out.taken.swings.turns)

  in_out : (a c : ℕ) → lists os a c ≡ true → orders a c ≡ true
  in_out a c is = within.listed a c (subst (λ (ps : List Order). lists ps a c ≡ true) (sym out.taken.ordered.added)
      (lists_later freed.orders os a c is))

  abbrev first_part : List Order
  first_part = before_page (unchanged_page freed.pages out.was.back) rec.page.0
      ++ before_page out.taken.slot_pointers rec.page.0

  in_walk : (a c : ℕ) → lists (before_page out.taken.slot_pointers rec.page.0) a c ≡ true → orders a c ≡ true
  in_walk a c is = in_out a c (lists_sooner first_part (before_page (rec.page.0 ∷ []) x.page.0) a c
      (lists_later (before_page (unchanged_page freed.pages out.was.back) rec.page.0)
      (before_page out.taken.slot_pointers rec.page.0) a c is))

  in_freed : (a c : ℕ) → lists (before_page (rec.page.0 ∷ []) x.page.0) a c ≡ true → orders a c ≡ true
  in_freed a c is = in_out a c (lists_later first_part (before_page (rec.page.0 ∷ []) x.page.0) a c is)

  walked : (back : Option Link) → SlotIsReached pool out.owner rec.page.0 back out.taken.slot_pointers
      → back ≡ None → IsEntered (λ k. orders k rec.page.0 ≡ true) pool rec.page.0 table.pointer.0
  walked (Some link) reached is = absurd cc
  walked None reached is = reached_entered (λ k. orders k rec.page.0 ≡ true) pool table.pointer.0 rec.page.0
      out.taken.slot_pointers walk (λ k there. in_walk k rec.page.0
      (ordered_page out.taken.slot_pointers k rec.page.0 there (off k there)))
    where
      walk : IsReached pool table.pointer.0 rec.page.0 out.taken.slot_pointers
      walk = subst (λ (k : ℕ). IsReached pool k rec.page.0 out.taken.slot_pointers) owner_is reached

      off : (k : ℕ) → Has out.taken.slot_pointers k → k ≢ rec.page.0
      off k there same =
          let four : byte (pool k) 0 ≡ 4 =
          walk_four pool table.pointer.0 rec.page.0 out.taken.slot_pointers walk k there in
          let five : byte (pool k) 0 ≡ 5 = ap (λ (q : ℕ). byte (pool q) 0) same ∙ rec_cells.kind in
          omega (arith, four, five)

  orders_out : OrdersTakeOut orders pool table x rec out.was
  orders_out = record {
    freed = λ ne. in_freed rec.page.0 x.page.0 (ordered_page (rec.page.0 ∷ []) rec.page.0 x.page.0
        (inl refl) (λ e. ne (sym e)));
    pointers = walked out.was.back out.taken.slot_reached;
  }

  go : (set_ : PageSet) (img : Pages) → (set_ x.page.0 ≡ true → set_ rec.page.0 ≡ true)
      → ((m : ℕ) → orders m rec.page.0 ≡ true → set_ rec.page.0 ≡ true → partly set_ pool img m ≡ pool m)
      → IsKept form size o h state pool (partly set_ pool img)
      → IsKept form size o h state (viewed store image new) (partly set_ (viewed store image new) img)
  go set_ img with_slot same kept = take_out_views form one none size o h state pool (viewed store image turned)
      (viewed store image new) rec x table out.was out.newest pages
      (λ layout r sound. newest_found form size state pool layout r sound rec table (placed layout r sound) out.newest
      out.its.head.slot out.was out.its.meets.cell)
      (data_leaves form size rec.page.0 none (trees_stay form size))
      (data_leaves form size x.page.0 none (trees_stay form size)) dead start orders set_ img with_slot same orders_out
      kept

  -- the pool's own image
  pub out_whole : IsKept form store.geometry.size o h state (viewed store image new) (viewed store image new)
  out_whole = go (λ p. true) (viewed store image old) (λ is. refl) (λ m ordered is. refl) start

  -- ---- what is read then

  abbrev f : Facts
  f = facts_by state (viewed store image old) start.of_pool

  found : FindsNewest (facts_by state (viewed store image old) start.of_pool) start.in_pool rec table out.newest.rec
      out.was
  found = newest_found form size state pool start.of_pool start.in_pool start.pool_sound rec table
      (placed start.of_pool start.in_pool start.pool_sound) out.newest out.its.head.slot out.was out.its.meets.cell

  open_pool : state (writer found.newest) ≢ Committed
  open_pool = open_newest form one none size o h state pool pool start start rec x table out.was out.newest found
      out.its.head.slot dead

  behind_ : Chain (cells_of (viewed store image old)) out.was.back found.older
  behind_ = pool_behind form one none size o h state pool pool start start rec x table out.was out.newest found
      out.its.head.slot dead

  leads : Chain (cells_of (viewed store image turned)) (newest_of rec (back_cell out.was.back)) found.older
  leads = subst (λ (k : Option Link). Chain (cells_of (viewed store image turned)) k found.older)
      (sym (back_leads rec out.was.back)) (chain_stays (cells_of pool) (cells_of (viewed store image turned)) rec
      (back_cell out.was.back) turn out.was.back found.older behind_ (slot_off (cells_of pool) rec out.newest
      out.its.head.slot out.was.back found.older behind_))

  abbrev after : Reading
  after = put_reading start.in_pool rec found.older

  turn_step : StepsQuietly form state store.geometry.size (viewed store image old) (viewed store image turned)
      rec.page.0 (facts_by state (viewed store image old) start.of_pool) start.in_pool
      (put_reading start.in_pool rec found.older)
  turn_step = record {
    page = slot_page;
    records = drop_sound form.coding f (cells_of pool) (cells_of (viewed store image turned)) start.in_pool rec table
        out.newest (back_cell out.was.back) start.pool_sound.records found.of out.its.head.slot turn found.newest
        found.older found.first open_pool leads;
    quiet = put_cases start.in_pool rec found.older (λ q fs. IsQuiet f (start.in_pool q) fs)
        (inl (drop_living form.coding f (cells_of pool) (cells_of (viewed store image turned)) start.in_pool rec table
        out.newest (back_cell out.was.back) start.pool_sound.records found.of out.its.head.slot turn found.newest
        found.older found.first open_pool leads (dead_newest form one none size o h state pool pool start start rec x
        table out.was out.newest found out.its.head.slot dead))) (λ q ne. inl refl);
  }

  turn_rest : LeavesRest form store.geometry.size (viewed store image old) (viewed store image turned) start.of_pool
  turn_rest = data_leaves form size rec.page.0 none (trees_stay form size) state pool (viewed store image turned)
      start.of_pool start.in_pool start.pool_sound slot_page

  unread : (q : RecId) → Stands (put_reading start.in_pool rec found.older q) out.newest.rec → ⊥
  unread = none_reads form size state pool start.of_pool start.in_pool start.pool_sound rec table x out.was out.newest
      found out.its.head.slot found.older (older_off form size state pool start.of_pool start.in_pool start.pool_sound
      rec table x out.was out.newest found out.its.head.slot)

  at_turned : IsSoundBy form store.geometry.size state (viewed store image turned) start.of_pool
      (put_reading start.in_pool rec found.older)
  at_turned = pool_sound_after form size o h state pool (viewed store image turned) pool rec.page.0 start after
      turn_step turn_rest

  abbrev kept_turned : IsKept form store.geometry.size o h state (viewed store image turned) (viewed store image old)
  kept_turned = quiet_out form store.geometry.size o h state (viewed store image old) (viewed store image turned)
      (viewed store image old) rec.page.0 start (put_reading start.in_pool rec found.older) turn_step turn_rest

  at_new : IsSoundBy form store.geometry.size state (viewed store image new) start.of_pool
      (put_reading start.in_pool rec found.older)
  unfolding quiet_out
  at_new = pool_sound_after form size o h state (viewed store image turned) (viewed store image new) pool x.page.0
      kept_turned after (record {
        page = pages.frees.page;
        records = free_sound form.coding (facts_by state (viewed store image turned) start.of_pool)
            (cells_of (viewed store image turned)) (cells_of (viewed store image new)) after x out.was
            at_turned.records pages.frees.cell pages.frees.apart pages.frees.freed unread;
        quiet = λ q. inl refl;
      }) (data_leaves form size x.page.0 none (trees_stay form size) state (viewed store image turned)
      (viewed store image new) start.of_pool after at_turned pages.frees.page)

  -- a first version leaves none
  none_behind : out.was.back ≡ None → found.older ≡ []
  none_behind first = at found.older (subst (λ (k : Option Link). Chain (cells_of pool) k found.older) first behind_)
    where
      at : (es : List Entry) → Chain (cells_of (viewed store image old)) None es → es ≡ []
      at es ended = refl

  -- the record has gone, and every other one reads as it did
  pub out_there : out.was.back ≡ None → (c : Layout) (rc : Reading)
      → IsSoundBy form store.geometry.size state (viewed store image new) c rc
      → (start.of_pool ≡ c) × GoesWhole out.was.tx.0 (start.in_pool rec) (rc rec)
      × ((p : RecId) → p ≢ rec → rc p ≡ start.in_pool p)
  out_there first c rc sound = (
    same.0,
    record {
      version = found.newest;
      alone = found.first ∙ ap (λ (es : List Entry). found.newest ∷ es) (none_behind first);
      its = ap (λ (w : Version). w.tx.0) found.version;
      none = sym (ap (λ (s : Reading). s rec) same.1) ∙ (here ∙ none_behind first);
    },
    λ p ne. sym (ap (λ (s : Reading). s p) same.1) ∙ there p ne,
  )
    where
      same : (start.of_pool ≡ c) × (put_reading start.in_pool rec found.older ≡ rc)
      same = sound_once form one none size state (viewed store image new) start.of_pool c after rc at_new sound

      here : put_reading start.in_pool rec found.older rec ≡ found.older
      here = put_cases start.in_pool rec found.older (λ q fs. q ≡ rec → fs ≡ found.older) (λ e. refl)
          (λ q ne e. absurd (ne e)) rec refl

      there : (p : RecId) → p ≢ rec → put_reading start.in_pool rec found.older p ≡ start.in_pool p
      there = put_cases start.in_pool rec found.older (λ q fs. q ≢ rec → fs ≡ start.in_pool q)
          (λ ne. absurd (ne refl)) (λ q ne also. refl)

  -- of the catalog, it changes its data pages alone
  pub out_pages : table.name ≡ catalog_name → ChangesCatalogPages store.geometry.size (viewed store image old)
      (viewed store image new) start.of_pool
  out_pages named = changes_join size pool (viewed store image turned) (viewed store image new) start.of_pool
      (data_changes form.in_primary size pool (viewed store image turned) rec.page.0 slot_page start.pool_sound.header
      start.pool_sound.inventory start.pool_sound.transactions start.of_pool (catalog_page_named form size state pool
      start.of_pool start.in_pool start.pool_sound rec.page.0 table at_pool named).0 at_turn.bits)
      (data_changes form.in_primary size (viewed store image turned) (viewed store image new) x.page.0 pages.frees.page
      at_turn.header at_turn.inventory at_turn.transactions start.of_pool (catalog_page_named form size state pool
      start.of_pool start.in_pool start.pool_sound x.page.0 table (newest_placed form size state pool start.of_pool
      start.in_pool start.pool_sound rec table at_pool out.newest out.its.head.slot) named).0 (record {
        bits = λ u. at_end.bits.bits u ∙ sym (at_turn.bits.bits u);
        next = at_end.bits.next ∙ sym at_turn.bits.next;
      }))
    where
      at_pool : table_at (stands_of start.of_pool) rec.page.0 ≡ Some table
      at_pool = placed start.of_pool start.in_pool start.pool_sound

      at_turn : IsDataChanged form size pool (viewed store image turned) start.of_pool
      at_turn = data_more form size state pool start.of_pool start.in_pool start.pool_sound pool
          (viewed store image turned) rec.page.0
          (data_self form size state pool start.of_pool start.in_pool start.pool_sound) slot_page

      at_end : IsDataChanged form size pool (viewed store image new) start.of_pool
      at_end = data_more form size state pool start.of_pool start.in_pool start.pool_sound (viewed store image turned)
          (viewed store image new) x.page.0 at_turn pages.frees.page

  -- an image with a set of the batch's pages
  module _ (changed : Pages) (set_ : PageSet) (img : Pages)
      (lays : LaysBatch (shown store.dirty image) changed contents orders set_ img)
      (left : (m : ℕ) → contents m ≡ None → shown store.dirty image m ≡ changed m) where
    pub out_part : IsKept form store.geometry.size o h state (viewed store image old)
        (partly set_ (viewed store image old) img)
        → IsKept form store.geometry.size o h state (viewed store image new)
        (partly set_ (viewed store image new) img)
    out_part kept = go set_ img (λ in_set. with_slot in_set (cases_eq x.page.0 rec.page.0))
        (λ m ordered in_set. ordered_same (shown store.dirty image) changed contents orders set_ img pool lays
        (λ k is. left_within store image contents orders old within_old k is ∙ left k is) m rec.page.0 ordered in_set)
        kept
      where
        with_slot : set_ x.page.0 ≡ true → (x.page.0 ≡ rec.page.0) ⊎ (x.page.0 ≢ rec.page.0)
            → set_ rec.page.0 ≡ true
        with_slot in_set (inl one_) = sym (ap set_ one_) ∙ in_set
        with_slot in_set (inr two) = lays.together rec.page.0 x.page.0 (orders_out.freed two) has_slot in_set

-- ---- the law

pub row_away_keeps : (form : Form) → RowsAreOne form.coding → HasNoSequences form → form.in_primary ≡ false
    → (D L : Type 0) (m : Meaning D) → RowAwayKeeps form D L m
row_away_keeps form one none no_primary D L m before after i j batch asked session o h by state now key changes away
    active dead others every =
    change_keeps_always (keeping form before.geometry.size o h) (keeping form before.geometry.size o h) now
    (cache_over before i) (cache_over after j) it.gone (content_in batch.pages) (lists batch.orders)
    (needs_in asked session before) (needs_in asked session after) it.changes it.left part every
  where
    it : BatchIsChanged before after i j batch asked session
    it = changed_fresh m before after i j batch asked session changes

    part : (chosen : ℕ → Bool) (set_ : PageSet) (image : Pages)
        → LaysBatch (shown before.dirty i) (shown after.dirty j) (content_in batch.pages) (lists batch.orders) set_ image
        → IsKept form before.geometry.size o h (left_state chosen now) (shown before.dirty i) (shown before.dirty i)
        → IsKept form before.geometry.size o h (left_state chosen now) (shown before.dirty i) image
        → IsKept form before.geometry.size o h (left_state chosen now) (shown after.dirty j)
        (laid (content_in batch.pages) set_ image)
    part chosen set_ image lays of_pool was = subst (λ (pages : Pages). IsKept form before.geometry.size o h
        (left_state chosen now) pages (laid (content_in batch.pages) set_ image)) (sym it.pool)
        (subst (IsKept form before.geometry.size o h (left_state chosen now) (viewed before i batch))
        (last_view (shown before.dirty i) (viewed before i batch) (content_in batch.pages)
        (lists batch.orders) set_ image lays_view) done)
      where
        as_dead : left_state (without by chosen) state ≡ left_state chosen now
        as_dead = fun_ext (left_same by state now dead others active chosen)

        off : without by chosen by ≡ false
        off = rw (eq-eqb by by refl) refl

        gone_ : left_state chosen now away.out.was.tx.0 ≡ Dead
        gone_ = ap (left_state chosen now) away.its ∙ (ap (left_by (chosen by)) dead ∙ left_dead (chosen by))

        placed : (layout : Layout) (r : Reading)
            → IsSoundBy form before.geometry.size (left_state chosen now) (viewed before i fresh) layout r
            → table_at (stands_of layout) away.rec.page.0 ≡ Some away.table
        placed layout r sound = away.placed (without by chosen) off layout r
            (subst (λ (s : ℕ → TxState). IsSoundBy form before.geometry.size s (shown before.dirty i) layout r)
            (sym as_dead) sound)

        lays_view : LaysBatch (shown before.dirty i) (viewed before i batch) (content_in batch.pages)
            (lists batch.orders) set_ image
        lays_view = subst (λ (pages : Pages). LaysBatch (shown before.dirty i) pages
            (content_in batch.pages) (lists batch.orders) set_ image) it.pool lays

        left : (q : ℕ) → content_in batch.pages q ≡ None → shown before.dirty i q ≡ viewed before i batch q
        left q none_ = sym (left_within before i (content_in batch.pages) (lists batch.orders) batch
            (within_self batch) q none_)

        done : IsKept form before.geometry.size o h (left_state chosen now) (viewed before i batch)
            (partly set_ (viewed before i batch) image)
        done = out_part form one none no_primary before i (left_state chosen now) o h (content_in batch.pages)
            (lists batch.orders) fresh batch away.rec away.table away.out gone_ placed (within_self batch) of_pool
            (viewed before i batch) set_ image lays_view left
            (subst (IsKept form before.geometry.size o h (left_state chosen now) (shown before.dirty i))
            (sym (first_view (shown before.dirty i) (viewed before i batch) (content_in batch.pages)
            (lists batch.orders) set_ image lays_view)) was)
