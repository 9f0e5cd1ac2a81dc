-- A number is drawn: the header is changed.
use Rattle.mg_image_overlay_laws.specs.pages.Trees.{trees_stay}
use Rattle.mg_pointer.specs.PointerPage.{next_in}
use Rattle.mg_base.specs.Checks.{PassesAll}
use Rattle.mg_base.specs.Fields.{byte}
use Rattle.mg_base.specs.declared.numbers.RecId.{RecId}
use Rattle.mg_base.specs.declared.transaction.TxState.{TxState}
use Rattle.mg_base.specs.declared.transaction.TxState.TheVariants.{Active, Committed, Dead, Limbo}
use Rattle.mg_careful.specs.CarefulWrite.{Cache, PageSet}
use Rattle.mg_careful.specs.Precedence.{Orders}
use Rattle.mg_header.specs.HeaderPage.{database_checks, header_in, page_checks}
use Rattle.mg_image.specs.Catalog.{catalog_table}
use Rattle.mg_image.specs.FactLaws.{records_on_same_cells, same_names}
use Rattle.mg_image.specs.Form.{Form, Pages}
use Rattle.mg_image.specs.Held.{AreChanges, Changes, HasLimbo, IsChangedAt}
use Rattle.mg_image.specs.HeldLaws.{same_held}
use Rattle.mg_image.specs.Indexes.{EachPage}
use Rattle.mg_image.specs.Inventory.{header_of, inventory_page, is_used, last_sequence, next_of, oldest_active_of, oldest_of, tip_before, tip_page}
use Rattle.mg_image.specs.KeptPageLaws.{wanted_kept}
use Rattle.mg_image.specs.Reached.{IsAsWanted, linked_pages, tips_below, tips_of}
use Rattle.mg_image.specs.RecordRules.{Facts, committed_in}
use Rattle.mg_image.specs.Records.{Change, Reading, slot_cell}
use Rattle.mg_image.specs.Sound.{HasInventory, HasNoOldLimbo, HasNoneUndrawn, HasRegion, HasTips, IsSoundBy, IsUndrawn, facts_by}
use Rattle.mg_image.specs.Tables.{Has, IsOnce, Layout, pages_of, stands_of}
use Rattle.mg_image.specs.declared.entry.Entry.{Entry}
use Rattle.mg_image_overlay_laws.specs.pages.DataPages.{kind_of}
use Rattle.mg_image_overlay_laws.specs.pages.DataSound.{KeepsTrees}
use Rattle.mg_image_overlay_laws.specs.pages.Growth.{has_back, has_front}
use Rattle.mg_image_overlay_laws.specs.pages.Kinds.{HasNoSequences, linked_is, pointers_four, pointers_of}
use Rattle.mg_image_overlay_laws.specs.kept.Rest.{TreesStay, div_grows}
use Rattle.mg_image_overlay_laws.specs.tables.TableOwners.{names_stay, own_tables_stay}
use Rattle.mg_image_overlay_laws.specs.pages.BehindTrees.{behind_stays}
use Rattle.mg_image_overlay_laws.specs.kept.KeptImages.{IsKept, StandsBehind, keeping}
use Rattle.mg_image_overlay_laws.specs.pages.Reach.{page_there}
use Rattle.mg_model.specs.History.{Entries}
use Rattle.mg_model.specs.declared.opening.Opening.{Opening}
use Rattle.mg_model.specs.declared.table.Table.{Table}
use Rattle.mg_overlay_laws.specs.BatchLaws.{change_keeps_always}
use Rattle.mg_overlay_laws.specs.Overlays.{ChangesCache, EveryOverlay, KeepsLaidAlways, KeepsNeeds, laid, left_by, left_state}
use Rattle.mg_image_overlay_laws.specs.pages.GrowPages.{stands_still}
use Rattle.mg_image_overlay_laws.specs.pages.GrownFacts.{PassesNoDead, not_passed, passes_alike, records_grow}
use Rattle.mg_pip.specs.PipPage.{bits, pip_checks, used_in}
use Rattle.mg_slots.specs.DataPage.{cell_of}
use Rattle.mg_tip.specs.TipPage.{places, prev_in, state_in, tip_checks}
use Rattle.mg_value.specs.declared.value.Value.{Value}
use Rattle.std.proofs.Common.{Bool, List, Option, [], ap, arith, false, inl, inr, length, refl, subst, suc, sym, true, zero, ℕ, ◌%◌, ◌++◌, ◌+◌, ◌-◌, ◌/◌, ◌<◌, ◌∙◌, ◌∷◌, ◌≡◌, ◌≢◌, ◌≤◌, ◌⊎◌}
use Rattle.std.proofs.Math.Path.{fun_ext}
use Rattle.std.proofs.lemmas.Bool.{cases_eq}
use Rattle.std.specs.List.{flat_map}
use Rattle.std.specs.Prelude.{map}

-- The header page has a higher Next, for which the last page of transactions has room, and else the
-- fields that other pages rely on; no other page is changed.
pub record DrawsNumber (size : ℕ) (old new : Pages) : Type 0 where
  pub others : (m : ℕ) → m ≢ 0 → new m ≡ old m
  pub next : next_of old ≤ next_of new
  pub room : last_sequence size new ≡ last_sequence size old
  pub tip : (header_of new).last_tip.0 ≡ (header_of old).last_tip.0
  pub catalog : (header_of new).catalog.0 ≡ (header_of old).catalog.0
  pub len : length (new 0) ≡ size
  pub database : PassesAll (database_checks (new 0) size)
  pub fields : PassesAll (page_checks (new 0))

module _ (form : Form) (size : ℕ) (state : ℕ → TxState) (old new : Pages) (layout : Layout)
    (r : Reading) (none : HasNoSequences form) (trees : TreesStay form size)
    (sound : IsSoundBy form size state old layout r) (draws : DrawsNumber size old new) where
  -- a linked page is not the header
  stays : (m : ℕ) → Has (linked_pages size old layout) m → new m ≡ old m
  stays m is = draws.others m off
    where
      off : m ≢ 0
      off e =
          let kind : 3 ≤ byte (old 0) 0 = subst (λ (k : ℕ). 3 ≤ byte (old k) 0) e
          (linked_is form size state old layout r none sound m is).kind in
          let one : byte (old 0) 0 ≡ 1 = kind_of (old 0) 0 1 0 0 _ sound.header.fields in
          omega (arith, kind, one)

  region_stays : (k : ℕ) → new (inventory_page size k) ≡ old (inventory_page size k)
  region_stays k = draws.others (inventory_page size k) (λ e. omega (arith, e))

  pub used_same : (m : ℕ) → is_used size new m ≡ is_used size old m
  unfolding is_used
  used_same m = ap (λ (page : List ℕ). used_in page (m % bits size)) (region_stays (m / bits size))

  used_on : (m : ℕ) → is_used size old m ≡ true → is_used size new m ≡ true
  used_on m is = used_same m ∙ is

  of_tip : (sequence : ℕ) → sequence ≤ last_sequence size old
      → Has (linked_pages size old layout) (tip_page size old sequence)
  of_tip sequence below = has_front (tips_of size old ++ flat_map pages_of (stands_of layout))
      layout.sequences (tip_page size old sequence) (has_front (tips_of size old)
      (flat_map pages_of (stands_of layout)) (tip_page size old sequence)
      (there (last_sequence size old + 1) (omega (arith, below))))
    where
      there : (k : ℕ) → sequence < k → Has (tips_below size old k) (tip_page size old sequence)
      there zero less = absurd (omega (arith, less))
      there (suc k) less = at (cases_eq sequence k) (there k)
        where
          at : (sequence ≡ k) ⊎ (sequence ≢ k)
              → (sequence < k → Has (tips_below size old k) (tip_page size old sequence))
              → (tip_page size old sequence ≡ tip_page size old k)
              ⊎ Has (tips_below size old k) (tip_page size old sequence)
          at (inl e) more = inl (ap (tip_page size old) e)
          at (inr ne) more = inr (more (omega (arith, less, ne)))

  tip_stays : (sequence : ℕ) → sequence ≤ last_sequence size old
      → new (tip_page size old sequence) ≡ old (tip_page size old sequence)
  tip_stays sequence below = stays (tip_page size old sequence) (of_tip sequence below)

  before_same : (k : ℕ) → k ≤ last_sequence size old
      → tip_before new (header_of old).last_tip.0 k ≡ tip_before old (header_of old).last_tip.0 k
  before_same zero below = refl
  before_same (suc k) below =
      let so : last_sequence size old - (last_sequence size old - k) ≡ k = omega (arith, below) in
      let at_k : new (tip_before old (header_of old).last_tip.0 k)
      ≡ old (tip_before old (header_of old).last_tip.0 k) =
      subst (λ (j : ℕ). new (tip_before old (header_of old).last_tip.0 j)
      ≡ old (tip_before old (header_of old).last_tip.0 j)) so
      (tip_stays (last_sequence size old - k) (omega (arith, below))) in
      ap (λ (page : ℕ). prev_in (new page)) (before_same k (omega (arith, below))) ∙ ap prev_in at_k

  pub tip_same : (sequence : ℕ) → sequence ≤ last_sequence size old
      → tip_page size new sequence ≡ tip_page size old sequence
  tip_same sequence below =
      ap (λ (page : ℕ). tip_before new page (last_sequence size new - sequence)) draws.tip
      ∙ (ap (λ (last : ℕ). tip_before new (header_of old).last_tip.0 (last - sequence)) draws.room
      ∙ before_same (last_sequence size old - sequence) (omega (arith, below)))

  pub tip_content : (sequence : ℕ) → sequence ≤ last_sequence size old
      → new (tip_page size new sequence) ≡ old (tip_page size old sequence)
  tip_content sequence below = ap new (tip_same sequence below) ∙ tip_stays sequence below

  tips_same : tips_of size new ≡ tips_of size old
  tips_same = ap (λ (n : ℕ). tips_below size new (n + 1)) draws.room
      ∙ below (last_sequence size old + 1) (omega arith)
    where
      below : (n : ℕ) → n ≤ last_sequence size old + 1 → tips_below size new n ≡ tips_below size old n
      below zero within = refl
      below (suc n) within =
          ap (λ (page : ℕ). page ∷ tips_below size new n) (tip_same n (omega (arith, within)))
          ∙ ap (λ (pages : List ℕ). tip_page size old n ∷ pages) (below n (omega (arith, within)))

  laid_trees : KeepsTrees old new size layout
  laid_trees = trees state old new layout r sound used_on (λ m is seven. stays m is)

  in_stand : (m : ℕ) → Has (flat_map pages_of (stands_of layout)) m → new m ≡ old m
  in_stand m is = stays m (has_front (tips_of size old ++ flat_map pages_of (stands_of layout))
      layout.sequences m (has_back (tips_of size old) (flat_map pages_of (stands_of layout)) m is))

  abbrev f : Facts
  f = facts_by state old layout

  abbrev g : Facts
  g = facts_by state new layout

  -- the new oldest active transaction is not above one that counts as in limbo
  pub draw_sound : HasNoOldLimbo state new → PassesNoDead state old new
      → IsSoundBy form size state new layout r
  draw_sound none_old passes = record {
    header = record {
      lawful_size = sound.header.lawful_size;
      whole = λ m. whole m (cases_eq m 0);
      database = draws.database;
      fields = draws.fields;
      used = used_on 0 sound.header.used;
    };
    transactions = record { each = each; undrawn = undrawn };
    inventory = inventory;
    catalog = sound.catalog ∙ ap catalog_table (sym draws.catalog);
    tables = stands_still form.in_primary size old new used_on (stands_of layout) in_stand
        laid_trees.trees sound.tables;
    sequences = no_sequences layout.sequences sound.sequences;
    names = same_names size f g r r layout.catalog.table (map (λ stand. stand.table) layout.tables)
        (λ chosen. record { tables = λ p. refl; rows = λ p of. refl }) sound.names;
    once = subst (λ (tips : List ℕ). IsOnce (tips ++ flat_map pages_of (stands_of layout)
        ++ layout.sequences)) (sym tips_same) sound.once;
    records = records_grow form.coding f g (λ x. slot_cell (cell_of (new x.page.0) x.slot)) r (record {
      tables = λ n. refl;
      next = draws.next;
      oldest = λ t dead above. not_passed state old new passes t dead above;
      state = λ t. refl;
    }) (records_on_same_cells form.coding f (λ x. slot_cell (cell_of (old x.page.0) x.slot))
        (λ x. slot_cell (cell_of (new x.page.0) x.slot)) r
        (λ p table of. ap (λ (page : List ℕ). slot_cell (cell_of page p.slot))
        (in_stand p.page.0 (page_there (stands_of layout) p.page.0 table of))) sound.records);
    limbo = none_old;
    own_tables = own_tables_stay f g r r layout.catalog.table (names_stay f g r r layout.catalog.table
        (record {
          shows = λ p row shows. record { of_table = shows.of_table; row_shown = shows.row_shown };
          limbo = λ p e has. record {
            of_table = has.of_table;
            older = has.older;
            newest = has.newest;
            limbo = has.limbo;
          };
          dead = λ t is. is;
        })) sound.own_tables;
    indexed = record {
      committed = λ p table row shows. laid_trees.found table p row shows.of_table
          (sound.indexed.committed p table row (record {
            of_table = shows.of_table;
            row_shown = shows.row_shown;
          }));
      limbo = λ p table e has alive. laid_trees.found table p e.row has.of_table
          (sound.indexed.limbo p table e (record {
            of_table = has.of_table;
            older = has.older;
            newest = has.newest;
            limbo = has.limbo;
          }) alive);
    };
  }
    where
      whole : (m : ℕ) → (m ≡ 0) ⊎ (m ≢ 0) → length (new m) ≡ size
      whole m (inl e) = ap (λ (k : ℕ). length (new k)) e ∙ draws.len
      whole m (inr ne) = ap length (draws.others m ne) ∙ sound.header.whole m

      each : HasTips size new
      each sequence below =
          let within : sequence ≤ last_sequence size old =
          subst (λ (m : ℕ). sequence ≤ m) draws.room below in
          subst (λ (n : ℕ). IsAsWanted size new n (tip_checks (new n) n sequence))
          (sym (tip_same sequence within))
          (wanted_kept size old new (tip_page size old sequence)
          (tip_checks (old (tip_page size old sequence)) (tip_page size old sequence) sequence)
          (tip_checks (new (tip_page size old sequence)) (tip_page size old sequence) sequence)
          (λ is. used_same (tip_page size old sequence) ∙ is)
          (ap (λ (page : List ℕ). tip_checks page (tip_page size old sequence) sequence)
          (tip_stays sequence within)) (sound.transactions.each sequence within))

      undrawn : HasNoneUndrawn size new
      undrawn t past on =
          let last_is : t / places size ≡ last_sequence size old = on ∙ draws.room in
          let within : t / places size ≤ last_sequence size old = omega (arith, last_is) in
          subst (λ (page : List ℕ). IsUndrawn (state_in page (t % places size)))
          (sym (tip_content (t / places size) within))
          (sound.transactions.undrawn t (let less = draws.next in omega (arith, less, past)) last_is)

      inventory : HasInventory size new
      inventory k below = at (sound.inventory k below)
        where
          at : HasRegion size old (inventory_page size k) k → HasRegion size new (inventory_page size k) k
          at (inl empty) = inl (region_stays k ∙ empty)
          at (inr wanted) = inr (wanted_kept size old new (inventory_page size k)
              (pip_checks (old (inventory_page size k)) (inventory_page size k) k)
              (pip_checks (new (inventory_page size k)) (inventory_page size k) k)
              (λ is. used_same (inventory_page size k) ∙ is)
              (ap (λ (page : List ℕ). pip_checks page (inventory_page size k) k) (region_stays k)) wanted)

      no_sequences : (ns : List ℕ) → EachPage (λ m. form.sequence_page (old m) m) ns
          → EachPage (λ m. form.sequence_page (new m) m) ns
      no_sequences [] each_ = tt
      no_sequences (m ∷ ms) each_ = absurd (none (old m) m each_.0)

-- ---- what is held, under facts that differ in their numbers alone

module _ (state : ℕ → TxState) (old new : Pages) (layout : Layout) (r : Reading) where
  limbo_on : (one other : Pages) (p : RecId) (table : Table) (e : Entry)
      → HasLimbo (facts_by state one layout) r p table e
      → HasLimbo (facts_by state other layout) r p table e
  limbo_on one other p table e has = record {
    of_table = has.of_table;
    older = has.older;
    newest = has.newest;
    limbo = has.limbo;
  }

  pub changes_on : (changes : Changes) → AreChanges (facts_by state old layout) r changes
      → AreChanges (facts_by state new layout) r changes
  changes_on changes are = record {
    there = λ p table e has. are.there p table e (limbo_on new old p table e has);
    whole = λ t name key change is. at t name key change (are.whole t name key change is);
  }
    where
      at : (t : ℕ) (name : List ℕ) (key : Value) (change : Change)
          → IsChangedAt (facts_by state old layout) r t name key change
          → IsChangedAt (facts_by state new layout) r t name key change
      at t name key change it = record {
        place = it.place;
        table = it.table;
        version = it.version;
        limbo = limbo_on old new it.place it.table it.version it.limbo;
        its_own = it.its_own;
        named = it.named;
        keyed = it.keyed;
        told = it.told;
      }

-- ---- the overlays

-- an image that has the page as the pool, and then as the pool has it
draws_laid : (size : ℕ) (pool changed image laid_ : Pages) → DrawsNumber size pool changed
    → image 0 ≡ pool 0 → laid_ 0 ≡ changed 0 → ((m : ℕ) → m ≢ 0 → laid_ m ≡ image m)
    → DrawsNumber size image laid_
draws_laid size pool changed image laid_ draws was is others = record {
  others = others;
  next = rw (was, is) draws.next;
  room = rw (was, is) draws.room;
  tip = rw (was, is) draws.tip;
  catalog = rw (was, is) draws.catalog;
  len = rw is draws.len;
  database = rw is draws.database;
  fields = rw is draws.fields;
}

module _ (form : Form) (size : ℕ) (o : Opening) (h : Entries) (state : ℕ → TxState)
    (pool changed image : Pages) (none : HasNoSequences form) (trees : TreesStay form size)
    (draws : DrawsNumber size pool changed) (none_old : HasNoOldLimbo state changed)
    (passes : PassesNoDead state pool changed) (kept : IsKept form size o h state pool image) where
  pool_after : IsSoundBy form size state changed kept.of_pool kept.in_pool
  pool_after = draw_sound form size state pool changed kept.of_pool kept.in_pool none trees
      kept.pool_sound draws none_old passes

  last_within : last_sequence size image ≤ last_sequence size pool
  last_within = div_grows (next_of image - 1) (next_of pool - 1) (places size)
      (let next = kept.behind.next in omega arith)

  tips_pool : (sequence : ℕ) → sequence ≤ last_sequence size image
      → (tip_page size image sequence ≡ tip_page size changed sequence)
      × (image (tip_page size image sequence) ≡ changed (tip_page size changed sequence))
  tips_pool sequence below =
      let within : sequence ≤ last_sequence size pool = omega (arith, below, last_within) in (
        (kept.behind.tips sequence below).0 ∙ sym (tip_same form size state pool changed kept.of_pool
            kept.in_pool none trees kept.pool_sound draws sequence within),
        (kept.behind.tips sequence below).1 ∙ sym (tip_content form size state pool changed kept.of_pool
            kept.in_pool none trees kept.pool_sound draws sequence within),
      )

  used_pool : (m : ℕ) → is_used size image m ≡ true → is_used size changed m ≡ true
  used_pool m is = used_same form size state pool changed kept.of_pool kept.in_pool none trees
      kept.pool_sound draws m ∙ kept.behind.used m is

  -- a pointer page is not the header
  no_header : (m : ℕ) → Has (pointers_of (stands_of kept.layout)) m → m ≢ 0
  no_header m is e =
      let four : byte (image m) 0 ≡ 4 = pointers_four form.in_primary size image (stands_of kept.layout)
      kept.sound.tables m is in
      let one : byte (image 0) 0 ≡ 1 = kind_of (image 0) 0 1 0 0 _ kept.sound.header.fields in
      let same : byte (image m) 0 ≡ byte (image 0) 0 = ap (λ (k : ℕ). byte (image k) 0) e in
      omega (arith, four, one, same)

  -- nor is a page of an index
  trees_pool : (last : Pages) → StandsBehind changed last (stands_of kept.of_pool) (stands_of kept.layout)
  trees_pool last = behind_stays pool changed image last form.in_primary size (stands_of kept.of_pool)
      (stands_of kept.layout) kept.pool_sound.tables (λ m is seven. draws.others m (λ e.
      let one : byte (pool 0) 0 ≡ 1 = kind_of (pool 0) 0 1 0 0 _ kept.pool_sound.header.fields in
      let same : byte (pool m) 0 ≡ byte (pool 0) 0 = ap (λ (k : ℕ). byte (pool k) 0) e in
      omega (arith, seven, one, same))) kept.behind.trees

  draw_out : IsKept form size o h state changed image
  draw_out = record {
    of_pool = kept.of_pool;
    in_pool = kept.in_pool;
    layout = kept.layout;
    reading = kept.reading;
    sound = kept.sound;
    pool_sound = pool_after;
    behind = record {
      next = let now = draws.next in let was = kept.behind.next in omega arith;
      used = used_pool;
      stands = kept.behind.stands;
      chained = λ m is some_. kept.behind.chained m is some_ ∙ sym (draws.others m (no_header m is));
      tips = tips_pool;
      trees = trees_pool image;
    };
    fronts = record { state = λ t. refl; fronts = kept.fronts.fronts };
    rows = kept.rows;
    held = kept.held;
    rows_are = kept.rows_are;
    changes = kept.changes;
    changed = kept.changed;
    changes_are = kept.changes_are;
  }

  draw_in : (laid_ : Pages) → image 0 ≡ pool 0 → laid_ 0 ≡ changed 0 → DrawsNumber size image laid_
      → IsKept form size o h state changed laid_
  draw_in laid_ was is also = record {
    of_pool = kept.of_pool;
    in_pool = kept.in_pool;
    layout = kept.layout;
    reading = kept.reading;
    sound = draw_sound form size state image laid_ kept.layout kept.reading none trees kept.sound also
        (subst (λ (page : List ℕ). (t : ℕ) → t < (header_in page).oat.0 → state t ≢ Limbo) (sym is) none_old)
        (passes_alike state pool changed image laid_ was is passes);
    pool_sound = pool_after;
    behind = record {
      next = subst (λ (page : List ℕ). (header_in page).next.0 ≤ next_of changed) (sym is) (omega arith);
      used = λ m used. used_pool m (sym (used_same form size state image laid_ kept.layout kept.reading
          none trees kept.sound also m) ∙ used);
      stands = kept.behind.stands;
      chained = λ m is some_. also.others m (no_header m is) ∙ (kept.behind.chained m is
          (subst (λ (page : List ℕ). next_in page ≢ 0) (also.others m (no_header m is)) some_)
          ∙ sym (draws.others m (no_header m is)));
      tips = λ sequence below. tips sequence (subst (λ (m : ℕ). sequence ≤ m) also.room below);
      trees = trees_pool laid_;
    };
    fronts = record { state = λ t. refl; fronts = kept.fronts.fronts };
    rows = kept.rows;
    held = same_held (facts_by state image kept.layout) (facts_by state laid_ kept.layout)
        (committed_in (facts_by state image kept.layout)) (committed_in (facts_by state laid_ kept.layout))
        kept.reading kept.reading kept.rows (record { tables = λ q. refl; rows = λ q. refl }) kept.held;
    rows_are = kept.rows_are;
    changes = kept.changes;
    changed = changes_on state image laid_ kept.layout kept.reading kept.changes kept.changed;
    changes_are = kept.changes_are;
  }
    where
      tips : (sequence : ℕ) → sequence ≤ last_sequence size image
          → (tip_page size laid_ sequence ≡ tip_page size changed sequence)
          × (laid_ (tip_page size laid_ sequence) ≡ changed (tip_page size changed sequence))
      tips sequence below = (
        tip_same form size state image laid_ kept.layout kept.reading none trees kept.sound also sequence
            below ∙ (tips_pool sequence below).0,
        tip_content form size state image laid_ kept.layout kept.reading none trees kept.sound also
            sequence below ∙ (tips_pool sequence below).1,
      )

-- a number is drawn: the header is changed, by nobody's work, and every overlay is kept
abbrev pub DrawKeeps : Form → Type 0
DrawKeeps form = (size : ℕ) (o : Opening) (h : Entries) (state : ℕ → TxState)
    (old new : Cache) (gone : PageSet) (batch : ℕ → Option (List ℕ)) (orders : Orders)
    (needs now : ℕ → PageSet)
    → ChangesCache old new gone batch orders
    → KeepsNeeds old gone needs now
    → DrawsNumber size old.pool new.pool
    -- nobody who is active or in limbo lies below the oldest active one
    → ((t : ℕ) → t < oldest_active_of new.pool → (state t ≢ Active) × (state t ≢ Limbo))
    -- the oldest interesting one has passed over committed ones alone
    → ((t : ℕ) → oldest_of old.pool ≤ t → t < oldest_of new.pool → state t ≡ Committed)
    → EveryOverlay (keeping form size o h) state old needs
    → EveryOverlay (keeping form size o h) state new now

pub draw_every : (form : Form) → HasNoSequences form → DrawKeeps form
draw_every form none size o h state old new gone batch orders needs now changes left draws oldest passed every =
    change_keeps_always (keeping form size o h) (keeping form size o h) state old new gone batch orders
    needs now changes left part every
  where
    trees : TreesStay form size
    trees = trees_stay form size

    none_left : (chosen : ℕ → Bool) → HasNoOldLimbo (left_state chosen state) new.pool
    none_left chosen t below is = by (state t) (chosen t) (oldest t below) is
      where
        by : (s : TxState) (c : Bool) → (s ≢ Active) × (s ≢ Limbo) → left_by c s ≢ Limbo
        by Active c not_ is = not_.0 refl
        by Limbo c not_ is = not_.1 refl
        by Dead true not_ is = absurd cc
        by Dead false not_ is = absurd cc
        by Committed true not_ is = absurd cc
        by Committed false not_ is = absurd cc

    no_dead : (chosen : ℕ → Bool) → PassesNoDead (left_state chosen state) old.pool new.pool
    no_dead chosen t above below is = by (state t) (chosen t) (passed t above below) is
      where
        by : (s : TxState) (c : Bool) → s ≡ Committed → left_by c s ≢ Dead
        by Committed true same is = absurd cc
        by Committed false same is = absurd cc
        by Active c same is = absurd cc
        by Limbo c same is = absurd cc
        by Dead c same is = absurd cc

    part : KeepsLaidAlways (keeping form size o h) (keeping form size o h) state old.pool new.pool batch orders
    part chosen set_ image lays of_pool kept = by (set_ 0) refl
      where
        still : (m : ℕ) → m ≢ 0 → laid batch set_ image m ≡ image m
        still m ne = by_bit (set_ m) refl
          where
            by_bit : (c : Bool) → set_ m ≡ c → laid batch set_ image m ≡ image m
            by_bit true in_set = lays.is m in_set ∙ (draws.others m ne ∙ sym (lays.was m in_set))
            by_bit false out = rw out refl

        by : (c : Bool) → set_ 0 ≡ c
            → IsKept form size o h (left_state chosen state) new.pool (laid batch set_ image)
        by true in_set = draw_in form size o h (left_state chosen state) old.pool new.pool image none trees
            draws (none_left chosen) (no_dead chosen) kept (laid batch set_ image) (lays.was 0 in_set)
            (lays.is 0 in_set)
            (draws_laid size old.pool new.pool image (laid batch set_ image) draws (lays.was 0 in_set)
            (lays.is 0 in_set) still)
        by false out = subst (IsKept form size o h (left_state chosen state) new.pool) (sym same)
            (draw_out form size o h (left_state chosen state) old.pool new.pool image none trees draws
            (none_left chosen) (no_dead chosen) kept)
          where
            same : laid batch set_ image ≡ image
            same = fun_ext (λ m. at m (cases_eq m 0))
              where
                at : (m : ℕ) → (m ≡ 0) ⊎ (m ≢ 0) → laid batch set_ image m ≡ image m
                at m (inl e) = let off : set_ m ≡ false = ap set_ e ∙ out in rw off refl
                at m (inr ne) = still m ne
