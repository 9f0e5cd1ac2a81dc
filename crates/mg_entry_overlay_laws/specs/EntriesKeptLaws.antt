-- A batch that lays index entries keeps what an overlay has to be: sound, behind the pool with each of its trees, and
-- it holds the history that it held.
use Rattle.std.proofs.Common.{◌≡◌, ◌≢◌, ◌⊎◌, inl, inr, refl, sym, ap, ◌∙◌, subst, arith, ◌<◌, ◌≤◌, ◌+◌, ◌-◌, ℕ, zero, suc, Bool, true, false, List, [], ◌∷◌, ◌++◌, length, Option, None}
use Rattle.std.specs.Prelude.{if◌then◌else◌, unwrap_or}
use Rattle.std.proofs.lemmas.Nat.{div-mul-add}
use Rattle.std.specs.List.{flat_map}
use Rattle.mg_base.specs.Fields.{byte}
use Rattle.mg_base.specs.declared.transaction.TxState.{TxState}
use Rattle.mg_careful.specs.CarefulWrite.{PageSet}
use Rattle.mg_careful.specs.Precedence.{Orders}
use Rattle.mg_header.specs.declared.header.Header.{Header}
use Rattle.mg_model.specs.History.{Entries}
use Rattle.mg_model.specs.declared.opening.Opening.{Opening}
use Rattle.mg_overlay_laws.specs.Overlays.{LaysBatch, laid, left_state}
use Rattle.mg_pip.specs.PipPage.{bits, pip_checks}
use Rattle.mg_pointer.specs.PointerPage.{next_in}
use Rattle.mg_tip.specs.TipPage.{places, tip_checks}
use Rattle.mg_image.specs.Form.{Form, Pages}
use Rattle.mg_image.specs.Held.{AreChanges, IsHeld}
use Rattle.mg_image.specs.Indexes.{AreTrees, EachPage}
use Rattle.mg_image.specs.Inventory.{header_of, inventory_page, is_used, last_sequence, next_of, tip_page}
use Rattle.mg_image.specs.Reached.{linked_pages, tips_below, tips_of}
use Rattle.mg_image.specs.RecordRules.{Facts, committed_in}
use Rattle.mg_image.specs.Records.{Reading}
use Rattle.mg_image.specs.Sound.{HasInventory, HasRegion, HasTransactions, IsSoundBy, facts_by}
use Rattle.mg_image.specs.Tables.{EachStand, Has, IsOnce, Layout, Stand, pages_of, stands_of}
use Rattle.mg_image_overlay_laws.specs.pages.DataPages.{all_passes, byte_blank, kind_of}
use Rattle.mg_image_overlay_laws.specs.records.Fronts.{HasFronts}
use Rattle.mg_image_overlay_laws.specs.pages.Grow.{last_is, tip_is}
use Rattle.mg_image_overlay_laws.specs.pages.Growth.{has_back, has_front}
use Rattle.mg_image_overlay_laws.specs.pages.Kinds.{HasNoSequences, IsLinked, linked_is, pointers_of}
use Rattle.mg_image_overlay_laws.specs.kept.KeptImages.{AreFrontStands, IsKept, StandsBehind}
use Rattle.mg_image_overlay_laws.specs.pages.Reach.{once_apart, once_back, once_front}
use Rattle.mg_image_overlay_laws.specs.kept.Rest.{div_grows}
use Rattle.mg_tree_overlay_laws.specs.BatchLaws.{used_as}
use Rattle.mg_tree_overlay_laws.specs.TreeBatches.{inventory_of}
use Rattle.mg_entry_overlay_laws.specs.EnteredLaws as entered
use Rattle.mg_entry_overlay_laws.specs.WholeOnceLaws.{sequences_still, tips_three, whole_once}
use Rattle.mg_entry_overlay_laws.specs.EntryBatches.{EntriesOf, IsEntryPlace, LaysEntries}
use Rattle.mg_entry_overlay_laws.specs.Laws.{EntriesKeep}
use Rattle.mg_entry_overlay_laws.specs.Retreed.{LeavesTables, Trees, held_pages, retree, retreed, trees_pages}
use Rattle.mg_entry_overlay_laws.specs.RetreedLaws.{as_retreed, first_of, front_held, fronts_retreed, held_same, pointer_held, pointers_same, rest_of}
use Rattle.mg_tree_overlay_laws.specs.TreeOnceLaws.{once_both}
use Rattle.mg_entry_overlay_laws.specs.StandsOnceLaws.{both_once, held_in, held_kind, held_once, image_once, pages_either, trees_kind}
use Rattle.mg_entry_overlay_laws.specs.TreesKeptLaws.{StandsKept, stands_kept}
use Rattle.mg_entry_overlay_laws.specs.TreesSoundLaws.{facts_same, header_as, retreed_sound, tip_kept}

-- each page of the page inventory has its own bit
abbrev HasOwnBits : ℕ → Type 0
HasOwnBits size = (region : ℕ) → inventory_of size (inventory_page size region) ≡ inventory_page size region

own_bits : (size : ℕ) → 1 < bits size → HasOwnBits size
own_bits size most region = ap (inventory_page size) (div-mul-add region (bits size) 1 most)

-- ---- what the batch leaves

module _ (form : Form) (none : HasNoSequences form) (size : ℕ) (own : HasOwnBits size) (o : Opening) (h : Entries)
    (state : ℕ → TxState) (pool changed : Pages) (batch : ℕ → Option (List ℕ)) (orders : Orders)
    (is : LaysEntries form size state pool changed batch orders) (set_ : PageSet) (image : Pages)
    (lays : LaysBatch pool changed batch orders set_ image) (kept : IsKept form size o h state pool image) where
  abbrev last : Pages
  last = laid batch set_ image

  -- a page that is linked is none of those that change
  no_place : (m : ℕ) → is_used size pool m ≡ true → 3 ≤ byte (pool m) 0 → byte (pool m) 0 ≢ 7 → IsEntryPlace size pool m → ⊥
  no_place = entered.no_place form none size state pool changed batch orders is kept.of_pool kept.in_pool kept.pool_sound

  -- a page of the image has its new content, or its old one
  each_page : (m : ℕ) → ((last m ≡ changed m) × (image m ≡ pool m)) ⊎ (last m ≡ image m)
  each_page m = at (set_ m) refl
    where
      at : (b : Bool) → set_ m ≡ b → ((last m ≡ changed m) × (image m ≡ pool m)) ⊎ (last m ≡ image m)
      at true in_set = inl (lays.is m in_set, lays.was m in_set)
      at false out = inr (ap (λ (b : Bool). unwrap_or (if b then batch m else None) (image m)) out)

  -- of the image
  image_same : (m : ℕ) → (image m ≡ pool m → IsEntryPlace size pool m → ⊥) → last m ≡ image m
  image_same m off = at (each_page m)
    where
      by : last m ≡ changed m → image m ≡ pool m → (changed m ≡ pool m) ⊎ IsEntryPlace size pool m → last m ≡ image m
      by now_ was_ (inl same) = now_ ∙ (same ∙ sym was_)
      by now_ was_ (inr place) = absurd (off was_ place)

      at : ((last m ≡ changed m) × (image m ≡ pool m)) ⊎ (last m ≡ image m) → last m ≡ image m
      at (inl (now_, was_)) = by now_ was_ (is.only m)
      at (inr same) = same

  last_used : (m : ℕ) → is_used size image m ≡ true → is_used size last m ≡ true
  last_used m used = at (each_page (inventory_of size m))
    where
      at : ((last (inventory_of size m) ≡ changed (inventory_of size m)) × (image (inventory_of size m) ≡ pool (inventory_of size m)))
          ⊎ (last (inventory_of size m) ≡ image (inventory_of size m)) → is_used size last m ≡ true
      at (inl (now_, was_)) = used_as size changed last m now_
          ∙ is.used m (sym (used_as size pool image m was_) ∙ used)
      at (inr same) = used_as size image last m same ∙ used

  within : (m : ℕ) → is_used size last m ≡ true → is_used size changed m ≡ true
  within m used = at (each_page (inventory_of size m))
    where
      at : ((last (inventory_of size m) ≡ changed (inventory_of size m)) × (image (inventory_of size m) ≡ pool (inventory_of size m)))
          ⊎ (last (inventory_of size m) ≡ image (inventory_of size m)) → is_used size changed m ≡ true
      at (inl (now_, was_)) = sym (used_as size changed last m now_) ∙ used
      at (inr same) = is.used m (kept.behind.used m (sym (used_as size image last m same) ∙ used))

  last_lengths : (m : ℕ) → length (last m) ≡ length (image m)
  last_lengths m = at (each_page m)
    where
      at : ((last m ≡ changed m) × (image m ≡ pool m)) ⊎ (last m ≡ image m) → length (last m) ≡ length (image m)
      at (inl (now_, was_)) = ap (λ (page : List ℕ). length page) now_
          ∙ (is.lengths m ∙ sym (ap (λ (page : List ℕ). length page) was_))
      at (inr same) = ap (λ (page : List ℕ). length page) same

  last_inventory : HasInventory size last
  last_inventory region below = at (each_page (inventory_page size region))
    where
      new_ : last (inventory_page size region) ≡ changed (inventory_page size region) → HasRegion size changed (inventory_page size region) region → HasRegion size last (inventory_page size region) region
      new_ same (inl empty) = inl (same ∙ empty)
      new_ same (inr wanted) = inr (record {
        below = wanted.below;
        used = used_as size changed last (inventory_page size region)
            (subst (λ (k : ℕ). last k ≡ changed k) (sym (own region)) same) ∙ wanted.used;
        fields = rw same wanted.fields;
      })

      old_ : last (inventory_page size region) ≡ image (inventory_page size region) → HasRegion size image (inventory_page size region) region → HasRegion size last (inventory_page size region) region
      old_ same (inl empty) = inl (same ∙ empty)
      old_ same (inr wanted) = inr (record {
        below = wanted.below;
        used = last_used (inventory_page size region) wanted.used;
        fields = rw same wanted.fields;
      })

      at : ((last (inventory_page size region) ≡ changed (inventory_page size region)) × (image (inventory_page size region) ≡ pool (inventory_page size region))) ⊎ (last (inventory_page size region) ≡ image (inventory_page size region)) → HasRegion size last (inventory_page size region) region
      at (inl (now_, was_)) = new_ now_ (is.inventory region below)
      at (inr same) = old_ same (kept.sound.inventory region below)

  -- ---- the tables stay

  header_off : (pages : Pages) → byte (pages 0) 0 ≡ 1 → byte (pool 0) 0 ≡ byte (pages 0) 0 → is_used size pool 0 ≡ true
      → IsEntryPlace size pool 0 → ⊥
  header_off = entered.header_off form none size state pool changed batch orders is kept.of_pool kept.in_pool
      kept.pool_sound

  header_kind : (pages : Pages) (a : Layout) (r : Reading) → IsSoundBy form size state pages a r → byte (pages 0) 0 ≡ 1
  header_kind = entered.header_kind form none size state pool changed batch orders is kept.of_pool kept.in_pool
      kept.pool_sound

  pool_leaves : LeavesTables size pool changed kept.of_pool
  pool_leaves = entered.pool_leaves form none size state pool changed batch orders is kept.of_pool kept.in_pool
      kept.pool_sound

  image_leaves : LeavesTables size image last kept.layout
  image_leaves = record {
    header_page = image_same 0 (λ same. header_off image (header_kind image kept.layout kept.reading kept.sound)
        (sym (ap (λ (page : List ℕ). byte page 0) same)) kept.pool_sound.header.used);
    tips = λ m tip. image_same m (λ same. off m same (tip_linked m tip) (λ seven.
        let three = tips_three size image kept.sound.transactions (last_sequence size image + 1) (omega arith) m tip in
        omega (arith, three, seven)));
    tables = λ m held. image_same m (λ same. off m same (held_linked m held) (λ seven.
        by m seven (held_kind form.in_primary size image (stands_of kept.layout) kept.sound.tables m held)));
    used = last_used;
    lengths = last_lengths;
    inventory = last_inventory;
  }
    where
      off : (m : ℕ) → image m ≡ pool m → Has (linked_pages size image kept.layout) m → byte (image m) 0 ≢ 7
          → IsEntryPlace size pool m → ⊥
      off m same has_ other =
          let linked = linked_is form size state image kept.layout kept.reading none kept.sound m has_ in
          no_place m (kept.behind.used m linked.used) (subst (λ (page : List ℕ). 3 ≤ byte page 0) same linked.kind)
          (subst (λ (page : List ℕ). byte page 0 ≢ 7) same other)

      tip_linked : (m : ℕ) → Has (tips_of size image) m → Has (linked_pages size image kept.layout) m
      tip_linked m tip = has_front (tips_of size image ++ flat_map pages_of (stands_of kept.layout)) kept.layout.sequences m
          (has_front (tips_of size image) (flat_map pages_of (stands_of kept.layout)) m tip)

      held_linked : (m : ℕ) → Has (held_pages (stands_of kept.layout)) m → Has (linked_pages size image kept.layout) m
      held_linked m held = has_front (tips_of size image ++ flat_map pages_of (stands_of kept.layout)) kept.layout.sequences m
          (has_back (tips_of size image) (flat_map pages_of (stands_of kept.layout)) m (held_in (stands_of kept.layout) m held))

      by : (m : ℕ) → byte (image m) 0 ≡ 7 → (byte (image m) 0 ≡ 4) ⊎ (byte (image m) 0 ≡ 5) → ⊥
      by m seven (inl four) = omega (arith, seven, four)
      by m seven (inr five) = omega (arith, seven, five)

  -- ---- the trees

  its : EntriesOf size batch orders pool changed kept.of_pool
  its = is.trees kept.of_pool kept.in_pool kept.pool_sound

  after : StandsKept size batch orders pool changed set_ image lays (stands_of kept.of_pool) (stands_of kept.layout)
      (its.first ∷ its.ends)
  after = stands_kept size batch orders pool changed set_ image lays form.in_primary (stands_of kept.of_pool)
      (stands_of kept.layout) (its.first ∷ its.ends) kept.behind.stands kept.pool_sound.tables kept.sound.tables
      kept.behind.trees its.rows

  abbrev of_pool_now : Layout
  of_pool_now = retreed kept.of_pool its.first its.ends

  abbrev layout_now : Layout
  layout_now = retreed kept.layout (first_of after.now) (rest_of after.now)

  stands_now : stands_of layout_now ≡ retree (stands_of kept.layout) after.now
  stands_now = as_retreed kept.layout after.now

  trees_now : EachStand (λ s. AreTrees size last s.table.pointer.0 s.table.indexes s.trees) (stands_of layout_now)
  trees_now = subst (λ (ss : List Stand). EachStand (λ s. AreTrees size last s.table.pointer.0 s.table.indexes s.trees) ss)
      (sym stands_now) after.are

  behind_now : StandsBehind changed last (stands_of of_pool_now) (stands_of layout_now)
  behind_now = subst (λ (ss : List Stand). StandsBehind changed last (stands_of of_pool_now) ss) (sym stands_now) after.behind

  pool_sound_now : IsSoundBy form size state changed of_pool_now kept.in_pool
  pool_sound_now = retreed_sound form size state pool changed kept.of_pool kept.in_pool kept.pool_sound pool_leaves
      its.first its.ends after.of_pool after.found_pool
      (whole_once form none size state pool changed kept.of_pool kept.in_pool kept.pool_sound pool_leaves its.first its.ends
      after.of_pool its.once)
      (sequences_still form none size state pool changed kept.of_pool kept.in_pool kept.pool_sound pool_leaves its.first
      its.ends after.of_pool its.once kept.of_pool.sequences kept.pool_sound.sequences)

  trees_once_now : IsOnce (trees_pages (stands_of layout_now))
  trees_once_now = image_once size changed last (stands_of of_pool_now) (stands_of layout_now) trees_now behind_now its.once

  sound_now : IsSoundBy form size state last layout_now kept.reading
  sound_now = retreed_sound form size state image last kept.layout kept.reading kept.sound image_leaves
      (first_of after.now) (rest_of after.now) trees_now after.found
      (whole_once form none size state image last kept.layout kept.reading kept.sound image_leaves (first_of after.now)
      (rest_of after.now) trees_now trees_once_now)
      (sequences_still form none size state image last kept.layout kept.reading kept.sound image_leaves
      (first_of after.now) (rest_of after.now) trees_now trees_once_now kept.layout.sequences kept.sound.sequences)

  -- ---- so it is kept

  image_header : header_of last ≡ header_of image
  image_header = header_as form size state image last kept.layout kept.reading kept.sound image_leaves

  pool_header : header_of changed ≡ header_of pool
  pool_header = header_as form size state pool changed kept.of_pool kept.in_pool kept.pool_sound pool_leaves

  image_facts : facts_by state last layout_now ≡ facts_by state image kept.layout
  image_facts = facts_same form size state image last kept.layout kept.reading kept.sound image_leaves
      (first_of after.now) (rest_of after.now)

  pool_facts : facts_by state changed of_pool_now ≡ facts_by state pool kept.of_pool
  pool_facts = facts_same form size state pool changed kept.of_pool kept.in_pool kept.pool_sound pool_leaves its.first its.ends

  module _ (old new : Pages) (a : Layout) (r : Reading) (sound : IsSoundBy form size state old a r)
      (leaves : LeavesTables size old new a) where
    tip_page_is : (sequence : ℕ) → sequence ≤ last_sequence size old → tip_page size new sequence ≡ tip_page size old sequence
    tip_page_is = tip_is size old new leaves.header_page leaves.used leaves.lengths sound.header sound.transactions
        (tip_kept form size state old new a r sound leaves)

    tip_content_is : (sequence : ℕ) → sequence ≤ last_sequence size old
        → new (tip_page size new sequence) ≡ old (tip_page size old sequence)
    tip_content_is sequence below = ap new (tip_page_is sequence below)
        ∙ tip_kept form size state old new a r sound leaves sequence below

    last_sequence_is : last_sequence size new ≡ last_sequence size old
    last_sequence_is = last_is size old new leaves.header_page leaves.used leaves.lengths sound.header sound.transactions
        (tip_kept form size state old new a r sound leaves)

  chained : (m : ℕ) → Has (pointers_of (stands_of layout_now)) m → next_in (last m) ≢ 0 → last m ≡ changed m
  chained m is_ some = stays ∙ (kept.behind.chained m was (subst (λ (page : List ℕ). next_in page ≢ 0) stays some)
      ∙ sym (pool_leaves.tables m (front_held (stands_of kept.layout) (stands_of kept.of_pool) kept.behind.stands m was)))
    where
      was : Has (pointers_of (stands_of kept.layout)) m
      was = subst (λ (ns : List ℕ). Has ns m) (ap pointers_of stands_now ∙ pointers_same (stands_of kept.layout) after.now) is_

      stays : last m ≡ image m
      stays = image_leaves.tables m (pointer_held (stands_of kept.layout) m was)

  last_within : last_sequence size image ≤ last_sequence size pool
  last_within = div_grows (next_of image - 1) (next_of pool - 1) (places size) (let next = kept.behind.next in omega arith)

  tips : (sequence : ℕ) → sequence ≤ last_sequence size image
      → (tip_page size last sequence ≡ tip_page size changed sequence)
      × (last (tip_page size last sequence) ≡ changed (tip_page size changed sequence))
  tips sequence below =
      let inside : sequence ≤ last_sequence size pool = omega (arith, below, last_within) in (
        tip_page_is image last kept.layout kept.reading kept.sound image_leaves sequence below
            ∙ ((kept.behind.tips sequence below).0
            ∙ sym (tip_page_is pool changed kept.of_pool kept.in_pool kept.pool_sound pool_leaves sequence inside)),
        tip_content_is image last kept.layout kept.reading kept.sound image_leaves sequence below
            ∙ ((kept.behind.tips sequence below).1
            ∙ sym (tip_content_is pool changed kept.of_pool kept.in_pool kept.pool_sound pool_leaves sequence inside)),
      )

  pub entries_kept : IsKept form size o h state changed (laid batch set_ image)
  entries_kept = record {
    of_pool = of_pool_now;
    in_pool = kept.in_pool;
    layout = layout_now;
    reading = kept.reading;
    sound = sound_now;
    pool_sound = pool_sound_now;
    behind = record {
      next = subst (λ (h : Header). h.next.0 ≤ next_of changed) (sym image_header)
          (subst (λ (h : Header). next_of image ≤ h.next.0) (sym pool_header) kept.behind.next);
      used = within;
      stands = subst (λ (ss : List Stand). AreFrontStands ss (stands_of of_pool_now)) (sym stands_now)
          (fronts_retreed (stands_of kept.layout) (stands_of kept.of_pool) after.now (its.first ∷ its.ends)
          kept.behind.stands);
      chained = chained;
      tips = λ sequence below. tips sequence (subst (λ (m : ℕ). sequence ≤ m)
          (last_sequence_is image last kept.layout kept.reading kept.sound image_leaves) below);
      trees = behind_now;
    };
    fronts = subst (λ (f : Facts). HasFronts f (facts_by state last layout_now) kept.in_pool kept.reading)
        (sym pool_facts) (subst (λ (g : Facts). HasFronts (facts_by state pool kept.of_pool) g
        kept.in_pool kept.reading) (sym image_facts) kept.fronts);
    rows = kept.rows;
    held = subst (λ (g : Facts). IsHeld g (committed_in g) kept.reading kept.rows) (sym image_facts) kept.held;
    rows_are = kept.rows_are;
    changes = kept.changes;
    changed = subst (λ (g : Facts). AreChanges g kept.reading kept.changes) (sym image_facts) kept.changed;
    changes_are = kept.changes_are;
  }

pub entries_keep : (form : Form) → HasNoSequences form → EntriesKeep form
entries_keep form none size o h state pool changed batch orders most each chosen set_ image lays pool_good good =
    entries_kept form none size (own_bits size most) o h (left_state chosen state) pool changed batch orders
    (each chosen) set_ image lays good
