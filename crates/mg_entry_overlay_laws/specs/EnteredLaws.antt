-- What a batch of entries leaves of an image that is sound: it is sound with other trees, and shows what it showed.
use Rattle.std.proofs.Common.{◌≡◌, ◌≢◌, ◌⊎◌, inl, inr, refl, sym, ap, ◌∙◌, subst, arith, ◌<◌, ◌≤◌, ◌+◌, ◌-◌, ◌/◌, ◌%◌, ℕ, Bool, true, false, List, [], ◌∷◌, ◌++◌, Option, None}
use Rattle.std.proofs.lemmas.Bool.{cases_eq, cases_lt, eq-eqb, false≢true, le-ltb, lt-ltb, ne_eqb}
use Rattle.std.specs.List.{flat_map}
use Rattle.mg_base.specs.Fields.{byte}
use Rattle.mg_base.specs.declared.transaction.TxState.{TxState}
use Rattle.mg_base.specs.declared.transaction.TxState.TheVariants.{Committed, Dead}
use Rattle.mg_careful.specs.Precedence.{Orders}
use Rattle.mg_overlay_laws.specs.Overlays.{LaysBatch}
use Rattle.mg_header.specs.declared.header.Header.{Header}
use Rattle.mg_pip.specs.PipPage.{pip_checks}
use Rattle.mg_slots.specs.DataPage.{cell_of}
use Rattle.mg_tip.specs.TipPage.{places, state_in}
use Rattle.mg_image.specs.Form.{Form, Pages}
use Rattle.mg_image.specs.Inventory.{bits_state, header_of, inventory_page, is_used, last_sequence, next_of, settled, state_at, tip_page}
use Rattle.mg_image.specs.Reached.{linked_pages, tips_of}
use Rattle.mg_image.specs.Records.{Reading, slot_cell}
use Rattle.mg_image.specs.Sound.{HasRegion, IsSoundBy}
use Rattle.mg_image.specs.Tables.{Has, Layout, Stand, pages_of, stands_of}
use Rattle.mg_image_overlay_laws.specs.pages.BehindTrees.{behind_by_itself}
use Rattle.mg_image_overlay_laws.specs.pages.DataPages.{all_passes, byte_blank, kind_of}
use Rattle.mg_image_overlay_laws.specs.pages.DataKept.{KeepsBits}
use Rattle.mg_image_overlay_laws.specs.pages.Grow.{tip_is}
use Rattle.mg_image_overlay_laws.specs.pages.Growth.{has_back, has_front}
use Rattle.mg_image_overlay_laws.specs.pages.Kinds.{HasNoSequences, IsLinked, linked_is, pointers_of}
use Rattle.mg_image_overlay_laws.specs.kept.KeptImages.{AreFrontStands, all_trees}
use Rattle.mg_image_overlay_laws.specs.kept.Rest.{div_grows}
use Rattle.mg_image_overlay_laws.specs.kept.StartLaws.{stands_self}
use Rattle.mg_entry_overlay_laws.specs.Entered.{ShowsEntries}
use Rattle.mg_entry_overlay_laws.specs.EntryBatches.{EntriesOf, IsEntryPlace, LaysEntries}
use Rattle.mg_entry_overlay_laws.specs.Laws.{EntriesShow}
use Rattle.mg_entry_overlay_laws.specs.Retreed.{LeavesTables, held_pages, retreed}
use Rattle.mg_entry_overlay_laws.specs.RetreedLaws.{fronts_retreed, owner_same, retree_self, tables_same}
use Rattle.mg_entry_overlay_laws.specs.StandsOnceLaws.{held_in, held_kind}
use Rattle.mg_entry_overlay_laws.specs.TreesKeptLaws.{StandsKept, stands_kept}
use Rattle.mg_entry_overlay_laws.specs.TreesSoundLaws.{facts_same, header_as, page_there, retreed_sound, tip_kept}
use Rattle.mg_entry_overlay_laws.specs.WholeOnceLaws.{sequences_still, tips_three, whole_once}

-- where the pages of transactions stay, so do their bits
bits_from : (size : ℕ) (old new : Pages) → next_of new ≡ next_of old
    → ((sequence : ℕ) → sequence ≤ last_sequence size old
    → new (tip_page size new sequence) ≡ old (tip_page size old sequence)) → KeepsBits size old new
unfolding state_at
bits_from size old new next tips = record { bits = λ t. by t (cases_eq t 0); next = next }
  where
    same_bits : (t : ℕ) → t < next_of old → bits_state size new t ≡ bits_state size old t
    same_bits t below =
        let within : t / places size ≤ last_sequence size old =
        div_grows t (next_of old - 1) (places size) (omega (arith, below)) in
        ap (λ (page : List ℕ). state_in page (t % places size)) (tips (t / places size) within)

    some : (t : ℕ) → t ≢ 0 → (t < next_of old) ⊎ (next_of old ≤ t)
        → state_at size new t ≡ state_at size old t
    some t some_ (inl below) =
        let also : t < next_of new = omega (arith, below, next) in
        let here : state_at size new t ≡ settled (bits_state size new t) =
        rw (ne_eqb t 0 some_, lt-ltb t (next_of new) also) refl in
        let there : state_at size old t ≡ settled (bits_state size old t) =
        rw (ne_eqb t 0 some_, lt-ltb t (next_of old) below) refl in
        here ∙ (ap settled (same_bits t below) ∙ sym there)
    some t some_ (inr past) =
        let also : next_of new ≤ t = omega (arith, past, next) in
        let here : state_at size new t ≡ Dead = rw (ne_eqb t 0 some_, le-ltb t (next_of new) also) refl in
        let there : state_at size old t ≡ Dead = rw (ne_eqb t 0 some_, le-ltb t (next_of old) past) refl in
        here ∙ sym there

    by : (t : ℕ) → (t ≡ 0) ⊎ (t ≢ 0) → state_at size new t ≡ state_at size old t
    by t (inl zero) =
        let here : state_at size new t ≡ Committed = rw (eq-eqb t 0 zero) refl in
        let there : state_at size old t ≡ Committed = rw (eq-eqb t 0 zero) refl in here ∙ sym there
    by t (inr some_) = some t some_ (cases_lt t (next_of old))

-- a batch of which nothing is laid yet
none_laid : (pool changed : Pages) (batch : ℕ → Option (List ℕ)) (orders : Orders)
    → LaysBatch pool changed batch orders (λ p. false) pool
none_laid pool changed batch orders = record {
  was = λ p is. absurd (false≢true is);
  is = λ p is. absurd (false≢true is);
  first = λ a b before is. absurd (false≢true is);
  together = λ a b before some is. absurd (false≢true is);
}

module _ (form : Form) (none : HasNoSequences form) (size : ℕ) (state : ℕ → TxState) (pool changed : Pages)
    (batch : ℕ → Option (List ℕ)) (orders : Orders) (is : LaysEntries form size state pool changed batch orders)
    (a : Layout) (r : Reading) (sound : IsSoundBy form size state pool a r) where
  -- a page that is linked is none of those that change
  pub no_place : (m : ℕ) → is_used size pool m ≡ true → 3 ≤ byte (pool m) 0 → byte (pool m) 0 ≢ 7 → IsEntryPlace size pool m → ⊥
  no_place m used least other (inl (region, same, below)) = at (sound.inventory region below)
    where
      at : HasRegion size pool (inventory_page size region) region → ⊥
      at (inl empty) =
          let zero_ : byte (pool m) 0 ≡ 0 = ap (λ (k : ℕ). byte (pool k) 0) same
          ∙ (ap (λ (page : List ℕ). byte page 0) empty ∙ byte_blank size) in
          omega (arith, zero_, least)
      at (inr wanted) =
          let two : byte (pool m) 0 ≡ 2 = ap (λ (k : ℕ). byte (pool k) 0) same
          ∙ kind_of (pool (inventory_page size region)) (inventory_page size region) 2 0 region []
          (all_passes (pip_checks (pool (inventory_page size region)) (inventory_page size region) region) wanted.fields) in
          omega (arith, two, least)
  no_place m used least other (inr (inl seven)) = other seven
  no_place m used least other (inr (inr unused)) = let both_ : true ≡ false = sym used ∙ unused in absurd cc

  -- of the pool
  pub pool_same : (m : ℕ) → (IsEntryPlace size pool m → ⊥) → changed m ≡ pool m
  pool_same m off = at (is.only m)
    where
      at : (changed m ≡ pool m) ⊎ IsEntryPlace size pool m → changed m ≡ pool m
      at (inl same) = same
      at (inr place) = absurd (off place)

  -- ---- the tables stay

  -- page 0 is the header's
  pub header_off : (pages : Pages) → byte (pages 0) 0 ≡ 1 → byte (pool 0) 0 ≡ byte (pages 0) 0 → is_used size pool 0 ≡ true
      → IsEntryPlace size pool 0 → ⊥
  header_off pages one same used (inl (region, zero_, below)) = omega (arith, zero_)
  header_off pages one same used (inr (inl seven)) = omega (arith, one, same, seven)
  header_off pages one same used (inr (inr unused)) = let both_ : true ≡ false = sym used ∙ unused in absurd cc

  pub header_kind : (pages : Pages) (b : Layout) (q : Reading) → IsSoundBy form size state pages b q → byte (pages 0) 0 ≡ 1
  header_kind pages b q sound_ = kind_of (pages 0) 0 1 0 0 _ sound_.header.fields

  pub pool_leaves : LeavesTables size pool changed a
  pool_leaves = record {
    header_page = pool_same 0 (header_off pool (header_kind pool a r sound) refl
        sound.header.used);
    tips = λ m tip. pool_same m (no_place m (linked m (tip_linked m tip)).used (linked m (tip_linked m tip)).kind
        (λ seven. let three = tips_three size pool sound.transactions (last_sequence size pool + 1)
        (omega arith) m tip in omega (arith, three, seven)));
    tables = λ m held. pool_same m (no_place m (linked m (held_linked m held)).used (linked m (held_linked m held)).kind
        (λ seven. by m seven (held_kind form.in_primary size pool (stands_of a) sound.tables m held)));
    used = is.used;
    lengths = is.lengths;
    inventory = is.inventory;
  }
    where
      linked : (m : ℕ) → Has (linked_pages size pool a) m → IsLinked size pool (pointers_of (stands_of a)) m
      linked = linked_is form size state pool a r none sound

      tip_linked : (m : ℕ) → Has (tips_of size pool) m → Has (linked_pages size pool a) m
      tip_linked m tip = has_front (tips_of size pool ++ flat_map pages_of (stands_of a)) a.sequences m
          (has_front (tips_of size pool) (flat_map pages_of (stands_of a)) m tip)

      held_linked : (m : ℕ) → Has (held_pages (stands_of a)) m → Has (linked_pages size pool a) m
      held_linked m held = has_front (tips_of size pool ++ flat_map pages_of (stands_of a)) a.sequences m
          (has_back (tips_of size pool) (flat_map pages_of (stands_of a)) m (held_in (stands_of a) m held))

      by : (m : ℕ) → byte (pool m) 0 ≡ 7 → (byte (pool m) 0 ≡ 4) ⊎ (byte (pool m) 0 ≡ 5) → ⊥
      by m seven (inl four) = omega (arith, seven, four)
      by m seven (inr five) = omega (arith, seven, five)

  -- ---- the transactions stay

  header_same : header_of changed ≡ header_of pool
  header_same = header_as form size state pool changed a r sound pool_leaves

  tip_place : (sequence : ℕ) → sequence ≤ last_sequence size pool
      → tip_page size changed sequence ≡ tip_page size pool sequence
  tip_place = tip_is size pool changed pool_leaves.header_page pool_leaves.used pool_leaves.lengths sound.header
      sound.transactions (tip_kept form size state pool changed a r sound pool_leaves)

  tip_content : (sequence : ℕ) → sequence ≤ last_sequence size pool
      → changed (tip_page size changed sequence) ≡ pool (tip_page size pool sequence)
  tip_content sequence below = ap changed (tip_place sequence below)
      ∙ tip_kept form size state pool changed a r sound pool_leaves sequence below

  -- ---- the trees

  its : EntriesOf size batch orders pool changed a
  its = is.trees a r sound

  after : StandsKept size batch orders pool changed (λ p. false) pool (none_laid pool changed batch orders) (stands_of a)
      (stands_of a) (its.first ∷ its.ends)
  after = stands_kept size batch orders pool changed (λ p. false) pool (none_laid pool changed batch orders)
      form.in_primary (stands_of a) (stands_of a) (its.first ∷ its.ends) (stands_self (stands_of a)) sound.tables
      sound.tables (behind_by_itself pool (stands_of a)) its.rows

  pub entries_shown : ShowsEntries form size state pool changed a r
  entries_shown = record {
    layout = retreed a its.first its.ends;
    sound = retreed_sound form size state pool changed a r sound pool_leaves its.first its.ends after.of_pool
        after.found_pool (whole_once form none size state pool changed a r sound pool_leaves its.first its.ends
        after.of_pool its.once) (sequences_still form none size state pool changed a r sound pool_leaves its.first
        its.ends after.of_pool its.once a.sequences sound.sequences);
    leaves = pool_leaves;
    header = header_same;
    tips = λ sequence below. (tip_place sequence below, tip_content sequence below);
    bits = bits_from size pool changed (ap (λ (h : Header). h.next.0) header_same) tip_content;
    owners = owner_same (stands_of a) (its.first ∷ its.ends);
    grown = record {
      catalog = refl;
      names = tables_same a.tables its.ends;
      stays = λ n table of. owner_same (stands_of a) (its.first ∷ its.ends) n ∙ of;
      new = λ n table of. inl (sym (owner_same (stands_of a) (its.first ∷ its.ends) n) ∙ of);
    };
    fronts = subst (λ (ss : List Stand). AreFrontStands ss (stands_of (retreed a its.first its.ends)))
        (retree_self (stands_of a)) (fronts_retreed (stands_of a) (stands_of a) (all_trees (stands_of a))
        (its.first ∷ its.ends) (stands_self (stands_of a)));
    cells = λ p table of. ap (λ (page : List ℕ). slot_cell (cell_of page p.slot)) (pool_leaves.tables p.page.0
        (page_there form size state pool changed a r sound pool_leaves (stands_of a) p.page.0 table of));
    facts = facts_same form size state pool changed a r sound pool_leaves its.first its.ends;
    roots = after.roots_pool;
    found = after.found_pool;
  }

pub entries_show : (form : Form) → HasNoSequences form → EntriesShow form
entries_show form none size state pool changed batch orders is a r sound =
    entries_shown form none size state pool changed batch orders is a r sound
