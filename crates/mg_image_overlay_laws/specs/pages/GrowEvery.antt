-- A table gets a data page, from the pool's change to every overlay.
use Rattle.mg_image_overlay_laws.specs.pages.Trees.{trees_stay}
use Rattle.std.proofs.lemmas.Bool.{cases_eq}
use Rattle.mg_pointer.specs.PointerPage.{next_in}
use Rattle.mg_base.specs.Fields.{byte}
use Rattle.mg_base.specs.declared.transaction.TxState.{TxState}
use Rattle.mg_careful.specs.CarefulWrite.{Cache, PageSet}
use Rattle.mg_careful.specs.Precedence.{Orders}
use Rattle.mg_image.specs.Form.{Form, Pages}
use Rattle.mg_image.specs.Inventory.{is_used}
use Rattle.mg_image.specs.KeptPageLaws.{entries_kept}
use Rattle.mg_image.specs.Reached.{linked_pages, tips_of}
use Rattle.mg_image.specs.Records.{Reading}
use Rattle.mg_image.specs.Sound.{HasTablePages, IsSoundBy}
use Rattle.mg_image.specs.Tables.{Has, IsOnce, Layout, PointerChain, Stand, entries_in, has, pages_of, stands_of, tree_pages}
use Rattle.mg_image_overlay_laws.specs.pages.BehindTrees.{behind_stays}
use Rattle.mg_image_overlay_laws.specs.pages.DataSound.{KeepsTrees}
use Rattle.mg_image_overlay_laws.specs.pages.Grow.{GrowsImage}
use Rattle.mg_image_overlay_laws.specs.pages.Growth.{grown, has_back, has_either, has_front}
use Rattle.mg_image_overlay_laws.specs.pages.Kinds.{HasNoSequences, chain_last, chain_next, pointer_linked, pointers_of, stands_linked}
use Rattle.mg_image_overlay_laws.specs.kept.Rest.{TreesStay}
use Rattle.mg_image_overlay_laws.specs.kept.KeptImages.{AreFrontStands, IsFrontOf, IsFrontStand, IsKept, StandsBehind, keeping}
use Rattle.mg_image_overlay_laws.specs.pages.Reach.{has_it, has_so, once_apart, once_back, once_front, pointers_front}
use Rattle.mg_model.specs.History.{Entries}
use Rattle.mg_model.specs.declared.opening.Opening.{Opening}
use Rattle.mg_model.specs.declared.table.Table.{Table}
use Rattle.mg_overlay_laws.specs.BatchLaws.{change_keeps_always}
use Rattle.mg_overlay_laws.specs.Overlays.{ChangesCache, EveryOverlay, KeepsLaidAlways, KeepsNeeds, laid, left_state}
use Rattle.mg_image_overlay_laws.specs.pages.GrowKept.{KeptAs, front_last, fronts_joined, grow_in, grow_out, kept_as, kept_of}
use Rattle.mg_image_overlay_laws.specs.pages.GrowPages.{GrowsPages, HasGrowth, IsBetween, grows_image, grows_unreached, linked, node_stays, off_first, off_last, once_mid, stays, trees_mid, used_still, used_within}
use Rattle.std.proofs.Common.{Bool, List, None, Option, [], ap, false, inl, inr, length, refl, subst, sym, true, ℕ, ◌++◌, ◌∙◌, ◌∷◌, ◌≡◌, ◌≢◌, ◌⊎◌}
use Rattle.std.specs.List.{flat_map}

-- ---- lists

-- Stands that are behind others have one at the place of one of those.
pub record SplitsAt (stands before after : List Stand) (stand : Stand) : Type 0 where
  pub first : List Stand
  pub mid : Stand
  pub last : List Stand
  pub is_ : stands ≡ first ++ (mid ∷ last)
  pub first_behind : AreFrontStands first before
  pub mid_behind : IsFrontStand mid stand
  pub last_behind : AreFrontStands last after

pub split : (stands before after : List Stand) (stand : Stand)
    → AreFrontStands stands (before ++ (stand ∷ after)) → SplitsAt stands before after stand
split [] [] after stand fronts = absurd fronts
split [] (b ∷ before) after stand fronts = absurd fronts
split (a ∷ stands) [] after stand fronts = record {
  first = [];
  mid = a;
  last = stands;
  is_ = refl;
  first_behind = tt;
  mid_behind = fronts.0;
  last_behind = fronts.1;
}
split (a ∷ stands) (b ∷ before) after stand fronts = at (split stands before after stand fronts.1)
  where
    at : SplitsAt stands before after stand → SplitsAt (a ∷ stands) (b ∷ before) after stand
    at it = record {
      first = a ∷ it.first;
      mid = it.mid;
      last = it.last;
      is_ = ap (λ (ss : List Stand). a ∷ ss) it.is_;
      first_behind = (fronts.0, it.first_behind);
      mid_behind = it.mid_behind;
      last_behind = it.last_behind;
    }

-- a front that has the last number is the whole list
pub front_whole : (ms front : List ℕ) (q : ℕ) → IsFrontOf ms (front ++ (q ∷ [])) → (Has front q → ⊥)
    → Has ms q → ms ≡ front ++ (q ∷ [])
front_whole [] front q fronts off is = absurd is
front_whole (m ∷ []) [] q fronts off is = ap (λ (k : ℕ). k ∷ []) fronts.0
front_whole (m ∷ k ∷ ks) [] q fronts off is = absurd fronts.1
front_whole (m ∷ ms) (f ∷ front) q fronts off (inl e) = absurd (off (inl (e ∙ fronts.0)))
front_whole (m ∷ ms) (f ∷ front) q fronts off (inr more) =
    ap (λ (k : ℕ). k ∷ ms) fronts.0 ∙ ap (λ (ks : List ℕ). f ∷ ks)
    (front_whole ms front q fronts.1 (λ is. off (inr is)) more)

pub pointers_there : (before after : List Stand) (stand : Stand) (m : ℕ) → Has stand.pointers m
    → Has (pointers_of (before ++ (stand ∷ after))) m
pointers_there [] after stand m is = has_front stand.pointers (pointers_of after) m is
pointers_there (other ∷ before) after stand m is = has_back other.pointers
    (pointers_of (before ++ (stand ∷ after))) m (pointers_there before after stand m is)

pub pointers_mid : (before after : List Stand) (stand : Stand) (m : ℕ)
    → Has (pointers_of (before ++ (stand ∷ after))) m
    → Has (pointers_of before) m ⊎ (Has stand.pointers m ⊎ Has (pointers_of after) m)
pointers_mid [] after stand m is = inr (has_either stand.pointers (pointers_of after) m is)
pointers_mid (other ∷ before) after stand m is =
    at (has_either other.pointers (pointers_of (before ++ (stand ∷ after))) m is)
    (pointers_mid before after stand m)
  where
    at : Has other.pointers m ⊎ Has (pointers_of (before ++ (stand ∷ after))) m
        → (Has (pointers_of (before ++ (stand ∷ after))) m
        → Has (pointers_of before) m ⊎ (Has stand.pointers m ⊎ Has (pointers_of after) m))
        → Has (pointers_of (other ∷ before)) m ⊎ (Has stand.pointers m ⊎ Has (pointers_of after) m)
    at (inl here) more = inl (has_front other.pointers (pointers_of before) m here)
    at (inr there) more = by (more there)
      where
        by : Has (pointers_of before) m ⊎ (Has stand.pointers m ⊎ Has (pointers_of after) m)
            → Has (pointers_of (other ∷ before)) m ⊎ (Has stand.pointers m ⊎ Has (pointers_of after) m)
        by (inl first) = inl (has_back other.pointers (pointers_of before) m first)
        by (inr rest) = inr rest

-- ---- one image

-- The table of the batch in a layout of the pool: its last pointer page is q, so many data pages are
-- there.
pub record GrowsTable (layout : Layout) (owner place q : ℕ) : Type 0 where
  pub before : List Stand
  pub stand : Stand
  pub after : List Stand
  pub front : List ℕ
  pub is_ : layout.tables ≡ before ++ (stand ∷ after)
  pub pointers : stand.pointers ≡ front ++ (q ∷ [])
  pub place_is : length stand.data_pages ≡ place
  pub owner_is : stand.table.pointer.0 ≡ owner

module _ (form : Form) (size : ℕ) (o : Opening) (h : Entries) (state : ℕ → TxState)
    (pool changed : Pages) (owner place i q n : ℕ) (none : HasNoSequences form)
    (trees : TreesStay form size)
    (pages : GrowsPages form.in_primary size pool changed owner place i q n)
    (catalog : Stand) (sequences : List ℕ) (before after : List Stand) (stand : Stand)
    (front : List ℕ) (pointers : stand.pointers ≡ front ++ (q ∷ []))
    (place_is : length stand.data_pages ≡ place) (owner_is : stand.table.pointer.0 ≡ owner) where
  abbrev of_pool : Layout
  of_pool = record { catalog = catalog; tables = before ++ (stand ∷ after); sequences = sequences }

  between_pool : IsBetween pool changed pool changed i q n
  between_pool = record {
    others = pages.others;
    inventory = inl (refl, refl);
    page = inl refl;
    pointer = inl (refl, refl);
  }

  module _ (in_pool : Reading) (pool_sound : IsSoundBy form size state pool of_pool in_pool) where
    pool_used : (m : ℕ) → is_used size pool m ≡ true → is_used size changed m ≡ true
    pool_used = used_still form size state pool changed pool changed owner place i q n none pages catalog
        before after stand sequences in_pool pool_sound (λ m is. is) between_pool

    pool_grows : GrowsImage form size pool changed (catalog ∷ before) after stand front q n sequences
    pool_grows = grows_image form size state pool changed pool changed owner place i q n none pages
        catalog before after stand sequences in_pool pool_sound (λ m is. is) between_pool (record {
          was_bits = refl;
          bits_are = refl;
          page_is = refl;
          was_pointer = refl;
          pointer_is = refl;
        }) front pointers place_is owner_is
        (trees state pool changed of_pool in_pool pool_sound pool_used
        (node_stays form size state pool changed pool changed owner place i q n none pages catalog before
        after stand sequences in_pool pool_sound (λ m is. is) between_pool))

    -- a linked page of the pool but q stays, and q names no next page
    pool_stays : (m : ℕ) → Has (linked_pages size pool of_pool) m → m ≢ q → changed m ≡ pool m
    pool_stays m is off = stays form size state pool changed pool changed owner place i q n none pages
        catalog before after stand sequences in_pool pool_sound (λ m is. is) between_pool m is off

    q_last : next_in (pool q) ≡ 0
    q_last = chain_last (λ k. next_in (pool k)) stand.table.pointer.0 front q
        (subst (PointerChain pool stand.table.pointer.0) pointers
        (trees_mid (HasTablePages form.in_primary size pool) (catalog ∷ before) after stand
        pool_sound.tables).1.chain)

  -- an overlay with its layout, in parts
  module _ (image laid : Pages) (catalog' : Stand) (sequences' : List ℕ) (before' after' : List Stand)
      (stand' : Stand)
      (kept : KeptAs form size o h state pool image of_pool (record {
        catalog = catalog';
        tables = before' ++ (stand' ∷ after');
        sequences = sequences';
      }))
      (first : IsFrontStand catalog' catalog) (fronts_before : AreFrontStands before' before)
      (mid : IsFrontStand stand' stand) (fronts_after : AreFrontStands after' after)
      (between : IsBetween pool changed image laid i q n) where
    abbrev of_image : Layout
    of_image = record { catalog = catalog'; tables = before' ++ (stand' ∷ after'); sequences = sequences' }

    stands_once : IsOnce (flat_map pages_of (stands_of of_pool))
    stands_once = once_back (tips_of size pool) (flat_map pages_of (stands_of of_pool))
        (once_front (tips_of size pool ++ flat_map pages_of (stands_of of_pool)) sequences
        kept.pool_sound.once)

    mid_once : IsOnce (pages_of stand)
    mid_once = once_mid (catalog ∷ before) after stand stands_once

    q_off : Has front q → ⊥
    q_off there = once_apart front (q ∷ []) q (subst IsOnce pointers
        (once_front stand.pointers stand.data_pages
        (once_front (stand.pointers ++ stand.data_pages) (tree_pages stand.trees) mid_once)))
        there (inl refl)

    q_there : Has (pages_of stand) q
    q_there = has_front (stand.pointers ++ stand.data_pages) (tree_pages stand.trees) q
        (has_front stand.pointers stand.data_pages q
        (subst (λ (ns : List ℕ). Has ns q) (sym pointers) (has_back front (q ∷ []) q (inl refl))))

    laid_used : (m : ℕ) → is_used size image m ≡ true → is_used size laid m ≡ true
    laid_used = used_still form size state pool changed image laid owner place i q n none pages catalog'
        before' after' stand' sequences' kept.reading kept.sound kept.behind.used between

    within : (m : ℕ) → is_used size laid m ≡ true → is_used size changed m ≡ true
    within = used_within form size state pool changed image laid owner place i q n none pages catalog'
        before' after' stand' sequences' kept.reading kept.sound kept.behind.used between

    laid_trees : KeepsTrees image laid size of_image
    laid_trees = trees state image laid of_image kept.reading kept.sound laid_used
        (node_stays form size state pool changed image laid owner place i q n none pages catalog' before'
        after' stand' sequences' kept.reading kept.sound kept.behind.used between)

    -- a pointer page that names a next one is not q, and stays
    chained : (m : ℕ) → Has (pointers_of (stands_of of_image)) m → next_in (laid m) ≢ 0
        → laid m ≡ changed m
    chained m is some_ = at (cases_eq m q) between.pointer
      where
        in_image : Has (linked_pages size image of_image) m
        in_image = pointer_linked size image of_image m is

        in_pool : Has (linked_pages size pool of_pool) m
        in_pool = stands_linked size pool of_pool m (pointers_front (stands_of of_image)
            (stands_of of_pool) kept.behind.stands m is)

        as_in_pool : laid m ≡ image m → image m ≡ pool m
        as_in_pool same = kept.behind.chained m is
            (subst (λ (page : List ℕ). next_in page ≢ 0) same some_)

        at : (m ≡ q) ⊎ (m ≢ q) → ((image q ≡ pool q) × (laid q ≡ changed q)) ⊎ (laid q ≡ image q)
            → laid m ≡ changed m
        at (inl e) (inl (was, now)) = ap laid e ∙ (now ∙ ap changed (sym e))
        at (inl e) (inr same) =
            let laid_same : laid m ≡ image m = ap laid e ∙ (same ∙ ap image (sym e)) in
            let page : laid m ≡ pool m = laid_same ∙ as_in_pool laid_same in
            absurd (some_ (ap next_in page ∙ (ap (λ (k : ℕ). next_in (pool k)) e
            ∙ q_last kept.in_pool kept.pool_sound)))
        at (inr ne) pointer =
            let laid_same : laid m ≡ image m = stays form size state pool changed image laid owner place i
            q n none pages catalog' before' after' stand' sequences' kept.reading kept.sound
            kept.behind.used between m in_image ne in
            laid_same ∙ (as_in_pool laid_same
            ∙ sym (pool_stays kept.in_pool kept.pool_sound m in_pool ne))

    -- no page of an index of the pool is changed
    trees_behind : StandsBehind changed laid (stands_of of_pool) (stands_of of_image)
    trees_behind = behind_stays pool changed image laid form.in_primary size (stands_of of_pool)
        (stands_of of_image) kept.pool_sound.tables
        (λ m is. node_stays form size state pool changed pool changed owner place i q n none pages catalog
        before after stand sequences kept.in_pool kept.pool_sound (λ k used. used) between_pool m
        (stands_linked size pool of_pool m is)) kept.behind.trees

    -- q is reached in no other stand
    off_others : byte (image q) 0 ≡ 4 → (Has stand'.pointers q → ⊥)
        → Has (linked_pages size image of_image) q → ⊥
    off_others four off is = at (pointers_mid (catalog' ∷ before') after' stand' q
        ((linked form size state pool changed image laid owner place i q n none pages catalog' before'
        after' stand' sequences' kept.reading kept.sound kept.behind.used q is).pointer four))
      where
        at : Has (pointers_of (catalog' ∷ before')) q ⊎ (Has stand'.pointers q ⊎ Has (pointers_of after') q)
            → ⊥
        at (inl there) = off_first (catalog ∷ before) after stand q q stands_once q_there
            (pointers_front (catalog' ∷ before') (catalog ∷ before) (first, fronts_before) q there) refl
        at (inr (inl there)) = off there
        at (inr (inr there)) = off_last (catalog ∷ before) after stand q q stands_once q_there
            (pointers_front after' after fronts_after q there) refl

    unreached : (laid q ≡ image q) ⊎ (Has (linked_pages size image of_image) q → ⊥)
        → IsKept form size o h state changed laid
    unreached apart = kept_of form size o h state changed laid
        (record { catalog = catalog; tables = before ++ (grown stand n ∷ after); sequences = sequences })
        of_image
        (grow_out form size o h state pool changed image laid catalog sequences before after stand front q
        n (pool_grows kept.in_pool kept.pool_sound) of_image kept
        (grows_unreached form size state pool changed image laid owner place i q n none pages catalog'
        before' after' stand' sequences' kept.reading kept.sound kept.behind.used between apart laid_trees)
        within (
          first,
          fronts_joined before' after' before after stand' (grown stand n) fronts_before (record {
            table = mid.table;
            pointers = mid.pointers;
            data_pages = front_last stand'.data_pages stand.data_pages n mid.data_pages;
          }) fronts_after,
        ) chained trees_behind)

    reached : HasGrowth pool changed image laid i q n → Has stand'.pointers q
        → IsKept form size o h state changed laid
    reached growth there = kept_of form size o h state changed laid
        (record { catalog = catalog; tables = before ++ (grown stand n ∷ after); sequences = sequences })
        (record {
          catalog = catalog';
          tables = before' ++ (grown stand' n ∷ after');
          sequences = sequences';
        })
        (grow_in form size o h state pool changed image laid catalog sequences before after stand front q
        n (pool_grows kept.in_pool kept.pool_sound) catalog' sequences' before' after' stand'
        (grows_image form size state pool changed image laid owner place i q n none pages catalog' before'
        after' stand' sequences' kept.reading kept.sound kept.behind.used between growth front pointers'
        (ap length data_same ∙ place_is)
        (ap (λ (t : Table). t.pointer.0) mid.table ∙ owner_is) laid_trees)
        kept within first fronts_before mid fronts_after data_same chained trees_behind)
      where
        pointers' : stand'.pointers ≡ front ++ (q ∷ [])
        pointers' = front_whole stand'.pointers front q
            (subst (IsFrontOf stand'.pointers) pointers mid.pointers) q_off there

        its : HasTablePages form.in_primary size image stand'
        its = (trees_mid (HasTablePages form.in_primary size image) (catalog' ∷ before') after' stand'
            kept.sound.tables).1

        alike : (m : ℕ) → Has front m → image m ≡ pool m
        alike m is = kept.behind.chained m
            (pointers_there (catalog' ∷ before') after' stand' m
            (subst (λ (ns : List ℕ). Has ns m) (sym pointers') (has_front front (q ∷ []) m is)))
            (chain_next (λ k. next_in (image k)) stand'.table.pointer.0 front q m
            (subst (PointerChain image stand'.table.pointer.0) pointers' its.chain) is)

        same : (m : ℕ) → Has (front ++ (q ∷ [])) m → image m ≡ pool m
        same m is = at (has_either front (q ∷ []) m is)
          where
            at : Has front m ⊎ Has (q ∷ []) m → image m ≡ pool m
            at (inl here) = alike m here
            at (inr (inl e)) = ap image e ∙ (growth.was_pointer ∙ ap pool (sym e))
            at (inr (inr none_)) = absurd none_

        its_pool : HasTablePages form.in_primary size pool stand
        its_pool = (trees_mid (HasTablePages form.in_primary size pool) (catalog ∷ before) after stand
            kept.pool_sound.tables).1

        data_same : stand'.data_pages ≡ stand.data_pages
        data_same = its.entries ∙ (ap (entries_in image) pointers'
            ∙ (entries_kept pool image (front ++ (q ∷ [])) same
            ∙ (sym (ap (entries_in pool) pointers) ∙ sym its_pool.entries)))

    -- with the pages of a set, whose orders put the bit and the page before the entry
    pub grow_one : (laid q ≡ image q) ⊎ HasGrowth pool changed image laid i q n
        → IsKept form size o h state changed laid
    grow_one (inl same) = unreached (inl same)
    grow_one (inr growth) = at (has stand'.pointers q) refl
      where
        at : (c : Bool) → has stand'.pointers q ≡ c → IsKept form size o h state changed laid
        at true there = reached growth (has_it stand'.pointers q there)
        at false out = unreached (inr (off_others
            (ap (λ (page : List ℕ). byte page 0) growth.was_pointer ∙ pages.was_pointer) off))
          where
            off : Has stand'.pointers q → ⊥
            off there = let both : true ≡ false = sym (has_so stand'.pointers q there) ∙ out in absurd cc

-- What is known of an image with the pages of a set, before the entry's page comes and afterwards.
pub record LaysGrowth (pool changed image laid : Pages) (set_ : PageSet) (i q n : ℕ)
    : Type 0 where
  pub was : (m : ℕ) → set_ m ≡ true → image m ≡ pool m
  pub is : (m : ℕ) → set_ m ≡ true → laid m ≡ changed m
  pub out : (m : ℕ) → set_ m ≡ false → laid m ≡ image m
  -- with the entry come the bit and the page
  pub bits : set_ q ≡ true → (image i ≡ pool i) × (laid i ≡ changed i)
  pub page : set_ q ≡ true → laid n ≡ changed n

pub grow_step : (form : Form) (size : ℕ) (o : Opening) (h : Entries) (state : ℕ → TxState)
    (pool changed image laid : Pages) (set_ : PageSet) (owner place i q n : ℕ)
    → HasNoSequences form → TreesStay form size
    → GrowsPages form.in_primary size pool changed owner place i q n
    → LaysGrowth pool changed image laid set_ i q n
    → ((layout : Layout) (r : Reading) → IsSoundBy form size state pool layout r
    → GrowsTable layout owner place q)
    → IsKept form size o h state pool image → IsKept form size o h state changed laid
grow_step form size o h state pool changed image laid set_ owner place i q n none trees pages lays
    finds kept = by (finds kept.of_pool kept.in_pool kept.pool_sound)
  where
    by : GrowsTable kept.of_pool owner place q → IsKept form size o h state changed laid
    by table = at (split kept.layout.tables table.before table.after table.stand
        (subst (AreFrontStands kept.layout.tables) table.is_ kept.behind.stands.1))
      where
        -- what the batch leaves of a page stays
        still : (m : ℕ) → changed m ≡ pool m → laid m ≡ image m
        still m same = by_bit (set_ m) refl
          where
            by_bit : (c : Bool) → set_ m ≡ c → laid m ≡ image m
            by_bit true in_set = lays.is m in_set ∙ (same ∙ sym (lays.was m in_set))
            by_bit false out = lays.out m out

        between : IsBetween pool changed image laid i q n
        between = record {
          others = λ m off_i off_n off_q. still m (pages.others m off_i off_n off_q);
          inventory = both i (set_ i) refl;
          page = one (set_ n) refl;
          pointer = both q (set_ q) refl;
        }
          where
            both : (m : ℕ) (c : Bool) → set_ m ≡ c
                → ((image m ≡ pool m) × (laid m ≡ changed m)) ⊎ (laid m ≡ image m)
            both m true in_set = inl (lays.was m in_set, lays.is m in_set)
            both m false out = inr (lays.out m out)

            one : (c : Bool) → set_ n ≡ c → (laid n ≡ changed n) ⊎ (laid n ≡ image n)
            one true in_set = inl (lays.is n in_set)
            one false out = inr (lays.out n out)

        at : SplitsAt kept.layout.tables table.before table.after table.stand
            → IsKept form size o h state changed laid
        at it = grow_one form size o h state pool changed owner place i q n none trees pages
            kept.of_pool.catalog kept.of_pool.sequences table.before table.after table.stand table.front
            table.pointers table.place_is table.owner_is image laid kept.layout.catalog
            kept.layout.sequences it.first it.last it.mid parts kept.behind.stands.0 it.first_behind
            it.mid_behind it.last_behind between (by_bit (set_ q) refl)
          where
            parts : KeptAs form size o h state pool image
                (record {
                  catalog = kept.of_pool.catalog;
                  tables = table.before ++ (table.stand ∷ table.after);
                  sequences = kept.of_pool.sequences;
                })
                (record {
                  catalog = kept.layout.catalog;
                  tables = it.first ++ (it.mid ∷ it.last);
                  sequences = kept.layout.sequences;
                })
            parts = subst (λ (ss : List Stand). KeptAs form size o h state pool image (record {
              catalog = kept.of_pool.catalog;
              tables = table.before ++ (table.stand ∷ table.after);
              sequences = kept.of_pool.sequences;
            }) (record kept.layout { tables = ss })) it.is_
                (subst (λ (ss : List Stand). KeptAs form size o h state pool image
                (record kept.of_pool { tables = ss }) kept.layout) table.is_
                (kept_as form size o h state pool image kept))

            by_bit : (c : Bool) → set_ q ≡ c → (laid q ≡ image q)
                ⊎ HasGrowth pool changed image laid i q n
            by_bit false out = inl (lays.out q out)
            by_bit true in_set = inr (record {
              was_bits = (lays.bits in_set).0;
              bits_are = (lays.bits in_set).1;
              page_is = lays.page in_set;
              was_pointer = lays.was q in_set;
              pointer_is = lays.is q in_set;
            })

-- ---- the batch

-- The orders of growth: the bit and the page come before the entry.
pub record OrdersGrowth (orders : Orders) (batch : ℕ → Option (List ℕ)) (i q n : ℕ) : Type 0 where
  pub bits : orders i q ≡ true
  pub page : orders n q ≡ true
  pub in_batch : batch i ≢ None

-- a table gets a data page, by nobody's work: every overlay is kept
abbrev pub GrowKeeps : Form → Type 0
GrowKeeps form = (size : ℕ) (o : Opening) (h : Entries) (state : ℕ → TxState)
    (old new : Cache) (gone : PageSet) (batch : ℕ → Option (List ℕ)) (orders : Orders)
    (needs now : ℕ → PageSet) (owner place i q n : ℕ)
    → ChangesCache old new gone batch orders
    → KeepsNeeds old gone needs now
    → GrowsPages form.in_primary size old.pool new.pool owner place i q n
    → OrdersGrowth orders batch i q n
    → ((chosen : ℕ → Bool) (layout : Layout) (r : Reading)
    → IsSoundBy form size (left_state chosen state) old.pool layout r
    → GrowsTable layout owner place q)
    → EveryOverlay (keeping form size o h) state old needs
    → EveryOverlay (keeping form size o h) state new now

pub grow_every : (form : Form) → HasNoSequences form → GrowKeeps form
grow_every form none size o h state old new gone batch orders needs now owner place i q n changes left
    pages ordered finds every =
    change_keeps_always (keeping form size o h) (keeping form size o h) state old new gone batch orders
    needs now changes left part every
  where
    trees : TreesStay form size
    trees = trees_stay form size

    part : KeepsLaidAlways (keeping form size o h) (keeping form size o h) state old.pool new.pool batch orders
    part chosen set_ image lays of_pool kept = grow_step form size o h (left_state chosen state) old.pool new.pool
        image (laid batch set_ image) set_ owner place i q n none trees pages (record {
          was = lays.was;
          is = lays.is;
          out = out;
          bits = λ in_set. (
            lays.was i (lays.together i q ordered.bits ordered.in_batch in_set),
            lays.first i q ordered.bits in_set,
          );
          page = λ in_set. lays.first n q ordered.page in_set;
        }) (finds chosen) kept
      where
        out : (m : ℕ) → set_ m ≡ false → laid batch set_ image m ≡ image m
        out m off = rw off refl
