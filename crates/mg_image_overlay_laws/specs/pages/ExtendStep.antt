-- The last pointer page of a table is changed so that the table has a page more, which was taken before:
-- in the pool, and in an overlay that has the pointer page, or has not.
use Rattle.std.proofs.Common.{◌≡◌, ◌≢◌, ◌⊎◌, inl, inr, ap, sym, subst, ◌∙◌, refl, arith, ℕ, Bool, true, false, List, [], ◌∷◌, ◌++◌, length, None}
use Rattle.std.proofs.lemmas.Bool.{cases_eq}
use Rattle.std.specs.List.{flat_map}
use Rattle.mg_base.specs.Fields.{byte}
use Rattle.mg_base.specs.declared.transaction.TxState.{TxState}
use Rattle.mg_model.specs.declared.opening.Opening.{Opening}
use Rattle.mg_model.specs.declared.table.Table.{Table}
use Rattle.mg_model.specs.History.{Entries}
use Rattle.mg_pointer.specs.PointerPage.{next_in}
use Rattle.mg_image.specs.Form.{Form, Pages}
use Rattle.mg_image.specs.Indexes.{AreTrees}
use Rattle.mg_image.specs.Inventory.{is_used}
use Rattle.mg_image.specs.KeptPageLaws.{entries_kept}
use Rattle.mg_image.specs.Reached.{linked_pages, tips_of}
use Rattle.mg_image.specs.Sound.{HasTablePages}
use Rattle.mg_image.specs.Tables.{EachStand, Has, IsOnce, Layout, PointerChain, Stand, entries_in, has, pages_of, stands_of, tree_pages}
use Rattle.mg_image_overlay_laws.specs.pages.BehindTrees.{behind_stays, trees_with}
use Rattle.mg_image_overlay_laws.specs.pages.Grow.{each_mid}
use Rattle.mg_image_overlay_laws.specs.pages.Growth.{has_back, has_either, has_front}
use Rattle.mg_image_overlay_laws.specs.pages.Kinds.{HasNoSequences, chain_last, chain_next, linked_is, pointers_of}
use Rattle.mg_image_overlay_laws.specs.kept.Rest.{TreesStay}
use Rattle.mg_image_overlay_laws.specs.kept.KeptImages.{AllBehind, AreFrontStands, IsFrontOf, IsFrontStand, IsKept, StandsBehind, all_trees}
use Rattle.mg_image_overlay_laws.specs.pages.Reach.{has_it, has_so, once_apart, once_back, once_front, pointers_front}
use Rattle.mg_overlay_laws.specs.Views.{LaysPage}
use Rattle.mg_image_overlay_laws.specs.pages.GrowEvery.{SplitsAt, front_whole, pointers_mid, pointers_there, split}
use Rattle.mg_image_overlay_laws.specs.pages.GrowKept.{fronts_joined}
use Rattle.mg_image_overlay_laws.specs.pages.GrowPages.{off_first, off_last, once_mid}
use Rattle.mg_slots.specs.DataPage.{cell_of}
use Rattle.mg_image_overlay_laws.specs.pages.Extended.{HasMore, extends, relaid, stands_relaid}
use Rattle.mg_image_overlay_laws.specs.pages.ExtendKept.{extend_in, extend_out}
use Rattle.mg_image_overlay_laws.specs.pages.ExtendSound.{Extends}
use Rattle.mg_image_overlay_laws.specs.pages.PointerPage.{ChangesPointer, keeps_all, pointer_unlinked, used_on, used_same}
use Rattle.mg_image_overlay_laws.specs.pages.TakePart.{IsTaken}

-- A table, or the catalog, stands in a layout with a last pointer page and so many data pages.
pub record HasLast (layout : Layout) (owner place pointers q : ℕ) : Type 0 where
  pub before : List Stand
  pub stand : Stand
  pub after : List Stand
  pub front : List ℕ
  pub is_ : stands_of layout ≡ before ++ (stand ∷ after)
  pub pointers_are : stand.pointers ≡ front ++ (q ∷ [])
  pub count_is : length front ≡ pointers
  pub place_is : length stand.data_pages ≡ place
  pub owner_is : stand.table.pointer.0 ≡ owner

-- What is known of an image of which the pointer page is changed: it has the page that was taken.
pub record HasTaken (size : ℕ) (pool changed image laid : Pages) (q n : ℕ) : Type 0 where
  pub lays : LaysPage pool changed image laid q
  pub page : image n ≡ pool n
  pub used : is_used size image n ≡ true

-- What a kind of page owes: how a stand comes to have one more, and that its pages are as wanted then.
pub record MakesMore (in_primary : Bool) (size : ℕ) (pool changed : Pages)
    (owner place pointers q n : ℕ) : Type 0 where
  pub more : Stand → Stand
  pub has_more : (s : Stand) → HasMore n s (more s)
  pub front_out : (a b : Stand) → IsFrontStand a b → IsFrontStand a (more b)
  pub front_in : (a b : Stand) → IsFrontStand a b → a.pointers ≡ b.pointers → a.data_pages ≡ b.data_pages
      → IsFrontStand (more a) (more b)
  pub its : (image laid : Pages) → HasTaken size pool changed image laid q n
      → ((m : ℕ) → is_used size image m ≡ true → is_used size laid m ≡ true) → (s : Stand)
      → (front : List ℕ) → s.pointers ≡ front ++ (q ∷ []) → length front ≡ pointers
      → length s.data_pages ≡ place → s.table.pointer.0 ≡ owner
      → IsOnce (pages_of s) → AreTrees size laid s.table.pointer.0 s.table.indexes s.trees
      → HasTablePages in_primary size image s → HasTablePages in_primary size laid (more s)
  -- where it is one of data it is empty
  pub empty : (s : Stand) → Has (more s).data_pages n → (Has s.data_pages n → ⊥) → (slot : ℕ)
      → cell_of (changed n) slot ≡ None

-- the pointer pages of stands of which one has a page more
pointers_more : (n : ℕ) (before after : List Stand) (stand more : Stand) → HasMore n stand more → (m : ℕ)
    → Has (pointers_of (before ++ (more ∷ after))) m
    → (m ≡ n) ⊎ Has (pointers_of (before ++ (stand ∷ after))) m
pointers_more n [] after stand more is m there =
    at (has_either more.pointers (pointers_of after) m there)
  where
    by : (m ≡ n) ⊎ Has stand.pointers m → (m ≡ n) ⊎ Has (stand.pointers ++ pointers_of after) m
    by (inl same) = inl same
    by (inr here) = inr (has_front stand.pointers (pointers_of after) m here)

    at : Has more.pointers m ⊎ Has (pointers_of after) m
        → (m ≡ n) ⊎ Has (stand.pointers ++ pointers_of after) m
    at (inl here) = by (is.pointers m here)
    at (inr later) = inr (has_back stand.pointers (pointers_of after) m later)
pointers_more n (first ∷ before) after stand more is m there =
    at (has_either first.pointers (pointers_of (before ++ (more ∷ after))) m there)
    (pointers_more n before after stand more is m)
  where
    by : (m ≡ n) ⊎ Has (pointers_of (before ++ (stand ∷ after))) m
        → (m ≡ n) ⊎ Has (first.pointers ++ pointers_of (before ++ (stand ∷ after))) m
    by (inl same) = inl same
    by (inr here) = inr (has_back first.pointers (pointers_of (before ++ (stand ∷ after))) m here)

    at : Has first.pointers m ⊎ Has (pointers_of (before ++ (more ∷ after))) m
        → (Has (pointers_of (before ++ (more ∷ after))) m
        → (m ≡ n) ⊎ Has (pointers_of (before ++ (stand ∷ after))) m)
        → (m ≡ n) ⊎ Has (first.pointers ++ pointers_of (before ++ (stand ∷ after))) m
    at (inl here) rest = inr (has_front first.pointers (pointers_of (before ++ (stand ∷ after))) m here)
    at (inr later) rest = by (rest later)

module _ (form : Form) (none : HasNoSequences form) (size : ℕ) (trees : TreesStay form size)
    (o : Opening) (h : Entries) (state : ℕ → TxState) (pool changed : Pages)
    (owner place pointers q n : ℕ) (change : ChangesPointer pool changed q) (apart : n ≢ q)
    (makes : MakesMore form.in_primary size pool changed owner place pointers q n)
    (used_pool : is_used size pool n ≡ true)
    (image : Pages) (taken : IsTaken form size o h state pool n image)
    (last : HasLast taken.kept.of_pool owner place pointers q) where
  abbrev kept : IsKept form size o h state pool image
  kept = taken.kept

  abbrev stand : Stand
  stand = last.stand

  pool_once : IsOnce (flat_map pages_of (last.before ++ (stand ∷ last.after)))
  pool_once = subst (λ (ss : List Stand). IsOnce (flat_map pages_of ss)) last.is_
      (once_back (tips_of size pool) (flat_map pages_of (stands_of kept.of_pool))
      (once_front (tips_of size pool ++ flat_map pages_of (stands_of kept.of_pool))
      kept.of_pool.sequences kept.pool_sound.once))

  q_in_pool : Has stand.pointers q
  q_in_pool = subst (λ (ns : List ℕ). Has ns q) (sym last.pointers_are)
      (has_back last.front (q ∷ []) q (inl refl))

  q_page : Has (pages_of stand) q
  q_page = has_front (stand.pointers ++ stand.data_pages) (tree_pages stand.trees) q
      (has_front stand.pointers stand.data_pages q q_in_pool)

  q_off : Has last.front q → ⊥
  q_off there = once_apart last.front (q ∷ []) q (subst IsOnce last.pointers_are
      (once_front stand.pointers stand.data_pages
      (once_front (stand.pointers ++ stand.data_pages) (tree_pages stand.trees)
      (once_mid last.before last.after stand pool_once)))) there (inl refl)

  its_pool : HasTablePages form.in_primary size pool stand
  its_pool = each_mid (HasTablePages form.in_primary size pool) last.before last.after stand
      (subst (EachStand (HasTablePages form.in_primary size pool)) last.is_ kept.pool_sound.tables)

  q_last : next_in (pool q) ≡ 0
  q_last = chain_last (λ k. next_in (pool k)) stand.table.pointer.0 last.front q
      (subst (PointerChain pool stand.table.pointer.0) last.pointers_are its_pool.chain)

  abbrev pool_after : Layout
  pool_after = relaid kept.of_pool (last.before ++ (makes.more stand ∷ last.after))

  pool_extends : Extends form size pool changed kept.of_pool pool_after n
  pool_extends = extends form size state pool changed q n kept.of_pool kept.in_pool none trees
      kept.pool_sound change last.before last.after stand (makes.more stand) last.is_
      (makes.has_more stand) q_in_pool taken.pool_off (makes.empty stand)
      (makes.its pool changed (record {
        lays = record { was = refl; is = refl; others = change.others };
        page = refl;
        used = used_pool;
      }) (used_on form size state pool changed q kept.of_pool kept.in_pool none trees kept.pool_sound change)
      stand last.front last.pointers_are last.count_is last.place_is last.owner_is
      (once_mid last.before last.after stand pool_once))

  used_in_pool : (m : ℕ) → is_used size image m ≡ true → is_used size changed m ≡ true
  used_in_pool m is = used_on form size state pool changed q kept.of_pool kept.in_pool none trees
      kept.pool_sound change m (kept.behind.used m is)

  it : SplitsAt (stands_of kept.layout) last.before last.after stand
  it = split (stands_of kept.layout) last.before last.after stand
      (subst (AreFrontStands (stands_of kept.layout)) last.is_ kept.behind.stands)

  fronts_out : AreFrontStands (stands_of kept.layout) (stands_of pool_after)
  fronts_out = subst (AreFrontStands (stands_of kept.layout))
      (sym (stands_relaid kept.of_pool last.before last.after (makes.more stand)))
      (subst (λ (ss : List Stand). AreFrontStands ss (last.before ++ (makes.more stand ∷ last.after)))
      (sym it.is_) (fronts_joined it.first it.last last.before last.after it.mid (makes.more stand)
      it.first_behind (makes.front_out it.mid stand it.mid_behind) it.last_behind))

  -- the changed page is none of an index
  trees_pool : (laid : Pages) → StandsBehind changed laid (stands_of kept.of_pool) (stands_of kept.layout)
  trees_pool laid = behind_stays pool changed image laid form.in_primary size (stands_of kept.of_pool)
      (stands_of kept.layout) kept.pool_sound.tables
      (λ m is seven. change.others m (λ e.
      let four : byte (pool m) 0 ≡ 4 = ap (λ (k : ℕ). byte (pool k) 0) e ∙ change.kind in
      omega (arith, four, seven))) kept.behind.trees

  -- the table has the trees that it had
  trees_out : (laid : Pages) → StandsBehind changed laid (stands_of pool_after) (stands_of kept.layout)
  trees_out laid = subst (λ (ss : List Stand). StandsBehind changed laid ss (stands_of kept.layout))
      (sym (stands_relaid kept.of_pool last.before last.after (makes.more stand)))
      (subst (λ (ts : List (List (List (List ℕ)))). AllBehind changed laid ts (all_trees (stands_of kept.layout)))
      (sym (trees_with last.before last.after stand (makes.more stand) (makes.has_more stand).trees))
      (subst (λ (ss : List Stand). StandsBehind changed laid ss (stands_of kept.layout)) last.is_
      (trees_pool laid)))

  -- a pointer page that names a next one is not q, and stays
  chained_with : (laid : Pages) → ((m : ℕ) → m ≢ q → laid m ≡ image m)
      → (laid q ≡ changed q) ⊎ (laid q ≡ image q) → (m : ℕ)
      → Has (pointers_of (stands_of kept.layout)) m → next_in (laid m) ≢ 0 → laid m ≡ changed m
  chained_with laid others at_q m is some_ = at (cases_eq m q) at_q
    where
      as_pool : laid m ≡ image m → image m ≡ pool m
      as_pool same = kept.behind.chained m is (subst (λ (page : List ℕ). next_in page ≢ 0) same some_)

      at : (m ≡ q) ⊎ (m ≢ q) → (laid q ≡ changed q) ⊎ (laid q ≡ image q) → laid m ≡ changed m
      at (inr ne) b = others m ne ∙ (as_pool (others m ne) ∙ sym (change.others m ne))
      at (inl e) (inl now) = ap laid e ∙ (now ∙ ap changed (sym e))
      at (inl e) (inr same) =
          let stays : laid m ≡ image m = ap laid e ∙ (same ∙ ap image (sym e)) in
          absurd (some_ (ap next_in (stays ∙ as_pool stays)
          ∙ (ap (λ (k : ℕ). next_in (pool k)) e ∙ q_last)))

  -- an overlay that has not the pointer page
  pub step_without : IsKept form size o h state changed image
  step_without = extend_out form size o h state pool changed image image n kept pool_after pool_extends
      (keeps_all form size state image kept.layout kept.reading trees kept.sound) used_in_pool fronts_out
      (chained_with image (λ m ne. refl) (inr refl)) (trees_out image)

  -- one that has it
  module _ (laid : Pages) (there : HasTaken size pool changed image laid q n) where
    change_laid : ChangesPointer image laid q
    change_laid = record {
      others = there.lays.others;
      below = change.below;
      kind = ap (λ (page : List ℕ). byte page 0) there.lays.was ∙ change.kind;
      len = rw (there.lays.is, there.lays.was) change.len;
    }

    page_now : laid n ≡ changed n
    page_now = there.lays.others n apart ∙ (there.page ∙ sym (change.others n apart))

    used_within : (m : ℕ) → is_used size laid m ≡ true → is_used size changed m ≡ true
    used_within m is = used_in_pool m (sym (used_same form size state image laid q kept.layout kept.reading
        none trees kept.sound change_laid m) ∙ is)

    -- the table has not the pointer page there: it is linked nowhere
    unlinked : (Has it.mid.pointers q → ⊥) → Has (linked_pages size image kept.layout) q → ⊥
    unlinked off is = at (pointers_mid it.first it.last it.mid q
        (subst (λ (ss : List Stand). Has (pointers_of ss) q) it.is_
        ((linked_is form size state image kept.layout kept.reading none kept.sound q is).pointer
        change_laid.kind)))
      where
        at : Has (pointers_of it.first) q ⊎ (Has it.mid.pointers q ⊎ Has (pointers_of it.last) q) → ⊥
        at (inl here) = off_first last.before last.after stand q q pool_once q_page
            (pointers_front it.first last.before it.first_behind q here) refl
        at (inr (inl here)) = off here
        at (inr (inr here)) = off_last last.before last.after stand q q pool_once q_page
            (pointers_front it.last last.after it.last_behind q here) refl

    unreached : (Has it.mid.pointers q → ⊥) → IsKept form size o h state changed laid
    unreached off = extend_out form size o h state pool changed image laid n kept pool_after pool_extends
        (pointer_unlinked form size state image laid q kept.layout kept.reading none trees kept.sound
        change_laid (unlinked off)) used_within fronts_out
        (chained_with laid there.lays.others (inl there.lays.is)) (trees_out laid)

    reached : Has it.mid.pointers q → IsKept form size o h state changed laid
    reached q_there = extend_in form size o h state pool changed image laid n kept pool_after pool_extends
        (relaid kept.layout (it.first ++ (makes.more it.mid ∷ it.last)))
        (extends form size state image laid q n kept.layout kept.reading none trees kept.sound change_laid
        it.first it.last it.mid (makes.more it.mid) it.is_ (makes.has_more it.mid) q_there taken.image_off
        (λ here off slot. ap (λ (page : List ℕ). cell_of page slot) page_now
        ∙ makes.empty it.mid here off slot)
        (makes.its image laid there (used_on form size state image laid q kept.layout kept.reading none trees
        kept.sound change_laid) it.mid last.front its_pointers last.count_is
        (ap length data_same ∙ last.place_is)
        (ap (λ (t : Table). t.pointer.0) it.mid_behind.table ∙ last.owner_is) its_once))
        used_within fronts_in chained_in trees_in
      where
        its_pointers : it.mid.pointers ≡ last.front ++ (q ∷ [])
        its_pointers = front_whole it.mid.pointers last.front q
            (subst (IsFrontOf it.mid.pointers) last.pointers_are it.mid_behind.pointers) q_off q_there

        its_once : IsOnce (pages_of it.mid)
        its_once = once_mid it.first it.last it.mid
            (subst (λ (ss : List Stand). IsOnce (flat_map pages_of ss)) it.is_
            (once_back (tips_of size image) (flat_map pages_of (stands_of kept.layout))
            (once_front (tips_of size image ++ flat_map pages_of (stands_of kept.layout))
            kept.layout.sequences kept.sound.once)))

        its_pages : HasTablePages form.in_primary size image it.mid
        its_pages = each_mid (HasTablePages form.in_primary size image) it.first it.last it.mid
            (subst (EachStand (HasTablePages form.in_primary size image)) it.is_ kept.sound.tables)

        alike : (m : ℕ) → Has last.front m → image m ≡ pool m
        alike m is = kept.behind.chained m
            (subst (λ (ss : List Stand). Has (pointers_of ss) m) (sym it.is_)
            (pointers_there it.first it.last it.mid m
            (subst (λ (ns : List ℕ). Has ns m) (sym its_pointers) (has_front last.front (q ∷ []) m is))))
            (chain_next (λ k. next_in (image k)) it.mid.table.pointer.0 last.front q m
            (subst (PointerChain image it.mid.table.pointer.0) its_pointers its_pages.chain) is)

        same : (m : ℕ) → Has (last.front ++ (q ∷ [])) m → image m ≡ pool m
        same m is = at (has_either last.front (q ∷ []) m is)
          where
            at : Has last.front m ⊎ Has (q ∷ []) m → image m ≡ pool m
            at (inl here) = alike m here
            at (inr (inl e)) = ap image e ∙ (there.lays.was ∙ ap pool (sym e))
            at (inr (inr none_)) = absurd none_

        data_same : it.mid.data_pages ≡ stand.data_pages
        data_same = its_pages.entries ∙ (ap (entries_in image) its_pointers
            ∙ (entries_kept pool image (last.front ++ (q ∷ [])) same
            ∙ (sym (ap (entries_in pool) last.pointers_are) ∙ sym its_pool.entries)))

        fronts_in : AreFrontStands
            (stands_of (relaid kept.layout (it.first ++ (makes.more it.mid ∷ it.last))))
            (stands_of pool_after)
        fronts_in = subst (AreFrontStands
            (stands_of (relaid kept.layout (it.first ++ (makes.more it.mid ∷ it.last)))))
            (sym (stands_relaid kept.of_pool last.before last.after (makes.more stand)))
            (subst (λ (ss : List Stand). AreFrontStands ss (last.before ++ (makes.more stand ∷ last.after)))
            (sym (stands_relaid kept.layout it.first it.last (makes.more it.mid)))
            (fronts_joined it.first it.last last.before last.after (makes.more it.mid) (makes.more stand)
            it.first_behind (makes.front_in it.mid stand it.mid_behind
            (its_pointers ∙ sym last.pointers_are) data_same) it.last_behind))

        trees_in : StandsBehind changed laid (stands_of pool_after)
            (stands_of (relaid kept.layout (it.first ++ (makes.more it.mid ∷ it.last))))
        trees_in = subst (StandsBehind changed laid (stands_of pool_after))
            (sym (stands_relaid kept.layout it.first it.last (makes.more it.mid)))
            (subst (AllBehind changed laid (all_trees (stands_of pool_after)))
            (sym (trees_with it.first it.last it.mid (makes.more it.mid) (makes.has_more it.mid).trees))
            (subst (StandsBehind changed laid (stands_of pool_after)) it.is_ (trees_out laid)))

        chained_in : (m : ℕ)
            → Has (pointers_of (stands_of (relaid kept.layout (it.first ++ (makes.more it.mid ∷ it.last))))) m
            → next_in (laid m) ≢ 0 → laid m ≡ changed m
        chained_in m is some_ = at (pointers_more n it.first it.last it.mid (makes.more it.mid)
            (makes.has_more it.mid) m (subst (λ (ss : List Stand). Has (pointers_of ss) m)
            (stands_relaid kept.layout it.first it.last (makes.more it.mid)) is))
          where
            at : (m ≡ n) ⊎ Has (pointers_of (it.first ++ (it.mid ∷ it.last))) m → laid m ≡ changed m
            at (inl e) = ap laid e ∙ (page_now ∙ ap changed (sym e))
            at (inr old_) = chained_with laid there.lays.others (inl there.lays.is) m
                (subst (λ (ss : List Stand). Has (pointers_of ss) m) (sym it.is_) old_) some_

    pub step_with : IsKept form size o h state changed laid
    step_with = at (has it.mid.pointers q) refl
      where
        at : (c : Bool) → has it.mid.pointers q ≡ c → IsKept form size o h state changed laid
        at true in_it = reached (has_it it.mid.pointers q in_it)
        at false out = unreached off
          where
            off : Has it.mid.pointers q → ⊥
            off in_it = let both : true ≡ false = sym (has_so it.mid.pointers q in_it) ∙ out in absurd cc
