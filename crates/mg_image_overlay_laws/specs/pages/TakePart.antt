-- A free page is taken and made: its bit, and what it has then. Nothing that is linked changes, in the
-- pool, and in an image that has either page, both, or none.
use Rattle.std.proofs.Common.{◌≡◌, ◌≢◌, ◌⊎◌, inl, inr, ap, sym, subst, ◌∙◌, refl, arith, ◌<◌, ◌≤◌, ◌/◌, ◌%◌, ℕ, Bool, true, false, List, [], ◌∷◌, ◌++◌, length}
use Rattle.std.specs.Prelude.{if◌then◌else◌}
use Rattle.std.proofs.lemmas.Bool.{cases_eq}
use Rattle.mg_base.specs.Checks.{PassesAll}
use Rattle.mg_base.specs.Fields.{byte}
use Rattle.mg_base.specs.declared.geometry.TheConstants.{GREATEST_LIMIT}
use Rattle.mg_base.specs.declared.transaction.TxState.{TxState}
use Rattle.mg_careful.specs.CarefulWrite.{PageSet}
use Rattle.mg_model.specs.declared.opening.Opening.{Opening}
use Rattle.mg_model.specs.History.{Entries}
use Rattle.mg_pip.specs.PipPage.{bits, pip_checks, used_in}
use Rattle.mg_image.specs.Form.{Form, Pages}
use Rattle.mg_image.specs.Indexes.{EachPage}
use Rattle.mg_image.specs.Inventory.{inventory_page, is_used}
use Rattle.mg_image.specs.Reached.{linked_pages}
use Rattle.mg_image.specs.Records.{Reading}
use Rattle.mg_image.specs.Sound.{HasInventory, HasRegion, IsSoundBy}
use Rattle.mg_image.specs.Tables.{Has, Layout, pages_of, stands_of}
use Rattle.std.specs.List.{flat_map}
use Rattle.mg_image_overlay_laws.specs.pages.Frame.{KeepsLinked, tip_kept}
use Rattle.mg_image_overlay_laws.specs.pages.Grow.{tips_are}
use Rattle.mg_image_overlay_laws.specs.pages.Growth.{wanted_still}
use Rattle.mg_image_overlay_laws.specs.pages.Kinds.{HasNoSequences, IsLinked, linked_is, pointers_of}
use Rattle.mg_image_overlay_laws.specs.kept.Rest.{TreesStay}
use Rattle.mg_image_overlay_laws.specs.kept.KeptImages.{IsKept}
use Rattle.mg_overlay_laws.specs.Views.{partly}
use Rattle.mg_image_overlay_laws.specs.pages.FrameKept.{frame_kept, frame_layout}

-- A page n that was free comes to be used, by its bit in the inventory page i, and has another content.
pub record OccupiesPage (size : ℕ) (old new : Pages) (i n : ℕ) : Type 0 where
  pub others : (m : ℕ) → m ≢ i → m ≢ n → new m ≡ old m
  pub off_header : (0 ≢ i) × (0 ≢ n)
  pub whole : (m : ℕ) → length (new m) ≡ size
  -- the bit
  pub of_bit : inventory_page size (n / bits size) ≡ i
  pub own_bit : inventory_page size (i / bits size) ≡ i
  pub region : (k : ℕ) → inventory_page size k ≡ i → HasRegion size new i k
  pub was_region : byte (old i) 0 < 3
  pub used : (m : ℕ) → is_used size old m ≡ true → is_used size new m ≡ true
  pub fresh : is_used size old n ≡ false
  pub bit : is_used size new n ≡ true
  pub below : n < GREATEST_LIMIT
  pub no_region : (k : ℕ) → inventory_page size k ≢ n

-- An image has some of these pages as the pool, and then as the pool has them, and the others stay.
pub record IsTakenIn (pool changed image laid : Pages) (i n : ℕ) : Type 0 where
  pub others : (m : ℕ) → m ≢ i → m ≢ n → laid m ≡ image m
  pub inventory : ((image i ≡ pool i) × (laid i ≡ changed i)) ⊎ (laid i ≡ image i)
  pub page : (laid n ≡ changed n) ⊎ (laid n ≡ image n)

-- two images with one inventory page have its bits alike
pub bits_alike : (size : ℕ) (one other : Pages) (m i : ℕ) → inventory_page size (m / bits size) ≡ i
    → one i ≡ other i → is_used size one m ≡ is_used size other m
unfolding is_used
bits_alike size one other m i on same =
    ap (λ (page : List ℕ). used_in page (m % bits size)) (ap one on ∙ (same ∙ ap other (sym on)))

module _ (form : Form) (size : ℕ) (state : ℕ → TxState) (pool changed image laid : Pages)
    (i n : ℕ) (none : HasNoSequences form) (trees : TreesStay form size)
    (pages : OccupiesPage size pool changed i n) (layout : Layout) (r : Reading)
    (sound : IsSoundBy form size state image layout r)
    (used_in_pool : (m : ℕ) → is_used size image m ≡ true → is_used size pool m ≡ true)
    (taken : IsTakenIn pool changed image laid i n) where
  not_fresh : is_used size image n ≡ true → ⊥
  not_fresh is = let both : true ≡ false = sym (used_in_pool n is) ∙ pages.fresh in absurd cc

  linked : (m : ℕ) → Has (linked_pages size image layout) m
      → IsLinked size image (pointers_of (stands_of layout)) m
  linked = linked_is form size state image layout r none sound

  -- a linked page stays
  pub stays : (m : ℕ) → Has (linked_pages size image layout) m → laid m ≡ image m
  stays m is = at (cases_eq m i) taken.inventory
    where
      off_page : m ≢ n
      off_page e = not_fresh (subst (λ (k : ℕ). is_used size image k ≡ true) e (linked m is).used)

      at : (m ≡ i) ⊎ (m ≢ i) → ((image i ≡ pool i) × (laid i ≡ changed i)) ⊎ (laid i ≡ image i)
          → laid m ≡ image m
      at (inr off) bits_ = taken.others m off off_page
      at (inl e) (inr same) = ap laid e ∙ (same ∙ ap image (sym e))
      at (inl e) (inl (was, now)) =
          let kind : 3 ≤ byte (image i) 0 = subst (λ (k : ℕ). 3 ≤ byte (image k) 0) e (linked m is).kind in
          let few : byte (image i) 0 < 3 =
          subst (λ (page : List ℕ). byte page 0 < 3) (sym was) pages.was_region in
          absurd (omega (arith, kind, few))

  region_stays : (k : ℕ) → inventory_page size k ≢ i
      → laid (inventory_page size k) ≡ image (inventory_page size k)
  region_stays k ne = taken.others (inventory_page size k) ne (pages.no_region k)

  off_it : (m : ℕ) → inventory_page size (m / bits size) ≢ i → is_used size laid m ≡ is_used size image m
  off_it m ne = bits_alike size laid image m (inventory_page size (m / bits size)) refl
      (region_stays (m / bits size) ne)

  pub used_still : (m : ℕ) → is_used size image m ≡ true → is_used size laid m ≡ true
  used_still m is = at (cases_eq (inventory_page size (m / bits size)) i) taken.inventory
    where
      at : (inventory_page size (m / bits size) ≡ i) ⊎ (inventory_page size (m / bits size) ≢ i)
          → ((image i ≡ pool i) × (laid i ≡ changed i)) ⊎ (laid i ≡ image i)
          → is_used size laid m ≡ true
      at (inl on) (inl (was, now)) = bits_alike size laid changed m i on now
          ∙ pages.used m (sym (bits_alike size image pool m i on was) ∙ is)
      at (inl on) (inr same) = bits_alike size laid image m i on same ∙ is
      at (inr ne) bits_ = off_it m ne ∙ is

  -- the overlay uses no page that the pool does not
  pub used_within : (m : ℕ) → is_used size laid m ≡ true → is_used size changed m ≡ true
  used_within m is = at (cases_eq (inventory_page size (m / bits size)) i) taken.inventory
    where
      at : (inventory_page size (m / bits size) ≡ i) ⊎ (inventory_page size (m / bits size) ≢ i)
          → ((image i ≡ pool i) × (laid i ≡ changed i)) ⊎ (laid i ≡ image i)
          → is_used size changed m ≡ true
      at (inl on) (inl (was, now)) = sym (bits_alike size laid changed m i on now) ∙ is
      at (inl on) (inr same) =
          pages.used m (used_in_pool m (sym (bits_alike size laid image m i on same) ∙ is))
      at (inr ne) bits_ = pages.used m (used_in_pool m (sym (off_it m ne) ∙ is))

  inventory_still : HasInventory size laid
  inventory_still k below = at (cases_eq (inventory_page size k) i) taken.inventory
    where
      moved : HasRegion size changed i k → inventory_page size k ≡ i → laid i ≡ changed i
          → HasRegion size laid (inventory_page size k) k
      moved (inl empty) on now = inl (ap laid on ∙ (now ∙ empty))
      moved (inr wanted) on now = subst (λ (m : ℕ). HasRegion size laid m k) (sym on) (inr (record {
        below = wanted.below;
        used = bits_alike size laid changed i i pages.own_bit now ∙ wanted.used;
        fields = subst (λ (page : List ℕ). PassesAll (pip_checks page i k)) (sym now) wanted.fields;
      }))

      stayed : laid (inventory_page size k) ≡ image (inventory_page size k)
          → HasRegion size image (inventory_page size k) k
          → HasRegion size laid (inventory_page size k) k
      stayed same (inl empty) = inl (same ∙ empty)
      stayed same (inr wanted) = inr (wanted_still size image laid (inventory_page size k)
          (pip_checks (image (inventory_page size k)) (inventory_page size k) k)
          (pip_checks (laid (inventory_page size k)) (inventory_page size k) k)
          (used_still (inventory_page size k))
          (ap (λ (page : List ℕ). pip_checks page (inventory_page size k) k) same) wanted)

      at : (inventory_page size k ≡ i) ⊎ (inventory_page size k ≢ i)
          → ((image i ≡ pool i) × (laid i ≡ changed i)) ⊎ (laid i ≡ image i)
          → HasRegion size laid (inventory_page size k) k
      at (inl on) (inl (was, now)) = moved (pages.region k on) on now
      at (inl on) (inr same) = stayed (ap laid on ∙ (same ∙ ap image (sym on))) (sound.inventory k below)
      at (inr ne) bits_ = stayed (region_stays k ne) (sound.inventory k below)

  lengths_stay : (m : ℕ) → length (laid m) ≡ length (image m)
  lengths_stay m = at (cases_eq m i) (cases_eq m n) taken.inventory taken.page
    where
      as_pool : (k : ℕ) → m ≡ k → laid k ≡ changed k → length (laid m) ≡ length (image m)
      as_pool k e now = ap (λ (j : ℕ). length (laid j)) e
          ∙ (ap length now ∙ (pages.whole k ∙ sym (sound.header.whole m)))

      as_was : (k : ℕ) → m ≡ k → laid k ≡ image k → length (laid m) ≡ length (image m)
      as_was k e same = ap (λ (j : ℕ). length (laid j)) e
          ∙ (ap length same ∙ ap (λ (j : ℕ). length (image j)) (sym e))

      at : (m ≡ i) ⊎ (m ≢ i) → (m ≡ n) ⊎ (m ≢ n)
          → ((image i ≡ pool i) × (laid i ≡ changed i)) ⊎ (laid i ≡ image i)
          → (laid n ≡ changed n) ⊎ (laid n ≡ image n) → length (laid m) ≡ length (image m)
      at (inl e) on_n (inl (was, now)) page = as_pool i e now
      at (inl e) on_n (inr same) page = as_was i e same
      at (inr off) (inl e) bits_ (inl now) = as_pool n e now
      at (inr off) (inl e) bits_ (inr same) = as_was n e same
      at (inr off) (inr off_n) bits_ page = ap length (taken.others m off off_n)

  no_sequences : (ns : List ℕ) → EachPage (λ m. form.sequence_page (image m) m) ns
      → EachPage (λ m. form.sequence_page (laid m) m) ns
  no_sequences [] each = tt
  no_sequences (m ∷ ms) each = absurd (none (image m) m each.0)

  pub keeps_linked : KeepsLinked form size image laid layout
  keeps_linked = record {
    header_page = taken.others 0 pages.off_header.0 pages.off_header.1;
    linked = stays;
    used = used_still;
    lengths = lengths_stay;
    inventory = inventory_still;
    trees = trees state image laid layout r sound used_still (λ m is seven. stays m is);
    sequences = no_sequences layout.sequences sound.sequences;
  }

  -- and the page is not linked
  pub off : Has (linked_pages size laid layout) n → ⊥
  off is = not_fresh (linked n (subst (λ (ns : List ℕ). Has ns n) same is)).used
    where
      same : linked_pages size laid layout ≡ linked_pages size image layout
      same = ap (λ (tips : List ℕ). tips ++ flat_map pages_of (stands_of layout) ++ layout.sequences)
          (tips_are size image laid keeps_linked.header_page keeps_linked.used keeps_linked.lengths
          sound.header sound.transactions
          (tip_kept form size state image laid layout r sound keeps_linked))

-- the pool itself has both
pub taken_whole : (pool changed : Pages) (i n : ℕ) → ((m : ℕ) → m ≢ i → m ≢ n → changed m ≡ pool m)
    → IsTakenIn pool changed pool changed i n
taken_whole pool changed i n others = record {
  others = others;
  inventory = inl (refl, refl);
  page = inl refl;
}

-- After it: the page is linked nowhere, in the pool and in an image.
pub record IsTaken (form : Form) (size : ℕ) (o : Opening) (h : Entries) (state : ℕ → TxState)
    (pool : Pages) (n : ℕ) (image : Pages) : Type 0 where
  pub kept : IsKept form size o h state pool image
  pub pool_off : Has (linked_pages size pool kept.of_pool) n → ⊥
  pub image_off : Has (linked_pages size image kept.layout) n → ⊥

pub take_kept : (form : Form) (size : ℕ) (o : Opening) (h : Entries) (state : ℕ → TxState)
    (pool changed image laid : Pages) (i n : ℕ) → HasNoSequences form → TreesStay form size
    → OccupiesPage size pool changed i n → IsTakenIn pool changed image laid i n
    → IsKept form size o h state pool image → IsTaken form size o h state changed n laid
take_kept form size o h state pool changed image laid i n none trees pages taken kept = record {
  kept = frame_kept form size o h state pool changed image laid kept of_pool of_image within;
  pool_off = subst (λ (y : Layout). Has (linked_pages size changed y) n → ⊥) (sym same.0)
      (off form size state pool changed pool changed i n none trees pages kept.of_pool kept.in_pool
      kept.pool_sound (λ m is. is) (taken_whole pool changed i n pages.others));
  image_off = subst (λ (y : Layout). Has (linked_pages size laid y) n → ⊥) (sym same.1)
      (off form size state pool changed image laid i n none trees pages kept.layout kept.reading kept.sound
      kept.behind.used taken);
}
  where
    of_pool : KeepsLinked form size pool changed kept.of_pool
    of_pool = keeps_linked form size state pool changed pool changed i n none trees pages kept.of_pool
        kept.in_pool kept.pool_sound (λ m is. is) (taken_whole pool changed i n pages.others)

    of_image : KeepsLinked form size image laid kept.layout
    of_image = keeps_linked form size state pool changed image laid i n none trees pages kept.layout
        kept.reading kept.sound kept.behind.used taken

    within : (m : ℕ) → is_used size laid m ≡ true → is_used size changed m ≡ true
    within = used_within form size state pool changed image laid i n none trees pages kept.layout
        kept.reading kept.sound kept.behind.used taken

    same : ((frame_kept form size o h state pool changed image laid kept of_pool of_image within).of_pool
        ≡ kept.of_pool)
        × ((frame_kept form size o h state pool changed image laid kept of_pool of_image within).layout
        ≡ kept.layout)
    same = frame_layout form size o h state pool changed image laid kept of_pool of_image within

-- as a step of the views of a batch
pub take_views : (form : Form) (size : ℕ) (o : Opening) (h : Entries) (state : ℕ → TxState)
    (view next : Pages) (set_ : PageSet) (image : Pages) (i n : ℕ) → HasNoSequences form
    → TreesStay form size → OccupiesPage size view next i n
    → IsKept form size o h state view (partly set_ view image)
    → IsTaken form size o h state next n (partly set_ next image)
take_views form size o h state view next set_ image i n none trees pages kept =
    take_kept form size o h state view next (partly set_ view image) (partly set_ next image) i n none trees
    pages (record {
      others = λ m off_i off_n. still m (set_ m) (pages.others m off_i off_n);
      inventory = both i (set_ i) refl;
      page = one n (set_ n) refl;
    }) kept
  where
    still : (m : ℕ) (c : Bool) → next m ≡ view m
        → (if c then next m else image m) ≡ (if c then view m else image m)
    still m true same = same
    still m false same = refl

    both : (m : ℕ) (c : Bool) → set_ m ≡ c
        → ((partly set_ view image m ≡ view m) × (partly set_ next image m ≡ next m))
        ⊎ (partly set_ next image m ≡ partly set_ view image m)
    both m true in_set = inl (rw in_set refl, rw in_set refl)
    both m false out = inr (rw out refl)

    one : (m : ℕ) (c : Bool) → set_ m ≡ c → (partly set_ next image m ≡ next m)
        ⊎ (partly set_ next image m ≡ partly set_ view image m)
    one m true in_set = inl (rw in_set refl)
    one m false out = inr (rw out refl)
