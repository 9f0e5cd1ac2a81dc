-- The change of one page of a cache in which no page is dirty, and its page write.
use Rattle.std.proofs.Common.{◌≡◌, ◌≢◌, ◌⊎◌, ◌==◌, ◌||◌, ◌&&◌, ℕ, Bool, true, false, List, [], Option, Some, is_some, unwrap_or, if◌then◌else◌, refl, sym, ap, subst, ◌∙◌, inl, inr, Result, Ok, Err, OnOk, IsErr}
use Rattle.std.proofs.lemmas.Bool.{both_ways, cases_eq, eq-eqb, ne_eqb, false_from_ne_true}
use Rattle.mg_base.specs.Disk.{MayLeave, Meaning}
use Rattle.mg_base.specs.Image.{Image, page_at}
use Rattle.mg_base.specs.Moments.{LeavesOnly, joined, leaves_as}
use Rattle.mg_careful.specs.CarefulWrite.{PageSet, IsClosed}
use Rattle.mg_careful.specs.Graph.{is_ordered, IsFirstReady}
use Rattle.mg_careful.specs.Precedence.{Precedes, directly, through}
use Rattle.mg_pool.specs.Batch.{content_in, one_page}
use Rattle.mg_pool.specs.Change.{Changes, ChangesOverlays, ChangesPages, or_else}
use Rattle.mg_pool.specs.Dirty.{content_of, is_dirty}
use Rattle.mg_pool.specs.Pool.{IsClosedOverlay, IsOverlay, IsPool, LeavesOverlays, cache_of, shown}
use Rattle.mg_pool.specs.Run.{WritesPage}
use Rattle.mg_pool.specs.declared.pool.Pool.{Pool}
use Rattle.mg_space.specs.View.{Tells}
use Rattle.mg_space.specs.ViewLaws.{CountsNow}
use Rattle.mg_format.specs.Format.{HasPages, HoldsPages, IsClean, IsOnlyDirty, with_page}

-- ---- what a change leaves

module _ {D L : Type 0} (m : Meaning D) (old new : Pool D L) (n : ℕ) (bytes : List ℕ)
    (clean : IsClean old) (changes : Changes m old new (one_page n bytes) []) where
  ready_clean : (p : ℕ) → is_dirty changes.ready.dirty p ≡ false
  ready_clean p = false_from_ne_true _ (λ is. both_ways _ (clean p) (changes.written.fewer p is))

  pub only_dirty : IsOnlyDirty new n
  only_dirty p = ap (λ d. is_dirty d p) changes.enters.dirty
      ∙ (ap is_some (changes.puts.contents p) ∙ at (cases_eq p n))
    where
      at : (p ≡ n) ⊎ (p ≢ n)
          → is_some (or_else (content_in (one_page n bytes) p) (content_of changes.ready.dirty p))
          ≡ (p == n)
      at (inl same) = rw (eq-eqb p n same, eq-eqb n p (sym same)) refl
      at (inr ne) = rw (ne_eqb p n ne, ne_eqb n p (λ e. ne (sym e))) (ready_clean p)

  pub unordered : (a b : ℕ) → is_ordered new.graph a b ≡ false
  unordered a b = changes.enters.ordered a b ∙ alone (is_ordered changes.put.graph a b)
      (is_dirty changes.put.dirty a) (changes.puts.ordered a b
      ∙ (changes.written.orders a b ∙ off (is_ordered old.graph a b)
      (is_dirty changes.ready.dirty a) (is_dirty changes.ready.dirty b) (ready_clean a)))
    where
      alone : (x y : Bool) → x ≡ false → (x || (false && y)) ≡ false
      alone true y is = absurd cc
      alone false y is = refl

      off : (x y z : Bool) → y ≡ false → (x && (y && z)) ≡ false
      off true true z is = absurd cc
      off true false z is = refl
      off false y z is = refl

  pub tells_still : m.tells new.disk ≡ m.tells old.disk
  tells_still = ap m.tells (changes.enters.disk ∙ changes.puts.disk) ∙ changes.written.tells

  pub faults_still : m.faults new.disk ≡ m.faults old.disk
  faults_still = ap m.faults (changes.enters.disk ∙ changes.puts.disk) ∙ changes.written.steady

-- where nothing is ordered, the page that is written is the one that was asked for
pub written_is : {D L : Type 0} (store : Pool D L) (goal page : ℕ)
    → ((a b : ℕ) → is_ordered store.graph a b ≡ false)
    → IsFirstReady store.graph goal page → page ≡ goal
written_is store goal page none first = at first.ready.due
  where
    no_chain : (a b : ℕ) → Precedes (is_ordered store.graph) a b → ⊥
    no_chain a b (directly o) = both_ways (is_ordered store.graph a b) (none a b) o
    no_chain a c (through {b = b} p q) = no_chain a b p

    at : (page ≡ goal) ⊎ Precedes (is_ordered store.graph) page goal → page ≡ goal
    at (inl same) = same
    at (inr chain) = absurd (no_chain page goal chain)

-- the page that was written is dirty no longer, and no other was
pub clean_after : {D L : Type 0} (m : Meaning D) (mid new : Pool D L) (n page : ℕ)
    → IsOnlyDirty mid n → page ≡ n → WritesPage m mid new page → IsClean new
clean_after m mid new n page only same writes p = at (cases_eq p page)
  where
    at : (p ≡ page) ⊎ (p ≢ page) → is_dirty new.dirty p ≡ false
    at (inl e) = ap (λ (q : ℕ). is_dirty new.dirty q) e ∙ ap is_some writes.taken.here
    at (inr ne) = ap is_some (writes.taken.others p ne)
        ∙ (only p ∙ ne_eqb p n (λ e. ne (e ∙ sym same)))

-- a fault leaves nothing to be said of Ok
pub off_ok : {T E : Type 0} (result : Result T E) (P : Type 0) → IsErr result → OnOk result P
off_ok (Ok x) P err = absurd cc
off_ok (Err e) P err = tt

-- ---- what a crash may leave

-- the image before a page write, or after it
abbrev pub Steps : ℕ → Image → ℕ → List ℕ → Image → Type 0
Steps size image n bytes c = HasPages size c (page_at size image)
    ⊎ HasPages size c (with_page (page_at size image) n bytes)

-- what a crash since the start may leave
abbrev pub Leaves : {D : Type 0} → Meaning D → D → ℕ → Image → ℕ → List ℕ → Image → Type 0
Leaves m start size image n bytes c = MayLeave m start c ⊎ Steps size image n bytes c

module _ {D L : Type 0} (m : Meaning D) (old : Pool D L) (n : ℕ) (bytes : List ℕ) (image : Image)
    (pool : IsPool m old) (clean : IsClean old) (tells : Tells m old.disk image) where
  abbrev size : ℕ
  size = old.geometry.size

  -- no page is dirty, so the overlay of every closed set is the disk's image
  same_pages : (set_ : PageSet) → IsClosed (cache_of old.dirty old.graph image) set_ → (c : Image)
      → IsOverlay old.dirty old.graph image set_ c → HasPages size c (page_at size image)
  same_pages set_ closed c is p =
      subst (λ (k : ℕ). page_at k c p ≡ page_at k image p) pool.page_size
      (is.pages p ∙ at (set_ p) (false_from_ne_true _
      (λ in_set. both_ways _ (clean p) (closed.only_dirty p in_set))))
    where
      at : (b : Bool) → b ≡ false
          → (if b then shown old.dirty image p else page_at old.dirty.size image p)
          ≡ page_at old.dirty.size image p
      at true is = absurd cc
      at false is = refl

  pub first_leaves : (mid : Pool D L) → LeavesOverlays m old mid
      → LeavesOnly m old.disk mid.disk (Leaves m old.disk size image n bytes)
  first_leaves mid crash = leaves_as m old.disk mid.disk _ (Leaves m old.disk size image n bytes)
      turn (crash tells.told image tells.held)
    where
      turn : (c : Image) → MayLeave m old.disk c ⊎ IsClosedOverlay old.dirty old.graph image c
          → Leaves m old.disk size image n bytes c
      turn c (inl may) = inl may
      turn c (inr over) = inr (inl (same_pages over.set_ over.closed c over.is))

  module _ (counts : CountsNow m) (mid : Pool D L) (mid_pool : IsPool m mid)
      (same : mid.geometry ≡ old.geometry) (only : IsOnlyDirty mid n) (j : Image)
      (mid_tells : Tells m mid.disk j)
      (frame : ChangesOverlays m (content_in (one_page n bytes)) [] old mid)
      (crash : LeavesOverlays m old mid) where
    changed : (gone : PageSet) × ChangesPages old.dirty mid.dirty old.graph mid.graph image j gone
        (content_in (one_page n bytes)) []
    changed = frame tells.told image j tells.held mid_tells.held

    j_pages : HasPages size j (page_at size image)
    j_pages = same_pages changed.0 changed.1.out j changed.1.image

    shown_new : shown mid.dirty j n ≡ bytes
    shown_new = changed.1.shown_new n
        ∙ ap (λ (o : Option (List ℕ)). unwrap_or o (shown old.dirty image n)) put
      where
        put : content_in (one_page n bytes) n ≡ Some bytes
        put = rw (eq-eqb n n refl) refl

    size_is : mid.dirty.size ≡ size
    size_is = mid_pool.page_size ∙ ap (λ g. g.size) same

    chosen : (b : Bool) (p : ℕ) → b ≡ true
        → (if b then shown mid.dirty j p else page_at mid.dirty.size j p) ≡ shown mid.dirty j p
    chosen true p is = refl
    chosen false p is = absurd cc

    left : (b : Bool) (p : ℕ) → b ≡ false
        → (if b then shown mid.dirty j p else page_at mid.dirty.size j p)
        ≡ page_at mid.dirty.size j p
    left true p is = absurd cc
    left false p is = refl

    as_disk : (set_ : PageSet) (c : Image) (p : ℕ) → set_ p ≡ false
        → IsOverlay mid.dirty mid.graph j set_ c → page_at size c p ≡ page_at size image p
    as_disk set_ c p out is = subst (λ (k : ℕ). page_at k c p ≡ page_at k j p) size_is
        (is.pages p ∙ left (set_ p) p out) ∙ j_pages p

    -- with the page in the set, the overlay has its new content
    pub with_it : (set_ : PageSet) (c : Image) → set_ n ≡ true
        → ((p : ℕ) → p ≢ n → set_ p ≡ false) → IsOverlay mid.dirty mid.graph j set_ c
        → HasPages size c (with_page (page_at size image) n bytes)
    with_it set_ c there others is p = at (cases_eq p n)
      where
        at : (p ≡ n) ⊎ (p ≢ n) → page_at size c p ≡ with_page (page_at size image) n bytes p
        at (inl e) = rw (eq-eqb p n e) (subst (λ (k : ℕ). page_at k c p ≡ bytes) size_is
            (is.pages p ∙ (chosen (set_ p) p (ap set_ e ∙ there)
            ∙ (ap (shown mid.dirty j) e ∙ shown_new))))
        at (inr ne) = rw (ne_eqb p n ne) (as_disk set_ c p (others p ne) is)

    not_dirty : (set_ : PageSet) → IsClosed (cache_of mid.dirty mid.graph j) set_ → (p : ℕ)
        → p ≢ n → set_ p ≡ false
    not_dirty set_ closed p ne = false_from_ne_true _ (λ in_set.
        both_ways _ (only p ∙ ne_eqb p n ne) (closed.only_dirty p in_set))

    either : (set_ : PageSet) → IsClosed (cache_of mid.dirty mid.graph j) set_ → (c : Image)
        → IsOverlay mid.dirty mid.graph j set_ c → Steps size image n bytes c
    either set_ closed c is = by (set_ n) refl
      where
        by : (b : Bool) → set_ n ≡ b → Steps size image n bytes c
        by true there = inr (with_it set_ c there (not_dirty set_ closed) is)
        by false out = inl (λ p. as_disk set_ c p (at p (cases_eq p n)) is)
          where
            at : (p : ℕ) → (p ≡ n) ⊎ (p ≢ n) → set_ p ≡ false
            at p (inl e) = ap set_ e ∙ out
            at p (inr ne) = not_dirty set_ closed p ne

    pub both_leave : (new : Pool D L) → LeavesOverlays m mid new
        → LeavesOnly m old.disk new.disk (Leaves m old.disk size image n bytes)
    both_leave new later = joined m old.disk mid.disk new.disk
        (Leaves m old.disk size image n bytes) first
        (leaves_as m mid.disk new.disk _ (Leaves m old.disk size image n bytes) turn
        (later mid_tells.told j mid_tells.held))
      where
        first : LeavesOnly m old.disk mid.disk (Leaves m old.disk size image n bytes)
        first = first_leaves mid crash

        turn : (c : Image) → MayLeave m mid.disk c ⊎ IsClosedOverlay mid.dirty mid.graph j c
            → Leaves m old.disk size image n bytes c
        turn c (inl may) = first.each c
            (counts mid.disk (m.moment old.disk) c mid_tells.told first.later may)
        turn c (inr over) = inr (either over.set_ over.closed c over.is)

    pub holds_it : (new : Pool D L) (page : ℕ) (k : Image) → page ≡ n → WritesPage m mid new page
        → Tells m new.disk k
        → HoldsPages m new.disk size (with_page (page_at size image) n bytes)
    holds_it new page k is writes new_tells = record {
      image = k;
      tells = new_tells;
      pages_are = with_it (λ p. p == page) k (eq-eqb n page (sym is))
          (λ p ne. ne_eqb p page (λ e. ne (e ∙ is)))
          (writes.out j k mid_tells.held new_tells.held).image;
    }
