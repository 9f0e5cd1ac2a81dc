-- The bits of a transaction are changed, and written: what every overlay is.
use Rattle.std.proofs.Common.{◌≡◌, ◌≢◌, ◌⊎◌, inl, inr, ap, refl, sym, subst, ◌∙◌, ◌==◌, ◌||◌, ℕ, Bool, true, false, List, ◌∷◌, Option, None}
use Rattle.std.specs.Prelude.{if◌then◌else◌, unwrap_or}
use Rattle.std.proofs.Math.Path.{fun_ext}
use Rattle.std.proofs.lemmas.Bool.{cases_eq, eq-eqb, ne_eqb}
use Rattle.mg_base.specs.declared.transaction.TxState.{TxState}
use Rattle.mg_base.specs.declared.transaction.TxState.TheVariants.{Active, Committed, Limbo}
use Rattle.mg_careful.specs.CarefulWrite.{Cache, IsClosed, PageSet, Pages, overlay}
use Rattle.mg_careful.specs.Precedence.{Orders}
use Rattle.mg_model.specs.declared.opening.Opening.{Opening}
use Rattle.mg_model.specs.History.{Entries, Entry}
use Rattle.mg_image.specs.Form.{Form}
use Rattle.mg_image_overlay_laws.specs.transactions.Bits.{ChangesTip}
use Rattle.mg_image_overlay_laws.specs.transactions.CommitSound.{committing}
use Rattle.mg_image_overlay_laws.specs.pages.Kinds.{HasNoSequences}
use Rattle.mg_image_overlay_laws.specs.transactions.CommitLaws.{BringsChanges, commit_kept}
use Rattle.mg_image_overlay_laws.specs.kept.HoldLaws.{HoldsAll, kept_holds}
use Rattle.mg_image_overlay_laws.specs.kept.KeptImages.{IsKept, keeping}
use Rattle.mg_overlay_laws.specs.BatchLaws.{lays, needed, overlay_is}
use Rattle.mg_overlay_laws.specs.Overlays.{ChangesCache, EveryOverlay, HasNeeds, KeepsNeeds, Keeping, LaysBatch, NeedsOrGone, OthersStay, WritesPages, before, laid, left_state, nobody}
use Rattle.mg_image_overlay_laws.specs.pages.OnePage.{IsOnePage}
use Rattle.mg_image_overlay_laws.specs.transactions.BitsKept.{bits_kept}
use Rattle.mg_image_overlay_laws.specs.transactions.PageLaws.{CommitChanges, MidwayLeaves}
use Rattle.mg_image_overlay_laws.specs.transactions.Midway.{EveryMidway, IsDrawnPlace}

-- a choice with one transaction more
abbrev with_one : ℕ → (ℕ → Bool) → ℕ → Bool
with_one t chosen u = (u == t) || chosen u

-- ---- the change

module _ (form : Form) (none : HasNoSequences form) (size : ℕ) (o : Opening) (h : Entries) (e : Entry)
    (state now : ℕ → TxState) (t : ℕ) (old new : Cache) (gone : PageSet)
    (batch : ℕ → Option (List ℕ)) (orders : Orders) (needs later : ℕ → PageSet) (page place : ℕ)
    (changes : ChangesCache old new gone batch orders) (active : state t ≡ Active)
    (committed : now t ≡ Committed) (others : OthersStay state now t)
    (ready : (p : ℕ) → needs t p ≡ false) (left : KeepsNeeds old gone needs later)
    (brings : BringsChanges o h e t) (one : IsOnePage batch new.pool page)
    (tip : ChangesTip old.pool new.pool page place) (drawn : IsDrawnPlace size old.pool page place)
    (ordered : orders 0 page ≡ true) (every : EveryOverlay (keeping form size o h) state old needs)
    (chosen : ℕ → Bool) (set_ : PageSet) (closed : IsClosed new set_) where
  abbrev first : PageSet
  first = before old gone set_

  abbrev image : Pages
  image = overlay old first

  is_laid : overlay new set_ ≡ laid batch set_ image
  is_laid = overlay_is old new gone batch orders changes set_ closed

  lays_ : LaysBatch old.pool new.pool batch orders set_ image
  lays_ = lays old new gone batch orders changes set_ closed

  still : (n : ℕ) → n ≢ page → laid batch set_ image n ≡ image n
  still n ne = at (set_ n) (batch n) (one.others n ne)
    where
      at : (c : Bool) (bytes : Option (List ℕ)) → bytes ≡ None
          → unwrap_or (if c then bytes else None) (image n) ≡ image n
      at true bytes nothing = rw nothing refl
      at false bytes nothing = refl

  change_without : HasNeeds state chosen later set_ → set_ page ≡ false
      → IsKept form size o h (left_state chosen state) old.pool (overlay new set_)
  change_without has out = subst (IsKept form size o h (left_state chosen state) old.pool) (sym same)
      (every chosen first (changes.closed set_ closed)
      (needed old new gone batch orders changes set_ closed state chosen needs later left has))
    where
      same : overlay new set_ ≡ image
      same = is_laid ∙ fun_ext (λ n. at n (cases_eq n page))
        where
          at : (n : ℕ) → (n ≡ page) ⊎ (n ≢ page) → laid batch set_ image n ≡ image n
          at n (inl e_) = let off : set_ n ≡ false = ap set_ e_ ∙ out in rw off refl
          at n (inr ne) = still n ne

  change_within : HasNeeds now chosen later set_ → set_ page ≡ true
      → IsKept form size o (e ∷ h) (left_state chosen now) new.pool (overlay new set_)
  change_within has in_set = subst (IsKept form size o (e ∷ h) (left_state chosen now) new.pool)
      (sym is_laid) (bits_kept form none size o (e ∷ h) (left_state chosen now) old.pool new.pool image
      (laid batch set_ image) page place settled tip drawn
      (record { was = lays_.was page in_set; is = lays_.is page in_set; others = still }) header)
    where
      -- the header goes before the page, and the batch leaves it
      header : image 0 ≡ old.pool 0
      header = at (cases_eq 0 page)
        where
          at : (0 ≡ page) ⊎ (0 ≢ page) → image 0 ≡ old.pool 0
          at (inl same) = ap image same ∙ (lays_.was page in_set ∙ ap old.pool (sym same))
          at (inr ne) = sym (still 0 ne) ∙ (lays_.first 0 page ordered in_set ∙ tip.others 0 ne)

      with_t : with_one t chosen t ≡ true
      with_t = rw (eq-eqb t t refl) refl

      needed_ : HasNeeds state (with_one t chosen) needs first
      needed_ u p is active_ wants = at (cases_eq u t)
        where
          at : (u ≡ t) ⊎ (u ≢ t) → first p ≡ true
          at (inl same) =
              let off : needs u p ≡ false = ap (λ (w : ℕ). needs w p) same ∙ ready p in
              let both : true ≡ false = sym wants ∙ off in absurd cc
          at (inr ne) = by ((left u p wants).0) ((left u p wants).1)
            where
              chosen_u : chosen u ≡ true
              chosen_u = sym (rw (ne_eqb u t ne) refl) ∙ is

              by : old.dirty p ≡ true → (gone p ≡ true) ⊎ (later u p ≡ true) → first p ≡ true
              by dirty (inl out) = rw out refl
              by dirty (inr wants_now) =
                  let there : set_ p ≡ true = has u p chosen_u (others u ne ∙ active_) wants_now in
                  rw (there, dirty) (either (gone p))
                where
                  either : (c : Bool) → (c || true) ≡ true
                  either true = refl
                  either false = refl

      good_before : IsKept form size o h (left_state (with_one t chosen) state) old.pool image
      good_before = every (with_one t chosen) first (changes.closed set_ closed) needed_

      limbo : left_state (with_one t chosen) state t ≡ Limbo
      limbo = rw (with_t, active) refl

      states : committing t (left_state (with_one t chosen) state) ≡ left_state chosen now
      states = fun_ext (λ u. at u (cases_eq u t))
        where
          at : (u : ℕ) → (u ≡ t) ⊎ (u ≢ t)
              → committing t (left_state (with_one t chosen) state) u ≡ left_state chosen now u
          at u (inl same) = rw (same, eq-eqb t t refl, committed) refl
          at u (inr ne) = rw (ne_eqb u t ne, others u ne) refl

      settled : IsKept form size o (e ∷ h) (left_state chosen now) old.pool image
      settled = subst (λ (s : ℕ → TxState). IsKept form size o (e ∷ h) s old.pool image) states
          (commit_kept form size o h e (left_state (with_one t chosen) state) t limbo brings old.pool image
          good_before)

pub commit_changes_every : (form : Form) → HasNoSequences form → CommitChanges form
commit_changes_every form none size o h e state now t old new gone batch orders needs later page place
    changes active committed others ready left brings one tip drawn ordered every = record {
      without = λ chosen set_ closed has out. change_without form none size o h e state now t old new gone batch
          orders needs later page place changes active committed others ready left brings one tip drawn ordered
          every chosen set_ closed has out;
      within = λ chosen set_ closed has in_set. change_within form none size o h e state now t old new gone batch
          orders needs later page place changes active committed others ready left brings one tip drawn ordered
          every chosen set_ closed has in_set;
    }

-- ---- page writes

module _ (good better : Keeping) (page : ℕ) (before_ : Pages) (state now : ℕ → TxState)
    (old new : Cache) (gone : PageSet) (needs later : ℕ → PageSet) (writes : WritesPages old new gone)
    (left : NeedsOrGone gone needs later)
    (midway : EveryMidway good better page before_ state now old needs) where
  abbrev joined : PageSet → PageSet
  joined set_ p = gone p || set_ p

  either : (c : Bool) → (c || true) ≡ true
  either true = refl
  either false = refl

  has_needs : (s : ℕ → TxState) (chosen : ℕ → Bool) (set_ : PageSet) → HasNeeds s chosen later set_
      → HasNeeds s chosen needs (joined set_)
  has_needs s chosen set_ has u p is active wants = at (left u p wants)
    where
      at : (gone p ≡ true) ⊎ (later u p ≡ true) → joined set_ p ≡ true
      at (inl out) = rw out refl
      at (inr now_) = rw (has u p is active now_) (either (gone p))

  same : (set_ : PageSet) → IsClosed new set_ → overlay new set_ ≡ overlay old (joined set_)
  same set_ closed = fun_ext (writes.overlays set_ closed)

  pool : new.pool ≡ old.pool
  pool = fun_ext writes.pool

  with_page : (chosen : ℕ → Bool) (set_ : PageSet) → IsClosed new set_ → HasNeeds now chosen later set_
      → joined set_ page ≡ true → better (left_state chosen now) new.pool (overlay new set_)
  with_page chosen set_ closed has in_set =
      subst (better (left_state chosen now) new.pool) (sym (same set_ closed))
      (subst (λ (p : Pages). better (left_state chosen now) p (overlay old (joined set_))) (sym pool)
      (midway.within chosen (joined set_) (writes.closed set_ closed) (has_needs now chosen set_ has) in_set))

  pub midway_writes : gone page ≡ false → EveryMidway good better page before_ state now new later
  midway_writes stays = record {
    without = λ chosen set_ closed has out.
        subst (good (left_state chosen state) before_) (sym (same set_ closed))
        (midway.without chosen (joined set_) (writes.closed set_ closed) (has_needs state chosen set_ has)
        (rw (stays, out) refl));
    within = λ chosen set_ closed has in_set. with_page chosen set_ closed has
        (rw in_set (either (gone page)));
  }

  pub midway_written : gone page ≡ true → EveryOverlay better now new later
  midway_written out chosen set_ closed has = with_page chosen set_ closed has (rw out refl)

-- ---- a crash in between

pub midway_leaves : (form : Form) → MidwayLeaves form
midway_leaves form size o h e page before_ cache needs opening legal longer bits midway set_ closed =
    at (set_ page) refl
  where
    none : false ≡ true → ⊥
    none is = cc

    at : (c : Bool) → set_ page ≡ c
        → HoldsAll form size (overlay cache set_) o h ⊎ HoldsAll form size (overlay cache set_) o (e ∷ h)
    at false out = inl (kept_holds form size o h before_ (overlay cache set_) opening legal
        (λ t. (bits set_ closed t).0 out)
        (midway.without nobody set_ closed (λ t p is active needs_. absurd (none is)) out))
    at true in_set = inr (kept_holds form size o (e ∷ h) cache.pool (overlay cache set_) opening longer
        (λ t. (bits set_ closed t).1 in_set)
        (midway.within nobody set_ closed (λ t p is active needs_. absurd (none is)) in_set))
