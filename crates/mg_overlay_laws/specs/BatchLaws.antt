-- Page writes and batches keep what every overlay is.
use Rattle.std.proofs.Common.{◌≡◌, ◌⊎◌, inl, inr, refl, sym, ap, ◌∙◌, subst, ℕ, Bool, true, false, ◌||◌, List, Option, None}
use Rattle.std.specs.Prelude.{unwrap_or, if◌then◌else◌}
use Rattle.std.proofs.Math.Path.{fun_ext}
use Rattle.std.proofs.lemmas.Bool.{eq-eqb}
use Rattle.mg_base.specs.declared.transaction.TxState.{TxState}
use Rattle.mg_base.specs.declared.transaction.TxState.TheVariants.{Active}
use Rattle.mg_careful.specs.Precedence.{Orders}
use Rattle.mg_careful.specs.CarefulWrite.{Pages, PageSet, Cache, IsClosed, overlay}
use Rattle.mg_overlay_laws.specs.Laws.{BatchKeeps, NobodysBatchKeeps, RaisedBatchKeeps, WritesKeep}
use Rattle.mg_overlay_laws.specs.Overlays.{ChangesCache, EveryOverlay, HasNeeds, IsCleanAsDisk, KeepsNeeds, Keeping, LaysBatch, before, laid, left_state, without}

either_right : (a : Bool) → (a || true) ≡ true
either_right true = refl
either_right false = refl

pub writes_keep : (good : Keeping) → WritesKeep good
writes_keep good state old new gone needs now writes left every chosen set_ closed has =
    let pool : new.pool ≡ old.pool = fun_ext writes.pool in
    let same : overlay new set_ ≡ overlay old (λ p. gone p || set_ p) =
    fun_ext (writes.overlays set_ closed) in
    subst (λ (image : Pages). good (left_state chosen state) new.pool image) (sym same)
    (subst (λ (shown : Pages). good (left_state chosen state) shown
    (overlay old (λ p. gone p || set_ p))) (sym pool)
    (every chosen (λ p. gone p || set_ p) (writes.closed set_ closed) needed))
  where
    at : (t p : ℕ) → chosen t ≡ true → state t ≡ Active → (gone p ≡ true) ⊎ (now t p ≡ true)
        → (gone p || set_ p) ≡ true
    at t p is active (inl out) = rw out refl
    at t p is active (inr needed) = rw (has t p is active needed) (either_right (gone p))

    needed : HasNeeds state chosen needs (λ p. gone p || set_ p)
    needed t p is active needs_ = at t p is active (left t p needs_)

-- ---- a batch

-- what a changed batch says of the overlay of a closed set, and of the one that it is laid on
module _ (old new : Cache) (gone : PageSet) (batch : ℕ → Option (List ℕ)) (orders : Orders)
    (changes : ChangesCache old new gone batch orders) (set_ : PageSet) (closed : IsClosed new set_)
  where
    abbrev image : Pages
    image = overlay old (before old gone set_)

    pub overlay_is : overlay new set_ ≡ laid batch set_ image
    overlay_is = fun_ext (changes.overlays set_ closed)

    was : (p : ℕ) → set_ p ≡ true → image p ≡ old.pool p
    was p in_set = by_bits (gone p) (old.dirty p) refl refl
      where
        by_bits : (out dirty : Bool) → gone p ≡ out → old.dirty p ≡ dirty → image p ≡ old.pool p
        by_bits true dirty out is = rw out refl
        by_bits false true out is = rw (out, in_set, is) refl
        by_bits false false out is = rw (out, in_set, is) (sym (changes.was_clean p is))

    is_new : (p : ℕ) → set_ p ≡ true → laid batch set_ image p ≡ new.pool p
    is_new p in_set =
        subst (λ (b : Bool). unwrap_or (if b then batch p else None) (image p) ≡ new.pool p)
        (sym in_set) (ap (unwrap_or (batch p)) (was p in_set) ∙ sym (changes.pool p))

    in_new : (p : ℕ) → (set_ p ≡ true) ⊎ (new.dirty p ≡ false) → overlay new set_ p ≡ new.pool p
    in_new p (inl in_set) = rw in_set refl
    in_new p (inr clean) = by_bit (set_ p) refl
      where
        by_bit : (b : Bool) → set_ p ≡ b → overlay new set_ p ≡ new.pool p
        by_bit true in_set = rw in_set refl
        by_bit false out = rw out (sym (changes.is_clean p clean))

    before_it : (a b : ℕ) → orders a b ≡ true → set_ b ≡ true → laid batch set_ image a ≡ new.pool a
    before_it a b ordered in_set = by_dirty (new.dirty a) refl
      where
        by_dirty : (d : Bool) → new.dirty a ≡ d → laid batch set_ image a ≡ new.pool a
        by_dirty true dirty = sym (changes.overlays set_ closed a)
            ∙ in_new a (inl (changes.together set_ closed a b ordered dirty in_set))
        by_dirty false clean = sym (changes.overlays set_ closed a) ∙ in_new a (inr clean)

    pub lays : LaysBatch old.pool new.pool batch orders set_ image
    lays = record {
      was = was;
      is = is_new;
      first = before_it;
      together = λ a b ordered in_batch in_set.
          changes.together set_ closed a b ordered (changes.is_laid a in_batch) in_set;
    }

    -- the set that it was laid on had what the chosen ones needed
    module _ (state : ℕ → TxState) (chosen : ℕ → Bool) (needs now : ℕ → PageSet)
        (left : KeepsNeeds old gone needs now) (has : HasNeeds state chosen now set_) where
      pub needed : HasNeeds state chosen needs (before old gone set_)
      needed t p is act needs_ = by_page ((left t p needs_).0) ((left t p needs_).1)
        where
          by_page : old.dirty p ≡ true → (gone p ≡ true) ⊎ (now t p ≡ true)
              → before old gone set_ p ≡ true
          by_page dirty (inl out) = rw out refl
          by_page dirty (inr needs_now) = rw (has t p is act needs_now, dirty) (either_right (gone p))

-- the pool's own image is the overlay of all that is dirty
overlay_of_dirty : (cache : Cache) → IsCleanAsDisk cache → overlay cache cache.dirty ≡ cache.pool
overlay_of_dirty cache clean = fun_ext (λ p. by_bit p (cache.dirty p) refl)
  where
    by_bit : (p : ℕ) (b : Bool) → cache.dirty p ≡ b → overlay cache cache.dirty p ≡ cache.pool p
    by_bit p true dirty = rw dirty refl
    by_bit p false is = rw is (sym (clean p is))

pub good_of_pool : (good : Keeping) (state : ℕ → TxState) (cache : Cache) (needs : ℕ → PageSet)
    → IsCleanAsDisk cache → ((t p : ℕ) → needs t p ≡ true → cache.dirty p ≡ true)
    → EveryOverlay good state cache needs → (chosen : ℕ → Bool)
    → good (left_state chosen state) cache.pool cache.pool
good_of_pool good state cache needs clean dirty every chosen =
    subst (good (left_state chosen state) cache.pool) (overlay_of_dirty cache clean)
    (every chosen cache.dirty (record {
      only_dirty = λ p is. is;
      before = λ p q precedes is also. is;
    }) (λ t p is act needs_. dirty t p needs_))

pub change_keeps_always : (good better : Keeping) → NobodysBatchKeeps good better
change_keeps_always good better state old new gone batch orders needs now changes left keeps every
    chosen set_ closed has =
    subst (λ (i : Pages). better (left_state chosen state) new.pool i)
    (sym (overlay_is old new gone batch orders changes set_ closed))
    (keeps chosen set_ (overlay old (before old gone set_))
    (lays old new gone batch orders changes set_ closed)
    (good_of_pool good state old needs changes.was_clean (λ t p needs_. (left t p needs_).0) every chosen)
    (every chosen (before old gone set_) (changes.closed set_ closed)
    (needed old new gone batch orders changes set_ closed state chosen needs now left has)))

pub change_keeps : (good better : Keeping) → BatchKeeps good better
change_keeps good better state by old new gone batch orders needs now changes active left all keeps
    every chosen set_ closed has = at (chosen by) refl
  where
    first : PageSet
    first = before old gone set_

    good_before : good (left_state chosen state) old.pool (overlay old first)
    good_before = every chosen first (changes.closed set_ closed)
        (needed old new gone batch orders changes set_ closed state chosen needs now left has)

    good_pool : good (left_state chosen state) old.pool old.pool
    good_pool = good_of_pool good state old needs changes.was_clean (λ t p needs_. (left t p needs_).0)
        every chosen

    all_new : chosen by ≡ true → (p : ℕ) → overlay new set_ p ≡ new.pool p
    all_new is_by p = by_dirty (new.dirty p) refl
      where
        by_dirty : (d : Bool) → new.dirty p ≡ d → overlay new set_ p ≡ new.pool p
        by_dirty true dirty = in_new old new gone batch orders changes set_ closed p
            (inl (has by p is_by active (all p dirty)))
        by_dirty false clean = in_new old new gone batch orders changes set_ closed p (inr clean)

    at : (b : Bool) → chosen by ≡ b → better (left_state chosen state) new.pool (overlay new set_)
    at false out = subst (λ (i : Pages). better (left_state chosen state) new.pool i)
        (sym (overlay_is old new gone batch orders changes set_ closed))
        (keeps.part chosen set_ (overlay old first) out
        (lays old new gone batch orders changes set_ closed) good_pool good_before)
    at true is_by =
        let whole : overlay new set_ ≡ new.pool = fun_ext (all_new is_by) in
        subst (λ (i : Pages). better (left_state chosen state) new.pool i) (sym whole)
        (keeps.whole chosen is_by good_pool)

pub change_keeps_raised : (good better : Keeping) → RaisedBatchKeeps good better
change_keeps_raised good better state by old new gone batch orders needs now changes active left all
    keeps every = change_keeps good better state by old new gone batch orders needs now changes active
    left all (record { part = keeps.part; whole = whole }) every
  where
    whole : (chosen : ℕ → Bool) → chosen by ≡ true → good (left_state chosen state) old.pool old.pool
        → better (left_state chosen state) new.pool new.pool
    whole chosen is was = keeps.raise chosen is was
        (subst (better (left_state (without by chosen) state) new.pool) all_laid
        (keeps.part (without by chosen) (λ p. true) old.pool off lays_all good_without good_without))
      where
        off : without by chosen by ≡ false
        off = rw (eq-eqb by by refl) refl

        good_without : good (left_state (without by chosen) state) old.pool old.pool
        good_without = good_of_pool good state old needs changes.was_clean
            (λ t p needs_. (left t p needs_).0) every (without by chosen)

        lays_all : LaysBatch old.pool new.pool batch orders (λ p. true) old.pool
        lays_all = record {
          was = λ p in_set. refl;
          is = λ p in_set. sym (changes.pool p);
          first = λ a b ordered in_set. sym (changes.pool a);
          together = λ a b ordered in_batch in_set. refl;
        }

        all_laid : laid batch (λ p. true) old.pool ≡ new.pool
        all_laid = fun_ext (λ p. sym (changes.pool p))
