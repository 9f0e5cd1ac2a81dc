-- What becomes of a transaction keeps what every overlay is, and how it starts.
use Rattle.std.proofs.Common.{◌≡◌, ◌≢◌, ◌==◌, ◌⊎◌, inl, inr, refl, sym, ap, ◌∙◌, subst, ℕ, Bool, true, false, ◌||◌}
use Rattle.std.proofs.Math.Path.{fun_ext}
use Rattle.std.proofs.lemmas.Bool.{cases_eq, eq-eqb, ne_eqb}
use Rattle.mg_base.specs.declared.transaction.TxState.{TxState}
use Rattle.mg_base.specs.declared.transaction.TxState.TheVariants.{Active, Limbo, Dead, Committed}
use Rattle.mg_careful.specs.CarefulWrite.{overlay}
use Rattle.mg_overlay_laws.specs.Laws.{BeginKeeps, EndKeeps, RollbackKeeps, StartIsEvery}
use Rattle.mg_overlay_laws.specs.Overlays.{HasNeeds, Keeping, left_by, left_state, without}

-- a transaction has its pages on the disk, and its end makes a good image of each in which it
-- counted as in limbo
pub ends_keep : (good better : Keeping) → EndKeeps good better
ends_keep good better state now t cache needs active none others ended settles every chosen set_ closed has =
    subst (λ (s : ℕ → TxState). better s cache.pool (overlay cache set_)) same
    (settles with_t (overlay cache set_) here (every with_t set_ closed needed))
  where
    with_t : ℕ → Bool
    with_t u = u == t || chosen u

    here : with_t t ≡ true
    here = rw (eq-eqb t t refl) refl

    other : (u : ℕ) → u ≢ t → with_t u ≡ chosen u
    other u ne = rw (ne_eqb u t ne) refl

    at_t : (a b : Bool) (s : TxState) → s ≢ Active → left_by a s ≡ left_by b s
    at_t a b Active not_ = absurd (not_ refl)
    at_t a b Limbo not_ = both a b
      where
        both : (a b : Bool) → left_by a Limbo ≡ left_by b Limbo
        both true true = refl
        both true false = refl
        both false true = refl
        both false false = refl
    at_t a b Dead not_ = both a b
      where
        both : (a b : Bool) → left_by a Dead ≡ left_by b Dead
        both true true = refl
        both true false = refl
        both false true = refl
        both false false = refl
    at_t a b Committed not_ = both a b
      where
        both : (a b : Bool) → left_by a Committed ≡ left_by b Committed
        both true true = refl
        both true false = refl
        both false true = refl
        both false false = refl

    same : left_state with_t now ≡ left_state chosen now
    same = fun_ext (λ u. at u (cases_eq u t))
      where
        at : (u : ℕ) → (u ≡ t) ⊎ (u ≢ t) → left_state with_t now u ≡ left_state chosen now u
        at u (inl e) = rw e (at_t (with_t t) (chosen t) (now t) ended)
        at u (inr ne) = ap (λ (b : Bool). left_by b (now u)) (other u ne)

    needed : HasNeeds state with_t needs set_
    needed u p is act needs_ = at (cases_eq u t)
      where
        at : (u ≡ t) ⊎ (u ≢ t) → set_ p ≡ true
        at (inl e) = let out = none p in let needed_ = rw e at needs_ in absurd cc
        at (inr ne) = has u p (sym (other u ne) ∙ is) (others u ne ∙ act) needs_

-- a transaction that is rolled back counts as dead, as it did where it wasn't chosen
pub rollback_keeps : (good better : Keeping) → RollbackKeeps good better
rollback_keeps good better state now t cache needs active dead others moves every chosen set_ closed has =
    subst (λ (s : ℕ → TxState). better s cache.pool (overlay cache set_)) same
    (moves without_t (overlay cache set_) out_ (every without_t set_ closed needed))
  where
    without_t : ℕ → Bool
    without_t = without t chosen

    out_ : without_t t ≡ false
    out_ = rw (eq-eqb t t refl) refl

    same : left_state without_t state ≡ left_state chosen now
    same = fun_ext (λ u. at u (cases_eq u t))
      where
        dead_by : (b : Bool) → Dead ≡ left_by b Dead
        dead_by true = refl
        dead_by false = refl

        at : (u : ℕ) → (u ≡ t) ⊎ (u ≢ t) → left_state without_t state u ≡ left_state chosen now u
        at u (inl e) = rw (e, eq-eqb t t refl, active, dead) (dead_by (chosen t))
        at u (inr ne) = rw (ne_eqb u t ne, others u ne) refl

    needed : HasNeeds state without_t needs set_
    needed u p is act needs_ = at (cases_eq u t)
      where
        at : (u ≡ t) ⊎ (u ≢ t) → set_ p ≡ true
        at (inl e) =
            let out : without_t u ≡ false = rw (e, eq-eqb t t refl) refl in
            let both : true ≡ false = sym is ∙ out in absurd cc
        at (inr ne) =
            let chosen_ : chosen u ≡ true = sym (rw (ne_eqb u t ne) refl) ∙ is in
            has u p chosen_ (others u ne ∙ act) needs_

-- a transaction begins: no image is another one, and none has a version of it
pub begin_keeps : (good better : Keeping) → BeginKeeps good better
begin_keeps good better state now t cache needs dead active others starts moves all clean every chosen set_ closed has =
    at (chosen t) refl
  where
    needed : HasNeeds state chosen needs set_
    needed u p is act needs_ = at (cases_eq u t)
      where
        at : (u ≡ t) ⊎ (u ≢ t) → set_ p ≡ true
        at (inl e) = has u p is (ap now e ∙ active) needs_
        at (inr ne) = has u p is (others u ne ∙ act) needs_

    good_before : good (left_state chosen state) cache.pool (overlay cache set_)
    good_before = every chosen set_ closed needed

    at : (b : Bool) → chosen t ≡ b → better (left_state chosen now) cache.pool (overlay cache set_)
    at false out = subst (λ (s : ℕ → TxState). better s cache.pool (overlay cache set_)) same
        (moves chosen (overlay cache set_) out good_before)
      where
        same : left_state chosen state ≡ left_state chosen now
        same = fun_ext (λ u. by u (cases_eq u t))
          where
            by : (u : ℕ) → (u ≡ t) ⊎ (u ≢ t) → left_state chosen state u ≡ left_state chosen now u
            by u (inl e) = rw (e, out, dead, active) refl
            by u (inr ne) = rw (others u ne) refl
    at true is =
        let whole : overlay cache set_ ≡ cache.pool = fun_ext in_pool in
        subst (better (left_state chosen now) cache.pool) (sym whole)
        (starts chosen (subst (good (left_state chosen state) cache.pool) whole good_before))
      where
        in_pool : (p : ℕ) → overlay cache set_ p ≡ cache.pool p
        in_pool p = by_bit (set_ p) (cache.dirty p) refl refl
          where
            by_bit : (b d : Bool) → set_ p ≡ b → cache.dirty p ≡ d
                → overlay cache set_ p ≡ cache.pool p
            by_bit true d in_set dirty = rw in_set refl
            by_bit false true out dirty =
                let in_set = has t p is active (all p dirty) in absurd cc
            by_bit false false out dirty = rw out (sym (clean p dirty))

-- where nothing is dirty and nobody is active there is one overlay, and it is the pool's image
pub every_at_start : (good : Keeping) → StartIsEvery good
every_at_start good state cache needs none clean idle start chosen set_ closed has =
    subst (λ (s : ℕ → TxState). good s cache.pool (overlay cache set_)) (sym states)
    (subst (good state cache.pool) (sym same) start)
  where
    same : overlay cache set_ ≡ cache.pool
    same = fun_ext (λ p. by p (set_ p) refl)
      where
        by : (p : ℕ) (b : Bool) → set_ p ≡ b → overlay cache set_ p ≡ cache.pool p
        by p true in_set = rw in_set refl
        by p false out = rw out (sym (clean p (none p)))

    states : left_state chosen state ≡ state
    states = fun_ext (λ t. by (chosen t) (state t) (idle t))
      where
        by : (b : Bool) (s : TxState) → s ≢ Active → left_by b s ≡ s
        by b Active not_ = absurd (not_ refl)
        by true Limbo not_ = refl
        by false Limbo not_ = refl
        by true Dead not_ = refl
        by false Dead not_ = refl
        by true Committed not_ = refl
        by false Committed not_ = refl
