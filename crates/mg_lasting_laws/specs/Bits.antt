-- The bits of overlays: they are those of the pool, for each transaction that was drawn there.
use Rattle.std.proofs.Common.{◌≡◌, ◌≢◌, ◌⊎◌, inl, inr, ◌<◌, ◌≤◌, ◌/◌, ◌%◌, ◌-◌, ℕ, List, false, refl, sym, ap, ◌∙◌, subst, arith, le-ltb}
use Rattle.std.proofs.lemmas.Bool.{cases_eq, cases_lt, eq-eqb, lt-ltb, ne_eqb}
use Rattle.mg_base.specs.declared.transaction.TxState.{TxState}
use Rattle.mg_base.specs.declared.transaction.TxState.TheVariants.{Active, Limbo, Dead, Committed}
use Rattle.mg_careful.specs.CarefulWrite.{Pages}
use Rattle.mg_image.specs.Inventory.{bits_state, last_sequence, next_of, settled, state_at}
use Rattle.mg_image.specs.Tables.{Layout}
use Rattle.mg_image_overlay_laws.specs.kept.Rest.{div_grows}
use Rattle.mg_image_overlay_laws.specs.kept.KeptImages.{IsBehind}
use Rattle.mg_overlay_laws.specs.Overlays.{left_by, left_state, nobody}
use Rattle.mg_tip.specs.TipPage.{places, state_in}

-- a transaction is committed or in limbo: its bits say so
abbrev pub IsSettled : TxState → Type 0
IsSettled Active = ⊥
IsSettled Limbo = Unit {0}
IsSettled Dead = ⊥
IsSettled Committed = Unit {0}

-- a number that an image has not drawn is not settled there
pub settled_drawn : (size : ℕ) (image : Pages) (t : ℕ) → t ≢ 0 → IsSettled (state_at size image t)
    → t < next_of image
unfolding state_at
settled_drawn size image t some_ is = at (cases_lt t (next_of image))
  where
    at : (t < next_of image) ⊎ (next_of image ≤ t) → t < next_of image
    at (inl less) = less
    at (inr past) =
        let dead : state_at size image t ≡ Dead =
        rw (ne_eqb t 0 some_, le-ltb t (next_of image) past) refl in
        absurd (subst IsSettled dead is)

-- the bits of an image that is behind the pool's are the pool's, where it has drawn who is settled
pub bits_behind : (size : ℕ) (pool image : Pages) (of_pool of_image : Layout) (state : ℕ → TxState)
    → IsBehind size pool image of_pool of_image → 1 ≤ next_of image
    → ((t : ℕ) → state_at size pool t ≡ left_state nobody state t)
    → ((t : ℕ) → t ≢ 0 → IsSettled (state t) → t < next_of image)
    → (t : ℕ) → state_at size image t ≡ left_state nobody state t
unfolding state_at
bits_behind size pool image of_pool of_image state behind first bits drawn t = by (cases_eq t 0)
  where
    past_is : next_of image ≤ t → t ≢ 0 → (s : TxState) → state t ≡ s → Dead ≡ left_by false s
    past_is past some_ Active is = refl
    past_is past some_ Dead is = refl
    past_is past some_ Limbo is =
        let below : t < next_of image = drawn t some_ (subst IsSettled (sym is) tt) in
        absurd (omega (arith, past, below))
    past_is past some_ Committed is =
        let below : t < next_of image = drawn t some_ (subst IsSettled (sym is) tt) in
        absurd (omega (arith, past, below))

    same_bits : t < next_of image → bits_state size image t ≡ bits_state size pool t
    same_bits below =
        let within : t / places size ≤ last_sequence size image =
        div_grows t (next_of image - 1) (places size) (omega (arith, below)) in
        let tips = behind.tips (t / places size) within in
        ap (λ (b : List ℕ). state_in b (t % places size)) tips.1

    some : t ≢ 0 → (t < next_of image) ⊎ (next_of image ≤ t)
        → state_at size image t ≡ left_state nobody state t
    some some_ (inl below) =
        let later = behind.next in
        let also : t < next_of pool = omega (arith, below, later) in
        let here : state_at size image t ≡ settled (bits_state size image t) =
        rw (ne_eqb t 0 some_, lt-ltb t (next_of image) below) refl in
        let there : state_at size pool t ≡ settled (bits_state size pool t) =
        rw (ne_eqb t 0 some_, lt-ltb t (next_of pool) also) refl in
        here ∙ (ap settled (same_bits below) ∙ (sym there ∙ bits t))
    some some_ (inr past) =
        let here : state_at size image t ≡ Dead =
        rw (ne_eqb t 0 some_, le-ltb t (next_of image) past) refl in
        here ∙ past_is past some_ (state t) refl

    by : (t ≡ 0) ⊎ (t ≢ 0) → state_at size image t ≡ left_state nobody state t
    by (inl zero) =
        let here : state_at size image t ≡ Committed = rw (eq-eqb t 0 zero) refl in
        let there : state_at size pool t ≡ Committed = rw (eq-eqb t 0 zero) refl in
        here ∙ (sym there ∙ bits t)
    by (inr some_) = some some_ (cases_lt t (next_of image))
