-- What every crash leaves: from what every overlay is, where nobody is chosen.
use Rattle.mg_image_overlay_laws.specs.transactions.Begins.{markers_are}
use Rattle.mg_base.specs.declared.transaction.TxState.{TxState}
use Rattle.mg_base.specs.declared.transaction.TxState.TheVariants.{Active, Committed, Dead, Limbo}
use Rattle.mg_careful.specs.CarefulWrite.{Cache, IsClosed, PageSet, overlay}
use Rattle.mg_image.specs.Form.{Form, Pages}
use Rattle.mg_image.specs.Held.{AreChanges, IsHeld}
use Rattle.mg_image.specs.Histories.{HoldsDurable, durable_committed, newest_at}
use Rattle.mg_image.specs.Inventory.{bits_state, next_of, settled, state_at}
use Rattle.mg_image.specs.Opening.{Opened, sound_image}
use Rattle.mg_image.specs.RecordRules.{committed_in}
use Rattle.mg_image.specs.Records.{Reading}
use Rattle.mg_image.specs.Sound.{IsSound, IsSoundBy, facts_by}
use Rattle.mg_image.specs.Tables.{Layout}
use Rattle.mg_model.specs.DurableCommitLaws.{durable_is_committed}
use Rattle.mg_image_overlay_laws.specs.kept.KeptImages.{IsKept, keeping}
use Rattle.mg_model.specs.Answers.{is_committed}
use Rattle.mg_model.specs.Changes.{row_at}
use Rattle.mg_model.specs.DurableLaws.{durable_is_database}
use Rattle.mg_model.specs.History.{Entries}
use Rattle.mg_model.specs.Legal.{IsLegal, MayBegin, durable_count, durable_limbo, is_limbo}
use Rattle.mg_model.specs.LimboLaws.{durable_is_limbo, durable_is_own}
use Rattle.mg_model.specs.Machine.{state_of}
use Rattle.mg_model.specs.declared.opening.Opening.{Opening}
use Rattle.mg_overlay_laws.specs.Overlays.{EveryOverlay, left_by, left_state, nobody}
use Rattle.std.proofs.Common.{Bool, ap, arith, false, le-ltb, nat_lt, refl, subst, sym, true, ℕ, ◌==◌, ◌∙◌, ◌≡◌, ◌≤◌}
use Rattle.std.proofs.Math.Path.{fun_ext}
use Rattle.std.proofs.lemmas.Bool.{ne_eqb}
use Rattle.std.specs.Prelude.{if◌then◌else◌}

-- in each overlay the bits say of each transaction what becomes of it where nobody is chosen
abbrev pub AreBits : ℕ → (ℕ → TxState) → Cache → Type 0
AreBits size state cache = (set_ : PageSet) → IsClosed cache set_ → (t : ℕ)
    → state_at size (overlay cache set_) t ≡ left_state nobody state t

-- What an image holds of a history that a crash ends: it is sound by its own bits, and holds what
-- outlasts a crash after all durable events.
pub record HoldsAll (form : Form) (size : ℕ) (image : Pages) (o : Opening) (h : Entries) : Type 0 where
  pub layout : Layout
  pub reading : Reading
  pub sound : IsSound form size image layout reading
  pub durable : HoldsDurable form size image o h (durable_count h)

limbo_left : (s : TxState) → is_limbo (left_by false s) ≡ is_limbo s
limbo_left Active = refl
limbo_left Limbo = refl
limbo_left Dead = refl
limbo_left Committed = refl

committed_left : (s : TxState) → is_committed (left_by false s) ≡ is_committed s
committed_left Active = refl
committed_left Limbo = refl
committed_left Dead = refl
committed_left Committed = refl

to_limbo : (s : TxState) → is_limbo s ≡ true → left_by false s ≡ Limbo
to_limbo Active is = absurd cc
to_limbo Limbo is = refl
to_limbo Dead is = absurd cc
to_limbo Committed is = absurd cc

-- a number that was not drawn is neither committed nor in limbo
undrawn_is_neither : (size : ℕ) (pages : Pages) (t : ℕ) → 1 ≤ next_of pages → next_of pages ≤ t
    → (is_committed (state_at size pages t) ≡ false) × (is_limbo (state_at size pages t) ≡ false)
unfolding state_at
undrawn_is_neither size pages t first past =
    at (t == 0) (nat_lt t (next_of pages)) (ne_eqb t 0 (λ none. omega (arith, first, past, none)))
    (le-ltb t (next_of pages) past)
  where
    at : (zero_ below : Bool) → zero_ ≡ false → below ≡ false
        → (is_committed (if zero_ then Committed
        else (if below then settled (bits_state size pages t) else Dead)) ≡ false)
        × (is_limbo (if zero_ then Committed
        else (if below then settled (bits_state size pages t) else Dead)) ≡ false)
    at zero_ below some_ undrawn = rw (some_, undrawn) (refl, refl)

pub kept_holds : (form : Form) (size : ℕ) (o : Opening) (h : Entries) (pool image : Pages)
    → MayBegin o → IsLegal o h
    → ((t : ℕ) → state_at size image t ≡ left_state nobody (state_of o h) t)
    → IsKept form size o h (left_state nobody (state_of o h)) pool image
    → HoldsAll form size image o h
kept_holds form size o h pool image opening legal bits kept = record {
  layout = kept.layout;
  reading = kept.reading;
  sound = sound_;
  durable = record {
    opened = opened;
    holds = sound_image (record {
      layout = kept.layout;
      reading = kept.reading;
      sound = sound_;
      held = subst (λ (s : ℕ → TxState). IsHeld (facts_by s image kept.layout)
          (committed_in (facts_by s image kept.layout)) kept.reading kept.rows) (sym same) kept.held;
      limbo = subst (λ (s : ℕ → TxState). AreChanges (facts_by s image kept.layout) kept.reading
          kept.changes) (sym same) kept.changed;
      next = refl;
      state = λ t below. refl;
    });
    rows = λ name key. kept.rows_are name key
        ∙ sym (ap (λ cs. row_at cs name key) (durable_is_database o h));
    committed = λ t below. committed t;
    limbo = λ t below. limbo t;
    undrawn = λ t past. (
      sym (committed t) ∙ (undrawn_is_neither size image t first past).0,
      sym (limbo t) ∙ (undrawn_is_neither size image t first past).1,
    );
    changes = λ t name key is.
        let now : is_limbo (state_of o h t) ≡ true = sym (durable_is_limbo o opening h legal t) ∙ is in
        kept.changes_are t name key (to_limbo (state_of o h t) now)
        ∙ sym (ap (λ cs. newest_at cs name key) (durable_is_own o opening h legal t now));
  };
}
  where
    same : state_at size image ≡ left_state nobody (state_of o h)
    same = fun_ext bits

    sound_ : IsSound form size image kept.layout kept.reading
    sound_ = subst (λ (s : ℕ → TxState). IsSoundBy form size s image kept.layout kept.reading) (sym same)
        kept.sound

    opened : Opened
    opened = record {
      rows = kept.rows;
      limbo = kept.changes;
      next = next_of image;
      state = state_at size image;
    }

    first : 1 ≤ next_of image
    first = (markers_are size image kept.sound.header).0

    committed : (t : ℕ) → is_committed (state_at size image t)
        ≡ durable_committed o h (durable_count h) t
    committed t = ap is_committed (bits t) ∙ (committed_left (state_of o h t)
        ∙ sym (durable_is_committed o opening h legal t))

    limbo : (t : ℕ) → is_limbo (state_at size image t) ≡ durable_limbo o h (durable_count h) t
    limbo t = ap is_limbo (bits t) ∙ (limbo_left (state_of o h t)
        ∙ sym (durable_is_limbo o opening h legal t))

-- the overlay of every closed set holds the history
pub overlays_hold : (form : Form) (size : ℕ) (o : Opening) (h : Entries) (cache : Cache)
    (needs : ℕ → PageSet) → MayBegin o → IsLegal o h → AreBits size (state_of o h) cache
    → EveryOverlay (keeping form size o h) (state_of o h) cache needs
    → (set_ : PageSet) → IsClosed cache set_ → HoldsAll form size (overlay cache set_) o h
overlays_hold form size o h cache needs opening legal bits every set_ closed =
    kept_holds form size o h cache.pool (overlay cache set_) opening legal (bits set_ closed)
    (every nobody set_ closed (λ t p is active needs_. absurd (none is)))
  where
    none : false ≡ true → ⊥
    none is = cc
