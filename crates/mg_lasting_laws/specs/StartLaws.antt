-- A cache over a sound image with nothing dirty lasts with the history that begins with the image.
use Rattle.std.proofs.Common.{◌≡◌, ◌≢◌, ◌⊎◌, inl, inr, ◌<◌, ◌≤◌, ℕ, Bool, true, false, [], refl, sym, ap, ◌∙◌, subst, arith, le-ltb}
use Rattle.std.proofs.Math.Path.{fun_ext}
use Rattle.std.proofs.lemmas.Bool.{cases_lt, ne_eqb}
use Rattle.mg_base.specs.declared.transaction.TxState.{TxState}
use Rattle.mg_base.specs.declared.transaction.TxState.TheVariants.{Active, Committed, Dead, Limbo}
use Rattle.mg_careful.specs.CarefulWrite.{Cache, IsClosed, PageSet, Pages, overlay}
use Rattle.mg_model.specs.declared.opening.Opening.{Opening}
use Rattle.mg_model.specs.Legal.{MayBegin}
use Rattle.mg_model.specs.Laws.{OpeningsBegin}
use Rattle.mg_model.specs.Machine.{opening_state}
use Rattle.mg_model.specs.NumberLaws.{undrawn_is_dead}
use Rattle.mg_model.specs.Openings.{IsOpening}
use Rattle.mg_image.specs.Form.{Form}
use Rattle.mg_image.specs.Held.{AreChanges, IsHeld}
use Rattle.mg_image.specs.Histories.{Begins}
use Rattle.mg_image.specs.Inventory.{next_of, state_at}
use Rattle.mg_image.specs.Opening.{IsOpened, Opened}
use Rattle.mg_image.specs.RecordRules.{committed_in}
use Rattle.mg_image.specs.Sound.{IsSoundBy, facts_by}
use Rattle.mg_image_overlay_laws.specs.kept.KeptImages.{keeping}
use Rattle.mg_image_overlay_laws.specs.kept.StartLaws.{kept_by_itself}
use Rattle.mg_overlay_laws.specs.Overlays.{IsCleanAsDisk, left_by}
use Rattle.mg_overlay_laws.specs.StateLaws.{every_at_start}
use Rattle.mg_lasting_laws.specs.Lasting.{Lasts}

-- a cache with nothing dirty over an image that gives this opening
abbrev pub StartLasts : Form → Type 0
StartLasts form = (size : ℕ) (o : Opening) (cache : Cache) (has_asked : ℕ → Bool)
    (needs : ℕ → PageSet) (opened : Opened) → IsOpened form size cache.pool opened → Begins opened o
    → IsOpening o → ((p : ℕ) → cache.dirty p ≡ false) → IsCleanAsDisk cache
    → ((t p : ℕ) → needs t p ≡ false) → Lasts form size o [] cache has_asked needs

-- the bits of an image say what had become of each transaction when the history began
module _ (form : Form) (size : ℕ) (o : Opening) (pages : Pages) (opened : Opened)
    (is : IsOpened form size pages opened) (begins : Begins opened o) (opening : MayBegin o) where
  past : (t : ℕ) → next_of pages ≤ t → t ≢ 0 → state_at size pages t ≡ Dead
  unfolding state_at
  past t above some_ = rw (ne_eqb t 0 some_, le-ltb t (next_of pages) above) refl

  pub bits_at_start : (t : ℕ) → state_at size pages t ≡ opening_state o t
  bits_at_start t = at (cases_lt t (next_of pages))
    where
      next : next_of pages ≡ o.next.0
      next = sym is.next ∙ begins.next

      at : (t < next_of pages) ⊎ (next_of pages ≤ t) → state_at size pages t ≡ opening_state o t
      at (inl below) =
          let within : t < opened.next = subst (λ (n : ℕ). t < n) (sym is.next) below in
          sym (is.state t within) ∙ begins.state t within
      at (inr above) =
          let first = opening.first in
          let some_ : t ≢ 0 = λ zero. absurd (omega (arith, above, next, first, zero)) in
          past t above some_ ∙ sym (undrawn_is_dead o opening [] tt t (omega (arith, above, next)))

pub start_lasts : (form : Form) → OpeningsBegin → StartLasts form
start_lasts form begin size o cache has_asked needs opened is begins whole none clean no_needs = record {
  every = every_at_start (keeping form size o []) (opening_state o) cache needs none clean whole.ended
      (kept_by_itself form size o [] (opening_state o) cache.pool is.layout is.reading opened.rows
      opened.limbo
      (subst (λ (s : ℕ → TxState). IsSoundBy form size s cache.pool is.layout is.reading) states is.sound)
      (subst (λ (s : ℕ → TxState). IsHeld (facts_by s cache.pool is.layout)
      (committed_in (facts_by s cache.pool is.layout)) is.reading opened.rows) states is.held)
      begins.rows
      (subst (λ (s : ℕ → TxState). AreChanges (facts_by s cache.pool is.layout) is.reading opened.limbo)
      states is.limbo) (λ t name key limbo. begins.limbo t name key));
  bits = λ set_ closed t. ap (λ (image : Pages). state_at size image t) (same set_ closed)
      ∙ (bits t ∙ idle (opening_state o t) (whole.ended t));
  next = sym is.next ∙ begins.next;
  clean = clean;
  dirty = λ t p needed. let both : true ≡ false = sym needed ∙ no_needs t p in absurd cc;
  all = λ t not_asked p dirty. let both : true ≡ false = sym dirty ∙ none p in absurd cc;
}
  where
    bits : (t : ℕ) → state_at size cache.pool t ≡ opening_state o t
    bits = bits_at_start form size o cache.pool opened is begins (begin o whole)

    states : state_at size cache.pool ≡ opening_state o
    states = fun_ext bits

    idle : (s : TxState) → s ≢ Active → s ≡ left_by false s
    idle Active not_ = absurd (not_ refl)
    idle Limbo not_ = refl
    idle Dead not_ = refl
    idle Committed not_ = refl

    same : (set_ : PageSet) → IsClosed cache set_ → overlay cache set_ ≡ cache.pool
    same set_ closed = fun_ext (λ p. by p (set_ p) refl)
      where
        by : (p : ℕ) (b : Bool) → set_ p ≡ b → overlay cache set_ p ≡ cache.pool p
        by p true in_set = rw in_set refl
        by p false out = rw out (sym (clean p (none p)))
