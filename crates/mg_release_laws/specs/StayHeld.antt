-- Opening an image from which orphan pages are released gives what it gave.
use Rattle.std.specs.Prelude.{◌≡◌, ◌<◌, ◌≤◌, ◌-◌, ◌/◌, ◌%◌, ◌==◌, ℕ, Bool, true, false, nat_lt, List, if◌then◌else◌}
use Rattle.std.proofs.Common.{refl, sym, ap, ◌∙◌, arith, subst}
use Rattle.std.proofs.lemmas.Bool.{ltb-true}
use Rattle.mg_base.specs.Image.{Image, page_at}
use Rattle.mg_base.specs.declared.transaction.TxState.{TxState}
use Rattle.mg_base.specs.declared.transaction.TxState.TheVariants.{Committed, Dead}
use Rattle.mg_header.specs.declared.header.Header.{Header}
use Rattle.mg_image.specs.Form.{Form, Pages}
use Rattle.mg_image.specs.Held.{AreChanges, IsHeld}
use Rattle.mg_image.specs.Inventory.{bits_state, last_sequence, next_of, settled, state_at}
use Rattle.mg_image.specs.Opening.{IsOpened, Opened}
use Rattle.mg_image.specs.RecordRules.{Facts, committed_in}
use Rattle.mg_image.specs.Records.{Reading}
use Rattle.mg_image.specs.Sound.{IsSound, IsSoundBy, facts_by, facts_of}
use Rattle.mg_image.specs.Tables.{Layout}
use Rattle.mg_image_overlay_laws.specs.pages.Kinds.{HasNoSequences}
use Rattle.mg_image_overlay_laws.specs.kept.Rest.{div_grows}
use Rattle.mg_release.specs.Releasing.{Releases}
use Rattle.mg_release_laws.specs.Released.{MayGo, OpenedStays, SoundStays}
use Rattle.mg_release_laws.specs.StaySound.{facts_same, header_is, stays_sound, tip_is, tip_kept}
use Rattle.mg_tip.specs.TipPage.{places, state_in}

module _ (form : Form) (none : HasNoSequences form) (size : ℕ) (old new : Image) (gone : ℕ → Bool)
    (layout : Layout) (r : Reading) (sound : IsSound form size (page_at size old) layout r)
    (free : MayGo size (page_at size old) layout gone) (releases : Releases size old new gone) where
  abbrev O : Pages
  O = page_at size old

  abbrev N : Pages
  N = page_at size new

  next_is : next_of N ≡ next_of O
  next_is = ap (λ (h : Header). h.next.0)
      (header_is form none size (state_at size O) old new gone layout r sound free releases)

  -- a drawn transaction has its bits on the same page
  bits_same : (t : ℕ) → t < next_of O → bits_state size N t ≡ bits_state size O t
  bits_same t below = ap (λ (page : List ℕ). state_in page (t % places size))
      (ap N (tip_is form none size (state_at size O) old new gone layout r sound free releases
      (t / places size) within)
      ∙ tip_kept form none size (state_at size O) old new gone layout r sound free releases
      (t / places size) within)
    where
      within : t / places size ≤ last_sequence size O
      within = div_grows t (next_of O - 1) (places size) (omega (arith, below))

  states_same : (t : ℕ) → state_at size N t ≡ state_at size O t
  unfolding state_at
  states_same t =
      ap (λ (k : ℕ). if t == 0 then Committed
      else (if nat_lt t k then settled (bits_state size N t) else Dead)) next_is
      ∙ at (nat_lt t (next_of O)) refl
    where
      at : (c : Bool) → nat_lt t (next_of O) ≡ c
          → (if t == 0 then Committed else (if c then settled (bits_state size N t) else Dead))
          ≡ (if t == 0 then Committed else (if c then settled (bits_state size O t) else Dead))
      at true is = ap (λ (s : TxState). if t == 0 then Committed else settled s)
          (bits_same t (ltb-true t (next_of O) is))
      at false is = refl

  states_are : state_at size N ≡ state_at size O
  states_are = λ i t. states_same t i

  pub sound_still : IsSound form size N layout r
  sound_still = subst (λ (state : ℕ → TxState). IsSoundBy form size state N layout r) (sym states_are)
      (stays_sound form none size (state_at size O) old new gone layout r sound free releases)

  facts_are : facts_of size N layout ≡ facts_of size O layout
  facts_are = ap (λ (state : ℕ → TxState). facts_by state N layout) states_are
      ∙ facts_same form none size (state_at size O) old new gone layout r sound free releases

  pub opened_still : (opened : Opened)
      → IsHeld (facts_of size O layout) (committed_in (facts_of size O layout)) r opened.rows
      → AreChanges (facts_of size O layout) r opened.limbo → opened.next ≡ next_of O
      → ((t : ℕ) → t < opened.next → opened.state t ≡ state_at size O t)
      → IsOpened form size N opened
  opened_still opened held limbo next state = record {
    layout = layout;
    reading = r;
    sound = sound_still;
    held = subst (λ (f : Facts). IsHeld f (committed_in f) r opened.rows) (sym facts_are) held;
    limbo = subst (λ (f : Facts). AreChanges f r opened.limbo) (sym facts_are) limbo;
    next = next ∙ sym next_is;
    state = λ t below. state t below ∙ sym (states_same t);
  }

pub sound_law : (form : Form) → HasNoSequences form → SoundStays form
sound_law form none size old new gone layout r sound free releases =
    sound_still form none size old new gone layout r sound free releases

pub opened_law : (form : Form) → HasNoSequences form → OpenedStays form
opened_law form none size old new gone opened is free releases =
    opened_still form none size old new gone is.layout is.reading is.sound free releases opened is.held
    is.limbo is.next is.state
