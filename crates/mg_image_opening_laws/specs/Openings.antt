-- Each image that opens gives what a history may begin with.
use Rattle.std.proofs.Common.{◌≡◌, sym, subst, arith, lit≤, ◌<◌, ℕ, zero, suc}
use Rattle.mg_model.specs.Machine.{opening_state}
use Rattle.mg_model.specs.NewDatabase.{new_opening}
use Rattle.mg_model.specs.NewOpeningLaws.{new_is_opening}
use Rattle.mg_model.specs.Openings.{IsOpening}
use Rattle.mg_model.specs.declared.opening.Opening.{Opening}
use Rattle.mg_model.specs.declared.opening.TheConstants.{MOST_TRANSACTIONS}
use Rattle.mg_value.specs.Rows.{RowFits, columns_of}
use Rattle.mg_image.specs.Form.{Form, packed_coding, plain_coding}
use Rattle.mg_image.specs.Histories.{Begins, GivesOpening}
use Rattle.mg_image.specs.Opening.{Holds, IsNew, Opened, sound_image, unmade_image}
use Rattle.mg_image_overlay_laws.specs.kept.HeldSome.{sound_opens}
use Rattle.mg_image_opening_laws.specs.Begun.{begins, begun, whole}
use Rattle.mg_image_opening_laws.specs.Fits.{SpellsFitting, first_fits}
use Rattle.mg_image_opening_laws.specs.Laws.{OpenedBegin, SoundHaveOpenings}

pub packed_fitting : SpellsFitting packed_coding
packed_fitting columns format body row later first is =
    subst (RowFits columns) (sym is.whole) (first_fits columns is.values later
    (subst (λ (n : ℕ). RowFits (columns_of columns n) is.values) first is.fits))

pub plain_fitting : SpellsFitting plain_coding
plain_fitting columns format body row later first is =
    subst (RowFits columns) (sym is.whole) (first_fits columns is.values later
    (subst (λ (n : ℕ). RowFits (columns_of columns n) is.values) first is.fits))

new_begins : (opened : Opened) → IsNew opened → Begins opened (new_opening MOST_TRANSACTIONS 0)
new_begins opened new = record {
  rows = new.rows;
  limbo = new.limbo;
  next = new.next;
  state = λ t below. at t (subst (λ (n : ℕ). t < n) new.next below);
}
  where
    at : (t : ℕ) → t < 1 → opened.state t ≡ opening_state (new_opening MOST_TRANSACTIONS 0) t
    at zero below = new.state
    at (suc t) below = absurd (omega (arith, below))

pub opened_begin : (form : Form) → SpellsFitting form.coding → OpenedBegin form
opened_begin form fitting size pages opened (unmade_image unmade new) = (
  new_opening MOST_TRANSACTIONS 0,
  new_begins opened new,
  new_is_opening MOST_TRANSACTIONS 0 (lit≤ tt) (lit≤ tt),
)
opened_begin form fitting size pages opened (sound_image is) = (
  begun form fitting size pages opened is,
  begins form fitting size pages opened is,
  whole form fitting size pages opened is,
)

pub sound_have : (form : Form) → SpellsFitting form.coding → SoundHaveOpenings form
sound_have form fitting size pages layout r sound = on (sound_opens form size pages layout r sound)
  where
    on : (opened : Opened) × Holds form size pages opened
        → (o : Opening) × GivesOpening form size pages o
    on (opened, holds) = by (opened_begin form fitting size pages opened holds)
      where
        by : (o : Opening) × Begins opened o × IsOpening o → (o : Opening) × GivesOpening form size pages o
        by (o, its, so) = (o, record { opened = opened; holds = holds; begins = its; whole = so })
