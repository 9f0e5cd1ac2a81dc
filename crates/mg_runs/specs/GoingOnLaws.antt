-- A next history can begin with each image that a run might have left, and goes on from a durable event of the run's.
use Rattle.std.proofs.Common.{◌≡◌, ◌⊎◌, inl, inr, ◌<◌, ◌≤◌, ◌&&◌, ◌||◌, ◌==◌, ℕ, Bool, true, false, List, [], ◌∷◌, refl, sym, ap, ◌∙◌, arith, lit≤}
use Rattle.std.specs.Prelude.{if◌then◌else◌, not}
use Rattle.std.proofs.lemmas.Bool.{cases_lt, false≢true}
use Rattle.mg_base.specs.Disk.{Meaning}
use Rattle.mg_base.specs.Image.{Image, page_at}
use Rattle.mg_base.specs.declared.transaction.TxState.TheVariants.{Committed, Dead}
use Rattle.mg_engine_meaning_laws.specs.BlankLaws.{header_is_made}
use Rattle.mg_engine_meaning_laws.specs.Closings.{GoesOnFrom}
use Rattle.mg_engine_meaning_laws.specs.ComposeLaws.{begins_with, goes_on_from}
use Rattle.mg_engine_meaning_laws.specs.Openings.{new_history}
use Rattle.mg_format.specs.Format.{IsUnmadeImage}
use Rattle.mg_grown_catalog_laws.specs.Grown.{CatalogGrows, EachMakes, OwnRowsAreNew, columns_table, comes_with_table, key_text, last_makes, makes_alone, makes_of}
use Rattle.mg_header.specs.declared.header.TheConstants.{GREATEST_NEXT}
use Rattle.mg_image.specs.Form.{packed_form}
use Rattle.mg_image.specs.Histories.{HoldsDurable, durable_committed}
use Rattle.mg_image.specs.Opening.{Holds, IsNew, sound_image, unmade_image}
use Rattle.mg_image_opening_laws.specs.Begun.{begun}
use Rattle.mg_image_opening_laws.specs.Openings.{packed_fitting}
use Rattle.mg_lasting_laws.specs.Crashes.{HoldsFrom, asked, is_failed_write, may_last}
use Rattle.mg_model.specs.Answers.{is_committed}
use Rattle.mg_model.specs.Catalog.{catalog_name}
use Rattle.mg_model.specs.Changes.{same_name}
use Rattle.mg_model.specs.History.{Begins, Effect, Ends, Entries, Gives, Looks, Makes, Marks, Nothing, Saves, TakesBack, effect_of, effect_with, entry}
use Rattle.mg_model.specs.Machine.{opening_state}
use Rattle.mg_model.specs.NewOpeningLaws.{new_is_opening}
use Rattle.mg_model.specs.NumberLaws.{undrawn_is_dead}
use Rattle.mg_model.specs.Laws.{OpeningsBegin}
use Rattle.mg_model.specs.Legal.{MayBegin, durable_limbo, is_lasting, is_limbo, with_asked}
use Rattle.mg_model.specs.Openings.{IsOpening}
use Rattle.mg_model.specs.declared.answer.Answer.{Answer}
use Rattle.mg_model.specs.declared.answer.Answer.TheVariants.{Fine, No, Rows, Tx}
use Rattle.mg_model.specs.declared.event.Event.{Event}
use Rattle.mg_model.specs.declared.event.Event.TheVariants as events
use Rattle.mg_model.specs.declared.opening.Opening.{Opening}
use Rattle.mg_space.specs.Taking.{IsFree}
use Rattle.mg_runs.specs.Entry.{IsOpeningOf, of_new, of_sound, promising}
use Rattle.mg_runs.specs.GoingOn.{FreeStays, GoesOnAt, LeftIsEntry}
use Rattle.mg_runs.specs.PromisingLaws.{any_free_begins}

-- ---- the event that is under way

-- a durable event makes no row of the catalog
lasting_makes : (h : Entries) (event : Event) → is_lasting event ≡ true
    → makes_alone h (effect_of (entry event Fine)) ≡ true
lasting_makes h (events.Prepare t) is = refl
lasting_makes h (events.Commit t) is = refl
lasting_makes h (events.Decide t commit) is = refl
lasting_makes h (events.Begin session mode) is = absurd cc
lasting_makes h (events.Look t) is = absurd cc
lasting_makes h (events.Find t table test) is = absurd cc
lasting_makes h (events.Claim t table) is = absurd cc
lasting_makes h (events.Insert t table row) is = absurd cc
lasting_makes h (events.Change t table key row) is = absurd cc
lasting_makes h (events.Erase t table key) is = absurd cc
lasting_makes h (events.Mark t) is = absurd cc
lasting_makes h (events.UndoMark t) is = absurd cc
lasting_makes h (events.Savepoint t name) is = absurd cc
lasting_makes h (events.BackTo t name) is = absurd cc
lasting_makes h (events.Rollback t) is = absurd cc

-- and no failed one does
failed_none : (t : ℕ) (name : List ℕ) (lasting : Bool) (event : Event) (said : Answer)
    → (lasting && is_failed_write said) ≡ true → makes_of t name (effect_with event said) ≡ false
failed_none t name false event said is = absurd (false≢true is)
failed_none t name true event Fine is = absurd (false≢true is)
failed_none t name true event (Tx u) is = absurd (false≢true is)
failed_none t name true event (Rows rows) is = absurd (false≢true is)
failed_none t name true event (No refusal) is = refl

last_still : (t : ℕ) (name : List ℕ) (h : Entries) → last_makes t name h ≡ true → last_makes t name (asked h) ≡ true
last_still t name [] last = last
last_still t name (e ∷ h) last = at (may_last e) refl
  where
    at : (b : Bool) → may_last e ≡ b → last_makes t name (if b then with_asked h e.event else e ∷ asked h) ≡ true
    at true is = absurd (false≢true (sym (failed_none t name (is_lasting e.event) e.event e.answer is) ∙ last))
    at false is = last

comes_still : (t : ℕ) (text : List ℕ) (h : Entries) → comes_with_table t text h ≡ true
    → comes_with_table t text (asked h) ≡ true
comes_still t [] h is = is
comes_still t (letter ∷ rest) h is = at (letter == 84) (letter == 67) is
  where
    at : (a b : Bool) → (a || (b && last_makes t (columns_table rest) h)) ≡ true
        → (a || (b && last_makes t (columns_table rest) (asked h))) ≡ true
    at true b is_ = refl
    at false true is_ = last_still t (columns_table rest) h is_
    at false false is_ = is_

still_alone : (h : Entries) (f : Effect) → makes_alone h f ≡ true → makes_alone (asked h) f ≡ true
still_alone h (Makes t table row) is = at (not (same_name table catalog_name)) is
  where
    at : (a : Bool) → (a || comes_with_table t (key_text row) h) ≡ true
        → (a || comes_with_table t (key_text row) (asked h)) ≡ true
    at true is_ = refl
    at false is_ = comes_still t (key_text row) h is_
still_alone h (Begins t mode) is = is
still_alone h (Looks t) is = is
still_alone h (Gives t table key row) is = is
still_alone h (Marks t) is = is
still_alone h (Saves t name) is = is
still_alone h (TakesBack t point) is = is
still_alone h (Ends t end) is = is
still_alone h Nothing is = is

asked_makes : (h : Entries) → EachMakes h → EachMakes (asked h)
asked_makes [] each = tt
asked_makes (e ∷ h) each = at (may_last e) refl (asked_makes h each.1)
  where
    of_both : (a b : Bool) → (a && b) ≡ true → a ≡ true
    of_both true b is = refl
    of_both false b is = absurd (false≢true is)

    at : (b : Bool) → may_last e ≡ b → EachMakes (asked h) → EachMakes (if b then with_asked h e.event else e ∷ asked h)
    at true is more = (lasting_makes h e.event (of_both (is_lasting e.event) (is_failed_write e.answer) is), each.1)
    at false is more = (still_alone h (effect_of e) each.0, more)

pub asked_grows : (o : Opening) (h : Entries) → CatalogGrows o h → CatalogGrows o (asked h)
asked_grows o h grows = record { limbo = grows.limbo; entries = asked_makes h grows.entries }

-- ---- openings

new_opens : (free : ℕ) → IsOpening (new_history free)
new_opens free = new_is_opening GREATEST_NEXT free (lit≤ tt) (lit≤ tt)

-- what a history begins with that stands on an image is whole, and what is in limbo has only made rows of the catalog
pub opening_is : (size limit : ℕ) (image : Image) (o : Opening) → IsOpeningOf size limit image o
    → IsOpening o × CatalogGrows o []
opening_is size limit image _ (of_new free unmade room) =
    (new_opens free, record { limbo = tt; entries = tt })
opening_is size limit image _ (of_sound o it has) = (it.whole, it.grows)

-- ---- an image on which a database may be made

module _ (begin : OpeningsBegin) (size : ℕ) (image : Image) (o : Opening) (h : Entries) (k : ℕ)
    (held : HoldsDurable packed_form size (page_at size image) o h k) (unmade : IsUnmadeImage size image)
    (new : IsNew held.opened) where
  first : (t : ℕ) → t < held.opened.next → t ≡ 0
  first t below = let one = new.next in omega (arith, below, one)

  past_first : (t : ℕ) → held.opened.next ≤ t → 1 ≤ t
  past_first t past = let one = new.next in omega (arith, past, one)

  first_state : (t : ℕ) → t < held.opened.next → held.opened.state t ≡ Committed
  first_state t below = ap held.opened.state (first t below) ∙ new.state

  state_at_first : (t : ℕ) → t < held.opened.next → opening_state (new_history 0) t ≡ Committed
  state_at_first t below = ap (opening_state (new_history 0)) (first t below)

  its_states : (t : ℕ) → (t < held.opened.next) ⊎ (held.opened.next ≤ t)
      → (is_committed (opening_state (new_history 0) t) ≡ durable_committed o h k t)
      × (is_limbo (opening_state (new_history 0) t) ≡ durable_limbo o h k t)
  its_states t (inl below) = (
    ap is_committed (state_at_first t below ∙ sym (first_state t below)) ∙ held.committed t below,
    ap is_limbo (state_at_first t below ∙ sym (first_state t below)) ∙ held.limbo t below,
  )
  its_states t (inr past) =
      let dead : opening_state (new_history 0) t ≡ Dead =
      undrawn_is_dead (new_history 0) (begin (new_history 0) (new_opens 0)) [] tt t (past_first t past) in (
        ap is_committed dead ∙ sym (held.undrawn t past).0,
        ap is_limbo dead ∙ sym (held.undrawn t past).1,
      )

  none_in_limbo : (t : ℕ) → durable_limbo o h k t ≡ true → (t < held.opened.next) ⊎ (held.opened.next ≤ t) → ⊥
  none_in_limbo t is (inl below) =
      let none : is_limbo (held.opened.state t) ≡ false = ap is_limbo (first_state t below) in
      false≢true (sym none ∙ (held.limbo t below ∙ is))
  none_in_limbo t is (inr past) = false≢true (sym (held.undrawn t past).1 ∙ is)

  new_goes_on : GoesOnFrom o h k (new_history 0)
  new_goes_on = record {
    rows = λ name key. sym (new.rows name key) ∙ held.rows name key;
    committed = λ t. (its_states t (cases_lt t held.opened.next)).0;
    limbo = λ t. (its_states t (cases_lt t held.opened.next)).1;
    changes = λ t name key limbo. absurd (none_in_limbo t limbo (cases_lt t held.opened.next));
  }

  pub new_next : GoesOnAt size o h k image
  new_next = record {
    later = new_history 0;
    goes_on = new_goes_on;
    opening = λ limit free plain may. of_new free unmade (may.0 unmade);
  }

-- ---- any image that holds a history

pub goes_on_at : OpeningsBegin → OwnRowsAreNew → (size : ℕ) (o : Opening) (h : Entries) (least : ℕ) (image : Image)
    → MayBegin o → CatalogGrows o h → (from : HoldsFrom packed_form size o h least image)
    → GoesOnAt size o h from.k image
goes_on_at begin own_new size o h least image opening grows from = at from.holds.holds
  where
    at : Holds packed_form size (page_at size image) from.holds.opened → GoesOnAt size o h from.k image
    at (unmade_image unmade new) = new_next begin size image o h from.k from.holds unmade new
    at (sound_image is) = record {
      later = begun packed_form packed_fitting size (page_at size image) from.holds.opened is;
      goes_on = goes_on_from begin own_new size image o h from.k opening from.legal grows from.holds is;
      opening = λ limit free plain may. of_sound
          (promising free (begun packed_form packed_fitting size (page_at size image) from.holds.opened is))
          (any_free_begins size image (begun packed_form packed_fitting size (page_at size image) from.holds.opened is)
          free (begins_with begin own_new size image o h from.k opening from.legal grows from.holds is plain))
          (may.1 (header_is_made size size image is.sound.header refl));
    }

-- a disk with it is one on which a next run has its history
pub left_is_entry : {D : Type 0} (m : Meaning D) → LeftIsEntry m
left_is_entry m disk limit free size image o h k next sized lawful whole settled plain may = record {
  sized = sized;
  lawful = lawful;
  whole = whole;
  settled = settled;
  opening = next.opening limit free plain may;
}

-- ---- free pages

pub free_stays : FreeStays
free_stays size low high pages free more has = record {
  page = has.page;
  free = λ i inside. higher (has.page i) (has.free i inside);
  apart = has.apart;
}
  where
    higher : (n : ℕ) → IsFree (record { size = size; limit = low }) pages n
        → IsFree (record { size = size; limit = high }) pages n
    higher n is = record {
      below = let below = is.below in omega (arith, below, more);
      region = let region = is.region in omega (arith, region, more);
      no_header = is.no_header;
      no_inventory = is.no_inventory;
      unused = is.unused;
    }
