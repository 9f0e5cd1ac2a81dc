-- What a closed engine leaves is what another one begins with.
use Rattle.std.proofs.Common.{◌≡◌, ◌⊎◌, inl, inr, ◌<◌, ◌≤◌, ℕ, List, [], ◌∷◌, Ok, refl, sym, ap, ◌∙◌, subst}
use Rattle.std.proofs.lemmas.Bool.{cases_lt}
use Rattle.mg_base.specs.Checks.{PassesAll}
use Rattle.mg_base.specs.Disk.{Meaning}
use Rattle.mg_base.specs.Fields.{u32_at}
use Rattle.mg_base.specs.Image.{Image, blank, page_at}
use Rattle.mg_core.specs.declared.parts.Core.{Core}
use Rattle.mg_engine_meaning_laws.specs.Standings.{ShowsIt, StandsWhile, standing_of}
use Rattle.mg_grown_catalog_laws.specs.Grown.{CatalogGrows, OwnRowsAreNew}
use Rattle.mg_header.specs.HeaderPage.{database_checks, file_checks, reading}
use Rattle.mg_header.specs.HeaderPageLaws.{reading_ok}
use Rattle.mg_header.specs.declared.header.Header.{Header}
use Rattle.mg_header.specs.declared.header.TheConstants.{PAGE_SIZE_AT}
use Rattle.mg_image.specs.Form.{packed_form}
use Rattle.mg_base.specs.declared.transaction.TxState.TheVariants.{Dead}
use Rattle.mg_image.specs.Histories.{Begins, HoldsDurable, durable_committed}
use Rattle.mg_image.specs.Inventory.{next_of, state_at}
use Rattle.mg_image.specs.Opening.{IsOpened}
use Rattle.mg_image.specs.Sound.{HasHeader}
use Rattle.mg_image_opening_laws.specs.Begun.{begins, begun, whole}
use Rattle.mg_image_opening_laws.specs.Openings.{packed_fitting}
use Rattle.mg_model.specs.Answers.{is_committed}
use Rattle.mg_model.specs.History.{Entries}
use Rattle.mg_model.specs.Laws.{OpeningsBegin}
use Rattle.mg_lasting_laws.specs.CrashLaws.{after_legal}
use Rattle.mg_model.specs.Legal.{IsLegal, MayBegin, after_durable, durable_count, durable_limbo, is_limbo}
use Rattle.mg_model.specs.Machine.{opening_state}
use Rattle.mg_model.specs.NumberLaws.{undrawn_is_dead}
use Rattle.mg_model.specs.Openings.{IsOpening}
use Rattle.mg_model.specs.declared.opening.Opening.{Opening}
use Rattle.mg_space.specs.ViewLaws.{CountsNow}
use Rattle.mg_pool.specs.Pool.{KeepsContent}
use Rattle.mg_engine_meaning_laws.specs.BlankLaws.{header_is_made, no_header}
use Rattle.mg_engine_meaning_laws.specs.Closings.{GoesOnFrom, HasLeft, TakesUp}
use Rattle.mg_engine_meaning_laws.specs.GrowingLaws.{later_grows}
use Rattle.mg_engine_meaning_laws.specs.OpenedLaws.{settled_still}
use Rattle.mg_engine_meaning_laws.specs.PlainTables.{EachIsPlain}
use Rattle.mg_engine_meaning_laws.specs.CallLaws.{LeftIsTakenUp, RunsCompose}
use Rattle.mg_engine_meaning_laws.specs.Openings.{BeginsWith, IsOpenedOver, IsSettledOn}

-- ---- the page size

first_same : (size other : ℕ) (image : Image) → (page_at size image 0 ≡ blank size → ⊥)
    → page_at other image 0 ≡ page_at size image 0
first_same size other [] not_ = absurd (not_ refl)
first_same size other (page ∷ pages) not_ = refl

size_told : (b : List ℕ) (size : ℕ) → PassesAll (database_checks b size) → u32_at b PAGE_SIZE_AT ≡ size
unfolding file_checks
size_told b size passes = passes.1.1.1.0

-- a header tells its page size
one_size : (size other : ℕ) (image : Image) (header : Header) → HasHeader size (page_at size image)
    → reading (page_at other image 0) other ≡ Ok header → other ≡ size
one_size size other image header sound reads =
    let same : page_at other image 0 ≡ page_at size image 0 =
    first_same size other image (λ none. no_header size size (page_at size image) sound none) in
    sym (size_told (page_at other image 0) other (reading_ok (page_at other image 0) other header reads).0)
    ∙ (ap (λ (b : List ℕ). u32_at b PAGE_SIZE_AT) same ∙ size_told (page_at size image 0) size sound.database)

-- ---- what the later history begins with

-- A sound image holds what a history has after its k-th durable event, up to which that is legal.
module _ (begin : OpeningsBegin) (own_new : OwnRowsAreNew) (size : ℕ) (image : Image) (o : Opening) (h : Entries)
    (k : ℕ) (opening : MayBegin o) (legal : IsLegal o (after_durable h k)) (grows : CatalogGrows o h)
    (held : HoldsDurable packed_form size (page_at size image) o h k)
    (is : IsOpened packed_form size (page_at size image) held.opened) where
  abbrev later : Opening
  later = begun packed_form packed_fitting size (page_at size image) held.opened is

  its : Begins held.opened (begun packed_form packed_fitting size (page_at size image) held.opened is)
  its = begins packed_form packed_fitting size (page_at size image) held.opened is

  its_whole : IsOpening (begun packed_form packed_fitting size (page_at size image) held.opened is)
  its_whole = whole packed_form packed_fitting size (page_at size image) held.opened is

  pub begins_with : EachIsPlain size (state_at size (page_at size image)) (page_at size image)
      → BeginsWith size image (begun packed_form packed_fitting size (page_at size image) held.opened is)
  begins_with plain = record {
    opened = held.opened;
    sound = is;
    begins = its;
    whole = its_whole;
    limit = refl;
    grows = later_grows size (page_at size image) o h k opening legal grows own_new held is;
    plain_tables = plain;
  }

  state_now : (t : ℕ) → (t < held.opened.next) ⊎ (held.opened.next ≤ t)
      → (is_committed (opening_state later t) ≡ durable_committed o h k t)
      × (is_limbo (opening_state later t) ≡ durable_limbo o h k t)
  state_now t (inl below) = (
    ap is_committed (sym (its.state t below)) ∙ held.committed t below,
    ap is_limbo (sym (its.state t below)) ∙ held.limbo t below,
  )
  state_now t (inr past) =
      let dead : opening_state later t ≡ Dead = undrawn_is_dead later (begin later its_whole) [] tt t
      (subst (λ (n : ℕ). n ≤ t) its.next past) in (
        ap is_committed dead ∙ sym (held.undrawn t past).0,
        ap is_limbo dead ∙ sym (held.undrawn t past).1,
      )

  pub goes_on_from : GoesOnFrom o h k (begun packed_form packed_fitting size (page_at size image) held.opened is)
  goes_on_from = record {
    rows = λ name key. sym (its.rows name key) ∙ held.rows name key;
    committed = λ t. (state_now t (cases_lt t held.opened.next)).0;
    limbo = λ t. (state_now t (cases_lt t held.opened.next)).1;
    changes = λ t name key limbo. sym (its.limbo t name key) ∙ held.changes t name key limbo;
  }

  pub next_is : next_of (page_at size image)
      ≡ (begun packed_form packed_fitting size (page_at size image) held.opened is).next.0
  next_is = sym is.next ∙ its.next

-- ---- two runs

takes_up : OpeningsBegin → OwnRowsAreNew → {D : Type 0} (m : Meaning D) → CountsNow m → (core : Core D) (disk : D)
    (limit size : ℕ) (o : Opening) (h : Entries) (k : ℕ) → MayBegin o → IsLegal o h → CatalogGrows o h
    → HasLeft m disk size o h k → IsOpenedOver m disk limit core → TakesUp m core o h k
takes_up begin own_new m counts core disk limit size o h k opening legal grows left opened = record {
  later = begun packed_form packed_fitting size (page_at size left.image) left.holds.opened left.sound;
  goes_on = goes_on_from begin own_new size left.image o h k opening (after_legal o h k legal) grows left.holds left.sound;
  next = sym (next_is begin own_new size left.image o h k opening (after_legal o h k legal) grows left.holds left.sound)
      ∙ left.next;
  stands = opened.stands left.image
      (begun packed_form packed_fitting size (page_at size left.image) left.holds.opened left.sound) settled
      (subst (λ (n : ℕ). BeginsWith n left.image
      (begun packed_form packed_fitting size (page_at size left.image) left.holds.opened left.sound)) (sym same_size)
      (begins_with begin own_new size left.image o h k opening (after_legal o h k legal) grows left.holds left.sound
      left.plain));
}
  where
    header : HasHeader size (page_at size left.image)
    header = left.sound.sound.header

    same_first : page_at core.store.geometry.size left.image 0 ≡ page_at size left.image 0
    same_first = first_same size core.store.geometry.size left.image
        (λ none. no_header size size (page_at size left.image) header none)

    -- the image was not made anew
    kept : KeepsContent m disk core.store.disk
    kept = opened.unwritten left.image left.settled.tells.held
        (header_is_made size core.store.geometry.size left.image header same_first)

    settled : IsSettledOn m core.store.disk left.image
    settled = settled_still m counts disk core.store.disk left.image kept left.settled

    same_size : core.store.geometry.size ≡ size
    same_size = one_size size core.store.geometry.size left.image (opened.header_is left.image settled.tells).0 header
        (opened.header_is left.image settled.tells).1

pub left_taken_up : (D : Type 0) (m : Meaning D) → CountsNow m → OpeningsBegin → OwnRowsAreNew → LeftIsTakenUp D m
left_taken_up D m counts begin own_new core disk limit size o h k opening legal grows left opened =
    takes_up begin own_new m counts core disk limit size o h k opening legal grows left opened

pub runs_compose : (D : Type 0) (m : Meaning D) → CountsNow m → OpeningsBegin → OwnRowsAreNew → RunsCompose D m
runs_compose D m counts begin own_new old core disk limit o h ends opened stands =
    takes_up begin own_new m counts core disk limit old.store.geometry.size o h (durable_count h)
    (begin o shows.stands.opening) shows.stands.legal stands.grows (ends.2 o h stands).left opened
  where
    shows : ShowsIt m old o h (standing_of old stands.numbers stands.tables)
    shows = subst (StandsWhile m old o h (standing_of old stands.numbers stands.tables)) ends.0 stands.stands
