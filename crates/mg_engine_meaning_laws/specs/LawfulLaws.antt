-- What is true of every engine that stands for a history.
use Rattle.std.proofs.Common.{◌≡◌, ◌⊎◌, inl, inr, ◌≤◌, ◌&&◌, ℕ, Bool, true, false, List, ◌∷◌, Option, None, Some, refl, sym, ap, ◌∙◌, subst, arith}
use Rattle.std.specs.Prelude.{IsPermutation, length}
use Rattle.std.proofs.Math.Nat.{min-le_left}
use Rattle.std.proofs.lemmas.Bool.{false≢true}
use Rattle.std.proofs.lemmas.List.Sorted.{IsPermutation-refl}
use Rattle.mg_base.specs.Disk.{Meaning}
use Rattle.mg_base.specs.Image.{Image, page_at}
use Rattle.mg_value.specs.declared.shape.Shape.{Shape}
use Rattle.mg_model.specs.declared.answer.Answer.{Answer}
use Rattle.mg_model.specs.declared.answer.Answer.TheVariants.{Fine, Tx, Rows, No}
use Rattle.mg_model.specs.declared.opening.Opening.{Opening}
use Rattle.mg_model.specs.declared.refusal.Refusal.TheVariants.{DiskWrite}
use Rattle.mg_model.specs.declared.table.Table.{Table}
use Rattle.mg_model.specs.Changes.{KeyedRows, rows_of}
use Rattle.mg_model.specs.History.{Entries, Entry, entry}
use Rattle.mg_model.specs.Legal.{IsLegal, after_durable, is_durable, is_fine, is_lasting}
use Rattle.mg_model.specs.Machine.{view}
use Rattle.mg_model.specs.Openings.{IsOpening}
use Rattle.mg_records.specs.Committing.{PagesAreFew}
use Rattle.mg_records.specs.Crashing.{CrashesHold, HoldsOn}
use Rattle.mg_records.specs.Reading.{TablesAreSeen, WalksAreWhole, shape_seen}
use Rattle.mg_engine_step_laws.specs.standing.Known.{KnowsPages, seen_is_shown}
use Rattle.mg_engine_step_laws.specs.reads.Walking.{WalksBegin}
use Rattle.mg_image.specs.Form.{packed_form}
use Rattle.mg_lasting_laws.specs.CrashLaws.{asked_quiet, count_quiet, from_longer, holds_cut}
use Rattle.mg_lasting_laws.specs.Crashes.{HoldsAcknowledged, HoldsFrom, asked, is_failed_write, may_last}
use Rattle.mg_engine_step_laws.specs.standing.Standing.{IsSeenAs, Remembers}
use Rattle.mg_core.specs.declared.parts.Core.{Core}
use Rattle.mg_base.specs.Disk.{MayLeave}
use Rattle.mg_pool.specs.Pool.{shown}
use Rattle.mg_engine_meaning_laws.specs.Meaning.{AreNext, ComesTo, Places, means}
use Rattle.mg_engine_meaning_laws.specs.Standings.{StandsFor, StandsWhile, standing_of}

-- ---- memory, whether the pages are known or not

module _ {D : Type 0} (m : Meaning D) (core : Core D) (o : Opening) (h : Entries)
    (stands : StandsFor m core o h) where
  pub memory_of : Remembers o h (standing_of core stands.numbers stands.tables)
  memory_of = by core.store.offline stands.stands
    where
      by : (off : Option ℕ)
          → StandsWhile m core o h (standing_of core stands.numbers stands.tables) off
          → Remembers o h (standing_of core stands.numbers stands.tables)
      by None shows = shows.stands.memory
      by (Some faults) keeps = keeps.stands.memory

  pub opening_of : IsOpening o
  opening_of = by core.store.offline stands.stands
    where
      by : (off : Option ℕ)
          → StandsWhile m core o h (standing_of core stands.numbers stands.tables) off → IsOpening o
      by None shows = shows.stands.opening
      by (Some faults) keeps = keeps.stands.opening

  pub legal_of : IsLegal o h
  legal_of = by core.store.offline stands.stands
    where
      by : (off : Option ℕ)
          → StandsWhile m core o h (standing_of core stands.numbers stands.tables) off → IsLegal o h
      by None shows = shows.stands.legal
      by (Some faults) keeps = keeps.stands.legal

  -- what a crash now may leave
  pub left_of : (c : Image) → MayLeave m core.store.disk c
      → HoldsAcknowledged packed_form core.store.dirty.size o h c
  left_of c may = by core.store.offline stands.stands
    where
      by : (off : Option ℕ)
          → StandsWhile m core o h (standing_of core stands.numbers stands.tables) off
          → HoldsAcknowledged packed_form core.store.dirty.size o h c
      by None shows = shows.lasts.left c may
      by (Some faults) keeps = keeps.left c may

-- ---- tables

seen_told : (name : List ℕ) (table : Table) (shape : Option Shape) → IsSeenAs name shape (Some table)
    → (table.name ≡ name) × (shape ≡ Some table.shape)
seen_told name table None is = absurd is
seen_told name table (Some shape) is = (is.0, ap Some (sym is.1))

pub tables_are_seen : {D P : Type 0} (m : Meaning D) (places : Places P) → TablesAreSeen (means m places)
tables_are_seen m places core o h t name table stands active given =
    seen_told name table (shape_seen o h t name)
    (subst (IsSeenAs name (shape_seen o h t name)) (stands.given t name table given)
    (((memory_of m core o h stands).active t active).table name))

-- ---- pages

pub pages_are_few : {D P : Type 0} (m : Meaning D) (places : Places P) → PagesAreFew (means m places)
pages_are_few m places core = min-le_left 512 (length core.store.dirty.pages)

-- ---- walks

pub walks_are_whole : {D P : Type 0} (m : Meaning D) (places : Places P) → WalksBegin
    → WalksAreWhole (means m places)
walks_are_whole {D} {P} m places begin core o h t table stands active given =
    whole (by core.store.offline stands.stands)
  where
    by : (off : Option ℕ)
        → StandsWhile m core o h (standing_of core stands.numbers stands.tables) off
        → (rows : KeyedRows)
        × AreNext m core (standing_of core stands.numbers stands.tables) t table None rows off
        × IsPermutation rows (rows_of (view o h t) table.name)
    by None shows =
        let knows : KnowsPages core.store.geometry.size o h
        (standing_of core stands.numbers stands.tables) (shown core.store.dirty shows.image) =
        record { memory = shows.stands.memory; shows = shows.stands.shows } in
        let found = begin core.store.geometry.size o h
        (standing_of core stands.numbers stands.tables) (shown core.store.dirty shows.image) knows
        table t (seen_is_shown shows.stands.shows.layout table
        ((shows.stands.shows.tables t (shows.stands.memory.state t ∙ active)).seen table.name table
        (stands.given t table.name table given))) active in
        (found.0, (shows.image, shows.held, found.1), found.2)
    by (Some faults) keeps = (
      rows_of (view o h t) table.name,
      tt,
      IsPermutation-refl (rows_of (view o h t) table.name),
    )

    whole : (rows : KeyedRows)
        × AreNext m core (standing_of core stands.numbers stands.tables) t table None rows
        core.store.offline
        × IsPermutation rows (rows_of (view o h t) table.name)
        → (rows : KeyedRows) × ComesTo m core t table None rows
        × IsPermutation rows (rows_of (view o h t) table.name)
    whole (rows, next, permuted) = (
      rows,
      record { opening = o; entries = h; stands = stands; active = active; seen = given; next = next },
      permuted,
    )

-- ---- crashes

pub crashes_hold : {D P : Type 0} (m : Meaning D) (places : Places P) → CrashesHold (means m places)
crashes_hold m places core o h stands told c left = left_of m core o h stands c left

-- an event that no crash can lose does not fail so that its bits may have reached the disk
pub quiet_event : (e : Entry) → is_lasting e.event ≡ false → may_last e ≡ false
quiet_event e quiet = ap (λ (b : Bool). b && is_failed_write e.answer) quiet

pub quiet_count : (e : Entry) → is_lasting e.event ≡ false → is_durable e ≡ false
quiet_count e quiet = ap (λ (b : Bool). b && is_fine e.answer) quiet

-- what holds a history that has one entry more, of which no durable event is
shorter : (size : ℕ) (o : Opening) (h : Entries) (e : Entry) (least : ℕ) (c : Image)
    → is_durable e ≡ false → HoldsFrom packed_form size o (e ∷ h) least c
    → HoldsFrom packed_form size o h least c
shorter size o h e least c quiet holds = record {
  k = holds.k;
  at_least = holds.at_least;
  at_most = subst (λ (n : ℕ). holds.k ≤ n) (count_quiet h e quiet) holds.at_most;
  holds = holds_cut packed_form size (page_at size c) o (e ∷ h) h holds.k holds.k cut holds.holds;
  legal = subst (IsLegal o) (sym cut) holds.legal;
}
  where
    cut : after_durable h holds.k ≡ after_durable (e ∷ h) holds.k
    cut = rw quiet refl

failed_is : (a : Answer) → is_failed_write a ≡ true → (faults : ℕ) × (a ≡ No (DiskWrite faults))
failed_is Fine is = absurd (false≢true is)
failed_is (Tx t) is = absurd (false≢true is)
failed_is (Rows rows) is = absurd (false≢true is)
failed_is (No (DiskWrite faults)) is = (faults, refl)
failed_is (No refusal) is = absurd (false≢true is)

both_true : (a b : Bool) → (a && b) ≡ true → b ≡ true
both_true true b is = is
both_true false b is = absurd (false≢true is)

pub holds_on : {D P : Type 0} (m : Meaning D) (places : Places P) → HoldsOn (means m places)
holds_on {D} m places = record {
  more = λ core o h e least c quiet holds. longer_by core o h e least c (quiet_event e quiet) holds;
  fewer = λ core o h e least c quiet holds. shorter core.store.dirty.size o (asked h) e least c
      (quiet_count e quiet)
      (subst (λ (x : Entries). HoldsFrom packed_form core.store.dirty.size o x least c)
      (asked_quiet h e (quiet_event e quiet)) holds);
  longer = λ core o h e least c stands either holds. at core o h e least c stands either holds (may_last e) refl;
  least = λ core o h few many c low holds. record {
    k = holds.k;
    at_least = let most = holds.at_least in omega (arith, low, most);
    at_most = holds.at_most;
    holds = holds.holds;
    legal = holds.legal;
  };
}
  where
    longer_by : (core : Core D) (o : Opening) (h : Entries) (e : Entry) (least : ℕ) (c : Image)
        → may_last e ≡ false
        → HoldsFrom packed_form core.store.dirty.size o (asked h) least c
        → HoldsFrom packed_form core.store.dirty.size o (asked (e ∷ h)) least c
    longer_by core o h e least c quiet holds =
        subst (λ (x : Entries). HoldsFrom packed_form core.store.dirty.size o x least c)
        (sym (asked_quiet h e quiet))
        (from_longer packed_form core.store.dirty.size o (asked h) e least c holds)

    settled : (core : Core D) (o : Opening) (h : Entries) → StandsFor m core o h
        → core.store.offline ≡ None → asked h ≡ h
    settled core o h stands online = by core.store.offline online stands.stands
      where
        by : (off : Option ℕ) → off ≡ None
            → StandsWhile m core o h (standing_of core stands.numbers stands.tables) off
            → asked h ≡ h
        by None is shows = shows.lasts.settled
        by (Some faults) is keeps = absurd cc

    at : (core : Core D) (o : Opening) (h : Entries) (e : Entry) (least : ℕ) (c : Image)
        → StandsFor m core o h
        → (core.store.offline ≡ None) ⊎ ((faults : ℕ) → e.answer ≡ No (DiskWrite faults) → ⊥)
        → HoldsFrom packed_form core.store.dirty.size o (asked h) least c
        → (b : Bool) → may_last e ≡ b
        → HoldsFrom packed_form core.store.dirty.size o (asked (e ∷ h)) least c
    at core o h e least c stands either holds false quiet = longer_by core o h e least c quiet holds
    at core o h e least c stands (inr not_failed) holds true lasting =
        let failed = failed_is e.answer (both_true (is_lasting e.event) (is_failed_write e.answer) lasting) in
        absurd (not_failed failed.0 failed.1)
    at core o h e least c stands (inl online) holds true lasting =
        subst (λ (x : Entries). HoldsFrom packed_form core.store.dirty.size o x least c) (sym taken)
        (from_longer packed_form core.store.dirty.size o h (entry e.event Fine) least c
        (subst (λ (x : Entries). HoldsFrom packed_form core.store.dirty.size o x least c)
        (settled core o h stands online) holds))
      where
        taken : asked (e ∷ h) ≡ entry e.event Fine ∷ h
        taken = rw lasting refl
