-- The pages of a sound image stand for the history that begins with it.
use Rattle.std.proofs.Common.{◌≡◌, ◌≢◌, ◌⊎◌, inl, inr, ◌<◌, ◌≤◌, ℕ, Bool, true, false, List, [], ◌∷◌, Option, None, Some, refl, sym, ap, ◌∙◌, subst, arith, le-ltb}
use Rattle.std.specs.Prelude.{if◌then◌else◌}
use Rattle.std.proofs.Math.Path.{fun_ext}
use Rattle.std.proofs.lemmas.Bool.{cases_lt, false≢true, ne_eqb}
use Rattle.mg_base.specs.declared.numbers.RecId.{RecId}
use Rattle.mg_base.specs.declared.transaction.TxState.{TxState}
use Rattle.mg_base.specs.declared.transaction.TxState.TheVariants.{Active, Committed, Dead, Limbo}
use Rattle.mg_value.specs.declared.value.Value.{Value}
use Rattle.mg_model.specs.declared.opening.Opening.{Opening}
use Rattle.mg_model.specs.declared.table.Table.{Table}
use Rattle.mg_model.specs.Answers.{is_active, is_committed, told}
use Rattle.mg_model.specs.Laws.{OpeningsBegin}
use Rattle.mg_model.specs.Legal.{MayBegin, is_limbo}
use Rattle.mg_model.specs.Machine.{opening_state}
use Rattle.mg_model.specs.NumberLaws.{undrawn_is_dead}
use Rattle.mg_model.specs.Openings.{IsOpening, everyone}
use Rattle.mg_generation_laws.specs.BeginLaws.{generations_begin}
use Rattle.mg_generation_laws.specs.GarbageLaws.{whole_stand}
use Rattle.mg_generation_laws.specs.Generations.{AreFirst, Generation}
use Rattle.mg_generation_laws.specs.Kept.{IsErasedForAll, IsSeenByAll, StandFor}
use Rattle.mg_image.specs.declared.entry.Entry.{Entry}
use Rattle.mg_image.specs.Form.{Form, Pages, Row}
use Rattle.mg_image.specs.Held.{AreChanges, IsHeld, told_row}
use Rattle.mg_image.specs.Histories.{Begins}
use Rattle.mg_image.specs.Inventory.{next_of, state_at}
use Rattle.mg_image.specs.Opening.{IsOpened, Opened}
use Rattle.mg_image.specs.RecordRules.{Each, EachBack, Facts, committed_in, table_in}
use Rattle.mg_image.specs.Records.{Reading, record_key, shown, writer}
use Rattle.mg_image.specs.Sound.{IsSoundBy, facts_by}
use Rattle.mg_image.specs.Tables.{Layout}
use Rattle.mg_overlay_laws.specs.Overlays.{left_by, left_state}
use Rattle.mg_engine_step_laws.specs.standing.Bare.{IsBare}
use Rattle.mg_engine_step_laws.specs.standing.BareLaws.{bare_has_found}
use Rattle.mg_engine_step_laws.specs.standing.Following.{IsFirst, MemoryBegins}
use Rattle.mg_engine_step_laws.specs.standing.Speakers.{here_from, here_to, is_in_limbo, none_takes, speaker, speaker_takes, taker_speaks, takes_key, takes_not, takes_some}
use Rattle.mg_engine_step_laws.specs.standing.Standing.{Standing, Stands}
use Rattle.mg_engine_step_laws.specs.standing.StartVersions.{here_first, none_first}
use Rattle.mg_seek.specs.Histories.{told_versions}
use Rattle.mg_engine_step_laws.specs.standing.Versions.{HaveVersions, SpeaksFor, SpeaksOrSilent}

-- an engine over an image that gives this opening stands for the history without entries, where memory is
-- as it says, and no table has an index
abbrev pub StandsFirst : Form → Type 0
StandsFirst form = (size : ℕ) (o : Opening) (s : Standing) (pages : Pages) (opened : Opened)
    → IsOpened form size pages opened → Begins opened o → IsOpening o → IsFirst o s
    → ((layout : Layout) (r : Reading) → IsSoundBy form size (left_state everyone s.state) pages layout r
    → IsBare layout)
    → Stands form size o [] s (Some pages)

-- ---- silent records

-- who had committed when the history began is seen by all, as nobody is active
seen_first : (o : Opening) → IsOpening o → (u : ℕ) → opening_state o u ≡ Committed → IsSeenByAll o [] u
seen_first o whole u committed = record {
  committed = committed;
  saw = λ t active. absurd (idle (opening_state o t) (whole.ended t) active);
}
  where
    idle : (s : TxState) → s ≢ Active → is_active s ≡ true → ⊥
    idle Active not_ is = not_ refl
    idle Limbo not_ is = false≢true is
    idle Dead not_ is = false≢true is
    idle Committed not_ is = false≢true is

no_row : (deleted : Bool) (row told : Row) → (if deleted then None else Some row) ≡ None
    → (if deleted then None else Some told) ≡ None
no_row true row told is = refl
no_row false row told is = absurd cc

-- a record that takes no key has no versions that count, or they begin with a deletion that all see
silent_told : (o : Opening) → IsOpening o → (table : Table) (es : List Entry)
    → EachBack (λ e. opening_state o (writer e) ≡ Committed) es
    → shown (λ t. is_committed (opening_state o t)) es ≡ None → is_in_limbo (opening_state o) es ≡ false
    → (told_versions (opening_state o) table es ≡ [])
    ⊎ IsErasedForAll o [] (told_versions (opening_state o) table es)
silent_told o whole table [] backs shows limbo = inl refl
silent_told o whole table (e ∷ es) backs shows limbo = at (opening_state o (writer e)) refl es backs shows
  where
    at : (s : TxState) → opening_state o (writer e) ≡ s → (es : List Entry)
        → Each (λ e. opening_state o (writer e) ≡ Committed) es
        → shown (λ t. is_committed (opening_state o t)) (e ∷ es) ≡ None
        → (told_versions (opening_state o) table (e ∷ es) ≡ [])
        ⊎ IsErasedForAll o [] (told_versions (opening_state o) table (e ∷ es))
    at Active is es each none = absurd (whole.ended (writer e) is)
    at Limbo is es each none = absurd (false≢true (sym limbo ∙ ap is_limbo is))
    at Committed is es each none =
        let given : (if e.version.deleted then None else Some e.row) ≡ None =
        sym (rw is refl) ∙ none in
        inr (rw is (
          seen_first o whole (writer e) is,
          no_row e.version.deleted e.row (told_row table e.row) given,
        ))
    at Dead is [] each none = inl (rw is refl)
    at Dead is (d ∷ ds) each none =
        let given : (if d.version.deleted then None else Some d.row) ≡ None =
        sym (rw (is, each.0) refl) ∙ none in
        inr (rw is (
          seen_first o whole (writer d) each.0,
          no_row d.version.deleted d.row (told_row table d.row) given,
        ))

-- ---- the versions

module _ (o : Opening) (whole : IsOpening o) (opening : MayBegin o) (form : Form) (size : ℕ)
    (pages : Pages) (opened : Opened) (layout : Layout) (r : Reading)
    (sound : IsSoundBy form size (opening_state o) pages layout r)
    (held : IsHeld (facts_by (opening_state o) pages layout)
    (committed_in (facts_by (opening_state o) pages layout)) r opened.rows)
    (changed : AreChanges (facts_by (opening_state o) pages layout) r opened.limbo)
    (begins : Begins opened o) where
  abbrev f : Facts
  f = facts_by (opening_state o) pages layout

  stand_first : (name : List ℕ) (key : Value) (gs : List Generation) → AreFirst o name key gs
      → StandFor o [] name key gs
  stand_first name key gs first = whole_stand o [] name key gs
      (generations_begin o name key gs opening first)

  speaks : (name : List ℕ) (key : Value) (x : Option RecId)
      → speaker form size (opening_state o) pages layout r sound name key ≡ x
      → SpeaksFor o [] f r name key x
  speaks name key None none = stand_first name key []
      (none_first o whole.ended form size pages layout r sound opened.rows opened.limbo held changed
      begins.rows begins.limbo name key
      (λ p here. none_takes form size (opening_state o) pages layout r sound name key p none here))
  speaks name key (Some p) is =
      let here = speaker_takes form size (opening_state o) pages layout r sound name key p is in (
        record {
          table = here.table;
          of_table = here.of_table;
          named = here.named;
          some = takes_some f r name key p here;
          keyed = here.keyed;
        },
        stand_first name key (told_versions (opening_state o) here.table (r p))
            (here_first o whole.ended form size pages layout r sound opened.rows opened.limbo held changed
            begins.rows begins.limbo name key p here),
      )

  others : (p : RecId) (table : Table) → table_in f p ≡ Some table
      → SpeaksOrSilent o [] f r (speaker form size (opening_state o) pages layout r sound) p table
  others p table of = at (takes_key f (r p)) refl
    where
      silent : (told_versions (opening_state o) table (r p) ≡ [])
          ⊎ IsErasedForAll o [] (told_versions (opening_state o) table (r p))
          → SpeaksOrSilent o [] f r (speaker form size (opening_state o) pages layout r sound) p table
      silent (inl none) = inl none
      silent (inr gone) = inr (inl gone)

      at : (b : Bool) → takes_key f (r p) ≡ b
          → SpeaksOrSilent o [] f r (speaker form size (opening_state o) pages layout r sound) p table
      at true takes = inr (inr (taker_speaks form size (opening_state o) pages layout r sound table.name
          (record_key table (r p)) p
          (here_from f r table.name (record_key table (r p)) p (here_to f r p table of takes))))
      at false takes = silent (silent_told o whole table (r p) (sound.records.each p table of).backs
          (takes_not f (r p) takes).0 (takes_not f (r p) takes).1)

  pub first_versions : HaveVersions o [] f r
  first_versions = record {
    speaker = speaker form size (opening_state o) pages layout r sound;
    speaks = λ name key. speaks name key (speaker form size (opening_state o) pages layout r sound name key)
        refl;
    others = others;
  }

-- ---- the whole

past_first : (size : ℕ) (pages : Pages) (t : ℕ) → next_of pages ≤ t → t ≢ 0
    → state_at size pages t ≡ Dead
unfolding state_at
past_first size pages t above some_ = rw (ne_eqb t 0 some_, le-ltb t (next_of pages) above) refl

pub stands_first : (form : Form) → OpeningsBegin → MemoryBegins → StandsFirst form
stands_first form begin remember size o s pages opened is begins whole first bare = record {
  opening = whole;
  legal = tt;
  memory = remember o s whole first;
  shows = record {
    layout = is.layout;
    reading = is.reading;
    sound = sound_here;
    next = sym is.next ∙ (begins.next ∙ sym first.next);
    versions = subst (λ (x : ℕ → TxState). HaveVersions o [] (facts_by x pages is.layout) is.reading)
        (sym same) (first_versions o whole opening form size pages opened is.layout is.reading sound
        (subst (λ (x : ℕ → TxState). IsHeld (facts_by x pages is.layout)
        (committed_in (facts_by x pages is.layout)) is.reading opened.rows) states is.held)
        (subst (λ (x : ℕ → TxState). AreChanges (facts_by x pages is.layout) is.reading opened.limbo)
        states is.limbo) begins);
    tables = λ t active. absurd (whole.ended t (sym (first.state t) ∙ active));
    found = bare_has_found form size (state_at size pages) pages is.layout is.reading is.sound
        (bare is.layout is.reading sound_here) s.state s.live;
    bare = bare is.layout is.reading sound_here;
  };
}
  where
    opening : MayBegin o
    opening = begin o whole

    bits : (t : ℕ) → state_at size pages t ≡ opening_state o t
    bits t = at (cases_lt t (next_of pages))
      where
        next : next_of pages ≡ o.next.0
        next = sym is.next ∙ begins.next

        at : (t < next_of pages) ⊎ (next_of pages ≤ t) → state_at size pages t ≡ opening_state o t
        at (inl below) =
            let within : t < opened.next = subst (λ (n : ℕ). t < n) (sym is.next) below in
            sym (is.state t within) ∙ begins.state t within
        at (inr above) =
            let least = opening.first in
            let some_ : t ≢ 0 = λ zero. absurd (omega (arith, above, next, least, zero)) in
            past_first size pages t above some_
            ∙ sym (undrawn_is_dead o opening [] tt t (omega (arith, above, next)))

    states : state_at size pages ≡ opening_state o
    states = fun_ext bits

    sound : IsSoundBy form size (opening_state o) pages is.layout is.reading
    sound = subst (λ (x : ℕ → TxState). IsSoundBy form size x pages is.layout is.reading) states is.sound

    left : (x : TxState) → x ≢ Active → left_by true x ≡ x
    left Active not_ = absurd (not_ refl)
    left Limbo not_ = refl
    left Dead not_ = refl
    left Committed not_ = refl

    same : left_state everyone s.state ≡ opening_state o
    same = fun_ext (λ t. ap (left_by true) (first.state t) ∙ left (opening_state o t) (whole.ended t))

    sound_here : IsSoundBy form size (left_state everyone s.state) pages is.layout is.reading
    sound_here = subst (λ (x : ℕ → TxState). IsSoundBy form size x pages is.layout is.reading) (sym same) sound
