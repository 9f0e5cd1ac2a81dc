-- Rows of a dead transaction go.
use Rattle.std.proofs.Common.{◌≡◌, ◌⊎◌, ◌∙◌, ◌∷◌, inl, inr, ℕ, List, [], Option, None, Some, true, ap, refl, subst, sym}
use Rattle.mg_base.specs.declared.numbers.RecId.{RecId}
use Rattle.mg_base.specs.declared.transaction.TxState.{TxState}
use Rattle.mg_base.specs.declared.transaction.TxState.TheVariants.{Dead}
use Rattle.mg_engine_step_laws.specs.backs.DeadRows.{DeadRowsGo}
use Rattle.mg_engine_step_laws.specs.standing.Bare.{IsBare}
use Rattle.mg_engine_step_laws.specs.standing.BareLaws.{bare_has_found}
use Rattle.mg_engine_step_laws.specs.tables_back.Outs.{GoesWhole}
use Rattle.mg_engine_step_laws.specs.backs.ShownEnd.{spoken_if, still_spoken}
use Rattle.mg_engine_step_laws.specs.standing.Standing.{FindsTables, ShowsHistory, Standing}
use Rattle.mg_engine_step_laws.specs.standing.Versions.{SpeaksFor, SpeaksOrSilent}
use Rattle.mg_generation_laws.specs.Kept.{IsErasedForAll, StandFor}
use Rattle.mg_image.specs.Form.{Form, Pages}
use Rattle.mg_image.specs.Inventory.{next_of}
use Rattle.mg_image.specs.RecordRules.{Facts, table_in}
use Rattle.mg_image.specs.Records.{Reading, record_key, writer}
use Rattle.mg_image.specs.Sound.{IsSoundBy, facts_by}
use Rattle.mg_image.specs.Tables.{Layout}
use Rattle.mg_image.specs.declared.entry.Entry.{Entry}
use Rattle.mg_model.specs.History.{Entries}
use Rattle.mg_model.specs.Openings.{everyone}
use Rattle.mg_model.specs.declared.opening.Opening.{Opening}
use Rattle.mg_model.specs.declared.table.Table.{Table}
use Rattle.mg_overlay_laws.specs.Overlays.{left_by, left_state}
use Rattle.mg_seek.specs.Histories.{told_versions}
use Rattle.mg_value.specs.declared.value.Value.{Value}

module _ (form : Form) (size : ℕ) (o : Opening) (h : Entries) (s : Standing) (by : ℕ) (pages later : Pages)
    (shows : ShowsHistory form size o h s pages) (c : Layout) (rc : Reading) (dead : s.state by ≡ Dead)
    (sound : IsSoundBy form size (left_state everyone s.state) later c rc) (same : shows.layout ≡ c)
    (next : next_of later ≡ next_of pages)
    (each : (p : RecId) → (rc p ≡ shows.reading p) ⊎ GoesWhole by (shows.reading p) (rc p)) where
  abbrev state : ℕ → TxState
  state = left_state everyone s.state

  abbrev f : Facts
  f = facts_by (left_state everyone s.state) pages shows.layout

  abbrev g : Facts
  g = facts_by (left_state everyone s.state) later c

  abbrev speaker : List ℕ → Value → Option RecId
  speaker = shows.versions.speaker

  table_then : (p : RecId) → table_in f p ≡ table_in g p
  table_then p = ap (λ (l : Layout). table_in (facts_by (left_state everyone s.state) later l) p) same

  -- what has gone did not count
  was_none : (p : RecId) (table : Table) → GoesWhole by (shows.reading p) (rc p)
      → told_versions state table (shows.reading p) ≡ []
  was_none p table went = ap (told_versions state table) went.alone ∙ rw its_state refl
    where
      its_state : left_state everyone s.state (writer went.version) ≡ Dead
      its_state = ap (left_by true) (ap s.state went.its ∙ dead)

  speaks_on : (name : List ℕ) (key : Value) (spoken : Option RecId) → SpeaksFor o h f shows.reading name key spoken
      → SpeaksFor o h g rc name key (still_spoken rc spoken)
  speaks_on name key None stand = stand
  speaks_on name key (Some p) (its, stand) = at (each p)
    where
      none_then : GoesWhole by (shows.reading p) (rc p) → SpeaksFor o h g rc name key (spoken_if (rc p) p)
      none_then went = subst (λ (es : List Entry). SpeaksFor o h g rc name key (spoken_if es p)) (sym went.none)
          (subst (StandFor o h name key) (was_none p its.table went) stand)

      still : rc p ≡ shows.reading p → (es : List Entry) → rc p ≡ es
          → SpeaksFor o h g rc name key (spoken_if es p)
      still as_was [] none = absurd (its.some (sym as_was ∙ none))
      still as_was (x ∷ xs) some = (
        record {
          table = its.table;
          of_table = sym (table_then p) ∙ its.of_table;
          named = its.named;
          some = λ none. its.some (sym as_was ∙ none);
          keyed = ap (record_key its.table) as_was ∙ its.keyed;
        },
        subst (λ (es : List Entry). StandFor o h name key (told_versions state its.table es)) (sym as_was) stand,
      )

      at : (rc p ≡ shows.reading p) ⊎ GoesWhole by (shows.reading p) (rc p)
          → SpeaksFor o h g rc name key (spoken_if (rc p) p)
      at (inl as_was) = still as_was (rc p) refl
      at (inr went) = none_then went

  others_on : (p : RecId) (table : Table) → table_in g p ≡ Some table
      → SpeaksOrSilent o h g rc (λ name key. still_spoken rc (speaker name key)) p table
  others_on p table of = at (each p)
    where
      empty : rc p ≡ [] → told_versions state table (rc p) ≡ []
      empty none = ap (told_versions state table) none

      silent : rc p ≡ shows.reading p → (es : List Entry) → rc p ≡ es → SpeaksOrSilent o h f shows.reading speaker p table
          → SpeaksOrSilent o h g rc (λ name key. still_spoken rc (speaker name key)) p table
      silent as_was [] none was = inl (empty none)
      silent as_was (x ∷ xs) some (inl none) = inl (ap (told_versions state table) as_was ∙ none)
      silent as_was (x ∷ xs) some (inr (inl erased)) =
          inr (inl (subst (λ (es : List Entry). IsErasedForAll o h (told_versions state table es)) (sym as_was) erased))
      silent as_was (x ∷ xs) some (inr (inr speaks)) = inr (inr (
          ap (λ (es : List Entry). still_spoken rc (speaker table.name (record_key table es))) as_was
          ∙ (ap (still_spoken rc) speaks ∙ ap (λ (es : List Entry). spoken_if es p) some)))

      at : (rc p ≡ shows.reading p) ⊎ GoesWhole by (shows.reading p) (rc p)
          → SpeaksOrSilent o h g rc (λ name key. still_spoken rc (speaker name key)) p table
      at (inl as_was) = silent as_was (rc p) refl (shows.versions.others p table (table_then p ∙ of))
      at (inr went) = inl (empty went.none)

  pub shows_on : ShowsHistory form size o h s later
  shows_on = record {
    layout = c;
    reading = rc;
    sound = sound;
    next = next ∙ shows.next;
    versions = record {
      speaker = λ name key. still_spoken rc (speaker name key);
      speaks = λ name key. speaks_on name key (speaker name key) (shows.versions.speaks name key);
      others = others_on;
    };
    tables = λ t active. subst (λ (l : Layout). FindsTables o h s l t) same (shows.tables t active);
    found = bare_has_found form size state later c rc sound (subst IsBare same shows.bare) s.state s.live;
    bare = subst IsBare same shows.bare;
  }

pub dead_rows_go : (form : Form) → DeadRowsGo form
dead_rows_go form size o h s by pages later shows c rc dead sound same next each =
    shows_on form size o h s by pages later shows c rc dead sound same next each
