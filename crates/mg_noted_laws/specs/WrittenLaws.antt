-- A row is written on the pages of an engine: its directories are complete still, where the record was noted under
-- its key.
use Rattle.std.proofs.Common.{◌≡◌, ◌≢◌, ◌∙◌, ◌⊎◌, sym, ap, subst, ℕ, true, List, Option}
use Rattle.std.proofs.Math.Path.{fun_ext}
use Rattle.mg_base.specs.declared.numbers.RecId.{RecId}
use Rattle.mg_base.specs.declared.transaction.TxState.{TxState}
use Rattle.mg_directory.specs.CandidateLaws.{notes_of}
use Rattle.mg_directory.specs.Candidates.{ByTable, NotesOrDrops}
use Rattle.mg_image.specs.Form.{Form, Pages}
use Rattle.mg_image.specs.RecordRules.{Facts}
use Rattle.mg_image.specs.Records.{cells_of, record_key}
use Rattle.mg_image.specs.Sound.{facts_by}
use Rattle.mg_image.specs.declared.entry.Entry.{Entry}
use Rattle.mg_image_overlay_laws.specs.tables.OneLayout.{StandsOneWay}
use Rattle.mg_model.specs.Changes.{Cells}
use Rattle.mg_model.specs.History.{Entries, Entry as Event}
use Rattle.mg_model.specs.Openings.{everyone}
use Rattle.mg_model.specs.declared.opening.Opening.{Opening}
use Rattle.mg_model.specs.declared.table.Table.{Table}
use Rattle.mg_overlay_laws.specs.Overlays.{left_by, left_state}
use Rattle.mg_sortkey.specs.KeyBytes.{key_bytes}
use Rattle.mg_value.specs.declared.value.Value.{Value}
use Rattle.mg_engine_step_laws.specs.standing.Standing.{ShowsHistory, Standing}
use Rattle.mg_engine_step_laws.specs.writes.Writes.{WritesVersion}
use Rattle.mg_noted_laws.specs.ComingLaws.{noted_by, written_noted}
use Rattle.mg_noted_laws.specs.Noted.{AreNoted, HasNoted}

module _ (form : Form) (one : StandsOneWay form) (size : ℕ) (o : Opening) (h : Entries) (e : Event)
    (s new : Standing) (pages later : Pages) (shows : ShowsHistory form size o h s pages) (t : ℕ) (name : List ℕ)
    (key : Value) (row : Option Cells) (p : RecId) (n : Entry) (older : List Entry) (table : Table)
    (states_same : (u : ℕ) → new.state u ≡ s.state u)
    (same_or : (q : RecId) → (q ≡ p) ⊎ (q ≢ p))
    (written : WritesVersion form size o h e s new pages later shows t name key row p n older table) where
  state_is : left_state everyone new.state ≡ left_state everyone s.state
  state_is = fun_ext (λ u. ap (left_by true) (states_same u))

  abbrev f : Facts
  f = facts_by (left_state everyone s.state) pages shows.layout

  abbrev g : Facts
  g = facts_by (left_state everyone s.state) later written.reads.layout

  keyed : record_key table (written.reads.reading p) ≡ key
  keyed = ap (record_key table) written.reads.here ∙ written.keyed

  pub written_has : (dirs dirs' : ByTable) → HasNoted form size (left_state everyone s.state) pages dirs
      → NotesOrDrops dirs dirs' table.pointer.0 (key_bytes key) p → HasNoted form size (left_state everyone new.state) later dirs'
  written_has dirs dirs' noted notes = subst (λ (x : ℕ → TxState). HasNoted form size x later dirs') (sym state_is)
      (noted_by form one size (left_state everyone s.state) later dirs' written.reads.layout written.reads.reading
      written.reads.sound each)
    where
      each : AreNoted g written.reads.reading dirs'
      each first dir is =
          let (was, was_is, all_, there) =
          notes_of dirs dirs' table.pointer.0 (key_bytes key) p notes first dir is in
          written_noted form.coding f g (cells_of pages) shows.reading written.reads.reading p table key first was dir
          shows.sound.records (λ q its of. written.reads.grown.stays q.page.0 its of)
          (written.reads.grown.stays p.page.0 table written.of_table) keyed written.reads.others same_or
          (noted shows.layout shows.reading shows.sound first was was_is) all_ there
