-- What is found in the middle to speak for a key is the record that spoke for it at first.
use Rattle.std.proofs.Common.{◌≡◌, ◌≢◌, ◌⊎◌, inl, inr, ap, refl, sym, subst, ◌∙◌, ℕ, Bool, true, false, List, [], ◌∷◌, Option, None, Some}
use Rattle.std.specs.Prelude.{if◌then◌else◌, is_some, map}
use Rattle.std.proofs.lemmas.Bool.{eq-eqb, false≢true, ne_eqb}
use Rattle.mg_base.specs.declared.numbers.RecId.{RecId}
use Rattle.mg_base.specs.declared.transaction.TxState.{TxState}
use Rattle.mg_base.specs.declared.transaction.TxState.TheVariants.{Active, Committed}
use Rattle.mg_chain.specs.Views.{first_entry}
use Rattle.mg_chain.specs.Chains.{newest_link}
use Rattle.mg_engine_step_laws.specs.standing.Listed.{page_listed}
use Rattle.mg_engine_step_laws.specs.tables.TablePages.{table_there}
use Rattle.mg_engine_step_laws.specs.standing.OwnChains.{change_there, row_of}
use Rattle.mg_engine_step_laws.specs.backs.Shown.{IsTakenBack, ShowsMidway}
use Rattle.mg_engine_change_laws.specs.keys.Found.{ChangesAreThere, HasNewest, IsItsRecord, ItsRecordIsFound}
use Rattle.mg_generation_laws.specs.Generations.{Generation, is_newest_by}
use Rattle.mg_generation_laws.specs.Kept.{IsErasedForAll}
use Rattle.mg_image_overlay_laws.specs.tables.Growing.{IsTableOf}
use Rattle.mg_heap.specs.Table.{IsTable}
use Rattle.mg_image.specs.Form.{Pages, packed_form}
use Rattle.mg_image.specs.Histories.{newest_at, row_change}
use Rattle.mg_image.specs.RecordRules.{Facts, table_in}
use Rattle.mg_image.specs.Records as records
use Rattle.mg_image.specs.Records.{Reading, cells_of, record_key, writer}
use Rattle.mg_image.specs.Sound.{facts_by}
use Rattle.mg_image.specs.Tables.{Has, entries_in, stands_of, table_at}
use Rattle.mg_image.specs.declared.entry.Entry.{Entry as Read}
use Rattle.mg_image_overlay_laws.specs.records.Fronts.{is_dead}
use Rattle.mg_model.specs.History.{Entries, Entry}
use Rattle.mg_model.specs.Machine.{state_of}
use Rattle.mg_model.specs.Openings.{everyone}
use Rattle.mg_model.specs.declared.change.Change.{Change}
use Rattle.mg_model.specs.declared.opening.Opening.{Opening}
use Rattle.mg_model.specs.declared.table.Table.{Table}
use Rattle.mg_image_overlay_laws.specs.tables.OneChain.{link_once}
use Rattle.mg_overlay_laws.specs.Overlays.{left_by, left_state}
use Rattle.mg_pointer.specs.PointerPage.{next_in}
use Rattle.mg_seek.specs.Histories.{told_versions}
use Rattle.mg_seek.specs.Readings.{PlacesOfReadings, SpeakersOfReadings, placed_if}
use Rattle.mg_seek.specs.Speaking.{IsSpeaker}
use Rattle.mg_seek.specs.TableRecords.{AreTableRecords, IsAmong}
use Rattle.mg_seek.specs.Versions.{IsFirst, wants}
use Rattle.mg_seek.specs.declared.walk.Placed.{Placed}
use Rattle.mg_seek.specs.declared.whose.Wanted.TheVariants.{Any}
use Rattle.mg_engine_step_laws.specs.standing.Standing.{Remembers, ShowsHistory, Standing}
use Rattle.mg_engine_step_laws.specs.standing.Versions.{SpeaksOrSilent, told_version}
use Rattle.mg_image_overlay_laws.specs.tables.OneTable.{its_data}
use Rattle.mg_value.specs.declared.value.Value.{Value}

-- ---- changes

change_back : (c : records.Change) → c ≡ row_change (row_of (Some c))
change_back (records.Puts row) = refl
change_back records.Erases = refl

pub changes_are_there : ChangesAreThere
changes_are_there cs name key has = at (newest_at cs name key) refl
  where
    at : (x : Option records.Change) → newest_at cs name key ≡ x → HasNewest cs name key
    at None none = absurd (false≢true (sym (change_there cs name key ∙ ap is_some none) ∙ has))
    at (Some c) is = record { row = row_of (Some c); is_ = is ∙ ap Some (change_back c) }

-- a deletion that all see is no active transaction's
not_erased : (o : Opening) (h : Entries) (t : ℕ) (gs : List Generation) → state_of o h t ≡ Active
    → IsErasedForAll o h gs → is_newest_by t gs ≡ false
not_erased o h t [] active none = absurd none
not_erased o h t (g ∷ gs) active (seen, none) = ne_eqb g.writer t (λ same.
    let both : Active ≡ Committed = sym active ∙ (ap (state_of o h) (sym same) ∙ seen.committed) in absurd cc)

module _ (places : PlacesOfReadings) (speakers : SpeakersOfReadings) (size : ℕ) (o : Opening) (h : Entries)
    (e : Entry) (t : ℕ) (whole left : List Change) (s : Standing) (begun pages : Pages)
    (first : ShowsHistory packed_form size o h s begun)
    (midway : ShowsMidway packed_form size o h e t whole left s begun first pages) (memory : Remembers o h s)
    (active : s.state t ≡ Active) (its : Table) (stands : IsTableOf midway.layout its) (key : Value) (rec : RecId)
    (newest : Placed) (spoken : IsSpeaker s.state s.live pages its key (Some rec))
    (is_first : IsFirst pages (wants s.state s.live Any) rec (Some newest)) (own : newest.version.tx.0 ≡ t) where
  abbrev state : ℕ → TxState
  state = left_state everyone s.state

  abbrev f0 : Facts
  f0 = facts_by (left_state everyone s.state) begun first.layout

  abbrev f : Facts
  f = facts_by (left_state everyone s.state) pages midway.layout

  abbrev r0 : Reading
  r0 = first.reading

  abbrev r : Reading
  r = midway.reading

  active_told : state_of o h t ≡ Active
  active_told = sym (memory.state t) ∙ active

  -- ---- it is one of the table's

  abbrev listed : AreTableRecords pages its.pointer.0 spoken.records
  listed = spoken.of_table

  there : IsTable pages its.pointer.0 stands.stand.pointers stands.stand.data_pages
  there = table_there size (left_state everyone s.state) pages midway.layout midway.reading midway.sound its stands

  data_same : spoken.of_table.data_pages ≡ stands.stand.data_pages
  data_same = spoken.of_table.table.entries
      ∙ (ap (entries_in pages) (link_once (λ n. next_in (pages n)) its.pointer.0 spoken.of_table.pointers
      stands.stand.pointers spoken.of_table.table.chain there.chain) ∙ sym there.entries)

  on_page : Has stands.stand.data_pages rec.page.0
  on_page = subst (λ (ns : List ℕ). Has ns rec.page.0) data_same
      (page_listed pages spoken.of_table.data_pages rec
      (subst (λ (recs : List RecId). IsAmong recs rec) spoken.of_table.are spoken.speaks.0))

  of_now : table_at (stands_of midway.layout) rec.page.0 ≡ Some its
  of_now = (its_data packed_form size (left_state everyone s.state) pages midway.layout midway.reading midway.sound its
      stands rec.page.0).1 on_page

  keyed_now : record_key its (midway.reading rec) ≡ key
  keyed_now = ((speakers s.state s.live pages its key rec f midway.reading
      (record { lawful = midway.sound.records; of_table = of_now })).0 spoken.speaks.1).keyed

  -- ---- its newest version

  found : Some newest ≡ placed_if (first_entry (wants s.state s.live Any) (midway.reading rec))
  found = places (cells_of pages) (wants s.state s.live Any) (newest_link pages rec) (Some newest) (midway.reading rec)
      is_first (midway.sound.records.reads rec its of_now)

  -- The versions that are read begin with it.
  record BeginsWith : Type 0 where
    d : Read
    ds : List Read
    is_ : midway.reading rec ≡ d ∷ ds
    its_own : writer d ≡ t

  begins : BeginsWith
  begins = at (midway.reading rec) refl found
    where
      at : (es : List Read) → midway.reading rec ≡ es
          → Some newest ≡ placed_if (first_entry (wants s.state s.live Any) es) → BeginsWith
      at [] none same = absurd cc
      at (d ∷ ds) is same =
          let version_is : newest ≡ record { at = d.at; version = d.version } = cc in
          record {
            d = d;
            ds = ds;
            is_ = is;
            its_own = sym (ap (λ (p : Placed). p.version.tx.0) version_is) ∙ own;
          }

  told_newest : (x : Table) → is_newest_by t (told_versions (left_state everyone s.state) x (midway.reading rec)) ≡ true
  told_newest x =
      let alive : is_dead (left_state everyone s.state (writer begins.d)) ≡ false =
      ap (λ (v : ℕ). is_dead (left_state everyone s.state v)) begins.its_own
      ∙ ap (λ (y : TxState). is_dead (left_by true y)) active in
      ap (λ (es : List Read). is_newest_by t (told_versions (left_state everyone s.state) x es)) begins.is_
      ∙ (ap (λ (b : Bool). is_newest_by t (map (told_version x) (if b then begins.ds else begins.d ∷ begins.ds))) alive
      ∙ eq-eqb (writer begins.d) t begins.its_own)

  some_read : midway.reading rec ≢ []
  some_read none = let both : begins.d ∷ begins.ds ≡ [] = sym begins.is_ ∙ none in absurd cc

  -- ---- it spoke at first

  spoke : first.versions.speaker its.name key ≡ Some rec
  spoke = at (midway.new rec its of_now)
    where
      as_first : table_in f0 rec ≡ Some its → midway.reading rec ≡ first.reading rec
          → SpeaksOrSilent o h f0 first.reading first.versions.speaker rec its
          → first.versions.speaker its.name key ≡ Some rec
      as_first was same (inl empty) = absurd (false≢true (sym (ap (is_newest_by t) empty)
          ∙ (ap (λ (es : List Read). is_newest_by t (told_versions (left_state everyone s.state) its es)) (sym same)
          ∙ told_newest its)))
      as_first was same (inr (inl gone)) = absurd (false≢true (sym (not_erased o h t
          (told_versions (left_state everyone s.state) its (first.reading rec)) active_told gone)
          ∙ (ap (λ (es : List Read). is_newest_by t (told_versions (left_state everyone s.state) its es)) (sym same)
          ∙ told_newest its)))
      as_first was same (inr (inr speaks)) = ap (first.versions.speaker its.name)
          (sym keyed_now ∙ ap (record_key its) same) ∙ speaks

      back_there : table_in f0 rec ≡ Some its
          → IsTakenBack o h e t f0 first.reading midway.reading first.versions.speaker rec
          → first.versions.speaker its.name key ≡ Some rec
      back_there was it =
          let both : Some it.table ≡ Some its = sym it.of ∙ was in
          let is : it.table ≡ its = cc in
          ap (first.versions.speaker its.name) (sym keyed_now
          ∙ (ap (λ (x : Table). record_key x (midway.reading rec)) (sym is) ∙ (it.keyed some_read
          ∙ ap (λ (x : Table). record_key x (first.reading rec)) is)))
          ∙ subst (λ (x : Table). first.versions.speaker x.name (record_key x (first.reading rec)) ≡ Some rec) is
          it.spoke

      at : (table_at (stands_of first.layout) rec.page.0 ≡ Some its)
          ⊎ ((first.reading rec ≡ []) × (midway.reading rec ≡ []))
          → first.versions.speaker its.name key ≡ Some rec
      at (inr (none, empty)) = absurd (some_read empty)
      at (inl was) = by (midway.each_record rec)
        where
          by : (midway.reading rec ≡ first.reading rec)
              ⊎ IsTakenBack o h e t f0 first.reading midway.reading first.versions.speaker rec
              → first.versions.speaker its.name key ≡ Some rec
          by (inl same) = as_first was same (first.versions.others rec its was)
          by (inr it) = back_there was it

  pub its_record : IsItsRecord size o h e t whole left s begun pages first midway its key rec
  its_record = record {
    of_table = of_now;
    keyed = keyed_now;
    newest = begins.d;
    older = begins.ds;
    read = begins.is_;
    own = begins.its_own;
    spoken = spoke;
  }

pub its_record_is_found : PlacesOfReadings → SpeakersOfReadings → ItsRecordIsFound
its_record_is_found places speakers size o h e t whole left s begun pages first midway memory active its stands key rec
    newest spoken is_first own = its_record places speakers size o h e t whole left s begun pages first midway memory
    active its stands key rec newest spoken is_first own
