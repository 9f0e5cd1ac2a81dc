-- In the middle of a way back: of the records of a table with a key, only the one that spoke for the key at first has versions
-- that count.
use Rattle.std.proofs.Common.{◌≡◌, ◌⊎◌, ◌∙◌, ap, inl, inr, refl, subst, sym, ℕ, List, [], ◌∷◌, Some}
use Rattle.mg_base.specs.declared.numbers.RecId.{RecId}
use Rattle.mg_engine_step_laws.specs.backs.Shown.{IsTakenBack, ShowsMidway}
use Rattle.mg_engine_step_laws.specs.standing.Standing.{ShowsHistory, Standing}
use Rattle.mg_engine_step_laws.specs.standing.Versions.{SpeaksOrSilent}
use Rattle.mg_generation_laws.specs.Kept.{IsErasedForAll}
use Rattle.mg_image.specs.Form.{Pages, packed_form}
use Rattle.mg_image.specs.RecordRules.{Facts, table_in}
use Rattle.mg_image.specs.Records.{Reading, record_key}
use Rattle.mg_image.specs.Sound.{facts_by}
use Rattle.mg_image.specs.Tables.{stands_of, table_at}
use Rattle.mg_image.specs.declared.entry.Entry.{Entry as Read}
use Rattle.mg_model.specs.History.{Entries, Entry}
use Rattle.mg_model.specs.Openings.{everyone}
use Rattle.mg_model.specs.declared.change.Change.{Change}
use Rattle.mg_model.specs.declared.opening.Opening.{Opening}
use Rattle.mg_model.specs.declared.table.Table.{Table}
use Rattle.mg_overlay_laws.specs.Overlays.{left_state}
use Rattle.mg_seek.specs.Histories.{told_versions}
use Rattle.mg_value.specs.declared.value.Value.{Value}

module _ (size : ℕ) (o : Opening) (h : Entries) (e : Entry) (t : ℕ) (whole left : List Change) (s : Standing)
    (begun pages : Pages) (first : ShowsHistory packed_form size o h s begun)
    (midway : ShowsMidway packed_form size o h e t whole left s begun first pages) (its : Table) (key : Value) (p : RecId)
    (spoke : first.versions.speaker its.name key ≡ Some p) where
  abbrev f : Facts
  f = facts_by (left_state everyone s.state) pages midway.layout

  abbrev f0 : Facts
  f0 = facts_by (left_state everyone s.state) begun first.layout

  abbrev r : Reading
  r = midway.reading

  pub others_silent : (rec : RecId) → table_in f rec ≡ Some its → record_key its (r rec) ≡ key
      → (told_versions (left_state everyone s.state) its (r rec) ≡ [])
      ⊎ IsErasedForAll o h (told_versions (left_state everyone s.state) its (r rec)) ⊎ (Some p ≡ Some rec)
  others_silent rec of keyed = at (midway.new rec its of)
    where
      as_first : r rec ≡ first.reading rec → SpeaksOrSilent o h f0 first.reading first.versions.speaker rec its
          → (told_versions (left_state everyone s.state) its (r rec) ≡ [])
          ⊎ IsErasedForAll o h (told_versions (left_state everyone s.state) its (r rec)) ⊎ (Some p ≡ Some rec)
      as_first same (inl empty) = inl (ap (told_versions (left_state everyone s.state) its) same ∙ empty)
      as_first same (inr (inl gone)) = inr (inl (subst (λ (es : List Read). IsErasedForAll o h
          (told_versions (left_state everyone s.state) its es)) (sym same) gone))
      as_first same (inr (inr speaks)) = inr (inr (sym spoke
          ∙ (ap (first.versions.speaker its.name) (sym keyed ∙ ap (record_key its) same) ∙ speaks)))

      taken : table_in f0 rec ≡ Some its → IsTakenBack o h e t f0 first.reading r first.versions.speaker rec
          → (es : List Read) → r rec ≡ es
          → (told_versions (left_state everyone s.state) its (r rec) ≡ [])
          ⊎ IsErasedForAll o h (told_versions (left_state everyone s.state) its (r rec)) ⊎ (Some p ≡ Some rec)
      taken was it [] empty = inl (ap (told_versions (left_state everyone s.state) its) empty)
      taken was it (x ∷ xs) some =
          let both : Some it.table ≡ Some its = sym it.of ∙ was in
          let same : it.table ≡ its = cc in
          inr (inr (sym spoke ∙ (ap (first.versions.speaker its.name) (sym keyed
          ∙ (ap (λ (y : Table). record_key y (r rec)) (sym same) ∙ (it.keyed (λ empty.
          let none : x ∷ xs ≡ [] = sym some ∙ empty in absurd cc)
          ∙ ap (λ (y : Table). record_key y (first.reading rec)) same)))
          ∙ subst (λ (y : Table). first.versions.speaker y.name (record_key y (first.reading rec)) ≡ Some rec) same
          it.spoke)))

      by : table_in f0 rec ≡ Some its → (r rec ≡ first.reading rec)
          ⊎ IsTakenBack o h e t f0 first.reading r first.versions.speaker rec
          → (told_versions (left_state everyone s.state) its (r rec) ≡ [])
          ⊎ IsErasedForAll o h (told_versions (left_state everyone s.state) its (r rec)) ⊎ (Some p ≡ Some rec)
      by was (inl same) = as_first same (first.versions.others rec its was)
      by was (inr it) = taken was it (r rec) refl

      at : (table_at (stands_of first.layout) rec.page.0 ≡ Some its) ⊎ ((first.reading rec ≡ []) × (r rec ≡ []))
          → (told_versions (left_state everyone s.state) its (r rec) ≡ [])
          ⊎ IsErasedForAll o h (told_versions (left_state everyone s.state) its (r rec)) ⊎ (Some p ≡ Some rec)
      at (inl was) = by was (midway.each_record rec)
      at (inr (none, empty)) = inl (ap (told_versions (left_state everyone s.state) its) empty)
