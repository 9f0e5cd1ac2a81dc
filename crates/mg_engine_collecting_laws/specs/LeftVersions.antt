-- A record whose versions become fewer says of its key what it said: so the records go on to have the versions of the
-- history.
use Rattle.std.proofs.Common.{◌≡◌, ◌≢◌, ◌∙◌, ◌⊎◌, inl, inr, refl, sym, ap, subst, ℕ, true, false, List, [], ◌∷◌, Option, None, Some}
use Rattle.mg_base.specs.declared.numbers.RecId.{RecId}
use Rattle.mg_base.specs.declared.transaction.TxState.{TxState}
use Rattle.mg_engine_step_laws.specs.standing.Standing.{ShowsHistory, Standing}
use Rattle.mg_engine_step_laws.specs.standing.StandingLaws.{IsChainOf}
use Rattle.mg_engine_step_laws.specs.standing.Versions.{HaveVersions, SpeaksFor, SpeaksOrSilent}
use Rattle.mg_engine_step_laws.specs.writes.Writes.{ReadsAfter}
use Rattle.mg_engine_step_laws.specs.standing.Writing.{Silenced}
use Rattle.mg_engine_step_laws.specs.standing.WritingLaws.{erased_may_be_silent}
use Rattle.mg_generation_laws.specs.Generations.{Generation}
use Rattle.mg_generation_laws.specs.Kept.{IsErasedForAll, StandFor}
use Rattle.mg_image.specs.Form.{Form, Pages}
use Rattle.mg_image.specs.RecordRules.{Facts, table_in}
use Rattle.mg_image.specs.Records.{record_key}
use Rattle.mg_image.specs.Sound.{facts_by}
use Rattle.mg_image.specs.StepLaws.{cases_place, same_place}
use Rattle.mg_image.specs.Tables.{stands_of, table_at}
use Rattle.mg_image.specs.declared.entry.Entry.{Entry}
use Rattle.mg_model.specs.History.{Entries}
use Rattle.mg_model.specs.Openings.{everyone}
use Rattle.mg_model.specs.declared.opening.Opening.{Opening}
use Rattle.mg_model.specs.declared.table.Table.{Table}
use Rattle.mg_overlay_laws.specs.Overlays.{left_state}
use Rattle.mg_seek.specs.Histories.{told_versions}
use Rattle.mg_value.specs.declared.value.Value.{Value}

-- a chain says nothing: it has no versions, or they begin with a deletion that all see
abbrev pub SaysNothing : Opening → Entries → List Generation → Type 0
SaysNothing o h chain = (chain ≡ []) ⊎ IsErasedForAll o h chain

-- The versions that are left of a record's say what they said: they stand for whatever those stood for, and say nothing
-- where those did; none is left only where those said nothing; and they have the same key.
pub record SaysTheSame (o : Opening) (h : Entries) (state : ℕ → TxState) (table : Table) (versions left : List Entry)
    : Type 0 where
  pub stand : (name : List ℕ) (key : Value) → StandFor o h name key (told_versions state table versions)
      → StandFor o h name key (told_versions state table left)
  pub silent : SaysNothing o h (told_versions state table versions)
      → SaysNothing o h (told_versions state table left)
  pub gone : left ≡ [] → SaysNothing o h (told_versions state table versions)
  pub keyed : left ≢ [] → record_key table left ≡ record_key table versions

module _ (form : Form) (size : ℕ) (o : Opening) (h : Entries) (s : Standing) (pages later : Pages)
    (shows : ShowsHistory form size o h s pages) (table : Table) (rec : RecId) (left : List Entry)
    (of : table_at (stands_of shows.layout) rec.page.0 ≡ Some table) (some : shows.reading rec ≢ [])
    (says : SaysTheSame o h (left_state everyone s.state) table (shows.reading rec) left)
    (reads : ReadsAfter form size (left_state everyone s.state) pages later shows.layout shows.reading rec left)
  where
    abbrev f : Facts
    f = facts_by (left_state everyone s.state) pages shows.layout

    abbrev g : Facts
    g = facts_by (left_state everyone s.state) later reads.layout

    one_of : (its : Table) → table_in f rec ≡ Some its → its ≡ table
    one_of its is = let both : Some its ≡ Some table = sym is ∙ of in cc

    -- by whoever speaks for keys, where this record speaks for none unless a version is left in it
    module _ (have : HaveVersions o h f shows.reading)
        (stays : (name : List ℕ) (key : Value) → have.speaker name key ≡ Some rec → left ≢ []) where
      speaks_at : (name : List ℕ) (key : Value) (p : RecId) → have.speaker name key ≡ Some p
          → (p ≡ rec) ⊎ (p ≢ rec) → SpeaksFor o h f shows.reading name key (Some p)
          → SpeaksFor o h g reads.reading name key (Some p)
      speaks_at name key p spoken (inr ne) (its, versions) = (
        record {
          table = its.table;
          of_table = reads.grown.stays p.page.0 its.table its.of_table;
          named = its.named;
          some = λ none. its.some (sym (reads.others p ne) ∙ none);
          keyed = ap (record_key its.table) (reads.others p ne) ∙ its.keyed;
        },
        subst (λ (es : List Entry). StandFor o h name key (told_versions f.state its.table es))
            (sym (reads.others p ne)) versions,
      )
      speaks_at name key p spoken (inl same) (its, versions) = (
        record {
          table = its.table;
          of_table = reads.grown.stays p.page.0 its.table its.of_table;
          named = its.named;
          some = λ none. some_left (sym (ap reads.reading same ∙ reads.here) ∙ none);
          keyed = ap (record_key its.table) (ap reads.reading same ∙ reads.here)
              ∙ (ap (λ (x : Table). record_key x left) its_table
              ∙ (says.keyed some_left ∙ (ap (λ (x : Table). record_key x (shows.reading rec)) (sym its_table)
              ∙ (ap (λ (q : RecId). record_key its.table (shows.reading q)) (sym same) ∙ its.keyed))));
        },
        subst (λ (es : List Entry). StandFor o h name key (told_versions g.state its.table es))
            (sym (ap reads.reading same ∙ reads.here))
            (subst (λ (x : Table). StandFor o h name key (told_versions f.state x left)) (sym its_table)
            (says.stand name key
            (subst (λ (x : Table). StandFor o h name key (told_versions f.state x (shows.reading rec))) its_table
            (subst (λ (q : RecId). StandFor o h name key (told_versions f.state its.table (shows.reading q))) same
            versions)))),
      )
        where
          its_table : its.table ≡ table
          its_table = one_of its.table (ap (λ (q : RecId). table_in f q) (sym same) ∙ its.of_table)

          some_left : left ≢ []
          some_left = stays name key (spoken ∙ ap Some same)

      speaks_after : (name : List ℕ) (key : Value) (speaker : Option RecId) → have.speaker name key ≡ speaker
          → SpeaksFor o h f shows.reading name key speaker → SpeaksFor o h g reads.reading name key speaker
      speaks_after name key None is none = none
      speaks_after name key (Some p) is speaks = speaks_at name key p is (same_or p) speaks
        where
          same_or : (q : RecId) → (q ≡ rec) ⊎ (q ≢ rec)
          same_or q = at (cases_place q rec)
            where
              at : ((q ≡ rec) × (same_place q rec ≡ true)) ⊎ ((q ≢ rec) × (same_place q rec ≡ false))
                  → (q ≡ rec) ⊎ (q ≢ rec)
              at (inl (same, yes_)) = inl same
              at (inr (ne, no_)) = inr ne

      -- a record that says nothing is silent
      quietly : (its : Table) (p : RecId) → SaysNothing o h (told_versions g.state its (reads.reading p))
          → SpeaksOrSilent o h g reads.reading have.speaker p its
      quietly its p (inl empty) = inl empty
      quietly its p (inr erased) = inr (inl erased)

      others_after : (p : RecId) (its : Table) → table_in g p ≡ Some its
          → SpeaksOrSilent o h g reads.reading have.speaker p its
      others_after p its is = at (cases_place p rec) (reads.grown.new p.page.0 its is)
        where
          -- a record that is as it was
          still : reads.reading p ≡ shows.reading p
              → (table_in f p ≡ Some its) ⊎ ((q : RecId) → q.page.0 ≡ p.page.0 → shows.reading q ≡ [])
              → SpeaksOrSilent o h g reads.reading have.speaker p its
          still same (inr none) = inl (ap (told_versions g.state its) (same ∙ none p refl))
          still same (inl was) = by (have.others p its was)
            where
              by : SpeaksOrSilent o h f shows.reading have.speaker p its
                  → SpeaksOrSilent o h g reads.reading have.speaker p its
              by (inl empty) = inl (ap (told_versions g.state its) same ∙ empty)
              by (inr (inl erased)) = inr (inl (subst (λ (es : List Entry).
                  IsErasedForAll o h (told_versions g.state its es)) (sym same) erased))
              by (inr (inr speaks)) = inr (inr (ap (λ (es : List Entry). have.speaker its.name
                  (record_key its es)) same ∙ speaks))

          here : p ≡ rec → (table_in f p ≡ Some its) ⊎ ((q : RecId) → q.page.0 ≡ p.page.0 → shows.reading q ≡ [])
              → SpeaksOrSilent o h g reads.reading have.speaker p its
          here same (inr none) = absurd (some (none rec (ap (λ (q : RecId). q.page.0) (sym same))))
          here same (inl was) = by (have.others p its was)
            where
              its_table : its ≡ table
              its_table = one_of its (ap (λ (q : RecId). table_in f q) (sym same) ∙ was)

              silent_here : SaysNothing o h (told_versions f.state its (shows.reading p))
                  → SaysNothing o h (told_versions g.state its (reads.reading p))
              silent_here nothing_ = subst (λ (es : List Entry). SaysNothing o h (told_versions g.state its es))
                  (sym (ap reads.reading same ∙ reads.here))
                  (subst (λ (x : Table). SaysNothing o h (told_versions f.state x left)) (sym its_table)
                  (says.silent (subst (λ (x : Table). SaysNothing o h (told_versions f.state x (shows.reading rec)))
                  its_table (subst (λ (q : RecId). SaysNothing o h (told_versions f.state its (shows.reading q))) same
                  nothing_))))

              keyed : left ≢ [] → record_key its (reads.reading p) ≡ record_key its (shows.reading p)
              keyed some_ = ap (record_key its) (ap reads.reading same ∙ reads.here)
                  ∙ (ap (λ (x : Table). record_key x left) its_table
                  ∙ (says.keyed some_
                  ∙ (ap (λ (x : Table). record_key x (shows.reading rec)) (sym its_table)
                  ∙ ap (λ (q : RecId). record_key its (shows.reading q)) (sym same))))

              by : SpeaksOrSilent o h f shows.reading have.speaker p its
                  → SpeaksOrSilent o h g reads.reading have.speaker p its
              by (inl empty) = quietly its p (silent_here (inl empty))
              by (inr (inl erased)) = quietly its p (silent_here (inr erased))
              by (inr (inr speaks)) = inr (inr (ap (have.speaker its.name)
                  (keyed (stays its.name (record_key its (shows.reading p)) (speaks ∙ ap Some same))) ∙ speaks))

          at : ((p ≡ rec) × (same_place p rec ≡ true)) ⊎ ((p ≢ rec) × (same_place p rec ≡ false))
              → (table_in f p ≡ Some its) ⊎ ((q : RecId) → q.page.0 ≡ p.page.0 → shows.reading q ≡ [])
              → SpeaksOrSilent o h g reads.reading have.speaker p its
          at (inl (same, yes_)) where_ = here same where_
          at (inr (ne, no_)) where_ = still (reads.others p ne) where_

      versions_after : HaveVersions o h g reads.reading
      versions_after = record {
        speaker = have.speaker;
        speaks = λ name key. speaks_after name key (have.speaker name key) refl (have.speaks name key);
        others = others_after;
      }

    -- ---- who speaks then

    abbrev its_key : Value
    its_key = record_key table (shows.reading rec)

    -- where this record speaks for a key, that is its own
    own_key : (have : HaveVersions o h f shows.reading) (name : List ℕ) (key : Value)
        → have.speaker name key ≡ Some rec → (name ≡ table.name) × (key ≡ its_key)
    own_key have name key is = at (subst (SpeaksFor o h f shows.reading name key) is (have.speaks name key))
      where
        at : SpeaksFor o h f shows.reading name key (Some rec) → (name ≡ table.name) × (key ≡ its_key)
        at (its, versions) =
            let same : its.table ≡ table = one_of its.table its.of_table in (
              sym its.named ∙ ap (λ (x : Table). x.name) same,
              sym its.keyed ∙ ap (λ (x : Table). record_key x (shows.reading rec)) same,
            )

    quiet : (chain : List Generation) → IsChainOf f shows.reading table.name its_key (Some rec) chain
        → left ≡ [] → SaysNothing o h chain
    quiet chain (its, is) empty = subst (SaysNothing o h) (sym (is ∙ ap (λ (x : Table).
        told_versions f.state x (shows.reading rec)) (one_of its.table its.of_table))) (says.gone empty)

    -- with none left in it, it is silent
    pub versions_left : HaveVersions o h g reads.reading
    versions_left = by left refl (shows.versions.speaker table.name its_key) refl
      where
        plain : ((name : List ℕ) (key : Value) → shows.versions.speaker name key ≡ Some rec → left ≢ [])
            → HaveVersions o h g reads.reading
        plain stays = versions_after shows.versions stays

        other_speaks : (speaker : Option RecId) → shows.versions.speaker table.name its_key ≡ speaker
            → (speaker ≡ Some rec → ⊥) → HaveVersions o h g reads.reading
        other_speaks speaker is not = plain (λ name key spoken. absurd (not (sym is
            ∙ (ap (λ (n : List ℕ). shows.versions.speaker n its_key) (sym (own_key shows.versions name key spoken).0)
            ∙ (ap (shows.versions.speaker name) (sym (own_key shows.versions name key spoken).1) ∙ spoken)))))

        silenced_one : left ≡ [] → shows.versions.speaker table.name its_key ≡ Some rec
            → HaveVersions o h g reads.reading
        silenced_one empty spoken = versions_after it.now (λ name key speaks.
            let both : None ≡ Some rec = sym it.none ∙ (ap (λ (n : List ℕ). it.now.speaker n its_key)
            (sym (own_key it.now name key speaks).0) ∙ (ap (it.now.speaker name)
            (sym (own_key it.now name key speaks).1) ∙ speaks)) in absurd cc)
          where
            it : Silenced o h f shows.reading shows.versions table.name its_key
            it = erased_may_be_silent o h f shows.reading shows.versions table.name its_key
                (λ chain is. quiet chain (subst (λ (x : Option RecId).
                IsChainOf f shows.reading table.name its_key x chain) spoken is) empty)

        by : (es : List Entry) → left ≡ es → (speaker : Option RecId)
            → shows.versions.speaker table.name its_key ≡ speaker → HaveVersions o h g reads.reading
        by (e ∷ es) are speaker is = plain (λ name key spoken none.
            let both : e ∷ es ≡ [] = sym are ∙ none in absurd cc)
        by [] are None is = other_speaks None is (λ same. absurd cc)
        by [] are (Some p) is = at (cases_place p rec)
          where
            at : ((p ≡ rec) × (same_place p rec ≡ true)) ⊎ ((p ≢ rec) × (same_place p rec ≡ false))
                → HaveVersions o h g reads.reading
            at (inl (same, yes_)) = silenced_one are (is ∙ ap Some same)
            at (inr (ne, no_)) = other_speaks (Some p) is (λ same. ne cc)
