-- Which records take a key: none but the one that speaks for it.
use Rattle.mg_base.specs.declared.numbers.RecId.{RecId}
use Rattle.mg_base.specs.declared.transaction.TxState.{TxState}
use Rattle.mg_base.specs.declared.transaction.TxState.TheVariants.{Active, Committed, Dead, Limbo}
use Rattle.mg_engine_step_laws.specs.writes.Knowing.{IsFreeFor, NoneTakes}
use Rattle.mg_generation_laws.specs.Kept.{IsErasedForAll}
use Rattle.mg_image.specs.Form.{Form, Pages}
use Rattle.mg_image.specs.Held.{told_row}
use Rattle.mg_image.specs.RecordRules.{Facts, TakesKey, committed_in}
use Rattle.mg_image.specs.Records.{record_key, shown, writer}
use Rattle.mg_image.specs.Sound.{facts_by}
use Rattle.mg_image.specs.declared.entry.Entry.{Entry}
use Rattle.mg_image_overlay_laws.specs.records.Fronts.{is_dead}
use Rattle.mg_model.specs.Answers.{is_committed}
use Rattle.mg_model.specs.History.{Entries}
use Rattle.mg_model.specs.Machine.{state_of}
use Rattle.mg_model.specs.Openings.{everyone}
use Rattle.mg_model.specs.declared.opening.Opening.{Opening}
use Rattle.mg_model.specs.declared.table.Table.{Table}
use Rattle.mg_overlay_laws.specs.Overlays.{left_by, left_state}
use Rattle.mg_seek.specs.Histories.{told_all, told_given, told_versions}
use Rattle.mg_engine_step_laws.specs.standing.StandingLaws.{IsChainOf}
use Rattle.mg_engine_step_laws.specs.standing.Standing.{Remembers, ShowsHistory, Standing}
use Rattle.mg_engine_step_laws.specs.standing.Versions.{IsRecordOf, SpeaksFor, SpeaksOrSilent}
use Rattle.mg_value.specs.declared.value.Value.{Value}
use Rattle.std.proofs.Common.{Bool, List, None, Option, Some, [], ap, cond, false, inl, inr, refl, subst, sym, true, ℕ, ◌∙◌, ◌∷◌, ◌≡◌, ◌⊎◌}

-- ---- versions that do not count take no key

erased_shows : (f : Facts) (table : Table) (e : Entry) (es : List Entry) → f.state (writer e) ≡ Committed
    → told_given table e ≡ None → shown (committed_in f) (e ∷ es) ≡ None
erased_shows f table e es committed none = at e.version.deleted none
  where
    at : (b : Bool) → cond b None (Some (told_row table e.row)) ≡ None
        → cond (is_committed (f.state (writer e))) (cond b None (Some e.row)) (shown (committed_in f) es)
        ≡ None
    at true is = rw committed refl
    at false is = absurd cc

-- a transaction that is committed in the history is so to the records of its pages
abbrev pub CommitsAlike : Opening → Entries → Facts → Type 0
CommitsAlike o h f = (u : ℕ) → state_of o h u ≡ Committed → f.state u ≡ Committed

not_taken : (o : Opening) (h : Entries) (f : Facts) (table : Table) → CommitsAlike o h f → (es : List Entry)
    → (told_versions f.state table es ≡ []) ⊎ IsErasedForAll o h (told_versions f.state table es)
    → TakesKey f es → ⊥
not_taken o h f table alike [] gone (inl (row, shows)) = absurd cc
not_taken o h f table alike [] gone (inr limbo) = limbo
not_taken o h f table alike (e ∷ es) gone takes = at (f.state (writer e)) refl es gone takes
  where
    -- a deletion that is committed shows nothing, and is nobody's in limbo
    erased : (d : Entry) (ds : List Entry) → state_of o h (writer d) ≡ Committed → told_given table d ≡ None
        → TakesKey f (d ∷ ds) → ⊥
    erased d ds committed none (inl (row, shows)) =
        let both : None ≡ Some row = sym (erased_shows f table d ds (alike (writer d) committed) none) ∙ shows in
        absurd cc
    erased d ds committed none (inr limbo) =
        let both : Limbo ≡ Committed = sym limbo ∙ alike (writer d) committed in absurd cc

    -- behind a dead one the next decides
    behind : (ds : List Entry) → f.state (writer e) ≡ Dead
        → (told_all table ds ≡ []) ⊎ IsErasedForAll o h (told_all table ds)
        → TakesKey f (e ∷ ds) → ⊥
    behind ds dead none (inr limbo) = let both : Limbo ≡ Dead = sym limbo ∙ dead in absurd cc
    behind [] dead none (inl (row, shows)) =
        let both : None ≡ Some row = sym (rw dead refl) ∙ shows in absurd cc
    behind (d ∷ ds) dead (inl empty) takes_it = absurd cc
    behind (d ∷ ds) dead (inr (seen, none)) (inl (row, shows)) =
        erased d ds seen.committed none (inl (row, sym (rw dead refl) ∙ shows))

    -- one that is not dead decides itself
    alive : (ds : List Entry) → (told_all table (e ∷ ds) ≡ []) ⊎ IsErasedForAll o h (told_all table (e ∷ ds))
        → TakesKey f (e ∷ ds) → ⊥
    alive ds (inl empty) takes_it = absurd cc
    alive ds (inr (seen, none)) takes_it = erased e ds seen.committed none takes_it

    at : (x : TxState) → f.state (writer e) ≡ x → (ds : List Entry)
        → (told_all table (cond (is_dead (f.state (writer e))) ds (e ∷ ds)) ≡ [])
        ⊎ IsErasedForAll o h (told_all table (cond (is_dead (f.state (writer e))) ds (e ∷ ds)))
        → TakesKey f (e ∷ ds) → ⊥
    at Dead is ds none takes_it = behind ds is (subst (λ (x : TxState).
        (told_all table (cond (is_dead x) ds (e ∷ ds)) ≡ [])
        ⊎ IsErasedForAll o h (told_all table (cond (is_dead x) ds (e ∷ ds)))) is none) takes_it
    at Active is ds none takes_it = alive ds (subst (λ (x : TxState).
        (told_all table (cond (is_dead x) ds (e ∷ ds)) ≡ [])
        ⊎ IsErasedForAll o h (told_all table (cond (is_dead x) ds (e ∷ ds)))) is none) takes_it
    at Limbo is ds none takes_it = alive ds (subst (λ (x : TxState).
        (told_all table (cond (is_dead x) ds (e ∷ ds)) ≡ [])
        ⊎ IsErasedForAll o h (told_all table (cond (is_dead x) ds (e ∷ ds)))) is none) takes_it
    at Committed is ds none takes_it = alive ds (subst (λ (x : TxState).
        (told_all table (cond (is_dead x) ds (e ∷ ds)) ≡ [])
        ⊎ IsErasedForAll o h (told_all table (cond (is_dead x) ds (e ∷ ds)))) is none) takes_it

-- ---- on the pages of an engine

module _ (form : Form) (size : ℕ) (o : Opening) (h : Entries) (s : Standing) (pages : Pages)
    (memory : Remembers o h s) (shows : ShowsHistory form size o h s pages) where
  abbrev f : Facts
  f = facts_by (left_state everyone s.state) pages shows.layout

  alike : CommitsAlike o h f
  alike u committed = ap (left_by true) (memory.state u ∙ committed)

  -- where a record speaks for a key, or no version of the key counts, no other record takes the key
  pub none_takes : (name : List ℕ) (key : Value) (rec : RecId) (table : Table) → table.name ≡ name
      → IsFreeFor form size o h s pages shows name key rec → NoneTakes f shows.reading table key rec
  none_takes name key rec table named free q ne of keyed takes = by (shows.versions.others q table of)
    where
      silent : (told_versions f.state table (shows.reading q) ≡ [])
          ⊎ IsErasedForAll o h (told_versions f.state table (shows.reading q)) → ⊥
      silent gone = not_taken o h f table alike (shows.reading q) gone takes

      spoken : shows.versions.speaker table.name (record_key table (shows.reading q)) ≡ Some q
          → shows.versions.speaker name key ≡ Some q
      spoken is = ap (λ (n : List ℕ). shows.versions.speaker n key) (sym named)
          ∙ (ap (shows.versions.speaker table.name) (sym keyed) ∙ is)

      one_table : (its : IsRecordOf f shows.reading name key q) → its.table ≡ table
      one_table its = let both : Some its.table ≡ Some table = sym its.of_table ∙ of in cc

      other : shows.versions.speaker name key ≡ Some q
          → IsFreeFor form size o h s pages shows name key rec → ⊥
      other is (inl speaks) = let both : Some q ≡ Some rec = sym is ∙ speaks in absurd (ne cc)
      other is (inr none) =
          let its : SpeaksFor o h f shows.reading name key (Some q) =
          subst (SpeaksFor o h f shows.reading name key) is (shows.versions.speaks name key) in
          silent (subst (λ (t : Table). (told_versions f.state t (shows.reading q) ≡ [])
          ⊎ IsErasedForAll o h (told_versions f.state t (shows.reading q))) (one_table its.0)
          (none (told_versions f.state its.0.table (shows.reading q))
          (subst (λ (x : Option RecId). IsChainOf f shows.reading name key x
          (told_versions f.state its.0.table (shows.reading q))) (sym is) (its.0, refl))))

      by : SpeaksOrSilent o h f shows.reading shows.versions.speaker q table → ⊥
      by (inl empty) = silent (inl empty)
      by (inr (inl erased)) = silent (inr erased)
      by (inr (inr speaks)) = other (spoken speaks) free
