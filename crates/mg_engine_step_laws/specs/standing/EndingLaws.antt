-- A rollback, and a write, keep the pages showing the history.
use Rattle.std.proofs.Common.{◌≡◌, ◌≢◌, ◌⊎◌, inl, inr, ℕ, Bool, true, false, List, [], ◌∷◌, Option, None, Some, refl, sym, ap, ◌∙◌, subst}
use Rattle.std.specs.Prelude.{if◌then◌else◌, map}
use Rattle.std.proofs.lemmas.Bool.{cases_eq, eq-eqb, false≢true, ne_eqb}
use Rattle.mg_base.specs.declared.numbers.RecId.{RecId}
use Rattle.mg_base.specs.declared.transaction.TxState.{TxState}
use Rattle.mg_base.specs.declared.transaction.TxState.TheVariants.{Active, Committed, Dead, Limbo}
use Rattle.mg_value.specs.declared.value.Value.{Value}
use Rattle.mg_model.specs.declared.opening.Opening.{Opening}
use Rattle.mg_model.specs.declared.table.Table.{Table}
use Rattle.mg_model.specs.Answers.{is_open}
use Rattle.mg_model.specs.History.{Effect, Ends, Entries, Entry, effect_of}
use Rattle.mg_model.specs.Legal.{IsLegal, MayBegin}
use Rattle.mg_model.specs.LegalLaws.{IsAllowed, lawful_is_allowed}
use Rattle.mg_model.specs.Machine.{own, state_of}
use Rattle.mg_model.specs.Openings.{everyone}
use Rattle.mg_generation_laws.specs.After.{generations_after, generations_with, key_made}
use Rattle.mg_generation_laws.specs.Generations.{Generation, without_newest_by}
use Rattle.mg_generation_laws.specs.Kept.{IsErasedForAll}
use Rattle.mg_image.specs.declared.entry.Entry.{Entry as Read}
use Rattle.mg_image.specs.Form.{Form}
use Rattle.mg_image.specs.RecordRules.{Each, EachBack, Facts, table_in}
use Rattle.mg_image.specs.Records.{Reading, record_key, writer}
use Rattle.mg_image.specs.Sound.{facts_by}
use Rattle.mg_image_overlay_laws.specs.records.Fronts.{is_dead}
use Rattle.mg_overlay_laws.specs.Overlays.{left_state}
use Rattle.mg_engine_step_laws.specs.standing.BareLaws.{bare_has_found}
use Rattle.mg_engine_step_laws.specs.standing.ChainLaws.{erased_still}
use Rattle.mg_engine_step_laws.specs.standing.Ending.{Dies, GoesWithTable, StaysRecord, VersionsDie, WritesShow}
use Rattle.mg_engine_step_laws.specs.standing.StandingLaws.{IsChainOf}
use Rattle.mg_seek.specs.Histories.{told_versions}
use Rattle.mg_engine_step_laws.specs.standing.Versions.{HaveVersions, SpeaksOrSilent, told_version}
use Rattle.mg_engine_step_laws.specs.standing.VersionsLaws.{versions_follow}
use Rattle.mg_engine_step_laws.specs.standing.WritingLaws.{writes_follow_by}

module _ (f g : Facts) (r s : Reading) (t : ℕ) (dies : Dies f g r s t) where
  -- committed versions are not the transaction's
  older_kept : (table : Table) (es : List Read) → Each (λ e. f.state (writer e) ≡ Committed) es
      → without_newest_by t (map (told_version table) es) ≡ map (told_version table) es
  older_kept table [] each = refl
  older_kept table (e ∷ es) each =
      rw (ne_eqb (writer e) t (λ same. dies.before (ap f.state (sym same) ∙ each.0))) refl

  -- of the versions of a record those of the others count still
  told_after : (table : Table) (es : List Read) → EachBack (λ e. f.state (writer e) ≡ Committed) es
      → told_versions g.state table es ≡ without_newest_by t (told_versions f.state table es)
  told_after table [] backs = refl
  told_after table (e ∷ es) backs = at (cases_eq (writer e) t) (is_dead (f.state (writer e))) refl
    where
      at : (writer e ≡ t) ⊎ (writer e ≢ t) → (b : Bool) → is_dead (f.state (writer e)) ≡ b
          → map (told_version table) (if is_dead (g.state (writer e)) then es else e ∷ es)
          ≡ without_newest_by t (map (told_version table) (if is_dead (f.state (writer e)) then es else e ∷ es))
      at (inl same) b is = rw now (by b is)
        where
          now : is_dead (g.state (writer e)) ≡ true
          now = ap (λ (u : ℕ). is_dead (g.state u)) same ∙ ap is_dead dies.dead

          by : (b : Bool) → is_dead (f.state (writer e)) ≡ b
              → map (told_version table) es
              ≡ without_newest_by t (map (told_version table) (if is_dead (f.state (writer e)) then es else e ∷ es))
          by true dead = rw dead (sym (older_kept table es backs))
          by false alive = rw alive (rw (eq-eqb (writer e) t same) refl)
      at (inr ne) b is = rw now (by b is)
        where
          now : is_dead (g.state (writer e)) ≡ is_dead (f.state (writer e))
          now = ap is_dead (dies.others (writer e) ne)

          by : (b : Bool) → is_dead (f.state (writer e)) ≡ b
              → map (told_version table) (if is_dead (f.state (writer e)) then es else e ∷ es)
              ≡ without_newest_by t (map (told_version table) (if is_dead (f.state (writer e)) then es else e ∷ es))
          by true dead = rw dead (sym (older_kept table es backs))
          by false alive = rw alive (rw (ne_eqb (writer e) t ne) refl)

module _ (o : Opening) (h : Entries) (e : Entry) (f g : Facts) (r s : Reading) (t : ℕ)
    (opening : MayBegin o) (legal : IsLegal o (e ∷ h)) (is : effect_of e ≡ Ends t Dead)
    (dies : Dies f g r s t) (have : HaveVersions o h f r) where
  made : (name : List ℕ) (key : Value) (gs : List Generation)
      → generations_with o h e name key gs ≡ without_newest_by t gs
  made name key gs =
      ap (λ (x : Effect). generations_after x (key_made o h x) (own o (e ∷ h)) name key gs) is

  -- who spoke speaks still, where its record stays
  abbrev still_if : (p : RecId) → StaysRecord f g r s p ⊎ GoesWithTable f g r t p → Option RecId
  still_if p (inl stays) = Some p
  still_if p (inr goes) = None

  abbrev still : Option RecId → Option RecId
  still None = None
  still (Some p) = still_if p (dies.records p)

  abbrev later : List ℕ → Value → Option RecId
  later name key = still (have.speaker name key)

  keys_die : (name : List ℕ) (key : Value) (x : Option RecId) (chain : List Generation)
      → IsChainOf f r name key x chain
      → IsChainOf g s name key (still x) (generations_with o h e name key chain)
  keys_die name key None chain none = made name key chain ∙ ap (without_newest_by t) none
  keys_die name key (Some p) chain (its, told_is) = at (dies.records p)
    where
      at : (x : StaysRecord f g r s p ⊎ GoesWithTable f g r t p)
          → IsChainOf g s name key (still_if p x) (generations_with o h e name key chain)
      at (inl stays) = (
        record {
          table = its.table;
          of_table = stays.table ∙ its.of_table;
          named = its.named;
          some = λ none. its.some (sym stays.versions ∙ none);
          keyed = ap (record_key its.table) stays.versions ∙ its.keyed;
        },
        made name key chain ∙ (ap (without_newest_by t) told_is
            ∙ (sym (told_after f g r s t dies its.table (r p) (dies.backs p))
            ∙ ap (told_versions g.state its.table) (sym stays.versions))),
      )
      at (inr goes) = made name key chain
          ∙ (ap (without_newest_by t) told_is ∙ goes.its its.table its.of_table)

  -- a deletion that all see is not the transaction's
  erased_stays : (gs : List Generation) → IsErasedForAll o h gs → without_newest_by t gs ≡ gs
  erased_stays [] gone = absurd gone
  erased_stays (d ∷ ds) gone = rw (ne_eqb d.writer t not_its) refl
    where
      open_t : state_of o h t ≢ Committed
      open_t committed = by (state_of o h t) committed (subst (IsAllowed o h) is
          (lawful_is_allowed o h e legal.0)).0
        where
          by : (x : TxState) → x ≡ Committed → is_open x ≡ true → ⊥
          by Committed same opened = false≢true opened
          by Active same opened = absurd cc
          by Limbo same opened = absurd cc
          by Dead same opened = false≢true opened

      not_its : d.writer ≢ t
      not_its same = open_t (ap (state_of o h) (sym same) ∙ gone.0.committed)

  others_die : (p : RecId) (table : Table) → table_in g p ≡ Some table
      → SpeaksOrSilent o (e ∷ h) g s later p table
  others_die p table of = at (dies.records p) refl
    where
      at : (x : StaysRecord f g r s p ⊎ GoesWithTable f g r t p) → dies.records p ≡ x
          → SpeaksOrSilent o (e ∷ h) g s later p table
      at (inr goes) said = let both : None ≡ Some table = sym goes.gone ∙ of in absurd cc
      at (inl stays) said = by (have.others p table (sym stays.table ∙ of))
        where
          told_is : told_versions g.state table (s p) ≡ without_newest_by t (told_versions f.state table (r p))
          told_is = ap (told_versions g.state table) stays.versions
              ∙ told_after f g r s t dies table (r p) (dies.backs p)

          by : SpeaksOrSilent o h f r have.speaker p table → SpeaksOrSilent o (e ∷ h) g s later p table
          by (inl none) = inl (told_is ∙ ap (without_newest_by t) none)
          by (inr (inl gone)) = inr (inl (erased_still o opening h e legal (told_versions g.state table (s p))
              (subst (IsErasedForAll o h) (sym (told_is
              ∙ erased_stays (told_versions f.state table (r p)) gone)) gone)))
          by (inr (inr speaks)) = inr (inr (ap (λ (es : List Read). later table.name (record_key table es))
              stays.versions ∙ (ap still speaks ∙ ap (still_if p) said)))

  pub versions_die_by : HaveVersions o (e ∷ h) g s
  versions_die_by = versions_follow o h e f g r s have later opening legal (record {
    keys = λ name key chain chain_is. keys_die name key (have.speaker name key) chain chain_is;
    others = others_die;
  })

pub versions_die : VersionsDie
versions_die o h e f g r s t opening legal is dies have =
    versions_die_by o h e f g r s t opening legal is dies have

pub writes_show : (form : Form) → WritesShow form
writes_show form size o h e s new pages later shows t name key row opening legal written = record {
  layout = written.layout;
  reading = written.reading;
  sound = written.sound;
  next = written.next;
  versions = writes_follow_by o h e (facts_by (left_state everyone s.state) pages shows.layout)
      (facts_by (left_state everyone new.state) later written.layout) shows.reading written.reading t name
      key row written.place shows.versions opening legal written.writes written.record_;
  tables = written.tables;
  found = bare_has_found form size (left_state everyone new.state) later written.layout written.reading written.sound
      written.bare new.state new.live;
  bare = written.bare;
}
