-- A transaction dies after some of its versions were taken out or replaced: what becomes of the versions of
-- records.
use Rattle.std.proofs.Common.{◌≡◌, ◌≢◌, ◌⊎◌, inl, inr, ℕ, true, List, [], ◌∷◌, Option, None, Some, refl, sym, ap, ◌∙◌, subst}
use Rattle.std.proofs.lemmas.Bool.{false≢true, ne_eqb}
use Rattle.mg_base.specs.declared.numbers.RecId.{RecId}
use Rattle.mg_base.specs.declared.transaction.TxState.{TxState}
use Rattle.mg_base.specs.declared.transaction.TxState.TheVariants.{Active, Committed, Dead, Limbo}
use Rattle.mg_value.specs.declared.value.Value.{Value}
use Rattle.mg_model.specs.declared.opening.Opening.{Opening}
use Rattle.mg_model.specs.declared.table.Table.{Table}
use Rattle.mg_model.specs.Answers.{is_open}
use Rattle.mg_model.specs.History.{Effect, Ends, Entries, Entry, effect_of}
use Rattle.mg_model.specs.Legal.{IsLegal, MayBegin}
use Rattle.mg_model.specs.LegalLaws.{IsAllowed, lawful_is_allowed}
use Rattle.mg_model.specs.Machine.{own, state_of}
use Rattle.mg_generation_laws.specs.After.{generations_after, generations_with, key_made}
use Rattle.mg_generation_laws.specs.Generations.{Generation, without_newest_by}
use Rattle.mg_generation_laws.specs.Kept.{IsErasedForAll}
use Rattle.mg_image.specs.declared.entry.Entry.{Entry as Read}
use Rattle.mg_image.specs.RecordRules.{Facts, table_in}
use Rattle.mg_image.specs.Records.{Reading, record_key}
use Rattle.mg_seek.specs.Histories.{told_versions}
use Rattle.mg_engine_step_laws.specs.standing.ChainLaws.{erased_still}
use Rattle.mg_engine_step_laws.specs.standing.StandingLaws.{IsChainOf}
use Rattle.mg_engine_step_laws.specs.standing.Versions.{HaveVersions, IsRecordOf, SpeaksOrSilent}
use Rattle.mg_engine_step_laws.specs.standing.VersionsLaws.{versions_follow}

-- A record keeps what all others count of it: its table, its versions but for the transaction's own newest one,
-- and its key, if it has any version left.
pub record StaysForOthers (f g : Facts) (r s : Reading) (t : ℕ) (p : RecId) (table : Table) : Type 0 where
  pub there : table_in g p ≡ Some table
  pub told : told_versions g.state table (s p) ≡ without_newest_by t (told_versions f.state table (r p))
  pub keyed : s p ≢ [] → record_key table (s p) ≡ record_key table (r p)

-- A record is gone with its table, which the transaction had made: no other one's version counted in it.
pub record GoesForOthers (f g : Facts) (r : Reading) (t : ℕ) (p : RecId) (table : Table) : Type 0 where
  pub gone : table_in g p ≡ None
  pub none : without_newest_by t (told_versions f.state table (r p)) ≡ []

-- A transaction comes to be dead, some of whose versions were taken out or replaced before: all others count in
-- each record what they counted, and a new one is empty.
pub record DiesMidway (f g : Facts) (r s : Reading) (t : ℕ) : Type 0 where
  pub records : (p : RecId) (table : Table) → table_in f p ≡ Some table
      → StaysForOthers f g r s t p table ⊎ GoesForOthers f g r t p table
  pub new : (p : RecId) (table : Table) → table_in g p ≡ Some table
      → (table_in f p ≡ Some table) ⊎ (s p ≡ [])

-- the records have the versions of the longer history
abbrev pub VersionsDieMidway : Type 0
VersionsDieMidway = (o : Opening) (h : Entries) (e : Entry) (f g : Facts) (r s : Reading) (t : ℕ)
    → MayBegin o → IsLegal o (e ∷ h) → effect_of e ≡ Ends t Dead → DiesMidway f g r s t
    → HaveVersions o h f r → HaveVersions o (e ∷ h) g s

-- ---- who speaks

-- who spoke speaks still, where its table stays and it has a version left
abbrev still_at : Option Table → List Read → RecId → Option RecId
still_at None es p = None
still_at (Some table) [] p = None
still_at (Some table) (e ∷ es) p = Some p

module _ (o : Opening) (h : Entries) (e : Entry) (f g : Facts) (r s : Reading) (t : ℕ)
    (opening : MayBegin o) (legal : IsLegal o (e ∷ h)) (is : effect_of e ≡ Ends t Dead)
    (dies : DiesMidway f g r s t) (have : HaveVersions o h f r) where
  made : (name : List ℕ) (key : Value) (gs : List Generation)
      → generations_with o h e name key gs ≡ without_newest_by t gs
  made name key gs =
      ap (λ (x : Effect). generations_after x (key_made o h x) (own o (e ∷ h)) name key gs) is

  abbrev still : Option RecId → Option RecId
  still None = None
  still (Some p) = still_at (table_in g p) (s p) p

  abbrev later : List ℕ → Value → Option RecId
  later name key = still (have.speaker name key)

  module _ (name : List ℕ) (key : Value) (p : RecId) (chain : List Generation)
      (its : IsRecordOf f r name key p) (told_is : chain ≡ told_versions f.state its.table (r p)) where
    key_stays : StaysForOthers f g r s t p its.table
        → IsChainOf g s name key (still_at (table_in g p) (s p) p) (generations_with o h e name key chain)
    key_stays stays = subst (λ (x : Option Table). IsChainOf g s name key (still_at x (s p) p)
        (generations_with o h e name key chain)) (sym stays.there) (by (s p) refl)
      where
        chain_is : generations_with o h e name key chain ≡ told_versions g.state its.table (s p)
        chain_is = made name key chain ∙ (ap (without_newest_by t) told_is ∙ sym stays.told)

        by : (es : List Read) → s p ≡ es
            → IsChainOf g s name key (still_at (Some its.table) es p) (generations_with o h e name key chain)
        by [] none = chain_is ∙ ap (told_versions g.state its.table) none
        by (x ∷ xs) some =
            let left : s p ≢ [] = λ none. let both : x ∷ xs ≡ [] = sym some ∙ none in absurd cc in (
              record {
                table = its.table;
                of_table = stays.there;
                named = its.named;
                some = left;
                keyed = stays.keyed left ∙ its.keyed;
              },
              chain_is,
            )

    key_goes : GoesForOthers f g r t p its.table
        → IsChainOf g s name key (still_at (table_in g p) (s p) p) (generations_with o h e name key chain)
    key_goes goes = subst (λ (x : Option Table). IsChainOf g s name key (still_at x (s p) p)
        (generations_with o h e name key chain)) (sym goes.gone)
        (made name key chain ∙ (ap (without_newest_by t) told_is ∙ goes.none))

    key_dies : StaysForOthers f g r s t p its.table ⊎ GoesForOthers f g r t p its.table
        → IsChainOf g s name key (still_at (table_in g p) (s p) p) (generations_with o h e name key chain)
    key_dies (inl stays) = key_stays stays
    key_dies (inr goes) = key_goes goes

  keys_die : (name : List ℕ) (key : Value) (x : Option RecId) (chain : List Generation)
      → IsChainOf f r name key x chain
      → IsChainOf g s name key (still x) (generations_with o h e name key chain)
  keys_die name key None chain none = made name key chain ∙ ap (without_newest_by t) none
  keys_die name key (Some p) chain (its, told_is) =
      key_dies name key p chain its told_is (dies.records p its.table its.of_table)

  -- a deletion that all see is not the transaction's
  erased_stays : (gs : List Generation) → IsErasedForAll o h gs → without_newest_by t gs ≡ gs
  erased_stays [] gone = absurd gone
  erased_stays (d ∷ ds) gone = rw (ne_eqb d.writer t not_its) refl
    where
      open_t : state_of o h t ≢ Committed
      open_t committed = by (state_of o h t) committed (subst (IsAllowed o h) is
          (lawful_is_allowed o h e legal.0)).0
        where
          by : (x : TxState) → x ≡ Committed → is_open x ≡ true → ⊥
          by Committed same opened = false≢true opened
          by Active same opened = absurd cc
          by Limbo same opened = absurd cc
          by Dead same opened = false≢true opened

      not_its : d.writer ≢ t
      not_its same = open_t (ap (state_of o h) (sym same) ∙ gone.0.committed)

  others_die : (p : RecId) (table : Table) → table_in g p ≡ Some table
      → SpeaksOrSilent o (e ∷ h) g s later p table
  others_die p table of = at (dies.new p table of)
    where
      staying : StaysForOthers f g r s t p table → SpeaksOrSilent o h f r have.speaker p table
          → SpeaksOrSilent o (e ∷ h) g s later p table
      staying stays (inl none) = inl (stays.told ∙ ap (without_newest_by t) none)
      staying stays (inr (inl gone)) = inr (inl (erased_still o opening h e legal
          (told_versions g.state table (s p)) (subst (IsErasedForAll o h)
          (sym (stays.told ∙ erased_stays (told_versions f.state table (r p)) gone)) gone)))
      staying stays (inr (inr speaks)) = by (s p) refl
        where
          by : (es : List Read) → s p ≡ es → SpeaksOrSilent o (e ∷ h) g s later p table
          by [] none = inl (ap (told_versions g.state table) none)
          by (x ∷ xs) some =
              let left : s p ≢ [] = λ none. let both : x ∷ xs ≡ [] = sym some ∙ none in absurd cc in
              inr (inr (ap (later table.name) (stays.keyed left) ∙ (ap still speaks
              ∙ (ap (λ (y : Option Table). still_at y (s p) p) stays.there
              ∙ ap (λ (es : List Read). still_at (Some table) es p) some))))

      was : table_in f p ≡ Some table → StaysForOthers f g r s t p table ⊎ GoesForOthers f g r t p table
          → SpeaksOrSilent o (e ∷ h) g s later p table
      was there (inl stays) = staying stays (have.others p table there)
      was there (inr goes) = let both : None ≡ Some table = sym goes.gone ∙ of in absurd cc

      at : (table_in f p ≡ Some table) ⊎ (s p ≡ []) → SpeaksOrSilent o (e ∷ h) g s later p table
      at (inl there) = was there (dies.records p table there)
      at (inr none) = inl (ap (told_versions g.state table) none)

  pub die_midway : HaveVersions o (e ∷ h) g s
  die_midway = versions_follow o h e f g r s have later opening legal (record {
    keys = λ name key chain chain_is. keys_die name key (have.speaker name key) chain chain_is;
    others = others_die;
  })

pub versions_die_midway : VersionsDieMidway
versions_die_midway o h e f g r s t opening legal is dies have =
    die_midway o h e f g r s t opening legal is dies have
