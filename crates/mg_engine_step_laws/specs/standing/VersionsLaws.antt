-- The records of an image go on to have the versions of a history.
use Rattle.std.proofs.Common.{◌≡◌, inl, inr, ℕ, true, List, [], ◌∷◌, Option, None, Some, refl, sym, ap, ◌∙◌, subst}
use Rattle.std.specs.Prelude.{map}
use Rattle.mg_base.specs.declared.numbers.RecId.{RecId}
use Rattle.mg_value.specs.declared.value.Value.{Value}
use Rattle.mg_model.specs.declared.opening.Opening.{Opening}
use Rattle.mg_model.specs.declared.table.Table.{Table}
use Rattle.mg_model.specs.History.{Entries, Entry, effect_of}
use Rattle.mg_model.specs.Legal.{IsLegal, MayBegin}
use Rattle.mg_model.specs.Machine.{own}
use Rattle.mg_generation_laws.specs.After.{generations_with, key_made, leaves_versions}
use Rattle.mg_generation_laws.specs.Generations.{Generation}
use Rattle.mg_generation_laws.specs.Kept.{IsErasedForAll, StandFor}
use Rattle.mg_image.specs.declared.entry.Entry.{Entry as Read}
use Rattle.mg_image.specs.RecordRules.{Facts}
use Rattle.mg_image.specs.Records.{Reading}
use Rattle.mg_image_overlay_laws.specs.records.Fronts.{living}
use Rattle.mg_engine_step_laws.specs.standing.ChainLaws.{erased_still, left_as_before, stand_goes_on}
use Rattle.mg_engine_step_laws.specs.standing.StandingLaws.{IsChainOf, VersionsFollow, VersionsStay}
use Rattle.mg_seek.specs.Histories.{told_versions}
use Rattle.mg_engine_step_laws.specs.standing.Versions.{HaveVersions, SpeaksFor, SpeaksOrSilent, told_version}

-- a chain of the speaker of a key that stands for the history
speaks_by : (o : Opening) (h : Entries) (f : Facts) (r : Reading) (name : List ℕ) (key : Value)
    (speaker : Option RecId) (chain : List Generation) → IsChainOf f r name key speaker chain
    → StandFor o h name key chain → SpeaksFor o h f r name key speaker
speaks_by o h f r name key None chain is stand = subst (StandFor o h name key) is stand
speaks_by o h f r name key (Some p) chain (its, is) stand =
    (its, subst (StandFor o h name key) is stand)

pub versions_follow : VersionsFollow
versions_follow o h e f g r s have later opening legal follow = record {
  speaker = later;
  speaks = λ name key. at name key (have.speaker name key) (have.speaks name key) (follow.keys name key);
  others = follow.others;
}
  where
    next : (name : List ℕ) (key : Value) (chain : List Generation) → StandFor o h name key chain
        → IsChainOf g s name key (later name key) (generations_with o h e name key chain)
        → SpeaksFor o (e ∷ h) g s name key (later name key)
    next name key chain stand is = speaks_by o (e ∷ h) g s name key (later name key)
        (generations_with o h e name key chain) is
        (stand_goes_on o opening h e legal name key chain stand)

    at : (name : List ℕ) (key : Value) (speaker : Option RecId) → SpeaksFor o h f r name key speaker
        → ((chain : List Generation) → IsChainOf f r name key speaker chain
        → IsChainOf g s name key (later name key) (generations_with o h e name key chain))
        → SpeaksFor o (e ∷ h) g s name key (later name key)
    at name key None stand goes = next name key [] stand (goes [] refl)
    at name key (Some p) (its, stand) goes =
        next name key (told_versions f.state its.table (r p)) stand
        (goes (told_versions f.state its.table (r p)) (its, refl))

module _ (o : Opening) (h : Entries) (e : Entry) (f g : Facts) (r : Reading) (opening : MayBegin o)
    (legal : IsLegal o (e ∷ h)) (leaves : leaves_versions (effect_of e) ≡ true)
    (tables : (n : ℕ) → g.table_of n ≡ f.table_of n)
    (same : (p : RecId) → living g.state (r p) ≡ living f.state (r p)) where
  told_same : (table : Table) (p : RecId)
      → told_versions g.state table (r p) ≡ told_versions f.state table (r p)
  told_same table p = ap (λ (es : List Read). map (told_version table) es) (same p)

  left : (name : List ℕ) (key : Value) (gs : List Generation) → generations_with o h e name key gs ≡ gs
  left name key gs = left_as_before (effect_of e) (key_made o h (effect_of e)) (own o (e ∷ h)) name key
      gs leaves

  keys_stay : (name : List ℕ) (key : Value) (speaker : Option RecId) (chain : List Generation)
      → IsChainOf f r name key speaker chain
      → IsChainOf g r name key speaker (generations_with o h e name key chain)
  keys_stay name key None chain is = left name key chain ∙ is
  keys_stay name key (Some p) chain (its, is) = (
    record {
      table = its.table;
      of_table = tables p.page.0 ∙ its.of_table;
      named = its.named;
      some = its.some;
      keyed = its.keyed;
    },
    left name key chain ∙ (is ∙ sym (told_same its.table p)),
  )

  silent_still : (speaker : List ℕ → Value → Option RecId) (p : RecId) (table : Table)
      → SpeaksOrSilent o h f r speaker p table → SpeaksOrSilent o (e ∷ h) g r speaker p table
  silent_still speaker p table (inl none) = inl (told_same table p ∙ none)
  silent_still speaker p table (inr (inl gone)) = inr (inl (erased_still o opening h e legal
      (told_versions g.state table (r p))
      (subst (IsErasedForAll o h) (sym (told_same table p)) gone)))
  silent_still speaker p table (inr (inr speaks)) = inr (inr speaks)

  pub versions_stay_by : HaveVersions o h f r → HaveVersions o (e ∷ h) g r
  versions_stay_by have = versions_follow o h e f g r r have have.speaker opening legal (record {
    keys = λ name key chain is. keys_stay name key (have.speaker name key) chain is;
    others = λ p table of. silent_still have.speaker p table
        (have.others p table (sym (tables p.page.0) ∙ of));
  })

pub versions_stay : VersionsStay
versions_stay o h e f g r opening legal leaves tables same have =
    versions_stay_by o h e f g r opening legal leaves tables same have
