-- Chains that stand for the versions of a key go on as those versions do.
use Rattle.std.specs.Prelude.{◌≡◌, ◌≢◌, ℕ, ◌&&◌, Bool, true, false, List, [], ◌∷◌, Option, Some, cond, refl}
use Rattle.std.proofs.Common.{ap}
use Rattle.mg_base.specs.declared.transaction.TxState.TheVariants.{Active, Limbo, Dead, Committed}
use Rattle.mg_value.specs.declared.value.Value.{Value}
use Rattle.mg_model.specs.declared.opening.Opening.{Opening}
use Rattle.mg_model.specs.History.{Entry, Entries, Effect, Begins, Looks, Makes, Gives, Marks, Saves, TakesBack, Ends, Nothing, effect_of}
use Rattle.mg_model.specs.Changes.{Cells, has_change, row_at, same_key, same_name}
use Rattle.mg_model.specs.declared.change.Change.{Change}
use Rattle.mg_generation_laws.specs.After.{generations_after, generations_with, key_made}
use Rattle.mg_generation_laws.specs.AfterLaws.{generations_go_on}
use Rattle.mg_model.specs.Machine.{own, state_of}
use Rattle.mg_model.specs.Answers.{is_committed, is_open}
use Rattle.mg_model.specs.Legal.{IsLegal, MayBegin}
use Rattle.mg_model.specs.LegalLaws.{IsAllowed, lawful_is_allowed}
use Rattle.mg_generation_laws.specs.Generations.{Generation, generation, put, without_newest_by}
use Rattle.mg_generation_laws.specs.CommittedLaws.{not_both}
use Rattle.mg_generation_laws.specs.Kept.{IsThinned, StandFor}
use Rattle.mg_generation_laws.specs.GarbageLaws.{thinned_put, thinned_still, thinned_without}

module _ (o : Opening) (opening : MayBegin o) (h : Entries) (e : Entry) (legal : IsLegal o (e ∷ h))
    (table : List ℕ) (key : Value) (gs chain : List Generation) (thin : IsThinned o h [] gs chain) where
  open_is_not : (t : ℕ) → is_open (state_of o h t) ≡ true → state_of o h t ≢ Committed
  open_is_not t opened is = not_both (state_of o h t) opened (ap is_committed is)

  without : (t : ℕ) → is_open (state_of o h t) ≡ true
      → IsThinned o h [] (without_newest_by t gs) (without_newest_by t chain)
  without t opened = thinned_without o opening h e legal t gs chain (open_is_not t opened) thin

  with_put : (t : ℕ) (row : Option Cells) → is_open (state_of o h t) ≡ true
      → IsThinned o h [] (put t row gs) (put t row chain)
  with_put t row opened = thinned_put o opening h e legal (generation t row) (without_newest_by t gs)
      (without_newest_by t chain) (without t opened)

  -- what an effect makes of all versions it makes of the kept ones
  made_thin : (f : Effect) (made : Value) (own_ : ℕ → List Change) → IsAllowed o h f
      → IsThinned o h [] (generations_after f made own_ table key gs) (generations_after f made own_ table key chain)
  made_thin (Begins t mode) made own_ allowed = thin
  made_thin (Looks t) made own_ allowed = thin
  made_thin (Marks t) made own_ allowed = thin
  made_thin (Saves t name) made own_ allowed = thin
  made_thin Nothing made own_ allowed = thin
  made_thin (Makes t named row) made own_ allowed = at (same_name named table && same_key made key)
    where
      at : (b : Bool) → IsThinned o h [] (cond b (put t (Some row) gs) gs) (cond b (put t (Some row) chain) chain)
      at true = with_put t (Some row) (ap is_open allowed.0)
      at false = thin
  made_thin (Gives t named given row) made own_ allowed = at (same_name named table && same_key given key)
    where
      at : (b : Bool) → IsThinned o h [] (cond b (put t row gs) gs) (cond b (put t row chain) chain)
      at true = with_put t row (ap is_open allowed.0)
      at false = thin
  made_thin (TakesBack t point) made own_ allowed = at (has_change (own_ t) table key)
    where
      at : (b : Bool) → IsThinned o h []
          (cond b (put t (row_at (own_ t) table key) gs) (without_newest_by t gs))
          (cond b (put t (row_at (own_ t) table key) chain) (without_newest_by t chain))
      at true = with_put t (row_at (own_ t) table key) (ap is_open allowed)
      at false = without t (ap is_open allowed)
  made_thin (Ends t Active) made own_ allowed = thin
  made_thin (Ends t Limbo) made own_ allowed = thin
  made_thin (Ends t Committed) made own_ allowed = thin
  made_thin (Ends t Dead) made own_ allowed = without t allowed.0

  pub thin_goes_on : IsThinned o (e ∷ h) [] (generations_with o h e table key gs)
      (generations_with o h e table key chain)
  thin_goes_on = thinned_still o opening h e legal [] (generations_with o h e table key gs)
      (generations_with o h e table key chain)
      (made_thin (effect_of e) (key_made o h (effect_of e)) (own o (e ∷ h)) (lawful_is_allowed o h e legal.0))

-- an entry of a legal history makes of a chain what its effect says
pub stand_goes_on : (o : Opening) (opening : MayBegin o) (h : Entries) (e : Entry) (legal : IsLegal o (e ∷ h))
    (table : List ℕ) (key : Value) (chain : List Generation) → StandFor o h table key chain
    → StandFor o (e ∷ h) table key (generations_with o h e table key chain)
stand_goes_on o opening h e legal table key chain stand = record {
  all = generations_with o h e table key stand.all;
  are = generations_go_on o opening h e legal table key stand.all stand.are;
  thinned = thin_goes_on o opening h e legal table key stand.all chain stand.thinned;
}
