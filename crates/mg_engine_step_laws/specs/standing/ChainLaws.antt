-- The chains that stand for the versions of a key go on as those versions do.
use Rattle.std.proofs.Common.{◌≡◌, ℕ, true, List, [], ◌∷◌, refl}
use Rattle.mg_base.specs.declared.transaction.TxState.TheVariants.{Active, Limbo, Dead, Committed}
use Rattle.mg_value.specs.declared.value.Value.{Value}
use Rattle.mg_model.specs.declared.change.Change.{Change}
use Rattle.mg_model.specs.declared.opening.Opening.{Opening}
use Rattle.mg_model.specs.History.{Begins, Effect, Ends, Entries, Entry, Gives, Looks, Makes, Marks, Nothing, Saves, TakesBack}
use Rattle.mg_model.specs.Legal.{IsLegal, MayBegin}
use Rattle.mg_generation_laws.specs.After.{generations_after, generations_with, leaves_versions}
use Rattle.mg_generation_laws.specs.GarbageLaws.{seen_goes_on}
use Rattle.mg_generation_laws.specs.Generations.{Generation}
use Rattle.mg_generation_laws.specs.Kept.{IsErasedForAll, StandFor}
use Rattle.mg_generation_laws.specs.KeptOnwardLaws.{stand_goes_on as chain_goes_on}

-- an effect that writes nothing, lets nobody die and takes nothing back leaves versions
pub left_as_before : (f : Effect) (made : Value) (own_ : ℕ → List Change) (table : List ℕ)
    (key : Value) (gs : List Generation) → leaves_versions f ≡ true
    → generations_after f made own_ table key gs ≡ gs
left_as_before (Makes t named row) made own_ table key gs leaves = absurd cc
left_as_before (Gives t named given row) made own_ table key gs leaves = absurd cc
left_as_before (TakesBack t point) made own_ table key gs leaves = absurd cc
left_as_before (Ends t Dead) made own_ table key gs leaves = absurd cc
left_as_before (Ends t Active) made own_ table key gs leaves = refl
left_as_before (Ends t Limbo) made own_ table key gs leaves = refl
left_as_before (Ends t Committed) made own_ table key gs leaves = refl
left_as_before (Begins t mode) made own_ table key gs leaves = refl
left_as_before (Looks t) made own_ table key gs leaves = refl
left_as_before (Marks t) made own_ table key gs leaves = refl
left_as_before (Saves t name) made own_ table key gs leaves = refl
left_as_before Nothing made own_ table key gs leaves = refl

module _ (o : Opening) (opening : MayBegin o) (h : Entries) (e : Entry) (legal : IsLegal o (e ∷ h))
  where
    -- a deletion that all see, all go on to see
    pub erased_still : (gs : List Generation) → IsErasedForAll o h gs → IsErasedForAll o (e ∷ h) gs
    erased_still [] is = absurd is
    erased_still (g ∷ gs) is = (seen_goes_on o opening h e legal g.writer is.0, is.1)

module _ (o : Opening) (opening : MayBegin o) (h : Entries) (e : Entry) (legal : IsLegal o (e ∷ h))
    (table : List ℕ) (key : Value) where
  -- an entry makes of a chain what its effect says
  pub stand_goes_on : (chain : List Generation) → StandFor o h table key chain
      → StandFor o (e ∷ h) table key (generations_with o h e table key chain)
  stand_goes_on chain stand = chain_goes_on o opening h e legal table key chain stand
