-- What a collection is refused by.
use Rattle.std.specs.Prelude.{◌≡◌, true, Some, refl}
use Rattle.mg_model.specs.declared.answer.Answer.TheVariants.{No}
use Rattle.mg_model.specs.declared.refusal.Refusal.{Refusal}
use Rattle.mg_model.specs.declared.refusal.Refusal.TheVariants.{DatabaseFull}
use Rattle.mg_model.specs.Legal.{is_outer}
use Rattle.mg_records.specs.Asking.{TakesNoPage}
use Rattle.mg_transcript.specs.Steps.{is_outside}

-- a refusal from outside that is no want of pages need be carried by no event
pub outer_unpaged : (refusal : Refusal) → is_outer (No refusal) ≡ true → TakesNoPage (Some refusal)
    → is_outside refusal ≡ true
outer_unpaged (DatabaseFull limit) outer never = absurd (never limit refl)
outer_unpaged refusal outer never = outer
