-- What is told for want of pages.
use Rattle.std.specs.Prelude.{◌≡◌, ℕ, refl}
use Rattle.mg_model.specs.declared.refusal.Refusal.{Refusal}
use Rattle.mg_model.specs.declared.refusal.Refusal.TheVariants.{DatabaseFull}
use Rattle.mg_core.specs.Refusing.{IsFull}

-- it names some page limit
pub full_is : (refusal : Refusal) → IsFull refusal → (limit : ℕ) × (refusal ≡ DatabaseFull limit)
full_is (DatabaseFull limit) is = (limit, refl)
full_is refusal is = absurd is
