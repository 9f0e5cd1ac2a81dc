-- What calls ask of the disk, and what a call that takes no memory is refused for.
use Rattle.std.specs.Prelude.{◌≡◌, ◌+◌, ◌≤◌, ℕ, true, Option, None, Some}
use Rattle.mg_model.specs.declared.refusal.Refusal.{Refusal}
use Rattle.mg_model.specs.declared.refusal.Refusal.TheVariants.{DatabaseFull, DiskWrite, NotActive, Offline}
use Rattle.mg_records.specs.Meaning.{Means}

-- no page write was asked for
abbrev pub WritesNoPage : {R P : Type 0} → Means R P → R → R → Type 0
WritesNoPage m old new = m.asked new ≡ m.asked old

-- one was at most
abbrev pub WritesOnePage : {R P : Type 0} → Means R P → R → R → Type 0
WritesOnePage m old new = m.asked new ≤ m.asked old + 1

-- a call that takes no page is not refused for want of pages
abbrev pub TakesNoPage : Option Refusal → Type 0
TakesNoPage refusal = (limit : ℕ) → refusal ≡ Some (DatabaseFull limit) → ⊥

-- A call that takes no memory and no page, and reads none, is refused only because its transaction is not active, or
-- because a page write fails, or has failed.
abbrev pub TakesNothing : Option Refusal → Type 0
TakesNothing None = Unit {0}
TakesNothing (Some (NotActive state)) = Unit {0}
TakesNothing (Some (DiskWrite count)) = Unit {0}
TakesNothing (Some (Offline count)) = Unit {0}
TakesNothing (Some refusal) = ⊥

-- so it is of the end of a transaction, where the room for it is taken when it begins
abbrev pub EndsInItsRoom : {R P : Type 0} → Means R P → Option Refusal → Type 0
EndsInItsRoom m refusal = m.reserves_ends ≡ true → TakesNothing refusal
