-- The numbers of the active transactions.
use Rattle.std.specs.Prelude.{◌≡◌, ◌==◌, ℕ, Bool, not, List}
use Rattle.std.specs.List.{filter, list_any}
use Rattle.mg_model.specs.declared.opening.Opening.{Opening}
use Rattle.mg_model.specs.Answers.{is_active}
use Rattle.mg_model.specs.History.{Entries}
use Rattle.mg_model.specs.Machine.{state_of}

-- a number is among these
abbrev pub is_among : ℕ → List ℕ → Bool
is_among t us = list_any (λ u. u == t) us

-- it is another one
abbrev pub is_other : ℕ → ℕ → Bool
is_other t u = not (u == t)

-- all but one of them
abbrev pub without : ℕ → List ℕ → List ℕ
without t us = filter (is_other t) us

-- these are the numbers of the active transactions
abbrev pub AreActive : List ℕ → Opening → Entries → Type 0
AreActive active o h = (u : ℕ) → is_active (state_of o h u) ≡ is_among u active
