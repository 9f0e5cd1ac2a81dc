-- Which ends of transactions are told.
use Rattle.std.specs.Prelude.{◌≡◌, ℕ, Option, Some, None}
use Rattle.mg_pending.specs.declared.transactions.Transaction.{Transaction}
use Rattle.mg_turn.specs.declared.served.End.{End}
use Rattle.mg_floor.specs.declared.floor.Told.{Told}
use Rattle.mg_floor.specs.declared.floor.Told.TheVariants.{GoesOn, Over}

-- a call that is answered so tells that this transaction ended so
abbrev pub tells_end : Told → ℕ → End → Type 0
tells_end (Over t is) number end = (number ≡ t.0) × (end ≡ is)
tells_end told number end = ⊥

-- what is told of a step, by the transaction of its session before and behind it
abbrev pub told_after : Option Transaction → Option Transaction → End → Told
told_after (Some own) None end = Over own.number end
told_after before behind end = GoesOn
