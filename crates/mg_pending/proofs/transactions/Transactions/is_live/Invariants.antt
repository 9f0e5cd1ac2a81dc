use Rattle.std.proofs.Common.{◌≡◌, drop}
use Rattle.mg_pending.specs.Transactions.{has_number}
use Rattle.mg_pending.proofs.transactions.Transactions.is_live.Given as goal

-- none of the places before the index has the number
abbrev pub invariant-loop-place : goal.invariant-loop-place
invariant-loop-place l = has_number (drop l.place-index l.place-items) l.number.0 ≡ has_number l.self l.number.0
