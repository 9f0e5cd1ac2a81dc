use Rattle.std.proofs.Common.{◌≡◌, ℕ, take, min}
use Rattle.mg_sql.specs.Spelling.{number}
use Rattle.mg_sql.proofs.values.number_of.Given as goal

abbrev pub invariant-loop-digit : goal.invariant-loop-digit
invariant-loop-digit l = l.number ≡ min 18446744073709551615 (number (take l.digit-index l.digits))
