use Rattle.std.proofs.Common.{◌≡◌, ℕ, ◌<◌, length, get_or}
use Rattle.mg_sql.specs.Spelling.{capital}
use Rattle.mg_sql.proofs.scanning.folds_to.Given as goal

abbrev pub invariant-loop-at : goal.invariant-loop-at
invariant-loop-at l = (k : ℕ) → k < l.at → capital (get_or l.word k 0) ≡ get_or l.capitals k 0
