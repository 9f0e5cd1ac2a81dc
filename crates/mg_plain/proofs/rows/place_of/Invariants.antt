-- The rows before have less keys.
use Rattle.mg_plain.proofs.RowLemmas.{GoesOn}
use Rattle.mg_plain.proofs.rows.place_of.Given as goal

abbrev pub invariant-loop-place : goal.invariant-loop-place
invariant-loop-place l = GoesOn l.rows l.key l.place
