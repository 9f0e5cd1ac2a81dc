-- The rows that are left decide.
use Rattle.std.proofs.Common.{◌≡◌, drop}
use Rattle.mg_plain.specs.Records.{stand_under}
use Rattle.mg_plain.proofs.plain.keyed.stand_under.Given as goal

abbrev pub invariant-loop-row : goal.invariant-loop-row
invariant-loop-row l = stand_under l.place (drop l.row-index l.rows) ≡ stand_under l.place l.rows
