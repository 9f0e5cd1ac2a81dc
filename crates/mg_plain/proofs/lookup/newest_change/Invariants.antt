-- The changes that are left decide.
use Rattle.std.proofs.Common.{◌≡◌, drop}
use Rattle.mg_plain.specs.Lookups.{change_at}
use Rattle.mg_plain.proofs.lookup.newest_change.Given as goal

abbrev pub invariant-loop-change : goal.invariant-loop-change
invariant-loop-change l = change_at (drop l.change-index l.changes) l.table l.key ≡ change_at l.changes l.table l.key
