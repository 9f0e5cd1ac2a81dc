use Rattle.std.proofs.Common.{Some}
use Rattle.mg_behind.specs.Origins.{origin_of}
use Rattle.mg_behind_tests.proofs.tests.runs.run_behind.Given as goal

-- the start that was just made
abbrev pub ghosts-run_named : goal.ghosts-run_named
ghosts-run_named g a = record { origin = Some (origin_of a.opened) }
