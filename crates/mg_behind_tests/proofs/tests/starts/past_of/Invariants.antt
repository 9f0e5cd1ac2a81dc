use Rattle.std.proofs.Common.{Some}
use Rattle.mg_behind.specs.Origins.{origin_of}
use Rattle.mg_behind_tests.proofs.tests.starts.past_of.Given as goal

-- the start that was just made
abbrev pub ghosts-past_named : goal.ghosts-past_named
ghosts-past_named g a = record { origin = Some (origin_of a.opened) }
