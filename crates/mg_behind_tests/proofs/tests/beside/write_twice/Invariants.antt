use Rattle.std.proofs.Common.{Some}
use Rattle.mg_behind.specs.Origins.{origin_of}
use Rattle.mg_behind_tests.proofs.tests.beside.write_twice.Given as goal

-- the start that was just made
abbrev pub ghosts-write_twice_named : goal.ghosts-write_twice_named
ghosts-write_twice_named g a = record { origin = Some (origin_of a.opened) }
