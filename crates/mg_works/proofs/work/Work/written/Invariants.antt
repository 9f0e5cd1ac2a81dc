use Rattle.std.proofs.Common.{◌≡◌, drop}
use Rattle.mg_works.specs.Works.{written_in}
use Rattle.mg_works.proofs.work.Work.written.Given as goal

-- none of the tables before the index begins there
abbrev pub invariant-loop-table : goal.invariant-loop-table
invariant-loop-table l = written_in (drop l.table-index l.table-items) l.number ≡ written_in l.self.written l.number
