use Rattle.std.proofs.Common.{◌≡◌, drop}
use Rattle.mg_works.specs.Works.{given_in}
use Rattle.mg_works.proofs.work.Work.table.Given as goal

-- none of the tables before the index has the name
abbrev pub invariant-loop-table : goal.invariant-loop-table
invariant-loop-table l = given_in (drop l.table-index l.table-items) l.name ≡ given_in l.self.tables l.name
