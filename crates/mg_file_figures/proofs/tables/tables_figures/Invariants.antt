use Rattle.std.proofs.Common.{length}
use Rattle.mg_file_figures.proofs.TableLemmas.{IsOverTables}
use Rattle.mg_file_figures.proofs.tables.tables_figures.Given as goal

abbrev pub invariant-loop-table : goal.invariant-loop-table
invariant-loop-table l = IsOverTables l.size l.pages l.holder l.tables l.rest l.told.items

abbrev pub decreases-loop-table : goal.decreases-loop-table
decreases-loop-table l = length l.rest
