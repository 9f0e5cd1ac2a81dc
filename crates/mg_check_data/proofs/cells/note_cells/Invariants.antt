use Rattle.mg_check_data.specs.DataRung.{IsFoundBelow}
use Rattle.mg_check_data.proofs.CellLemmas.{DecidedBelow}
use Rattle.mg_findings.specs.Findings.{Adds}
use Rattle.mg_check_data.proofs.cells.note_cells.Given as goal

-- what is found of the slots below this one was added, and it is known whether something is
abbrev pub invariant-loop-slot : goal.invariant-loop-slot
invariant-loop-slot l = Adds l.initial.findings.items l.findings.items (IsFoundBelow l.page l.n l.slot)
    × DecidedBelow l.page l.n l.slot
