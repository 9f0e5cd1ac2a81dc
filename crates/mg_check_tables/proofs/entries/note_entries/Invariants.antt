use Rattle.std.proofs.Common.{length}
use Rattle.mg_base.specs.Image.{page_at}
use Rattle.mg_check_tables.specs.TableRung.{IsEntryBelow}
use Rattle.mg_check_tables.proofs.EntryLemmas.{DecidedBelow}
use Rattle.mg_findings.specs.Findings.{Adds}
use Rattle.mg_check_tables.proofs.entries.note_entries.Given as goal

-- what is found of the entries below this one was added, and it is known whether something is
abbrev pub invariant-loop-i : goal.invariant-loop-i
invariant-loop-i l = Adds l.initial.findings.items l.findings.items
    (IsEntryBelow l.size (page_at l.size l.pages) (length l.pages) l.seat.owner l.seat.page l.seat.place l.i)
    × DecidedBelow l.size (page_at l.size l.pages) (length l.pages) l.seat.owner l.seat.page l.seat.place l.i
