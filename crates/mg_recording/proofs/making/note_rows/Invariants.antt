use Rattle.std.proofs.Common.{drop}
use Rattle.mg_trace.specs.declared.trace.Trace.{Trace}
use Rattle.mg_recording.specs.Making.{NotesRows}
use Rattle.mg_recording.proofs.making.note_rows.Given as goal

-- what notes the rest notes all
abbrev pub invariant-loop-row : goal.invariant-loop-row
invariant-loop-row l = (new : Trace) → NotesRows l.trace new l.t l.catalog (drop l.row-index l.rows)
    → NotesRows l.initial.trace new l.t l.catalog l.rows
