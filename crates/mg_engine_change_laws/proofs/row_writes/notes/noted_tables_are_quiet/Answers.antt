use Rattle.mg_engine_change_laws.specs.memory.NotesLaws.{noted_tables_are_kept, noted_works_stay, notes_stay}
use Rattle.mg_engine_change_laws.proofs.row_writes.notes.noted_tables_are_quiet.Goals as goal

pub returns-clause-works : goal.returns-clause-works
returns-clause-works g c = noted_works_stay

pub returns-clause-kept : goal.returns-clause-kept
returns-clause-kept g c = noted_tables_are_kept

pub returns-clause-stands : goal.returns-clause-stands
returns-clause-stands g c = notes_stay g.D.Disk.meaning
