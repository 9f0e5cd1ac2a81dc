use Rattle.mg_directory.proofs.TableLemmas.{noted_dropped, noted_nowhere, noted_there}
use Rattle.mg_directory.proofs.directories.note_in.Goals as goal

pub returns-in_default : goal.returns-in_default
returns-in_default c = noted_nowhere c.args.tables.now.items c.args.first c.args.bytes.now c.args.rec
    c.in_default.ensures.none

pub returns-in-Ok : goal.returns-in-Ok
returns-in-Ok c = noted_there c.args.tables.now.items c.args.first c.in-Some.place c.args.bytes.now
    c.args.rec c.index_mut.result.now c.note.new.self c.in-Some.ensures.some c.index_mut.ensures.value
    c.in-Ok.ensures.ok

pub returns-in-Err : goal.returns-in-Err
returns-in-Err c = noted_dropped c.args.tables.now.items c.drop_from.new.tables.items c.args.first
    c.in-Some.place c.args.bytes.now c.args.rec c.index_mut.result.now c.note.new.self
    c.in-Some.ensures.some c.index_mut.ensures.value c.in-Err.ensures.err c.drop_from.ensures
