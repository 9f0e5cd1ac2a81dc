use Rattle.std.proofs.Common.{◌≤◌, ◌<◌, ◌+◌, arith, ap, is_ok, refl, subst}
use Rattle.mg_directory.specs.Candidates.{Kept, NotesOrDrops, by_table, notes_in}
use Rattle.mg_directory.proofs.TableLemmas.{bounded_past, marks, marks_none, notes_past, notes_within}
use Rattle.mg_directory.proofs.directories.Directories.note.Goals as goal

pub returns-then-notes_of-self-clause-notes : goal.returns-then-notes_of-self-clause-notes
returns-then-notes_of-self-clause-notes c = subst (λ (k : Kept). NotesOrDrops (by_table k.dirs)
    (by_table c.note_in.new.tables.items) c.args.first.0 c.args.bytes.now c.args.rec) c.self.view_is
    (notes_within c.self.inside.tables.items c.note_in.new.tables.items c.args.first.0 c.args.bytes.now
    c.args.rec c.note_in.ensures)

pub returns-then-notes_of-self-clause-marks : goal.returns-then-notes_of-self-clause-marks
returns-then-notes_of-self-clause-marks c = marks_none _ _ _ _ (ap (λ (k : Kept). k.most) c.self.view_is)
    (ap (λ (k : Kept). k.too_large) c.self.view_is)

pub invariant_of-self-2 : goal.invariant_of-self-2
invariant_of-self-2 c = bounded_past c.self.inside.most c.self.inside.tables.items
    c.note_in.new.tables.items c.drop_from.new.tables.items c.args.first.0 c.args.bytes.now c.args.rec
    c.self.invariant c.note_in.ensures c.drop_from.ensures

pub returns-clause-notes : goal.returns-clause-notes
returns-clause-notes c = subst (λ (k : Kept). NotesOrDrops (by_table k.dirs)
    (by_table c.drop_from.new.tables.items) c.args.first.0 c.args.bytes.now c.args.rec) c.self.view_is
    (notes_past c.self.inside.tables.items c.note_in.new.tables.items c.drop_from.new.tables.items
    c.args.first.0 c.args.bytes.now c.args.rec c.note_in.ensures c.drop_from.ensures)

pub returns-clause-marks : goal.returns-clause-marks
returns-clause-marks c =
    let more : notes_in c.note_in.new.tables.items ≤ notes_in c.self.inside.tables.items + 1 = c.note_in.ensures.notes in
    let over : c.self.inside.most < notes_in c.note_in.new.tables.items =
    omega (arith, c.if-notes_of-self.false, c.notes_of.ensures, ap notes_in c.deref.ensures.value) in
    marks c.self.view_is (subst (λ (k : Kept). k.most ≤ notes_in k.dirs) c.self.view_is (omega (arith, more, over)))
    (is_ok c.push-marked.result) refl c.push-marked.ensures.items
