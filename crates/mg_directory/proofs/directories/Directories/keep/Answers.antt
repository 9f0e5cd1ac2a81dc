use Rattle.std.proofs.Common.{◌≤◌, ◌+◌, ◌<◌, arith, List, ap, is_ok, length, subst, sym}
use Rattle.mg_directory.specs.Candidates.{Kept, KeepsOrDrops, Noted, by_table, notes_in, under}
use Rattle.mg_directory.specs.declared.TheConstants.{MOST_NOTED, MOST_TABLES}
use Rattle.mg_directory.proofs.TableLemmas.{all_fewer, bounded_either, bounded_few, bounded_not, bounded_without, fewer_of, kept_either, keeps_not, marks, marks_none, place_fewer, place_low, places_either, places_not, too_large_of}
use Rattle.mg_directory.proofs.directories.Directories.keep.Goals as goal

pub notes_of-requires : goal.notes_of-requires
notes_of-requires c =
    let few : notes_in c.drop_from.new.tables.items ≤ MOST_NOTED =
    subst (λ (ds : List Noted). notes_in ds ≤ MOST_NOTED) (sym c.drop_from.ensures)
    (bounded_few c.self.inside.most _
    (bounded_without c.self.inside.most c.self.inside.tables.items c.first-first.result.0 c.self.invariant)) in
    subst (λ (ds : List Noted). notes_in ds ≤ MOST_NOTED + 1) (sym c.deref.ensures.value)
    (omega (arith, few))

pub overflow_add-notes_of : goal.overflow_add-notes_of
overflow_add-notes_of c =
    let few : notes_in c.drop_from.new.tables.items ≤ MOST_NOTED =
    subst (λ (ds : List Noted). notes_in ds ≤ MOST_NOTED) (sym c.drop_from.ensures)
    (bounded_few c.self.inside.most _
    (bounded_without c.self.inside.most c.self.inside.tables.items c.first-first.result.0 c.self.invariant)) in
    omega (arith, few, c.notes_of.ensures, ap notes_in c.deref.ensures.value, c.notes.ensures.bound)

pub make_place-requires : goal.make_place-requires
make_place-requires c = subst (λ (ds : List Noted). length ds ≤ MOST_TABLES) (sym c.drop_from.ensures)
    (bounded_without c.self.inside.most c.self.inside.tables.items c.first-first.result.0
    c.self.invariant).tables

pub invariant_of-self : goal.invariant_of-self
invariant_of-self c = bounded_not c.self.inside.tables.items c.drop_from.new.tables.items c.args.dir
    (fewer_of c.self.inside.tables.items c.drop_from.new.tables.items c.drop_from.new.tables.items
    c.args.dir.first c.first-first.result.0 c.drop_from.ensures c.first-first.ensures
    (all_fewer c.drop_from.new.tables.items)) c.self.inside.most c.self.invariant

pub returns-then-notes_of-notes-clause-keeps : goal.returns-then-notes_of-notes-clause-keeps
returns-then-notes_of-notes-clause-keeps c = subst (λ (k : Kept). KeepsOrDrops (by_table k.dirs)
    (by_table c.drop_from.new.tables.items) c.args.dir.first (under c.args.dir)) c.self.view_is
    (keeps_not c.self.inside.tables.items c.drop_from.new.tables.items c.args.dir
    (fewer_of c.self.inside.tables.items c.drop_from.new.tables.items c.drop_from.new.tables.items
    c.args.dir.first c.first-first.result.0 c.drop_from.ensures c.first-first.ensures
    (all_fewer c.drop_from.new.tables.items)))

pub returns-then-notes_of-notes-clause-places : goal.returns-then-notes_of-notes-clause-places
returns-then-notes_of-notes-clause-places c =
    let over : c.self.inside.most < notes_in c.drop_from.new.tables.items + length c.args.dir.notes =
    omega (arith, c.if-notes_of-notes.true, c.notes_of.ensures, ap notes_in c.deref.ensures.value, c.notes.ensures.count) in
    places_not c.self.view_is c.push-marked.new.self.items c.args.dir _ c.drop_from.ensures c.first-first.ensures over

pub returns-then-notes_of-notes-clause-marks : goal.returns-then-notes_of-notes-clause-marks
returns-then-notes_of-notes-clause-marks c =
    let over : c.self.inside.most < notes_in c.drop_from.new.tables.items + length c.args.dir.notes =
    omega (arith, c.if-notes_of-notes.true, c.notes_of.ensures, ap notes_in c.deref.ensures.value, c.notes.ensures.count) in
    marks c.self.view_is (too_large_of c.self.view_is c.args.dir _ c.drop_from.ensures c.first-first.ensures over)
    (is_ok c.push-marked.result) c.first-first.ensures c.push-marked.ensures.items

pub invariant_of-self-2 : goal.invariant_of-self-2
invariant_of-self-2 c =
    let fewer = place_fewer _ _ c.make_place.ensures in
    let less : notes_in c.make_place.new.tables.items ≤ notes_in c.drop_from.new.tables.items = fewer.notes in
    let few : length c.drop_from.new.tables.items ≤ MOST_TABLES =
    subst (λ (ds : List Noted). length ds ≤ MOST_TABLES) (sym c.drop_from.ensures)
    (bounded_without c.self.inside.most c.self.inside.tables.items c.first-first.result.0 c.self.invariant).tables in
    bounded_either c.self.inside.tables.items c.make_place.new.tables.items c.args.dir
    (fewer_of c.self.inside.tables.items c.drop_from.new.tables.items c.make_place.new.tables.items
    c.args.dir.first c.first-first.result.0 c.drop_from.ensures c.first-first.ensures
    fewer) c.self.inside.most (is_ok c.push-kept.result) c.push-kept.new.self.items
    c.self.invariant (place_low _ _ c.make_place.ensures few)
    (omega (
      arith,
      less,
      c.if-notes_of-notes.false,
      c.notes_of.ensures,
      ap notes_in c.deref.ensures.value,
      c.notes.ensures.count,
    )) c.push-kept.ensures.items

pub returns-clause-keeps : goal.returns-clause-keeps
returns-clause-keeps c = subst (λ (k : Kept). KeepsOrDrops (by_table k.dirs)
    (by_table c.push-kept.new.self.items) c.args.dir.first (under c.args.dir)) c.self.view_is
    (kept_either c.self.inside.tables.items c.make_place.new.tables.items c.args.dir
    (fewer_of c.self.inside.tables.items c.drop_from.new.tables.items c.make_place.new.tables.items
    c.args.dir.first c.first-first.result.0 c.drop_from.ensures c.first-first.ensures
    (place_fewer _ _ c.make_place.ensures)) (is_ok c.push-kept.result) c.push-kept.new.self.items
    c.push-kept.ensures.items)

pub returns-clause-places : goal.returns-clause-places
returns-clause-places c =
    let within : notes_in c.drop_from.new.tables.items + length c.args.dir.notes ≤ c.self.inside.most =
    omega (arith, c.if-notes_of-notes.false, c.notes_of.ensures, ap notes_in c.deref.ensures.value, c.notes.ensures.count) in
    places_either c.self.view_is c.self.inside.too_large.items c.args.dir _ _ c.drop_from.ensures c.first-first.ensures c.make_place.ensures within
    (is_ok c.push-kept.result) c.push-kept.ensures.items

pub returns-clause-marks : goal.returns-clause-marks
returns-clause-marks c = marks_none _ _ _ _ (ap (λ (k : Kept). k.most) c.self.view_is)
    (ap (λ (k : Kept). k.too_large) c.self.view_is)
