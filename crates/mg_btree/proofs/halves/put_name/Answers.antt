use Rattle.mg_btree.proofs.HalvesLemmas.{entries_there, no_err, not_entry, on_ok, takes_name}
use Rattle.mg_btree.proofs.halves.put_name.Goals as goal

pub insert-requires-clause-takes : goal.insert-requires-clause-takes
insert-requires-clause-takes c = takes_name c.args.b.now c.args.e.now c.requires.inner c.requires.some
    c.requires.short c.requires.covers c.requires.free

pub unreachable-requires : goal.unreachable-requires
unreachable-requires c = no_err c.insert.result c.in-Err.field-0
    ((c.insert.ensures.when (not_entry c.args.b.now c.args.e.now c.requires.free)).1 c.requires.room)
    c.in-Err.is

pub returns : goal.returns
returns c =
    let none = not_entry c.args.b.now c.args.e.now c.requires.free in
    record {
      keeps = c.insert.ensures.keeps;
      lawful = c.insert.ensures.lawful;
      inserts = c.first_stays.ensures c.args.b.now c.insert.new.b c.args.e.now c.requires.lawful
          c.insert.ensures.lawful c.requires.inner
          (entries_there c.args.b.now c.requires.some)
          (on_ok c.insert.result ((c.insert.ensures.when none).1 c.requires.room)
          (c.insert.ensures.inserts none));
    }
