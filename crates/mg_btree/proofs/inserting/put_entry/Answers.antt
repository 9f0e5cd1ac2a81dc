use Rattle.mg_node_writing.specs.LeafLaws.{leaf_takes}
use Rattle.mg_btree.specs.InsertingLaws.{no_inner}
use Rattle.mg_btree.proofs.HalvesLemmas.{no_err, on_ok}
use Rattle.mg_btree.proofs.inserting.put_entry.Goals as goal

pub insert-requires-clause-takes : goal.insert-requires-clause-takes
insert-requires-clause-takes c = leaf_takes c.args.b.now c.args.e.now
    (no_inner c.args.b.now c.requires.leaf) c.requires.child c.requires.short c.requires.covers.0
    c.requires.covers.1

pub unreachable-requires : goal.unreachable-requires
unreachable-requires c = no_err c.insert.result c.in-Err.field-0
    ((c.insert.ensures.when (λ is. no_err c.insert.result c.in-Err.field-0 (c.insert.ensures.there is).0
    c.in-Err.is)).1 c.requires.room) c.in-Err.is

pub returns-clause-inserts : goal.returns-clause-inserts
returns-clause-inserts c = λ none. on_ok c.insert.result ((c.insert.ensures.when none).1 c.requires.room)
    (c.insert.ensures.inserts none)
