use Rattle.std.proofs.Common.{arith}
use Rattle.mg_node_writing.specs.LeafLaws.{free_takes}
use Rattle.mg_cache_tests.proofs.tests.node_writing.put.Goals as goal

pub insert-requires-clause-takes : goal.insert-requires-clause-takes
insert-requires-clause-takes c =
    let len = c.in_ok-entry.ensures.len in
    let short = c.requires.short in
    let size = c.requires.size in
    free_takes c.args.page.now c.in_ok-entry.entry c.requires.leaf c.in_ok-entry.ensures.child
    (omega (arith, len, short, size))
