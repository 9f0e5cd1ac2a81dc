use Rattle.std.proofs.Common.{refl}
use Rattle.std.specs.List.{filter}
use Rattle.mg_indexed.specs.Indexing.{lies_within}
use Rattle.mg_plain.proofs.IndexLemmas.{within_splits}
use Rattle.mg_plain.proofs.LoopLemmas.{pieces_end, pieces_more}
use Rattle.mg_plain.proofs.plain.indexed.all_within.Goals as goal

pub loop-row-preserved : goal.loop-row-preserved
loop-row-preserved c = pieces_more (filter (lies_within c.args.column c.args.range.now))
    (within_splits c.args.column c.args.range.now)
    c.args.rows.now c.loop-row.row-index c.row-item.result c.loop-row.taken.items
    c.take_within.new.taken.items _ c.loop-row-test.true c.row-item.is c.loop-row.invariant
    c.in_ok-take_within.ensures

pub returns : goal.returns
returns c = pieces_end (filter (lies_within c.args.column c.args.range.now)) refl c.args.rows.now c.loop-row.row-index
    c.loop-row.taken.items _ c.loop-row-test.false c.loop-row.invariant
