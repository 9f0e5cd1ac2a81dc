use Rattle.std.proofs.Common.{◌∙◌}
use Rattle.mg_heap.proofs.ReadingLemmas.{cell_short}
use Rattle.mg_heap.proofs.reading.cell_copy.Goals as goal

pub returns-in_ok-from_slice-in-Some-clause-len : goal.returns-in_ok-from_slice-in-Some-clause-len
returns-in_ok-from_slice-in-Some-clause-len c =
    cell_short c.args.b.now c.args.slot c.in-Some.bytes.now c.new.result c.in-Some.ensures
    (c.new.ensures ∙ c.in_ok-from_slice-in-Some.ensures.items)
