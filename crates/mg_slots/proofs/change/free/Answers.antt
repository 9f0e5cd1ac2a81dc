use Rattle.std.proofs.Common.{◌∙◌}
use Rattle.mg_slots.proofs.RewriteLemmas.{free_ends, free_fits, frees}
use Rattle.mg_slots.proofs.change.free.Goals as goal

pub rewrite-requires-clause-ends : goal.rewrite-requires-clause-ends
rewrite-requires-clause-ends c = rw c.count_without-count.ensures
    (free_ends c.args.b.now c.args.slot)

pub rewrite-requires-clause-room : goal.rewrite-requires-clause-room
rewrite-requires-clause-room c = rw c.count_without-count.ensures
    (free_fits c.args.b.now c.args.slot c.requires)

pub returns-then-is_used-clause-used : goal.returns-then-is_used-clause-used
returns-then-is_used-clause-used c = λ some. frees c.args.b.now c.rewrite.new.b c.args.slot
    c.rewrite.ensures.sets (c.rewrite.ensures.count ∙ c.count_without-count.ensures)
