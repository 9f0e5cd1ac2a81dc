-- The step at the place is another's, or is taken out.
use Rattle.mg_plain.proofs.TakenBackLemmas.{one_other, one_taken}
use Rattle.mg_plain.proofs.plain.taking.clear_one.Goals as goal

pub returns-else-index-by : goal.returns-else-index-by
returns-else-index-by c = one_other c.args.by c.args.place c.args.steps.now.items c.index.result.now c.requires
    c.index.ensures c.if-index-by.false

pub returns-then-index-by : goal.returns-then-index-by
returns-then-index-by c = one_taken c.args.by c.args.place c.args.steps.now.items c.remove.new.self.items
    c.index.result.now c.requires c.index.ensures c.if-index-by.true c.remove.ensures.items
