use Rattle.mg_space.specs.View.{viewed}
use Rattle.mg_heap.specs.Reach.{RefusesReach}
use Rattle.mg_chain.proofs.TurnLemmas.{slot_none}
use Rattle.mg_chain.proofs.turning.slot_pointers.Goals as goal

pub returns-in_default-clause-gives : goal.returns-in_default-clause-gives
returns-in_default-clause-gives g c = λ image tells.
    slot_none (viewed c.args.store.now image c.args.batch.now) c.args.owner.0 c.args.page.0 c.args.back
    c.pointers_to.result
    (RefusesReach g.D.Disk.meaning c.pointers_to.new.store c.args.batch.now.pages
    (viewed c.args.store.now image c.args.batch.now) c.args.owner.0 c.args.page) c.in_default.is
    (c.pointers_to.ensures.reaches image tells)
