use Rattle.mg_space.specs.View.{viewed}
use Rattle.mg_heap.proofs.WalkLemmas.{first_next}
use Rattle.mg_heap.proofs.walk.next_in.Goals as goal

pub returns-in-None-clause-gives : goal.returns-in-None-clause-gives
returns-in-None-clause-gives g c = λ image tells. first_next g.D.Disk.meaning c.first_from.new.store
    c.args.batch.now.pages (viewed c.args.store.now image c.args.batch.now) c.args.owner.0
    c.args.after c.first_from.result c.in-None.is (c.first_from.ensures.gives image tells)
