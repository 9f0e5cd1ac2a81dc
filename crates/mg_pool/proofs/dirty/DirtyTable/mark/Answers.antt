use Rattle.std.proofs.lemmas.List.{length-map}
use Rattle.mg_pool.proofs.LeastLemmas.{table-with_mark, marks_all}
use Rattle.mg_pool.proofs.dirty.DirtyTable.mark.Goals as goal

pub invariant_of-self : goal.invariant_of-self
invariant_of-self g c = (
  rw c.mark_all.ensures.items (table-with_mark c.args.who c.self.inside.size c.self.inside.pages.items c.self.invariant.0),
  c.self.invariant.1,
  rw (c.mark_all.ensures.items, length-map) c.self.invariant.2,
  rw c.mark_all.ensures.capacity c.self.invariant.3,
  c.self.invariant.4,
)

pub returns : goal.returns
returns g c = rw (← c.self.view_is, c.mark_all.ensures.items) (marks_all c.self.inside.size c.self.inside.room c.args.who c.self.inside.pages.items c.requires c.self.invariant.0)
