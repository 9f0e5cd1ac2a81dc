use Rattle.mg_pool.proofs.LawfulLemmas.{all_marked, blank_marks, one_left}
use Rattle.mg_pool.proofs.batch.lawful.has_no_cycle.Goals as goal

pub mark_free-requires-clause-blank : goal.mark_free-requires-clause-blank
mark_free-requires-clause-blank c = blank_marks 256

pub returns : goal.returns
returns c = (
  λ is. all_marked c.args.pages.now.items c.args.orders.now.items c.mark_free.new.marks c.requires.later c.mark_free.ensures.marks (c.are_marked.ensures.0 is),
  λ acyclic. c.are_marked.ensures.1 (one_left c.args.pages.now.items c.args.orders.now.items c.mark_free.new.marks c.mark_free.ensures.marks acyclic),
)
