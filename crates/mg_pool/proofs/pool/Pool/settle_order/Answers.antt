use Rattle.std.proofs.lemmas.Bool.{both_ways}
use Rattle.mg_pool.proofs.OrderLemmas.{settled_some, opened_some, settled_no, opened_no}
use Rattle.mg_pool.proofs.pool.Pool.settle_order.Goals as goal

pub returns-in_ok-write_due-clause-settles : goal.returns-in_ok-write_due-clause-settles
returns-in_ok-write_due-clause-settles g c = settled_some g.D.Disk.meaning c.args.self.now c.args.orders.now.items c.args.place c.mark_due.new.due.items c.requires.place c.requires.acyclic c.first_of-first.result c.later_of.result c.first_of-first.ensures c.later_of.ensures c.mark_due.ensures c.write_due.new.self c.in_ok-write_due.ensures (c.leads.ensures.0 c.if-leads.true)

pub returns-in_ok-write_due-clause-open : goal.returns-in_ok-write_due-clause-open
returns-in_ok-write_due-clause-open g c = opened_some g.D.Disk.meaning c.args.self.now c.args.orders.now.items c.args.place c.mark_due.new.due.items c.requires.place c.requires.acyclic c.first_of-first.result c.later_of.result c.first_of-first.ensures c.later_of.ensures c.mark_due.ensures c.write_due.new.self c.in_ok-write_due.ensures

pub returns-else-leads-clause-settles : goal.returns-else-leads-clause-settles
returns-else-leads-clause-settles g c = settled_no g.D.Disk.meaning c.args.self.now c.args.orders.now.items c.args.place c.mark_due.new.due.items c.requires.place c.requires.acyclic c.first_of-first.result c.later_of.result c.first_of-first.ensures c.later_of.ensures c.mark_due.ensures c.requires.pool (λ leads. both_ways _ c.if-leads.false (c.leads.ensures.1 leads))

pub returns-else-leads-clause-open : goal.returns-else-leads-clause-open
returns-else-leads-clause-open g c = opened_no g.D.Disk.meaning c.args.self.now c.args.orders.now.items c.args.place c.mark_due.new.due.items c.requires.place c.requires.acyclic c.first_of-first.result c.later_of.result c.first_of-first.ensures c.later_of.ensures c.mark_due.ensures (λ leads. both_ways _ c.if-leads.false (c.leads.ensures.1 leads))
