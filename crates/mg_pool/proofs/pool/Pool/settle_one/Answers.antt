use Rattle.std.proofs.Common.{◌≡◌, ◌≢◌, ◌∙◌, sym, ap, subst, Some, inr}
use Rattle.mg_base.specs.declared.numbers.PageNo.{PageNo}
use Rattle.mg_careful.specs.Precedence.{Precedes}
use Rattle.mg_careful.specs.Graph.{is_ordered}
use Rattle.mg_pool.specs.Change.{no_order, one_more}
use Rattle.mg_pool.proofs.OrderLemmas.{one_settled, one_open, same_page}
use Rattle.mg_pool.proofs.RunLemmas.{run_starts, none_precedes}
use Rattle.std.proofs.lemmas.Bool.{both_ways}
use Rattle.mg_pool.proofs.pool.Pool.settle_one.Goals as goal

pub returns-in_ok-write_predecessors-clause-settles : goal.returns-in_ok-write_predecessors-clause-settles
returns-in_ok-write_predecessors-clause-settles g c =
    let done = c.in_ok-write_predecessors.ensures in
    let apart : c.args.page.0 ≢ c.in-Some.first.0 = λ e. c.requires.apart (c.in-Some.is ∙ ap Some (same_page c.in-Some.first c.args.page (sym e))) in
    rw c.in-Some.is (one_more c.write_predecessors.new.self no_order (one_settled g.D.Disk.meaning c.args.self.now c.write_predecessors.new.self c.in-Some.first.0 c.args.page.0 done.run apart (c.would_cycle.ensures.0 c.if-would_cycle.true) done.ready done.no_other))

pub returns-in_ok-write_predecessors-clause-open : goal.returns-in_ok-write_predecessors-clause-open
returns-in_ok-write_predecessors-clause-open g c = λ x same chain.
    let e : Some c.in-Some.first ≡ Some x = sym c.in-Some.is ∙ same in
    let f : c.in-Some.first ≡ x = cc in
    none_precedes (is_ordered c.write_predecessors.new.self.graph) c.in-Some.first.0 c.in_ok-write_predecessors.ensures.ready c.args.page.0
    (subst (λ (y : PageNo). Precedes (is_ordered c.write_predecessors.new.self.graph) c.args.page.0 y.0) (sym f) chain)

pub returns-else-would_cycle-clause-settles : goal.returns-else-would_cycle-clause-settles
returns-else-would_cycle-clause-settles g c =
    rw c.in-Some.is (one_more c.args.self.now no_order (one_open g.D.Disk.meaning c.args.self.now c.in-Some.first.0 c.args.page.0 c.requires.pool (λ chain. both_ways _ c.if-would_cycle.false (c.would_cycle.ensures.1 (inr chain)))))

pub returns-else-would_cycle-clause-run : goal.returns-else-would_cycle-clause-run
returns-else-would_cycle-clause-run g c = run_starts g.D.Disk.meaning c.args.self.now c.requires.pool

pub returns-in_default-clause-settles : goal.returns-in_default-clause-settles
returns-in_default-clause-settles g c = rw c.in_default.is no_order

pub returns-in_default-clause-run : goal.returns-in_default-clause-run
returns-in_default-clause-run g c = run_starts g.D.Disk.meaning c.args.self.now c.requires.pool
