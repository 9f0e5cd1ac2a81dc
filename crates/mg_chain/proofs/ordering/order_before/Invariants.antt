use Rattle.std.proofs.Common.{◌≡◌, ◌++◌, length}
use Rattle.mg_chain.specs.Orders.{before_page}
use Rattle.mg_chain.proofs.ordering.order_before.Given as goal

abbrev pub invariant-loop-first : goal.invariant-loop-first
invariant-loop-first l = record {
  pages : l.batch.pages ≡ l.initial.batch.pages;
  orders : l.batch.orders ++ before_page l.rest l.later.0
      ≡ l.initial.batch.orders ++ before_page l.firsts l.later.0;
}

abbrev pub decreases-loop-first : goal.decreases-loop-first
decreases-loop-first l = length l.rest
