use Rattle.std.proofs.Common.{◌≡◌, ◌++◌, length}
use Rattle.mg_btree.specs.Ordering.{Widens, orders_for}
use Rattle.mg_btree.proofs.ordering.order_names.Given as goal

abbrev pub invariant-loop-next : goal.invariant-loop-next
invariant-loop-next l = (l.batch.pages ≡ l.initial.batch.pages)
    × (l.batch.orders ++ orders_for l.size l.rest l.later.0
    ≡ l.initial.batch.orders ++ orders_for l.size l.names l.later.0)
    × Widens l.size l.initial.batch l.batch

abbrev pub decreases-loop-next : goal.decreases-loop-next
decreases-loop-next l = length l.rest
