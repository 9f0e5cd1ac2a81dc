use Rattle.mg_btree.specs.OnPage.{IsAlong}
use Rattle.mg_btree.proofs.on_page.child_on.Given as goal

abbrev pub invariant-loop : goal.invariant-loop
invariant-loop l = IsAlong l.page l.e l.counter l.at l.child
