use Rattle.mg_btree.specs.Ways.{IsOnWay}
use Rattle.mg_btree.proofs.search.pass.Given as goal

abbrev pub invariant-loop : goal.invariant-loop
invariant-loop g l = IsOnWay g.D.Disk.meaning l.initial.store l.store l.batch l.owner l.level l.e
    l.fn.page.0 l.at.0 l.counter
