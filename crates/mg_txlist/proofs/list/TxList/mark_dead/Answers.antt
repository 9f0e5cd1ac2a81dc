use Rattle.mg_txlist.proofs.ListLemmas.{active_own}
use Rattle.mg_txlist.proofs.list.TxList.mark_dead.Goals as goal

pub end-requires-clause-first : goal.end-requires-clause-first
end-requires-clause-first c = (active_own c.args.self.now c.args.t.0 c.requires.active).0

pub end-requires-clause-below : goal.end-requires-clause-below
end-requires-clause-below c = (active_own c.args.self.now c.args.t.0 c.requires.active).1
