use Rattle.std.proofs.Common.{refl}
use Rattle.mg_txlist.proofs.ListLemmas.{own_ends}
use Rattle.mg_txlist.proofs.list.TxList.end.Goals as goal

pub returns-clause-ends : goal.returns-clause-ends
returns-clause-ends c = own_ends c.args.self.now _ c.args.t c.args.state c.requires.list.some
    c.requires.first c.requires.below refl refl (λ s. refl) refl
