use Rattle.std.proofs.Common.{subst, sym}
use Rattle.mg_snap.specs.Live.{MayEnter, State}
use Rattle.mg_core_collecting.proofs.EveryLemmas.{system_enters}
use Rattle.mg_core_collecting.proofs.committed.system_live.Goals as goal

pub enter-requires-clause-may_enter : goal.enter-requires-clause-may_enter
enter-requires-clause-may_enter c = subst (λ (s : State). MayEnter s 0) (sym c.new-live.ensures)
    (system_enters c.args.next.0)
