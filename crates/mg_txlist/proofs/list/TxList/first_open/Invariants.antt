use Rattle.std.proofs.Common.{◌≡◌, ◌<◌, ◌≤◌, ℕ}
use Rattle.mg_base.specs.declared.transaction.TxState.TheVariants.{Committed}
use Rattle.mg_txlist.specs.TxList.{said}
use Rattle.mg_txlist.proofs.list.TxList.first_open.Given as goal

abbrev pub invariant-loop-t : goal.invariant-loop-t
invariant-loop-t l = (u : ℕ) → l.fn.from.0 ≤ u → u < l.t → said l.self u ≡ Committed
