use Rattle.std.proofs.Common.{Err, ap, subst, ◌∙◌, ◌<◌}
use Rattle.mg_base.specs.declared.transaction.TxState.TheVariants.{Committed}
use Rattle.mg_txlist.specs.declared.list.TxList.{TxList}
use Rattle.mg_txlist.specs.TxList.{next_said}
use Rattle.mg_space.specs.declared.fault.SpaceFault.{SpaceFault}
use Rattle.mg_core.proofs.EndingLemmas.{commit_fails}
use Rattle.mg_core.proofs.CoreLemmas.{active_drawn, active_some, committed_ended, core_ended, same_list}
use Rattle.mg_core.proofs.parts.Core.commit_end.Goals as goal

pub mark_committed-requires-clause-some : goal.mark_committed-requires-clause-some
mark_committed-requires-clause-some g c = active_some c.args.self.now.list c.args.t.0 c.in-Ok.ensures.begins.1

pub mark_committed-requires-clause-drawn : goal.mark_committed-requires-clause-drawn
mark_committed-requires-clause-drawn g c = subst (λ (l : TxList). c.args.t.0 < next_said l)
    (same_list c.args.self.now c.begin_event.new.self c.args.t.0 c.in-Ok.ensures.wait)
    (active_drawn c.args.self.now.list c.args.t.0 c.in-Ok.ensures.begins.1)

pub returns-clause-core : goal.returns-clause-core
returns-clause-core g c = core_ended g.D.Disk.meaning c.begin_event.new.self c.args.t.0 Committed
    c.mark_committed.new.store c.mark_committed.new.self c.end.new.self c.leave.new.self
    c.in-Ok.ensures.core committed_ended c.mark_committed.ensures.pool c.mark_committed.ensures.geometry
    c.mark_committed.ensures.list c.mark_committed.ensures.tips c.in-Ok-mark_committed.ensures.ends c.end.ensures c.leave.ensures

pub returns-in-Err-mark_committed-clause-commits : goal.returns-in-Err-mark_committed-clause-commits
returns-in-Err-mark_committed-clause-commits g c = commit_fails g.D.Disk.meaning c.args.self.now
    c.begin_event.new.self c.args.t.0 c.mark_committed.new.store c.mark_committed.new.self c.bits_refusal.result
    c.in-Ok.ensures.begins c.in-Ok.ensures.wait c.in-Err-mark_committed.ensures.same
    c.in-Err-mark_committed.fault c.in-Err-mark_committed.ensures.own c.in-Err-mark_committed.ensures.fault
    (λ f is. c.mark_committed.ensures.fails f (c.in-Err-mark_committed.is ∙ ap (λ (e : SpaceFault). Err e) is))
    c.bits_refusal.ensures

pub mark_committed-requires-clause-tips : goal.mark_committed-requires-clause-tips
mark_committed-requires-clause-tips g c = c.in-Ok.ensures.core.tips
