use Rattle.std.proofs.Common.{Global, Vec, ap, refl}
use Rattle.mg_txlist.specs.declared.list.TipPage.{TipPage}
use Rattle.mg_base.specs.declared.transaction.TxState.TheVariants.{Dead}
use Rattle.mg_txlist.specs.TipLaws.{tips_same}
use Rattle.mg_core.proofs.CoreLemmas.{core_ended, dead_ended}
use Rattle.mg_core.proofs.parts.Core.rollback.Goals as goal

pub returns-clause-core : goal.returns-clause-core
returns-clause-core g c = core_ended g.D.Disk.meaning c.begin_event.new.self c.args.t.0 Dead
    c.begin_event.new.self.store c.mark_dead.new.self c.end.new.self c.leave.new.self
    c.begin_event.ensures.core dead_ended c.begin_event.ensures.core.pool refl
    c.mark_dead.ensures.list (tips_same c.begin_event.new.self.store.geometry.limit c.begin_event.new.self.list
    c.mark_dead.new.self (ap (λ (xs : Vec TipPage Global). xs.items) c.mark_dead.ensures.pages) c.begin_event.ensures.core.tips)
    c.mark_dead.ensures.ends c.end.ensures c.leave.ensures
