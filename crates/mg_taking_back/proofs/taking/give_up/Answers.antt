use Rattle.std.proofs.Common.{Global, Vec, ap}
use Rattle.mg_txlist.specs.declared.list.TipPage.{TipPage}
use Rattle.mg_txlist.specs.TipLaws.{tips_same}
use Rattle.mg_taking_back.specs.CoreLaws.{core_rolled}
use Rattle.mg_taking_back.proofs.taking.give_up.Goals as goal

pub returns-clause-core : goal.returns-clause-core
returns-clause-core g c = core_rolled g.D.Disk.meaning c.args.core.now c.args.t.0 c.mark_dead.new.self c.end.new.self
    c.leave.new.self c.requires.core c.mark_dead.ensures.list
    (tips_same c.args.core.now.store.geometry.limit c.args.core.now.list c.mark_dead.new.self
    (ap (λ (xs : Vec TipPage Global). xs.items) c.mark_dead.ensures.pages) c.requires.core.tips) c.mark_dead.ensures.ends c.end.ensures c.leave.ensures
