use Rattle.std.proofs.Common.{sym}
use Rattle.mg_core.proofs.CoreLemmas.{core_based_by, kept_base, new_base_by}
use Rattle.mg_core.proofs.parts.Core.take_base.Goals as goal

pub returns-then-keeps_base-clause-takes : goal.returns-then-keeps_base-clause-takes
returns-then-keeps_base-clause-takes g c = kept_base c.args.self.now c.args.t.0 c.keeps_base.result
    c.if-keeps_base.true (sym c.keeps_base.ensures)

pub returns-clause-core : goal.returns-clause-core
returns-clause-core g c = core_based_by g.D.Disk.meaning c.args.self.now c.args.t.0 c.forget_tables.new.self
    c.rebase.new.self c.requires c.forget_tables.ensures c.rebase.ensures

pub returns-clause-takes : goal.returns-clause-takes
returns-clause-takes g c = new_base_by c.args.self.now c.args.t.0 c.forget_tables.new.self c.rebase.new.self
    c.keeps_base.result c.if-keeps_base.false (sym c.keeps_base.ensures) c.forget_tables.ensures
    c.rebase.ensures
