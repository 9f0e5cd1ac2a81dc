use Rattle.std.proofs.Common.{length, refl}
use Rattle.mg_table_making.proofs.CoreLemmas.{core_on}
use Rattle.mg_table_making.proofs.CreateLemmas.{done_active, gone_active, kept_active, kept_fails, put_done, put_failed}
use Rattle.mg_table_making.proofs.putting.put_table.Goals as goal

pub returns-in-Err-clause-core : goal.returns-in-Err-clause-core
returns-in-Err-clause-core g c = core_on g.D.Disk.meaning c.args.core.now _ c.args.core.now.store c.args.core.now.waits
    c.keep_each.new.works c.args.core.now.damage c.args.core.now.shortages c.requires.core c.requires.core.pool refl
    (kept_active c.args.t.0 c.args.core.now.catalog.pointer.0 c.args.keys.now c.args.core.now.works c.keep_each.new.works
    c.in-Err.ensures.fails) refl

pub returns-in-Err-clause-puts : goal.returns-in-Err-clause-puts
returns-in-Err-clause-puts g c = kept_fails g.D.Disk.meaning c.args.core.now c.args.t c.args.name.now c.args.shape.now
    c.args.keys.now c.keep_each.new.works c.in-Err.ensures.fails

pub returns-in-Ok-make_table-clause-core : goal.returns-in-Ok-make_table-clause-core
returns-in-Ok-make_table-clause-core g c = core_on g.D.Disk.meaning c.args.core.now _ c.make_table.new.store
    c.args.core.now.waits c.forget_tables.new.self c.args.core.now.damage c.args.core.now.shortages c.requires.core
    c.make_table.ensures.pool c.make_table.ensures.geometry
    (done_active c.args.t.0 c.args.core.now.catalog.pointer.0 c.args.keys.now c.args.core.now.works c.keep_each.new.works
    c.unask.new.self c.forget_tables.new.self c.in-Ok.ensures.keeps c.unask.ensures c.forget_tables.ensures) refl

pub returns-in-Ok-make_table-clause-puts : goal.returns-in-Ok-make_table-clause-puts
returns-in-Ok-make_table-clause-puts g c = put_done g.D.Disk.meaning c.args.core.now c.args.t c.args.name.now c.args.shape.now
    c.args.keys.now c.make_table.new.store c.keep_each.new.works c.unask.new.self c.forget_tables.new.self
    c.in-Ok.ensures.keeps c.unask.ensures c.forget_tables.ensures c.in-Ok-make_table.ensures.makes

pub returns-in-Err-make_table-clause-core : goal.returns-in-Err-make_table-clause-core
returns-in-Err-make_table-clause-core g c = core_on g.D.Disk.meaning c.args.core.now c.refuse-in-Err-make_table.new.self
    c.make_table.new.store c.args.core.now.waits c.retract_last.new.works c.refuse-in-Err-make_table.new.self.damage
    c.refuse-in-Err-make_table.new.self.shortages c.requires.core c.make_table.ensures.pool c.make_table.ensures.geometry
    (gone_active c.args.t.0 c.args.core.now.catalog.pointer.0 c.args.keys.now c.args.core.now.works c.keep_each.new.works
    c.unask.new.self c.retract_last.new.works (length c.args.keys.now) c.in-Ok.ensures.keeps c.unask.ensures c.retract_last.ensures)
    c.refuse-in-Err-make_table.ensures.same

pub returns-in-Err-make_table-clause-puts : goal.returns-in-Err-make_table-clause-puts
returns-in-Err-make_table-clause-puts g c = put_failed g.D.Disk.meaning c.args.core.now c.args.t c.args.name.now c.args.shape.now
    c.args.keys.now c.refuse-in-Err-make_table.new.self c.make_table.new.store c.keep_each.new.works c.unask.new.self
    c.retract_last.new.works (length c.args.keys.now) c.in-Err-make_table.fault c.refuse-in-Err-make_table.result
    c.in-Ok.ensures.keeps c.unask.ensures c.retract_last.ensures refl c.in-Err-make_table.ensures.makes
    c.refuse-in-Err-make_table.ensures.refusal c.refuse-in-Err-make_table.ensures.names
    c.refuse-in-Err-make_table.ensures.counts
    c.refuse-in-Err-make_table.ensures.same
