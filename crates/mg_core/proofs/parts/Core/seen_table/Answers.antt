use Rattle.std.proofs.Common.{None, Option, Some, refl}
use Rattle.mg_model.specs.declared.table.Table.{Table}
use Rattle.mg_core.proofs.TableLemmas.{lawful_found, own_again, refused_by, seen_by, stray_found, told_again}
use Rattle.mg_core.proofs.parts.Core.seen_table.Goals as goal

pub returns-in-Ok : goal.returns-in-Ok
returns-in-Ok g c = record {
  finds = lawful_found g.D.Disk.meaning c.args.self.now
      (record c.args.self.now { store = c.table_named.new.store }) c.args.t c.args.name.now c.in-Ok-Some.table
      c.in-Ok.table c.under.result c.args.self.now.catalog.pointer.0
      (seen_by g.D.Disk.meaning c.args.self.now c.new-states.result.list.now c.new-batch.result c.args.t
      c.as_slice.result.now c.args.name.now c.in-Ok-Some.field-0 (Some c.in-Ok-Some.table)
      c.as_slice.ensures.bytes c.in-Ok-Some.field-0-is c.new-states.ensures c.new-batch.ensures.pages
      c.in-Ok-Some.ensures.gives)
      c.in-Ok.ensures c.under.ensures
      (record { keeps = c.in-Ok-Some.ensures.keeps; online = c.in-Ok-Some.ensures.fault }) refl;
}

pub returns-in-Ok-Some : goal.returns-in-Ok-Some
returns-in-Ok-Some g c = record {
  finds = stray_found g.D.Disk.meaning c.args.self.now
      (record c.args.self.now { store = c.table_named.new.store }) c.args.t c.args.name.now c.in-Ok-Some.table
      c.in-Err-lawful.fault
      (seen_by g.D.Disk.meaning c.args.self.now c.new-states.result.list.now c.new-batch.result c.args.t
      c.as_slice.result.now c.args.name.now c.in-Ok-Some.field-0 (Some c.in-Ok-Some.table)
      c.as_slice.ensures.bytes c.in-Ok-Some.field-0-is c.new-states.ensures c.new-batch.ensures.pages
      c.in-Ok-Some.ensures.gives)
      c.in-Err-lawful.ensures
      (record { keeps = c.in-Ok-Some.ensures.keeps; online = c.in-Ok-Some.ensures.fault }) refl;
}

pub returns-in-Ok-None : goal.returns-in-Ok-None
returns-in-Ok-None g c = record {
  finds = (
    seen_by g.D.Disk.meaning c.args.self.now c.new-states.result.list.now c.new-batch.result c.args.t
        c.as_slice.result.now c.args.name.now c.in-Ok-None.field-0 None c.as_slice.ensures.bytes
        c.in-Ok-None.field-0-is c.new-states.ensures c.new-batch.ensures.pages c.in-Ok-None.ensures.gives,
    tt,
    record { keeps = c.in-Ok-None.ensures.keeps; online = c.in-Ok-None.ensures.fault },
    refl,
    tt,
  );
}

pub returns : goal.returns
returns g c = record {
  finds = (
    c.in-Err.ensures.keeps,
    told_again (Option Table) g.D.Disk.meaning c.args.self.now.store c.table_named.new.store c.in-Err.fault
        c.in-Err.ensures.fault,
    refused_by g.D.Disk.meaning c.args.self.now c.table_named.new.store c.new-states.result.list.now
        c.new-batch.result c.args.t c.args.name.now c.in-Err.fault c.new-states.ensures
        c.new-batch.ensures.pages c.in-Err.ensures.gives,
    refl,
    own_again (Option Table) c.in-Err.fault c.in-Err.ensures.own,
  );
}
