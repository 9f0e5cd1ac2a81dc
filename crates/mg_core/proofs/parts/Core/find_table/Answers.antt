use Rattle.std.proofs.Common.{inl, refl, ◌∙◌, sym}
use Rattle.mg_core.specs.Tables.{by_lack}
use Rattle.mg_core.proofs.TableLemmas.{core_read_store, kept_core, none_found, not_catalog, reads_none, some_found, table_failed, table_kept, table_lacked}
use Rattle.mg_core.proofs.parts.Core.find_table.Goals as goal

pub returns-then-is_catalog-clause-table : goal.returns-then-is_catalog-clause-table
returns-then-is_catalog-clause-table g c = by_lack (record {
  continues = c.requires.continues;
  fresh = c.requires.fresh;
  none = inl (sym c.as_slice.ensures.bytes ∙ c.is_catalog.ensures.0 c.if-is_catalog.true);
  reads = reads_none g.D.Disk.meaning c.args.self.now c.requires.core c.requires.continues.0;
  same = refl;
})

pub returns-in-Ok-Some-clause-core : goal.returns-in-Ok-Some-clause-core
returns-in-Ok-Some-clause-core g c = kept_core g.D.Disk.meaning c.seen_table.new.self c.keep_table.new.self
    c.args.t.0 c.in-Ok-Some.table c.keep_table.result
    (core_read_store g.D.Disk.meaning c.args.self.now c.seen_table.new.self c.requires.core
    c.in-Ok-Some.ensures.finds.2.keeps c.in-Ok-Some.ensures.finds.3) c.keep_table.ensures.keeps

pub returns-in-Ok-Some-clause-table : goal.returns-in-Ok-Some-clause-table
returns-in-Ok-Some-clause-table g c = table_kept g.D.Disk.meaning c.args.self.now c.seen_table.new.self
    c.keep_table.new.self c.args.t c.args.name.now c.in-Ok-Some.table c.keep_table.result
    c.requires.continues (not_catalog c.args.name.now c.as_slice.result.now c.is_catalog.result
    c.if-is_catalog.false c.as_slice.ensures.bytes c.is_catalog.ensures.1) c.requires.fresh
    (some_found g.D.Disk.meaning c.args.self.now c.seen_table.new.self c.args.t c.args.name.now
    c.in-Ok-Some.table c.in-Ok-Some.field-0 c.in-Ok-Some.field-0-is c.in-Ok-Some.ensures.finds)
    c.keep_table.ensures.keeps

pub returns-in-Ok-None-clause-table : goal.returns-in-Ok-None-clause-table
returns-in-Ok-None-clause-table g c = by_lack (table_lacked g.D.Disk.meaning c.args.self.now
    c.seen_table.new.self c.args.t c.args.name.now c.requires.continues (not_catalog c.args.name.now c.as_slice.result.now c.is_catalog.result
    c.if-is_catalog.false c.as_slice.ensures.bytes c.is_catalog.ensures.1)
    c.requires.fresh (none_found g.D.Disk.meaning c.args.self.now c.seen_table.new.self c.args.t
    c.args.name.now c.in-Ok-None.field-0 c.in-Ok-None.field-0-is c.in-Ok-None.ensures.finds))

pub returns-in-Err-clause-table : goal.returns-in-Err-clause-table
returns-in-Err-clause-table g c = table_failed g.D.Disk.meaning c.args.self.now c.seen_table.new.self
    c.refuse.new.self c.args.t c.args.name.now c.in-Err.fault c.refuse.result c.requires.continues
    (not_catalog c.args.name.now c.as_slice.result.now c.is_catalog.result
    c.if-is_catalog.false c.as_slice.ensures.bytes c.is_catalog.ensures.1) c.requires.fresh c.in-Err.ensures.finds c.refuse.ensures.refusal
    c.refuse.ensures.counts c.refuse.ensures.same
