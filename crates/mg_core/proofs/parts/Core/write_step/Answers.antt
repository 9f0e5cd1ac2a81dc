use Rattle.mg_core.specs.Writing.{FailsWrite, at_record, at_table, no_key}
use Rattle.mg_core.proofs.WriteLemmas.{done_by, found_by, refused_on, row_refused}
use Rattle.mg_core.proofs.parts.Core.write_step.Goals as goal

pub returns-in_err-pass_table-clause-writes : goal.returns-in_err-pass_table-clause-writes
returns-in_err-pass_table-clause-writes g c = refused_on c.from_residual-in_err-pass_table.result c.in_err-pass_table.field-0.0 _
    (FailsWrite g.D.Disk.meaning c.args.self.now c.pass_table.new.self c.args.t c.args.table.now c.args.write.now)
    c.from_residual-in_err-pass_table.ensures.0 c.from_residual-in_err-pass_table.ensures.1
    (at_table c.begin_event.new.self c.in_ok-wait.wait (record { continues = c.in-Ok.ensures.begins; ended = c.in-Ok.ensures.wait; may = c.in_ok-wait.ensures }) c.in_err-pass_table.ensures.passes)

pub returns-in_err-key-clause-writes : goal.returns-in_err-key-clause-writes
returns-in_err-key-clause-writes g c = refused_on c.from_residual-in_err-key.result c.in_err-key.field-0.0 _
    (FailsWrite g.D.Disk.meaning c.args.self.now c.key_for.new.self c.args.t c.args.table.now c.args.write.now)
    c.from_residual-in_err-key.ensures.0 c.from_residual-in_err-key.ensures.1
    (no_key c.pass_table.new.self c.in_ok-wait.wait (record { begun = c.begin_event.new.self; has_begun = (record { continues = c.in-Ok.ensures.begins; ended = c.in-Ok.ensures.wait; may = c.in_ok-wait.ensures }); passes = c.in_ok-pass_table.ensures.passes }) c.in_err-key.ensures.fails)

pub returns-in_err-rec-clause-writes : goal.returns-in_err-rec-clause-writes
returns-in_err-rec-clause-writes g c = refused_on c.from_residual-in_err-rec.result c.in_err-rec.field-0.0 _
    (FailsWrite g.D.Disk.meaning c.args.self.now c.find_row.new.self c.args.t c.args.table.now c.args.write.now)
    c.from_residual-in_err-rec.ensures.0 c.from_residual-in_err-rec.ensures.1
    (row_refused g.D.Disk.meaning c.args.self.now c.pass_table.new.self c.key_for.new.self c.find_row.new.self c.args.t c.args.table.now
    c.args.write.now c.in_ok-wait.wait c.in_ok-key.key c.in_err-rec.field-0.0 (record { begun = c.begin_event.new.self; has_begun = (record { continues = c.in-Ok.ensures.begins; ended = c.in-Ok.ensures.wait; may = c.in_ok-wait.ensures }); passes = c.in_ok-pass_table.ensures.passes }) c.in_ok-key.ensures.same
    c.in_ok-key.ensures.key c.in_ok-key.ensures.some c.in_err-rec.ensures.finds)

pub returns-in_err-pass_record-clause-writes : goal.returns-in_err-pass_record-clause-writes
returns-in_err-pass_record-clause-writes g c = refused_on c.from_residual-in_err-pass_record.result c.in_err-pass_record.field-0.0 _
    (FailsWrite g.D.Disk.meaning c.args.self.now c.pass_record.new.self c.args.t c.args.table.now c.args.write.now)
    c.from_residual-in_err-pass_record.ensures.0 c.from_residual-in_err-pass_record.ensures.1
    (at_record c.find_row.new.self c.in_ok-wait.wait c.in_ok-rec.rec (found_by g.D.Disk.meaning c.args.self.now c.pass_table.new.self c.key_for.new.self c.find_row.new.self c.args.t c.args.table.now
    c.args.write.now c.in_ok-wait.wait c.in_ok-rec.rec c.in_ok-key.key (record { begun = c.begin_event.new.self; has_begun = (record { continues = c.in-Ok.ensures.begins; ended = c.in-Ok.ensures.wait; may = c.in_ok-wait.ensures }); passes = c.in_ok-pass_table.ensures.passes }) c.in_ok-key.ensures.same
    c.in_ok-key.ensures.key c.in_ok-key.ensures.some c.in_ok-rec.ensures.finds) c.in_err-pass_record.ensures.passes)

pub returns-clause-writes : goal.returns-clause-writes
returns-clause-writes g c = done_by g.D.Disk.meaning c.args.self.now c.pass_record.new.self c.put_row.new.self c.args.t c.args.table.now
    c.args.write.now c.in_ok-wait.wait c.in_ok-rec.rec c.in_ok-key.key c.put_row.result
    (record {
      found = c.find_row.new.self;
      has_found = (found_by g.D.Disk.meaning c.args.self.now c.pass_table.new.self c.key_for.new.self c.find_row.new.self c.args.t c.args.table.now
          c.args.write.now c.in_ok-wait.wait c.in_ok-rec.rec c.in_ok-key.key (record { begun = c.begin_event.new.self; has_begun = (record { continues = c.in-Ok.ensures.begins; ended = c.in-Ok.ensures.wait; may = c.in_ok-wait.ensures }); passes = c.in_ok-pass_table.ensures.passes }) c.in_ok-key.ensures.same
          c.in_ok-key.ensures.key c.in_ok-key.ensures.some c.in_ok-rec.ensures.finds);
      passes = c.in_ok-pass_record.ensures.passes;
    })
    c.in_ok-key.ensures.key c.put_row.ensures.puts
