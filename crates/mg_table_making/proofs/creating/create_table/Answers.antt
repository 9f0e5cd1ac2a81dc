use Rattle.std.proofs.Common.{◌∙◌, sym}
use Rattle.mg_table_making.specs.Creating.{FailsCreation, no_keys}
use Rattle.mg_table_making.proofs.CoreLemmas.{refused_on}
use Rattle.mg_table_making.proofs.CreateLemmas.{created_by, free_fails}
use Rattle.mg_table_making.proofs.creating.create_table.Goals as goal

pub returns-in_err-keys-clause-creates : goal.returns-in_err-keys-clause-creates
returns-in_err-keys-clause-creates g c = refused_on c.from_residual-in_err-keys.result c.in_err-keys.field-0.0 _
    (FailsCreation g.D.Disk.meaning c.args.core.now c.keys_for.new.core c.args.t c.args.name.now c.args.shape.now)
    c.from_residual-in_err-keys.ensures.0 c.from_residual-in_err-keys.ensures.1
    (no_keys c.begin_event.new.self c.in_ok-wait.wait (record {
      continues = c.in-Ok.ensures.begins;
      ended = c.in-Ok.ensures.wait;
      may = c.in_ok-wait.ensures;
    }) c.in_err-keys.ensures.fails)

pub returns-in_err-free_keys-clause-creates : goal.returns-in_err-free_keys-clause-creates
returns-in_err-free_keys-clause-creates g c = refused_on c.from_residual-in_err-free_keys.result c.in_err-free_keys.field-0.0 _
    (FailsCreation g.D.Disk.meaning c.args.core.now c.free_keys.new.core c.args.t c.args.name.now c.args.shape.now)
    c.from_residual-in_err-free_keys.ensures.0 c.from_residual-in_err-free_keys.ensures.1
    (free_fails g.D.Disk.meaning c.args.core.now c.begin_event.new.self c.keys_for.new.core c.args.t c.in_ok-wait.wait
    c.args.name.now c.args.shape.now c.deref.result.now c.in_ok-keys.keys.items (record {
      continues = c.in-Ok.ensures.begins;
      ended = c.in-Ok.ensures.wait;
      may = c.in_ok-wait.ensures;
    }) c.in_ok-keys.ensures.same c.in_ok-keys.ensures.keys c.deref.ensures.value c.free_keys.new.core
    c.in_err-free_keys.field-0.0 c.in_err-free_keys.ensures.free)

pub returns-clause-creates : goal.returns-clause-creates
returns-clause-creates g c = created_by g.D.Disk.meaning c.args.core.now c.begin_event.new.self c.keys_for.new.core c.args.t
    c.in_ok-wait.wait c.args.name.now c.args.shape.now c.deref.result.now c.in_ok-keys.keys.items (record {
      continues = c.in-Ok.ensures.begins;
      ended = c.in-Ok.ensures.wait;
      may = c.in_ok-wait.ensures;
    }) c.in_ok-keys.ensures.same c.in_ok-keys.ensures.keys c.deref.ensures.value c.free_keys.new.core c.put_table.new.core
    c.deref-2.result.now c.put_table.result c.in_ok-free_keys.ensures.free
    (c.deref-2.ensures.value ∙ sym c.deref.ensures.value) c.put_table.ensures.puts
