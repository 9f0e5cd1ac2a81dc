use Rattle.std.proofs.Common.{refl}
use Rattle.mg_model.specs.declared.event.Event.TheVariants.{Change}
use Rattle.mg_plain.proofs.plain.Plain.change_row.Goals as goal

pub returns-in-Err-copy : goal.returns-in-Err-copy
returns-in-Err-copy c =
    c.fail.ensures.done (Change c.args.t c.args.table.now c.args.key.now c.args.row.now) refl

pub returns-in-Err : goal.returns-in-Err
returns-in-Err c =
    c.fail-in-Err.ensures.done (Change c.args.t c.args.table.now c.args.key.now c.args.row.now) refl
