use Rattle.std.proofs.Common.{refl}
use Rattle.mg_model.specs.declared.event.Event.TheVariants.{Erase}
use Rattle.mg_plain.proofs.plain.Plain.erase_row.Goals as goal

pub returns-in-Err : goal.returns-in-Err
returns-in-Err c =
    c.fail.ensures.done (Erase c.args.t c.args.table.now c.args.key.now) refl
