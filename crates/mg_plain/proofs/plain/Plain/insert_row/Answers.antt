use Rattle.std.proofs.Common.{refl}
use Rattle.mg_model.specs.declared.event.Event.TheVariants.{Insert}
use Rattle.mg_plain.proofs.plain.Plain.insert_row.Goals as goal

pub returns-in-Err : goal.returns-in-Err
returns-in-Err c =
    c.fail.ensures.done (Insert c.args.t c.args.table.now c.args.row.now) refl
