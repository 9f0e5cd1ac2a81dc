use Rattle.mg_recording.proofs.MakingLemmas.{stops_made}
use Rattle.mg_recording.proofs.making.note_table.Goals as goal

pub returns-in_default : goal.returns-in_default
returns-in_default c = stops_made _ _ c.args.t c.args.name.now c.args.shape.now c.args.made.now c.stop-in_default.ensures

pub returns-in-Err : goal.returns-in-Err
returns-in-Err c = stops_made _ _ c.args.t c.args.name.now c.args.shape.now c.args.made.now c.stop-in-Err.ensures
