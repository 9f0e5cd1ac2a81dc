use Rattle.std.proofs.Common.{refl}
use Rattle.mg_recording.specs.declared.recording.Recording.{Recording}
use Rattle.mg_recording.specs.ViaLaws.{made_noted}
use Rattle.mg_recording.proofs.recording.RecordingRecords.create_table.Goals as goal

pub returns-clause-adds : goal.returns-clause-adds
returns-clause-adds g c =
    made_noted g.R.Records.meaning (λ (t : Recording g.row.R.Denot). t.keeper) (λ t. t.trace) (λ t. t.active)
    c.args.self.now (record { keeper = c.create_table-result.new.self; trace = c.note_table.new.trace; active = c.args.self.now.active })
    _ _ _ _ refl c.create_table-result.ensures.adds c.note_table.ensures
