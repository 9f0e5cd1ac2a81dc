use Rattle.std.proofs.Common.{refl}
use Rattle.mg_recording.specs.declared.recording.Recording.{Recording}
use Rattle.mg_recording.specs.ViaLaws.{found_noted}
use Rattle.mg_recording.proofs.recording.RecordingRecords.found.Goals as goal

pub returns-clause-adds : goal.returns-clause-adds
returns-clause-adds g c =
    found_noted g.R.Records.meaning (λ (t : Recording g.row.R.Denot). t.keeper) (λ t. t.trace) (λ t. t.active)
    c.args.self.now (record { keeper = c.found-result.new.self; trace = c.note_found.new.trace; active = c.args.self.now.active })
    _ _ _ _ _ refl c.found-result.ensures.adds c.note_found.ensures
