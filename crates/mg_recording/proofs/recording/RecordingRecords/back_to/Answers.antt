use Rattle.mg_recording.specs.declared.recording.Recording.{Recording}
use Rattle.mg_recording.specs.ViaLaws.{goes_back_noted}
use Rattle.mg_recording.proofs.recording.RecordingRecords.back_to.Goals as goal

pub returns-clause-goes : goal.returns-clause-goes
returns-clause-goes g c =
    goes_back_noted g.R.Records.meaning (λ (t : Recording g.row.R.Denot). t.keeper) (λ t. t.trace) (λ t. t.active)
    c.args.self.now (record { keeper = c.back_to-result.new.self; trace = c.note_gone_back.new.trace; active = c.note_gone_back.new.active })
    _ _ _ c.back_to-result.ensures.goes c.note_gone_back.ensures
