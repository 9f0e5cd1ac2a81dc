use Rattle.mg_recording.specs.declared.recording.Recording.{Recording}
use Rattle.mg_recording.specs.ViaLaws.{adds_begun}
use Rattle.mg_recording.proofs.recording.RecordingRecords.begin.Goals as goal

pub returns-clause-adds : goal.returns-clause-adds
returns-clause-adds g c =
    adds_begun g.R.Records.meaning (λ (t : Recording g.row.R.Denot). t.keeper) (λ t. t.trace) (λ t. t.active)
    c.args.self.now (record { keeper = c.begin-result.new.self; trace = c.note_begun.new.trace; active = c.note_begun.new.active })
    c.args.session c.args.mode c.begin-result.result c.begin-result.ensures.adds c.note_begun.ensures
