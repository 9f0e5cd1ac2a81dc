use Rattle.mg_recording.specs.declared.recording.Recording.{Recording}
use Rattle.mg_recording.specs.ViaLaws.{adds_rollback}
use Rattle.mg_recording.proofs.recording.RecordingRecords.rollback.Goals as goal

pub returns-clause-adds : goal.returns-clause-adds
returns-clause-adds g c =
    adds_rollback g.R.Records.meaning (λ (t : Recording g.row.R.Denot). t.keeper) (λ t. t.trace) (λ t. t.active)
    c.args.self.now (record { keeper = c.rollback-result.new.self; trace = c.note_rollback.new.self; active = c.note_ended.new.active })
    c.args.t c.rollback-result.result _ c.fine_answer.ensures c.note_ended.ensures c.rollback-result.ensures.adds c.note_rollback.ensures
