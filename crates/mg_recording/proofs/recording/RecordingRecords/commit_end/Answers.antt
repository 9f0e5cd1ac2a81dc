use Rattle.mg_recording.specs.declared.recording.Recording.{Recording}
use Rattle.mg_recording.specs.ViaLaws.{adds_commit}
use Rattle.mg_recording.proofs.recording.RecordingRecords.commit_end.Goals as goal

pub returns-clause-adds : goal.returns-clause-adds
returns-clause-adds g c =
    adds_commit g.R.Records.meaning (λ (t : Recording g.row.R.Denot). t.keeper) (λ t. t.trace) (λ t. t.active)
    c.args.self.now (record { keeper = c.commit_end-result.new.self; trace = c.note_commit.new.self; active = c.note_ended.new.active })
    c.args.t c.commit_end-result.result _ c.fine_answer.ensures c.note_ended.ensures c.commit_end-result.ensures.adds c.note_commit.ensures
