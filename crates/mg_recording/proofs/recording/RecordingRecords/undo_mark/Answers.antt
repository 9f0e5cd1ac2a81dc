use Rattle.mg_recording.specs.declared.recording.Recording.{Recording}
use Rattle.mg_recording.specs.ViaLaws.{undoes_noted}
use Rattle.mg_recording.proofs.recording.RecordingRecords.undo_mark.Goals as goal

pub returns-clause-undoes : goal.returns-clause-undoes
returns-clause-undoes g c =
    undoes_noted g.R.Records.meaning (λ (t : Recording g.row.R.Denot). t.keeper) (λ t. t.trace) (λ t. t.active)
    c.args.self.now (record { keeper = c.undo_mark-result.new.self; trace = c.note_undone.new.trace; active = c.note_undone.new.active })
    _ _ c.undo_mark-result.ensures.undoes c.note_undone.ensures
