use Rattle.std.proofs.Common.{refl}
use Rattle.mg_recording.specs.ActiveLaws.{kept_or, write_keeps}
use Rattle.mg_recording.specs.declared.recording.Recording.{Recording}
use Rattle.mg_recording.specs.ViaLaws.{adds_quiet}
use Rattle.mg_recording.proofs.recording.RecordingRecords.write_step.Goals as goal

pub returns-clause-adds : goal.returns-clause-adds
returns-clause-adds g c =
    adds_quiet g.R.Records.meaning (λ (t : Recording g.row.R.Denot). t.keeper) (λ t. t.trace) (λ t. t.active)
    c.args.self.now (record { keeper = c.write_step-result.new.self; trace = c.note_write.new.trace; active = c.args.self.now.active })
    _ _ _ c.fine_answer.ensures refl (kept_or _ c.write_step-result.result (write_keeps c.args.t c.args.table.now.name c.args.write.now))
    c.write_step-result.ensures.adds c.note_write.ensures
