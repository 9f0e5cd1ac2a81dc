-- A run stops behind each fault of the disk.
use Rattle.std.proofs.Common.{◌≡◌, Bool, true, false, Some, refl}
use Rattle.std.specs.Prelude.{if◌then◌else◌}
use Rattle.mg_faults.specs.Faults.{tells_fault}
use Rattle.mg_model.specs.declared.refusal.Refusal.{Refusal}
use Rattle.mg_model.specs.declared.refusal.Refusal.TheVariants.{DiskRead, DiskWrite}
use Rattle.mg_rows.specs.declared.statement_fault.StatementFault.{StatementFault}
use Rattle.mg_rows.specs.declared.statement_fault.StatementFault.TheVariants.{Engine}
use Rattle.mg_script.specs.declared.reply.Reply.{Reply}
use Rattle.mg_script.specs.declared.reply.Reply.TheVariants as replies
use Rattle.mg_transcript.specs.declared.turn.Flow.{Flow}
use Rattle.mg_transcript.specs.declared.turn.Flow.TheVariants.{GoesOn, Stops}
use Rattle.mg_transcript.specs.Lines.{stops}
use Rattle.mg_transcript.specs.Shorthand.{stops_by, stops_run}
use Rattle.mg_transcript.specs.Transcript.{flow}
use Rattle.mg_courses.specs.Running.{refusal_answered, refusal_of}

-- what a run does not stop by tells none
pub run_goes_on : (refusal : Refusal) → stops_run refusal ≡ false → tells_fault (Some refusal) ≡ false
run_goes_on (DiskRead count) goes = absurd cc
run_goes_on (DiskWrite count) goes = absurd cc
run_goes_on refusal goes = refl

pub goes_on_by : (fault : StatementFault) → stops_by fault ≡ false → tells_fault (refusal_of fault) ≡ false
goes_on_by (Engine refusal) goes = run_goes_on refusal goes
goes_on_by fault goes = refl

pub goes_on_behind : (reply : Reply) → stops reply ≡ false → tells_fault (refusal_answered reply) ≡ false
goes_on_behind (replies.No fault) goes = goes_on_by fault goes
goes_on_behind reply goes = refl

-- behind which answers it goes on
pub flow_goes : (reply : Reply) → flow reply ≡ GoesOn → stops reply ≡ false
flow_goes (replies.No (Engine given)) is = at (stops_run given) refl is
  where
    at : (b : Bool) → stops_run given ≡ b → (if b then Stops given else GoesOn) ≡ GoesOn
        → stops_run given ≡ false
    at true same is_ = absurd cc
    at false same is_ = same
flow_goes reply is = refl
