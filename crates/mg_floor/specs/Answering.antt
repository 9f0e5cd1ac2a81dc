-- What an answer tells of the keeper and of the run.
use Rattle.std.specs.Prelude.{Bool, false, Option, None, Some}
use Rattle.mg_model.specs.declared.refusal.Refusal.{Refusal}
use Rattle.mg_records.specs.TakingBack.{is_given_up}
use Rattle.mg_rows.specs.declared.statement_fault.StatementFault.TheVariants.{Engine}
use Rattle.mg_script.specs.declared.reply.Reply.TheVariants as replies
use Rattle.mg_transcript.specs.declared.turn.Flow.{Flow}
use Rattle.mg_transcript.specs.declared.turn.Flow.TheVariants.{GoesOn, Stops}
use Rattle.mg_transcript.specs.Transcript.{flow}
use Rattle.mg_courses.specs.Running.{refusal_answered}
use Rattle.mg_interleavings.specs.declared.answered.Answered.{Answered}
use Rattle.mg_interleavings.specs.declared.answered.Answered.TheVariants.{LockTimeout, Replied}

-- the transaction of a statement that was given up is at its end: the taking back was refused so
abbrev pub ends_by : Answered → Bool
ends_by (LockTimeout on) = false
ends_by (Replied (replies.No (Engine refusal))) = is_given_up refusal
ends_by (Replied reply) = false

-- the refusal of the keeper that is told
abbrev pub refusal_told_by : Answered → Option Refusal
refusal_told_by (LockTimeout on) = None
refusal_told_by (Replied reply) = refusal_answered reply

-- the refusal by which the run stops behind an answer
abbrev pub stopped_by : Flow → Option Refusal
stopped_by GoesOn = None
stopped_by (Stops refusal) = Some refusal

abbrev pub stop_behind : Answered → Option Refusal
stop_behind (LockTimeout on) = None
stop_behind (Replied reply) = stopped_by (flow reply)
