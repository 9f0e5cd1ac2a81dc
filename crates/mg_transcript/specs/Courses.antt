-- What is left of a statement between two of its steps, and what becomes of it.
use Rattle.std.specs.Prelude.{ℕ, Bool, List, [], ◌∷◌}
use Rattle.mg_base.specs.declared.numbers.TxNo.{TxNo}
use Rattle.mg_model.specs.declared.event.Event.{Event}
use Rattle.mg_model.specs.declared.refusal.Refusal.TheVariants as refusals
use Rattle.mg_rows.specs.declared.outcome.Outcome.{Outcome}
use Rattle.mg_rows.specs.declared.statement_fault.StatementFault.TheVariants.{Engine}
use Rattle.mg_script.specs.declared.reply.Reply.{Reply}
use Rattle.mg_script.specs.declared.reply.Reply.TheVariants as replies
use Rattle.mg_statements.specs.Plain.{Plain}

-- what is left of a statement that has begun
pub data Course : Type 0 where
  -- it was tested, and has taken so many steps since, none of which gave an event
  Begun : Plain → ℕ → Course
  -- its mark is set; these events are to come, and then this is answered
  Writing : List Event → Outcome → Course
  -- its mark is set; these events are to come in one step, and all are tried again where one waits
  Making : List Event → Outcome → Course
  -- it is a COMMIT, and all pages that it needs are written, or they are not
  Committing : (written : Bool) → Course

-- what becomes of a statement
pub data Comes : Type 0 where
  -- it goes on by a later step
  Later : Course → Comes
  -- it waits for a transaction, and then tries its next event again
  Parks : TxNo → Course → Comes
  -- it is at its end, and answers this
  Ends : Reply → Comes

-- what is answered of it
abbrev pub reply_of : Comes → Reply
reply_of (Later course) = replies.Held
reply_of (Parks on course) = replies.No (Engine (refusals.Waits on))
reply_of (Ends reply) = reply

-- what becomes of a statement whose mark is set, and which has these events left
abbrev pub with_left : List Event → Outcome → Comes
with_left [] outcome = Ends (replies.Ok outcome)
with_left (event ∷ events) outcome = Later (Writing (event ∷ events) outcome)
