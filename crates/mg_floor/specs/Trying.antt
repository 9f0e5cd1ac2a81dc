-- What becomes of a statement that waits and is tried once more.
use Rattle.std.specs.Prelude.{◌≡◌, ◌==◌, Bool, true, false, List}
use Rattle.mg_base.specs.declared.numbers.TxNo.{TxNo}
use Rattle.mg_model.specs.declared.opening.Opening.{Opening}
use Rattle.mg_model.specs.History.{Entries}
use Rattle.mg_transcript.specs.Courses.{Comes, reply_of}
use Rattle.mg_transcript.specs.Sessions.{Unfinished, kept}
use Rattle.mg_transcript.specs.Steps.{Steps}
use Rattle.mg_courses.specs.declared.statements.Stepped.{Stepped}
use Rattle.mg_courses.specs.declared.statements.Stepped.TheVariants.{More, Waits, Ended}
use Rattle.mg_interleavings.specs.declared.answered.Answered.{Answered}
use Rattle.mg_interleavings.specs.declared.answered.Answered.TheVariants.{Replied}
use Rattle.mg_interleavings.specs.Interleavings.{TimesOut, waits_for}

-- a step came to wait for this transaction
abbrev pub waits_so : TxNo → Stepped → Bool
waits_so on More = false
waits_so on (Waits by) = by.0 == on.0
waits_so on (Ended ending) = false

-- It takes a step. Where it comes to wait for the same transaction again, it has waited too long, and is none of those
-- that go on; else it is kept as after any step.
pub data TriesOnce (o : Opening) (h : Entries) (u : Unfinished) (others : List Unfinished) (on : TxNo)
    : Answered → Entries → List Unfinished → Type 0 where
  takes_a_step : (after : Entries) (comes : Comes) → Steps o h u.transaction u.course after comes
      → waits_for on comes ≡ false
      → TriesOnce o h u others on (Replied (reply_of comes)) after (kept u.session u.transaction comes others)
  waits_again : (mid after : Entries) (comes : Comes) (answer : Answered) → Steps o h u.transaction u.course mid comes
      → waits_for on comes ≡ true → TimesOut o mid u.transaction on after answer
      → TriesOnce o h u others on answer after others
