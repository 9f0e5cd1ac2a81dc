-- What a line comes to.
use Rattle.std.specs.Prelude.{◌≡◌, List, Option}
use Rattle.mg_base.specs.declared.numbers.TxNo.{TxNo}
use Rattle.mg_model.specs.declared.opening.Opening.{Opening}
use Rattle.mg_model.specs.History.{Entries}
use Rattle.mg_records.specs.Meaning.{Means}
use Rattle.mg_script.specs.declared.line.Session.{Session}
use Rattle.mg_script.specs.declared.reply.Reply.{Reply}
use Rattle.mg_transcript.specs.Courses.{Comes, reply_of}
use Rattle.mg_transcript.specs.Sessions.{Unfinished, kept}
use Rattle.mg_courses.specs.Carrying.{Carries}
use Rattle.mg_courses.specs.Running.{RunMeans}
use Rattle.mg_pending.specs.declared.pending.Pending.{Pending}
use Rattle.mg_pending.specs.declared.transactions.Transaction.{Transaction}
use Rattle.mg_pending.specs.Standing.{StandAt}

-- From a history on something comes, by a relation between the longer history and the statements that
-- are unfinished then; what is remembered stands there, and no crash loses what was durable.
pub record ComesTo {R P Run : Type 0} (m : Means R P) (runs : RunMeans R Run) (old new : R)
    (o : Opening) (h : Entries) (all : List (Option Transaction)) (ps : List (Pending Run))
    (By : Entries → List Unfinished → Type 0) : Type 0 where
  pub after : Entries
  pub then_ : List Unfinished
  pub does : By after then_
  pub stand : StandAt m runs new o after all ps then_
  pub carries : Carries m old new o h after

-- a statement comes to something, is answered so, and is kept where it goes on later
pub record IsKept (session : Session) (t : TxNo) (others : List Unfinished)
    (By : Entries → Comes → Type 0) (reply : Reply) (after : Entries) (then_ : List Unfinished)
    : Type 0 where
  pub comes : Comes
  pub by_it : By after comes
  pub answered : reply ≡ reply_of comes
  pub kept_so : then_ ≡ kept session t comes others
