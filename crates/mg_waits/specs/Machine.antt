-- What the verdicts and the notes are in a history.
use Rattle.std.specs.Prelude.{◌≡◌, ℕ, [], ◌∷◌, Option, Some, None}
use Rattle.mg_base.specs.declared.transaction.TxState.TheVariants.{Active}
use Rattle.mg_model.specs.declared.answer.Answer.{Answer}
use Rattle.mg_model.specs.declared.answer.Answer.TheVariants.{Fine, No}
use Rattle.mg_model.specs.declared.refusal.Refusal.TheVariants.{UpdateConflict, LockConflict, Waits, Deadlock, InLimbo}
use Rattle.mg_model.specs.declared.opening.Opening.{Opening}
use Rattle.mg_model.specs.History.{Entry, Entries, transaction_of}
use Rattle.mg_model.specs.Machine.{mode_of, state_of, waited_on, last_wait}
use Rattle.mg_model.specs.Answers.{told, waits_on, number, verdict}
use Rattle.mg_model.specs.Legal.{MayBegin, IsLegal}
use Rattle.mg_waits.specs.declared.verdict.Verdict.{Verdict}
use Rattle.mg_waits.specs.declared.verdict.Verdict.TheVariants as verdicts
use Rattle.mg_waits.specs.Waits.{Edges, edges_in, NowWaits, IsVerdict}

-- the answer that a verdict on a transaction is
abbrev pub answer_of : ℕ → Option Verdict → Answer
answer_of by None = Fine
answer_of by (Some verdicts.Update) = No (UpdateConflict (number by))
answer_of by (Some verdicts.Lock) = No (LockConflict (number by))
answer_of by (Some verdicts.Wait) = No (Waits (number by))
answer_of by (Some verdicts.Deadlock) = No (Deadlock (number by))
answer_of by (Some verdicts.Limbo) = No (InLimbo (number by))

-- the waits of a history are noted: all who wait for one that is active, and none but those whose
-- last event was answered so
pub record AreNoted (o : Opening) (h : Entries) (noted : Edges) : Type 0 where
  pub all : (t u : ℕ) → waits_on (told o h) t ≡ Some u → noted t ≡ Some u
  pub none_else : (t u : ℕ) → noted t ≡ Some u → last_wait h t ≡ Some u

-- the verdict by what is noted is the machine's, on any transaction that is in the way of an
-- active one
abbrev pub VerdictsAreTheMachines : Type 0
VerdictsAreTheMachines = (o : Opening) (h : Entries) (noted : Edges) (t by : ℕ)
    (verdict_by_notes : Option Verdict)
    → MayBegin o → IsLegal o h → AreNoted o h noted → state_of o h t ≡ Active
    → IsVerdict noted t by (state_of o h by) (mode_of h t).wait verdict_by_notes
    → answer_of by verdict_by_notes ≡ verdict (told o h) t by

-- what each transaction's last event was answered is noted
abbrev pub NotesLast : Entries → Edges → Type 0
NotesLast h noted = (t : ℕ) → noted t ≡ last_wait h t

-- where nobody waits, the waits of a history without entries are noted; and where it is noted what
-- the last events were answered, the waits are
pub record NobodyWaits : Type 0 where
  pub first : NotesLast [] (edges_in [])
  pub enough : (o : Opening) (h : Entries) (noted : Edges) → NotesLast h noted
      → AreNoted o h noted

-- an event of a transaction: the wait that it was answered is noted, or its wait is over
abbrev pub NotesFollow : Type 0
NotesFollow = (h : Entries) (e : Entry) (t : ℕ) (old new : Edges)
    → transaction_of e.event ≡ Some t → NotesLast h old
    → NowWaits old new t (waited_on e.answer) → NotesLast (e ∷ h) new

-- a transaction that begins waits for nobody yet
abbrev pub OthersNote : Type 0
OthersNote = (h : Entries) (e : Entry) (noted : Edges) → transaction_of e.event ≡ None
    → NotesLast h noted → NotesLast (e ∷ h) noted
