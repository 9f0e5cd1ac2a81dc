-- The history of a script: its lines one after another, and its end.
use Rattle.std.specs.Prelude.{◌≡◌, ℕ, true, false, List, [], ◌∷◌, ◌++◌, Some, None}
use Rattle.mg_base.specs.declared.numbers.TxNo.{TxNo}
use Rattle.mg_model.specs.declared.answer.Answer.TheVariants as answers
use Rattle.mg_model.specs.declared.event.Event.TheVariants as events
use Rattle.mg_model.specs.declared.opening.Opening.{Opening}
use Rattle.mg_model.specs.declared.refusal.Refusal.{Refusal}
use Rattle.mg_model.specs.History.{Entries, entry}
use Rattle.mg_model.specs.Legal.{IsLawful}
use Rattle.mg_script.specs.declared.line.Line.{Line}
use Rattle.mg_script.specs.declared.reply.Reply.{Reply}
use Rattle.mg_transcript.specs.declared.turn.Spoken.{Spoken}
use Rattle.mg_transcript.specs.Sessions.{Unfinished, transaction_of}
use Rattle.mg_transcript.specs.Shorthand.{stops_run}
use Rattle.mg_transcript.specs.Lines.{Acts, IsWhole}

-- A line of a script, with what was answered at it, and the history once it was obeyed: the entries
-- that came with it are those in front of the history before it.
pub record Obeyed : Type 0 where
  pub line : Line
  pub reply : Reply
  pub released : List Spoken
  pub after : Entries

abbrev pub obeyed : Line → Reply → List Spoken → Entries → Obeyed
obeyed line reply released after =
    record { line = line; reply = reply; released = released; after = after }

-- Lines are obeyed one after another, each to its end, from the opening on.
pub data AreObeyed (o : Opening) (size : ℕ) : List Obeyed → Entries → List Unfinished → Type 0 where
  no_line : AreObeyed o size [] [] []
  one_line : (turns : List Obeyed) (h after : Entries) (pending then_ : List Unfinished) (line : Line)
      (reply : Reply) (released : List Spoken) → AreObeyed o size turns h pending
      → Acts o h size pending line.kind reply released after then_
      → IsWhole o after then_ reply released
      → AreObeyed o size (turns ++ obeyed line reply released after ∷ []) after then_

-- Lines are obeyed, and at the last of them the run is cut short: behind some answer nothing comes.
pub data AreCutShort (o : Opening) (size : ℕ) : List Obeyed → Entries → List Unfinished → Type 0 where
  at_line : (turns : List Obeyed) (h after : Entries) (pending then_ : List Unfinished) (line : Line)
      (reply : Reply) (released : List Spoken) → AreObeyed o size turns h pending
      → Acts o h size pending line.kind reply released after then_
      → AreCutShort o size (turns ++ obeyed line reply released after ∷ []) after then_

-- ---- the end of a script

-- the sessions, A to P, and that of the shorthand lines
abbrev pub sessions : List ℕ
sessions = 0 ∷ 1 ∷ 2 ∷ 3 ∷ 4 ∷ 5 ∷ 6 ∷ 7 ∷ 8 ∷ 9 ∷ 10 ∷ 11 ∷ 12 ∷ 13 ∷ 14 ∷ 15 ∷ 16 ∷ []

-- The transactions of these sessions are rolled back, in their order; statements that wait for them
-- do not go on. These refusals come, and behind one by which the run stops nothing.
pub data AreRolledBack (o : Opening) : Entries → List ℕ → Entries → List Refusal → Type 0 where
  all_are : {h : Entries} → AreRolledBack o h [] h []
  has_none : {h after : Entries} {s : ℕ} {more : List ℕ} {refusals : List Refusal}
      → transaction_of o h s ≡ None → AreRolledBack o h more after refusals
      → AreRolledBack o h (s ∷ more) after refusals
  is_rolled_back : {h after : Entries} {s : ℕ} {more : List ℕ} {refusals : List Refusal} (t : TxNo)
      → transaction_of o h s ≡ Some t → IsLawful o h (entry (events.Rollback t) answers.Fine)
      → AreRolledBack o (entry (events.Rollback t) answers.Fine ∷ h) more after refusals
      → AreRolledBack o h (s ∷ more) after refusals
  is_refused : {h after : Entries} {s : ℕ} {more : List ℕ} {refusals : List Refusal} (t : TxNo)
      (refusal : Refusal) → transaction_of o h s ≡ Some t
      → IsLawful o h (entry (events.Rollback t) (answers.No refusal)) → stops_run refusal ≡ false
      → AreRolledBack o (entry (events.Rollback t) (answers.No refusal) ∷ h) more after refusals
      → AreRolledBack o h (s ∷ more) after (refusal ∷ refusals)
  is_stopped : {h : Entries} {s : ℕ} {more : List ℕ} (t : TxNo) (refusal : Refusal)
      → transaction_of o h s ≡ Some t → IsLawful o h (entry (events.Rollback t) (answers.No refusal))
      → stops_run refusal ≡ true
      → AreRolledBack o h (s ∷ more) (entry (events.Rollback t) (answers.No refusal) ∷ h) (refusal ∷ [])
