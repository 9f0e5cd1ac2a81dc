-- The turn of a line: what it does itself, and the statements that go on at it.
use Rattle.std.specs.Prelude.{◌≡◌, ℕ, ◌+◌, zero, suc, Bool, true, false, List, length, Option, None, Some}
use Rattle.mg_model.specs.declared.opening.Opening.{Opening}
use Rattle.mg_model.specs.History.{Entries}
use Rattle.mg_records.specs.Meaning.{Means}
use Rattle.mg_script.specs.declared.line.LineKind.{LineKind}
use Rattle.mg_script.specs.declared.reply.Reply.{Reply}
use Rattle.mg_transcript.specs.declared.turn.Flow.{Flow}
use Rattle.mg_transcript.specs.declared.turn.Flow.TheVariants.{GoesOn, Stops}
use Rattle.mg_transcript.specs.declared.turn.Spoken.{Spoken}
use Rattle.mg_transcript.specs.Lines.{Acts, IsWhole, last_reply, stops}
use Rattle.mg_transcript.specs.Sessions.{Unfinished}
use Rattle.mg_courses.specs.Running.{RunMeans, refusal_answered}
use Rattle.mg_pending.specs.declared.pending.Pending.{Pending}
use Rattle.mg_pending.specs.declared.transactions.Transaction.{Transaction}
use Rattle.mg_pending.specs.Standing.{StandAt}
use Rattle.mg_pending.specs.Statements.{released_count}
use Rattle.mg_sessions.specs.Accounts.{Accounts}
use Rattle.mg_sessions.specs.Coming.{ComesTo}
use Rattle.mg_turns.specs.declared.turn.TurnEnd.{TurnEnd}
use Rattle.mg_turns.specs.declared.turn.TurnEnd.TheVariants.{Whole, Stopped, NoRoom, InVain}

-- ---- how it ends

-- The turn has come to its end so, or goes on: all is done that comes at the line; the run stops by the answer that
-- came last; memory was short; and no statement that went on waits in vain.
abbrev pub EndsAs : Opening → Option TurnEnd → Reply → List Spoken → Entries → List Unfinished → Type 0
EndsAs o None reply released after then_ = stops (last_reply reply released) ≡ false
EndsAs o (Some Whole) reply released after then_ = IsWhole o after then_ reply released
EndsAs o (Some Stopped) reply released after then_ = stops (last_reply reply released) ≡ true
EndsAs o (Some NoRoom) reply released after then_ = stops (last_reply reply released) ≡ false
EndsAs o (Some InVain) reply released after then_ = ⊥

-- what ends a turn behind an answer
abbrev pub end_behind : Flow → Bool → Option TurnEnd
end_behind (Stops refusal) vain = Some Stopped
end_behind GoesOn true = Some InVain
end_behind GoesOn false = None

-- A line has come to these answers, and the turn has come to this end, or goes on.
pub record Turned (o : Opening) (h : Entries) (size : ℕ) (pending : List Unfinished) (kind : LineKind)
    (reply : Reply) (released : List Spoken) (end : Option TurnEnd) (after : Entries)
    (then_ : List Unfinished) : Type 0 where
  pub acts : Acts o h size pending kind reply released after then_
  pub ends : EndsAs o end reply released after then_

-- ---- statements go on

-- Statements go on behind what came at a line before: whichever line it was, and whatever history the keeper stood
-- for, the line has come to all these answers.
abbrev pub LetsGo : {R P Run : Type 0} → Means R P → RunMeans R Run → R → R → List (Option Transaction)
    → List (Pending Run) → List (Option Transaction) → List (Pending Run) → List Spoken → List Spoken
    → Option TurnEnd → Type 0
LetsGo m runs old new all ps all' ps' before released end = (o : Opening) (h : Entries) (us : List Unfinished)
    → StandAt m runs old o h all ps us → (first : Entries) (size : ℕ) (pending : List Unfinished)
    (kind : LineKind) (reply : Reply) → Acts o first size pending kind reply before h us
    → stops (last_reply reply before) ≡ false
    → ComesTo m runs old new o h all' ps' (Turned o first size pending kind reply released end)

-- whatever history the keeper stood for, a turn that has not stopped by the answer that came last has none by which a
-- run stops
abbrev pub StopsSo : Reply → Option TurnEnd → Type 0
StopsSo last (Some Stopped) = Unit {0}
StopsSo last end = stops last ≡ false

-- Behind answers by which no run stops, what is answered last has its cause in the keeper's counts, since any start.
abbrev pub AccountsOn : {R P : Type 0} → Means R P → R → R → List Spoken → List Spoken → Option TurnEnd → Type 0
AccountsOn {R = R} m old new before released end = (start : R) (reply : Reply) → stops (last_reply reply before) ≡ false
    → Accounts m start old (refusal_answered (last_reply reply before))
    → Accounts m start new (refusal_answered (last_reply reply released)) × StopsSo (last_reply reply released) end

-- ---- how many may go on

abbrev pub sum_to : ℕ → ℕ
sum_to zero = zero
sum_to (suc n) = sum_to n + suc n

-- how often a statement may go on still: each that does is at its end, or waits again
abbrev pub turns_left : {Run : Type 0} → List (Option Transaction) → List (Pending Run) → ℕ
turns_left all ps = sum_to (length ps) + released_count all ps
