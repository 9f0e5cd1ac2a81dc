-- No line, no rolling back at the end and no closing says of a disk on which a history can begin that it holds no
-- database, or that a page is damaged.
use Rattle.std.proofs.Common.{◌≡◌, inl, inr, ℕ, Bool, true, false, not, ◌&&◌, List, [], ◌∷◌, Some, refl, sym, subst, if◌then◌else◌, arith}
use Rattle.std.proofs.lemmas.Bool.{and_parts}
use Rattle.mg_base.specs.Disk.{Meaning, Rose}
use Rattle.mg_base.specs.declared.damage.Field.{Field}
use Rattle.mg_base.specs.declared.numbers.TxNo.{TxNo}
use Rattle.mg_base.specs.declared.transaction.TxState.{TxState}
use Rattle.mg_base.specs.declared.transaction.TxState.TheVariants.{Active, Committed, Dead, Limbo}
use Rattle.mg_calls.specs.Frames.{Blames}
use Rattle.mg_core.specs.declared.parts.Core.{Core}
use Rattle.mg_engine_meaning_laws.specs.Openings.{IsNoJudgement}
use Rattle.mg_engine_meaning_laws.specs.Meaning.{Places, means_with_room}
use Rattle.mg_faults.specs.Faults.{tells_failed_write, tells_fault}
use Rattle.mg_model.specs.declared.answer.Answer.TheVariants as answers
use Rattle.mg_model.specs.declared.event.Event.TheVariants as events
use Rattle.mg_model.specs.declared.opening.Opening.{Opening}
use Rattle.mg_model.specs.declared.refusal.Refusal.{Refusal}
use Rattle.mg_model.specs.declared.refusal.Refusal.TheVariants as refusals
use Rattle.mg_model.specs.Answers.{if_active}
use Rattle.mg_model.specs.History.{Entries, entry}
use Rattle.mg_model.specs.Legal.{IsLawful}
use Rattle.mg_model.specs.Machine.{state_of}
use Rattle.mg_rows.specs.declared.statement_fault.StatementFault.TheVariants.{Engine}
use Rattle.mg_script.specs.declared.reply.Reply.{Reply}
use Rattle.mg_script.specs.declared.reply.Reply.TheVariants as replies
use Rattle.mg_script_ends.specs.Ends.{last_of, told_first}
use Rattle.mg_scripts.specs.declared.lines.LinesEnd.{LinesEnd}
use Rattle.mg_scripts.specs.declared.lines.LinesEnd.TheVariants as lines_ends
use Rattle.mg_scripts.specs.Ending.{EndsSo, reason_at}
use Rattle.mg_scripts.specs.Runs.{AreRun}
use Rattle.mg_sessions.specs.Accounts.{Accounts}
use Rattle.mg_transcript.specs.declared.turn.Flow.TheVariants.{GoesOn, Stops}
use Rattle.mg_transcript.specs.Lines.{last_reply}
use Rattle.mg_transcript.specs.Scripts.{AreRolledBack, Obeyed, all_are, has_none, is_refused, is_rolled_back, is_stopped, sessions}
use Rattle.mg_transcript.specs.Sessions.{Unfinished}
use Rattle.mg_transcript.specs.Shorthand.{stops_run}
use Rattle.mg_transcript.specs.Transcript.{flow}
use Rattle.mg_run_ends.specs.declared.ending.RunEnd.{RunEnd}
use Rattle.mg_run_ends.specs.declared.ending.RunEnd.TheVariants.{InLine, Outside, ScriptTooLong, Stream, Whole}
use Rattle.mg_run_ends.specs.Ends.{IsOutside}
use Rattle.mg_runs.specs.Headline.{EndsBehind, EndsWhole, IsClosingRefusal, IsUnjudged}

-- ---- refusals

-- a count that was 0 and stands has not risen
not_risen : (a b : ℕ) → a ≡ 0 → b ≡ a → Rose a b → ⊥
not_risen a b none same (inl more) = omega (arith, same, more)
not_risen a b none same (inr most) = omega (arith, none, same, most)

-- a fault of the disk is no judgement
fault_fair : (refusal : Refusal) → tells_fault (Some refusal) ≡ true → IsNoJudgement refusal
fault_fair (refusals.NotADatabase field found) tells = absurd cc
fault_fair (refusals.Damaged page field found wanted) tells = absurd cc
fault_fair refusal tells = tt

closing_fair : (refusal : Refusal) → IsClosingRefusal refusal → IsNoJudgement refusal
closing_fair (refusals.NotADatabase field found) closes = absurd closes
closing_fair (refusals.Damaged page field found wanted) closes = absurd closes
closing_fair refusal closes = tt

-- the machine never answers so to a rolling back
not_answered : (s : TxState) (field : Field) (found : ℕ) → answers.No (refusals.NotADatabase field found) ≡ if_active s answers.Fine → ⊥
not_answered Active field found is = absurd cc
not_answered Limbo field found is = absurd cc
not_answered Dead field found is = absurd cc
not_answered Committed field found is = absurd cc

-- a run stops by a refusal of the engine alone
pub stops_so : (reply : Reply) (refusal : Refusal) → flow reply ≡ Stops refusal → stops_run refusal ≡ true
stops_so (replies.No (Engine given)) refusal is = at (stops_run given) refl is
  where
    at : (b : Bool) → stops_run given ≡ b → (if b then Stops given else GoesOn) ≡ Stops refusal
        → stops_run refusal ≡ true
    at true stops is_ = let same : given ≡ refusal = cc in subst (λ (r : Refusal). stops_run r ≡ true) same stops
    at false stops is_ = absurd cc
stops_so reply refusal is = absurd cc

-- ---- ends

pub outside_unjudged : (refusal : Refusal) (end : RunEnd) → IsNoJudgement refusal → IsOutside refusal end → IsUnjudged end
outside_unjudged refusal end fair (inl is) = subst IsUnjudged (sym is) fair
outside_unjudged refusal end fair (inr (other, is)) = subst IsUnjudged (sym is) tt

whole_unjudged : (fine : Bool) (end : RunEnd) → EndsWhole [] fine end → IsUnjudged end
whole_unjudged fine (Whole all) ends = tt
whole_unjudged fine (Outside refusal) ends = closing_fair refusal ends
whole_unjudged fine (InLine refusal) ends = absurd ends
whole_unjudged fine Stream ends = tt
whole_unjudged fine ScriptTooLong ends = tt

-- ---- where no page was found damaged

module _ {D P : Type 0} (m : Meaning D) (places : Places P) (core now : Core D) (none : core.damage ≡ 0)
    (same : now.damage ≡ core.damage) where
  -- the refusal by which a line stops the run
  line_fair : (refusal : Refusal) → stops_run refusal ≡ true → Blames (means_with_room m places) core now (Some refusal)
      → IsNoJudgement refusal
  line_fair (refusals.NotADatabase field found) stops cause = absurd cc
  line_fair (refusals.Damaged page field found wanted) stops cause =
      absurd (not_risen core.damage now.damage none same cause)
  line_fair refusal stops cause = tt

  -- the refusal of a rolling back
  back_fair : (o : Opening) (h : Entries) (t : TxNo) (refusal : Refusal)
      → IsLawful o h (entry (events.Rollback t) (answers.No refusal))
      → Blames (means_with_room m places) core now (Some refusal) → IsNoJudgement refusal
  back_fair o h t (refusals.NotADatabase field found) (inl is) cause = absurd (not_answered (state_of o h t.0) field found is)
  back_fair o h t (refusals.NotADatabase field found) (inr outer) cause = absurd cc
  back_fair o h t (refusals.Damaged page field found wanted) lawful cause =
      absurd (not_risen core.damage now.damage none same cause)
  back_fair o h t refusal lawful cause = tt

  -- the first of some refusals, if it is the one that is told
  abbrev FirstIsFair : List Refusal → Type 0
  FirstIsFair [] = Unit {0}
  FirstIsFair (first ∷ more) = Blames (means_with_room m places) core now (Some first) → IsNoJudgement first

  first_fair : (o : Opening) (h after : Entries) (these : List ℕ) (given : List Refusal)
      → AreRolledBack o h these after given → FirstIsFair given
  first_fair o h after these given all_are = tt
  first_fair o h after these given (has_none {more = rest} without more) = first_fair o h after rest given more
  first_fair o h after these given (is_rolled_back {more = rest} t its lawful more) =
      first_fair o (entry (events.Rollback t) answers.Fine ∷ h) after rest given more
  first_fair o h after these given (is_refused t refusal its lawful goes more) = λ cause.
      back_fair o h t refusal lawful cause
  first_fair o h after these given (is_stopped t refusal its lawful stops) = λ cause.
      back_fair o h t refusal lawful cause

  told_fair : (first : Refusal) (more : List Refusal) → FirstIsFair (first ∷ more)
      → Blames (means_with_room m places) core now (Some (told_first first more)) → IsNoJudgement (told_first first more)
  told_fair first more fair cause =
      at (tells_fault (Some (last_of first more)) && not (tells_failed_write (Some first))) refl cause
    where
      at : (b : Bool) → (tells_fault (Some (last_of first more)) && not (tells_failed_write (Some first))) ≡ b
          → Blames (means_with_room m places) core now (Some (if b then last_of first more else first))
          → IsNoJudgement (if b then last_of first more else first)
      at true tells cause_ = fault_fair (last_of first more) (and_parts _ _ tells).0
      at false tells cause_ = fair cause_

  -- however the lines came to their end
  pub unjudged : (o : Opening) (size : ℕ) (fine : Bool) (turns : List Obeyed) (obeyed_to entries : Entries)
      (us : List Unfinished) (lines_end : LinesEnd) (given : List Refusal) (end : RunEnd)
      → AreRun o size lines_end turns obeyed_to us → EndsSo o lines_end obeyed_to entries given
      → Accounts (means_with_room m places) core now (reason_at lines_end given) → EndsBehind lines_end given fine end
      → IsUnjudged end
  unjudged o size fine turns obeyed_to entries us lines_ends.Whole [] end run ended accounts ends =
      whole_unjudged fine end ends
  unjudged o size fine turns obeyed_to entries us lines_ends.Whole (first ∷ more) end run ended accounts ends =
      outside_unjudged (told_first first more) end
      (told_fair first more (first_fair o obeyed_to entries sessions (first ∷ more) ended) accounts.cause) ends
  unjudged o size fine turns obeyed_to entries us (lines_ends.Stopped refusal) given end run ended accounts ends =
      subst IsUnjudged (sym ends) (line_fair refusal (stops_so (last_reply run.1.last.reply run.1.last.released)
      refusal run.1.stops) accounts.cause)
  unjudged o size fine turns obeyed_to entries us lines_ends.NoMemory given end run ended accounts ends =
      subst IsUnjudged (sym ends) tt
  unjudged o size fine turns obeyed_to entries us lines_ends.SinkFailed given end run ended accounts ends =
      subst IsUnjudged (sym ends) tt
