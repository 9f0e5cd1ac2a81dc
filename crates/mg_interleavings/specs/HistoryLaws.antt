-- A history of sessions that obey their scripts at once is legal.
use Rattle.std.specs.Prelude.{◌≡◌, ◌&&◌, ℕ, Bool, true, false, ◌∷◌, cond, refl}
use Rattle.std.proofs.Common.{inl}
use Rattle.mg_base.specs.declared.numbers.TxNo.{TxNo}
use Rattle.mg_base.specs.declared.transaction.TxState.{TxState}
use Rattle.mg_base.specs.declared.transaction.TxState.TheVariants.{Active, Limbo, Dead, Committed}
use Rattle.mg_model.specs.declared.answer.Answer.TheVariants as answers
use Rattle.mg_model.specs.declared.event.Event.{Event}
use Rattle.mg_model.specs.declared.event.Event.TheVariants as events
use Rattle.mg_model.specs.declared.opening.Opening.{Opening}
use Rattle.mg_model.specs.declared.refusal.Refusal.{Refusal}
use Rattle.mg_model.specs.Answers.{is_active, if_active}
use Rattle.mg_model.specs.History.{Entries, entry}
use Rattle.mg_model.specs.Legal.{IsLawful, IsLegal}
use Rattle.mg_model.specs.Machine.{state_of}
use Rattle.mg_records.specs.TakingBack.{after_refusal, is_given_up}
use Rattle.mg_transcript.specs.Courses.{Course, Comes, Later, Parks, Ends}
use Rattle.mg_transcript.specs.LegalLaws.{starts_legal, takes_legal}
use Rattle.mg_transcript.specs.Steps.{Steps, Takes, enough_now, waits_then, ends_then, step_more}
use Rattle.mg_interleavings.specs.declared.answered.Answered.{Answered}
use Rattle.mg_interleavings.specs.Standings.{Scripts, Standing}
use Rattle.mg_interleavings.specs.Interleavings.{Interleaves, TimesOut, begins, begins_one, declines, given_up, goes_on, passes, starts, steps, taken_back, times_out, tries_again}

-- a step as one of at most one step
pub one_of : {o : Opening} {t : TxNo} {h : Entries} (comes : Comes) → Takes o t 0 h comes h comes
one_of (Later course) = enough_now course
one_of (Parks on course) = waits_then on course
one_of (Ends reply) = ends_then reply

step_legal : {o : Opening} {h after : Entries} {t : TxNo} {course : Course} {comes : Comes}
    → Steps o h t course after comes → IsLegal o h → IsLegal o after
step_legal {comes = comes} step legal = takes_legal (step_more step (one_of comes)) legal

still_active : (s : TxState) → is_active s ≡ true → answers.Fine ≡ if_active s answers.Fine
still_active Active is = refl
still_active Limbo is = absurd cc
still_active Dead is = absurd cc
still_active Committed is = absurd cc

both : (a b : Bool) → (a && b) ≡ true → b ≡ true
both true true is = refl
both true false is = absurd cc
both false b is = absurd cc

-- a taking back that was refused
refusal_legal : (o : Opening) (h : Entries) (t : TxNo) (event : Event) (refusal : Refusal)
    → IsLawful o h (entry event (answers.No refusal)) → IsLegal o h
    → IsLegal o (after_refusal o h t event refusal)
refusal_legal o h t event refusal lawful legal =
    at (is_given_up refusal && is_active (state_of o h t.0)) refl
  where
    at : (b : Bool) → (is_given_up refusal && is_active (state_of o h t.0)) ≡ b
        → IsLegal o (cond b
        (entry (events.Rollback t) answers.Fine ∷ entry event (answers.No refusal) ∷ h)
        (entry event (answers.No refusal) ∷ h))
    at true is = (
      inl (still_active (state_of o h t.0)
          (both (is_given_up refusal) (is_active (state_of o h t.0)) is)),
      (lawful, legal),
    )
    at false is = (lawful, legal)

out_legal : {o : Opening} {h after : Entries} {t on : TxNo} {answer : Answered}
    → TimesOut o h t on after answer → IsLegal o h → IsLegal o after
out_legal (taken_back lawful) legal = (lawful, legal)
out_legal {o = o} {h = h} {t = t} (given_up later lawful) legal =
    refusal_legal o h t (events.UndoMark t) later lawful legal

-- it is legal
abbrev pub InterleavingsAreLegal : Type 0
InterleavingsAreLegal = (o : Opening) (size : ℕ) (scripts : Scripts) (standing : Standing) (h : Entries)
    → Interleaves o size scripts standing h → IsLegal o h

pub interleaved_legal : {o : Opening} {size : ℕ} {scripts : Scripts} {standing : Standing} {h : Entries}
    → Interleaves o size scripts standing h → IsLegal o h
interleaved_legal begins = tt
interleaved_legal (passes standing h session all flows at free) = interleaved_legal all
interleaved_legal (declines standing h session text fault all flows at free why) = interleaved_legal all
interleaved_legal (begins_one standing h session text read_only wait snapshot answer all flows at free parses none lawful) =
    (lawful, interleaved_legal all)
interleaved_legal (starts standing h after session text t s comes all flows at its start) =
    starts_legal start (interleaved_legal all)
interleaved_legal (steps standing h after u others comes all flows among free step) = step_legal step (interleaved_legal all)
interleaved_legal (goes_on standing h after u others comes all flows among over step) =
    step_legal step (interleaved_legal all)
interleaved_legal (tries_again standing h after u others on comes all flows among waits live step other) =
    step_legal step (interleaved_legal all)
interleaved_legal (times_out standing h mid after u others on comes answer all flows among waits live step same out) =
    out_legal out (step_legal step (interleaved_legal all))
