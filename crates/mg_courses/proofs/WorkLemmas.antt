-- States of a transaction, and refusals of a page write.
use Rattle.std.proofs.Common.{◌≡◌, ℕ, ◌==◌, not, Bool, true, false, Result, Ok, Err, refl}
use Rattle.std.specs.Prelude.{IfErr, if◌then◌else◌}
use Rattle.std.proofs.lemmas.Bool.{eq-eqb}
use Rattle.mg_base.specs.declared.numbers.TxNo.{TxNo}
use Rattle.mg_base.specs.declared.transaction.TxState.{TxState}
use Rattle.mg_base.specs.declared.transaction.TxState.TheVariants.{Active, Limbo, Dead, Committed}
use Rattle.mg_model.specs.declared.answer.Answer.TheVariants.{No}
use Rattle.mg_model.specs.declared.opening.Opening.{Opening}
use Rattle.mg_model.specs.declared.refusal.Refusal.{Refusal}
use Rattle.mg_model.specs.Answers.{is_active}
use Rattle.mg_model.specs.History.{Entries}
use Rattle.mg_model.specs.Legal.{is_outer}
use Rattle.mg_records.specs.Asking.{TakesNothing}
use Rattle.mg_records.specs.Keeping.{refusal_in}
use Rattle.mg_transcript.specs.Courses.{Course, Committing}
use Rattle.mg_transcript.specs.OutsideLaws.{outer_outside}
use Rattle.mg_transcript.specs.Steps.{is_outside}
use Rattle.mg_courses.specs.declared.work.Work.{Work}
use Rattle.mg_courses.specs.declared.work.Work.TheVariants as works
use Rattle.mg_courses.specs.Running.{RunMeans}
use Rattle.mg_courses.specs.Working.{IsWorkAt}

pub active_from : (s : TxState) → is_active s ≡ true → s ≡ Active
active_from Active is = refl
active_from Limbo is = absurd cc
active_from Dead is = absurd cc
active_from Committed is = absurd cc

pub still_active : (s : TxState) (over : Bool) → s ≡ Active → over ≡ false → is_active s ≡ not over
still_active s over active goes_on = rw (active, goes_on) refl

-- a transaction that came to an end is over
pub ended_over : (t : ℕ) (old end : TxState) (over : Bool) → is_active end ≡ false → over ≡ true
    → is_active (if t == t then end else old) ≡ not over
ended_over t old end over closed is = rw (eq-eqb t t refl, is) closed

-- a page write is refused from outside, and takes no page
pub written_outside : (result : Result Bool Refusal) → IfErr result (λ refusal. is_outer (No refusal) ≡ true)
    → TakesNothing (refusal_in result) → IfErr result (λ refusal. is_outside refusal ≡ true)
written_outside (Ok x) outer nothing = tt
written_outside (Err refusal) outer nothing = outer_outside refusal outer nothing

pub commit_course : {R Run : Type 0} (runs : RunMeans R Run) (r : R) (o : Opening) (h : Entries)
    (t : TxNo) (work : Work Run) (course : Course) (written : Bool)
    → work ≡ works.Commit written → IsWorkAt runs r o h t work course
    → course ≡ Committing written
commit_course runs r o h t (works.Statement run) course written is at = absurd cc
commit_course runs r o h t (works.Commit w) course written is at = cc (is, at)
