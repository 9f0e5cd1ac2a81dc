-- The record that a reading visited last is collected, which is nobody's event.
use Rattle.std.proofs.Common.{◌≡◌, ◌⊎◌, ◌∙◌, ◌+◌, ◌*◌, inl, inr, ℕ, Bool, true, Some, None, Result, Ok, Err, ap, refl, sym, subst, length}
use Rattle.mg_base.specs.declared.numbers.TxNo.{TxNo}
use Rattle.mg_statements.specs.Plain.{Plain}
use Rattle.mg_model.specs.declared.answer.Answer.TheVariants.{No}
use Rattle.mg_model.specs.declared.opening.Opening.{Opening}
use Rattle.mg_model.specs.declared.refusal.Refusal.{Refusal}
use Rattle.mg_model.specs.declared.table.Table.{Table}
use Rattle.mg_model.specs.History.{Entries}
use Rattle.mg_model.specs.Legal.{is_outer}
use Rattle.mg_records.specs.Asking.{TakesNoPage}
use Rattle.mg_records.specs.Meaning.{Means}
use Rattle.mg_tending.specs.Collecting.{AreAsFar, Collecting, Collects}
use Rattle.mg_exec.specs.declared.phase.Phase.{Phase}
use Rattle.mg_exec.specs.declared.phase.Phase.TheVariants as phases
use Rattle.mg_exec.specs.declared.run.Run.{Run as RunOf}
use Rattle.mg_exec.specs.Phases.{IsReady}
use Rattle.mg_exec.specs.Progress.{still_at}
use Rattle.mg_exec.specs.Running.{place_at, table_at}
use Rattle.mg_exec_course_laws.specs.Courses.{IsCourse}
use Rattle.mg_transcript.specs.Courses.{Course}
use Rattle.mg_courses.specs.AnyRuns.{any_runs}
use Rattle.mg_courses.specs.Aside.{IsBegun, StopsSo, VisitedIsCollected}
use Rattle.mg_courses.specs.OutsideLaws.{outer_unpaged}

-- ---- what a reading has visited

module _ {R P : Type 0} (m : Means R P) (r : R) (t : TxNo) where
  -- its table was given to its transaction
  pub visited_table : (phase : Phase P) (table : Table) (place : P) → IsReady m r t.0 phase
      → table_at phase ≡ Some table → place_at phase ≡ Some place → m.table r t.0 table.name ≡ Some table
  visited_table (phases.Reading reading) table place ready its at =
      subst (λ (x : Table). m.table r t.0 x.name ≡ Some x) (one reading.walk.table its) ready.way.table
    where
      one : (x : Table) → Some x ≡ Some table → x ≡ table
      one x is = cc
  visited_table (phases.Saving name) table place ready its at = absurd cc
  visited_table (phases.Returning name) table place ready its at = absurd cc
  visited_table (phases.Inserting i) table place ready its at = absurd cc
  visited_table (phases.Changing c) table place ready its at = absurd cc
  visited_table (phases.Creating making) table place ready its at = absurd cc
  visited_table (phases.Retrying making) table place ready its at = absurd cc
  visited_table phases.Ended table place ready its at = absurd cc
  visited_table phases.RolledBack table place ready its at = absurd cc

  -- wherever it stands it has only begun
  pub visited_begun : (s : Plain) (phase : Phase P) (course : Course) (place : P) → place_at phase ≡ Some place
      → IsCourse t s phase course → IsBegun course
  visited_begun s (phases.Reading reading) course place at left = subst IsBegun (sym left.2.1) tt
  visited_begun s (phases.Saving name) course place at left = absurd cc
  visited_begun s (phases.Returning name) course place at left = absurd cc
  visited_begun s (phases.Inserting i) course place at left = absurd cc
  visited_begun s (phases.Changing c) course place at left = absurd cc
  visited_begun s (phases.Creating making) course place at left = absurd cc
  visited_begun s (phases.Retrying making) course place at left = absurd cc
  visited_begun s phases.Ended course place at left = absurd cc
  visited_begun s phases.RolledBack course place at left = absurd cc

-- a refusal ends it as that of a visit
pub stops_visited : {R P : Type 0} (m : Means R P) (r : R) (t : TxNo) (run : RunOf R P) (place : P) (refusal : Refusal)
    → place_at run.phase ≡ Some place → is_outer (No refusal) ≡ true
    → ((o : Opening) (h : Entries) → m.stands r o h → TakesNoPage (Some refusal))
    → StopsSo m (any_runs m) r t run (Err refusal)
stops_visited m r t run place refusal at outer unpaged o h stands = record {
  outside = outer_unpaged refusal outer (unpaged o h stands);
  begun = λ course left. visited_begun m r t left.statement run.phase course place at left.left;
}

-- the statement is as far from its end
pub still_there : {R P : Type 0} (m : Means R P) (old new : R) (t : TxNo) (phase : Phase P) → AreAsFar m old new
    → still_at m new t.0 phase ≡ still_at m old t.0 phase
still_there m old new t (phases.Reading reading) far = ap (λ (n : ℕ). 2 * n + length reading.kept.items + 2)
    (far t.0 reading.walk.table reading.walk.place)
still_there m old new t (phases.Saving name) far = refl
still_there m old new t (phases.Returning name) far = refl
still_there m old new t (phases.Inserting i) far = refl
still_there m old new t (phases.Changing c) far = refl
still_there m old new t (phases.Creating making) far = refl
still_there m old new t (phases.Retrying making) far = refl
still_there m old new t phases.Ended far = refl
still_there m old new t phases.RolledBack far = refl

-- where no place was visited nothing is to be collected
pub none_visited : {R P : Type 0} (m : Means R P) (c : Collecting R P) (old new : R) (run : RunOf R P)
    → (table_at run.phase ≡ None) ⊎ (place_at run.phase ≡ None) → VisitedIsCollected m c old new run
none_visited m c old new run (inl none) table place its at = absurd (let both : None ≡ Some table = sym none ∙ its in cc)
none_visited m c old new run (inr none) table place its at = absurd (let both : None ≡ Some place = sym none ∙ at in cc)

-- the one place that was visited is
pub one_visited : {R P : Type 0} (m : Means R P) (c : Collecting R P) (old new : R) (run : RunOf R P) (table : Table)
    (place : P) (gone : Bool) → table_at run.phase ≡ Some table → place_at run.phase ≡ Some place
    → Collects m c old new table place gone → VisitedIsCollected m c old new run
one_visited {P = P} m c old new run table place gone its at collects other elsewhere its_other at_other = (
  gone,
  subst (λ (x : Table). Collects m c old new x elsewhere gone) (one table other (sym its ∙ its_other))
      (subst (λ (p : P). Collects m c old new table p gone) (one place elsewhere (sym at ∙ at_other)) collects),
)
  where
    one : {X : Type 0} (a b : X) → Some a ≡ Some b → a ≡ b
    one a b is = cc
