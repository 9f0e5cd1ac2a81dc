-- The end of a script: what each session has begun is rolled back.
use Rattle.std.specs.Prelude.{◌≡◌, ◌+◌, ℕ, zero, suc, Bool, true, false, List, [], ◌∷◌, ◌++◌, Option, None, Some}
use Rattle.mg_base.specs.declared.numbers.TxNo.{TxNo}
use Rattle.mg_calls.specs.Frames.{Blames}
use Rattle.mg_faults.specs.Faults.{worse}
use Rattle.mg_model.specs.declared.answer.Answer.TheVariants as answers
use Rattle.mg_model.specs.declared.event.Event.TheVariants as events
use Rattle.mg_model.specs.declared.opening.Opening.{Opening}
use Rattle.mg_model.specs.declared.refusal.Refusal.{Refusal}
use Rattle.mg_model.specs.History.{Entries, entry}
use Rattle.mg_model.specs.Legal.{IsLawful}
use Rattle.mg_records.specs.Meaning.{Means}
use Rattle.mg_transcript.specs.Scripts.{AreRolledBack}
use Rattle.mg_transcript.specs.Sessions.{transaction_of}
use Rattle.mg_courses.specs.Carrying.{Carries}
use Rattle.mg_courses.specs.Running.{RunMeans}
use Rattle.mg_pending.specs.declared.transactions.Transaction.{Transaction}
use Rattle.mg_pending.specs.Standing.{StandAt}

-- The transaction of a session is rolled back, or that is refused; or it has none.
pub data EndsSession (o : Opening) (h : Entries) (s : ℕ) : Entries → Option Refusal → Type 0 where
  has_no : transaction_of o h s ≡ None → EndsSession o h s h None
  is_back : (t : TxNo) → transaction_of o h s ≡ Some t
      → IsLawful o h (entry (events.Rollback t) answers.Fine)
      → EndsSession o h s (entry (events.Rollback t) answers.Fine ∷ h) None
  is_not : (t : TxNo) (refusal : Refusal) → transaction_of o h s ≡ Some t
      → IsLawful o h (entry (events.Rollback t) (answers.No refusal))
      → EndsSession o h s (entry (events.Rollback t) (answers.No refusal) ∷ h) (Some refusal)

-- From a history on something has come, by a relation to the longer history, for which the keeper stands with these
-- live transactions; no crash loses what was durable. No statement goes on any more.
pub record EndsWith {R P Run : Type 0} (m : Means R P) (runs : RunMeans R Run) (old new : R) (o : Opening)
    (h : Entries) (all : List (Option Transaction)) (By : Entries → Type 0) : Type 0 where
  pub after : Entries
  pub does : By after
  pub stand : StandAt m runs new o after all [] []
  pub carries : Carries m old new o h after

-- so many numbers, one after another
abbrev pub count_from : ℕ → ℕ → List ℕ
count_from n zero = []
count_from n (suc k) = n ∷ count_from (n + 1) k

-- what the rest of the sessions comes to, behind these refusals, all come to
abbrev pub RestComes : Opening → Entries → Entries → List ℕ → List ℕ → List Refusal → Type 0
RestComes o h mid whole rest before = (after : Entries) (more : List Refusal)
    → AreRolledBack o mid rest after more → AreRolledBack o h whole after (before ++ more)

-- What has come of the sessions so far: the keeper stands with the transactions that are left, and whatever the rest
-- comes to, all come to.
abbrev pub EndsSoFar : {R P Run : Type 0} → Means R P → RunMeans R Run → R → R → List (Option Transaction)
    → List (Option Transaction) → List ℕ → List ℕ → List Refusal → Type 0
EndsSoFar m runs old new all all' whole rest before = (o : Opening) (h : Entries) → StandAt m runs old o h all [] []
    → EndsWith m runs old new o h all' (λ mid. RestComes o h mid whole rest before)

-- the run stops by the last refusal, or the rest of the sessions is to come
abbrev pub StopsOrGoes : {R P Run : Type 0} → Means R P → RunMeans R Run → R → R → List (Option Transaction)
    → List (Option Transaction) → List ℕ → List ℕ → List Refusal → Bool → Type 0
StopsOrGoes m runs old new all all' whole rest refusals true = (o : Opening) (h : Entries)
    → StandAt m runs old o h all [] []
    → EndsWith m runs old new o h all' (λ after. AreRolledBack o h whole after refusals)
StopsOrGoes m runs old new all all' whole rest refusals false =
    EndsSoFar m runs old new all all' whole rest refusals

-- each of these refusals has its cause in these calls
abbrev pub AreCaused : {R P : Type 0} → Means R P → R → R → List Refusal → Type 0
AreCaused m old new [] = Unit {0}
AreCaused m old new (refusal ∷ more) = Blames m old new (Some refusal) × AreCaused m old new more

-- the last of some refusals
abbrev pub last_of : Refusal → List Refusal → Refusal
last_of first [] = first
last_of first (next ∷ more) = last_of next more

-- the refusal that is told of a script's end: a fault of the disk, behind which nothing comes, or else the first
abbrev pub told_first : Refusal → List Refusal → Refusal
told_first first more = worse (last_of first more) first

abbrev pub told_of : List Refusal → Option Refusal
told_of [] = None
told_of (first ∷ more) = Some (told_first first more)
