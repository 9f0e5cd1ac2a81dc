-- What is told of a script's end, where one refusal more comes.
use Rattle.std.specs.Prelude.{◌≡◌, Bool, true, false, not, ◌&&◌, List, [], ◌∷◌, ◌++◌, Option, None, Some, if◌then◌else◌}
use Rattle.std.proofs.Common.{refl, sym, ap, ◌∙◌, subst}
use Rattle.std.proofs.lemmas.Bool.{and_parts, false≢true}
use Rattle.mg_faults.specs.FaultLaws.{none_told}
use Rattle.mg_faults.specs.Faults.{failed_writes, tells_failed_write, tells_fault, worse}
use Rattle.mg_model.specs.declared.refusal.Refusal.{Refusal}
use Rattle.mg_records.specs.Meaning.{Means}
use Rattle.mg_transcript.specs.Shorthand.{stops_run}
use Rattle.mg_courses.specs.StopLaws.{run_goes_on}
use Rattle.mg_sessions.specs.AccountLaws.{account_after, account_first, account_then}
use Rattle.mg_sessions.specs.Accounts.{Accounts}
use Rattle.mg_script_ends.specs.Ends.{last_of, told_of}

last_is : (first : Refusal) (more : List Refusal) (last : Refusal) → last_of first (more ++ last ∷ []) ≡ last
last_is first [] last = refl
last_is first (next ∷ more) last = last_is next more last

-- where no fault is told, it is the first that is
quiet_first : (last first : Refusal) → tells_fault (Some (worse last first)) ≡ false → worse last first ≡ first
quiet_first last first quiet = at (tells_fault (Some last) && not (tells_failed_write (Some first))) refl quiet
  where
    at : (b : Bool) → (tells_fault (Some last) && not (tells_failed_write (Some first))) ≡ b
        → tells_fault (Some (if b then last else first)) ≡ false → (if b then last else first) ≡ first
    at true is none = absurd (false≢true (sym none ∙ (and_parts _ _ is).0))
    at false is none = refl

-- one refusal more is told, or not
pub told_also : {R P : Type 0} (m : Means R P) (start old new : R) (before : List Refusal) (refusal : Refusal)
    → Accounts m start old (told_of before) → tells_fault (told_of before) ≡ false
    → Accounts m old new (Some refusal) → Accounts m start new (told_of (before ++ refusal ∷ []))
told_also m start old new [] refusal first quiet second =
    at (tells_fault (Some refusal) && not (tells_failed_write (Some refusal)))
  where
    at : (b : Bool) → Accounts m start new (Some (if b then refusal else refusal))
    at true = account_after m start old new (Some refusal) first second
    at false = account_after m start old new (Some refusal) first second
told_also m start old new (x ∷ more) refusal first quiet second =
    subst (λ (last : Refusal). Accounts m start new (Some (worse last x))) (sym (last_is x more refusal))
    (subst (λ (w : Bool). Accounts m start new (Some (if tells_fault (Some refusal) && not w then refusal else x)))
    (sym (none_told failed_writes (Some x) quiet_x)) (at (tells_fault (Some refusal)) refl))
  where
    quiet_x : tells_fault (Some x) ≡ false
    quiet_x = subst (λ (r : Refusal). tells_fault (Some r) ≡ false) (quiet_first (last_of x more) x quiet) quiet

    at : (b : Bool) → tells_fault (Some refusal) ≡ b
        → Accounts m start new (Some (if b && not false then refusal else x))
    at true told = account_then m start old new (Some (worse (last_of x more) x)) (Some refusal) quiet first second
    at false told = account_first m start old new (Some x) (Some refusal) told
        (subst (λ (r : Refusal). Accounts m start old (Some r)) (quiet_first (last_of x more) x quiet) first) second

-- as long as the run goes on, no fault is told
pub told_none : (before : List Refusal) (refusal : Refusal) → tells_fault (told_of before) ≡ false
    → stops_run refusal ≡ false → tells_fault (told_of (before ++ refusal ∷ [])) ≡ false
told_none [] refusal quiet goes = at (tells_fault (Some refusal) && not (tells_failed_write (Some refusal)))
  where
    at : (b : Bool) → tells_fault (Some (if b then refusal else refusal)) ≡ false
    at true = run_goes_on refusal goes
    at false = run_goes_on refusal goes
told_none (x ∷ more) refusal quiet goes =
    subst (λ (last : Refusal). tells_fault (Some (worse last x)) ≡ false) (sym (last_is x more refusal))
    (at (tells_fault (Some refusal)) (run_goes_on refusal goes))
  where
    at : (b : Bool) → b ≡ false
        → tells_fault (Some (if b && not (tells_failed_write (Some x)) then refusal else x)) ≡ false
    at true is = absurd cc
    at false is = subst (λ (r : Refusal). tells_fault (Some r) ≡ false) (quiet_first (last_of x more) x quiet) quiet
