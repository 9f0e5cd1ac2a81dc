-- A transaction is rolled back, and the sessions one after another.
use Rattle.std.proofs.Common.{◌≡◌, ◌<◌, ◌+◌, ◌-◌, arith, ℕ, suc, Bool, true, false, List, [], ◌∷◌, ◌++◌, Option, None, Some, refl, sym, ap, ◌∙◌, subst}
use Rattle.std.specs.Prelude.{set}
use Rattle.std.proofs.lemmas.Bool.{eq-eqb}
use Rattle.mg_base.specs.declared.numbers.TxNo.{TxNo}
use Rattle.mg_model.specs.declared.answer.Answer.TheVariants.{Fine, No}
use Rattle.mg_model.specs.declared.event.Event.TheVariants.{Rollback}
use Rattle.mg_model.specs.declared.opening.Opening.{Opening}
use Rattle.mg_model.specs.declared.refusal.Refusal.{Refusal}
use Rattle.mg_model.specs.Answers.{is_active}
use Rattle.mg_model.specs.History.{Entries, entry}
use Rattle.mg_records.specs.Adding.{Adds}
use Rattle.mg_records.specs.Crashing.{CrashesHold, HoldsOn, LeavesQuietly}
use Rattle.mg_records.specs.Keeping.{FaultsAreTold, Leaves, MeetsNoDamage}
use Rattle.mg_records.specs.Meaning.{Means}
use Rattle.mg_records.specs.Sessions.{SessionsAreOne, SessionsStay}
use Rattle.mg_calls.specs.FrameLaws.{frames_changes}
use Rattle.mg_transcript.specs.Growing.{as_it_was, by_one}
use Rattle.mg_transcript.specs.Scripts.{AreRolledBack, all_are, has_none, is_refused, is_rolled_back, is_stopped}
use Rattle.mg_transcript.specs.Shorthand.{stops_run}
use Rattle.mg_courses.specs.BesideLaws.{WorksStayAt, WorksStayReady}
use Rattle.mg_courses.specs.CarryLaws.{carries_event, carries_none, carries_then}
use Rattle.mg_courses.specs.Running.{RunMeans}
use Rattle.mg_pending.specs.declared.transactions.Transaction.{Transaction}
use Rattle.mg_pending.specs.Standing.{AreReady, StandAt}
use Rattle.mg_pending.specs.StandingLaws.{live_is_active, others_ready, others_stand}
use Rattle.mg_pending.specs.Transactions.{number_at, number_in, transaction_at}
use Rattle.mg_script_ends.specs.Ends.{EndsSession, EndsSoFar, EndsWith, RestComes, StopsOrGoes, count_from, has_no, is_back, is_not}

-- ---- one session

module _ {R P Run : Type 0} (m : Means R P) (runs : RunMeans R Run) (one : SessionsAreOne m) (lasts : HoldsOn m)
    (old new : R) (s : ℕ) (t : TxNo) (all all' : List (Option Transaction))
    (ready : AreReady m runs old all []) (its : number_at all s ≡ Some t) where
  -- it is rolled back
  module _ (is : all' ≡ set all s None) (leaves : Leaves m old new None (Some t.0) (Some t.0))
      (told : FaultsAreTold m old new None) where
    pub back_ready : WorksStayReady m runs → SessionsStay m old new None (Some t.0) → AreReady m runs new all' []
    back_ready still stay = subst (λ (a : List (Option Transaction)). AreReady m runs new a []) (sym is)
        (others_ready m runs old new s t true all [] one ready its None (frames_changes m old new t.0 None leaves told)
        still stay refl)

    pub back_ends : WorksStayAt m runs → Adds m old new (Rollback t) Fine
        → MeetsNoDamage m old new → LeavesQuietly m old new
        → (o : Opening) (h : Entries) → StandAt m runs old o h all [] []
        → EndsWith m runs old new o h all' (λ after. EndsSession o h s after None)
    back_ends still adds undamaged crash o h stand =
        let made = adds o h stand.stands in record {
          after = entry (Rollback t) Fine ∷ h;
          does = is_back t (stand.its s ∙ its) made.0;
          stand = subst (λ (a : List (Option Transaction)). StandAt m runs new o (entry (Rollback t) Fine ∷ h) a [] [])
              (sym is) (others_stand m runs old new s t true all [] one ready its o h (entry (Rollback t) Fine ∷ h) []
              stand (by_one (entry (Rollback t) Fine) refl as_it_was) (rw (eq-eqb t.0 t.0 refl) refl) None
              (frames_changes m old new t.0 None leaves told) still made.1 (made.0, stand.legal) refl);
          carries = carries_event m lasts old new o h (entry (Rollback t) Fine) None refl stand.stands leaves.keeps
              undamaged crash;
        }

  -- that is refused
  module _ (refusal : Refusal) (same : all' ≡ all) (leaves : Leaves m old new (Some refusal) (Some t.0) (Some t.0))
      (told : FaultsAreTold m old new (Some refusal)) where
    pub not_ready : WorksStayReady m runs → SessionsStay m old new None None → AreReady m runs new all' []
    not_ready still stay = subst (λ (a : List (Option Transaction)). AreReady m runs new a []) (sym same)
        (others_ready m runs old new s t false all [] one ready its (Some refusal)
        (frames_changes m old new t.0 (Some refusal) leaves told) still stay refl)

    pub not_ends : WorksStayAt m runs → Adds m old new (Rollback t) (No refusal)
        → MeetsNoDamage m old new → LeavesQuietly m old new
        → (o : Opening) (h : Entries) → StandAt m runs old o h all [] []
        → EndsWith m runs old new o h all' (λ after. EndsSession o h s after (Some refusal))
    not_ends still adds undamaged crash o h stand =
        let made = adds o h stand.stands in record {
          after = entry (Rollback t) (No refusal) ∷ h;
          does = is_not t refusal (stand.its s ∙ its) made.0;
          stand = subst (λ (a : List (Option Transaction)). StandAt m runs new o
              (entry (Rollback t) (No refusal) ∷ h) a [] []) (sym same)
              (others_stand m runs old new s t false all [] one ready its o h (entry (Rollback t) (No refusal) ∷ h) []
              stand (by_one (entry (Rollback t) (No refusal)) refl as_it_was)
              (ap is_active (live_is_active m runs old o h all [] [] s t stand its)) (Some refusal)
              (frames_changes m old new t.0 (Some refusal) leaves told) still made.1 (made.0, stand.legal) refl);
          carries = carries_event m lasts old new o h (entry (Rollback t) (No refusal)) (Some refusal) refl
              stand.stands leaves.keeps undamaged crash;
        }

-- it has none
pub none_ends : {R P Run : Type 0} (m : Means R P) (runs : RunMeans R Run) → CrashesHold m → (r : R) (s : ℕ)
    (all : List (Option Transaction)) → transaction_at all s ≡ None → (o : Opening) (h : Entries)
    → StandAt m runs r o h all [] [] → EndsWith m runs r r o h all (λ after. EndsSession o h s after None)
none_ends m runs crashes r s all none o h stand = record {
  after = h;
  does = has_no (stand.its s ∙ ap number_in none);
  stand = stand;
  carries = carries_none m crashes r o h stand.stands;
}

-- ---- one session behind another

more_at_end : (before : List Refusal) (refusal : Refusal) (more : List Refusal)
    → (before ++ refusal ∷ []) ++ more ≡ before ++ refusal ∷ more
more_at_end [] refusal more = refl
more_at_end (x ∷ before) refusal more = ap (λ (xs : List Refusal). x ∷ xs) (more_at_end before refusal more)

pub none_refused : (o : Opening) (h mid : Entries) (whole rest : List ℕ) (s : ℕ) (before : List Refusal)
    → RestComes o h mid whole (s ∷ rest) before → {then_ : Entries} {x : Option Refusal}
    → EndsSession o mid s then_ x → x ≡ None → RestComes o h then_ whole rest before
none_refused o h mid whole rest s before comes (has_no none) is after more back = comes after more (has_none none back)
none_refused o h mid whole rest s before comes (is_back t its lawful) is after more back =
    comes after more (is_rolled_back t its lawful back)
none_refused o h mid whole rest s before comes (is_not t refusal its lawful) is after more back = absurd cc

pub one_refused : (o : Opening) (h mid : Entries) (whole rest : List ℕ) (s : ℕ) (before : List Refusal)
    → RestComes o h mid whole (s ∷ rest) before → (refusal : Refusal) → stops_run refusal ≡ false
    → {then_ : Entries} {x : Option Refusal} → EndsSession o mid s then_ x → x ≡ Some refusal
    → RestComes o h then_ whole rest (before ++ refusal ∷ [])
one_refused o h mid whole rest s before comes refusal flows (has_no none) is = absurd cc
one_refused o h mid whole rest s before comes refusal flows (is_back t its lawful) is = absurd cc
one_refused o h mid whole rest s before comes refusal flows (is_not t given its lawful) is =
    let same : given ≡ refusal = cc in
    λ after more back. subst (λ (xs : List Refusal). AreRolledBack o h whole after xs)
    (ap (λ (r : Refusal). before ++ r ∷ more) same ∙ sym (more_at_end before refusal more))
    (comes after (given ∷ more) (is_refused t given its lawful (ap stops_run same ∙ flows) back))

pub one_stops : (o : Opening) (h mid : Entries) (whole rest : List ℕ) (s : ℕ) (before : List Refusal)
    → RestComes o h mid whole (s ∷ rest) before → (refusal : Refusal) → stops_run refusal ≡ true
    → {then_ : Entries} {x : Option Refusal} → EndsSession o mid s then_ x → x ≡ Some refusal
    → AreRolledBack o h whole then_ (before ++ refusal ∷ [])
one_stops o h mid whole rest s before comes refusal stops (has_no none) is = absurd cc
one_stops o h mid whole rest s before comes refusal stops (is_back t its lawful) is = absurd cc
one_stops o h mid whole rest s before comes refusal stops (is_not t given its lawful) is =
    let same : given ≡ refusal = cc in
    subst (λ (xs : List Refusal). AreRolledBack o h whole (entry (Rollback t) (No given) ∷ mid) xs)
    (ap (λ (r : Refusal). before ++ r ∷ []) same)
    (comes (entry (Rollback t) (No given) ∷ mid) (given ∷ []) (is_stopped t given its lawful (ap stops_run same ∙ stops)))

-- the rest of the numbers begins with the next one
pub counts_on : (n k : ℕ) → n < k → count_from n (k - n) ≡ n ∷ count_from (n + 1) (k - (n + 1))
counts_on n k less = ap (count_from n) (let is : k - n ≡ suc (k - (n + 1)) = omega (arith, less) in is)

-- ---- all sessions

module _ {R P Run : Type 0} (m : Means R P) (runs : RunMeans R Run) where
  pub so_far_none : CrashesHold m → (r : R) (all : List (Option Transaction)) (whole : List ℕ)
      → EndsSoFar m runs r r all all whole whole []
  so_far_none crashes r all whole o h stand = record {
    after = h;
    does = λ after more back. back;
    stand = stand;
    carries = carries_none m crashes r o h stand.stands;
  }

  module _ (lasts : HoldsOn m) (old mid new : R) (all between all' : List (Option Transaction))
      (whole rest : List ℕ) (s : ℕ) (before : List Refusal)
      (first : EndsSoFar m runs old mid all between whole (s ∷ rest) before) (result : Option Refusal)
      (ends : (o : Opening) (h : Entries) → StandAt m runs mid o h between [] []
      → EndsWith m runs mid new o h all' (λ after. EndsSession o h s after result)) where
    pub so_far_none_refused : result ≡ None → EndsSoFar m runs old new all all' whole rest before
    so_far_none_refused is o h stand =
        let one = first o h stand in
        let two = ends o one.after one.stand in record {
          after = two.after;
          does = none_refused o h one.after whole rest s before one.does two.does is;
          stand = two.stand;
          carries = carries_then m lasts old mid new o h one.after two.after one.carries two.carries;
        }

    pub so_far_refused : (refusal : Refusal) → result ≡ Some refusal → stops_run refusal ≡ false
        → EndsSoFar m runs old new all all' whole rest (before ++ refusal ∷ [])
    so_far_refused refusal is flows o h stand =
        let one = first o h stand in
        let two = ends o one.after one.stand in record {
          after = two.after;
          does = one_refused o h one.after whole rest s before one.does refusal flows two.does is;
          stand = two.stand;
          carries = carries_then m lasts old mid new o h one.after two.after one.carries two.carries;
        }

    pub ends_stopped : (refusal : Refusal) → result ≡ Some refusal → stops_run refusal ≡ true → (o : Opening)
        (h : Entries) → StandAt m runs old o h all [] []
        → EndsWith m runs old new o h all' (λ after. AreRolledBack o h whole after (before ++ refusal ∷ []))
    ends_stopped refusal is stops o h stand =
        let one = first o h stand in
        let two = ends o one.after one.stand in record {
          after = two.after;
          does = one_stops o h one.after whole rest s before one.does refusal stops two.does is;
          stand = two.stand;
          carries = carries_then m lasts old mid new o h one.after two.after one.carries two.carries;
        }

    -- what one session comes to
    pub one_more : (refusal : Refusal) (b : Bool) → result ≡ Some refusal → stops_run refusal ≡ b
        → StopsOrGoes m runs old new all all' whole rest (before ++ refusal ∷ []) b
    one_more refusal true is stops = ends_stopped refusal is stops
    one_more refusal false is stops = so_far_refused refusal is stops

  -- none is left
  pub ends_whole : (old new : R) (all all' : List (Option Transaction)) (whole rest : List ℕ)
      (before : List Refusal) → rest ≡ [] → EndsSoFar m runs old new all all' whole rest before → (o : Opening)
      (h : Entries) → StandAt m runs old o h all [] []
      → EndsWith m runs old new o h all' (λ after. AreRolledBack o h whole after before)
  ends_whole old new all all' whole rest before none first o h stand =
      let one = first o h stand in record {
        after = one.after;
        does = subst (λ (xs : List Refusal). AreRolledBack o h whole one.after xs) (nothing_more before)
            (one.does one.after [] (subst (λ (ns : List ℕ). AreRolledBack o one.after ns one.after []) (sym none) all_are));
        stand = one.stand;
        carries = one.carries;
      }
    where
      nothing_more : (xs : List Refusal) → xs ++ [] ≡ xs
      nothing_more [] = refl
      nothing_more (x ∷ xs) = ap (λ (ys : List Refusal). x ∷ ys) (nothing_more xs)

  -- the rest of the numbers by an equation
  pub so_far_as : (old new : R) (all all' : List (Option Transaction)) (whole rest given : List ℕ)
      (before : List Refusal) → rest ≡ given → EndsSoFar m runs old new all all' whole rest before
      → EndsSoFar m runs old new all all' whole given before
  so_far_as old new all all' whole rest given before same first =
      subst (λ (ns : List ℕ). EndsSoFar m runs old new all all' whole ns before) same first

  -- the refusals by an equation
  pub so_far_to : (old new : R) (all all' : List (Option Transaction)) (whole rest : List ℕ)
      (before given : List Refusal) → given ≡ before → EndsSoFar m runs old new all all' whole rest before
      → EndsSoFar m runs old new all all' whole rest given
  so_far_to old new all all' whole rest before given same first =
      subst (λ (xs : List Refusal). EndsSoFar m runs old new all all' whole rest xs) (sym same) first

  pub stops_as : (old new : R) (all all' : List (Option Transaction)) (whole rest : List ℕ)
      (refusals given : List Refusal) (b c : Bool) → given ≡ refusals → c ≡ b
      → StopsOrGoes m runs old new all all' whole rest refusals b
      → StopsOrGoes m runs old new all all' whole rest given c
  stops_as old new all all' whole rest refusals given b c same_given same_end so =
      subst (λ (xs : List Refusal). StopsOrGoes m runs old new all all' whole rest xs c) (sym same_given)
      (subst (λ (x : Bool). StopsOrGoes m runs old new all all' whole rest refusals x) (sym same_end) so)
