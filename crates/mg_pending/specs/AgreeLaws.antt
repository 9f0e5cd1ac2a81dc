-- Statements that agree one by one: one is found among them, taken out, or comes behind them.
use Rattle.std.specs.Prelude.{◌≡◌, ◌≢◌, ◌<◌, ◌+◌, ◌==◌, ◌&&◌, ℕ, zero, suc, Bool, true, false, not, List, [], ◌∷◌, ◌++◌, length, get_or, take, drop, Option, Some, None, refl, if◌then◌else◌}
use Rattle.std.specs.List.{list_any, remove}
use Rattle.std.specs.Option.{is_none}
use Rattle.std.proofs.Common.{◌||◌, sym, ap, ◌∙◌, subst, arith}
use Rattle.std.proofs.lemmas.Bool.{eqb-true, eq-eqb}
use Rattle.mg_base.specs.declared.numbers.TxNo.{TxNo}
use Rattle.mg_model.specs.declared.opening.Opening.{Opening}
use Rattle.mg_model.specs.Answers.{is_active}
use Rattle.mg_model.specs.History.{Entries}
use Rattle.mg_model.specs.Machine.{state_of}
use Rattle.mg_records.specs.Meaning.{Means}
use Rattle.mg_script.specs.declared.line.Session.{Session}
use Rattle.mg_transcript.specs.Sessions.{Unfinished, is_of_session, is_busy, is_over as is_over_after, all_stay, StandsAmong, Holds, IsFirstReleased}
use Rattle.mg_courses.specs.Running.{RunMeans}
use Rattle.mg_pending.specs.declared.pending.Pending.{Pending}
use Rattle.mg_pending.specs.declared.transactions.Transaction.{Transaction}
use Rattle.mg_pending.specs.Transactions.{number_at, has_number}
use Rattle.mg_pending.specs.Statements.{AreApart, IsFirstAt, PassesNowhere, has_statement, is_its, is_held_by, is_over, is_released}
use Rattle.mg_pending.specs.Standing.{Agree, IsOf, StandAt, CanGoOn, AllCanGoOn}

pub either_true : (a b : Bool) → (a || b) ≡ false → (a ≡ false) × (b ≡ false)
either_true true b is = absurd cc
either_true false b is = (refl, is)

both_false : (a b : Bool) → a ≡ false → b ≡ false → (a || b) ≡ false
both_false true b first second = absurd cc
both_false false b first second = second

both_are : (a b : Bool) → a ≡ true → b ≡ true → (a && b) ≡ true
both_are true b first second = second
both_are false b first second = absurd cc

-- what stands at a place, and what stands before and behind it
pub record SplitAt {R Run : Type 0} (runs : RunMeans R Run) (r : R) (o : Opening) (h : Entries)
    (ps : List (Pending Run)) (place : ℕ) (d : Pending Run) (us : List Unfinished) : Type 0 where
  pub before : List Unfinished
  pub one : Unfinished
  pub behind : List Unfinished
  pub are : us ≡ before ++ one ∷ behind
  pub of : IsOf runs r o h (get_or ps place d) one
  pub first : Agree runs r o h (take place ps) before
  pub rest : Agree runs r o h (remove ps place) (before ++ behind)

-- ---- the same tests

module _ {R Run : Type 0} (runs : RunMeans R Run) (r : R) (o : Opening) (h : Entries) where
  -- a session that has a statement by the one list has it by the other
  pub same_busy : (session : Session) (ps : List (Pending Run)) (us : List Unfinished)
      → Agree runs r o h ps us → is_busy session us ≡ has_statement session.0 ps
  same_busy session [] [] agree = refl
  same_busy session [] (u ∷ us) agree = absurd agree
  same_busy session (p ∷ ps) [] agree = absurd agree
  same_busy session (p ∷ ps) (u ∷ us) agree =
      ap (λ (b : Bool). (u.session.0 == session.0) || b) (same_busy session ps us agree.1)
      ∙ ap (λ (s : Session). (s.0 == session.0) || has_statement session.0 ps) (sym agree.0.session)

  -- ---- one of them

  pub split_at : (ps : List (Pending Run)) (place : ℕ) (d : Pending Run) (us : List Unfinished)
      → place < length ps → Agree runs r o h ps us → SplitAt runs r o h ps place d us
  split_at [] place d us inside agree = absurd (omega (arith, inside))
  split_at (p ∷ ps) place d [] inside agree = absurd agree
  split_at (p ∷ ps) zero d (u ∷ us) inside agree = record {
    before = [];
    one = u;
    behind = us;
    are = refl;
    of = agree.0;
    first = tt;
    rest = agree.1;
  }
  split_at (p ∷ ps) (suc place) d (u ∷ us) inside agree =
      let s = split_at ps place d us (omega (arith, inside)) agree.1 in
      record {
        before = u ∷ s.before;
        one = s.one;
        behind = s.behind;
        are = ap (λ (more : List Unfinished). u ∷ more) s.are;
        of = s.of;
        first = (agree.0, s.first);
        rest = (agree.0, s.rest);
      }

  -- one more comes behind them
  pub agree_more : (ps : List (Pending Run)) (us : List Unfinished) (p : Pending Run) (u : Unfinished)
      → Agree runs r o h ps us → IsOf runs r o h p u → Agree runs r o h (ps ++ p ∷ []) (us ++ u ∷ [])
  agree_more [] [] p u agree of = (of, tt)
  agree_more [] (v ∷ us) p u agree of = absurd agree
  agree_more (q ∷ ps) [] p u agree of = absurd agree
  agree_more (q ∷ ps) (v ∷ us) p u agree of = (agree.0, agree_more ps us p u agree.1 of)

-- ---- searches

passes_none : {A : Type 0} (test : A → Bool) (x : A) (xs : List A) → PassesNowhere test (x ∷ xs)
    → PassesNowhere test xs
passes_none test x xs none k d inside = none (suc k) d (omega (arith, inside))

not_before : {A : Type 0} (test : A → Bool) (xs : List A) (place : ℕ) → place < length xs
    → ((k : ℕ) (d : A) → k < place → test (get_or xs k d) ≡ false)
    → PassesNowhere test (take place xs)
not_before test [] place inside before k d within = absurd (omega (arith, inside))
not_before test (x ∷ xs) zero inside before k d within = absurd (omega (arith, within))
not_before test (x ∷ xs) (suc place) inside before zero d within = before 0 d (omega arith)
not_before test (x ∷ xs) (suc place) inside before (suc k) d within =
    not_before test xs place (omega (arith, inside))
    (λ j e below. before (suc j) e (omega (arith, below))) k d (omega (arith, within))

module _ {R P Run : Type 0} (m : Means R P) (runs : RunMeans R Run) (r : R) (o : Opening) (h : Entries)
    (all : List (Option Transaction)) where
  -- a transaction is over exactly where no session has it
  over_as : (on : Option TxNo) → ((t : ℕ) → is_active (state_of o h t) ≡ has_number all t)
      → is_over_after o h on ≡ is_over all on
  over_as None active = refl
  over_as (Some on) active = ap not (active on.0)

  none_over : (ps : List (Pending Run)) (us : List Unfinished)
      → ((t : ℕ) → is_active (state_of o h t) ≡ has_number all t) → Agree runs r o h ps us
      → PassesNowhere (is_released all) ps → list_any (λ u. is_over_after o h u.waits_on) us ≡ false
  none_over [] [] active agree none = refl
  none_over [] (u ∷ us) active agree none = absurd agree
  none_over (p ∷ ps) [] active agree none = absurd agree
  none_over (p ∷ ps) (u ∷ us) active agree none =
      let first : is_over_after o h u.waits_on ≡ false =
      over_as u.waits_on active ∙ ap (is_over all) (sym agree.0.waits_on) ∙ none 0 p (omega arith) in
      both_false (is_over_after o h u.waits_on) (list_any (λ v. is_over_after o h v.waits_on) us) first
      (none_over ps us active agree.1 (passes_none (is_released all) p ps none))

  -- where none is released, all stay
  pub all_wait : (ps : List (Pending Run)) (us : List Unfinished) → StandAt m runs r o h all ps us
      → PassesNowhere (is_released all) ps → all_stay o h us ≡ true
  all_wait ps us stand none = ap not (none_over ps us stand.active stand.agree none)

  -- the first one that is released is the first of those whose waiting is over
  pub first_is : (ps : List (Pending Run)) (us : List Unfinished) (place : ℕ) (d : Pending Run)
      → StandAt m runs r o h all ps us → (found : IsFirstAt (is_released all) ps place)
      → (s : SplitAt runs r o h ps place d us)
      → IsFirstReleased o h us s.one (s.before ++ s.behind)
  first_is ps us place d stand found s = record {
    among = record { before = s.before; behind = s.behind; are = s.are; left = refl };
    earlier = ap not (none_over (take place ps) s.before stand.active s.first
        (not_before (is_released all) ps place found.inside found.before));
    over = over_as s.one.waits_on stand.active ∙ ap (is_over all) (sym s.of.waits_on) ∙ found.passes d;
  }

both_true : (a b : Bool) → (a && b) ≡ true → (a ≡ true) × (b ≡ true)
both_true true true is = (refl, refl)
both_true true false is = absurd cc
both_true false b is = absurd cc

none_from : {A : Type 0} (on : Option A) → is_none on ≡ true → on ≡ None
none_from None is = refl
none_from (Some x) is = absurd cc

module _ {R Run : Type 0} (runs : RunMeans R Run) (r : R) (o : Opening) (h : Entries) where
  -- the one that a session holds
  pub holds_it : (ps : List (Pending Run)) (us : List Unfinished) (place : ℕ) (d : Pending Run)
      (session : Session) → IsFirstAt (is_held_by session.0) ps place
      → (s : SplitAt runs r o h ps place d us) → Holds us session s.one (s.before ++ s.behind)
  holds_it ps us place d session found s =
      let both = both_true ((get_or ps place d).session.0 == session.0) (is_none (get_or ps place d).waits_on)
      (found.passes d) in
      record {
        among = record { before = s.before; behind = s.behind; are = s.are; left = refl };
        its = sym s.of.session ∙ same (get_or ps place d).session session
            (eqb-true (get_or ps place d).session.0 session.0 both.0);
        held = sym s.of.waits_on ∙ none_from (get_or ps place d).waits_on both.1;
      }
    where
      same : (a b : Session) → a.0 ≡ b.0 → a ≡ b
      same a b is = ap (λ (n : ℕ). record { 0 = n }) is

  -- where none is held, it holds none
  pub holds_none : (ps : List (Pending Run)) (us : List Unfinished) (session : Session)
      → Agree runs r o h ps us → PassesNowhere (is_held_by session.0) ps → (u : Unfinished)
      (others : List Unfinished) → Holds us session u others → ⊥
  holds_none ps us session agree none u others holds =
      in_list ps us holds.among.before holds.among.behind u agree none holds.among.are
      (ap (λ (s : Session). s.0) holds.its) holds.held
    where
      in_list : (ps : List (Pending Run)) (us before behind : List Unfinished) (u : Unfinished)
          → Agree runs r o h ps us → PassesNowhere (is_held_by session.0) ps
          → us ≡ before ++ u ∷ behind → u.session.0 ≡ session.0 → u.waits_on ≡ None → ⊥
      in_list [] [] [] behind u agree none are its held = absurd cc
      in_list [] [] (v ∷ before) behind u agree none are its held = absurd cc
      in_list [] (w ∷ us) before behind u agree none are its held = agree
      in_list (p ∷ ps) [] before behind u agree none are its held = agree
      in_list (p ∷ ps) (w ∷ us) [] behind u agree none are its held =
          let same : w ≡ u = cc are in
          let session_is : p.session.0 ≡ session.0 =
          ap (λ (s : Session). s.0) agree.0.session ∙ ap (λ (x : Unfinished). x.session.0) same ∙ its in
          let waits_on_is : p.waits_on ≡ None =
          agree.0.waits_on ∙ ap (λ (x : Unfinished). x.waits_on) same ∙ held in
          let not = none 0 p (omega arith) in
          absurd (cc (
            not,
            both_are (p.session.0 == session.0) (is_none p.waits_on)
                (eq-eqb p.session.0 session.0 session_is) (ap is_none waits_on_is),
          ))
      in_list (p ∷ ps) (w ∷ us) (v ∷ before) behind u agree none are its held =
          let rest : us ≡ before ++ u ∷ behind = cc are in
          in_list ps us before behind u agree.1 (passes_none (is_held_by session.0) p ps none) rest its held

-- ---- one is taken out, or comes behind the others

module _ {Run : Type 0} where
  other_stays : (s : ℕ) (ps : List (Pending Run)) (place : ℕ) → has_statement s ps ≡ false
      → has_statement s (remove ps place) ≡ false
  other_stays s [] place none = ap (has_statement s) (nothing place)
    where
      nothing : (place : ℕ) → remove {X = Pending Run} [] place ≡ []
      nothing zero = refl
      nothing (suc k) = refl
  other_stays s (p ∷ ps) zero none = (either_true (is_its s p) (has_statement s ps) none).1
  other_stays s (p ∷ ps) (suc place) none =
      let parts = either_true (is_its s p) (has_statement s ps) none in
      both_false (is_its s p) (has_statement s (remove ps place)) parts.0 (other_stays s ps place parts.1)

  pub removed_apart : (ps : List (Pending Run)) (place : ℕ) → place < length ps → AreApart ps
      → AreApart (remove ps place)
  removed_apart [] place inside apart = absurd (omega (arith, inside))
  removed_apart (p ∷ ps) zero inside apart = apart.1
  removed_apart (p ∷ ps) (suc place) inside apart = (
    other_stays p.session.0 ps place apart.0,
    removed_apart ps place (omega (arith, inside)) apart.1,
  )

  -- its session has no other
  its_alone : (s : ℕ) (ps : List (Pending Run)) (place : ℕ) (d : Pending Run) → place < length ps
      → has_statement s ps ≡ false → (get_or ps place d).session.0 ≢ s
  its_alone s [] place d inside none = absurd (omega (arith, inside))
  its_alone s (p ∷ ps) zero d inside none = λ same. absurd (cc (
    (either_true (is_its s p) (has_statement s ps) none).0,
    eq-eqb p.session.0 s same,
  ))
  its_alone s (p ∷ ps) (suc place) d inside none = its_alone s ps place d (omega (arith, inside))
      (either_true (is_its s p) (has_statement s ps) none).1

  pub removed_alone : (ps : List (Pending Run)) (place : ℕ) (d : Pending Run) → place < length ps
      → AreApart ps → has_statement (get_or ps place d).session.0 (remove ps place) ≡ false
  removed_alone [] place d inside apart = absurd (omega (arith, inside))
  removed_alone (p ∷ ps) zero d inside apart = apart.0
  removed_alone (p ∷ ps) (suc place) d inside apart =
      let within : place < length ps = omega (arith, inside) in
      let not : (p.session.0 == (get_or ps place d).session.0) ≡ false =
      other (p.session.0) ((get_or ps place d).session.0) (its_alone p.session.0 ps place d within apart.0) in
      both_false (p.session.0 == (get_or ps place d).session.0)
      (has_statement (get_or ps place d).session.0 (remove ps place)) not
      (removed_alone ps place d within apart.1)
    where
      other : (a b : ℕ) → b ≢ a → (a == b) ≡ false
      other a b distinct = at (a == b) refl
        where
          at : (c : Bool) → (a == b) ≡ c → c ≡ false
          at true same = absurd (distinct (sym (eqb-true a b same)))
          at false same = refl

  still_apart : (s : ℕ) (ps : List (Pending Run)) (q : Pending Run) → has_statement s ps ≡ false
      → (q.session.0 == s) ≡ false → has_statement s (ps ++ q ∷ []) ≡ false
  still_apart s [] q none not = both_false (q.session.0 == s) false not refl
  still_apart s (p ∷ ps) q none not =
      let parts = either_true (is_its s p) (has_statement s ps) none in
      both_false (is_its s p) (has_statement s (ps ++ q ∷ [])) parts.0 (still_apart s ps q parts.1 not)

  pub more_apart : (ps : List (Pending Run)) (q : Pending Run) → AreApart ps
      → has_statement q.session.0 ps ≡ false → AreApart (ps ++ q ∷ [])
  more_apart [] q apart none = (refl, tt)
  more_apart (p ∷ ps) q apart none =
      let parts = either_true (is_its q.session.0 p) (has_statement q.session.0 ps) none in (
        still_apart p.session.0 ps q apart.0 (turned p.session.0 q.session.0 parts.0),
        more_apart ps q apart.1 parts.1,
      )
    where
      turned : (a b : ℕ) → (a == b) ≡ false → (b == a) ≡ false
      turned a b not = at (b == a) refl
        where
          at : (c : Bool) → (b == a) ≡ c → c ≡ false
          at true same = absurd (cc (not, eq-eqb a b (sym (eqb-true b a same))))
          at false same = refl

module _ {R P Run : Type 0} (m : Means R P) (runs : RunMeans R Run) (r : R)
    (all : List (Option Transaction)) where
  pub at_can : (ps : List (Pending Run)) (place : ℕ) (d : Pending Run) → place < length ps
      → AllCanGoOn m runs r all ps → CanGoOn m runs r all (get_or ps place d)
  at_can [] place d inside ready = absurd (omega (arith, inside))
  at_can (p ∷ ps) zero d inside ready = ready.0
  at_can (p ∷ ps) (suc place) d inside ready = at_can ps place d (omega (arith, inside)) ready.1

  pub removed_can : (ps : List (Pending Run)) (place : ℕ) → place < length ps
      → AllCanGoOn m runs r all ps → AllCanGoOn m runs r all (remove ps place)
  removed_can [] place inside ready = absurd (omega (arith, inside))
  removed_can (p ∷ ps) zero inside ready = ready.1
  removed_can (p ∷ ps) (suc place) inside ready =
      (ready.0, removed_can ps place (omega (arith, inside)) ready.1)

  pub more_can : (ps : List (Pending Run)) (q : Pending Run) → AllCanGoOn m runs r all ps
      → CanGoOn m runs r all q → AllCanGoOn m runs r all (ps ++ q ∷ [])
  more_can [] q ready can = (can, tt)
  more_can (p ∷ ps) q ready can = (ready.0, more_can ps q ready.1 can)
