-- It holds at the beginning, and each step keeps it.
use Rattle.std.proofs.Common.{◌≡◌, ◌≢◌, ◌==◌, ◌||◌, ℕ, zero, suc, ◌<◌, ◌≤◌, Bool, true, false, List, [], ◌∷◌, ◌++◌, Some, None, get_or, length, replicate, set, if◌then◌else◌, refl, sym, ap, ◌∙◌, subst, arith}
use Rattle.std.specs.List.{slice_get}
use Rattle.std.proofs.lemmas.Bool.{eqb-true, eq-eqb, true≢false}
use Rattle.std.proofs.lemmas.List.{get_or-set_other, get_or-set_same, length-replicate, length-set}
use Rattle.std.proofs.lemmas.List.Folds.{list_any-append}
use Rattle.std.proofs.lemmas.Option.{slice_get_within}
use Rattle.mg_base.specs.declared.numbers.TxNo.{TxNo}
use Rattle.mg_script.specs.declared.line.Line.{Line}
use Rattle.mg_script.specs.declared.line.Session.{Session}
use Rattle.mg_transcript.specs.Courses.{Comes, Later, Parks, Ends}
use Rattle.mg_transcript.specs.Sessions.{StandsAmong, Unfinished, is_busy, is_of_session, unfinished}
use Rattle.mg_interleavings.specs.Keeping.{AreBegun, Keeps, Says, none_begun, one_begun, said_of, speaks}
use Rattle.mg_interleavings.specs.declared.answered.Answered.{Answered}
use Rattle.mg_interleavings.specs.declared.answered.Answered.TheVariants.{Replied}
use Rattle.mg_interleavings.specs.Standings.{Scripts, Standing, answered, answers_of, at_start, came_to, passed, place_of, script_of, with_pending}

-- ---- lists

same_of_replicate : {A : Type 0} (n s : ℕ) (a : A) → get_or (replicate n a) s a ≡ a
same_of_replicate zero s a = refl
same_of_replicate (suc n) zero a = refl
same_of_replicate (suc n) (suc s) a = same_of_replicate n s a

-- a script with a line is there
script_there : (scripts : Scripts) (s place : ℕ) (line : Line) → slice_get (script_of scripts s) place ≡ Some line
    → s < length scripts
script_there [] s place line is = absurd cc
script_there (lines ∷ scripts) zero place line is = omega arith
script_there (lines ∷ scripts) (suc s) place line is =
    let rest : s < length scripts = script_there scripts s place line is in omega (arith, rest)

both_counted : (a b : Bool) (n m : ℕ) → m ≡ (if b then suc n else n)
    → (if a then suc m else m) ≡ (if b then suc (if a then suc n else n) else (if a then suc n else n))
both_counted true true n m is = ap suc is
both_counted true false n m is = ap suc is
both_counted false true n m is = is
both_counted false false n m is = is

one_longer : {A : Type 0} (xs : List A) (x : A) → length (xs ++ x ∷ []) ≡ suc (length xs)
one_longer [] x = refl
one_longer (y ∷ xs) x = ap suc (one_longer xs x)

-- one line more
said_next : (lines : List Line) (place : ℕ) (line : Line) → slice_get lines place ≡ Some line
    → said_of lines (suc place) ≡ (if speaks line.kind then suc (said_of lines place) else said_of lines place)
said_next [] place line is = absurd cc
said_next (l ∷ lines) zero line is =
    let same : l ≡ line = cc is in ap (λ (x : Line). if speaks x.kind then suc 0 else 0) same
said_next (l ∷ lines) (suc place) line is =
    both_counted (speaks l.kind) (speaks line.kind) (said_of lines place) (said_of lines (suc place))
    (said_next lines place line is)

-- ---- who has begun

differ : (a b : ℕ) → (a == b) ≡ false → a ≢ b
differ a b apart is = absurd (true≢false (sym (eq-eqb a b is) ∙ apart))

pub apart_turned : (a b : ℕ) → (a == b) ≡ false → (b == a) ≡ false
apart_turned a b apart = at (b == a) refl
  where
    at : (is : Bool) → (b == a) ≡ is → is ≡ false
    at true is = absurd (differ a b apart (sym (eqb-true b a is)))
    at false is = refl

pub neither : (a b : Bool) → (a || b) ≡ false → (a ≡ false) × (b ≡ false)
neither true b is = absurd cc
neither false b is = (refl, is)

or_false : (a b : Bool) → a ≡ false → b ≡ false → (a || b) ≡ false
or_false a b x y = ap (λ (c : Bool). c || b) x ∙ y

-- a session that has none of these has none of a part of them
busy_parts : (session : Session) (before : List Unfinished) (u : Unfinished) (behind : List Unfinished)
    → is_busy session (before ++ u ∷ behind) ≡ false
    → ((u.session.0 == session.0) ≡ false) × (is_busy session (before ++ behind) ≡ false)
busy_parts session before u behind free =
    let split = list_any-append (is_of_session session) before (u ∷ behind) in
    let parts = neither (is_busy session before) (is_busy session (u ∷ behind)) (sym split ∙ free) in
    let ends = neither (is_of_session session u) (is_busy session behind) parts.1 in (
      ends.0,
      list_any-append (is_of_session session) before behind
          ∙ or_false (is_busy session before) (is_busy session behind) parts.0 ends.1,
    )

busy_more : (session : Session) (us : List Unfinished) (u : Unfinished) → is_busy session us ≡ false
    → (u.session.0 == session.0) ≡ false → is_busy session (us ++ u ∷ []) ≡ false
busy_more session us u free apart =
    list_any-append (is_of_session session) us (u ∷ [])
    ∙ or_false (is_busy session us) (is_busy session (u ∷ [])) free
    (or_false (is_of_session session u) false apart refl)

-- one that stood among others, and these
pub record IsTaken (scripts : Scripts) (places : List ℕ) (u : Unfinished) (others : List Unfinished) : Type 0 where
  pub says : Says (script_of scripts u.session.0) (get_or places u.session.0 0)
  pub free : is_busy u.session others ≡ false
  pub rest : AreBegun scripts places others

taken_of : (scripts : Scripts) (places : List ℕ) (before : List Unfinished) (u : Unfinished) (behind : List Unfinished)
    → AreBegun scripts places (before ++ u ∷ behind) → IsTaken scripts places u (before ++ behind)
taken_of scripts places [] u behind (one_begun _ _ says free rest) = record { says = says; free = free; rest = rest }
taken_of scripts places (v ∷ before) u behind (one_begun _ _ says free rest) =
    let more = taken_of scripts places before u behind rest in
    let parts = busy_parts v.session before u behind free in
    record {
      says = more.says;
      free = or_false (is_of_session u.session v) (is_busy u.session (before ++ behind))
          (apart_turned u.session.0 v.session.0 parts.0) more.free;
      rest = one_begun v (before ++ behind) says parts.1 more.rest;
    }

pub taken_among : (scripts : Scripts) (places : List ℕ) (pending : List Unfinished) (u : Unfinished)
    (others : List Unfinished) → StandsAmong pending u others → AreBegun scripts places pending
    → IsTaken scripts places u others
taken_among scripts places pending u others among begun =
    subst (λ (us : List Unfinished). IsTaken scripts places u us) (sym among.left)
    (taken_of scripts places among.before u among.behind
    (subst (λ (us : List Unfinished). AreBegun scripts places us) among.are begun))

begun_kept : (scripts : Scripts) (places : List ℕ) (us : List Unfinished) (u : Unfinished)
    → Says (script_of scripts u.session.0) (get_or places u.session.0 0) → is_busy u.session us ≡ false
    → AreBegun scripts places us → AreBegun scripts places (us ++ u ∷ [])
begun_kept scripts places [] u says free none_begun = one_begun u [] says refl none_begun
begun_kept scripts places (v ∷ us) u says free (one_begun _ _ its apart rest) =
    let parts = neither (is_of_session u.session v) (is_busy u.session us) free in
    one_begun v (us ++ u ∷ []) its
    (busy_more v.session us u apart (apart_turned v.session.0 u.session.0 parts.0))
    (begun_kept scripts places us u says parts.1 rest)

begun_moved : (scripts : Scripts) (places : List ℕ) (us : List Unfinished) (session : Session) (place : ℕ)
    → is_busy session us ≡ false → AreBegun scripts places us → AreBegun scripts (set places session.0 place) us
begun_moved scripts places [] session place free none_begun = none_begun
begun_moved scripts places (v ∷ us) session place free (one_begun _ _ says apart rest) =
    let parts = neither (is_of_session session v) (is_busy session us) free in
    let same : get_or (set places session.0 place) v.session.0 0 ≡ get_or places v.session.0 0 =
    get_or-set_other places session.0 v.session.0 place 0 (differ v.session.0 session.0 parts.0) in
    one_begun v us (subst (λ (n : ℕ). Says (script_of scripts v.session.0) n) (sym same) says) apart
    (begun_moved scripts places us session place parts.1 rest)

-- ---- the beginning

pub keeps_start : (scripts : Scripts) → Keeps scripts (at_start scripts)
keeps_start scripts = record {
  places_long = length-replicate (length scripts) 0;
  answers_long = length-replicate (length scripts) [];
  within = λ s. subst (λ (n : ℕ). n ≤ length (script_of scripts s)) (sym (same_of_replicate (length scripts) s 0))
      (omega arith);
  each = λ s. ap length (same_of_replicate (length scripts) s [])
      ∙ sym (ap (said_of (script_of scripts s)) (same_of_replicate (length scripts) s 0));
  begun = none_begun;
}

-- ---- a line is passed

module _ (scripts : Scripts) (standing : Standing) (keeps : Keeps scripts standing) (session : Session) (line : Line)
    (next : slice_get (script_of scripts session.0) (place_of standing session.0) ≡ Some line) where
  within_list : session.0 < length standing.places
  within_list = subst (λ (n : ℕ). session.0 < n) (sym keeps.places_long)
      (script_there scripts session.0 (place_of standing session.0) line next)

  within_answers : session.0 < length standing.answers
  within_answers = subst (λ (n : ℕ). session.0 < n) (sym keeps.answers_long)
      (script_there scripts session.0 (place_of standing session.0) line next)

  moved_within : (s : ℕ) → get_or (set standing.places session.0 (suc (place_of standing session.0))) s 0
      ≤ length (script_of scripts s)
  moved_within s = at (s == session.0) refl
    where
      at : (is : Bool) → (s == session.0) ≡ is
          → get_or (set standing.places session.0 (suc (place_of standing session.0))) s 0 ≤ length (script_of scripts s)
      at true is =
          subst (λ (k : ℕ). get_or (set standing.places session.0 (suc (place_of standing session.0))) k 0
          ≤ length (script_of scripts k)) (sym (eqb-true s session.0 is))
          (subst (λ (n : ℕ). n ≤ length (script_of scripts session.0))
          (sym (get_or-set_same standing.places session.0 (suc (place_of standing session.0)) 0 within_list))
          (let inside : place_of standing session.0 < length (script_of scripts session.0) =
          slice_get_within (script_of scripts session.0) (place_of standing session.0) line next in omega (arith, inside)))
      at false is =
          subst (λ (n : ℕ). n ≤ length (script_of scripts s))
          (sym (get_or-set_other standing.places session.0 s (suc (place_of standing session.0)) 0
          (differ s session.0 is))) (keeps.within s)

  -- a line that prints nothing
  pub keeps_passed : speaks line.kind ≡ false → is_busy session standing.pending ≡ false
      → Keeps scripts (passed standing session)
  keeps_passed silent free = record {
    places_long = length-set standing.places session.0 (suc (place_of standing session.0)) ∙ keeps.places_long;
    answers_long = keeps.answers_long;
    within = moved_within;
    each = λ s. at s (s == session.0) refl;
    begun = begun_moved scripts standing.places standing.pending session (suc (place_of standing session.0)) free
        keeps.begun;
  }
    where
      at : (s : ℕ) (is : Bool) → (s == session.0) ≡ is → length (get_or standing.answers s [])
          ≡ said_of (script_of scripts s) (get_or (set standing.places session.0 (suc (place_of standing session.0))) s 0)
      at s true is =
          subst (λ (k : ℕ). length (get_or standing.answers k [])
          ≡ said_of (script_of scripts k) (get_or (set standing.places session.0 (suc (place_of standing session.0))) k 0))
          (sym (eqb-true s session.0 is))
          (keeps.each session.0
          ∙ sym (ap (said_of (script_of scripts session.0))
          (get_or-set_same standing.places session.0 (suc (place_of standing session.0)) 0 within_list)
          ∙ said_next (script_of scripts session.0) (place_of standing session.0) line next
          ∙ ap (λ (b : Bool). if b then suc (said_of (script_of scripts session.0) (place_of standing session.0))
          else said_of (script_of scripts session.0) (place_of standing session.0)) silent))
      at s false is =
          keeps.each s
          ∙ sym (ap (said_of (script_of scripts s))
          (get_or-set_other standing.places session.0 s (suc (place_of standing session.0)) 0 (differ s session.0 is)))

  -- a statement is answered; the others are as they were
  pub keeps_answered : (others : List Unfinished) (answer : Answered) → speaks line.kind ≡ true
      → is_busy session others ≡ false → AreBegun scripts standing.places others
      → Keeps scripts (answered (with_pending standing others) session answer)
  keeps_answered others answer said free begun = record {
    places_long = length-set standing.places session.0 (suc (place_of standing session.0)) ∙ keeps.places_long;
    answers_long = length-set standing.answers session.0 (answers_of standing session.0 ++ answer ∷ [])
        ∙ keeps.answers_long;
    within = moved_within;
    each = λ s. at s (s == session.0) refl;
    begun = begun_moved scripts standing.places others session (suc (place_of standing session.0)) free begun;
  }
    where
      at : (s : ℕ) (is : Bool) → (s == session.0) ≡ is
          → length (get_or (set standing.answers session.0 (answers_of standing session.0 ++ answer ∷ [])) s [])
          ≡ said_of (script_of scripts s) (get_or (set standing.places session.0 (suc (place_of standing session.0))) s 0)
      at s true is =
          subst (λ (k : ℕ). length (get_or (set standing.answers session.0 (answers_of standing session.0 ++ answer ∷ [])) k [])
          ≡ said_of (script_of scripts k) (get_or (set standing.places session.0 (suc (place_of standing session.0))) k 0))
          (sym (eqb-true s session.0 is))
          (ap length (get_or-set_same standing.answers session.0 (answers_of standing session.0 ++ answer ∷ []) []
          within_answers)
          ∙ one_longer (answers_of standing session.0) answer ∙ ap suc (keeps.each session.0)
          ∙ sym (ap (said_of (script_of scripts session.0))
          (get_or-set_same standing.places session.0 (suc (place_of standing session.0)) 0 within_list)
          ∙ said_next (script_of scripts session.0) (place_of standing session.0) line next
          ∙ ap (λ (b : Bool). if b then suc (said_of (script_of scripts session.0) (place_of standing session.0))
          else said_of (script_of scripts session.0) (place_of standing session.0)) said))
      at s false is =
          ap length (get_or-set_other standing.answers session.0 s (answers_of standing session.0 ++ answer ∷ []) []
          (differ s session.0 is))
          ∙ keeps.each s
          ∙ sym (ap (said_of (script_of scripts s))
          (get_or-set_other standing.places session.0 s (suc (place_of standing session.0)) 0 (differ s session.0 is)))

-- ---- a statement begins, or takes a step

-- it goes on later, or is answered
pub keeps_come : (scripts : Scripts) (standing : Standing) (others : List Unfinished) (session : Session) (t : TxNo)
    (comes : Comes) → Keeps scripts standing
    → Says (script_of scripts session.0) (place_of standing session.0) → is_busy session others ≡ false
    → AreBegun scripts standing.places others → Keeps scripts (came_to standing others session t comes)
keeps_come scripts standing others session t (Later course) keeps says free begun = record {
  places_long = keeps.places_long;
  answers_long = keeps.answers_long;
  within = keeps.within;
  each = keeps.each;
  begun = begun_kept scripts standing.places others (unfinished session t course None) says free begun;
}
keeps_come scripts standing others session t (Parks on course) keeps says free begun = record {
  places_long = keeps.places_long;
  answers_long = keeps.answers_long;
  within = keeps.within;
  each = keeps.each;
  begun = begun_kept scripts standing.places others (unfinished session t course (Some on)) says free begun;
}
keeps_come scripts standing others session t (Ends reply) keeps says free begun =
    keeps_answered scripts standing keeps session says.line says.next others (Replied reply) says.said free begun
