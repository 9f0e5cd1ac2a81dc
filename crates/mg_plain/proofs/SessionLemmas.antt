-- Which sessions have a transaction, after calls of the plain machine.
use Rattle.std.proofs.Common.{◌≡◌, ℕ, ◌<◌, ◌==◌, Bool, true, false, List, [], ◌∷◌, length, Option, Some, None, Result, Ok, Err, refl, sym, ◌∙◌, ap, subst, cond, arith}
use Rattle.std.specs.Prelude.{IfOk, if◌then◌else◌}
use Rattle.std.proofs.lemmas.Bool.{eq-eqb, ne_eqb}
use Rattle.std.proofs.lemmas.List.{length-append}
use Rattle.mg_base.specs.declared.numbers.TxNo.{TxNo}
use Rattle.mg_base.specs.declared.transaction.TxState.TheVariants.{Active, Limbo, Dead, Committed}
use Rattle.mg_model.specs.declared.answer.Answer.{Answer}
use Rattle.mg_model.specs.declared.answer.Answer.TheVariants.{Fine, Tx, Rows, No}
use Rattle.mg_model.specs.declared.event.Event.{Event}
use Rattle.mg_model.specs.declared.event.Event.TheVariants.{Begin}
use Rattle.mg_model.specs.declared.event.Mode.{Mode}
use Rattle.mg_model.specs.declared.opening.Opening.{Opening}
use Rattle.mg_model.specs.declared.refusal.Refusal.{Refusal}
use Rattle.mg_model.specs.History.{Effect, Begins, Looks, Makes, Gives, Marks, Saves, TakesBack, Ends, Nothing, Entries, effect_with, transaction_of}
use Rattle.mg_records.specs.Sessions.{SessionsStay}
use Rattle.mg_plain.specs.declared.known.BegunBy.{BegunBy}
use Rattle.mg_plain.specs.declared.known.Known.{Known}
use Rattle.mg_plain.specs.declared.plain.Plain.{Plain}
use Rattle.mg_plain.specs.Keeping.{Grows, Keeping, StandsFor, kept_after, kept_by, known_of, noted_in, session_in, waits_by, with_known, with_session}
use Rattle.mg_plain.specs.Kept.{kept}
use Rattle.mg_plain.specs.Obeying.{IsDone, Obeys, ViewsStay, as_number, told_by}
use Rattle.mg_plain.specs.Records.{WorksFor, means}
use Rattle.mg_plain.proofs.AnsweredLemmas.{allowed, longer, noted_length}

-- ---- what is kept goes on

begun_kept : (k : Keeping) (eff : Effect) → (kept_by eff k).begun_by ≡ k.begun_by
begun_kept k (Begins u mode) = refl
begun_kept k (Looks u) = at (known_of k u).mode.snapshot
  where
    at : (b : Bool) → (cond b k (with_known k u
        (record (known_of k u) { base = length k.database; saw = length k.committed }))).begun_by ≡ k.begun_by
    at true = refl
    at false = refl
begun_kept k (Makes u table row) = refl
begun_kept k (Gives u table key row) = refl
begun_kept k (Marks u) = refl
begun_kept k (Saves u name) = refl
begun_kept k (TakesBack u point) = refl
begun_kept k (Ends u Active) = refl
begun_kept k (Ends u Limbo) = refl
begun_kept k (Ends u Dead) = refl
begun_kept k (Ends u Committed) = refl
begun_kept k Nothing = refl

begun_noted : (k : Keeping) (of : Option ℕ) (on : Option TxNo) → (noted_in of on k).begun_by ≡ k.begun_by
begun_noted k None on = refl
begun_noted k (Some u) on = refl

grows_noted : (k : Keeping) (of : Option ℕ) (on : Option TxNo) → Grows k (noted_in of on k)
grows_noted k of on = record {
  known = let same = noted_length k of on in omega (arith, same);
  begun_by = begun_noted k of on;
}

pub grows_none : (k : Keeping) → Grows k k
grows_none k = record { known = omega arith; begun_by = refl }

pub grows_same : {k new : Keeping} → new ≡ k → Grows k new
grows_same {k = k} same = subst (λ (n : Keeping). Grows k n) (sym same) (grows_none k)

pub grows_then : {k mid new : Keeping} → Grows k mid → Grows mid new → Grows k new
grows_then first second = record {
  known = let a = first.known in let b = second.known in omega (arith, a, b);
  begun_by = second.begun_by ∙ first.begun_by;
}

grows_by : (k : Keeping) (eff : Effect) → Grows k (kept_by eff k)
grows_by k eff = record { known = longer k eff; begun_by = begun_kept k eff }

grows_after : (e : Event) (a : Answer) (k : Keeping) → Grows k (kept_after e a k)
grows_after e a k = grows_then (grows_by k (effect_with e a))
    (grows_noted (kept_by (effect_with e a) k) (transaction_of e) (waits_by a))

-- after an event that was done
pub grows_done : {k mid new : Keeping} {e : Event} {result : Result (Unit {0}) Refusal} {who : Option ℕ}
    → Grows k mid → IsDone mid new e result who → Grows k new
grows_done {mid = mid} {e = e} grows done =
    grows_then grows (subst (λ (n : Keeping). Grows mid n) (sym done.obeys.kept_is) (grows_after e _ mid))

-- ---- sessions

pub sessions_grown : (old new : Plain) (ends : Option ℕ) → Grows (kept old) (kept new)
    → SessionsStay means old new None ends
sessions_grown old new ends grows = record {
  free = λ s other was. tt;
  works = λ t s other was. (
    let below = was.0 in let more = grows.known in omega (arith, below, more),
    ap (λ (noted : List BegunBy). session_in noted t) grows.begun_by ∙ was.1,
  );
  ended = λ t s over was. tt;
}

pub done_sessions : (old new : Plain) (e : Event) (result : Result (Unit {0}) Refusal) (who ends : Option ℕ)
    → IsDone (kept old) (kept new) e result who → SessionsStay means old new None ends
done_sessions old new e result who ends done =
    sessions_grown old new ends (grows_done (grows_none (kept old)) done)

pub noted_sessions : (old new : Plain) (of : Option ℕ) (on : Option TxNo) (ends : Option ℕ)
    → kept new ≡ noted_in of on (kept old) → SessionsStay means old new None ends
noted_sessions old new of on ends noted = sessions_grown old new ends
    (subst (λ (n : Keeping). Grows (kept old) n) (sym noted) (grows_noted (kept old) of on))

-- ---- a beginning

stands_with : (o : Opening) (h : Entries) (session : ℕ) (k : Keeping) → StandsFor o h k
    → StandsFor o h (with_session session k)
stands_with o h session k s = record {
  limit = s.limit;
  next = s.next;
  mode = s.mode;
  state = s.state;
  saw = s.saw;
  last_wait = s.last_wait;
  steps_are = s.steps_are;
  database_is = s.database_is;
  base = s.base;
  opened = s.opened;
  bases = s.bases;
  sights = s.sights;
  places = s.places;
  first = s.first;
}

-- what it stands for is the same where a session is noted, and what is seen
pub stands_seated : (o : Opening) (h : Entries) (session : ℕ) (k mid : Keeping) → mid ≡ with_session session k
    → StandsFor o h k → StandsFor o h mid
stands_seated o h session k mid noted s =
    subst (λ (n : Keeping). StandsFor o h n) (sym noted) (stands_with o h session k s)

pub views_seated : (session : ℕ) (k mid new : Keeping) (who : Option ℕ) → mid ≡ with_session session k
    → ViewsStay mid new who → ViewsStay k new who
views_seated session k mid new who noted views =
    subst (λ (n : Keeping). ViewsStay n new who) noted views

apart_from_next : (t next : ℕ) → t < next → (next == t) ≡ false
apart_from_next t next below = ne_eqb next t (λ same. omega (arith, same, below))

-- each number that was drawn stays that of its session
seated_works : (session : ℕ) (k : Keeping) (t s : ℕ) → WorksFor k t s → WorksFor (with_session session k) t s
seated_works session k t s was = (
  was.0,
  ap (λ (b : Bool). if b then Some session else session_in k.begun_by t) (apart_from_next t (length k.known) was.0)
      ∙ was.1,
)

grown_works : (k new : Keeping) (t s : ℕ) → Grows k new → WorksFor k t s → WorksFor new t s
grown_works k new t s grows was = (
  let below = was.0 in let more = grows.known in omega (arith, below, more),
  ap (λ (noted : List BegunBy). session_in noted t) grows.begun_by ∙ was.1,
)

pub begin_sessions : (old mid new : Plain) (session : ℕ) (mode : Mode) (given : Result Answer Refusal)
    (begins : Option ℕ) → kept mid ≡ with_session session (kept old)
    → Obeys (kept mid) (kept new) (Begin session mode) (told_by given) → SessionsStay means old new begins None
begin_sessions old mid new session mode given begins noted obeys = record {
  free = λ s other was. tt;
  works = λ t s other was. grown_works (kept mid) (kept new) t s
      (subst (λ (n : Keeping). Grows (kept mid) n) (sym obeys.kept_is)
      (grows_after (Begin session mode) (told_by given) (kept mid)))
      (subst (λ (n : Keeping). WorksFor n t s) (sym noted) (seated_works session (kept old) t s was));
  ended = λ t s over was. tt;
}

-- the number that is drawn is the session's
new_works : (session : ℕ) (mode : Mode) (k : Keeping) (t : ℕ) → t ≡ length k.known
    → WorksFor (kept_by (Begins t mode) (with_session session k)) t session
new_works session mode k t is = (
  (let more = length-append k.known (new_known ∷ []) in omega (arith, is, more)),
  ap (λ (b : Bool). if b then Some session else session_in k.begun_by t) (eq-eqb (length k.known) t (sym is)),
)
  where
    new_known : Known
    new_known = record {
      state = Active;
      mode = mode;
      base = length k.database;
      saw = length k.committed;
      place = 0;
      waits = None;
    }

pub begin_works : (old mid new : Plain) (session : ℕ) (mode : Mode) (given : Result Answer Refusal)
    → kept mid ≡ with_session session (kept old)
    → Obeys (kept mid) (kept new) (Begin session mode) (told_by given)
    → IfOk (as_number given) (λ t. means.works new t.0 session)
begin_works old mid new session mode (Ok Fine) noted obeys = tt
begin_works old mid new session mode (Ok (Tx t)) noted obeys =
    subst (λ (n : Keeping). WorksFor n t.0 session) (sym (obeys.kept_is
    ∙ ap (λ (k : Keeping). kept_after (Begin session mode) (Tx t) k) noted))
    (new_works session mode (kept old) t.0 (allowed (kept mid) (Begin session mode) (Tx t) obeys.is
    ∙ ap (λ (k : Keeping). length k.known) noted))
begin_works old mid new session mode (Ok (Rows rows)) noted obeys = tt
begin_works old mid new session mode (Ok (No refusal)) noted obeys = tt
begin_works old mid new session mode (Err refusal) noted obeys = tt
