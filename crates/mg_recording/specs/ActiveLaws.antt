-- What events make of the numbers of the active transactions.
use Rattle.std.proofs.Common.{◌≡◌, ◌==◌, ◌||◌, ◌&&◌, ℕ, Bool, true, false, not, List, [], ◌∷◌, ◌++◌, Result, Ok, Err, if◌then◌else◌, refl, sym, ap, ◌∙◌, subst}
use Rattle.std.proofs.lemmas.Bool.{eqb-true}
use Rattle.mg_base.specs.declared.numbers.TxNo.{TxNo}
use Rattle.mg_base.specs.declared.transaction.TxState.{TxState}
use Rattle.mg_base.specs.declared.transaction.TxState.TheVariants.{Active, Dead, Committed}
use Rattle.mg_model.specs.declared.answer.Answer.{Answer}
use Rattle.mg_model.specs.declared.answer.Answer.TheVariants.{Fine, Tx}
use Rattle.mg_model.specs.declared.event.Event.{Event}
use Rattle.mg_model.specs.declared.event.Event.TheVariants as events
use Rattle.mg_model.specs.declared.event.Mode.{Mode}
use Rattle.mg_model.specs.declared.opening.Opening.{Opening}
use Rattle.mg_model.specs.declared.refusal.Refusal.{Refusal}
use Rattle.mg_model.specs.Answers.{is_active}
use Rattle.mg_model.specs.History.{Effect, Begins, Looks, Makes, Gives, Marks, Saves, TakesBack, Ends, Nothing, Entries, deed_of, effect_with, entry}
use Rattle.mg_model.specs.Machine.{state_after, state_of}
use Rattle.mg_records.specs.Adding.{fine_or}
use Rattle.mg_records.specs.Writing.{event_of}
use Rattle.mg_records.specs.declared.write.Write.{Write}
use Rattle.mg_records.specs.declared.write.Write.TheVariants as writes
use Rattle.mg_recording.specs.Active.{AreActive, is_among, without}

-- ---- numbers

or_swapped : (a b c : Bool) → (a || (b || c)) ≡ (b || (a || c))
or_swapped true true c = refl
or_swapped true false c = refl
or_swapped false true c = refl
or_swapped false false c = refl

-- a number that was added behind
among_more : (u t : ℕ) (us : List ℕ) → is_among u (us ++ t ∷ []) ≡ ((t == u) || is_among u us)
among_more u t [] = refl
among_more u t (n ∷ us) =
    ap (λ (b : Bool). (n == u) || b) (among_more u t us) ∙ or_swapped (n == u) (t == u) (is_among u us)

not_both : (b : Bool) → (not b && false) ≡ false
not_both true = refl
not_both false = refl

same_left : (a b : Bool) → (not a && b) ≡ (not a && (a || b))
same_left true b = refl
same_left false b = refl

-- the test of a number that stays, where it is another one than the one that goes
other_left : (n t u : ℕ) (b : Bool) → (n == t) ≡ false → ((n == u) || (not (t == u) && b)) ≡ (not (t == u) && ((n == u) || b))
other_left n t u b apart = at (t == u) refl
  where
    at : (is : Bool) → (t == u) ≡ is → ((n == u) || (not is && b)) ≡ (not is && ((n == u) || b))
    at true is =
        let no : (n == u) ≡ false = subst (λ (k : ℕ). (n == k) ≡ false) (eqb-true t u is) apart in
        ap (λ (x : Bool). x || false) no
    at false is = refl

-- a number that was taken out
among_without : (u t : ℕ) (us : List ℕ) → is_among u (without t us) ≡ (not (t == u) && is_among u us)
among_without u t [] = sym (not_both (t == u))
among_without u t (n ∷ us) = at (n == t) refl (among_without u t us)
  where
    at : (is : Bool) → (n == t) ≡ is → is_among u (without t us) ≡ (not (t == u) && is_among u us)
        → is_among u (if not is then n ∷ without t us else without t us) ≡ (not (t == u) && ((n == u) || is_among u us))
    at true is before =
        before ∙ same_left (t == u) (is_among u us)
        ∙ ap (λ (k : ℕ). not (t == u) && ((k == u) || is_among u us)) (sym (eqb-true n t is))
    at false is before =
        ap (λ (b : Bool). (n == u) || b) before ∙ other_left n t u (is_among u us) is

-- ---- states

begun_is : (b : Bool) (s : TxState) → is_active (if b then Active else s) ≡ (b || is_active s)
begun_is true s = refl
begun_is false s = refl

ended_is : (b : Bool) (s end : TxState) → is_active end ≡ false → is_active (if b then end else s) ≡ (not b && is_active s)
ended_is true s end over = over
ended_is false s end over = refl

-- a transaction begins
pub active_begun : (active : List ℕ) (o : Opening) (h : Entries) (session : ℕ) (mode : Mode) (t : TxNo)
    → AreActive active o h → AreActive (active ++ t.0 ∷ []) o (entry (events.Begin session mode) (Tx t) ∷ h)
active_begun active o h session mode t are = λ u.
    begun_is (t.0 == u) (state_of o h u) ∙ ap (λ (b : Bool). (t.0 == u) || b) (are u)
    ∙ sym (among_more u t.0 active)

-- one is committed, or rolled back
pub active_committed : (active : List ℕ) (o : Opening) (h : Entries) (t : TxNo) → AreActive active o h
    → AreActive (without t.0 active) o (entry (events.Commit t) Fine ∷ h)
active_committed active o h t are = λ u.
    ended_is (t.0 == u) (state_of o h u) Committed refl ∙ ap (λ (b : Bool). not (t.0 == u) && b) (are u)
    ∙ sym (among_without u t.0 active)

pub active_rolled_back : (active : List ℕ) (o : Opening) (h : Entries) (t : TxNo) → AreActive active o h
    → AreActive (without t.0 active) o (entry (events.Rollback t) Fine ∷ h)
active_rolled_back active o h t are = λ u.
    ended_is (t.0 == u) (state_of o h u) Dead refl ∙ ap (λ (b : Bool). not (t.0 == u) && b) (are u)
    ∙ sym (among_without u t.0 active)

-- ---- events that begin and end none

abbrev pub keeps_states : Effect → Bool
keeps_states (Begins t mode) = false
keeps_states (Ends t end) = false
keeps_states (Looks t) = true
keeps_states (Makes t table row) = true
keeps_states (Gives t table key row) = true
keeps_states (Marks t) = true
keeps_states (Saves t name) = true
keeps_states (TakesBack t point) = true
keeps_states Nothing = true

state_kept : (f : Effect) (u : ℕ) (s : TxState) → keeps_states f ≡ true → state_after f u s ≡ s
state_kept (Begins t mode) u s keeps = absurd cc
state_kept (Ends t end) u s keeps = absurd cc
state_kept (Looks t) u s keeps = refl
state_kept (Makes t table row) u s keeps = refl
state_kept (Gives t table key row) u s keeps = refl
state_kept (Marks t) u s keeps = refl
state_kept (Saves t name) u s keeps = refl
state_kept (TakesBack t point) u s keeps = refl
state_kept Nothing u s keeps = refl

pub active_kept : (active : List ℕ) (o : Opening) (h : Entries) (event : Event) (answer : Answer)
    → keeps_states (effect_with event answer) ≡ true → AreActive active o h
    → AreActive active o (entry event answer ∷ h)
active_kept active o h event answer keeps are = λ u.
    ap is_active (state_kept (effect_with event answer) u (state_of o h u) keeps) ∙ are u

-- an event that does so where it takes effect does so whatever it is answered
pub kept_or : (event : Event) (done : Result (Unit {0}) Refusal) → keeps_states (deed_of event) ≡ true
    → keeps_states (effect_with event (fine_or done)) ≡ true
kept_or event (Ok x) keeps = keeps
kept_or event (Err refusal) keeps = refl

pub write_keeps : (t : TxNo) (table : List ℕ) (write : Write) → keeps_states (deed_of (event_of t table write)) ≡ true
write_keeps t table (writes.Insert row) = refl
write_keeps t table (writes.Change key row) = refl
write_keeps t table (writes.Erase key) = refl
